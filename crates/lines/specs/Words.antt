-- The words of `planrun`'s text, byte by byte. Definitions only.
-- Assumes nothing.
use Rattle.std.specs.Prelude.{List, [], ◌∷◌, ℕ}

-- a single blank, and the newline with which every line ends
abbrev pub blank : ℕ
blank = 32

abbrev pub newline : ℕ
newline = 10

-- `plan ` and `refused `, with which a first line begins
abbrev pub plan_word : List ℕ
plan_word = 112 ∷ 108 ∷ 97 ∷ 110 ∷ 32 ∷ []

abbrev pub refused_word : List ℕ
refused_word = 114 ∷ 101 ∷ 102 ∷ 117 ∷ 115 ∷ 101 ∷ 100 ∷ 32 ∷ []

-- ` opened `, ` found `, ` wait `, ` fired ` and ` refused `, which stand behind a call's index
abbrev pub opened_word : List ℕ
opened_word = 32 ∷ 111 ∷ 112 ∷ 101 ∷ 110 ∷ 101 ∷ 100 ∷ 32 ∷ []

abbrev pub found_word : List ℕ
found_word = 32 ∷ 102 ∷ 111 ∷ 117 ∷ 110 ∷ 100 ∷ 32 ∷ []

abbrev pub wait_word : List ℕ
wait_word = 32 ∷ 119 ∷ 97 ∷ 105 ∷ 116 ∷ 32 ∷ []

abbrev pub fired_word : List ℕ
fired_word = 32 ∷ 102 ∷ 105 ∷ 114 ∷ 101 ∷ 100 ∷ 32 ∷ []

abbrev pub turned_down_word : List ℕ
turned_down_word = 32 ∷ 114 ∷ 101 ∷ 102 ∷ 117 ∷ 115 ∷ 101 ∷ 100 ∷ 32 ∷ []

-- the lines `cut` and `too long`
abbrev pub cut_line : List ℕ
cut_line = 99 ∷ 117 ∷ 116 ∷ 10 ∷ []

abbrev pub too_long_line : List ℕ
too_long_line = 116 ∷ 111 ∷ 111 ∷ 32 ∷ 108 ∷ 111 ∷ 110 ∷ 103 ∷ 10 ∷ []
