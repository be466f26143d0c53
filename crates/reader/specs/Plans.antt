-- The starred plans of 01 ("Plans on each side of a bound") as images. Definitions only.
-- Assumes nothing.
use Rattle.std.specs.Prelude.{List, [], ◌∷◌, ◌++◌, ℕ, ◌+◌, ◌*◌, ◌/◌, ◌%◌, length}

-- a number as two bytes and as four, the lowest first
unfoldable pub as_two : ℕ → List ℕ
as_two x = x % 256 ∷ x / 256 ∷ []

unfoldable pub as_four : ℕ → List ℕ
as_four x = as_two (x % 65536) ++ as_two (x / 65536)

unfoldable pub all_as_two : List ℕ → List ℕ
all_as_two [] = []
all_as_two (x ∷ xs) = as_two x ++ all_as_two xs

-- an image: counters, N, process lengths, firing order, (counter, increment) of each node, (source, destination, tokens) of each edge
unfoldable pub image_of : ℕ → ℕ → List ℕ → List ℕ → List ℕ → List ℕ → List ℕ
image_of counters modulus lengths order nodes edges =
    let p = length lengths in
    let n = length order in
    let e = length edges / 3 in
    as_two 1 ++ as_two n ++ as_two p ++ as_two e ++ as_two counters ++ as_two 0 ++ as_four modulus
    ++ as_four 36 ++ as_four (36 + 2 * p) ++ as_four (36 + 2 * p + 2 * n) ++ as_four (36 + 2 * p + 6 * n) ++ as_four (36 + 2 * p + 6 * n + 6 * e)
    ++ all_as_two lengths ++ all_as_two order ++ all_as_two nodes ++ all_as_two edges

-- "Plan P: nodes 0 to 3; processes 0,1 and 2,3; … counters 0,0,1,1", with N, increments and edges given
unfoldable pub like_P : ℕ → ℕ → ℕ → ℕ → ℕ → List ℕ → List ℕ
like_P modulus a b c d edges = image_of 2 modulus (2 ∷ 2 ∷ []) (0 ∷ 1 ∷ 2 ∷ 3 ∷ []) (0 ∷ a ∷ 0 ∷ b ∷ 1 ∷ c ∷ 1 ∷ d ∷ []) edges

-- "edges 0-1:0, 1-0:1, 1-2:0, 2-3:0, 3-0:3, 3-2:1"
unfoldable pub edges_of_P : List ℕ
edges_of_P = 0 ∷ 1 ∷ 0 ∷ 1 ∷ 0 ∷ 1 ∷ 1 ∷ 2 ∷ 0 ∷ 2 ∷ 3 ∷ 0 ∷ 3 ∷ 0 ∷ 3 ∷ 3 ∷ 2 ∷ 1 ∷ []

-- "increments 0,1,0,1; N 4"
unfoldable pub P : List ℕ
P = like_P 4 0 1 0 1 edges_of_P

-- "P with N 3"
unfoldable pub P_with_N_3 : List ℕ
P_with_N_3 = like_P 3 0 1 0 1 edges_of_P

-- "P without 3-0"
unfoldable pub P_without_3_0 : List ℕ
P_without_3_0 = like_P 4 0 1 0 1 (0 ∷ 1 ∷ 0 ∷ 1 ∷ 0 ∷ 1 ∷ 1 ∷ 2 ∷ 0 ∷ 2 ∷ 3 ∷ 0 ∷ 3 ∷ 2 ∷ 1 ∷ [])

-- "P with 1-2 repeated next to itself"
unfoldable pub P_with_1_2_repeated : List ℕ
P_with_1_2_repeated = like_P 4 0 1 0 1 (0 ∷ 1 ∷ 0 ∷ 1 ∷ 0 ∷ 1 ∷ 1 ∷ 2 ∷ 0 ∷ 1 ∷ 2 ∷ 0 ∷ 2 ∷ 3 ∷ 0 ∷ 3 ∷ 0 ∷ 3 ∷ 3 ∷ 2 ∷ 1 ∷ [])

-- "One node, edge 0-0:1, increment 1, N 1", and with increment 0
unfoldable pub one_node : ℕ → List ℕ
one_node increment = image_of 1 1 (1 ∷ []) (0 ∷ []) (0 ∷ increment ∷ []) (0 ∷ 0 ∷ 1 ∷ [])

-- "P with increments 0,2,0,2", and N 7 or 6
unfoldable pub P_by_twos : ℕ → List ℕ
P_by_twos modulus = like_P modulus 0 2 0 2 edges_of_P

-- "P with an added edge 0-0:0"
unfoldable pub P_with_0_0 : List ℕ
P_with_0_0 = like_P 4 0 1 0 1 (0 ∷ 0 ∷ 0 ∷ edges_of_P)

-- "Ring: three one-node processes, edges 0-0, 0-1, 1-1, 1-2, 2-0, 2-2 with one token each, increments 1, own counters", N 3 or 4
unfoldable pub ring : ℕ → List ℕ
ring modulus =
    image_of 3 modulus (1 ∷ 1 ∷ 1 ∷ []) (0 ∷ 1 ∷ 2 ∷ []) (0 ∷ 1 ∷ 1 ∷ 1 ∷ 2 ∷ 1 ∷ [])
    (0 ∷ 0 ∷ 1 ∷ 0 ∷ 1 ∷ 1 ∷ 1 ∷ 1 ∷ 1 ∷ 1 ∷ 2 ∷ 1 ∷ 2 ∷ 0 ∷ 1 ∷ 2 ∷ 2 ∷ 1 ∷ [])

-- "P with all increments 1 and N 8"
unfoldable pub P_all_ones : List ℕ
P_all_ones = like_P 8 1 1 1 1 edges_of_P
