-- A process's round as one counter sees it, a node in that round, and an edge between two such nodes: definitions only.
-- `increment j` is what the node at seat j of the round adds to the counter: 0 where that node raises another one.
-- Assumes nothing.
use Rattle.std.specs.Prelude.{◌≡◌, ℕ, ◌+◌, ◌-◌, ◌*◌, ◌%◌, ◌≤◌, ◌<◌, min}
use Rattle.loops.specs.Sum.{sum}
use Rattle.counting.specs.Modular.{rounded_up, less_earlier}

-- 1 where the seat is before the position, otherwise 0
abbrev pub before : (seat position : ℕ) → ℕ
before seat position = min 1 (position - seat)

-- 000's #(n), "the number of times that node n has been fired": once in each whole round, and once more where its seat is before the position
abbrev pub fired : (rounds position seat : ℕ) → ℕ
fired rounds position seat = rounds + before seat position

-- 000's ct[c], the counter without a bound: Q for each whole round, and the increments before the position
abbrev pub counter_value : (q : ℕ) (increment : ℕ → ℕ) (rounds position : ℕ) → ℕ
counter_value q increment rounds position = q * rounds + sum increment position

-- 01: "the increments to that counter by nodes earlier in x's process round" (000's cnt0)
abbrev pub earlier : (increment : ℕ → ℕ) (seat : ℕ) → ℕ
earlier increment seat = sum increment seat

-- 000, formula 9: Q * k is the smallest multiple of Q that is not below `value` less `taken`, which may be below 0
pub record Rounds_to (q value taken k : ℕ) : Type 0 where
  pub not_below : value ≤ q * k + taken
  pub smallest : q * k + taken < value + q

-- a node with its counter, in a process that has gone round `rounds` times and stands at `position`
pub record Counted_node (q n : ℕ) : Type 0 where
  pub increment : ℕ → ℕ
  pub length : ℕ
  pub rounds : ℕ
  pub position : ℕ
  pub seat : ℕ
  pub counter : ℕ
  pub firings : ℕ
  -- 01, C3: "every counter's increments sum to the same Q"
  pub full : sum increment length ≡ q
  pub position_lt : position < length
  pub seat_lt : seat < length
  -- 000: "cnt[c] = ct[c] % N"
  pub counted : counter ≡ counter_value q increment rounds position % n
  pub has_fired : firings ≡ fired rounds position seat

module _ {q n : ℕ} (x : Counted_node q n) where
  -- 000: "n is the next node of its process to fire"
  abbrev pub Next : Type 0
  Next = x.seat ≡ x.position

  -- 000: "Incr[n] > 0"
  abbrev pub Raises : Type 0
  Raises = 0 < x.increment x.seat

  -- 01's b(x)
  abbrev pub b_of : ℕ
  b_of = less_earlier n x.counter (earlier x.increment x.seat)

-- an edge with `tokens` at the start and `now` tokens, after `of_end` firings of its end and `of_source` of its source
pub record Counted_edge (q n tokens now of_end of_source b_end b_source : ℕ) : Type 0 where
  -- 000, Observation 1 (a): the tokens are those at the start plus the source's firings less the end's
  pub balance : now + of_end ≡ tokens + of_source
  -- 000, formula 9 modulo N, at both ends
  pub end_rounded : rounded_up q b_end % n ≡ q * of_end % n
  pub source_rounded : rounded_up q b_source % n ≡ q * of_source % n
