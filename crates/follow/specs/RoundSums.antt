-- Sums over all nodes that are sums over one process's round.
-- Assumes nothing.
use Rattle.std.specs.Prelude.{◌≡◌, ◌≢◌, eqb, ltb}
use Rattle.std.proofs.Common.{sym, ap₂, ◌∙◌, arith, eq-eqb, eqb-true, lt-ltb, ltb-true}
use Rattle.std.proofs.Math.Path.{ap}
use Prim.Native.Nat.{ℕ, zero, suc, ◌+◌, ◌*◌, ◌≤◌, ◌<◌, min}
use Rattle.std.proofs.Math.Decide.{ℕ_discrete, dec_lt}
use Rattle.loops.specs.Choice.{if, both, if_true, if_false, both_true, both_intro, not_true}
use Rattle.loops.specs.Sum.{sum, sum_same, sum_none}
use Rattle.net.specs.Graph.{Graph}
use Rattle.net.specs.Processes.{Seats, before}

-- two functions that differ at one place, by x
pub sum_one_place : (f g : ℕ → ℕ) (n m x : ℕ) → m < n → ((v : ℕ) → v < n → v ≢ m → f v ≡ g v) → f m ≡ g m + x → sum f n ≡ sum g n + x
unfolding sum
sum_one_place f g zero m x h o e = absurd (omega arith)
sum_one_place f g (suc n) m x h o e =
    elim (ℕ_discrete n m) [
      | yes p ↦ omega (arith, sum_same f g n (λ v l. o v (omega arith) (λ q. omega arith)), ap f p, ap g p)
      | no p ↦ omega (arith, sum_one_place f g n m x (omega arith) (λ v l. o v (omega arith)) e, o n (omega arith) p)
    ]

sum_rounds_up_to : (f : ℕ → ℕ) (r i n : ℕ) → sum (λ j. f j * (r + before j i)) n ≡ sum f n * r + sum f (min n i)
unfolding sum
sum_rounds_up_to f r i zero = omega (arith, ap (sum f) (let e : min 0 i ≡ 0 = omega arith in e))
sum_rounds_up_to f r i (suc n) =
    elim (dec_lt n i) [
      | yes p ↦
          omega (
            arith,
            sum_rounds_up_to f r i n,
            ap (λ x. f n * (r + x)) (let e : before n i ≡ 1 = omega arith in e),
            ap (sum f) (let e : min n i ≡ n = omega arith in e),
            ap (sum f) (let e : min (suc n) i ≡ suc n = omega arith in e),
          )
      | no p ↦
          omega (
            arith,
            sum_rounds_up_to f r i n,
            ap (λ x. f n * (r + x)) (let e : before n i ≡ 0 = omega arith in e),
            ap (sum f) (let e : min n i ≡ min (suc n) i = omega arith in e),
          )
    ]

-- each of n summands once for each of r rounds, and once more at each seat before i
pub sum_rounds : (f : ℕ → ℕ) (r i n : ℕ) → i ≤ n → sum (λ j. f j * (r + before j i)) n ≡ sum f n * r + sum f i
sum_rounds f r i n h = sum_rounds_up_to f r i n ∙ ap (λ x. sum f n * r + sum f x) (let e : min n i ≡ i = omega arith in e)

module _ (G : Graph) (S : Seats G) (p : ℕ) (f : ℕ → ℕ) where
  -- what f says of the nodes of process p at the first k seats
  unfoldable first_seats : ℕ → ℕ → ℕ
  first_seats k v = if (both (eqb (S.home v) p) (ltb (S.seat v) k)) (f v) 0

  among : (k v : ℕ) → S.home v ≡ p → S.seat v < k → first_seats k v ≡ f v
  unfolding first_seats
  among k v e h = if_true _ (f v) 0 (both_intro _ _ (eq-eqb (S.home v) p e) (lt-ltb (S.seat v) k h))

  not_among : (k v : ℕ) → (S.home v ≡ p → S.seat v < k → ⊥) → first_seats k v ≡ 0
  unfolding first_seats
  not_among k v d =
      if_false _ (f v) 0 (not_true _ (λ t. let r = both_true (eqb (S.home v) p) (ltb (S.seat v) k) t in d (eqb-true _ _ r.0) (ltb-true _ _ r.1)))

  module _ (h : p < S.processes) where
    sum_first_seats : (k : ℕ) → k ≤ S.length p → sum (first_seats k) G.nodes ≡ sum (λ j. f (S.node p j)) k
    unfolding sum
    sum_first_seats zero l = sum_none (first_seats 0) G.nodes (λ v m. not_among 0 v (λ e b. omega arith))
    sum_first_seats (suc k) l =
        sum_one_place (first_seats (suc k)) (first_seats k) G.nodes u (f u) (S.node_lt p h k l) others here
        ∙ ap (◌+ f u) (sum_first_seats k (omega arith))
      where
        u : ℕ
        u = S.node p k

        here : first_seats (suc k) u ≡ first_seats k u + f u
        here =
            let at_p = S.home_node p h k l in
            let at_k = S.seat_node p h k l in
            omega (arith, among (suc k) u at_p (omega arith), not_among k u (λ e b. omega arith))

        others : (v : ℕ) → v < G.nodes → v ≢ u → first_seats (suc k) v ≡ first_seats k v
        others v m d =
            elim (ℕ_discrete (S.home v) p) [
              | no z ↦ not_among (suc k) v (λ e b. z e) ∙ sym (not_among k v (λ e b. z e))
              | yes z ↦
                  elim (dec_lt (S.seat v) k) [
                    | yes b ↦ among (suc k) v z (omega arith) ∙ sym (among k v z b)
                    | no b ↦
                        elim (ℕ_discrete (S.seat v) k) [
                          | yes y ↦ absurd (d (sym (S.node_of v m) ∙ ap₂ S.node z y))
                          | no y ↦ not_among (suc k) v (λ e c. omega arith) ∙ sym (not_among k v (λ e c. b c))
                        ]
                  ]
            ]

    -- a sum over all nodes with nothing outside process p is the sum over p's round
    pub sum_round : ((v : ℕ) → v < G.nodes → S.home v ≢ p → f v ≡ 0) → sum f G.nodes ≡ sum (λ j. f (S.node p j)) (S.length p)
    sum_round none =
        sum_same f (first_seats (S.length p)) G.nodes (λ v m.
        elim (ℕ_discrete (S.home v) p) [
          | yes z ↦ sym (among (S.length p) v z (omega (arith, S.seat_lt v m, ap S.length z)))
          | no z ↦ none v m z ∙ sym (not_among (S.length p) v (λ e b. z e))
        ])
        ∙ sum_first_seats (S.length p) (omega arith)
