-- What a plan value is like whose tests pass, as facts to use, and its shape test.
-- Assumes nothing.
use Rattle.std.specs.Prelude.{ℕ, suc, ◌≤◌, ◌<◌, ◌≡◌, Bool, true, false, ◌↔◌, eqb, ltb, leb}
use Rattle.std.proofs.Math.Path.{refl, sym}
use Rattle.std.proofs.Common.{subst, ltb-false, leb-true, eqb-true, le-ltb, le-leb, eq-eqb}
use Rattle.std.proofs.Math.Logic.{inl, inr, ⊎_elim}
use Rattle.std.proofs.Math.Decide.{ℕ_discrete, dec_lt}
use native.Mathlib.Omega.{arith}
use Rattle.loops.specs.Choice.{at, if, if_le, both, both_true, both_intro, true_false}
use Rattle.loops.specs.First.{first}
use Rattle.loops.specs.Sum.{sum_le_below}
use Rattle.net.specs.Graph.{Shaped}
use Rattle.net.specs.Tables.{graph_of_tables}
use Rattle.plan.specs.declared.Plan.{Plan}
use Rattle.plan.specs.Value.{graph_of, base, share, counter_sum}
use Rattle.plan.specs.Faults.{Fault3, Fault5, Fault6, Fault7, Fault8, Above, InShape}
use Rattle.plan.specs.Tests.{refuse_lowest, order_then, tables_then, q_fits, plan_fits}
use Rattle.plan.specs.Order.{Passes}
use Rattle.plan.specs.Tables.{Tabled}
use Rattle.plan.specs.Passed.{IsFault, passes, passed, counts_fit, passes_3, passes_5, test_6, test_7, test_8}

-- the plan value is in shape
pub record Formed (pl : Plan) : Type 0 where
  pub tables : Tabled pl
  pub q_is : pl.q ≡ counter_sum pl 0
  pub q_some : 1 ≤ pl.q
  -- 64 increments of at most 255
  pub q_most : pl.q ≤ 16320

module _ (pl : Plan) where
  pub tabled : Passes (Fault3 pl) → Passes (Fault5 pl) → Passes (Fault6 pl) → Passes (Fault7 pl) → Passes (Fault8 pl) → Tabled pl
  unfolding Fault5 Fault6 Fault7 Fault8 Above
  tabled p3 p5 p6 p7 p8 =
      record {
        counts = counts_fit pl ((passes_3 pl).1 p3);
        length_some = λ p h.
            elim (dec_lt 0 (at pl.lengths p)) [ yes l ↦ l | no l ↦ absurd (p5 p (inl (h, (let z : at pl.lengths p ≡ 0 = omega arith in z)))) ];
        full = ((passes_5 pl).1 p5).1;
        order_lt = λ i h. below (λ l. p6 i (h, inl l));
        order_apart = λ i j h k e.
            elim (dec_lt i j) [
              | yes l ↦ absurd (p6 j (k, inr (i, l, e)))
              | no l ↦
                  elim (dec_lt j i) [
                    | yes m ↦ absurd (p6 i (h, inr (j, m, sym e)))
                    | no m ↦ omega arith
                  ]
            ];
        counter_lt = λ v h. below (λ l. p7 v (h, inl l));
        increment_most = λ v h. (let g : 255 < at pl.increment v → ⊥ = λ l. p7 v (h, inr l) in omega arith);
        source_lt = λ e h. below (λ l. p8 e (h, inl l));
        destination_lt = λ e h. below (λ l. p8 e (h, inr (inl l)));
        tokens_most = λ e h. (let g : 1000 < at pl.tokens e → ⊥ = λ l. p8 e (h, inr (inr (inl l))) in omega arith);
        rising = λ e h. above e (suc e) (λ n. p8 (suc e) (h, inr (inr (inr (e, refl, n)))));
      }
    where
      below : {m n : ℕ} → (m ≤ n → ⊥) → n < m
      below g = omega arith

      above : (d e : ℕ) → ((Above pl d e → ⊥) → ⊥) → Above pl d e
      above d e g =
          elim (dec_lt (at pl.source d) (at pl.source e)) [
            | yes l ↦ inl l
            | no l ↦
                elim (ℕ_discrete (at pl.source d) (at pl.source e)) [
                  | yes s ↦
                      elim (dec_lt (at pl.destination d) (at pl.destination e)) [
                        | yes m ↦ inr (s, m)
                        | no m ↦ absurd (g (⊎_elim l (λ u. m u.1)))
                      ]
                  | no s ↦ absurd (g (⊎_elim l (λ u. s u.0)))
                ]
          ]

  -- and the other way round: no fault 3 and none of 5 to 8 stands where the tables hold that
  module _ (t : Tabled pl) where
    pub none_3 : Passes (Fault3 pl)
    unfolding Fault3
    none_3 p f = f.1 t.counts

    pub none_5 : Passes (Fault5 pl)
    unfolding Fault5
    none_5 p (inl f) = omega (arith, t.length_some p f.0, f.1)
    none_5 p (inr f) = f.1 t.full

    pub none_6 : Passes (Fault6 pl)
    unfolding Fault6
    none_6 p f =
        ⊎_elim (λ g. omega (arith, t.order_lt p f.0))
        (λ g. omega (arith, t.order_apart g.0 p (omega (arith, g.1, f.0)) f.0 g.2, g.1)) f.1

    pub none_7 : Passes (Fault7 pl)
    unfolding Fault7
    none_7 p f = ⊎_elim (λ g. omega (arith, t.counter_lt p f.0)) (λ g. omega (arith, t.increment_most p f.0)) f.1

    pub none_8 : Passes (Fault8 pl)
    unfolding Fault8
    none_8 p f =
        ⊎_elim (λ g. omega (arith, t.source_lt p f.0))
        (⊎_elim (λ g. omega (arith, t.destination_lt p f.0))
        (⊎_elim (λ g. omega (arith, t.tokens_most p f.0))
        (λ g. g.2 (subst (Above pl g.0) g.1 (t.rising g.0 (omega (arith, g.1, f.0))))))) f.1

    -- where Q is counter 0's sum and at least 1 the plan value is in shape
    pub in_shape : pl.q ≡ counter_sum pl 0 → 1 ≤ counter_sum pl 0 → InShape pl
    in_shape is some =
        record { passes_3 = none_3; passes_5 = none_5; passes_6 = none_6; passes_7 = none_7; passes_8 = none_8; q_is = is; q_some = omega arith }

  -- a counter has at most 64 increments of at most 255
  pub counter_sum_most : Tabled pl → (c : ℕ) → counter_sum pl c ≤ 16320
  unfolding counter_sum share
  counter_sum_most t c =
      omega (
        arith,
        t.counts.nodes_most,
        sum_le_below (share pl.counter pl.increment c) 255 pl.nodes (λ v h. if_le (eqb (at pl.counter v) c) (t.increment_most v h) (omega arith)),
      )

  pub formed : InShape pl → Formed pl
  formed s =
      let t = tabled s.passes_3 s.passes_5 s.passes_6 s.passes_7 s.passes_8 in
      record { tables = t; q_is = s.q_is; q_some = s.q_some; q_most = omega (arith, s.q_is, counter_sum_most t 0) }

  -- both ends of every edge are nodes
  pub shaped : Tabled pl → Shaped (graph_of pl)
  unfolding graph_of graph_of_tables
  shaped t = record { source_lt = t.source_lt; destination_lt = t.destination_lt }

-- a test that refuses did not: it was false, and what follows holds
pub past : (t x : Bool) → if t false x ≡ true → (t ≡ false) × (x ≡ true)
unfolding if
past true x e = absurd (true_false (sym e))
past false x e = (refl, e)

past_back : (t x : Bool) → t ≡ false → x ≡ true → if t false x ≡ true
unfolding if
past_back t x p q = rw (p, q)

-- a search that ends at n did not stop before
module _ {f : ℕ → Bool} {n : ℕ} {Fault : ℕ → Type 0} (is : IsFault f n Fault) where
  searched : ltb (first f n) n ≡ false → Passes Fault
  searched e = passes is (ltb-false (first f n) n e)

  searched_back : Passes Fault → ltb (first f n) n ≡ false
  searched_back p = le-ltb (first f n) n (omega (arith, passed is p))

-- the shape test is the shape
pub fits_exactly : (pl : Plan) → (plan_fits pl ≡ true) ↔ InShape pl
unfolding plan_fits tables_then order_then refuse_lowest q_fits both
fits_exactly pl = (
  λ e.
      let e3 = past _ _ e in
      let e5 = past _ _ e3.1 in
      let sum = both_true (eqb (base pl.lengths pl.processes) pl.nodes) _ e5.1 in
      let e6 = past _ _ sum.1 in
      let e7 = past _ _ e6.1 in
      let e8 = past _ _ e7.1 in
      let q = both_true (eqb (counter_sum pl 0) pl.q) (leb 1 pl.q) e8.1 in
      record {
        passes_3 = (passes_3 pl).0 e3.0;
        passes_5 = (passes_5 pl).0 (ltb-false _ _ e5.0, eqb-true _ _ sum.0);
        passes_6 = searched (test_6 pl) e6.0;
        passes_7 = searched (test_7 pl) e7.0;
        passes_8 = searched (test_8 pl) e8.0;
        q_is = sym (eqb-true _ _ q.0);
        q_some = leb-true _ _ q.1;
      },
  λ s.
      let p5 = (passes_5 pl).1 s.passes_5 in
      past_back _ _ ((passes_3 pl).1 s.passes_3)
      (past_back _ _ (le-ltb _ _ p5.0)
      (both_intro _ _ (eq-eqb _ _ p5.1)
      (past_back _ _ (searched_back (test_6 pl) s.passes_6)
      (past_back _ _ (searched_back (test_7 pl) s.passes_7)
      (past_back _ _ (searched_back (test_8 pl) s.passes_8)
      (both_intro _ _ (eq-eqb _ _ (sym s.q_is)) (le-leb _ _ s.q_some))))))),
)
