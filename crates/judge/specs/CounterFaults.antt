-- Tests 10, 11 and 12 are faults 10, 11 and 12, and C1, C2 and C3 are that there are none.
-- Assumes nothing.
use Rattle.std.specs.Prelude.{◌≡◌, refl, true, not, ◌⊎◌, ◌↔◌, ◌≢◌, eqb}
use Rattle.std.proofs.Math.Path.{sym, ap}
use Rattle.std.proofs.Common.{◌∙◌}
use Rattle.std.proofs.Math.Logic.{inl, inr}
use Prim.Native.Nat.{ℕ, ◌<◌}
use native.Mathlib.Omega.{arith}
use Rattle.std.proofs.Math.Decide.{ℕ_discrete, dec_lt}
use borrow.Author.Tests.{eq-eqb, ne_eqb, eqb-true, eqb-false, lt-ltb, ltb-true}
use Rattle.loops.specs.Choice.{at, both_true, both_intro, either, either_true, either_left, either_right, true_false, not_is_true}
use Rattle.loops.specs.First.{first, first_below, first_here}
use Rattle.loops.specs.Any.{any_some, any_from}
use Rattle.net.specs.Tables.{graph_of_tables}
use Rattle.plan.specs.declared.Plan.{Plan}
use Rattle.plan.specs.Value.{graph_of, InProcess, Synchronising, counter_sum}
use Rattle.plan.specs.Tests.{home, seat}
use Rattle.plan.specs.Tables.{Tabled}
use Rattle.plan.specs.Seating.{sits, sits_unique}
use Rattle.judge.specs.Conditions.{C1, C2, C3}
use Rattle.judge.specs.Faults.{Fault10, Fault11, Fault12}
use Rattle.plan.specs.Tests.{home_table}
use Rattle.seats.specs.Crossing.{crossing_table}
use Rattle.rounds.specs.Lent.{has_counter, strays_in, bad_counter_in, sends_in, bad_increment_in, bad_sum_in}
use Rattle.judge.specs.Tests.{bad_counter, bad_increment, bad_sum}
use Rattle.judge.specs.Lent.{different_exactly, crosses_exactly}

module _ (pl : Plan) (t : Tabled pl) where
  -- the first node of a counter
  abbrev leader : ℕ → ℕ
  leader c = first (has_counter pl.counter c) pl.nodes

  -- where a node has the counter, the first one is a node and has it
  leads : (c v : ℕ) → v < pl.nodes → has_counter pl.counter c v ≡ true
      → (leader c < pl.nodes) × (has_counter pl.counter c (leader c) ≡ true)
  leads c v l h =
      let r : leader c < pl.nodes =
      elim (dec_lt (leader c) pl.nodes) [
        | yes p ↦ p
        | no p ↦ absurd (true_false (sym h ∙ first_below (has_counter pl.counter c) pl.nodes v (omega arith)))
      ] in
      (r, first_here (has_counter pl.counter c) pl.nodes r)

  -- a node that is not in the first one's process strays
  strays_from : (c v : ℕ) → v < pl.nodes → leader c < pl.nodes → at pl.counter v ≡ c → home pl v ≢ home pl (leader c)
      → strays_in (home_table pl) pl.counter (leader c) c v ≡ true
  unfolding strays_in has_counter
  strays_from c v l r h d = both_intro _ _ (eq-eqb _ _ h) ((different_exactly pl t v (leader c) l r).1 d)

  in_home : (v : ℕ) → v < pl.nodes → InProcess pl v (home pl v)
  in_home v l = (seat pl v, sits pl t v l)

  home_is : (v p : ℕ) → InProcess pl v p → home pl v ≡ p
  home_is v p i = (sits_unique pl t i.1).0

  pub test_10 : (c : ℕ) → ((c < pl.counters) × (bad_counter pl c ≡ true)) ↔ Fault10 pl c
  unfolding bad_counter_in strays_in has_counter
  test_10 c = (to, from)
    where
      to : (c < pl.counters) × (bad_counter pl c ≡ true) → Fault10 pl c
      to h =
          let a = both_true _ _ h.1 in
          let r : leader c < pl.nodes = ltb-true (leader c) pl.nodes a.0 in
          let s = any_some (strays_in (home_table pl) pl.counter (leader c) c) pl.nodes a.1 in
          let v : ℕ = s.0 in
          let b = both_true _ _ s.2 in
          record {
            known = h.0;
            one = v;
            other = leader c;
            one_lt = s.1;
            other_lt = r;
            one_has = eqb-true _ _ b.0;
            other_has = eqb-true _ _ (first_here (has_counter pl.counter c) pl.nodes r);
            process_of_one = home pl v;
            process_of_other = home pl (leader c);
            one_in = in_home v s.1;
            other_in = in_home (leader c) r;
            differ = (different_exactly pl t v (leader c) s.1 r).0 b.1;
          }

      from : Fault10 pl c → (c < pl.counters) × (bad_counter pl c ≡ true)
      from f =
          let d : home pl f.one ≢ home pl f.other =
          λ e. f.differ (sym (home_is f.one f.process_of_one f.one_in) ∙ e ∙ home_is f.other f.process_of_other f.other_in) in
          let r = (leads c f.one f.one_lt (eq-eqb _ _ f.one_has)).0 in
          let stray : (v : ℕ) → v < pl.nodes → at pl.counter v ≡ c → home pl v ≢ home pl (leader c) → bad_counter pl c ≡ true =
          λ v l h q. both_intro _ _ (lt-ltb _ _ r) (any_from (strays_in (home_table pl) pl.counter (leader c) c) pl.nodes v l (strays_from c v l r h q)) in (
            f.known,
            elim (ℕ_discrete (home pl f.one) (home pl (leader c))) [
              | no q ↦ stray f.one f.one_lt f.one_has q
              | yes q ↦ stray f.other f.other_lt f.other_has (λ e. d (q ∙ sym e))
            ],
          )

  pub c1_passes : ((c : ℕ) → Fault10 pl c → ⊥) → C1 pl
  unfolding C1
  c1_passes none u v hu hv e p q i k =
      elim (ℕ_discrete p q) [
        | yes x ↦ x
        | no x ↦
            absurd (none (at pl.counter u) (record {
              known = t.counter_lt u hu;
              one = u;
              other = v;
              one_lt = hu;
              other_lt = hv;
              one_has = refl;
              other_has = sym e;
              process_of_one = p;
              process_of_other = q;
              one_in = i;
              other_in = k;
              differ = x;
            }))
      ]

  pub c1_clean : C1 pl → (c : ℕ) → Fault10 pl c → ⊥
  unfolding C1
  c1_clean h c f =
      f.differ (h f.one f.other f.one_lt f.other_lt (f.one_has ∙ sym f.other_has) f.process_of_one f.process_of_other f.one_in f.other_in)

  pub test_11 : (v : ℕ) → ((v < pl.nodes) × (bad_increment pl v ≡ true)) ↔ Fault11 pl v
  unfolding bad_increment_in sends_in Fault11
  test_11 v = (to, from)
    where
      to : (v < pl.nodes) × (bad_increment pl v ≡ true) → Fault11 pl v
      to h =
          let b = both_true _ _ h.1 in
          let s = any_some (sends_in (crossing_table pl) pl.source v) pl.edges b.1 in
          let k = both_true _ _ s.2 in
          (h.0, eqb-true _ _ b.0, (s.0, (crosses_exactly pl t s.0 s.1).0 k.0, eqb-true _ _ k.1))

      from : Fault11 pl v → (v < pl.nodes) × (bad_increment pl v ≡ true)
      from f =
          let e : ℕ = f.2.0 in
          let y : Synchronising pl e = f.2.1 in (
            f.0,
            both_intro _ _ (eq-eqb _ _ f.1)
                (any_from (sends_in (crossing_table pl) pl.source v) pl.edges e y.known
                (both_intro _ _ ((crosses_exactly pl t e y.known).1 y) (eq-eqb _ _ f.2.2))),
          )

  pub c2_passes : ((v : ℕ) → Fault11 pl v → ⊥) → C2 pl
  unfolding C2 Fault11 graph_of graph_of_tables
  c2_passes none e y =
      elim (dec_lt 0 (at pl.increment (at pl.source e))) [
        | yes p ↦ p
        | no p ↦ absurd (none (at pl.source e) (t.source_lt e y.known, omega arith, (e, y, refl)))
      ]

  pub c2_clean : C2 pl → (v : ℕ) → Fault11 pl v → ⊥
  unfolding C2 Fault11
  c2_clean h v f = omega (arith, h f.2.0 f.2.1, ap (at pl.increment) f.2.2, f.1)

  pub test_12 : (c : ℕ) → ((c < pl.counters) × (bad_sum pl c ≡ true)) ↔ Fault12 pl c
  unfolding bad_sum_in Fault12 counter_sum
  test_12 c = (λ h. (h.0, to (either_true _ _ h.1)), λ f. (f.0, from f.1))
    where
      to : (eqb (counter_sum pl c) 0 ≡ true) ⊎ (not (eqb (counter_sum pl c) (counter_sum pl 0)) ≡ true)
          → (counter_sum pl c ≡ 0) ⊎ (counter_sum pl c ≢ counter_sum pl 0)
      to (inl e) = inl (eqb-true _ _ e)
      to (inr e) = inr (eqb-false _ _ (not_is_true _ e))

      from : (counter_sum pl c ≡ 0) ⊎ (counter_sum pl c ≢ counter_sum pl 0)
          → either (eqb (counter_sum pl c) 0) (not (eqb (counter_sum pl c) (counter_sum pl 0))) ≡ true
      from (inl e) = either_left _ _ (eq-eqb _ _ e)
      from (inr e) = either_right _ _ (ap not (ne_eqb _ _ e))

  pub c3_passes : ((c : ℕ) → Fault12 pl c → ⊥) → C3 pl
  unfolding C3 Fault12
  c3_passes none c l =
      let same : counter_sum pl c ≡ counter_sum pl 0 =
      elim (ℕ_discrete (counter_sum pl c) (counter_sum pl 0)) [ yes p ↦ p | no p ↦ absurd (none c (l, inr p)) ] in
      (same, elim (dec_lt 0 (counter_sum pl c)) [ yes p ↦ p | no p ↦ absurd (none c (l, inl (omega arith))) ])

  pub c3_clean : C3 pl → (c : ℕ) → Fault12 pl c → ⊥
  unfolding C3 Fault12
  c3_clean h c f = either_way f.1
    where
      either_way : (counter_sum pl c ≡ 0) ⊎ (counter_sum pl c ≢ counter_sum pl 0) → ⊥
      either_way (inl e) = omega (arith, (h c f.0).1)
      either_way (inr e) = e (h c f.0).0
