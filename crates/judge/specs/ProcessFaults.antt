-- Test 9 is fault 9: a position is bad exactly where its process edge is missing or has wrong tokens.
-- Assumes nothing.
use Rattle.std.specs.Prelude.{◌≡◌, refl, Bool, not, ◌↔◌}
use Rattle.std.proofs.Common.{sym, ◌∙◌}
use Rattle.std.proofs.Math.Path.{ap, ap₂, subst}
use Rattle.std.proofs.Math.Bool.{true, false}
use Prim.Native.Nat.{ℕ, suc, ◌+◌, ◌-◌, ◌<◌}
use native.Mathlib.Omega.{arith}
use Rattle.std.proofs.Math.Decide.{ℕ_discrete}
use Rattle.std.proofs.Math.Dec.{eqb}
use borrow.Author.Tests.{eq-eqb, ne_eqb, eqb-true}
use Rattle.loops.specs.Choice.{at, both_true, both_intro, if_true, if_false, true_false, not_true, not-false, not_is_true}
use Rattle.loops.specs.Any.{any, any_some, any_from}
use Rattle.loops.specs.Sum.{sum}
use Rattle.net.specs.Processes.{Edge}
use Rattle.net.specs.Tables.{graph_of_tables}
use Rattle.plan.specs.declared.Plan.{Plan}
use Rattle.plan.specs.Value.{graph_of, base, node_at, HasProcesses}
use Rattle.plan.specs.Tests.{process_at}
use Rattle.plan.specs.Tables.{Tabled}
use Rattle.plan.specs.Seating.{process_at_lt, ends_after, begins_before, process_at_is, within, has_processes}
use Rattle.judge.specs.Faults.{ProcessEdge, Fault9}
use Rattle.rounds.specs.Lent.{is_edge, is_last, fires_after, edge_tokens, lacks_edge}
use Rattle.judge.specs.Tests.{bad_order_position}

module _ (pl : Plan) where
  -- the search for an edge finds one exactly where there is one
  pub edge_exactly : (m n k : ℕ) → (any (is_edge pl.source pl.destination pl.tokens m n k) pl.edges ≡ true) ↔ Edge (graph_of pl) m n k
  unfolding graph_of graph_of_tables is_edge
  edge_exactly m n t = (to, from)
    where
      to : any (is_edge pl.source pl.destination pl.tokens m n t) pl.edges ≡ true → Edge (graph_of pl) m n t
      to h =
          let s = any_some (is_edge pl.source pl.destination pl.tokens m n t) pl.edges h in
          let a = both_true _ _ s.2 in
          let b = both_true _ _ a.1 in
          (s.0, s.1, eqb-true _ _ a.0, eqb-true _ _ b.0, eqb-true _ _ b.1)

      from : Edge (graph_of pl) m n t → any (is_edge pl.source pl.destination pl.tokens m n t) pl.edges ≡ true
      from k =
          any_from (is_edge pl.source pl.destination pl.tokens m n t) pl.edges k.0 k.1
          (both_intro _ _ (eq-eqb _ _ k.2) (both_intro _ _ (eq-eqb _ _ k.3) (eq-eqb _ _ k.4)))

  -- the process of a seat's position
  process_at_seat : Tabled pl → (p j : ℕ) → p < pl.processes → j < at pl.lengths p → process_at pl.lengths pl.processes (base pl.lengths p + j) ≡ p
  unfolding base sum
  process_at_seat t p j hp hj = process_at_is pl.lengths pl.processes (base pl.lengths p + j) p hp (omega arith) (omega arith)

  -- every position is a seat's
  split : Tabled pl → (i : ℕ) → i < pl.nodes → (p : ℕ) × (j : ℕ) × (p < pl.processes) × (j < at pl.lengths p) × (i ≡ base pl.lengths p + j)
  unfolding base sum
  split t i h =
      let l : i < base pl.lengths pl.processes = omega (arith, t.full) in
      let p : ℕ = process_at pl.lengths pl.processes i in
      let low = begins_before pl.lengths pl.processes i p (omega arith) in
      let high = ends_after pl.lengths pl.processes i l in
      (p, i - base pl.lengths p, process_at_lt pl.lengths pl.processes i l, omega arith, omega arith)

  module _ (t : Tabled pl) (p j : ℕ) (hp : p < pl.processes) (hj : j < at pl.lengths p) where
    abbrev position : ℕ
    position = base pl.lengths p + j

    -- where the round goes on
    onward : (suc j ≡ at pl.lengths p → ⊥) → (fires_after pl.lengths pl.processes position ≡ base pl.lengths p + suc j) × (edge_tokens pl.lengths pl.processes position ≡ 0)
    unfolding fires_after edge_tokens is_last base sum
    onward d =
        let last : is_last pl.lengths pl.processes position ≡ false =
        ap (λ x. eqb (suc position) (base pl.lengths (suc x))) (process_at_seat t p j hp hj) ∙ ne_eqb (suc position) (base pl.lengths (suc p)) (λ e. d (omega (arith, e))) in
        (if_false _ _ _ last ∙ (let e : suc position ≡ base pl.lengths p + suc j = omega arith in e), if_false _ _ _ last)

    -- and where it closes
    closes : suc j ≡ at pl.lengths p → (fires_after pl.lengths pl.processes position ≡ base pl.lengths p + 0) × (edge_tokens pl.lengths pl.processes position ≡ 1)
    unfolding fires_after edge_tokens is_last base sum
    closes d =
        let last : is_last pl.lengths pl.processes position ≡ true =
        ap (λ x. eqb (suc position) (base pl.lengths (suc x))) (process_at_seat t p j hp hj) ∙ eq-eqb (suc position) (base pl.lengths (suc p)) (omega arith) in
        (if_true _ _ _ last ∙ ap (base pl.lengths) (process_at_seat t p j hp hj) ∙ (let e : base pl.lengths p ≡ base pl.lengths p + 0 = omega arith in e), if_true _ _ _ last)

    -- the edge that the test looks for at that position
    abbrev pub wanted : Bool
    wanted =
        any (is_edge pl.source pl.destination pl.tokens (at pl.order position)
        (at pl.order (fires_after pl.lengths pl.processes position)) (edge_tokens pl.lengths pl.processes position)) pl.edges

    pub process_edge_exactly : (wanted ≡ true) ↔ ProcessEdge pl p j
    unfolding node_at
    process_edge_exactly =
        elim (ℕ_discrete (suc j) (at pl.lengths p)) [
          | yes d ↦
              let c = closes d in
              let same : Edge (graph_of pl) (at pl.order position) (at pl.order (fires_after pl.lengths pl.processes position)) (edge_tokens pl.lengths pl.processes position)
              ≡ Edge (graph_of pl) (node_at pl p j) (node_at pl p 0) 1 =
              ap₂ (λ x y. Edge (graph_of pl) (node_at pl p j) (at pl.order x) y) c.0 c.1 in (
                λ h. record { on = λ l. absurd (omega arith); closing = λ l. subst (λ X. X) same ((edge_exactly _ _ _).0 h) },
                λ e. (edge_exactly _ _ _).1 (subst (λ X. X) (sym same) (e.closing d)),
              )
          | no d ↦
              let c = onward d in
              let same : Edge (graph_of pl) (at pl.order position) (at pl.order (fires_after pl.lengths pl.processes position)) (edge_tokens pl.lengths pl.processes position)
              ≡ Edge (graph_of pl) (node_at pl p j) (node_at pl p (suc j)) 0 =
              ap₂ (λ x y. Edge (graph_of pl) (node_at pl p j) (at pl.order x) y) c.0 c.1 in (
                λ h. record { on = λ l. subst (λ X. X) same ((edge_exactly _ _ _).0 h); closing = λ l. absurd (d l) },
                λ e. (edge_exactly _ _ _).1 (subst (λ X. X) (sym same) (e.on (omega arith))),
              )
        ]

  module _ (t : Tabled pl) where
    -- a position is bad exactly where fault 9 stands
    pub test_9 : (i : ℕ) → ((i < pl.nodes) × (bad_order_position pl i ≡ true)) ↔ Fault9 pl i
    unfolding lacks_edge
    test_9 i = (to, from)
      where
        to : (i < pl.nodes) × (bad_order_position pl i ≡ true) → Fault9 pl i
        to h =
            let k = split t i h.0 in
            record {
              process = k.0;
              seat = k.1;
              process_lt = k.2;
              seat_lt = k.3;
              here = k.4;
              broken = λ e.
                  true_false (sym ((process_edge_exactly t k.0 k.1 k.2 k.3).1 e)
                  ∙ not_is_true (wanted t k.0 k.1 k.2 k.3) (subst (λ x. bad_order_position pl x ≡ true) k.4 h.1));
            }

        from : Fault9 pl i → (i < pl.nodes) × (bad_order_position pl i ≡ true)
        from f =
            let none : wanted t f.process f.seat f.process_lt f.seat_lt ≡ false =
            not_true _ (λ e. f.broken ((process_edge_exactly t f.process f.seat f.process_lt f.seat_lt).0 e)) in
            (omega (arith, f.here, within pl t f.process f.seat f.process_lt f.seat_lt), subst (λ x. bad_order_position pl x ≡ true) (sym f.here) (ap not none))

    -- where no position is bad, the plan has its processes
    pub processes_pass : ((i : ℕ) → Fault9 pl i → ⊥) → HasProcesses pl
    processes_pass none =
        has_processes pl t (λ p hp j l. (edge p hp j (omega arith)).on l) (λ p hp j l. (edge p hp j (omega arith)).closing l)
      where
        edge : (p : ℕ) → p < pl.processes → (j : ℕ) → j < at pl.lengths p → ProcessEdge pl p j
        edge p hp j hj =
            (process_edge_exactly t p j hp hj).0
            (not-false _ (λ e. none (base pl.lengths p + j) (record {
              process = p;
              seat = j;
              process_lt = hp;
              seat_lt = hj;
              here = refl;
              broken = λ k. true_false (sym ((process_edge_exactly t p j hp hj).1 k) ∙ e);
            })))

    -- and a plan that has its processes has no such fault
    pub processes_clean : HasProcesses pl → (i : ℕ) → Fault9 pl i → ⊥
    unfolding HasProcesses
    processes_clean P i f = f.broken (record { on = P.on f.process f.process_lt f.seat; closing = P.closing f.process f.process_lt f.seat })
