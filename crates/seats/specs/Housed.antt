-- The process of each node, entered position after position while the processes are gone through beside them.
-- Assumes nothing.
use Rattle.std.specs.Prelude.{ℕ, suc, ◌+◌, ◌-◌, ◌<◌, ◌≤◌, ◌≡◌, List, Bool, true, false, ltb, leb, length, set, replicate}
use Rattle.std.proofs.Math.Decide.{ℕ_discrete, dec_lt}
use Rattle.std.proofs.Common.{add-one, arith, sym, ap, ◌∙◌, ltb-true, leb-true, lt-ltb, le-leb, le-ltb, length-set, ext_get_or, get_or-set_same, get_or-set_other}
use Rattle.std.proofs.lemmas.List.{length-replicate}
use Rattle.loops.specs.Choice.{at, both, both_true, both_intro, true_false}
use Rattle.loops.specs.First.{first_all}
use Rattle.loops.specs.Sum.{sum, sum_step}
use Rattle.loops.specs.Table.{padded, padded_length, padded_at, padded_past, zeros_at}
use Rattle.plan.specs.Onto.{Once}
use Rattle.plan.specs.Value.{base}
use Rattle.plan.specs.Tests.{order_position, ends_past, process_at, home_of}
use Rattle.plan.specs.Seating.{process_at_is, placed_lt, placed_there}

-- process p, which begins at `start`, is there and ends at or before position i
unfoldable pub ended : List ℕ → ℕ → ℕ → ℕ → ℕ → Bool
ended lengths processes p start i = both (ltb p processes) (leb (at lengths p) (i - start))

-- so it is there, and as many positions are left as it has
pub ended_means : (lengths : List ℕ) (processes p start i : ℕ) (b : Bool) → b ≡ ended lengths processes p start i → b ≡ true
    → (p < processes) × (at lengths p ≤ i - start)
unfolding ended
ended_means lengths processes p start i b e h =
    let t = both_true (ltb p processes) (leb (at lengths p) (i - start)) (sym e ∙ h) in
    (ltb-true p processes t.0, leb-true (at lengths p) (i - start) t.1)

-- the invariant: the nodes at the positions below i have their process in x, and process p begins at `start`, at or before i
pub record Housed (order lengths : List ℕ) (nodes processes p start i : ℕ) (x : List ℕ) : Type 0 where
  pub within : i ≤ nodes
  pub process_within : p ≤ processes
  pub begins : start ≡ base lengths p
  pub before : start ≤ i
  pub long : length x ≡ 64
  pub done : (j : ℕ) → j < i → at x (at order j) ≡ process_at lengths processes j
  pub rest : (v : ℕ) → ((j : ℕ) → j < i → at order j ≡ v → ⊥) → at x v ≡ 0

pub housed_begin : (order lengths : List ℕ) (nodes processes : ℕ) → Housed order lengths nodes processes 0 0 0 (replicate 64 0)
unfolding base sum
housed_begin order lengths nodes processes =
    record {
      within = omega arith;
      process_within = omega arith;
      begins = omega arith;
      before = omega arith;
      long = length-replicate {A = ℕ} 64 0;
      done = λ j h. absurd (omega arith);
      rest = λ v f. zeros_at 64 v;
    }

-- a turn that goes on to the next process
pub housed_on : {order lengths : List ℕ} {nodes processes p start i r : ℕ} {x : List ℕ} {b : Bool} → Housed order lengths nodes processes p start i x
    → b ≡ ended lengths processes p start i → b ≡ true → r ≡ at lengths p → Housed order lengths nodes processes (p + 1) (start + r) i x
unfolding base sum
housed_on {order} {lengths} {nodes} {processes} {p} {start} {i} {r} {x} {b} inv e h q =
    let t = ended_means lengths processes p start i b e h in
    record {
      within = inv.within;
      process_within = omega (arith, t.0);
      begins = omega (arith, inv.begins, ap (sum (at lengths)) (add-one p));
      before = omega (arith, t.1, inv.before);
      long = inv.long;
      done = inv.done;
      rest = inv.rest;
    }

-- process p is that of position i where it does not end at or before i
here : {order lengths : List ℕ} {nodes processes p start i : ℕ} {x : List ℕ} → Housed order lengths nodes processes p start i x
    → ended lengths processes p start i ≡ false → process_at lengths processes i ≡ p
unfolding ended base sum process_at ends_past
here {order} {lengths} {nodes} {processes} {p} {start} {i} {x} inv e =
    elim (dec_lt p processes) [
      | yes l ↦
          elim (dec_lt i (start + at lengths p)) [
            | yes m ↦ process_at_is lengths processes i p l (omega (arith, inv.begins, inv.before)) (omega (arith, inv.begins))
            | no m ↦
                absurd (true_false (sym (both_intro (ltb p processes) (leb (at lengths p) (i - start)) (lt-ltb p processes l) (le-leb (at lengths p) (i - start) (omega (arith, inv.before)))) ∙ e))
          ]
      | no l ↦
          first_all (ends_past lengths i) processes
          (λ k b. le-ltb i (base lengths (suc k)) (omega (arith, inv.begins, inv.before, sum_step (at lengths) (suc k) p (omega arith))))
          ∙ omega (arith, inv.process_within)
    ]

-- a turn that enters the process of the node at position i
pub housed_more : {order lengths : List ℕ} {nodes processes p start i v r : ℕ} {x : List ℕ} {b : Bool}
    → Housed order lengths nodes processes p start i x → i < nodes → nodes ≤ 64 → Once (at order) nodes → b ≡ ended lengths processes p start i → b ≡ false
    → v ≡ at order i → r ≡ p → Housed order lengths nodes processes p start (i + 1) (set x v r)
housed_more {order} {lengths} {nodes} {processes} {p} {start} {i} {v} {r} {x} inv h few once e g q s =
    record {
      within = omega arith;
      process_within = inv.process_within;
      begins = inv.begins;
      before = omega (arith, inv.before);
      long = length-set x v r ∙ inv.long;
      done = λ j l.
          elim (ℕ_discrete j i) [
            | yes y ↦
                ap (λ k. at (set x v r) (at order k)) y ∙ ap (at (set x v r)) (sym q)
                ∙ get_or-set_same x v r 0 (omega (arith, inv.long, once.small i h)) ∙ s ∙ sym (here inv (sym e ∙ g)) ∙ ap (process_at lengths processes) (sym y)
            | no y ↦ get_or-set_other x v (at order j) r 0 (λ z. y (once.apart j i (omega arith) h (z ∙ q))) ∙ inv.done j (omega arith)
          ];
      rest = λ w f. get_or-set_other x v w r 0 (λ z. f i (omega arith) (sym q ∙ sym z)) ∙ inv.rest w (λ j l. f j (omega arith));
    }

pub housed_over : {order lengths : List ℕ} {nodes processes p start i : ℕ} {x : List ℕ} → Housed order lengths nodes processes p start i x
    → nodes ≤ i → nodes ≤ 64 → Once (at order) nodes → x ≡ padded (home_of order lengths nodes processes) 64 nodes
unfolding home_of
housed_over {order} {lengths} {nodes} {processes} {i = i} {x = x} inv h few once =
    ext_get_or 0 x (padded f 64 nodes) (inv.long ∙ sym (padded_length f 64 nodes few))
    (λ k l.
    elim (dec_lt k nodes) [
      | yes y ↦
          ap (at x) (sym (placed_there order nodes once k y)) ∙ inv.done (order_position order nodes k) (omega (arith, placed_lt order nodes once k y, inv.within))
          ∙ sym (padded_at f 64 nodes k y)
      | no y ↦ inv.rest k (λ j m z. omega (arith, once.small j (omega (arith, inv.within)))) ∙ sym (padded_past f 64 nodes k (omega arith))
    ])
  where
    f : ℕ → ℕ
    f = home_of order lengths nodes processes
