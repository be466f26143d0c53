-- 01's numbers tell the tests apart, so that a number and a place leave room for one refusal.
-- Assumes nothing.
use Rattle.std.specs.Prelude.{◌≡◌, refl, ℕ, eqb}
use Rattle.std.proofs.Common.{sym, ap, ap₂, ◌∙◌}
use Rattle.loops.specs.Choice.{if}
use Rattle.plan.specs.declared.Test.{Test}
use Rattle.plan.specs.declared.Test.TheVariants.{Header, Format, Counts, Layout, Lengths, Order, Nodes, Edges, ProcessEdges, Counters, Increments, Sums, FreeCycles, WaysBack, Multiple, Bounds}
use Rattle.plan.specs.declared.Refusal.{Refusal}
use Rattle.plan.specs.Refusals.{number_of}

-- the test that a number stands for
unfoldable test_of : ℕ → Test
test_of n =
    if (eqb n 1) Header (if (eqb n 2) Format (if (eqb n 3) Counts (if (eqb n 4) Layout (if (eqb n 5) Lengths (if (eqb n 6) Order
    (if (eqb n 7) Nodes (if (eqb n 8) Edges (if (eqb n 9) ProcessEdges (if (eqb n 10) Counters (if (eqb n 11) Increments (if (eqb n 12) Sums
    (if (eqb n 13) FreeCycles (if (eqb n 14) WaysBack (if (eqb n 15) Multiple Bounds))))))))))))))

test_back : (t : Test) → test_of (number_of t) ≡ t
unfolding test_of if
test_back Header = refl
test_back Format = refl
test_back Counts = refl
test_back Layout = refl
test_back Lengths = refl
test_back Order = refl
test_back Nodes = refl
test_back Edges = refl
test_back ProcessEdges = refl
test_back Counters = refl
test_back Increments = refl
test_back Sums = refl
test_back FreeCycles = refl
test_back WaysBack = refl
test_back Multiple = refl
test_back Bounds = refl

pub number_one : {a b : Test} → number_of a ≡ number_of b → a ≡ b
number_one {a} {b} e = sym (test_back a) ∙ ap test_of e ∙ test_back b

pub refusal_one : {a b : Refusal} → number_of a.test ≡ number_of b.test → a.place ≡ b.place → a ≡ b
refusal_one e p = ap₂ (λ t k. record { test = t; place = k }) (number_one e) p
