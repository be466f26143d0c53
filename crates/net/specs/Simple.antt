-- 000's simple cycles: every cycle goes round one.
-- Assumes nothing.
use Rattle.std.proofs.Common.{ap, arith}
use mathlib.Core.List.{List, [], ◌∷◌}
use Rattle.std.proofs.Math.Logic.{inl, inr}
use Prim.Native.Nat.{ℕ, zero, suc, ◌≤◌, ◌<◌}
use Rattle.std.proofs.Math.ListN.{length, length-append}
use Rattle.net.specs.Graph.{Graph, Marking, firings, tokens_on, Route, Cycle}
use Rattle.net.specs.Counts.{twice_or_once}
use Rattle.net.specs.Append.{tokens_on_append}
use Rattle.net.specs.Looped.{stops, Looped, looped}

module _ (G : Graph) where
  -- 000: "a non-empty finite sequence of distinct nodes": a cycle that comes to no node twice
  pub record SimpleCycle (v : ℕ) (es : List ℕ) : Type 0 where
    pub cycle : Cycle G v es
    pub distinct : (n : ℕ) → firings n (stops G es) ≤ 1

  -- every cycle goes round a simple one, which holds no more tokens
  pub simple_inside : (μ : Marking) (v : ℕ) (es : List ℕ) → Cycle G v es → (u : ℕ) × (fs : List ℕ) × SimpleCycle u fs × (tokens_on μ fs ≤ tokens_on μ es)
  unfolding Route stops tokens_on
  simple_inside μ v es c = go (suc (length es)) v es c (omega arith)
    where
      go : (k v : ℕ) (es : List ℕ) → Cycle G v es → length es < k
          → (u : ℕ) × (fs : List ℕ) × SimpleCycle u fs × (tokens_on μ fs ≤ tokens_on μ es)
      go zero v es c h = absurd (omega arith)
      go (suc k) v [] c h = absurd (omega (arith, c.1))
      go (suc k) v (e ∷ es) c h =
          elim (twice_or_once (stops G (e ∷ es))) [
            | inr f ↦ (v, e ∷ es, record { cycle = c; distinct = f }, omega arith)
            | inl t ↦
                let a : Looped G (G.destination e) v es = looped G t.0 es (G.destination e) v c.0.2 t.1 in
                let short = simp length-append at (ap length a.whole) in
                let r = go k a.at a.cycle a.round (omega arith) in
                (r.0, r.1, r.2, omega (arith, r.3, simp tokens_on_append at (ap (tokens_on μ) a.whole)))
          ]
