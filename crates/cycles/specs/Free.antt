-- Where no edge closes a cycle without tokens no node is on one.
-- Assumes nothing.
use Rattle.std.specs.Prelude.{ℕ, ◌≡◌, List, None, false, eqb}
use Rattle.std.proofs.Common.{sym, ◌∙◌, arith, le-ltb}
use Rattle.loops.specs.Choice.{at, if_false, both_true, true_false, not_true}
use Rattle.loops.specs.Values.{lowest}
use Rattle.loops.specs.First.{first, first_all}
use Rattle.loops.specs.Any.{any, any_all, any_none}
use Rattle.cycles.specs.Lent.{free_in, closes_free_in, on_free_cycle_in}

pub none_free : (destination sums : List ℕ) (edges nodes : ℕ) → any (free_in sums) edges ≡ false → nodes ≡ first (on_free_cycle_in destination sums edges) nodes
unfolding on_free_cycle_in closes_free_in free_in
none_free destination sums edges nodes h =
    sym (first_all _ nodes
    (λ v k. any_all _ edges
    (λ e l. not_true _ (λ t. true_false (sym (both_true (eqb (at destination e) v) (eqb (at sums e) 0) t).1 ∙ any_none _ edges e h l)))))

-- and a search for one finds nothing
pub none_on_one : (destination sums : List ℕ) (edges nodes : ℕ) → any (free_in sums) edges ≡ false → None ≡ lowest (on_free_cycle_in destination sums edges) nodes
unfolding lowest
none_on_one destination sums edges nodes h = sym (if_false _ _ _ (le-ltb _ _ (omega (arith, none_free destination sums edges nodes h))))
