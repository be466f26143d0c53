-- Plan P with increments 0,2,0,2 and N 8 after three producer rounds, by computation: edge 3-0 is empty, and so the mended reading says.
-- Assumes nothing.
use Rattle.std.specs.Prelude.{◌≡◌, refl}
use Rattle.std.proofs.Common.{arith}
use Rattle.loops.specs.Sum.{sum}
use Rattle.counting.specs.Modular.{rounded_up, minus_modulo, reading_sum, reading_mended}
use Rattle.counting.specs.Process.{b_of}
use Rattle.counting.specs.Example.{increments, node_0, node_3}
use Rattle.counting.proofs.Look.{reading_of_tokens}

-- the mended one
pub mended_is_none : reading_mended 2 8 3 (b_of node_3) (b_of node_0) ≡ 0
unfolding reading_mended reading_sum minus_modulo rounded_up sum increments node_0 node_3
mended_is_none = refl

-- the law says the same: its premises are met, with no token now and none on the route back 0-1, 1-2, 2-3
pub mended_by_law : reading_mended 2 8 3 (b_of node_3) (b_of node_0) ≡ 0
unfolding increments node_0 node_3
mended_by_law = reading_of_tokens node_0 node_3 (omega arith) (4, refl) refl (omega arith) 3 0 refl 0 (omega arith) (omega arith)
