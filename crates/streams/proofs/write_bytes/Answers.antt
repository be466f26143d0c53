-- A write adds the bytes of the text that follow those that were written before it.
use Rattle.std.proofs.Common.{◌≡◌, ℕ, ◌+◌, ◌-◌, List, ◌++◌, length, take, drop, arith, le_refl}
use Rattle.std.proofs.KnownBytes.{Appends-trans}
use Rattle.std.proofs.lemmas.Slice.{between_to_end}
use Rattle.std.proofs.Math.Seq.{take-add}
use Rattle.streams.proofs.write_bytes.Goals as goal

-- the front of a list, and then of what follows it
front_grown : (from count : ℕ) (xs : List ℕ) → take (from + count) xs ≡ take from xs ++ take count (take (length xs - from) (drop from xs))
front_grown from count xs = rw (between_to_end xs from (length xs) (le_refl _), take-add from count xs)

pub loop-done-preserved : goal.loop-done-preserved
loop-done-preserved g c =
    let both = Appends-trans _ _ _ _ _ c.loop-done.invariant.1 c.in_ok-count.ensures.bytes in
    (omega (arith, c.in_ok-count.ensures.bound.0), rw (front_grown c.loop-done.done c.in_ok-count.count c.args.text.now) both)
