-- A read puts its bytes behind those that were read before it.
use Rattle.std.proofs.Common.{◌≡◌, ℕ, ◌+◌, ◌≤◌, List, ◌++◌, length, take, arith, drop_at, length-take-le}
use Rattle.std.proofs.KnownBytes.{Consumes-trans}
use Rattle.std.proofs.lemmas.List.{take_at, take-append-le}
use Rattle.std.proofs.Math.Seq.{take-add}
use borrow.Rule.Slice.PartMut.{put_mid, post_of}
use Rattle.streams.proofs.read_bytes.Goals as goal

-- the front of a list whose part from some place on was written
take-put_mid_from : (from room count : ℕ) (xs part : List ℕ) → from ≤ length xs → count ≤ length part
    → take (from + count) (put_mid from room xs part) ≡ take from xs ++ take count part
take-put_mid_from from room count xs part within fits =
    let front = take from xs in
    let behind = part ++ post_of from room xs in
    let exact = length-take-le from xs within in
    rw (take-add from count (front ++ behind), take_at front behind from exact, drop_at front behind from exact, take-append-le count part (post_of from room xs) fits)

pub loop-done-preserved : goal.loop-done-preserved
loop-done-preserved g c =
    let both = Consumes-trans _ _ _ _ _ c.loop-done.invariant.1 c.in_ok-count.ensures.bytes.0 in
    (omega (arith, c.in_ok-count.ensures.bound.0), rw (take-put_mid_from _ _ _ _ _ c.loop-done.invariant.0 c.in_ok-count.ensures.bound.0) both)
