-- What a read put behind what is held is what it took from the input.
use Rattle.std.proofs.Common.{◌≡◌, ℕ, ◌+◌, ◌-◌, ◌≤◌, List, ◌++◌, rules, length, take, sym, ap, ap₂, ◌∙◌, subst, le_refl, drop_at, length-take-le}
use Rattle.std.proofs.lemmas.Slice.{take-put_mid_below}
use Rattle.std.specs.Io.KnownBytes.{Consumes}
use Rattle.std.proofs.KnownBytes.{Consumes-trans}
use borrow.Rule.Slice.PartMut.{put_mid, post_of}
use lib.Seq.{take-add, take-append-le}
use Rattle.command_io.proofs.input.read_input.Goals as goal

take-put_mid-more : (a k n : ℕ) (xs ys : List ℕ) → a ≤ length xs → n ≤ length ys → take (a + n) (put_mid a k xs ys) ≡ take a xs ++ take n ys
take-put_mid-more a k n xs ys within fits =
    take-add a n (put_mid a k xs ys)
    ∙ ap₂ ◌++◌ (take-put_mid_below a k xs ys a (le_refl a) within)
    (ap (take n) (drop_at (take a xs) (ys ++ post_of a k xs) a (length-take-le a xs within)) ∙ take-append-le n ys (post_of a k xs) fits)

pub loop-held-preserved : goal.loop-held-preserved
loop-held-preserved g c =
    let held = c.loop-held.held in
    let within = c.loop-held.invariant.within in
    let joined = take-put_mid-more held (length c.loop-held.bytes - held) c.in_ok-count.count c.loop-held.bytes c.read.new.buf within c.in_ok-count.ensures.bound.0 in
    record { within = search rules; read = subst (Consumes _ _) (sym joined) (Consumes-trans _ _ _ _ _ c.loop-held.invariant.read c.in_ok-count.ensures.bytes.0) }
