use mir.Facts.{to_z-of_z}
use Rattle.text.specs.Ascii.{ascii}
use Rattle.text.proofs.PageLaws.{says_then, magnitude_abs, signed_below, signed_above}
use Rattle.text.proofs.page.Page.say_signed.Goals as goal
use Rattle.text.proofs.page.Page.say_signed.Goals.{then-n-lt0, else-n-lt0}

pub returns : goal.returns
unfolding ascii
returns c =
    let back = to_z-of_z c.ranges.n in
    let digits = rw (c.unsigned_abs.ensures.value, back, magnitude_abs) at c.say_decimal.ensures in
    elim c.if-n-lt0.branch [
      | then-n-lt0 w ↦ rw (signed_below c.args.n (rw back at w.if-n-lt0.true)) (says_then _ _ _ w.say.ensures (rw w.self-is at digits))
      | else-n-lt0 w ↦ rw (signed_above c.args.n (rw back at w.if-n-lt0.false)) (rw w.self-is at digits)
    ]
