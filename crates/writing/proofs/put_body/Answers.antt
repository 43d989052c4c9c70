use native.Mathlib.Omega.{arith}
use borrow.Author.Rules.{rules}
use Rattle.wire.specs.Messages.{body_bytes}
use Rattle.writing.proofs.Written.{lengths, put_behind, payment_fits}
use Rattle.writing.proofs.put_body.Goals as goal

pub put_number-requires : goal.put_number-requires
put_number-requires c = let fits = payment_fits _ c.requires.1 in search rules

pub put_recipient-requires : goal.put_recipient-requires
put_recipient-requires c = let fits = payment_fits _ c.requires.1 in search rules

pub put_number-requires-2 : goal.put_number-requires-2
put_number-requires-2 c = let fits = payment_fits _ c.requires.1 in search rules

pub put_number-requires-3 : goal.put_number-requires-3
put_number-requires-3 c = let fits = payment_fits _ c.requires.1 in search rules

pub returns : goal.returns
unfolding body_bytes
returns c =
    put_behind _ _ _ _
    c.put_number.ensures
    (put_behind _ _ _ _
    c.put_recipient.ensures
    (put_behind _ _ _ _
    c.put_number-2.ensures
    (put_behind _ _ _ _ c.put_number-3.ensures c.put_part.ensures (simp lengths (omega arith)))
    (simp lengths (omega arith)))
    (simp lengths (omega arith)))
    (simp lengths (omega arith))
