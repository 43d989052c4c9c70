use native.Mathlib.Omega.{arith}
use Rattle.writing.proofs.Written.{lengths, put_behind, put_value}
use Rattle.writing.proofs.put_recipient.Goals as goal

pub returns : goal.returns
returns c =
    put_value _ _ _ _
    c.put_head.ensures
    (put_behind _ _ _ _ c.put.ensures c.put-2.ensures (simp lengths (omega arith)))
    (simp lengths)
