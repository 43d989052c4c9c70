use mathlib.Core.Path.{sym, ◌∙◌}
use native.Mathlib.Omega.{arith}
use borrow.Author.Tests.{le-leb, lt-leb, eq-eqb, ne_eqb}
use Rattle.wire.specs.Messages.{order_bytes}
use Rattle.wire.specs.Writers.{write_order}
use Rattle.writing.proofs.Written.{lengths, put_behind, put_value, length_body, length_order, writes_small, writes_room}
use Rattle.writing.proofs.write_order.Goals as goal

pub returns-then-not-in_range : goal.returns-then-not-in_range
unfolding write_order
returns-then-not-in_range c = simp (sym c.in_range.ensures ∙ c.if-not-in_range.true)

pub returns-then-note-gt32 : goal.returns-then-note-gt32
unfolding write_order
returns-then-note-gt32 c = simp ((sym c.in_range.ensures ∙ c.if-not-in_range.false), lt-leb _ _ c.if-note-gt32.true)

pub returns-then-signature-ne64 : goal.returns-then-signature-ne64
unfolding write_order
returns-then-signature-ne64 c = simp ((sym c.in_range.ensures ∙ c.if-not-in_range.false), le-leb _ _ c.if-note-gt32.false, ne_eqb _ _ c.if-signature-ne64.true)

pub returns-then-out-size : goal.returns-then-out-size
unfolding write_order
returns-then-out-size c =
    simp ((sym c.in_range.ensures ∙ c.if-not-in_range.false), le-leb _ _ c.if-note-gt32.false, eq-eqb _ _ c.if-signature-ne64.false)
    (writes_small _ _ (length_order _ _ c.args.signature.now c.if-signature-ne64.false) c.if-out-size.true)

pub returns : goal.returns
unfolding write_order order_bytes
returns c =
    let fits = c.if-signature-ne64.false in
    simp ((sym c.in_range.ensures ∙ c.if-not-in_range.false), le-leb _ _ c.if-note-gt32.false, eq-eqb _ _ fits)
    (writes_room _ _ (length_order _ _ c.args.signature.now fits) c.if-out-size.false
    (put_behind _ _ _ _
    (put_value _ _ _ _ c.put_head.ensures c.put_body.ensures (length_body _ _))
    c.put_part.ensures
    (simp (lengths, length_body) (omega arith))))
