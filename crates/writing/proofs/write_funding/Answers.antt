use mathlib.Core.Path.{sym, ◌∙◌}
use borrow.Author.Rules.{rules}
use Rattle.wire.specs.Messages.{funding_bytes}
use Rattle.wire.specs.Writers.{write_funding}
use Rattle.writing.proofs.Written.{lengths, put_behind, length_funding, writes_small, writes_room, funding_fits}
use Rattle.writing.proofs.write_funding.Goals as goal

pub returns-then-not-in_range : goal.returns-then-not-in_range
unfolding write_funding
returns-then-not-in_range c = simp (sym c.in_range.ensures ∙ c.if-not-in_range.true)

pub returns-then-out-lt16 : goal.returns-then-out-lt16
unfolding write_funding
returns-then-out-lt16 c = simp (sym c.in_range.ensures ∙ c.if-not-in_range.false) (writes_small _ _ (length_funding _) c.if-out-lt16.true)

pub put_number-requires : goal.put_number-requires
put_number-requires c = let fits = funding_fits _ (sym c.in_range.ensures ∙ c.if-not-in_range.false) in search rules

pub put_number-requires-2 : goal.put_number-requires-2
put_number-requires-2 c = let fits = funding_fits _ (sym c.in_range.ensures ∙ c.if-not-in_range.false) in search rules

pub put_number-requires-3 : goal.put_number-requires-3
put_number-requires-3 c = let fits = funding_fits _ (sym c.in_range.ensures ∙ c.if-not-in_range.false) in search rules

pub returns : goal.returns
unfolding write_funding funding_bytes
returns c =
    simp (sym c.in_range.ensures ∙ c.if-not-in_range.false)
    (writes_room _ _ (length_funding _) c.if-out-lt16.false
    (put_behind _ _ _ _
    c.put_number.ensures
    (put_behind _ _ _ _ c.put_number-2.ensures c.put_number-3.ensures (simp lengths))
    (simp lengths)))
