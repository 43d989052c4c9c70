use Prim.Native.Nat.{◌+◌}
use mathlib.Core.Path.{sym, ◌∙◌}
use native.Mathlib.Omega.{arith}
use Rattle.wire.proofs.Reached.{no_field, a_field}
use Rattle.wire.proofs.fields.Reader.field.Goals as goal

pub returns-then-end-lt3 : goal.returns-then-end-lt3
returns-then-end-lt3 c = no_field _ _ _ _ _ (λ p. omega (arith, p.whole))

pub returns-then-end-at : goal.returns-then-end-at
returns-then-end-at c = no_field _ _ _ _ _ (λ p. omega (arith, p.whole))

pub returns-then-get-tag : goal.returns-then-get-tag
returns-then-get-tag c = no_field _ _ _ _ _ (λ p. c.if-get-tag.true (c.get.ensures.0 ∙ p.tagged))

pub returns-then-size-least : goal.returns-then-size-least
returns-then-size-least c = no_field _ _ _ _ _ (λ p. omega (arith, p.long))

pub returns-then-most-size : goal.returns-then-most-size
returns-then-most-size c = no_field _ _ _ _ _ (λ p. omega (arith, p.short))

pub returns-then-end-start : goal.returns-then-end-start
returns-then-end-start c = no_field _ _ _ _ _ (λ p. omega (arith, p.whole))

pub returns : goal.returns
returns c =
    a_field _ _ _ _ _ (c.args.self.at + 3 + c.size_at-size.result) (omega arith) (sym c.get.ensures.0 ∙ c.if-get-tag.false) (omega arith) (omega arith) (omega arith) (omega arith)
