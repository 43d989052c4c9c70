use mathlib.Core.Path.{refl, sym}
use native.Mathlib.Omega.{arith}
use Rattle.octets.proofs.Laws.{length_put}
use Rattle.text.proofs.PageLaws.{said_full, said_part, said_whole}
use Rattle.text.proofs.page.Page.say.Goals as goal

pub returns-then-self : goal.returns-then-self
returns-then-self c = (refl, sym (said_full _ _ c.if-self.true))

pub returns-then-room-text : goal.returns-then-room-text
returns-then-room-text c = (refl, rw (c.copy.ensures, length_put, c.cut.ensures.0) (sym (said_part _ _ (omega arith) (omega arith))))

pub returns : goal.returns
returns c = (refl, rw c.copy-2.ensures (sym (said_whole _ _ (omega arith))))
