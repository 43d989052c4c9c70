-- The state was noted already.
use Rattle.std.proofs.lemmas.Bool.Decides.{Decides-eqb}
use Rattle.std.proofs.lemmas.Slice.Eq.{slice_eq-Decides}
use Rattle.keeping.proofs.SavingLaws.{noted_same}
use Rattle.keeping.proofs.saving.save.Goals as goal

pub returns-then-eq : goal.returns-then-eq
returns-then-eq c = noted_same _ _ ((slice_eq-Decides Decides-eqb _ _ _ c.eq.ensures).0 c.if-eq.true)
