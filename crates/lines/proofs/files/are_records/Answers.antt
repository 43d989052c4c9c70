use mathlib.Core.Path.{refl, ◌∙◌}
use Rattle.std.proofs.Common.{rules}
use Rattle.std.proofs.lemmas.Iterator.{YieldsList-from_range}
use Rattle.std.proofs.lemmas.Iterator.Search.{all_from_yields_List}
use Rattle.records.specs.States as records
use Rattle.lines.proofs.FileLaws.{records_all}
use Rattle.lines.proofs.files.are_records.Goals as goal

pub returns : goal.returns
returns c =
    all_from_yields_List (records.is_formed records.base c.args.s.now) _ _ _ c.all.ensures.ran (YieldsList-from_range 0 64 64 refl refl) (λ x b q k. search rules)
    ∙ records_all c.args.s.now 64
