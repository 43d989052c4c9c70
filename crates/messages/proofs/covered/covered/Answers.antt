use mathlib.Core.Path.{sym, ap, ◌∙◌}
use Rattle.messages.proofs.Stretches.{cut_at, covered_cut}
use Rattle.messages.proofs.covered.covered.Goals as goal

pub returns : goal.returns
returns c = let m = c.args.message.now in
    c.cut.ensures.0 ∙ ap (cut_at m) c.covered_at-place.ensures.0 ∙ sym (covered_cut m)
