use Rattle.std.proofs.Common.{◌∙◌, ap, refl, List, ℕ, length, ◌+◌, ◌-◌}
use borrow.Rule.Slice.PartMut.{put_mid}
use Rattle.octets.proofs.Parts.{part_put}
use Rattle.octets.proofs.copy.Goals as goal

pub returns : goal.returns
returns c = ap (λ (vs : List ℕ). put_mid c.args.at (c.args.at + length c.args.src.now - c.args.at) c.args.s.now vs) c.copy_from_slice.ensures.after ∙ part_put c.args.s.now c.args.at _ c.args.src.now refl c.requires
