use Rattle.std.proofs.Common.{◌≡◌, ◌∙◌, ap, List, ℕ, ◌+◌, ◌-◌, replicate, length-take, length-drop, arith}
use lib.ListN.{length, take, drop, length-replicate}
use borrow.Rule.Slice.PartMut.{put_mid}
use Rattle.octets.proofs.Parts.{part_put}
use Rattle.octets.proofs.clear.Goals as goal

pub returns : goal.returns
returns c =
    let k = c.args.at + c.args.n - c.args.at in
    let n : length (take k (drop c.args.at c.args.s.now)) ≡ c.args.n = simp (length-take, length-drop) (omega arith) in
    ap (λ (vs : List ℕ). put_mid c.args.at (c.args.at + c.args.n - c.args.at) c.args.s.now vs) (c.fill.ensures.after (λ y e. e) ∙ ap (λ (m : ℕ). replicate m 0) n)
    ∙ part_put c.args.s.now c.args.at c.args.n (replicate c.args.n 0) (length-replicate c.args.n 0) c.requires
