use Rattle.std.proofs.Common.{ℕ, ◌≡◌, ◌+◌, ◌-◌, ◌^◌, List, take, drop, ◌∙◌, ap}
use borrow.Rule.Slice.PartMut.{put_mid}
use Rattle.octets.specs.Octets.{bytes}
use Rattle.octets.proofs.Laws.{length_bytes}
use Rattle.octets.proofs.Parts.{part_put}
use Rattle.octets.proofs.Digits.{spelled}
use Rattle.octets.proofs.put.Goals as goal

pub returns : goal.returns
returns g c =
    let k = g.row.WIDTH in
    let s = c.args.s.now in
    let at = c.args.at in
    let v = c.args.v in
    let n : c.size-size.result ≡ 2 ^ k = c.size-size.ensures.0 in
    let vs : c.refill.new.to ≡ bytes k v
    = c.refill.ensures ∙ ap (λ (m : ℕ). take (8 - (8 - m)) (drop (8 - m) c.to_be_bytes-bytes.result)) n
    ∙ ap (λ (xs : List ℕ). take (8 - (8 - 2 ^ k)) (drop (8 - 2 ^ k) xs)) c.to_be_bytes-bytes.ensures ∙ spelled k v c.requires.0 c.requires.2 in
    ap (λ (m : ℕ). put_mid at (at + m - at) s c.refill.new.to) n ∙ ap (λ (xs : List ℕ). put_mid at (at + 2 ^ k - at) s xs) vs
    ∙ part_put s at (2 ^ k) (bytes k v) (length_bytes k v) c.requires.1
