use Rattle.std.proofs.Common.{ℕ, ◌≡◌, ◌-◌, ◌^◌, List, [], ◌∷◌, ◌∙◌, ap, arith}
use borrow.Rule.Slice.PartMut.{put_mid}
use Rattle.std.specs.Int.{w64, from_be_bytes}
use Rattle.octets.specs.Octets.{number, cut}
use Rattle.octets.proofs.Digits.{cut_listed, numbered, number_fits}
use Rattle.octets.proofs.get.Goals as goal

-- the eight bytes that are read, of which the last n are vs
abbrev eight : ℕ → List ℕ → List ℕ
eight n vs = put_mid (8 - n) (8 - (8 - n)) (0 ∷ 0 ∷ 0 ∷ 0 ∷ 0 ∷ 0 ∷ 0 ∷ 0 ∷ []) vs

pub returns : goal.returns
returns g c =
    let k = g.row.WIDTH in
    let s = c.args.s.now in
    let at = c.args.at in
    let n : c.size-size.result ≡ 2 ^ k = c.size-size.ensures.0 in
    let vs = c.refill.ensures ∙ c.cut.ensures.0 ∙ ap (λ (m : ℕ). cut s at m) n ∙ cut_listed k s at c.requires.1 in
    let e : c.from_be_bytes.result ≡ number k s at
    = c.from_be_bytes.ensures ∙ ap (λ (m : ℕ). from_be_bytes w64 (eight m c.refill.new.to)) n ∙ ap (λ (xs : List ℕ). from_be_bytes w64 (eight (2 ^ k) xs)) vs ∙ numbered k s at c.requires.0 in
    (e, rw e (number_fits k s at c.requires.0 (λ i. omega (arith, c.type_inv.s i))))
