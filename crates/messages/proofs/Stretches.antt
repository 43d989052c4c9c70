-- The stretch that votes cover is cut out by its place and length. Assumes nothing.
use Prim.Native.Nat.{ℕ}
use mathlib.Core.Path.{◌≡◌, refl}
use mathlib.Core.Bool.{Bool, true, false, ◌||◌}
use mathlib.Core.List.{List, []}
use Rattle.octets.specs.Octets.{cut}
use Rattle.octets.specs.Tests.{need}
use Rattle.wire.specs.Fields.{size, laid}
use Rattle.wire.specs.Messages.{order_fields, certificate_fields, inside}
use Rattle.wire.specs.Readers.{is_body, covered, nowhere, covered_at}
use Rattle.wire.specs.declared.answers.Stretch.{Stretch}

-- the bytes of a stretch
abbrev pub cut_at : List ℕ → Stretch → List ℕ
cut_at m s = cut m s.place s.length

pub covered_cut : (m : List ℕ) → covered m ≡ cut m (covered_at m).place (covered_at m).length
unfolding covered covered_at
covered_cut m = go (laid m order_fields || laid m certificate_fields) (is_body (inside m))
  where
    go : (t u : Bool) → need t [] (need u [] (inside m)) ≡ cut_at m (need t nowhere (need u nowhere (record { place = 3; length = size m 0 })))
    go true true = refl
    go true false = refl
    go false u = refl
