-- However the input is torn, the answers are those to the whole. Assumes nothing.
use Prim.Native.Nat.{ℕ, zero, suc, ◌≤◌}
use mathlib.Core.Path.{◌≡◌, refl, sym, ap, ◌∙◌}
use mathlib.Core.Bool.{Bool, true, false}
use mathlib.Core.List.{List, [], ◌∷◌, ◌++◌, append_assoc}
use native.Mathlib.Omega.{arith}
use lib.Dec.{lit≤}
use lib.ListN.{length, replicate}
use Rattle.text.specs.Arrivals.{Arrived, arrived}
use Rattle.lines.specs.declared.serving.Role.{Role}
use Rattle.legible.specs.Pieces.{Told, first, Run, whole, Fits, Whole, shown, turn_on}
use Rattle.legible.proofs.Turns.{told_from, turns, ends, shrinks}

-- a piece is behind what has arrived before it, or before what is still to come
joins : (role : Role) (s : List ℕ) (a : Arrived) (piece more : List ℕ) → told_from role s (arrived (a.bytes ++ piece) a.skips) more ≡ told_from role s a (piece ++ more)
joins role s a piece more = rw (append_assoc a.bytes piece more)

-- from whatever has arrived
runs : (role : Role) (s : List ℕ) (a : Arrived) (pieces : List (List ℕ)) (end : Told) → Run role s a pieces end → Fits role s → end ≡ told_from role s a (whole pieces)
unfolding whole
runs role s a pieces end (Run.goes_on {s = t} {a = b} {pieces = later} {end = last} out room waits rest) fits =
    let turn = turns role out t b (whole later) room fits in
    ap (first (shown (turn_on role out t b).desk.page)) (runs role _ _ later last rest turn.1) ∙ turn.0
runs role s a pieces end (Run.reads {s = t} {a = b} {pieces = later} {end = last} out piece room waits rest) fits =
    let turn = turns role out t b (piece ++ whole later) room fits in
    let left = turn_on role out t b in
    ap (first (shown left.desk.page)) (runs role _ _ later last rest turn.1 ∙ joins role left.desk.state left.left piece (whole later)) ∙ turn.0
runs role s a pieces end (Run.ends {s = t} {a = b} out last room last-room waits) fits =
    let turn = turns role out t b [] room fits in
    ap (first (shown (turn_on role out t b).desk.page)) (sym (ends role out last t b last-room waits)) ∙ turn.0

-- a run to the end, from whatever has arrived
abbrev Ending : Role → List (List ℕ) → List ℕ → Arrived → Type 0
Ending role pieces s a = (end : Told) × Run role s a pieces end

-- a page that is large enough
blank : List ℕ
blank = replicate 256 0

room : 256 ≤ length blank
unfolding blank
room = lit≤ tt

-- turns go on until one waits
until : (role : Role) (pieces : List (List ℕ)) → ((s : List ℕ) (a : Arrived) → (turn_on role blank s a).waits ≡ true → Ending role pieces s a)
    → (n : ℕ) (s : List ℕ) (a : Arrived) → length a.bytes ≤ n → Ending role pieces s a
until role pieces waiting zero s a h = go (turn_on role blank s a).waits refl
  where
    go : (t : Bool) → (turn_on role blank s a).waits ≡ t → Ending role pieces s a
    go true e = waiting s a e
    go false e = absurd (omega (arith, h, shrinks role blank s a room e))
until role pieces waiting (suc n) s a h = go (turn_on role blank s a).waits refl (λ k. until role pieces waiting n _ _ k)
  where
    go : (t : Bool) → (turn_on role blank s a).waits ≡ t
        → (length (turn_on role blank s a).left.bytes ≤ n → Ending role pieces (turn_on role blank s a).desk.state (turn_on role blank s a).left)
        → Ending role pieces s a
    go true e more = waiting s a e
    go false e more = let rest = more (omega (arith, h, shrinks role blank s a room e)) in (_, Run.goes_on blank room e rest.1)

ending : (role : Role) (pieces : List (List ℕ)) (s : List ℕ) (a : Arrived) → Ending role pieces s a
ending role [] s a = until role [] (λ t b e. (_, Run.ends blank blank room room e)) (length a.bytes) s a (omega arith)
ending role (piece ∷ pieces) s a =
    until role (piece ∷ pieces) (λ t b e. let rest = ending role pieces _ _ in (_, Run.reads blank piece room e rest.1)) (length a.bytes) s a (omega arith)

pub heard_whole : Whole
heard_whole = record { heard = λ fits run. runs _ _ _ _ _ run fits; shrinking = λ role out s a room waits. shrinks role out s a room waits; ending = λ role s pieces. ending role pieces s (arrived [] false) }
