-- What a turn of the program leaves. Assumes nothing.
use Prim.Native.Nat.{ℕ}
use mathlib.Core.Path.{◌≡◌, sym, ap}
use mathlib.Core.Bool.{Bool}
use mathlib.Core.List.{List, [], append-nil}
use Rattle.text.specs.Pages.{Page}
use Rattle.text.specs.Arrivals.{Arrived, arrived, Grows}
use Rattle.lines.specs.Calls.{desk}
use Rattle.lines.specs.Serving.{Turn, turn}

-- nothing more has arrived
pub same : (a : Arrived) → Grows a a
same a = ([], ap (λ (bytes : List ℕ). arrived bytes a.skips) (sym (append-nil a.bytes)))

-- the state of the turn, and behind what it left what has arrived since
pub after : {s : List ℕ} {p : Page} {left : Arrived} {waits : Bool} {t : Turn} (next : Arrived) → turn (desk s p) left waits ≡ t → Grows left next → (s ≡ t.desk.state) × Grows t.left next
after {left = left} {t = t} next e grown =
    let kept : left ≡ t.left = ap (λ (u : Turn). u.left) e in
    (ap (λ (u : Turn). u.desk.state) e, rw (← kept) grown)
