-- Laws of serving: room on a page, an answer and the line feed behind it, and what is left of an input, line by line. Assumes nothing.
use Prim.Native.Nat.{ℕ, zero, suc, ◌+◌, ◌-◌, ◌≤◌, ◌<◌}
use mathlib.Core.Path.{◌≡◌, refl, sym, ap, ◌∙◌}
use mathlib.Core.Bool.{true, false}
use mathlib.Core.List.{List, ◌++◌}
use native.Mathlib.Omega.{arith}
use lib.ListN.{length, take, drop, length-drop}
use borrow.Author.Tests.{lt-ltb, le-ltb}
use Rattle.octets.specs.Octets.{cut}
use Rattle.text.specs.Ascii.{ascii}
use Rattle.text.specs.Pages.{Page, said}
use Rattle.text.specs.Words.{line_end}
use Rattle.text.specs.Arrivals.{Arrived, next_of, released}
use Rattle.text.proofs.PageLaws.{says_then, said_room}
use Rattle.text.proofs.WordLaws.{cut_rest}
use Rattle.lines.specs.Calls.{Desk, desk}
use Rattle.lines.specs.Serving.{reply_of, answered, has_room, Served, at_desk, next_line, served_from, served, Turn, turn, answered_turn, turn_of, turned}
use Rattle.text.specs.declared.arrivals.Next.{Next}
use Rattle.lines.specs.declared.serving.Role.{Role}

-- a line is answered once a line feed stands behind its reply
pub reply_ends : {A : Type 0} {i j k : A} {t : List ℕ} {q r : Page} (role : Role) (s line : List ℕ) (p : Page)
    → (t ≡ (reply_of role s line).state) × ((j ≡ i) × (q ≡ said p (reply_of role s line).text)) → (k ≡ j) × (r ≡ said q (ascii "\n")) → (k ≡ i) × (desk t r ≡ answered role (desk s p) line)
unfolding answered
reply_ends role s line p e f = let whole = says_then _ _ _ e.1 f in (whole.0, λ i. desk (e.0 i) (whole.1 i))

-- no answer makes the page longer or shorter
pub answered_room : {e : Desk} {n : ℕ} (role : Role) (d : Desk) (line : List ℕ) → e ≡ answered role d line → length d.page.bytes ≡ n → length e.page.bytes ≡ n
unfolding answered
answered_room role d line e h = ap (λ (d : Desk). length d.page.bytes) e ∙ said_room d.page ((reply_of role d.state line).text ++ ascii "\n") ∙ h

-- nothing more is served where there is no room or no whole line, whatever bounds the number of lines
served_stops : (n : ℕ) (role : Role) (input : List ℕ) (from : ℕ) (d : Desk) → has_room d.page ≡ false → served_from n role input from d ≡ at_desk from d
unfolding served_from
served_stops zero role input from d full = refl
served_stops (suc n) role input from d full = rw full

served_waits : (n : ℕ) (role : Role) (input : List ℕ) (from : ℕ) (d : Desk) → has_room d.page ≡ true → length (drop from input) ≤ line_end (drop from input) → served_from n role input from d ≡ at_desk from d
unfolding served_from
served_waits zero role input from d room part = refl
served_waits (suc n) role input from d room part = rw (room, le-ltb _ _ part)

-- a whole line is answered, and what is behind it is left
served_turns : (n : ℕ) (role : Role) (input : List ℕ) (from : ℕ) (d : Desk) → has_room d.page ≡ true → line_end (drop from input) < length (drop from input)
    → served_from (suc n) role input from d ≡ served_from n role input (from + line_end (drop from input) + 1) (answered role d (next_line input from))
unfolding served_from
served_turns n role input from d room whole = rw (room, lt-ltb _ _ whole)

-- serving the input from a place on gives `all`; some bound on the lines that are left is enough for its bytes
abbrev pub Left : Role → List ℕ → ℕ → Desk → Served → Type 0
Left role input from d all = (n : ℕ) × (length input ≤ from + n) × (served_from n role input from d ≡ all)

-- a loop over lines stops where the page is full or where what is left of the input has no whole line, and goes on behind a line that it answered
module _ {all : Served} (role : Role) (input : List ℕ) (from : ℕ) (d : Desk) (left : Left role input from d all) where
  pub left_full : has_room d.page ≡ false → at_desk from d ≡ all
  left_full full = sym (served_stops left.0 role input from d full) ∙ left.2

  module _ (rest : List ℕ) (end : ℕ) (room : has_room d.page ≡ true) (r : rest ≡ cut input from (length input - from)) (e : end ≡ line_end rest) where
    behind : drop from input ≡ rest
    behind = sym (r ∙ cut_rest input from)

    pub left_part : end ≡ length rest → at_desk from d ≡ all
    left_part last = sym (served_waits left.0 role input from d room (rw (behind, ← e, last) (omega arith))) ∙ left.2

    pub left_line : (line : List ℕ) (next : Desk) → end < length rest → line ≡ take end rest → next ≡ answered role d line → Left role input (from + (end + 1)) next all
    left_line line next whole l a = go left.0 left.1 left.2
      where
        go : (n : ℕ) → length input ≤ from + n → served_from n role input from d ≡ all → Left role input (from + (end + 1)) next all
        go zero h q = absurd (omega (arith, ap length behind, length-drop from input))
        go (suc n) h q =
            let place : from + end + 1 ≡ from + (end + 1) = omega arith in
            let turn = rw (behind, ← e, place, ← l, ← a) at (served_turns n role input from d room (rw (behind, ← e) whole)) in
            (n, omega arith, sym turn ∙ q)

-- the lines that were served are done with
pub answered_turn_lem : {bytes : List ℕ} {taken : ℕ} {q : Desk} {left : Arrived} (role : Role) (d : Desk) (a : Arrived) → bytes ≡ a.bytes → at_desk taken q ≡ served role bytes d → left ≡ released taken a → turn q left false ≡ answered_turn role d a
answered_turn_lem {bytes} {taken} {q} {left} role d a part all rest =
    ap (λ (l : Arrived). turn q l false) rest
    ∙ ap (λ (v : Served). turn v.desk (released v.taken a) false) (all ∙ ap (λ (b : List ℕ). served role b d) part)

-- a turn goes by the step that is next
pub turn_by : {q : Turn} {next : Next} (role : Role) (d : Desk) (a : Arrived) (step : Next) → next ≡ next_of a → next ≡ step → q ≡ turn_of role d a step → q ≡ turned role d a
turn_by role d a step e told f = f ∙ ap (turn_of role d a) (sym told ∙ e)
