-- Lines that arrive together: each is answered in its turn.
use Rattle.std.specs.Prelude.{ℕ, zero, suc, ◌+◌, Bool, true, false, cond, List, [], ◌++◌, length, take, drop, leb, ltb, ◌≡◌}
use Rattle.octets.specs.Tests.{need}
use Rattle.text.specs.Ascii.{ascii}
use Rattle.text.specs.Pages.{Page, said}
use Rattle.text.specs.declared.page.Page.{Page as LentPage}
use Rattle.text.specs.Words.{line_end}
use Rattle.text.specs.Arrivals.{Arrived, has_line, next_of, passing, released, skipped}
use Rattle.refusals.specs.Refusals.{fault_text}
use Rattle.lines.specs.Calls.{Reply, machine_line, ledger_line, Desk, desk, lent}
use Rattle.text.specs.declared.arrivals.Next.{Next}
use Rattle.refusals.specs.declared.Fault.{Fault}
use Rattle.lines.specs.declared.serving.Role.{Role}

-- who answers
abbrev pub reply_of : Role → List ℕ → List ℕ → Reply
reply_of Role.Machine s line = machine_line s line
reply_of Role.Ledger s line = ledger_line s line

-- one line answered; a line feed ends the answer
unfoldable pub answered : Role → Desk → List ℕ → Desk
answered role d line = desk (reply_of role d.state line).state (said d.page ((reply_of role d.state line).text ++ ascii "\n"))

-- the same lent bytes, and what is on the desk once they and the state lie there
abbrev pub OnDesk : List ℕ → LentPage → LentPage → Desk → Type 0
OnDesk state before after d = (after.bytes.ghost_name ≡ before.bytes.ghost_name) × (desk state (lent after) ≡ d)

-- no answer is longer than 256 bytes: where less room is left, the page is full
abbrev pub has_room : Page → Bool
has_room p = leb (p.length + 256) (length p.bytes)

-- how much of the input was taken, and what stands on the desk then
pub record Served : Type 0 where
  pub taken : ℕ
  pub desk : Desk

-- the two together, as a contract states them
abbrev pub at_desk : ℕ → Desk → Served
at_desk taken d = record { taken = taken; desk = d }

-- the first line of what is left of an input
abbrev pub next_line : List ℕ → ℕ → List ℕ
next_line input from = take (line_end (drop from input)) (drop from input)

-- the lines of an input from a place on, answered one after another as long as there is a whole line and room; the first argument
-- bounds their number
unfoldable pub served_from : ℕ → Role → List ℕ → ℕ → Desk → Served
served_from zero role input from d = at_desk from d
served_from (suc n) role input from d =
    need (has_room d.page) (at_desk from d)
    (need (has_line (drop from input)) (at_desk from d)
    (served_from n role input (from + line_end (drop from input) + 1) (answered role d (next_line input from))))

-- no input has more lines than bytes
abbrev pub served : Role → List ℕ → Desk → Served
served role input d = served_from (length input) role input 0 d

-- what a turn leaves: state and page, what has arrived and is not done with, and whether more has to arrive before the next turn
pub record Turn : Type 0 where
  pub desk : Desk
  pub left : Arrived
  pub waits : Bool

-- the three together, as a contract states them
abbrev pub turn : Desk → Arrived → Bool → Turn
turn d left waits = record { desk = d; left = left; waits = waits }

-- the lines that are whole are answered, as many as there is room for
abbrev pub answered_turn : Role → Desk → Arrived → Turn
answered_turn role d a = turn (served role a.bytes d).desk (released (served role a.bytes d).taken a) false

-- a line feed ends the refusal of a line that is not handed to a call
abbrev pub refused : Desk → Fault → Desk
refused d fault = desk d.state (said d.page (fault_text fault ++ ascii "\n"))

-- what is done with the bytes that have arrived
unfoldable pub turn_of : Role → Desk → Arrived → Next → Turn
turn_of role d a Next.Answer = answered_turn role d a
turn_of role d a Next.Await = turn d a true
turn_of role d a Next.Refuse = turn (refused d Fault.TooLong) passing true
turn_of role d a Next.Skip = turn d (skipped a) false
turn_of role d a Next.Drop = turn d passing true

abbrev pub turned : Role → Desk → Arrived → Turn
turned role d a = turn_of role d a (next_of a)

-- what is said at the end of the input: a line without an end may be half of another. One that was refused as too long has its answer
abbrev pub last_text : Arrived → List ℕ
last_text a = cond a.skips [] (need (ltb 0 (length a.bytes)) [] (fault_text Fault.NoEnd ++ ascii "\n"))
