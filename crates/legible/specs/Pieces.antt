-- However the input is torn: what is printed, and the state in the end, are those of the whole input.
use Rattle.std.specs.Prelude.{ℕ, zero, suc, ◌<◌, ◌≤◌, ◌≡◌, true, false, List, [], ◌∷◌, ◌++◌, length, take, ltb}
use Rattle.octets.specs.Tests.{need}
use Rattle.states.specs.Headers.{last_index}
use Rattle.text.specs.Ascii.{ascii}
use Rattle.text.specs.Pages.{Page, page, said}
use Rattle.text.specs.Words.{is_line, line_end, behind_line}
use Rattle.text.specs.Arrivals.{Arrived, arrived, has_line}
use Rattle.refusals.specs.Refusals.{fault_text}
use Rattle.refusals.specs.declared.Fault.{Fault}
use Rattle.lines.specs.Calls.{desk}
use Rattle.lines.specs.Serving.{reply_of, Turn, turned, last_text}
use Rattle.lines.specs.declared.serving.Role.{Role}

-- what is printed, and the state in the end
pub record Told : Type 0 where
  pub text : List ℕ
  pub state : List ℕ

-- the two together
abbrev pub told : List ℕ → List ℕ → Told
told text s = record { text = text; state = s }

-- a text that is printed before
abbrev pub first : List ℕ → Told → Told
first text end = told (text ++ end.text) end.state

-- what is said to the bytes behind the last line feed: they are no line
abbrev pub unended : List ℕ → List ℕ
unended rest =
    need (is_line rest) (fault_text Fault.TooLong ++ ascii "\n")
    (need (ltb 0 (length rest)) []
    (fault_text Fault.NoEnd ++ ascii "\n"))

-- every line of an input is answered on the state that the one before it left; the first argument bounds their number
unfoldable pub answers : ℕ → Role → List ℕ → List ℕ → Told
answers zero role s input = told (unended input) s
answers (suc n) role s input =
    need (has_line input) (told (unended input) s)
    (first ((reply_of role s (take (line_end input) input)).text ++ ascii "\n") (answers n role (reply_of role s (take (line_end input) input)).state (behind_line input)))

-- no input has more lines than bytes
abbrev pub answers_to : Role → List ℕ → List ℕ → Told
answers_to role s input = answers (length input) role s input

-- the text of a page
abbrev pub shown : Page → List ℕ
shown p = take p.length p.bytes

-- a turn of the program, on a page that is written from its start
abbrev pub turn_on : Role → List ℕ → List ℕ → Arrived → Turn
turn_on role out s a = turned role (desk s (page out 0)) a

-- A run of the program: from a state and what has arrived, with the pieces that it has still to read, to what it printed and the state in the
-- end. After each turn the text of its page is printed. Where the turn waits, the next piece is put behind what is left; or the input ends,
-- and what is said then has a page of its own. A read that is interrupted brings an empty piece.
pub data Run (role : Role) : List ℕ → Arrived → List (List ℕ) → Told → Type 0 where
  goes_on : {s : List ℕ} {a : Arrived} {pieces : List (List ℕ)} {end : Told} (out : List ℕ) → 256 ≤ length out → (turn_on role out s a).waits ≡ false
      → Run role (turn_on role out s a).desk.state (turn_on role out s a).left pieces end
      → Run role s a pieces (first (shown (turn_on role out s a).desk.page) end)
  reads : {s : List ℕ} {a : Arrived} {pieces : List (List ℕ)} {end : Told} (out piece : List ℕ) → 256 ≤ length out → (turn_on role out s a).waits ≡ true
      → Run role (turn_on role out s a).desk.state (arrived ((turn_on role out s a).left.bytes ++ piece) (turn_on role out s a).left.skips) pieces end
      → Run role s a (piece ∷ pieces) (first (shown (turn_on role out s a).desk.page) end)
  ends : {s : List ℕ} {a : Arrived} (out last : List ℕ) → 256 ≤ length out → 256 ≤ length last → (turn_on role out s a).waits ≡ true
      → Run role s a [] (first (shown (turn_on role out s a).desk.page) (told (shown (said (page last 0) (last_text (turn_on role out s a).left))) (turn_on role out s a).desk.state))

-- the pieces as one
unfoldable pub whole : List (List ℕ) → List ℕ
whole [] = []
whole (piece ∷ pieces) = piece ++ whole pieces

-- a state of which every answer is printed in full: of the ledger's, the last funding index has two bytes, as it has wherever states are bytes
abbrev pub Fits : Role → List ℕ → Type 0
Fits Role.Machine s = Unit {0}
Fits Role.Ledger s = last_index s ≤ 65_535

-- what is promised of an input that arrives in pieces
pub record Whole : Type 0 where
  -- a program that starts on a state prints the answers to the whole input, and leaves the state that they leave, whatever the pieces are
  pub heard : {role : Role} {s : List ℕ} {pieces : List (List ℕ)} {end : Told} → Fits role s → Run role s (arrived [] false) pieces end → end ≡ answers_to role s (whole pieces)
  -- a turn that does not wait leaves less than it found, so that none goes on for ever
  pub shrinking : (role : Role) (out s : List ℕ) (a : Arrived) → 256 ≤ length out → (turn_on role out s a).waits ≡ false → length (turn_on role out s a).left.bytes < length a.bytes
  -- and every input has a run to its end
  pub ending : (role : Role) (s : List ℕ) (pieces : List (List ℕ)) → (end : Told) × Run role s (arrived [] false) pieces end
