-- What stands on a page with room: an answer with its line feed, or a refusal. Assumes nothing.
use Prim.Native.Nat.{ℕ, ◌+◌, ◌≤◌}
use mathlib.Core.Path.{◌≡◌, ap, ◌∙◌}
use mathlib.Core.Bool.{true}
use mathlib.Core.List.{List, ◌++◌}
use native.Mathlib.Omega.{arith}
use lib.ListN.{length, length-append}
use lib.Seq.{take-add}
use borrow.Author.Tests.{leb-true}
use Rattle.octets.specs.Octets.{put}
use Rattle.octets.proofs.Laws.{cut_put, cut_put_out}
use Rattle.text.specs.Ascii.{ascii}
use Rattle.text.specs.Pages.{Page, said}
use Rattle.text.proofs.PageLaws.{said_whole}
use Rattle.lines.specs.Calls.{Desk}
use Rattle.lines.specs.Serving.{reply_of, answered, has_room}
use Rattle.lines.specs.declared.serving.Role.{Role}
use Rattle.legible.specs.Theorems.{behind}
use Rattle.legible.specs.Pieces.{Fits, shown}
use Rattle.legible.proofs.Short.{machine_short, ledger_short}

-- whoever answers
reply_short : (role : Role) (s line : List ℕ) → Fits role s → length (reply_of role s line).text ≤ 255
reply_short Role.Machine s line fits = machine_short s line
reply_short Role.Ledger s line fits = ledger_short s line fits

-- there is room for the answer and its line feed
answer_fits : (role : Role) (d : Desk) (line : List ℕ) → Fits role d.state → has_room d.page ≡ true
    → d.page.length + length ((reply_of role d.state line).text ++ ascii "\n") ≤ length d.page.bytes
unfolding ascii
answer_fits role d line fits room =
    let text = (reply_of role d.state line).text in
    let l : length (text ++ ascii "\n") ≡ length text + 1 = length-append text (ascii "\n") in
    omega (arith, l, reply_short role d.state line fits, leb-true (d.page.length + 256) (length d.page.bytes) room)

pub said_answer : (role : Role) (d : Desk) (line : List ℕ) → Fits role d.state → has_room d.page ≡ true
    → (answered role d line).page ≡ behind d.page ((reply_of role d.state line).text ++ ascii "\n")
unfolding answered
said_answer role d line fits room = said_whole d.page ((reply_of role d.state line).text ++ ascii "\n") (answer_fits role d line fits room)

-- a text that fits is the last that the page shows
pub shown_behind : (p : Page) (text : List ℕ) → p.length + length text ≤ length p.bytes → shown (behind p text) ≡ shown p ++ text
shown_behind p text h =
    take-add p.length (length text) (put p.bytes p.length text)
    ∙ rw (cut_put_out p.bytes p.length text 0 p.length (λ j a b c d. omega arith), cut_put p.bytes p.length text h)

-- so an answer is
pub answer_shown : (role : Role) (d : Desk) (line : List ℕ) → Fits role d.state → has_room d.page ≡ true
    → shown (answered role d line).page ≡ shown d.page ++ ((reply_of role d.state line).text ++ ascii "\n")
answer_shown role d line fits room =
    ap shown (said_answer role d line fits room) ∙ shown_behind d.page ((reply_of role d.state line).text ++ ascii "\n") (answer_fits role d line fits room)

pub shown_said : (p : Page) (text : List ℕ) → p.length + length text ≤ length p.bytes → shown (said p text) ≡ shown p ++ text
shown_said p text h = ap shown (said_whole p text h) ∙ shown_behind p text h
