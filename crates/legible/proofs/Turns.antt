-- A turn prints what the whole input asks for next, and leaves the rest to the turns behind it. Assumes nothing.
use Prim.Native.Nat.{ℕ, zero, suc, ◌+◌, ◌<◌, ◌≤◌}
use mathlib.Core.Path.{◌≡◌, refl, sym, ap, ◌∙◌}
use mathlib.Core.Bool.{Bool, true, false, false≢true, cond}
use mathlib.Core.List.{List, [], ◌∷◌, ◌++◌, append_assoc, append-nil}
use native.Mathlib.Omega.{arith}
use lib.Dec.{ltb}
use lib.ListN.{length, take, drop, length-append, length-drop}
use lib.Seq.{drop-drop}
use borrow.Author.Tests.{leb-false, lt-leb, le-leb, ltb-true}
use Rattle.octets.specs.Tests.{need}
use Rattle.text.specs.Ascii.{ascii}
use Rattle.text.specs.Pages.{page, said}
use Rattle.text.specs.Words.{is_line, line_end, behind_line}
use Rattle.text.specs.Arrivals.{Arrived, has_line, next_of, passing}
use Rattle.text.specs.declared.arrivals.Next.{Next}
use Rattle.refusals.specs.Refusals.{fault_text}
use Rattle.refusals.specs.declared.Fault.{Fault}
use Rattle.invariants.specs.Outcomes.{need_case, cond_case}
use Rattle.lines.specs.Calls.{Desk, desk, faulty, machine_line, ledger_line}
use Rattle.lines.specs.Serving.{reply_of, answered, has_room, Served, next_line, served_from, served, turn_of, last_text}
use Rattle.lines.specs.declared.serving.Role.{Role}
use Rattle.legible.specs.Pieces.{Told, told, first, answers_to, shown, Fits}
use Rattle.legible.proofs.Lines.{line_before, rest_before, has_before, rest_shorter, line_behind, rest_behind, has_behind}
use Rattle.legible.proofs.Short.{fault_short}
use Rattle.legible.proofs.Pages.{answer_shown, shown_said}
use Rattle.legible.proofs.Answers.{answers_line, answers_end}
use Rattle.legible.proofs.Keeping.{keeps}

-- a text printed before a text
first_first : (a b : List ℕ) (end : Told) → first a (first b end) ≡ first (a ++ b) end
first_first a b end = ap (λ (text : List ℕ). told text end.state) (sym (append_assoc a b end.text))

-- what a page shows, and then the answers to the rest of an input
abbrev Ahead : Role → Desk → List ℕ → Told
Ahead role d rest = first (shown d.page) (answers_to role d.state rest)

-- a line that is answered goes from the rest to the page
line_moves : (role : Role) (d : Desk) (input more : List ℕ) → Fits role d.state → has_room d.page ≡ true → has_line input ≡ true
    → Ahead role d (input ++ more) ≡ Ahead role (answered role d (take (line_end input) input)) (behind_line input ++ more)
unfolding answered
line_moves role d input more fits room has =
    let line = take (line_end input) input in
    let text = (reply_of role d.state line).text ++ ascii "\n" in
    let rest = answers_to role (reply_of role d.state line).state (behind_line input ++ more) in
    let next : answers_to role d.state (input ++ more) ≡ first text rest =
    rw (line_before input more has, rest_before input more has) at (answers_line role d.state (input ++ more) (has_before input more has)) in
    ap (first (shown d.page)) next
    ∙ first_first (shown d.page) text rest
    ∙ ap (λ (p : List ℕ). first p rest) (sym (answer_shown role d line fits room))

-- so do all lines that are served, and what is left fits
abbrev Serves : Role → List ℕ → List ℕ → Told → Served → Type 0
Serves role input more all v = (all ≡ Ahead role v.desk (drop v.taken input ++ more)) × Fits role v.desk.state

serves : (n : ℕ) (role : Role) (input more : List ℕ) (from : ℕ) (d : Desk) → Fits role d.state
    → Serves role input more (Ahead role d (drop from input ++ more)) (served_from n role input from d)
unfolding served_from answered
serves zero role input more from d fits = (refl, fits)
serves (suc n) role input more from d fits =
    let all = Ahead role d (drop from input ++ more) in
    need_case (Serves role input more all) (has_room d.page) _ _ (refl, fits) (λ room.
    need_case (Serves role input more all) (has_line (drop from input)) _ _ (refl, fits) (λ has.
    let line = next_line input from in
    let onward = serves n role input more (from + line_end (drop from input) + 1) (answered role d line) (keeps role d.state line fits) in
    let place : from + (line_end (drop from input) + 1) ≡ from + line_end (drop from input) + 1 = omega arith in
    let behind : behind_line (drop from input) ≡ drop (from + line_end (drop from input) + 1) input =
    drop-drop (line_end (drop from input) + 1) from input ∙ ap (λ (k : ℕ). drop k input) place in
    (line_moves role d (drop from input) more fits room has ∙ ap (λ (rest : List ℕ). Ahead role (answered role d line) (rest ++ more)) behind ∙ onward.0, onward.1)))

-- what is still to be printed, from what has arrived and what is to come: where a line is passed over, nothing before its end
abbrev pub told_from : Role → List ℕ → Arrived → List ℕ → Told
told_from role s a more =
    cond a.skips
    (need (has_line (a.bytes ++ more)) (told [] s) (answers_to role s (behind_line (a.bytes ++ more))))
    (answers_to role s (a.bytes ++ more))

-- a line of too many bytes is refused, whoever answers
too_long : (role : Role) (s line : List ℕ) → is_line line ≡ false → reply_of role s line ≡ faulty Fault.TooLong s
unfolding machine_line ledger_line
too_long Role.Machine s line e = rw e
too_long Role.Ledger s line e = rw e

-- and no more bytes make it shorter
longer : (a b : List ℕ) → is_line a ≡ false → is_line (a ++ b) ≡ false
longer a b e = lt-leb (length (a ++ b)) 4_096 (simp length-append (omega (arith, leb-false (length a) 4_096 e)))

-- so the bytes of a line that is too long get one refusal, and the rest of the line none
refused_once : (role : Role) (s bytes more : List ℕ) → has_line bytes ≡ false → is_line bytes ≡ false
    → first (fault_text Fault.TooLong ++ ascii "\n") (told_from role s passing more) ≡ answers_to role s (bytes ++ more)
refused_once role s bytes more none long = go (has_line more) refl
  where
    go : (t : Bool) → has_line more ≡ t → first (fault_text Fault.TooLong ++ ascii "\n") (told_from role s passing more) ≡ answers_to role s (bytes ++ more)
    go true e =
        let next = answers_line role s (bytes ++ more) (has_behind bytes more none ∙ e) in
        rw e
        (sym (rw (line_behind bytes more none, rest_behind bytes more none, too_long role s (bytes ++ take (line_end more) more) (longer bytes (take (line_end more) more) long)) at next))
    go false e =
        let last = answers_end role s (bytes ++ more) (has_behind bytes more none ∙ e) in
        rw e (ap (λ (text : List ℕ). told text s) (append-nil (fault_text Fault.TooLong ++ ascii "\n")) ∙ sym (rw (longer bytes more long) at last))

-- what holds of each step with what it is taken for holds of the next
next_case : (P : Next → Type 0) (a : Arrived) → (has_line a.bytes ≡ true → a.skips ≡ true → P Next.Skip) → (has_line a.bytes ≡ true → a.skips ≡ false → P Next.Answer)
    → (has_line a.bytes ≡ false → a.skips ≡ true → P Next.Drop) → (has_line a.bytes ≡ false → a.skips ≡ false → is_line a.bytes ≡ false → P Next.Refuse)
    → (has_line a.bytes ≡ false → a.skips ≡ false → is_line a.bytes ≡ true → P Next.Await) → P (next_of a)
unfolding next_of
next_case P a skip answer pass refuse await =
    cond_case P (has_line a.bytes) _ _
    (λ has. cond_case P a.skips _ _ (λ on. skip has on) (λ off. answer has off))
    (λ none. cond_case P a.skips _ _ (λ on. pass none on) (λ off. short none off (is_line a.bytes) refl))
  where
    short : has_line a.bytes ≡ false → a.skips ≡ false → (t : Bool) → is_line a.bytes ≡ t → P (need t Next.Refuse Next.Await)
    short none off true e = await none off e
    short none off false e = refuse none off e

-- a turn prints what is to be printed next, and leaves the rest
abbrev Turns : Role → List ℕ → List ℕ → Arrived → List ℕ → Next → Type 0
Turns role out s a more step =
    let t = turn_of role (desk s (page out 0)) a step in
    (first (shown t.desk.page) (told_from role t.desk.state t.left more) ≡ told_from role s a more) × Fits role t.desk.state

pub turns : (role : Role) (out s : List ℕ) (a : Arrived) (more : List ℕ) → 256 ≤ length out → Fits role s → Turns role out s a more (next_of a)
unfolding turn_of ascii
turns role out s a more room fits =
    next_case (Turns role out s a more) a
    (λ has on. (rw (on, has_before a.bytes more has, rest_before a.bytes more has), fits))
    (λ has off.
    let all = serves (length a.bytes) role a.bytes more 0 (desk s (page out 0)) fits in
    (rw off (sym all.0), all.1))
    (λ none on. (rw (on, has_behind a.bytes more none, rest_behind a.bytes more none), fits))
    (λ none off long.
    let text = fault_text Fault.TooLong ++ ascii "\n" in
    let l : length text ≡ length (fault_text Fault.TooLong) + 1 = length-append (fault_text Fault.TooLong) (ascii "\n") in
    let said = shown_said (page out 0) text (omega (arith, room, l, fault_short Fault.TooLong s)) in
    (rw (off, said) (refused_once role s a.bytes more none long), fits))
    (λ none off short. (refl, fits))

-- what is said at the end fits a page
last_short : (a : Arrived) → length (last_text a) ≤ 256
unfolding ascii
last_short a =
    let P : List ℕ → Type 0 = λ (text : List ℕ). length text ≤ 256 in
    let l : length (fault_text Fault.NoEnd ++ ascii "\n") ≡ length (fault_text Fault.NoEnd) + 1 = length-append (fault_text Fault.NoEnd) (ascii "\n") in
    cond_case P a.skips _ _ (λ on. omega arith) (λ off.
    need_case P (ltb 0 (length a.bytes)) _ _ (omega arith) (λ some.
    omega (arith, l, fault_short Fault.NoEnd [])))

-- at the end of the input, what is left of a turn that waits is all that is still to be answered
abbrev Ends : Role → List ℕ → List ℕ → List ℕ → Arrived → Next → Type 0
Ends role out last s a step =
    let t = turn_of role (desk s (page out 0)) a step in
    t.waits ≡ true → told_from role t.desk.state t.left [] ≡ told (shown (said (page last 0) (last_text t.left))) t.desk.state

pub ends : (role : Role) (out last s : List ℕ) (a : Arrived) → 256 ≤ length last → Ends role out last s a (next_of a)
unfolding turn_of line_end
ends role out last s a room =
    let printed : (left : Arrived) → told (shown (said (page last 0) (last_text left))) s ≡ told (last_text left) s =
    λ left. ap (λ (text : List ℕ). told text s) (shown_said (page last 0) (last_text left) (omega (arith, room, last_short left))) in
    next_case (Ends role out last s a) a
    (λ has on waits. absurd (false≢true waits))
    (λ has off waits. absurd (false≢true waits))
    (λ none on waits. sym (printed passing))
    (λ none off long waits. sym (printed passing))
    (λ none off short waits.
    let unanswered = answers_end role s a.bytes none in
    sym (printed a ∙ sym (rw (off, append-nil) (rw short at unanswered))))

-- serving goes forward, and past a line where there is one
serves_forward : (n : ℕ) (role : Role) (input : List ℕ) (from : ℕ) (d : Desk) → from ≤ (served_from n role input from d).taken
unfolding served_from
serves_forward zero role input from d = omega arith
serves_forward (suc n) role input from d =
    let P : Served → Type 0 = λ (v : Served). from ≤ v.taken in
    need_case P (has_room d.page) _ _ (omega arith) (λ room.
    need_case P (has_line (drop from input)) _ _ (omega arith) (λ has.
    let onward = serves_forward n role input (from + line_end (drop from input) + 1) (answered role d (next_line input from)) in
    omega (arith, onward)))

serves_some : (role : Role) (input : List ℕ) (d : Desk) → has_room d.page ≡ true → has_line input ≡ true → 1 ≤ (served role input d).taken
unfolding served_from line_end
serves_some role [] d room has = absurd (false≢true has)
serves_some role (b ∷ bs) d room has =
    let onward = serves_forward (length bs) role (b ∷ bs) (0 + line_end (b ∷ bs) + 1) (answered role d (next_line (b ∷ bs) 0)) in
    rw (room, has) (omega (arith, onward))

-- so a turn that does not wait leaves less than it found
abbrev Shrinks : Role → List ℕ → List ℕ → Arrived → Next → Type 0
Shrinks role out s a step =
    let t = turn_of role (desk s (page out 0)) a step in
    t.waits ≡ false → length t.left.bytes < length a.bytes

pub shrinks : (role : Role) (out s : List ℕ) (a : Arrived) → 256 ≤ length out → Shrinks role out s a (next_of a)
unfolding turn_of
shrinks role out s a room =
    next_case (Shrinks role out s a) a
    (λ has on waits. rest_shorter a.bytes [] has)
    (λ has off waits.
    let some = serves_some role a.bytes (desk s (page out 0)) (le-leb _ _ room) has in
    let within = ltb-true (line_end a.bytes) (length a.bytes) has in
    simp length-drop (omega (arith, some, within)))
    (λ none on waits. absurd (false≢true (sym waits)))
    (λ none off long waits. absurd (false≢true (sym waits)))
    (λ none off short waits. absurd (false≢true (sym waits)))
