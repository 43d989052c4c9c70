-- What the reader and the judge of a certificate begin with.
use Rattle.std.specs.Prelude.{◌≡◌, ℕ, ◌+◌, ◌≤◌, true, List, Result, Ok, Err}
use Rattle.std.specs.Borrow.{Bor}
use Rattle.octets.specs.Octets.{two, number}
use Rattle.octets.specs.Tests.{need}
use Rattle.wire.specs.Numbers.{is_faults}
use Rattle.wire.specs.Fields.{laid}
use Rattle.wire.specs.Messages.{certificate_fields, inside}
use Rattle.wire.specs.Votes.{votes}
use Rattle.wire.specs.Refusals.{Said, refuses, refusal_number}
use Rattle.wire.specs.declared.answers.Refusal.{Refusal}
use Rattle.messages.specs.declared.certificate.Opened.{Opened}

-- an open certificate is as laid down: its body, and its votes, which stand one after another, each in a field of 68 bytes
pub record IsOpened (f : ℕ) (message : Bor (List ℕ)) (o : Opened) : Type 0 where
  pub faults : f ≤ 5
  pub laid_down : laid message.now certificate_fields ≡ true
  pub body : o.body.now ≡ inside message.now
  pub placed : o.votes ≡ record { bytes = message; place = number two message.now 1 + 6; step = 68 }
  pub counted : o.number ≡ votes message.now

-- it is opened, or refused with 2 for f, then with 1 for the message, whatever its body and its votes are
abbrev pub Opens : ℕ → Bor (List ℕ) → Result Opened Refusal → Type 0
Opens f message (Ok o) = IsOpened f message o
Opens f message (Err r) = (rest : Said) → refuses (refusal_number r) ≡ need (is_faults f) (refuses 2) (need (laid message.now certificate_fields) (refuses 1) rest)
