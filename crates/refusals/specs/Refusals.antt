-- Refusals in words. 1 to 18 are those of 01; from 101 on, those of a line that is no call.
use Rattle.std.specs.Prelude.{ℕ, ◌-◌, List, [], ◌∷◌, ◌++◌, get_or, eqb}
use Rattle.octets.specs.Tests.{need}
use Rattle.wire.specs.Refusals.{Said}
use Rattle.text.specs.Ascii.{ascii}
use Rattle.text.specs.Pages.{decimal}
use Rattle.refusals.specs.declared.Fault.{Fault}

-- 1 to 18 in their order
abbrev pub reasons : List (List ℕ)
reasons =
    ascii "tags, lengths or the end are not as laid down, or the message is too long"
    ∷ ascii "a value is out of range or no number"
    ∷ ascii "wrong number of verdict bytes"
    ∷ ascii "a verdict is not good"
    ∷ ascii "a vote is by a machine outside the committee"
    ∷ ascii "votes repeat or do not rise"
    ∷ ascii "too few votes"
    ∷ ascii "the sender is not in use"
    ∷ ascii "another body is pending"
    ∷ ascii "the sequence is not the next"
    ∷ ascii "the balance is below the amount"
    ∷ ascii "the funding index is not the next"
    ∷ ascii "the recipient is no ledger account"
    ∷ ascii "already redeemed"
    ∷ ascii "the pot is below the amount"
    ∷ ascii "the state is ill-formed, or a limit would be passed"
    ∷ ascii "all funding indexes are used"
    ∷ ascii "the output is too small"
    ∷ []

-- what a number of 01 means
abbrev pub reason : ℕ → List ℕ
reason n = get_or reasons (n - 1) []

-- a refusal with its number
abbrev pub refusal : ℕ → List ℕ → List ℕ
refusal n why = ascii "refused " ++ decimal n ++ ascii ": " ++ why

-- a refusal of 01
abbrev pub refused_text : ℕ → List ℕ
refused_text n = refusal n (reason n)

-- the refusal where there is one, otherwise what was given
abbrev pub answer_text : Said → List ℕ → List ℕ
answer_text said given = need (eqb said.number 0) (refused_text said.number) given

-- a value of an answer, counted from 0
abbrev pub value : Said → ℕ → ℕ
value said i = get_or said.values i 0

-- the number of each fault of a line
abbrev pub fault_number : Fault → ℕ
fault_number Fault.Empty = 101
fault_number Fault.TooLong = 102
fault_number Fault.NoCall = 103
fault_number Fault.WordCount = 104
fault_number Fault.NotHexadecimal = 105
fault_number Fault.NoEnd = 106

-- 101 to 106 in their order
abbrev pub fault_reasons : List (List ℕ)
fault_reasons =
    ascii "the line is empty"
    ∷ ascii "the line is too long"
    ∷ ascii "there is no such call here"
    ∷ ascii "wrong number of words"
    ∷ ascii "not hexadecimal"
    ∷ ascii "the line was cut off"
    ∷ []

-- what such a number means
abbrev pub fault_reason : ℕ → List ℕ
fault_reason n = get_or fault_reasons (n - 101) []

-- a fault with its number
abbrev pub fault_text : Fault → List ℕ
fault_text fault = refusal (fault_number fault) (fault_reason (fault_number fault))
