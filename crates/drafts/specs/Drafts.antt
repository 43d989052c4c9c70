-- What is printed where an operator writes a message by hand, or has one shown.
use Rattle.std.specs.Prelude.{ℕ, ◌||◌, cond, List, replicate, eqb, Result, Ok, Err}
use Rattle.octets.specs.Octets.{one, number, same}
use Rattle.wire.specs.Numbers.{is_faults}
use Rattle.octets.specs.Tests.{need}
use Rattle.wire.specs.Messages.{inside}
use Rattle.wire.specs.Votes.{signers_in}
use Rattle.wire.specs.Readers.{read_body, read_order, read_certificate, read_funding}
use Rattle.wire.specs.Writers.{written, write_body, write_order, write_certificate, write_funding}
use Rattle.wire.specs.declared.kinds.Payment.{Payment}
use Rattle.wire.specs.declared.kinds.Funding.{Funding}
use Rattle.text.specs.Ascii.{ascii}
use Rattle.text.specs.Words.{word_at, has_words, number_of, is_bytes, bytes_of, is_line}
use Rattle.refusals.specs.Refusals.{refused_text, fault_text}
use Rattle.papers.specs.Papers.{written_text, body_text, order_read_text, certificate_read_text, funding_read_text}
use Rattle.refusals.specs.declared.Fault.{Fault}
use Rattle.drafts.specs.declared.writers.Draft.{Draft}

-- what a message says. It is told by its first tag; a certificate is read for f
unfoldable pub shown_text : ℕ → List ℕ → List ℕ
shown_text f m =
    cond (eqb (number one m 0) 0x01) (body_text (read_body m))
    (cond (eqb (number one m 0) 0x10) (order_read_text (read_order m))
    (cond (eqb (number one m 0) 0x20) (certificate_read_text (read_certificate f m) (read_body (inside m)).note (signers_in m))
    (cond (eqb (number one m 0) 0x30) (funding_read_text (read_funding m))
    (refused_text 1))))

-- f is 1 where the line does not say it
abbrev pub faults_of : List ℕ → ℕ
faults_of line = cond (has_words 3 line) (number_of (word_at 2 line)) 1

-- read MESSAGE, or read MESSAGE F
unfoldable pub read_text : List ℕ → List ℕ
read_text line =
    need (has_words 2 line || has_words 3 line) (fault_text Fault.WordCount)
    (need (is_faults (faults_of line)) (refused_text 2)
    (need (is_bytes (word_at 1 line)) (fault_text Fault.NotHexadecimal)
    (shown_text (faults_of line) (bytes_of (word_at 1 line)))))

-- account or ledger: the kind of a recipient; another word is out of range
unfoldable pub kind_of : List ℕ → ℕ
kind_of word = cond (same word (ascii "account")) 0 (cond (same word (ascii "ledger")) 1 2)

-- SENDER account|ledger NUMBER AMOUNT SEQUENCE, from the word behind `write body` or `write order`
unfoldable pub payment_of : List ℕ → Payment
payment_of line = record {
  sender = record { 0 = number_of (word_at 2 line) };
  kind = kind_of (word_at 3 line);
  recipient = number_of (word_at 4 line);
  amount = number_of (word_at 5 line);
  sequence = record { 0 = number_of (word_at 6 line) };
}

-- what is printed of a message that a line asks for: what its writer answers, or what is wrong with the line
abbrev pub drafted : Result Draft Fault → List ℕ
drafted (Ok draft) = written_text (written draft.answer draft.message)
drafted (Err fault) = fault_text fault

-- a blank page for the longest message
abbrev pub blank : List ℕ
blank = replicate 1_148 0

-- write body SENDER account|ledger NUMBER AMOUNT SEQUENCE NOTE
unfoldable pub body_draft : List ℕ → List ℕ
body_draft line =
    need (has_words 8 line) (fault_text Fault.WordCount)
    (need (is_bytes (word_at 7 line)) (fault_text Fault.NotHexadecimal)
    (written_text (write_body blank (payment_of line) (bytes_of (word_at 7 line)))))

-- write order SENDER account|ledger NUMBER AMOUNT SEQUENCE NOTE SIGNATURE
unfoldable pub order_draft : List ℕ → List ℕ
order_draft line =
    need (has_words 9 line) (fault_text Fault.WordCount)
    (need (is_bytes (word_at 7 line)) (fault_text Fault.NotHexadecimal)
    (need (is_bytes (word_at 8 line)) (fault_text Fault.NotHexadecimal)
    (written_text (write_order blank (payment_of line) (bytes_of (word_at 7 line)) (bytes_of (word_at 8 line))))))

-- write certificate F BODY VOTES
unfoldable pub certificate_draft : List ℕ → List ℕ
certificate_draft line =
    need (has_words 5 line) (fault_text Fault.WordCount)
    (need (is_bytes (word_at 3 line)) (fault_text Fault.NotHexadecimal)
    (need (is_bytes (word_at 4 line)) (fault_text Fault.NotHexadecimal)
    (written_text (write_certificate (number_of (word_at 2 line)) blank (bytes_of (word_at 3 line)) (bytes_of (word_at 4 line))))))

-- INDEX ACCOUNT AMOUNT
unfoldable pub funding_of : List ℕ → Funding
funding_of line = record {
  index = record { 0 = number_of (word_at 2 line) };
  account = record { 0 = number_of (word_at 3 line) };
  amount = number_of (word_at 4 line);
}

-- write funding INDEX ACCOUNT AMOUNT
unfoldable pub funding_draft : List ℕ → List ℕ
funding_draft line = need (has_words 5 line) (fault_text Fault.WordCount) (written_text (write_funding blank (funding_of line)))

-- write, and what
unfoldable pub write_text : List ℕ → List ℕ
write_text line =
    cond (same (word_at 1 line) (ascii "body")) (body_draft line)
    (cond (same (word_at 1 line) (ascii "order")) (order_draft line)
    (cond (same (word_at 1 line) (ascii "certificate")) (certificate_draft line)
    (cond (same (word_at 1 line) (ascii "funding")) (funding_draft line)
    (fault_text Fault.NoCall))))

-- a line to the writers and readers
unfoldable pub draft_text : List ℕ → List ℕ
draft_text line =
    need (is_line line) (fault_text Fault.TooLong)
    (cond (same (word_at 0 line) (ascii "read")) (read_text line)
    (cond (same (word_at 0 line) (ascii "write")) (write_text line)
    (fault_text Fault.NoCall)))
