-- What each line does: the text that answers it, and the state afterwards. A line that is no call changes nothing.
use Rattle.std.specs.Prelude.{ℕ, cond, List, length, replicate, ltb, ◌≡◌}
use Rattle.octets.specs.Octets.{same}
use Rattle.octets.specs.Tests.{need}
use Rattle.wire.specs.Refusals.{Said}
use Rattle.states.specs.Outcomes.{Outcome}
use Rattle.records.specs.States as records
use Rattle.records.specs.Calls as machine
use Rattle.ledger.specs.States as logs
use Rattle.ledger.specs.Calls as ledger
use Rattle.ledger.specs.Answers.{FundOutcome}
use Rattle.text.specs.Ascii.{ascii}
use Rattle.text.specs.Pages.{Page, page, Says}
use Rattle.text.specs.declared.page.Page.{Page as LentPage}
use Rattle.text.specs.Words.{word_at, has_words, number_of, is_bytes, bytes_of, is_line}
use Rattle.refusals.specs.Refusals.{fault_text}
use Rattle.wording.specs.Answers.{order_text, certificate_text, funding_text, account_text, standing_text, fund_text, redeem_text, pot_text, log_text}
use Rattle.refusals.specs.declared.Fault.{Fault}
use Rattle.lines.specs.declared.calls.Paper.{Paper}

-- the text that answers a line, and the state afterwards
pub record Reply : Type 0 where
  pub text : List ℕ
  pub state : List ℕ

-- the two together
abbrev pub reply : List ℕ → List ℕ → Reply
reply text s = record { text = text; state = s }

-- a line that is no call
abbrev pub faulty : Fault → List ℕ → Reply
faulty fault s = reply (fault_text fault) s

-- a call on a state, its answer in words
abbrev pub told : (Said → List ℕ) → Outcome → Reply
told words o = reply (words o.answer) o.state

-- a message with its verdicts
unfoldable pub handled : Paper → List ℕ → List ℕ → List ℕ → Reply
handled Paper.Order s m verdicts = told order_text (machine.order records.base s m verdicts)
handled Paper.Certificate s m verdicts = told certificate_text (machine.certificate records.base s m verdicts)
handled Paper.Funding s m verdicts = told funding_text (machine.funding_order records.base s m verdicts)
handled Paper.Redemption s m verdicts = told redeem_text (ledger.redeem logs.base s m verdicts)

-- NAME MESSAGE VERDICTS
unfoldable pub paper_line : Paper → List ℕ → List ℕ → Reply
paper_line paper s line =
    need (has_words 3 line) (faulty Fault.WordCount s)
    (need (is_bytes (word_at 1 line)) (faulty Fault.NotHexadecimal s)
    (need (is_bytes (word_at 2 line)) (faulty Fault.NotHexadecimal s)
    (handled paper s (bytes_of (word_at 1 line)) (bytes_of (word_at 2 line)))))

-- account N
unfoldable pub account_line : List ℕ → List ℕ → Reply
account_line s line =
    need (has_words 2 line) (faulty Fault.WordCount s)
    (reply (account_text (number_of (word_at 1 line)) (machine.account records.base s (number_of (word_at 1 line)))) s)

-- standing MESSAGE
unfoldable pub standing_line : List ℕ → List ℕ → Reply
standing_line s line =
    need (has_words 2 line) (faulty Fault.WordCount s)
    (need (is_bytes (word_at 1 line)) (faulty Fault.NotHexadecimal s)
    (reply (standing_text (machine.standing records.base (bytes_of (word_at 1 line)) s)) s))

-- what funding gives: the funding order stands in sixteen bytes
abbrev pub funded : FundOutcome → Reply
funded o = reply (fund_text o.answer o.out) o.state

-- fund ACCOUNT AMOUNT
unfoldable pub fund_line : List ℕ → List ℕ → Reply
fund_line s line =
    need (has_words 3 line) (faulty Fault.WordCount s)
    (funded (ledger.fund logs.base s (replicate 16 0) (number_of (word_at 1 line)) (number_of (word_at 2 line))))

-- pot
unfoldable pub pot_line : List ℕ → List ℕ → Reply
pot_line s line = need (has_words 1 line) (faulty Fault.WordCount s) (reply (pot_text (ledger.read_pot logs.base s)) s)

-- redeemed ACCOUNT SEQUENCE
unfoldable pub log_line : List ℕ → List ℕ → Reply
log_line s line =
    need (has_words 3 line) (faulty Fault.WordCount s)
    (reply (log_text (number_of (word_at 1 line)) (number_of (word_at 2 line))
    (ledger.read_log logs.base s (number_of (word_at 1 line)) (number_of (word_at 2 line)))) s)

-- a line that names no call: it may have no word at all
abbrev pub uncalled : List ℕ → List ℕ → Reply
uncalled s line = need (ltb 0 (length (word_at 0 line))) (faulty Fault.Empty s) (faulty Fault.NoCall s)

-- a line to a settlement machine
unfoldable pub machine_line : List ℕ → List ℕ → Reply
machine_line s line =
    need (is_line line) (faulty Fault.TooLong s)
    (cond (same (word_at 0 line) (ascii "order")) (paper_line Paper.Order s line)
    (cond (same (word_at 0 line) (ascii "certificate")) (paper_line Paper.Certificate s line)
    (cond (same (word_at 0 line) (ascii "funding")) (paper_line Paper.Funding s line)
    (cond (same (word_at 0 line) (ascii "account")) (account_line s line)
    (cond (same (word_at 0 line) (ascii "standing")) (standing_line s line)
    (uncalled s line))))))

-- a line to the ledger
unfoldable pub ledger_line : List ℕ → List ℕ → Reply
ledger_line s line =
    need (is_line line) (faulty Fault.TooLong s)
    (cond (same (word_at 0 line) (ascii "redeem")) (paper_line Paper.Redemption s line)
    (cond (same (word_at 0 line) (ascii "fund")) (fund_line s line)
    (cond (same (word_at 0 line) (ascii "pot")) (pot_line s line)
    (cond (same (word_at 0 line) (ascii "redeemed")) (log_line s line)
    (uncalled s line)))))

-- a state, and a page of answers
pub record Desk : Type 0 where
  pub state : List ℕ
  pub page : Page

-- the two together, as a contract states them
abbrev pub desk : List ℕ → Page → Desk
desk s p = record { state = s; page = p }

-- the page that lent bytes are
abbrev pub lent : LentPage → Page
lent p = page p.bytes.now p.length

-- a reply: the state that it leaves, and its text behind what stood on the same lent bytes
abbrev pub Replies : List ℕ → LentPage → LentPage → Reply → Type 0
Replies state before after r = (state ≡ r.state) × Says before after r.text
