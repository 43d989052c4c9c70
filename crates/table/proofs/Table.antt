-- Each row of the table, by computing. Assumes nothing.
use mathlib.Core.Path.{refl}
use Rattle.octets.specs.Octets.{number, bytes, put, same, all_zero}
use Rattle.wire.specs.Fields.{past, past_all, after, ends, laid}
use Rattle.wire.specs.Messages.{payment, is_payment, body_bytes, funding, is_funding, funding_bytes}
use Rattle.wire.specs.Votes.{signers, known, rising_from, good}
use Rattle.wire.specs.Readers.{read_payment, read_body, read_funding, judged_by}
use Rattle.wire.specs.Writers.{writes, write_body, write_funding}
use Rattle.records.specs.Records.{record_at, head_bytes, record_bytes, is_pending, in_range, is_record, holding, paid, credited}
use Rattle.records.specs.States.{is_base_header, is_state, fresh_state}
use Rattle.records.specs.Calls.{fresh, vote_on, vote, order, pay, settle_on, settle, certificate, credit_on, credit, funding_order, account}
use Rattle.table.specs.Papers.{amount_0, amount_1000000001}
use Rattle.table.specs.Table.{OutOfRange, Table}

-- to unfold one of these two is to unfold all that its line names. Bytes, messages, their readers and writers
unfoldable messages : Unit {0}
unfolding number bytes put same all_zero past past_all after ends laid payment is_payment body_bytes funding is_funding funding_bytes signers known rising_from good read_payment read_body read_funding judged_by writes write_body write_funding
messages = tt

-- a machine's calls
unfoldable calls : Unit {0}
unfolding record_at head_bytes record_bytes is_pending in_range is_record holding paid credited is_base_header is_state fresh_state fresh vote_on vote order pay settle_on settle certificate credit_on credit funding_order account
calls = tt

least : OutOfRange 0 amount_0
unfolding messages calls
least = record {
  body_read = refl;
  body_written = refl;
  funding_read = refl;
  funding_written = refl;
  funding_handled = refl;
  order_handled = refl;
  certificate_handled = refl;
}

most : OutOfRange 1_000_000_001 amount_1000000001
unfolding messages calls
most = record {
  body_read = refl;
  body_written = refl;
  funding_read = refl;
  funding_written = refl;
  funding_handled = refl;
  order_handled = refl;
  certificate_handled = refl;
}

pub table : Table
unfolding messages calls
table = record {
  e1_written = refl;
  e1_read = refl;
  e2_written = refl;
  e2_read = refl;
  e3_fresh = refl;
  e3_order = refl;
  e4_funded = refl;
  e4_new = refl;
  e4_again = refl;
  e5_amount = refl;
  e5_sequence = refl;
  e5_sequence_alone = refl;
  e6_all = refl;
  e6_more = refl;
  e7_confirmed = refl;
  e7_account_2 = refl;
  e7_account_7 = refl;
  e7_again = refl;
  e7_four_votes = refl;
  e8_few = refl;
  e8_twice = refl;
  e8_unknown = refl;
  e9_confirmed = refl;
  e9_account_2 = refl;
  e9_funded = refl;
  e10 = refl;
  e11 = refl;
  e12_least = least;
  e12_most = most;
}
