use Rattle.std.proofs.Common.{◌≡◌, ℕ, ℤ, ◌≤◌, [], ◌∷◌, w64, to_z, of_z, sym, ap, ◌∙◌}
use Rattle.std.proofs.lemmas.Int.{to_z-of_z}
use Rattle.wire.specs.Refusals.{gives}
use Rattle.records.specs.declared.record.Record.{Record}
use Rattle.records.specs.Balances.{signed, free, highest}
use Rattle.records.specs.Records.{bit}
use Rattle.records.specs.Answers.{AccountShown}
use Rattle.records.specs.Calls.{shown, account}
use Rattle.records.proofs.Balances.{signed_fits}
use Rattle.records.proofs.Facts.{formed_fits}
use Rattle.machine.proofs.read_account.Goals as goal

-- what is read of a record
shown-as : (r : Record) (balance : ℤ) (spend : ℕ) → balance ≡ signed r.balance → spend ≡ free r.balance
    → ◌≡◌ {A = AccountShown} (record { answer = gives (bit r.used ∷ r.next.0 ∷ spend ∷ []); balance = balance }) (shown r)
shown-as r balance spend p q = λ i. record { answer = gives (bit r.used ∷ r.next.0 ∷ q i ∷ []); balance = p i }

pub signed-requires : goal.signed-requires
signed-requires c = rw c.read-record.ensures (formed_fits _ _ _ (sym c.formed.ensures ∙ c.if-not-formed.false)).balance

pub returns : goal.returns
unfolding account
returns c = let h : c.read-record.result.balance ≤ highest = rw c.read-record.ensures (formed_fits _ _ _ (sym c.formed.ensures ∙ c.if-not-formed.false)).balance in
    rw (c.in-Some.ensures.1, ← c.in_range.ensures, c.if-not-in_range.false, ← c.in-Some.ensures.0, ← c.formed.ensures, c.if-not-formed.false, ← c.read-record.ensures)
    (shown-as c.read-record.result _ _ (ap (λ (z : ℤ). to_z w64 (of_z w64 z)) c.signed.ensures ∙ to_z-of_z _ _ (signed_fits _ h)) c.free.ensures)
