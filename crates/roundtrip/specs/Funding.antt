-- Funding orders: one that was written is read back, and one that was read is written again, byte for byte. Assumes nothing.
use Rattle.std.specs.Prelude.{ℕ, ◌≤◌, ◌≡◌, refl, true, List, [], ◌∷◌, ◌++◌, length, drop}
use Rattle.std.proofs.Common.{sym, ap, ◌∙◌, append-nil, arith, lit<, lit≤}
use Rattle.std.proofs.Math.Seq.{drop-length}
use Rattle.octets.specs.Octets.{one, two, four, number, bytes, cut}
use Rattle.wire.specs.Fields.{field, laid}
use Rattle.wire.specs.Messages.{funding_fields, funding, is_funding, funding_bytes}
use Rattle.wire.specs.Refusals.{gives, refuses, funding_values}
use Rattle.wire.specs.Readers.{read_funding}
use Rattle.wire.specs.Writers.{unwritten, write_funding}
use Rattle.wire.specs.declared.kinds.Funding.{Funding}
use Rattle.wire.proofs.FieldLaws.{Bytes, ends_laid, number_written, bytes_number, drop_sized, ends_sized, ends_last}
use Rattle.wire.proofs.Laid.{FundingLaid, funding_laid}
use Rattle.writing.proofs.Written.{FundingFits, funding_fits}
use Rattle.messages.proofs.Told.{funding_same}
use Rattle.roundtrip.specs.Answers.{through, said, told, wrote, Wrote, has_room, comes_to_write}

-- the bytes of a funding order have its fields
funding_written : (o : Funding) → laid (funding_bytes o) funding_fields ≡ true
unfolding funding_bytes bytes
funding_written o =
    let m = funding_bytes o in
    let f₁ = field 0x30 (bytes two o.index.0) in
    let f₂ = field 0x31 (bytes one o.account.0) in
    let f₃ = field 0x32 (bytes four o.amount) in
    ends_laid m funding_fields (lit≤ tt)
    (ends_sized m [] (bytes two o.index.0) (f₂ ++ f₃) 0 0x30 2 5 (drop 1 funding_fields) refl refl refl refl (lit< tt) (lit< tt)
    ∙ ends_sized m f₁ (bytes one o.account.0) f₃ 5 0x31 1 9 (drop 2 funding_fields) refl refl refl refl (lit< tt) (lit< tt)
    ∙ ends_last m (f₁ ++ f₂) (bytes four o.amount) 9 0x32 4 4 refl refl (lit< tt) (lit< tt) (lit≤ tt) (lit≤ tt))

-- the values of a funding order that was written are read back
funding_values_lem : (o : Funding) → is_funding o ≡ true → funding (funding_bytes o) ≡ o
unfolding funding funding_bytes bytes
funding_values_lem o h =
    let fits : FundingFits o = funding_fits o h in
    let m = funding_bytes o in
    let f₁ = field 0x30 (bytes two o.index.0) in
    let f₂ = field 0x31 (bytes one o.account.0) in
    let f₃ = field 0x32 (bytes four o.amount) in
    let index : number two m 3 ≡ o.index.0 = number_written two (0x30 ∷ bytes two 2) o.index.0 (f₂ ++ f₃) fits.index in
    let account : number one m 8 ≡ o.account.0 = number_written one (f₁ ++ (0x31 ∷ bytes two 1)) o.account.0 f₃ fits.account in
    let amount : number four m 12 ≡ o.amount = number_written four (f₁ ++ (f₂ ++ (0x32 ∷ bytes two 4))) o.amount [] fits.amount in
    λ i. record { index = record { 0 = index i }; account = record { 0 = account i }; amount = amount i }

-- a funding order that was written is read back
pub funding_read_back : (o : Funding) → is_funding o ≡ true → read_funding (funding_bytes o) ≡ gives (funding_values o)
unfolding read_funding
funding_read_back o h = rw (funding_written o, funding_values_lem o h, h)

-- a funding order that was read is, byte for byte, its values written
funding_bytes_lem : (m : List ℕ) → Bytes m → laid m funding_fields ≡ true → funding_bytes (funding m) ≡ m
unfolding funding funding_bytes
funding_bytes_lem m bs h =
    let l : FundingLaid m = funding_laid m h in
    let n : length m ≡ 16 = l.sixteen in
    let index : bytes two (number two m 3) ≡ cut m 3 2 = bytes_number two m 3 bs (omega arith) in
    let account : bytes one (number one m 8) ≡ cut m 8 1 = bytes_number one m 8 bs (omega arith) in
    let amount : bytes four (number four m 12) ≡ cut m 12 4 = bytes_number four m 12 bs (omega arith) in
    let from₅ : drop 5 m ≡ field 0x31 (cut m 8 1) ++ drop 9 m = drop_sized m 5 0x31 1 9 bs l.account refl in
    let from₉ : drop 9 m ≡ field 0x32 (cut m 12 4) ++ drop (length m) m = drop_sized m 9 0x32 4 (length m) bs l.amount (sym n) in
    rw (index, account, amount)
    (sym (drop_sized m 0 0x30 2 5 bs l.index refl ∙ rw (from₅, from₉, drop-length m, append-nil (field 0x32 (cut m 12 4)))))

-- where the writer does not refuse, its values are in range and it writes the bytes
pub funding_wrote : (out : List ℕ) (o : Funding) → told (write_funding out o) ≡ 0 → (is_funding o ≡ true) × Wrote (write_funding out o) out (funding_bytes o)
unfolding write_funding
funding_wrote out o h =
    let a = through told (is_funding o) (unwritten 2 out) _ (lit< tt) h in
    (a.0, comes_to_write _ out (funding_bytes o) (rw a.0) a.1)

-- a reader that gives values found a funding order, and they are its
pub funding_given : (m : List ℕ) (o : Funding) → read_funding m ≡ gives (funding_values o)
    → (laid m funding_fields ≡ true) × (is_funding (funding m) ≡ true) × (funding m ≡ o)
unfolding read_funding
funding_given m o h =
    let l = through said (laid m funding_fields) (refuses 1) _ (lit< tt) (ap said h) in
    let i = through said (is_funding (funding m)) (refuses 2) _ (lit< tt) l.1 in
    (l.0, i.0, funding_same (funding m) o (rw (l.0, i.0) at h))

-- from these values it is written again byte for byte
pub funding_again : (m out : List ℕ) → Bytes m → laid m funding_fields ≡ true → is_funding (funding m) ≡ true → length m ≤ length out
    → write_funding out (funding m) ≡ wrote out m
unfolding write_funding
funding_again m out bs h i fits = rw (i, funding_bytes_lem m bs h) (has_room out m fits)
