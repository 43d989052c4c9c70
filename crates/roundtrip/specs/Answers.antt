-- What answers say: one that is no refusal passed every test before it. Assumes nothing.
use Rattle.std.specs.Prelude.{ℕ, ◌<◌, ◌≤◌, ◌≡◌, refl, Bool, true, false, List, [], ◌∷◌, length, get_or, leb}
use Rattle.std.proofs.Common.{sym, ap, ◌∙◌, arith, lit<, leb-true}
use Rattle.octets.specs.Octets.{put}
use Rattle.octets.specs.Tests.{need}
use Rattle.wire.specs.Refusals.{Said, gives}
use Rattle.wire.specs.Writers.{Written, unwritten, writes}
use Rattle.writing.proofs.Written.{writes_room}

-- an outcome that is no refusal passed the test before it
pub through : {A : Type 0} (said : A → ℕ) (t : Bool) (failed rest : A) → 0 < said failed → said (need t failed rest) ≡ 0 → (t ≡ true) × (said rest ≡ 0)
through said true failed rest f e = (refl, e)
through said false failed rest f e = absurd (omega arith)

-- the number of a reader's answer
abbrev pub said : Said → ℕ
said s = s.number

-- the number of a writer's answer
abbrev pub told : Written → ℕ
told w = w.answer.number

-- the outcome of a writer that writes these bytes
abbrev pub wrote : List ℕ → List ℕ → Written
wrote out bs = record { answer = gives (length bs ∷ []); out = put out 0 bs }

-- the bytes had room in the output and were written
pub record Wrote (w : Written) (out bs : List ℕ) : Type 0 where
  pub fits : length bs ≤ length out
  pub outcome : w ≡ wrote out bs

-- bytes that have room in the output are written
pub has_room : (out bs : List ℕ) → length bs ≤ length out → writes out bs ≡ wrote out bs
has_room out bs l = sym (writes_room out bs refl l refl)

-- where a writer comes to write bytes and does not refuse they are written
pub comes_to_write : (w : Written) (out bs : List ℕ) → w ≡ writes out bs → told (writes out bs) ≡ 0 → Wrote w out bs
unfolding writes
comes_to_write w out bs e h =
    let l : length bs ≤ length out = leb-true _ _ (through told (leb (length bs) (length out)) (unwritten 18 out) _ (lit< tt) h).0 in
    record { fits = l; outcome = e ∙ has_room out bs l }

-- the answer to bytes that were written is how many they are
pub wrote_size : {w : Written} {out bs : List ℕ} {n : ℕ} → Wrote w out bs → w.answer ≡ gives (n ∷ []) → n ≡ length bs
wrote_size o h = ap (λ (s : Said). get_or s.values 0 0) (sym h ∙ ap (λ (x : Written). x.answer) o.outcome)
