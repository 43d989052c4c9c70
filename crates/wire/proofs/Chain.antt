-- A call of `Reader::new`, of `Reader::field` and of `Reader::fields` as one step each of a walk: what the walk of every function that reads a message cites. Said once, so that a read takes two lines.
--     starts        [what s owns; the token; Γ]            the call of `new`    [what the reader owns; the token; what s owns; Γ]
--     reads         [what the reader owns; the token; Γ]   a call of `field`    [what the answer owns; the token; Γ]
--     reads_all     [what the reader owns; the token; Γ]   a call of `fields`   [what the answer owns; the token; Γ]
--     goes_on       [what an answer owns; Γ]               it is a reader       [what that reader owns; Γ]
-- After `new` the machine value to store is `lowered` of the reader, after the others `answer` of the next reader or none. The walk is told what the callee says of it, and that the value has the type of a local.
-- An answer is a reader where the place is not the lost one (`there`, and of a walk `finds`), and a reader that is there is at the next place (`at_next`).
-- Assumes `Logic`, and that `new`, `field` and `fields` meet their contracts.
use mathlib.Core.Path.{◌≡◌, refl, ap, sym, subst, ◌∙◌}
use Prim.Native.Nat.{ℕ, ◌<◌, ◌^◌}
use mathlib.Core.Bool.{Bool, cond}
use mathlib.Core.List.{List, [], ◌∷◌}
use lib.Dec.{T as Holds}
use borrow.Author.Tests.{ne_eqb}
use seplogic.Ra.Ura.{Ura}
use mir.Syntax.{named, erased, w8, w64, Ty, Place, Opd as Operand, Body, seq, call}
use mir.Val.{Val, WT, has_ty, vint}
use base.Logic.{SProp, ent, snd∗, ex_e, id⊢}
use base.Fml.{Lft, Share, ftrue, flft}
use prog.Memory.{Memory}
use prog.Routine.{Routine}
use prog.Wp.{Env, Calls, Loops}
use types.Logic.{Logic, sem}
use contract.Monad.{Fun, fact}
use types.Kit.{Goal, Item, Seq, Step, step, Post, runs, lands, ‵, raw, ◌⊛◌, ⋆, some, later, ◌$◌, ◌∵◌, !, qed, move, use1, use2, split, join, pick, fjoin, frame, await, done}
use types.Run.{Opds}
use sound.WpLaws.{FmC}
use denote.Laws.{Is, Lawful, Typed as Spelled, shows}
use denote.Lowered.{Lowered}
use denote.RattleType.{RattleType}
use denote.Plain.{uint_Makes, uint_row_laws}
use denote.Builtin.{u8, u64, usize}
use denote.Ref.{Bor, NamedLft}
use denote.Slice.{shr_slice_copy}
use denote.Steps.{only, owned, peeks, heard, nothing}
use denote.Struct.Laws as LL
use denote.Triple.Statement.{Contract, Triple}
use denote.Triple.Call.{calls_at}
use denote.Triple.Spec.{triple_of}
use denote.Triple.Clauses.{ensured, lasts}
use Rattle.std.specs.Prelude.{Option, Some, None}
use Rattle.std.specs.contracts.option.Option as O
use Rattle.std.proofs.option.Option.TheLaws as O'
use Rattle.wire.specs.Fields.{Want, want, want_all, lost, after, reader_at, reached}
use Rattle.wire.specs.declared.fields.Reader.{Reader}
use Rattle.wire.proofs.Held.{B, answer, answer_mir, answers, slice, OwnSlice, Owns, OwnsAnswer, opened}
use Rattle.wire.proofs.Reached.{some_at}
use Rattle.wire.specs.contracts.fields.Reader as T
use Rattle.wire.proofs.fields.Reader.TheLaws as T'
use Rattle.wire.specs.contracts.fields.Reader.new as new
use Rattle.wire.proofs.fields.Reader.new.Symbol.{name as #fields·new}
use Rattle.wire.specs.contracts.fields.Reader.field as field
use Rattle.wire.proofs.fields.Reader.field.Symbol.{name as #fields·field}
use Rattle.wire.specs.contracts.fields.Reader.fields as fields
use Rattle.wire.proofs.fields.Reader.fields.Symbol.{name as #fields·fields}

-- what `field` and `fields` say of what they return, which is a reader or none
abbrev pub Moved : Reader → Want → Option Reader → Type 0
Moved r w r' = r' ≡ reached r.message (after r.message.now r.at w)

-- where the next place is not the lost one, it is a reader there
pub there : (r : Reader) (w : Want) {r' : Option Reader} → Moved r w r' → (after r.message.now r.at w ≡ lost → ⊥) → r' ≡ Some (reader_at r.message (after r.message.now r.at w))
unfolding reached
there r w f h = f ∙ ap (λ (t : Bool). cond t None (Some (reader_at r.message (after r.message.now r.at w)))) (ne_eqb (after r.message.now r.at w) lost h)

-- a reader that is there is at the next place, which is not the lost one
pub at_next : (r : Reader) (w : Want) {r' : Reader} → Moved r w (Some r') → (r' ≡ reader_at r.message (after r.message.now r.at w)) × (after r.message.now r.at w ≡ lost → ⊥)
at_next r w {r'} f = some_at r.message (after r.message.now r.at w) r' f

-- what a reader of s at a place, moved, answers is what is reached at the next place of s
pub moved : {s : Bor (List ℕ)} {n : ℕ} {r : Reader} {r' : Option Reader} (w : Want) → r ≡ reader_at s n → Moved r w r' → r' ≡ reached s (after s.now n w)
moved w e f = f ∙ ap (λ (x : Reader). reached x.message (after x.message.now x.at w)) e

-- and where it is a reader, that is one of s at the next place
pub moves : {s : Bor (List ℕ)} {n : ℕ} {r r' : Reader} (w : Want) → r ≡ reader_at s n → Moved r w (Some r') → r' ≡ reader_at s (after s.now n w)
moves {r = r} w e f = (at_next r w f).0 ∙ ap (λ (x : Reader). reader_at x.message (after x.message.now x.at w)) e

-- a reader's machine value has the type of a local, whose lifetime MIR erases
abbrev pub Typed : Reader → Type 0
Typed r = Holds (has_ty (T'.mir erased) (T'.lowered r)) × WT (T'.lowered r)

-- and so has an answer's
abbrev pub TypedAnswer : Option Reader → Type 0
TypedAnswer r = Holds (has_ty (answer_mir erased) (answer r)) × WT (answer r)

-- the lifetime's token, as a contract has it
abbrev pub Token : {M : Type 1} (𝓤 : Ura M) → Lft → Share → Item 𝓤
Token 𝓤 κ q = ‵ (flft κ q) ⊛ ‵ ftrue

module _ {M : Type 1} {𝓤 : Ura M} (𝓛 : Logic 𝓤) (mem : Memory → SProp 𝓤) (run : Routine → Fun 𝓤) where
  -- the contracts that a walk cites
  open 𝓛 use {H}

  abbrev pub New : Contract 𝓤
  New = triple_of 𝓛 new.signature (new.spec 𝓛 mem run)

  abbrev pub Field : Contract 𝓤
  Field = triple_of 𝓛 field.signature (field.spec 𝓛 mem run)

  abbrev pub Fields : Contract 𝓤
  Fields = triple_of 𝓛 fields.signature (fields.spec 𝓛 mem run)

  module _ (κ : Lft) (q : Share) where
    abbrev pub to_new : Bor (List ℕ) → New.Ghost
    to_new s = (((κ, tt), (q, tt), tt, (s, tt), (slice s ∷ [], tt)), tt)

    abbrev pub to_field : Reader → ℕ → ℕ → ℕ → Field.Ghost
    to_field r tag least most = (((κ, tt), (q, tt), tt, (r, (tag, (least, (most, tt)))), (T'.lowered r ∷ [], (vint w64 tag ∷ [], (vint w64 least ∷ [], (vint w64 most ∷ [], tt))))), tt)

    abbrev pub to_fields : Reader → ℕ → ℕ → Fields.Ghost
    to_fields r tag size = (((κ, tt), (q, tt), tt, (r, (tag, (size, tt))), (T'.lowered r ∷ [], (vint w64 tag ∷ [], (vint w64 size ∷ [], tt)))), tt)

    -- what each call ensures of what it returns, and the clause alone: they have no `&mut`, so what is said of last values is dropped
    abbrev ensured_new : Bor (List ℕ) → Reader → SProp 𝓤
    ensured_new s r = ensured 𝓛 new.ended (new.clauses 𝓛 mem run) (κ, tt) (s, tt) tt r

    abbrev ensured_field : Reader → ℕ → ℕ → ℕ → Option Reader → SProp 𝓤
    ensured_field r tag least most r' = ensured 𝓛 field.ended (field.clauses 𝓛 mem run) (κ, tt) (r, (tag, (least, (most, tt)))) tt r'

    abbrev ensured_fields : Reader → ℕ → ℕ → Option Reader → SProp 𝓤
    ensured_fields r tag size r' = ensured 𝓛 fields.ended (fields.clauses 𝓛 mem run) (κ, tt) (r, (tag, (size, tt))) tt r'

    new_said : (s : Bor (List ℕ)) (r : Reader) → ent 𝓤 (ensured_new s r) (fact 𝓤 (r ≡ reader_at s 0))
    new_said s r = ex_e 𝓤 _ (λ ws. snd∗ 𝓤 (sem 𝓛 (lasts new.ended (κ, tt) (s, tt) ws)) (fact 𝓤 (r ≡ reader_at s 0)))

    field_said : (r : Reader) (tag least most : ℕ) (r' : Option Reader) → ent 𝓤 (ensured_field r tag least most r') (fact 𝓤 (Moved r (want tag least most) r'))
    unfolding after
    field_said r tag least most r' = ex_e 𝓤 _ (λ ws. snd∗ 𝓤 (sem 𝓛 (lasts field.ended (κ, tt) (r, (tag, (least, (most, tt)))) ws)) (fact 𝓤 (Moved r (want tag least most) r')))

    fields_said : (r : Reader) (tag size : ℕ) (r' : Option Reader) → ent 𝓤 (ensured_fields r tag size r') (fact 𝓤 (Moved r (want_all tag size) r'))
    unfolding after
    fields_said r tag size r' = ex_e 𝓤 _ (λ ws. snd∗ 𝓤 (sem 𝓛 (lasts fields.ended (κ, tt) (r, (tag, (size, tt))) ws)) (fact 𝓤 (Moved r (want_all tag size) r')))

    module _ where
      abbrev αᵉ : NamedLft
      αᵉ = record { mir = erased; lft = κ }

      reader_lawful : Lawful 𝓛 (T.the_row αᵉ)
      reader_lawful = LL.lawful (T.the_type αᵉ) (T'.the_laws αᵉ) 𝓛

      answer_lawful : Lawful 𝓛 (O.the_row (T.the_row αᵉ))
      answer_lawful = (O'.the_row_laws (T.the_row αᵉ) (T'.the_row_laws αᵉ)).lawful 𝓛

      goes_new : (s : Bor (List ℕ)) → ent 𝓤 (⋆ 𝓛 (‵ (OwnSlice κ s) ∷ Token 𝓤 κ q ∷ [])) (New.pre (to_new s))
      goes_new s = qed 𝓛 (‵ (OwnSlice κ s) ∷ Token 𝓤 κ q ∷ []) ∵ nothing ! $ move ! (1 ∷ 0 ∷ []) $ fjoin ! $ move ! (1 ∷ 0 ∷ []) $ join ! $ frame ! $ done !

      goes_field : (r : Reader) (tag least most : ℕ) → tag < 2 ^ 64 → least < 2 ^ 64 → most < 2 ^ 64 → ent 𝓤 (⋆ 𝓛 (‵ (Owns κ r (T'.lowered r)) ∷ Token 𝓤 κ q ∷ [])) (Field.pre (to_field r tag least most))
      goes_field r tag least most tag-Fits least_fits most-fits =
          qed 𝓛 (‵ (Owns κ r (T'.lowered r)) ∷ Token 𝓤 κ q ∷ []) ∵
          nothing ! $ owned ! usize (Is usize) (uint_Makes 𝓛 w64) most _ (refl, most-fits) $ fjoin ! $ owned ! usize (Is usize) (uint_Makes 𝓛 w64) least _ (refl, least_fits) $ fjoin ! $
          owned ! u64 (Is u64) (uint_Makes 𝓛 w64) tag _ (refl, tag-Fits) $ fjoin ! $ move ! (1 ∷ 0 ∷ []) $ fjoin ! $ move ! (1 ∷ 0 ∷ []) $ join ! $ frame ! $ done !

      goes_fields : (r : Reader) (tag size : ℕ) → tag < 2 ^ 64 → size < 2 ^ 64 → ent 𝓤 (⋆ 𝓛 (‵ (Owns κ r (T'.lowered r)) ∷ Token 𝓤 κ q ∷ [])) (Fields.pre (to_fields r tag size))
      goes_fields r tag size tag-Fits size_fits =
          qed 𝓛 (‵ (Owns κ r (T'.lowered r)) ∷ Token 𝓤 κ q ∷ []) ∵
          nothing ! $ owned ! usize (Is usize) (uint_Makes 𝓛 w64) size _ (refl, size_fits) $ fjoin ! $
          owned ! u64 (Is u64) (uint_Makes 𝓛 w64) tag _ (refl, tag-Fits) $ fjoin ! $ move ! (1 ∷ 0 ∷ []) $ fjoin ! $ move ! (1 ∷ 0 ∷ []) $ join ! $ frame ! $ done !

      -- an answer that is a reader owns what that reader owns
      pub goes_on : {K : Type 0} {Γ : List (Item 𝓤)} → K → (G : Option Reader → Goal 𝓤 H) {r : Option Reader} {r' : Reader} → r ≡ Some r' → Step K 𝓛 (‵ (Owns κ r' (T'.lowered r')) ∷ Γ) (G (Some r')) (‵ (OwnsAnswer κ r (answer r)) ∷ Γ) (G r)
      goes_on {K} {Γ} k G {r' = r'} e = step (λ next.
          subst (λ (x : Option Reader). Seq K 𝓛 (‵ (OwnsAnswer κ x (answer x)) ∷ Γ) (G x)) (sym e) (use1 𝓛 (‵ (Owns κ r' (T'.lowered r'))) (opened κ 𝓛 r') $ next))

      module _ {K : Type 0} {Γ : List (Item 𝓤)} {E : Env 𝓤 H} {C : Calls 𝓤 H} {Λ : Loops 𝓤 H} {p : Post 𝓤 H} {d : Place} {rest : Body} where
        -- what a callee hands back: x of type R, of machine value u, of which it said Told
        receives : K → (R : RattleType) (w : Lowered R) → Lawful 𝓛 R → (says : R.Denot → SProp 𝓤) (Told : R.Denot → Type 0) → ((x : R.Denot) → ent 𝓤 (says x) (fact 𝓤 (Told x))) → (u : Val)
            → ((x : R.Denot) → Told x → Holds (has_ty w.mir (w.lowered x)) × WT (w.lowered x) → Seq K 𝓛 (‵ (R.own_val x (w.lowered x ∷ [])) ∷ Token 𝓤 κ q ∷ Γ) (lands C Λ E d (w.lowered x) rest p))
            → Seq K 𝓛 (later (some (λ (x : R.Denot). (Token 𝓤 κ q ⊛ ‵ (R.own_val x (u ∷ []))) ⊛ raw (says x))) ∷ Γ) (lands C Λ E d u rest p)
        receives k R w lawful says Told said u next =
            await k tt $ pick k (λ x. split k $ move k (1 ∷ []) $ use1 𝓛 (raw (fact 𝓤 (Told x))) (said x) $ heard k (Told x) (λ e. split k $ move k (1 ∷ []) $
            peeks k R (Is R) (shows 𝓛 R) x (u ∷ []) (λ is.
            subst (λ (v : Val). Seq K 𝓛 (‵ (R.own_val x (v ∷ [])) ∷ Token 𝓤 κ q ∷ Γ) (lands C Λ E d v rest p)) (sym (low x is)) (next x e (typed x is)))))
          where
            low : (x : R.Denot) → Is R x (u ∷ []) → u ≡ w.lowered x
            low x is = ap only (w.val_is x (u ∷ []) is)

            typed : (x : R.Denot) → Is R x (u ∷ []) → Holds (has_ty w.mir (w.lowered x)) × WT (w.lowered x)
            typed x is = subst (λ (v : Val). Holds (has_ty w.mir v) × WT v) (low x is) (subst (λ (τs : List Ty). Spelled τs (u ∷ [])) w.layout_is (lawful.typed x (u ∷ []) is)).0

        -- where the next place is not the lost one, it is enough to go on from a reader there
        pub finds : K → (r : Reader) (w : Want) → (after r.message.now r.at w ≡ lost → ⊥)
            → ((r' : Reader) → r' ≡ reader_at r.message (after r.message.now r.at w) → Typed r' → Seq K 𝓛 (‵ (Owns κ r' (T'.lowered r')) ∷ Token 𝓤 κ q ∷ Γ) (lands C Λ E d (answer (Some r')) rest p))
            → (r' : Option Reader) → Moved r w r' → TypedAnswer r' → Seq K 𝓛 (‵ (OwnsAnswer κ r' (answer r')) ∷ Token 𝓤 κ q ∷ Γ) (lands C Λ E d (answer r') rest p)
        finds k r w h next r' f _ =
            let n : Reader = reader_at r.message (after r.message.now r.at w) in
            goes_on k (λ x. lands C Λ E d (answer x) rest p) (there r w f h) $
            peeks k (B (κ, tt)) (Is (B (κ, tt))) (shows 𝓛 (B (κ, tt))) n (T'.lowered n ∷ []) (λ is. next n refl (reader_lawful.typed n _ is).0)

      module _ {K : Type 0} {Γ : List (Item 𝓤)} {E : Env 𝓤 H} {C : Calls 𝓤 H} {Λ : Loops 𝓤 H} {p : Post 𝓤 H} {d : Place} {rest : Body} {xs : List Operand} (fm : FmC 𝓤 H 𝓛.laws C) where
        pub starts : K → Triple 𝓤 (C #fields·new) New → (s : Bor (List ℕ)) → Opds K 𝓛 (raw (New.pre (to_new s)) ∷ ‵ (OwnSlice κ s) ∷ Γ) E xs (slice s ∷ [])
            → ((r : Reader) → r ≡ reader_at s 0 → Typed r → Seq K 𝓛 (‵ (Owns κ r (T'.lowered r)) ∷ Token 𝓤 κ q ∷ ‵ (OwnSlice κ s) ∷ Γ) (lands C Λ E d (T'.lowered r) rest p))
            → Seq K 𝓛 (‵ (OwnSlice κ s) ∷ Token 𝓤 κ q ∷ Γ) (runs C Λ E (seq (call #fields·new xs d) rest) p)
        starts k known s os next =
            use1 𝓛 (‵ (OwnSlice κ s) ⊛ ‵ (OwnSlice κ s)) ((shr_slice_copy 𝓛 (named 0) κ u8 (uint_row_laws w8)).twice s (slice s ∷ [])) $ split k $ move k (0 ∷ 2 ∷ []) $ use2 𝓛 (raw (New.pre (to_new s))) (goes_new s) $
            calls_at k fm New known (to_new s) os (λ u.
            use1 𝓛 (later (some (λ (r : Reader). (Token 𝓤 κ q ⊛ ‵ (Owns κ r u)) ⊛ raw (ensured_new s r)))) (id⊢ 𝓤 _) $ receives k (T.the_row αᵉ) (T'.lowers αᵉ) reader_lawful (ensured_new s) (λ r. r ≡ reader_at s 0) (new_said s) u next)

        pub reads : K → Triple 𝓤 (C #fields·field) Field → (r : Reader) (tag least most : ℕ) → tag < 2 ^ 64 → least < 2 ^ 64 → most < 2 ^ 64
            → Opds K 𝓛 (raw (Field.pre (to_field r tag least most)) ∷ Γ) E xs (T'.lowered r ∷ vint w64 tag ∷ vint w64 least ∷ vint w64 most ∷ [])
            → ((r' : Option Reader) → Moved r (want tag least most) r' → TypedAnswer r' → Seq K 𝓛 (‵ (OwnsAnswer κ r' (answer r')) ∷ Token 𝓤 κ q ∷ Γ) (lands C Λ E d (answer r') rest p))
            → Seq K 𝓛 (‵ (Owns κ r (T'.lowered r)) ∷ Token 𝓤 κ q ∷ Γ) (runs C Λ E (seq (call #fields·field xs d) rest) p)
        reads k known r tag least most tag-Fits least_fits most-fits os next =
            use2 𝓛 (raw (Field.pre (to_field r tag least most))) (goes_field r tag least most tag-Fits least_fits most-fits) $
            calls_at k fm Field known (to_field r tag least most) os (λ u.
            use1 𝓛 (later (some (λ (r' : Option Reader). (Token 𝓤 κ q ⊛ ‵ (OwnsAnswer κ r' u)) ⊛ raw (ensured_field r tag least most r')))) (id⊢ 𝓤 _) $ receives k (O.the_row (T.the_row αᵉ)) (answers αᵉ) answer_lawful (ensured_field r tag least most) (Moved r (want tag least most)) (field_said r tag least most) u next)

        pub reads_all : K → Triple 𝓤 (C #fields·fields) Fields → (r : Reader) (tag size : ℕ) → tag < 2 ^ 64 → size < 2 ^ 64
            → Opds K 𝓛 (raw (Fields.pre (to_fields r tag size)) ∷ Γ) E xs (T'.lowered r ∷ vint w64 tag ∷ vint w64 size ∷ [])
            → ((r' : Option Reader) → Moved r (want_all tag size) r' → TypedAnswer r' → Seq K 𝓛 (‵ (OwnsAnswer κ r' (answer r')) ∷ Token 𝓤 κ q ∷ Γ) (lands C Λ E d (answer r') rest p))
            → Seq K 𝓛 (‵ (Owns κ r (T'.lowered r)) ∷ Token 𝓤 κ q ∷ Γ) (runs C Λ E (seq (call #fields·fields xs d) rest) p)
        reads_all k known r tag size tag-Fits size_fits os next =
            use2 𝓛 (raw (Fields.pre (to_fields r tag size))) (goes_fields r tag size tag-Fits size_fits) $
            calls_at k fm Fields known (to_fields r tag size) os (λ u.
            use1 𝓛 (later (some (λ (r' : Option Reader). (Token 𝓤 κ q ⊛ ‵ (OwnsAnswer κ r' u)) ⊛ raw (ensured_fields r tag size r')))) (id⊢ 𝓤 _) $ receives k (O.the_row (T.the_row αᵉ)) (answers αᵉ) answer_lawful (ensured_fields r tag size) (Moved r (want_all tag size)) (fields_said r tag size) u next)
