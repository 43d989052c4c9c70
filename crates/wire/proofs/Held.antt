-- What a reader owns: its message, of which it is Copy. What it lends to a callee, and what it owns once its place has changed.
-- What `field` and `fields` answer is a reader or none: the machine value of that, and that it owns what the reader owns.
-- Assumes `Logic`.
use mathlib.Core.Path.{◌≡◌, refl}
use Prim.Native.Nat.{ℕ, ◌<◌, ◌^◌}
use mathlib.Core.Logic.{inr, inl}
use mathlib.Core.List.{List, [], ◌∷◌}
use lib.ListN.{length}
use seplogic.Ra.Ura.{Ura}
use mir.Syntax.{named, Lifetime, Ty, w8, w64}
use mir.Val.{Val, vint, vstruct, vcons, vnil}
use base.Logic.{ent, sep}
use base.Fml.{Lft, Fml}
use types.Logic.{Logic, sem}
use contract.Lifetimes.{Lfts}
use types.Kit.{‵, ◌⊛◌, given, ◌$◌, ◌∵◌, !, qed, by, move, drop, use1, split, fsplit, learn, frame, done}
use denote.RattleType.{RattleType}
use denote.Laws.{Is}
use denote.Plain.{uint_Makes}
use denote.Builtin.{u8, usize}
use denote.Lowered.{Lowered, by_values}
use denote.Param.{layout}
use denote.Enum.Declared as enum
use denote.Enum.Laws as enum_law
use denote.Enum.Rest as enum_rest
use denote.Ref.{Bor, NamedLft}
use denote.Signature.{named_lft}
use denote.Slice.{slice_val, ShrSlice}
use denote.Steps.{owned}
use denote.Struct.Declared.{Declared}
use denote.Struct.Laws as LL
use denote.Struct.Rest.{all_own, field_own, rest, own_open, own_out, own_put}
use denote.Struct.Values.{Values}
use Rattle.std.specs.Prelude.{Option, Some, None}
use Rattle.std.specs.contracts.option.Option as O
use Rattle.std.proofs.option.Option.TheLaws as O'
use Rattle.wire.specs.Fields.{reader_at}
use Rattle.wire.specs.declared.fields.Reader.{Reader}
use Rattle.wire.specs.contracts.fields.Reader as T
use Rattle.wire.proofs.fields.Reader.TheLaws as T'

-- the struct's type, over the signature's lifetimes
abbrev pub B : Lfts 1 → RattleType
B κs = T.the_row (named_lft 1 0 tt κs)

-- the type of an answer, a reader or none; its machine value, which is the tag and behind it the reader's; its MIR type
abbrev pub Answer : Lfts 1 → RattleType
Answer κs = O.the_row (B κs)

abbrev pub answer : Option Reader → Val
answer None = vstruct (vcons (vint w8 0) vnil)
answer (Some r) = vstruct (vcons (vint w8 1) (vcons (T'.lowered r) vnil))

abbrev pub answer_mir : Lifetime → Ty
answer_mir a = layout (O.the_row (T.the_row (record { mir = a; lft = [] })))

module _ (a : NamedLft) where
  -- as the library has them of its `Option`
  abbrev lowers : Lowered (O.the_row (T.the_row a))
  lowers = O'.lowers (T.the_row a) (T'.the_row_laws a) (T'.the_told a)

  pub lowered_is : (o : Option Reader) → lowers.lowered o ∷ [] ≡ answer o ∷ []
  lowered_is None = refl
  lowered_is (Some r) = refl

  abbrev pub answers : Lowered (O.the_row (T.the_row a))
  answers = record { mir = answer_mir a.mir; lowered = answer; layout_is = refl; val_is = by_values (O.the_row (T.the_row a)) (λ o. lowers.lowered o ∷ []) answer lowers.val_is lowered_is }

-- the machine value of a slice
abbrev pub slice : Bor (List ℕ) → Val
slice s = slice_val s.ref_ptr (length s.now)

module _ (κ : Lft) where
  abbrev pub OwnSlice : Bor (List ℕ) → Fml
  OwnSlice s = (ShrSlice (named 0) κ u8).own_val s (slice s ∷ [])

  abbrev pub Owns : Reader → Val → Fml
  Owns r u = (B (κ, tt)).own_val r (u ∷ [])

  abbrev pub OwnsAnswer : Option Reader → Val → Fml
  OwnsAnswer o u = (Answer (κ, tt)).own_val o (u ∷ [])

  -- the struct's type and laws
  abbrev D : Declared
  D = T.the_type (named_lft 1 0 tt (κ, tt))

  abbrev L : LL.Laws D
  L = T'.the_laws (named_lft 1 0 tt (κ, tt))

  module _ {M : Type 1} {𝓤 : Ura M} (𝓛 : Logic 𝓤) (r : Reader) where
    abbrev Own : Fml
    Own = Owns r (T'.lowered r)

    -- the values of r's parts
    abbrev parts : Values D.parts
    parts = (r.message, (r.at, tt))

    pub twice : ent 𝓤 (sem 𝓛 Own) (sep 𝓤 (sem 𝓛 Own) (sem 𝓛 Own))
    twice = (LL.copy D (T'.the_copy (named_lft 1 0 tt (κ, tt))) 𝓛).twice r (T'.lowered r ∷ [])

    -- the message, and all that it owns is kept
    pub lends : ent 𝓤 (sem 𝓛 Own) (sep 𝓤 (sem 𝓛 (OwnSlice r.message)) (sem 𝓛 Own))
    lends =
        qed 𝓛 (‵ Own ∷ []) ∵ use1 𝓛 (‵ Own ⊛ ‵ Own) twice $ split ! $
        use1 𝓛 (given (T'.lowered r ∷ [] ≡ T'.lowered r ∷ []) (‵ (all_own D.parts L parts))) (own_open 𝓛 D L parts (T'.lowered r)) $ learn ! (λ _. use1 𝓛 (‵ (field_own D.parts L 0 r.message) ⊛ ‵ (rest D.parts L 0 parts)) (own_out 𝓛 D.parts L 0 parts) $ split ! $
        -- [what message owns; what at owns; what r owns]
        move ! (1 ∷ []) $ drop ! $ frame ! $ done !)

    -- the reader of the same message at place n owns the same, with the facts of n in the place of at's
    pub anew : (n : ℕ) → n < 2 ^ 64 → ent 𝓤 (sem 𝓛 Own) (sem 𝓛 (Owns (reader_at r.message n) (T'.lowered (reader_at r.message n))))
    anew n fits = qed 𝓛 (‵ Own ∷ []) ∵ owned ! usize (Is usize) (uint_Makes 𝓛 w64) n _ (refl, fits) $ move ! (1 ∷ 0 ∷ []) $ by ! (own_put 𝓛 D L 1 parts n (T'.lowered r))

    -- an answer that is a reader owns what the reader owns
    abbrev A : enum.Declared
    A = O.the_type (B (κ, tt))

    abbrev A' : enum_law.Laws A
    A' = O'.the_laws (B (κ, tt)) (T'.the_row_laws (named_lft 1 0 tt (κ, tt))) (T'.the_told (named_lft 1 0 tt (κ, tt)))

    pub opened : ent 𝓤 (sem 𝓛 (OwnsAnswer (Some r) (answer (Some r)))) (sem 𝓛 Own)
    opened =
        qed 𝓛 (‵ (OwnsAnswer (Some r) (answer (Some r))) ∷ []) ∵
        use1 𝓛 (given (answer (Some r) ∷ [] ≡ answer (Some r) ∷ []) (‵ (enum_rest.live_own A.parts A' (inr (inl (r, tt)))))) (enum_rest.own_open 𝓛 A A' (inr (inl (r, tt))) (answer (Some r))) $ learn ! (λ _.
        -- [what r owns; nothing]
        fsplit ! $ move ! (1 ∷ []) $ drop ! $ done !)
