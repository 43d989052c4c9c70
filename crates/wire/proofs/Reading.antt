-- A function that takes a message and returns what a chain of readers finds in it: what is left of its proof once its body has been walked from `Chain.antt`'s steps.
-- Assumes `Logic`.
use Prim.Native.Nat.{ℕ}
use mathlib.Core.List.{List, [], ◌∷◌}
use seplogic.Ra.Ura.{Ura}
use mir.Syntax.{Fn, named}
use mir.Val.{Val}
use base.Logic.{SProp, ent, emp, via, fst∗}
use base.Fml.{Lft, Share}
use prog.Wp.{WpFn, Tables}
use types.Logic.{Logic}
use contract.Monad.{fact}
use types.Kit.{‵, ⋆, ◌$◌, ◌∵◌, !, qed, move, fjoin, suffices, frame, done}
use sound.WpLaws.{WpFn-mono}
use denote.RattleType.{RattleType}
use denote.Laws.{Is, Makes}
use denote.Builtin.{u8, SliceRef}
use denote.Ref.{Bor}
use denote.Signature.{plain}
use denote.Slice.{ShrSlice, shr_slice_vals, shr_slice_Tells}
use denote.Steps.{owned, nothing}
use denote.Triple.Clauses.{Ended, Clauses, closing}
use denote.Triple.Entry.{on_entry}
use denote.Triple.Spec.{Meets}
use denote.Triple.Walked.{says, Stays, stay_none_slice, walk_of, Goes-none_slice, ends_at, walked, walk_Meets}
use denote.Exit.{yes}
use Rattle.wire.proofs.Held.{slice, OwnSlice}
use Rattle.wire.proofs.Chain.{Token}

module _ (R : RattleType) (Says : List ℕ → R.Denot → Type 0) where
  -- a message, and a result of type R
  abbrev reading : Ended
  reading = record { signature = record { lifetimes = 1; outlives = []; params = SliceRef 0 tt u8 tt ∷ []; result = plain (λ _. R) }; kept = (yes, tt) }

  abbrev stayed : Stays reading.signature.params reading.kept
  stayed = (stay_none_slice (0 ∷ []) tt (plain (λ _. u8)) yes, tt)

  module _ {M : Type 1} {𝓤 : Ura M} (𝓛 : Logic 𝓤) where
    -- nothing is required, and the result is as Says has it
    open 𝓛 use {H}

    abbrev clauses : Clauses 𝓤 reading
    clauses κs a = record { ghost = Unit {0}; requires = λ _. emp 𝓤; ensures = λ _ r _. fact 𝓤 (Says a.0.now r) }

    module _ (κ : Lft) (q : Share) (s : Bor (List ℕ)) where
      abbrev pub Entry : SProp 𝓤
      Entry = on_entry 𝓛 reading.signature (κ, tt) (q, tt) (s, tt) (slice s ∷ [], tt)

      abbrev pub Post : Val → SProp 𝓤
      Post = (walk_of 𝓛 reading stayed clauses).post (((κ, tt), (q, tt), tt, (s, tt), (slice s ∷ [], tt)), tt)

      module _ where
        pub exits : Makes 𝓛 R (Is R) → (r : R.Denot) (u : Val) → Is R r (u ∷ []) → Says s.now r → ent 𝓤 (⋆ 𝓛 (Token 𝓤 κ q ∷ ‵ (OwnSlice κ s) ∷ [])) (Post u)
        exits makes r u is so =
            qed 𝓛 (Token 𝓤 κ q ∷ ‵ (OwnSlice κ s) ∷ []) ∵
            suffices ! _ (ends_at 𝓛 reading stayed clauses (((κ, tt), (q, tt), tt, (s, tt), (slice s ∷ [], tt)), tt) u r (tt, tt) (tt, tt)) $ says ! so $
            frame ! $ nothing ! $ move ! (1 ∷ 0 ∷ []) $ fjoin ! $ frame ! $ owned ! R (Is R) makes r (u ∷ []) is $ done !

    pub meets : (𝓣 : Tables 𝓤 H) (function : Fn)
        → ((κ : Lft) (q : Share) (s : Bor (List ℕ)) → Is (ShrSlice (named 0) κ u8) s (slice s ∷ []) → ent 𝓤 (Entry κ q s) (WpFn 𝓤 H 𝓣.C 𝓣.Λ function (slice s ∷ []) (Post κ q s)))
        → Meets 𝓛 reading.signature (WpFn 𝓤 H 𝓣.C 𝓣.Λ function) (closing 𝓛 reading clauses)
    meets 𝓣 function walk = walk_Meets 𝓛 reading stayed (Goes-none_slice 𝓛 1 (0 ∷ []) tt (plain (λ _. u8)) yes, tt) clauses (WpFn 𝓤 H 𝓣.C 𝓣.Λ function) (WpFn-mono 𝓤 H 𝓛.laws 𝓣 function)
        (walked 𝓛 reading stayed clauses (WpFn 𝓤 H 𝓣.C 𝓣.Λ function) (λ κs. (shr_slice_vals, tt)) (λ κs. (shr_slice_Tells (named 0) κs.0 u8, tt))
        (λ κs qs bounds a g are. via 𝓤 _ (fst∗ 𝓤 _ (emp 𝓤)) (walk κs.0 qs.0 a.0 are.0)))
