-- A machine whose bytes follow what it did, in any layout: every call on it keeps that. Assumes nothing.
use Prim.Native.Nat.{ℕ, suc}
use mathlib.Core.Path.{◌≡◌, refl, ap, ◌∙◌}
use mathlib.Core.Bool.{true, cond}
use mathlib.Core.List.{List, [], ◌∷◌, ◌++◌}
use mathlib.Core.Logic.{inl, inr}
use lib.ListN.{length}
use lib.Dec.{lit<}
use Rattle.model.specs.Lists.{In}
use Rattle.model.specs.Quorums as quorums
use Rattle.model.specs.Histories.{Event, votes, fundings, Lawful}
use Rattle.model.specs.Views.{Effect, events, Follows, Changed}
use Rattle.model.proofs.Following.{obeys, follows_same, follows_given}
use Rattle.model.proofs.Limits.{Moderate, moderate_still}
use Rattle.model.proofs.Moves.{votes_stay}
use Rattle.wire.specs.Fields.{laid}
use Rattle.wire.specs.Messages.{funding_fields, inside}
use Rattle.wire.specs.Votes.{good}
use Rattle.wire.specs.Readers.{judged_by}
use Rattle.states.specs.Headers.{last_index}
use Rattle.records.specs.Balances.{nought}
use Rattle.records.specs.States.{Rules, Layout, Refusals, rules_of}
use Rattle.records.specs.Calls as on-machine
use Rattle.invariants.specs.Meaning.{WellFormed, Moved}
use Rattle.invariants.specs.Theorems.{order_keeps}
use Rattle.invariants.proofs.Theorems.{certificate_keeps, funding_keeps}
use Rattle.invariants.specs.Moving.{moved_formed}
use Rattle.invariants.specs.Layouts.{lays, keeps_all}
use Rattle.safety.specs.Runs.{noted, is_confirmed}
use Rattle.safety.proofs.Papers.{papers, History, shown, Numbered}
use Rattle.safety.proofs.Certificates.{Seats}
use Rattle.safety.proofs.Showing.{Here, Does, moved_shows, order_does, whole_does, funding_does, order_seats, certificate_seats, funding_seats}

-- the bytes of a machine follow what it did, are well formed and name this committee; what it did is of amounts in range
pub record Follower (l : Layout) (r : Refusals) (C : quorums.Committee) (given : List (List ℕ)) (s : List ℕ) (did : History) : Type 0 where
  pub follows : Follows papers 64 nought given (shown (rules_of l r) s) did
  pub index : last_index s ≡ length (fundings did)
  pub formed : WellFormed (rules_of l r) s
  pub seats : Seats C ((rules_of l r).committee s)
  pub moderate : Moderate papers 64 nought did

-- so do those that it is moved to, in whatever layout and under whatever refusals
pub moved_follower : (l : Layout) (r : Refusals) (C : quorums.Committee) (given : List (List ℕ)) (s : List ℕ) (did : History)
    → (l' : Layout) (r' : Refusals) (t : List ℕ) → Moved (rules_of l r) s (rules_of l' r') t → Seats C ((rules_of l' r').committee t)
    → Follower l r C given s did → Follower l' r' C given t did
moved_follower l r C given s did l' r' t m seats f =
    let same = moved_shows (rules_of l r) s (rules_of l' r') t m in
    record {
      follows = follows_same papers 64 nought given (shown (rules_of l r) s) (shown (rules_of l' r') t) did same f.follows;
      index = m.index ∙ f.index;
      formed = moved_formed (rules_of l r) s (rules_of l' r') t m f.formed;
      seats = seats;
      moderate = f.moderate;
    }

-- one more order of the ledger does not disturb it
pub given_follower : (l : Layout) (r : Refusals) (C : quorums.Committee) (given : List (List ℕ)) (o s : List ℕ) (did : History)
    → Follower l r C given s did → Follower l r C (o ∷ given) s did
given_follower l r C given o s did f = record {
  follows = follows_given papers 64 nought given (o ∷ []) (o ∷ given) (shown (rules_of l r) s) did refl f.follows;
  index = f.index;
  formed = f.formed;
  seats = f.seats;
  moderate = f.moderate;
}

-- an index counts the funding orders taken, whatever a call did
indexed : (rules : Rules) (given : List (List ℕ)) (s t : List ℕ) (did : History) (e : Effect (List ℕ) (List ℕ)) → Here rules e
    → Changed papers 64 nought given (shown rules s) (shown rules t) e → last_index s ≡ length (fundings did) → last_index t ≡ length (fundings (events e ++ did))
indexed rules given s t did Effect.nothing here c h = c.indexes 0 (lit< tt) ∙ h
indexed rules given s t did (Effect.new_vote b) here c h = c.indexes 0 (lit< tt) ∙ h
indexed rules given s t did (Effect.same_vote b) here c h = c.2.indexes 0 (lit< tt) ∙ h
indexed rules given s t did (Effect.settled b) here c h = c.turned.indexes 0 (lit< tt) ∙ h
indexed rules given s t did (Effect.debited b) here c h = c.turned.indexes 0 (lit< tt) ∙ h
indexed rules given s t did (Effect.delivered b) here c h = absurd here
indexed rules given s t did (Effect.took o) here c h = elim (c.indexes _ c.in_range) [ inl e ↦ e.0 ∙ ap suc h | inr e ↦ absurd (e.1 refl) ]
indexed rules given s t did (Effect.noted o) here c h = absurd here

-- what a call comes to: what the machine then did is lawful and takes no vote back, and its bytes follow it
pub record Goes (l : Layout) (r : Refusals) (C : quorums.Committee) (Certain : List ℕ → Type 0) (given : List (List ℕ)) (did : History)
    (t : List ℕ) (longer : History) : Type 0 where
  pub lawful : Lawful papers Certain given longer
  pub kept : (b : List ℕ) → In b (votes did) → In b (votes longer)
  pub follower : Follower l r C given t longer

-- calls on a machine, where these bodies are certain, the ledger gave these orders and what the machine did is lawful
module _ (l : Layout) (r : Refusals) (C : quorums.Committee) (Certain : List ℕ → Type 0) (given : List (List ℕ)) (s : List ℕ) (did : History)
    (lawful : Lawful papers Certain given did) (own : Follower l r C given s did) where
  abbrev rules : Rules
  rules = rules_of l r

  abbrev Comes : List ℕ → History → Type 0
  Comes t longer = Goes l r C Certain given did t longer

  does : (t : List ℕ) (longer : History) → Does rules Certain given s t did longer → WellFormed rules t → rules.committee t ≡ rules.committee s
      → Comes t longer
  does t longer d formed same =
      let both = obeys papers 64 nought Certain given did (shown rules s) (shown rules t) d.effect lawful own.follows d.changed d.grounded in
      rw d.history (record {
        lawful = both.0;
        kept = votes_stay (events d.effect) did;
        follower = record {
          follows = both.1;
          index = indexed rules given s t did d.effect d.here d.changed own.index;
          formed = formed;
          seats = rw same own.seats;
          moderate = moderate_still papers 64 nought given (shown rules s) (shown rules t) did d.effect d.changed d.modest own.moderate;
        };
      })

  pub order_follows : (m verdicts : List ℕ)
      → (let o = on-machine.order rules s m verdicts in Comes o.state (noted o.answer (Event.voted (inside m)) did))
  order_follows m verdicts =
      does _ _ (order_does rules (lays l r) Certain given did m verdicts s own.formed)
      (order_keeps rules (lays l r) s m verdicts own.formed) (order_seats rules (lays l r) s m verdicts)

  pub certificate_follows : (m verdicts : List ℕ) → ((judged_by (rules.committee s) m verdicts).number ≡ 0 → Certain (inside m))
      → (let o = on-machine.certificate rules s m verdicts in
      Comes o.state (cond (is_confirmed o.answer) (Event.credited (inside m) ∷ Event.confirmed (inside m) ∷ did) did))
  certificate_follows m verdicts certain =
      does _ _ (whole_does rules (lays l r) Certain given did m verdicts s own.formed (keeps_all l r) certain)
      (certificate_keeps rules (lays l r) s m verdicts own.formed) (certificate_seats rules (lays l r) s m verdicts)

  pub funding_follows : (m verdicts : List ℕ) → Numbered given → (laid m funding_fields ≡ true → length verdicts ≡ 1 → good verdicts ≡ true → In m given)
      → (let o = on-machine.funding_order rules s m verdicts in Comes o.state (noted o.answer (Event.funded m) did))
  funding_follows m verdicts numbered gave =
      does _ _ (funding_does rules (lays l r) Certain given did m verdicts s own.formed (keeps_all l r) numbered gave)
      (funding_keeps rules (lays l r) s m verdicts own.formed) (funding_seats rules (lays l r) s m verdicts)
