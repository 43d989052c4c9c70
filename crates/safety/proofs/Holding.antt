-- What holds at every moment of a run, in the model's words and for a committee by weight: every call keeps it. Assumes nothing.
use Prim.Native.Nat.{ℕ, ◌<◌}
use mathlib.Core.Path.{◌≡◌, refl, sym, subst, ◌∙◌}
use mathlib.Core.Bool.{Bool, true, false, cond, false≢true}
use mathlib.Core.List.{List, ◌∷◌}
use lib.ListN.{length, take}
use lib.Dec.{eqb}
use borrow.Author.Tests.{eqb-true}
use Rattle.model.specs.Lists.{In}
use Rattle.model.specs.Quorums as quorums
use Rattle.model.specs.Histories.{Lawful}
use Rattle.model.specs.Worlds as model
use Rattle.model.proofs.Moves.{sound_acted, sound_gave, sound_paid_out}
use Rattle.wire.specs.Fields.{laid}
use Rattle.wire.specs.Messages.{funding_fields, inside}
use Rattle.wire.specs.Votes as wire
use Rattle.wire.specs.Readers.{judged_by}
use Rattle.records.specs.States.{Layout, Refusals}
use Rattle.ledger.specs.Calls as on-ledger
use Rattle.bookkeeping.specs.Layouts.{lays}
use Rattle.safety.specs.Runs.{Call, Moment, ledger_rules, acts, after}
use Rattle.safety.proofs.Papers.{papers, History, world}
use Rattle.safety.proofs.Certificates.{Seats, Vouched, certified}
use Rattle.safety.proofs.Books.{Books, fund_books, redeem_books, redeem_found, fund_seats, redeem_seats}
use Rattle.safety.proofs.Followers.{Follower, Goes, given_follower, order_follows, certificate_follows, funding_follows}

-- a committee as the model weighs it
module _ (C : quorums.Committee) (dishonest : ℕ → Bool) where
  -- what was done is sound, and the bytes of the honest machines and of the ledger follow it
  pub record Holds (w : Moment) : Type 0 where
    pub sound : model.Sound papers C dishonest (world w)
    pub machines : (k : ℕ) → k < C.size → dishonest k ≡ false → Follower (w.layouts k) (w.refusals k) C w.given (w.machines k) (w.did k)
    pub books : Books (ledger_rules w) w.ledger w.given w.paid
    pub seats : Seats C ((ledger_rules w).committee w.ledger)

  -- what is asked of a call: it is on an honest machine or on the ledger, and good verdicts tell the truth, whichever header names the committee
  abbrev pub Honest : ℕ → Type 0
  Honest k = (k < C.size) × (dishonest k ≡ false)

  abbrev pub Truthful : Moment → List ℕ → List ℕ → Type 0
  Truthful w m verdicts = (c : wire.Committee) → Seats C c → Vouched dishonest w c m verdicts

  abbrev pub Admitted : Moment → Call → Type 0
  Admitted w (Call.order k m verdicts) = Honest k
  Admitted w (Call.certificate k m verdicts) = Honest k × Truthful w m verdicts
  Admitted w (Call.funding_order k m verdicts) = Honest k × (laid m funding_fields ≡ true → length verdicts ≡ 1 → wire.good verdicts ≡ true → In m w.given)
  Admitted w (Call.fund out account amount) = Unit
  Admitted w (Call.redeem m verdicts) = Truthful w m verdicts

  -- a good certificate's body is certain, whichever header judged it
  pub certified_by : (w : Moment) (m verdicts : List ℕ) → Truthful w m verdicts → (c : wire.Committee) → Seats C c → (judged_by c m verdicts).number ≡ 0
      → model.Certain papers C dishonest (world w) (inside m)
  certified_by w m verdicts truth c seats good = certified C c seats dishonest w m verdicts good (truth c seats)

  -- a machine did something
  holds_acts : (w : Moment) → Holds w → (k : ℕ) → Honest k → (t : List ℕ) (longer : History)
      → Goes (w.layouts k) (w.refusals k) C (model.Certain papers C dishonest (world w)) w.given (w.did k) t longer → Holds (acts w k t longer)
  holds_acts w h k honest t longer new = record {
    sound = sound_acted papers C dishonest (world w) h.sound k longer new.kept new.lawful;
    machines = λ n l other. at n l other (eqb k n) refl;
    books = h.books;
    seats = h.seats;
  }
    where
      at : (n : ℕ) → n < C.size → dishonest n ≡ false → (b : Bool) → eqb k n ≡ b
          → Follower (w.layouts n) (w.refusals n) C w.given (cond b t (w.machines n)) (cond b longer (w.did n))
      at n l other true e = subst (λ (n : ℕ). Follower (w.layouts n) (w.refusals n) C w.given t longer) (eqb-true k n e) new.follower
      at n l other false e = h.machines n l other

  -- one funding order more, or none, leaves what was done sound and the machines following
  given_sound : (w : model.World (List ℕ) (List ℕ)) (t : Bool) (o : List ℕ) → model.Sound papers C dishonest w
      → model.Sound papers C dishonest (record { did = w.did; given = cond t (o ∷ w.given) w.given; paid = w.paid })
  given_sound w true o s = sound_gave papers C dishonest w s o
  given_sound w false o s = s

  given_more : (l : Layout) (r : Refusals) (given : List (List ℕ)) (t : Bool) (o s : List ℕ) (did : History) → Follower l r C given s did
      → Follower l r C (cond t (o ∷ given) given) s did
  given_more l r given true o s did f = given_follower l r C given o s did f
  given_more l r given false o s did f = f

  -- a body that the ledger pays is certain, pays the ledger and was not paid before
  may_pay : (w : Moment) → Holds w → (m verdicts : List ℕ) → Truthful w m verdicts
      → (on-ledger.redeem (ledger_rules w) w.ledger m verdicts).answer.number ≡ 0
      → model.MayPay papers C dishonest (world w) (inside m)
  may_pay w h m verdicts truth e =
      let r = redeem_found (ledger_rules w) w.ledger m verdicts e in
      record {
        certain = certified_by w m verdicts truth _ h.seats r.0;
        ledgers = rw r.1 refl;
        unpaid = λ i. false≢true (sym r.2 ∙ h.books.log_has (inside m) i);
      }

  -- an honest machine's bytes follow what it did, and that is lawful
  pub own : (w : Moment) → Holds w → (k : ℕ) → Honest k → Follower (w.layouts k) (w.refusals k) C w.given (w.machines k) (w.did k)
  own w h k honest = h.machines k honest.0 honest.1

  pub lawful : (w : Moment) → Holds w → (k : ℕ) → Honest k → Lawful papers (model.Certain papers C dishonest (world w)) w.given (w.did k)
  lawful w h k honest = h.sound.lawful k honest.0 honest.1

  -- every call keeps it
  pub holds_call : (w : Moment) → Holds w → (call : Call) → Admitted w call → Holds (after w call)
  holds_call w h (Call.order k m verdicts) honest =
      holds_acts w h k honest _ _
      (order_follows (w.layouts k) (w.refusals k) C _ w.given (w.machines k) (w.did k) (lawful w h k honest) (own w h k honest) m verdicts)
  holds_call w h (Call.certificate k m verdicts) admitted =
      let honest = admitted.0 in
      holds_acts w h k honest _ _
      (certificate_follows (w.layouts k) (w.refusals k) C _ w.given (w.machines k) (w.did k) (lawful w h k honest) (own w h k honest) m verdicts
      (certified_by w m verdicts admitted.1 _ (own w h k honest).seats))
  holds_call w h (Call.funding_order k m verdicts) admitted =
      let honest = admitted.0 in
      holds_acts w h k honest _ _
      (funding_follows (w.layouts k) (w.refusals k) C _ w.given (w.machines k) (w.did k) (lawful w h k honest) (own w h k honest) m verdicts
      h.books.numbered admitted.1)
  holds_call w h (Call.fund out account amount) admitted =
      let o = on-ledger.fund (ledger_rules w) w.ledger out account amount in
      let gave = eqb o.answer.number 0 in
      let order = take 16 o.out in
      record {
        sound = given_sound (world w) gave order h.sound;
        machines = λ k l honest. given_more (w.layouts k) (w.refusals k) w.given gave order (w.machines k) (w.did k) (h.machines k l honest);
        books = fund_books (ledger_rules w) (lays w.ledger_layout) w.ledger w.given w.paid h.books out account amount;
        seats = rw (fund_seats (ledger_rules w) (lays w.ledger_layout) w.ledger out account amount) h.seats;
      }
  holds_call w h (Call.redeem m verdicts) truth = record {
    sound = paid_sound (eqb (on-ledger.redeem (ledger_rules w) w.ledger m verdicts).answer.number 0) refl;
    machines = h.machines;
    books = redeem_books (ledger_rules w) (lays w.ledger_layout) w.ledger w.given w.paid h.books m verdicts;
    seats = rw (redeem_seats (ledger_rules w) (lays w.ledger_layout) w.ledger m verdicts) h.seats;
  }
    where
      paid_sound : (t : Bool) → eqb (on-ledger.redeem (ledger_rules w) w.ledger m verdicts).answer.number 0 ≡ t
          → model.Sound papers C dishonest (record { did = w.did; given = w.given; paid = cond t (inside m ∷ w.paid) w.paid })
      paid_sound true e = sound_paid_out papers C dishonest (world w) h.sound (inside m) (may_pay w h m verdicts truth (eqb-true _ _ e))
      paid_sound false e = h.sound
