-- Every effect of a call is lawful, and the state after it follows the longer history. Assumes nothing.
use Prim.Native.Nat.{ℕ, suc, ◌+◌, ◌≤◌, ◌<◌}
use mathlib.Core.Path.{◌≡◌, refl, sym, ap, ◌∙◌}
use mathlib.Core.Logic.{◌⊎◌, inl, inr}
use mathlib.Core.List.{List, [], ◌∷◌, ◌++◌, append_assoc, append-nil}
use mathlib.Core.Option.{Option, none, some}
use native.Mathlib.Decide.{ℕ_discrete}
use native.Mathlib.Omega.{arith}
use native.Mathlib.Nat.{zero-add}
use Rattle.model.specs.Lists.{In, sum_of}
use Rattle.model.specs.Histories.{Payments, Event, votes, debits, credits, fundings, is_of, fund_to, next, MayVote, Lawful}
use Rattle.model.specs.Views.{Shown, GaveAs, Taken, Effect, events, Turns, Follows, SameTurns, Same, VotedNew, Turned, Settled, Debited, Delivered, Rises, Took, Noted, Changed, Grounded}
use Rattle.model.proofs.SumLaws.{sum_append, suffix_same, only_here, only_elsewhere}
use Rattle.model.proofs.HistoryLaws.{vote_below, debit_below, credit_debit}

none_some : {A P : Type 0} (o : Option A) (a : A) → o ≡ none → o ≡ some a → P
none_some {P} o a p q = absurd (let z : ◌≡◌ {A = ℕ} 0 1 = cc in omega arith)

-- one order more is taken, by its index
take_next : {O : Type 0} (given : List O) (last : ℕ) (g : O → ℕ) (n : ℕ) (o : O) → Taken given last g n → GaveAs given o (suc last)
    → Taken given (suc last) g (g o + n)
take_next given last g n o t v = record {
  newer = v.newer;
  older = o ∷ v.older;
  placed = v.placed;
  number = v.number;
  sums = omega (arith, t.sums, ap (sum_of g) same);
}
  where
    same : v.older ≡ t.older
    same =
        suffix_same (v.newer ++ o ∷ []) t.newer v.older t.older
        (append_assoc v.newer (o ∷ []) v.older ∙ v.placed ∙ sym t.placed) (omega (arith, v.number, t.number))

taken_le : {O : Type 0} (given : List O) (last : ℕ) (g : O → ℕ) (n : ℕ) → Taken given last g n → n ≤ sum_of g given
taken_le given last g n t = omega (arith, t.sums, sum_append g t.newer t.older, ap (sum_of g) t.placed)

-- orders that come later do not disturb what was taken
taken_later : {O : Type 0} (given more all : List O) (last : ℕ) (g : O → ℕ) (n : ℕ) → more ++ given ≡ all → Taken given last g n → Taken all last g n
taken_later given more all last g n e t = record {
  newer = more ++ t.newer;
  older = t.older;
  placed = append_assoc more t.newer t.older ∙ ap (λ r. more ++ r) t.placed ∙ e;
  number = t.number;
  sums = t.sums;
}

module _ (K : Payments) (accounts lift : ℕ) where
  open K use {Body, sender, amount, sequence, Order, account, value, index}

  -- ---- turns

  turns_vote : (s t : Shown Body) (vs cs : List Body) (b : Body) → Turns K accounts lift s vs cs → VotedNew K accounts lift s t b
      → Turns K accounts lift t (b ∷ vs) cs
  turns_vote s t vs cs b f v = record {
    next_is = λ x k. v.nexts x k ∙ f.next_is x k;
    open_is = λ x k c e. held x k c e (ℕ_discrete x (sender b));
    shut_is = λ x k e c. clear x k e c (ℕ_discrete x (sender b));
  }
    where
      held : (x : ℕ) → x < accounts → (c : Body) → t.pending x ≡ some c → Dec (x ≡ sender b)
          → In c (b ∷ vs) × (sender c ≡ x) × (sequence c ≡ sum_of (is_of K x) cs)
      held x k c e (yes q) =
          let z : t.pending x ≡ some b = rw q v.stored in
          let same : c ≡ b = cc in
          (inl same, ap sender same ∙ sym q, ap sequence same ∙ v.turn ∙ ap s.next_of (sym q) ∙ f.next_is x k)
      held x k c e (no q) = let r = f.open_is x k c (sym (v.others x k q) ∙ e) in (inr r.0, r.1, r.2)

      clear : (x : ℕ) → x < accounts → t.pending x ≡ none → (c : Body) → Dec (x ≡ sender b) → (c ≡ b) ⊎ In c vs → sender c ≡ x
          → sequence c ≡ sum_of (is_of K x) cs → ⊥
      clear x k e c (yes q) i p r = none_some (t.pending x) b e (rw q v.stored)
      clear x k e c (no q) (inl z) p r = q (cc)
      clear x k e c (no q) (inr i) p r = f.shut_is x k (sym (v.others x k q) ∙ e) c i p r

  turns_again : (s : Shown Body) (vs cs : List Body) (b : Body) → Turns K accounts lift s vs cs → In b vs → Turns K accounts lift s (b ∷ vs) cs
  turns_again s vs cs b f i = record {
    next_is = f.next_is;
    open_is = λ x y c q. let r = f.open_is x y c q in (inr r.0, r.1, r.2);
    shut_is = λ x y q c. elim [ inl z ↦ λ p r. f.shut_is x y q c (rw z i) p r | inr j ↦ λ p r. f.shut_is x y q c j p r ];
  }

  turns_over : (s t : Shown Body) (vs cs : List Body) (b : Body) → ((d : Body) → In d vs → sequence d ≤ sum_of (is_of K (sender d)) cs)
      → Turns K accounts lift s vs cs → Turned K accounts lift s t b → Turns K accounts lift t vs (b ∷ cs)
  turns_over s t vs cs b low f v = record {
    next_is = λ x k. omega (arith, v.nexts x k, f.next_is x k);
    open_is = λ x k d e. held x k d e (ℕ_discrete x (sender b));
    shut_is = λ x k e d i p r. clear x k e d i p r (ℕ_discrete x (sender b));
  }
    where
      held : (x : ℕ) → x < accounts → (d : Body) → t.pending x ≡ some d → Dec (x ≡ sender b)
          → In d vs × (sender d ≡ x) × (sequence d ≡ sum_of (is_of K x) (b ∷ cs))
      held x k d e (yes q) = none_some (t.pending x) d (rw q v.cleared) e
      held x k d e (no q) =
          let r = f.open_is x k d (sym (v.others x k q) ∙ e) in
          (r.0, r.1, omega (arith, r.2, only_elsewhere (sender b) x 1 (λ y. q (sym y))))

      clear : (x : ℕ) → x < accounts → t.pending x ≡ none → (d : Body) → In d vs → sender d ≡ x → sequence d ≡ sum_of (is_of K x) (b ∷ cs) → Dec (x ≡ sender b)
          → ⊥
      clear x k e d i p r (yes q) =
          omega (arith, low d i, ap (λ (y : ℕ). sum_of (is_of K y) cs) p, r, only_here (sender b) x 1 (sym q))
      clear x k e d i p r (no q) =
          f.shut_is x k (sym (v.others x k q) ∙ e) d i p (omega (arith, r, only_elsewhere (sender b) x 1 (λ y. q (sym y))))

  turns_same : (s t : Shown Body) (vs cs : List Body) → Turns K accounts lift s vs cs → SameTurns K accounts lift s t → Turns K accounts lift t vs cs
  turns_same s t vs cs f v = record {
    next_is = λ x k. v.nexts x k ∙ f.next_is x k;
    open_is = λ x k d e. f.open_is x k d (sym (v.pendings x k) ∙ e);
    shut_is = λ x k e. f.shut_is x k (sym (v.pendings x k) ∙ e);
  }

  -- ---- effects

  -- an order taken bears an index up to the last, also where the indexes are equal
  orders_stay : (given : List Order) (s t : Shown Body) (h : List (Event Body Order)) → ((y : ℕ) → y < accounts → t.last y ≡ s.last y)
      → Follows K accounts lift given s h
      → (o : Order) → In o (fundings h) → (account o < accounts) × (index o ≤ t.last (account o))
  orders_stay given s t h indexes f o i = let r = f.orders o i in (r.0, rw (indexes (account o) r.0) r.1)

  pub follows_same : (given : List Order) (s t : Shown Body) (h : List (Event Body Order)) → Same K accounts lift s t → Follows K accounts lift given s h
      → Follows K accounts lift given t h
  follows_same given s t h v f = record {
    turns = turns_same s t (votes h) (debits h) f.turns v.turns;
    money = λ x k. omega (arith, v.balances x k, f.money x k);
    in_use = λ x k. v.marks x k ∙ f.in_use x k;
    taken = λ x k. rw (v.indexes x k) (f.taken x k);
    orders = orders_stay given s t h v.indexes f;
  }

  module _ (Certain : Body → Type 0) (given : List Order) (h : List (Event Body Order)) (s t : Shown Body) where
    -- a new vote: it was allowed, and the state still follows
    vote_new_lem : (b : Body) → Follows K accounts lift given s h → VotedNew K accounts lift s t b
        → MayVote K h b × Follows K accounts lift given t (Event.voted b ∷ h)
    vote_new_lem b f v = (
      record {
        turn = v.turn ∙ f.turns.next_is (sender b) v.sender_in;
        first = λ c i e q. f.turns.shut_is (sender b) v.sender_in v.free c i e (q ∙ v.turn ∙ f.turns.next_is (sender b) v.sender_in);
        covered = omega (arith, v.enough, f.money (sender b) v.sender_in);
      },
      record {
        turns = turns_vote s t (votes h) (debits h) b f.turns v;
        money = λ x k. omega (arith, v.balances x k, f.money x k);
        in_use = λ x k. v.marks x k ∙ f.in_use x k;
        taken = λ x k. rw (v.indexes x k) (f.taken x k);
        orders = orders_stay given s t h v.indexes f;
      },
    )

    -- a vote repeated: the pending body was voted for
    vote_again : (b : Body) → Follows K accounts lift given s h → sender b < accounts → s.pending (sender b) ≡ some b
        → In b (votes h) × Follows K accounts lift given s (Event.voted b ∷ h)
    vote_again b f k e =
        let i = f.turns.open_is (sender b) k b e in (
          i.0,
          record {
            turns = turns_again s (votes h) (debits h) b f.turns i.0;
            money = f.money;
            in_use = f.in_use;
            taken = f.taken;
            orders = f.orders;
          },
        )

    -- a certificate's turn is the next, so it was neither confirmed nor credited before
    turn_is : (b : Body) → Follows K accounts lift given s h → Turned K accounts lift s t b → sequence b ≡ next K h (sender b)
    turn_is b f v = v.turn ∙ f.turns.next_is (sender b) v.sender_in

    uncredited : (b : Body) → Lawful K Certain given h → sequence b ≡ next K h (sender b) → In b (credits h) → ⊥
    uncredited b l turn i = omega (arith, turn, debit_below K Certain given h l b (credit_debit K Certain given h l b i))

    -- a certificate confirmed, and credited at once
    settle : (b : Body) → Lawful K Certain given h → Follows K accounts lift given s h → Settled K accounts lift s t b → Certain b
        → Lawful K Certain given (Event.credited b ∷ Event.confirmed b ∷ h) × Follows K accounts lift given t (Event.credited b ∷ Event.confirmed b ∷ h)
    settle b l f v c =
        let turn = turn_is b f v.turned in (
          ((inl refl, uncredited b l turn), ((turn, c), l)),
          record {
            turns = turns_over s t (votes h) (debits h) b (vote_below K Certain given h l) f.turns v.turned;
            money = λ x k. omega (arith, v.balances x k, f.money x k);
            in_use = λ x k. omega (arith, v.marks x k, f.in_use x k);
            taken = λ x k. rw (v.turned.indexes x k) (f.taken x k);
            orders = orders_stay given s t h v.turned.indexes f;
          },
        )

    -- or confirmed alone
    debit : (b : Body) → Lawful K Certain given h → Follows K accounts lift given s h → Debited K accounts lift s t b → Certain b
        → Lawful K Certain given (Event.confirmed b ∷ h) × Follows K accounts lift given t (Event.confirmed b ∷ h)
    debit b l f v c = (
      ((turn_is b f v.turned, c), l),
      record {
        turns = turns_over s t (votes h) (debits h) b (vote_below K Certain given h l) f.turns v.turned;
        money = λ x k. omega (arith, v.balances x k, f.money x k);
        in_use = λ x k. omega (arith, v.marks x k, f.in_use x k);
        taken = λ x k. rw (v.turned.indexes x k) (f.taken x k);
        orders = orders_stay given s t h v.turned.indexes f;
      },
    )

    -- and credited later
    deliver : (b : Body) → Lawful K Certain given h → Follows K accounts lift given s h → Delivered K accounts lift s t b
        → In b (debits h) × (In b (credits h) → ⊥)
        → Lawful K Certain given (Event.credited b ∷ h) × Follows K accounts lift given t (Event.credited b ∷ h)
    deliver b l f v g = (
      (g, l),
      record {
        turns = turns_same s t (votes h) (debits h) f.turns v.turns;
        money = λ x k. omega (arith, v.balances x k, f.money x k);
        in_use = λ x k. omega (arith, v.marks x k, f.in_use x k);
        taken = λ x k. rw (v.indexes x k) (f.taken x k);
        orders = orders_stay given s t h v.indexes f;
      },
    )

    -- a funding order taken
    take : (o : Order) → Lawful K Certain given h → Follows K accounts lift given s h → Took K accounts lift given s t o
        → Lawful K Certain given (Event.funded o ∷ h) × Follows K accounts lift given t (Event.funded o ∷ h)
    take o l f v = (
      (
        (
          λ i. omega (arith, (f.orders o i).1, v.turn),
          taken_le given _ (fund_to K (account o)) _ (take_next given _ (fund_to K (account o)) _ o (f.taken (account o) v.in_range) v.owner),
        ),
        l,
      ),
      record {
        turns = turns_same s t (votes h) (debits h) f.turns v.turns;
        money = λ x k. omega (arith, v.balances x k, f.money x k);
        in_use = λ x k. omega (arith, v.marks x k, f.in_use x k);
        taken = λ x k. step x (sum_of (fund_to K x) (fundings h)) (f.taken x k) (v.indexes x k);
        orders = λ p. elim [
          | inl e ↦ rw e (v.in_range, own (v.indexes (account o) v.in_range))
          | inr i ↦ let r = f.orders p i in (r.0, grows (account p) (index p) r.1 (v.indexes (account p) r.0))
        ];
      },
    )
      where
        own : Rises K accounts lift given s t o (account o) ⊎ ((t.last (account o) ≡ s.last (account o)) × (account o ≡ account o → ⊥))
            → index o ≤ t.last (account o)
        own (inl r) = omega (arith, v.turn, r.0)
        own (inr r) = absurd (r.1 refl)

        grows : (x n : ℕ) → n ≤ s.last x → Rises K accounts lift given s t o x ⊎ ((t.last x ≡ s.last x) × (account o ≡ x → ⊥)) → n ≤ t.last x
        grows x n l (inl r) = omega (arith, r.0)
        grows x n l (inr r) = omega (arith, r.0)

        step : (x n : ℕ) → Taken given (s.last x) (fund_to K x) n → Rises K accounts lift given s t o x ⊎ ((t.last x ≡ s.last x) × (account o ≡ x → ⊥))
            → Taken given (t.last x) (fund_to K x) (fund_to K x o + n)
        step x n y (inl r) = rw r.0 (take_next given (s.last x) (fund_to K x) n o y r.1)
        step x n y (inr r) = rw (r.0, only_elsewhere (account o) x (value o) r.1) (rw zero-add y)

    -- or noted
    note : (o : Order) → Follows K accounts lift given s h → Noted K accounts lift given s t o → Follows K accounts lift given t h
    note o f v = record {
      turns = turns_same s t (votes h) (debits h) f.turns v.turns;
      money = λ x k. omega (arith, v.balances x k, f.money x k);
      in_use = λ x k. v.marks x k ∙ f.in_use x k;
      taken = λ x k. step x (sum_of (fund_to K x) (fundings h)) (f.taken x k) (v.indexes x k);
      orders = λ p i. let r = f.orders p i in (r.0, grows (account p) (index p) r.1 (v.indexes (account p) r.0));
    }
      where
        step : (x n : ℕ) → Taken given (s.last x) (fund_to K x) n → (Rises K accounts lift given s t o x × (account o ≡ x → ⊥)) ⊎ (t.last x ≡ s.last x)
            → Taken given (t.last x) (fund_to K x) n
        step x n y (inl r) =
            let z : fund_to K x o + n ≡ n = omega (arith, only_elsewhere (account o) x (value o) r.1) in
            rw r.0.0 (rw z at (take_next given (s.last x) (fund_to K x) n o y r.0.1))
        step x n y (inr r) = rw r y

        grows : (x n : ℕ) → n ≤ s.last x → (Rises K accounts lift given s t o x × (account o ≡ x → ⊥)) ⊎ (t.last x ≡ s.last x) → n ≤ t.last x
        grows x n l (inl r) = omega (arith, r.0.0)
        grows x n l (inr r) = omega (arith, r)

  -- every effect is lawful, and the new state follows the longer history
  pub obeys : (Certain : Body → Type 0) (given : List Order) (h : List (Event Body Order)) (s t : Shown Body) (e : Effect Body Order)
      → Lawful K Certain given h → Follows K accounts lift given s h → Changed K accounts lift given s t e → Grounded K accounts lift Certain h e
      → Lawful K Certain given (events e ++ h) × Follows K accounts lift given t (events e ++ h)
  obeys Certain given h s t Effect.nothing l f v g = (l, follows_same given s t h v f)
  obeys Certain given h s t (Effect.new_vote b) l f v g = let r = vote_new_lem Certain given h s t b f v in ((inr r.0, l), r.1)
  obeys Certain given h s t (Effect.same_vote b) l f v g =
      let r = vote_again Certain given h s t b f v.0 v.1 in
      ((inl r.0, l), follows_same given s t (Event.voted b ∷ h) v.2 r.1)
  obeys Certain given h s t (Effect.settled b) l f v g = settle Certain given h s t b l f v g
  obeys Certain given h s t (Effect.debited b) l f v g = debit Certain given h s t b l f v g
  obeys Certain given h s t (Effect.delivered b) l f v g = deliver Certain given h s t b l f v g
  obeys Certain given h s t (Effect.took o) l f v g = take Certain given h s t o l f v
  obeys Certain given h s t (Effect.noted o) l f v g = (l, note Certain given h s t o f v)

  -- ---- effects on states that show the same

  turns_since : (r s t : Shown Body) → SameTurns K accounts lift r s → SameTurns K accounts lift s t → SameTurns K accounts lift r t
  turns_since r s t m v = record { pendings = λ y k. v.pendings y k ∙ m.pendings y k; nexts = λ y k. v.nexts y k ∙ m.nexts y k }

  turned_since : (r s t : Shown Body) (b : Body) → Same K accounts lift r s → Turned K accounts lift s t b → Turned K accounts lift r t b
  turned_since r s t b m v = record {
    sender_in = v.sender_in;
    turn = v.turn ∙ m.turns.nexts (sender b) v.sender_in;
    cleared = v.cleared;
    others = λ y k n. v.others y k n ∙ m.turns.pendings y k;
    nexts = λ y k. rw (← m.turns.nexts y k) (v.nexts y k);
    indexes = λ y k. v.indexes y k ∙ m.indexes y k;
  }

  same_since : (r s t : Shown Body) → Same K accounts lift r s → Same K accounts lift s t → Same K accounts lift r t
  same_since r s t m v = record {
    turns = turns_since r s t m.turns v.turns;
    balances = λ y k. v.balances y k ∙ m.balances y k;
    marks = λ y k. v.marks y k ∙ m.marks y k;
    indexes = λ y k. v.indexes y k ∙ m.indexes y k;
  }

  -- a state that shows the same as another changes as that one
  pub changed_since : (given : List Order) (r s t : Shown Body) (e : Effect Body Order) → Same K accounts lift r s → Changed K accounts lift given s t e
      → Changed K accounts lift given r t e
  changed_since given r s t Effect.nothing m v = same_since r s t m v
  changed_since given r s t (Effect.new_vote b) m v = record {
    sender_in = v.sender_in;
    free = sym (m.turns.pendings (sender b) v.sender_in) ∙ v.free;
    turn = v.turn ∙ m.turns.nexts (sender b) v.sender_in;
    enough = rw (← m.balances (sender b) v.sender_in) v.enough;
    stored = v.stored;
    others = λ y k n. v.others y k n ∙ m.turns.pendings y k;
    nexts = λ y k. v.nexts y k ∙ m.turns.nexts y k;
    balances = λ y k. v.balances y k ∙ m.balances y k;
    marks = λ y k. v.marks y k ∙ m.marks y k;
    indexes = λ y k. v.indexes y k ∙ m.indexes y k;
  }
  changed_since given r s t (Effect.same_vote b) m v =
      (v.0, sym (m.turns.pendings (sender b) v.0) ∙ v.1, same_since r s t m v.2)
  changed_since given r s t (Effect.settled b) m v = record {
    turned = turned_since r s t b m v.turned;
    balances = λ y k. rw (← m.balances y k) (v.balances y k);
    marks = λ y k. rw (← m.marks y k) (v.marks y k);
  }
  changed_since given r s t (Effect.debited b) m v = record {
    turned = turned_since r s t b m v.turned;
    balances = λ y k. rw (← m.balances y k) (v.balances y k);
    marks = λ y k. rw (← m.marks y k) (v.marks y k);
  }
  changed_since given r s t (Effect.delivered b) m v = record {
    turns = turns_since r s t m.turns v.turns;
    balances = λ y k. rw (← m.balances y k) (v.balances y k);
    marks = λ y k. rw (← m.marks y k) (v.marks y k);
    indexes = λ y k. v.indexes y k ∙ m.indexes y k;
  }
  changed_since given r s t (Effect.took o) m v = record {
    in_range = v.in_range;
    owner = rw (← m.indexes (account o) v.in_range) v.owner;
    turn = rw (← m.indexes (account o) v.in_range) v.turn;
    turns = turns_since r s t m.turns v.turns;
    balances = λ y k. rw (← m.balances y k) (v.balances y k);
    marks = λ y k. rw (← m.marks y k) (v.marks y k);
    indexes = λ y k. rw (← m.indexes y k) (v.indexes y k);
  }
  changed_since given r s t (Effect.noted o) m v = record {
    turns = turns_since r s t m.turns v.turns;
    balances = λ y k. v.balances y k ∙ m.balances y k;
    marks = λ y k. v.marks y k ∙ m.marks y k;
    indexes = λ y k. rw (← m.indexes y k) (v.indexes y k);
  }

  turned_until : (r s t : Shown Body) (b : Body) → Turned K accounts lift r s b → Same K accounts lift s t → Turned K accounts lift r t b
  turned_until r s t b v m = record {
    sender_in = v.sender_in;
    turn = v.turn;
    cleared = m.turns.pendings (sender b) v.sender_in ∙ v.cleared;
    others = λ y k n. m.turns.pendings y k ∙ v.others y k n;
    nexts = λ y k. m.turns.nexts y k ∙ v.nexts y k;
    indexes = λ y k. m.indexes y k ∙ v.indexes y k;
  }

  -- and a debit stays one where the state then shows the same
  pub debited_until : (r s t : Shown Body) (b : Body) → Debited K accounts lift r s b → Same K accounts lift s t → Debited K accounts lift r t b
  debited_until r s t b v m = record {
    turned = turned_until r s t b v.turned m;
    balances = λ y k. rw (m.balances y k) (v.balances y k);
    marks = λ y k. m.marks y k ∙ v.marks y k;
  }

  -- a state that shows nothing done follows the empty history
  pub follows_fresh : (given : List Order) (s : Shown Body)
      → ((x : ℕ) → x < accounts → (s.next_of x ≡ 0) × (s.pending x ≡ none) × (s.balance x ≡ lift) × (s.last x ≡ 0) × (s.used x ≡ 0))
      → Follows K accounts lift given s []
  follows_fresh given s z = record {
    turns = record { next_is = λ x k. (z x k).0; open_is = λ x k b e. none_some (s.pending x) b (z x k).1 e; shut_is = λ x k e c i p r. i };
    money = λ x k. omega (arith, (z x k).2);
    in_use = λ x k. (z x k).4;
    taken = λ x k. record { newer = given; older = []; placed = append-nil given; number = sym (z x k).3; sums = refl };
    orders = λ o i. absurd i;
  }

  -- more orders of the ledger do not disturb a machine
  pub follows_given : (given more all : List Order) (s : Shown Body) (h : List (Event Body Order)) → more ++ given ≡ all → Follows K accounts lift given s h
      → Follows K accounts lift all s h
  follows_given given more all s h e f = record {
    turns = f.turns;
    money = f.money;
    in_use = f.in_use;
    orders = f.orders;
    taken = λ x k. taken_later given more all (s.last x) (fund_to K x) _ e (f.taken x k);
  }
