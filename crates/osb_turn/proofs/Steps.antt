-- Each step of a seat keeps the rule.
use Rattle.std.proofs.Common.{◌≡◌, ◌≢◌, ℕ, zero, suc, ◌+◌, ◌%◌, ◌<◌, ◌≤◌, ◌^◌, eqb, Bool, true, List, [], ◌∷◌, ◌++◌, length, get_or, Option, Some, None, set, refl, sym, ap, subst, ◌∙◌, arith, eq-eqb, ne_eqb, lit<}
use Rattle.std.proofs.Math.Nat.{mod-eq_of_lt}
use Rattle.std.proofs.lemmas.List.Elements.{All-push, All-nil}
use mathlib.Core.Option.{some, none, some-injective, some-ne-none}
use mathlib.Core.Option as maybe
use mathlib.Core.Logic.{dite}
use mathlib.Core.List.{IsPrefix}
use native.Mathlib.Decide.{ℕ_discrete}
use prog.Atomic.{either}
use lib.ListN.{get_elem?}
use lib.Seq.{set-get_or}
use Rattle.atomic_table.specs.Table.{State, step, keeps, takes, gives as gives_back, opening as opened_table, stepped, put_back, Allows}
use Rattle.atomic_table.proofs.Lists.{set_again}
use Rattle.osb_tree.specs.declared.numbers.WorkerNo.{WorkerNo}
use Rattle.osb_turn.specs.declared.views.Entry.{Entry}
use Rattle.osb_turn.specs.declared.views.View.{View}
use Rattle.osb_turn.specs.declared.views.Stage.{Stage}
use Rattle.osb_turn.specs.declared.views.Stage.TheVariants.{Opening, Idle, Waiting, Holding, Spent}
use Rattle.osb_turn.specs.Histories.{own, replay, entry_of, IsHistory}
use Rattle.osb_turn.specs.Rule.{Where, absent, home, out, IsShelf, opened, Line, HasTicket, Knows, Stands, Turns, Seated, at_stage, in_turn, with_entry, began, drew, announced, passed, IsServed, looked, ticket_count}
use Rattle.osb_turn.proofs.Lists.{prefix_self, below, own_more, own_same, tickets_few}
use Rattle.osb_turn.proofs.Moves.{Goes, moves, knows_on, knows_now, stands_now}

-- the ticket n is the seat's, and the others are as before
abbrev owner_with : ℕ → ℕ → (ℕ → ℕ) → ℕ → ℕ
owner_with n id owner t = either (eqb t n) id (owner t)

owner_same : (n id : ℕ) (owner : ℕ → ℕ) → owner_with n id owner n ≡ id
owner_same n id owner = ap (λ (b : Bool). either b id (owner n)) (eq-eqb n n refl)

owner_else : (n id : ℕ) (owner : ℕ → ℕ) (t : ℕ) → t ≢ n → owner_with n id owner t ≡ owner t
owner_else n id owner t other = ap (λ (b : Bool). either b id (owner t)) (ne_eqb t n other)

module _ {A R : Type 0} where
  -- the next ticket is drawn
  abbrev drawn : Line A R → ℕ → Line A R
  drawn line id = record line { next = line.next + 1; owner = owner_with line.next id line.owner }

  goes_drawn : (line : Line A R) (id j : ℕ) → Goes line (drawn line id) j
  goes_drawn line id j = record {
    ticket = λ t h. let c = h.comes in let d = h.drawn in record { owned = owner_else line.next id line.owner t (λ e. omega arith) ∙ h.owned; comes = c; drawn = omega arith };
    waits = λ t h w. w;
    opens = λ h e a. (e, a);
    holds = λ t h e o. (e, refl, o);
  }

  -- the state is out with the seat whose ticket is served, so no other seat has that ticket
  abbrev taken : Line A R → Line A R
  taken line = record line { place = out }

  goes_taken : (line : Line A R) (id j t : ℕ) → HasTicket line id t → t ≡ line.served → j ≢ id → (line.place ≡ out → ⊥) → Goes line (taken line) j
  goes_taken line id j t mine now other inside = record {
    ticket = λ u h. record { owned = h.owned; comes = h.comes; drawn = h.drawn };
    waits = λ u h w e. absurd (other (sym h.owned ∙ (ap line.owner (e ∙ sym now) ∙ mine.owned)));
    opens = λ h e a. let c = h.comes in let m = mine.comes in let z : 0 ≡ t = omega arith in absurd (other (sym h.owned ∙ (ap line.owner z ∙ mine.owned)));
    holds = λ u h e o. absurd (inside o);
  }

  abbrev written : Line A R → Entry A R → Line A R
  written line entry = record line { history = line.history ++ entry ∷ [] }

  goes_written : (line : Line A R) (id j t : ℕ) (entry : Entry A R) → HasTicket line id t → t ≡ line.served → line.place ≡ out → j ≢ id → Goes line (written line entry) j
  goes_written line id j t entry mine now gone other = record {
    ticket = λ u h. record { owned = h.owned; comes = h.comes; drawn = h.drawn };
    waits = λ u h w. w;
    opens = λ h e a. absurd (cc);
    holds = λ u h e o. absurd (other (sym h.owned ∙ (ap line.owner (e ∙ sym now) ∙ mine.owned)));
  }

  -- the state is home, and the next ticket is served
  abbrev handed_on : Line A R → Line A R
  handed_on line = record line { served = line.served + 1; place = home }

  goes_handed_on : (line : Line A R) (id j t : ℕ) → HasTicket line id t → t ≡ line.served → line.place ≡ out → j ≢ id → Goes line (handed_on line) j
  goes_handed_on line id j t mine now gone other = let differs : (u : ℕ) → HasTicket line j u → u ≢ line.served = λ u h e. other (sym h.owned ∙ (ap line.owner (e ∙ sym now) ∙ mine.owned)) in record {
    ticket = λ u h. let c = h.comes in let d = h.drawn in let n : u ≢ line.served = differs u h in record { owned = h.owned; comes = omega arith; drawn = d };
    waits = λ u h w e. refl;
    opens = λ h e a. absurd (cc);
    holds = λ u h e o. absurd (differs u h e);
  }

module _ {S A : Type 0} (after : S → WorkerNo → A → S) where
  pub replay-append : {B : Type 0} (state : S) (xs ys : List (Entry A B)) → replay after state (xs ++ ys) ≡ replay after (replay after state xs) ys
  replay-append state [] ys = refl
  replay-append state (x ∷ xs) ys = replay-append (after state x.worker x.action) xs ys

module _ {S A R : Type 0} (gives : S → WorkerNo → A → R) (after : S → WorkerNo → A → S) where
  -- the state after the entry that was added
  pub written_state : (opening : S) (view : View S A R) (said : Option (Entry A R)) (state state' : S) (worker : WorkerNo) (action : A) → said ≡ Some (entry_of gives state worker action) → state ≡ replay after opening view.seen
      → state' ≡ after state worker action → state' ≡ replay after opening (with_entry said view).seen
  written_state opening view said state state' worker action is brought new = new ∙ (ap (λ (x : S). after x worker action) brought
      ∙ (sym (replay-append after opening view.seen (entry_of gives state worker action ∷ [])) ∙ ap (λ (z : Option (Entry A R)). replay after opening (with_entry z view).seen) (sym is)))

module _ {S A R : Type 0} (gives : S → WorkerNo → A → R) (after : S → WorkerNo → A → S) (is_ready : S → WorkerNo → A → Bool) (allows : S → WorkerNo → A → Type 0) where
  pub history_more : (state : S) (xs : List (Entry A R)) (e : Entry A R) → IsHistory gives after is_ready allows state xs → allows (replay after state xs) e.worker e.action
      → is_ready (replay after state xs) e.worker e.action ≡ true → e.reply ≡ gives (replay after state xs) e.worker e.action → IsHistory gives after is_ready allows state (xs ++ e ∷ [])
  history_more state [] e h allowed ready reply = (allowed, ready, reply, tt)
  history_more state (x ∷ xs) e h allowed ready reply = (h.0, h.1, h.2, history_more (after state x.worker x.action) xs e h.3 allowed ready reply)

module _ {S A R : Type 0} (gives : S → WorkerNo → A → R) (after : S → WorkerNo → A → S) (is_ready : S → WorkerNo → A → Bool) (allows : S → WorkerNo → A → Type 0) (valid : S → Type 0) (opening : S) where
  abbrev V : Type 0
  V = View S A R

  abbrev St : Type 0
  St = State (Option S) V

  abbrev M : Type 0
  M = Seated S A R

  abbrev Rule : St → Type 0
  Rule = Turns gives after is_ready allows valid opening

  first_stands : (j : ℕ) (v : V) → get_elem? (opened opening ∷ []) j ≡ some v
      → Stands opening (opened opening ∷ []) (record { history = []; served = 0; next = 1; owner = λ _. 0; place = absent }) j v v.stage
  first_stands zero v e = subst (λ (y : V). Stands opening (opened opening ∷ []) (record { history = []; served = 0; next = 1; owner = λ _. 0; place = absent }) 0 y y.stage) (some-injective (opened opening) v e)
      (record { opens = refl; numbered = refl; sees = prefix_self []; owns = refl; counts = λ _. refl; notes = All-nil _ }, record { owned = refl; comes = omega arith; drawn = omega arith }, refl, refl)
  first_stands (suc j) v e = absurd (some-ne-none v (sym e))

  ticket_at : ℕ → Stage → ℕ
  ticket_at d (Waiting t) = t
  ticket_at d _ = d

  waiting_same : {stage : Stage} {t u : ℕ} → stage ≡ Waiting t → stage ≡ Waiting u → t ≡ u
  unfolding ticket_at
  waiting_same {stage} {t} {u} e f = ap (ticket_at 0) (sym e ∙ f)

  served_at : (o : S) (t : ℕ) (me : M) → me.0.opening ≡ Some opening → me.0.opening ≡ Some o → {u : ℕ} → u ≡ t → (history : List (Entry A R)) → u < 2 ^ 63 → valid opening → IsHistory gives after is_ready allows opening history
      → IsPrefix me.0.seen history → me.0.mine ≡ own me.0.worker.0 history → IsServed gives after is_ready allows valid o t me (in_turn u history me.0, (0, Some (replay after opening history)) ∷ me.1)
  served_at o t me opens opens' {u} same history small sound played sees owns = let e : opening ≡ o = cc in
      subst (λ (x : S × ℕ). IsServed gives after is_ready allows valid x.0 x.1 me (in_turn u history me.0, (0, Some (replay after opening history)) ∷ me.1)) (λ i. (e i, same i))
      record { history = history; before = small; sound = sound; played = played; sees = sees; owns = owns; now = refl }

  pub starts : valid opening → Rule (opened_table (1 ∷ 0 ∷ []) (None ∷ []) (opened opening))
  starts sound = record {
    line = record { history = []; served = 0; next = 1; owner = λ _. 0; place = absent };
    words_are = refl;
    shelf = refl;
    sound = sound;
    played = tt;
    early = omega arith;
    few = omega arith;
    counted = refl;
    known = All-nil _;
    rests = λ e. absurd (omega arith);
    each_seat = first_stands;
  }

  -- a load with no change
  still : (s : St) (i id : ℕ) (me : M) → Rule s → get_elem? s.views id ≡ some me.0 → Rule (stepped s i (get_or s.words i 0) id me.1 me.0 keeps)
  still s i id me r at = subst (λ (t : List ℕ × List V). Rule record { words = t.0; homes = s.homes; views = t.1 }) (λ k. (sym (set-get_or s.words i 0) k, sym (set_again s.views id me.0 at) k)) r

  next_is : (s : St) (r : Rule s) → get_or s.words 0 0 ≡ r.line.next
  next_is s r = ap (λ (ws : List ℕ). get_or ws 0 0) r.words_are

  served_is : (s : St) (r : Rule s) → get_or s.words 1 0 ≡ r.line.served
  served_is s r = ap (λ (ws : List ℕ). get_or ws 1 0) r.words_are

  next_small : (s : St) (r : Rule s) → r.line.next ≤ 64 + 2 ^ 63
  next_small s r = let a = tickets_few s.views in let b = r.few in let c = r.counted in let d = r.early in omega arith

  pub draws : (slots id : ℕ) (me : M) → me.0.stage ≡ Idle → Allows Rule slots id me 0 (λ n. (n + 1) % 2 ^ 64) (drew (step slots 0 1 0 none) me)
  draws slots id me idle s r _ at _ = let line : Line A R = r.line in let found : ℕ = get_or s.words 0 0 in let is = next_is s r in let small = next_small s r in let w : V = at_stage (Waiting found) me.0 in
      let awake : me.0.stage ≢ Spent = λ e. absurd (cc) in let up : (found + 1) % 2 ^ 64 ≡ line.next + 1 = mod-eq_of_lt (omega arith) ∙ ap (λ (n : ℕ). n + 1) is in
      let counted = r.counted in let grown = prefix_self line.history in (
        w,
        keeps,
        tt,
        moves gives after is_ready allows valid opening s r id me.0 w (set s.words 0 ((found + 1) % 2 ^ 64)) s.homes (drawn line id) at awake grown (λ j _. refl) (λ j _. goes_drawn line id j)
            (ap (λ (ws : List ℕ). set ws 0 ((found + 1) % 2 ^ 64)) r.words_are ∙ ap (λ (n : ℕ). n ∷ line.served ∷ []) up) r.shelf r.played r.early
            (let none : ticket_count me.0.stage ≡ 0 = ap ticket_count idle in omega arith) r.known (λ e. absurd (omega arith)) (
              knows_on gives after is_ready allows valid opening s r id me.0 w (drawn line id) at awake grown (λ j _. refl) refl refl refl refl
                  (knows_now gives after is_ready allows valid opening s r id me.0 at awake).sees (knows_now gives after is_ready allows valid opening s r id me.0 at awake).owns,
              record { owned = ap (owner_with line.next id line.owner) is ∙ owner_same line.next id line.owner; comes = omega arith; drawn = omega arith },
              λ e. r.rests (sym e ∙ is),
            ),
        refl,
      )

  -- the slot of a shelf with one place is emptied and filled
  shelf_set : (x y : maybe.Option (Option S)) (homes : List (maybe.Option (Option S))) → homes ≡ x ∷ [] → set homes 0 y ≡ y ∷ []
  shelf_set x y homes e = ap (λ (l : List (maybe.Option (Option S))). set l 0 y) e

  shelf_get : (x : maybe.Option (Option S)) (homes : List (maybe.Option (Option S))) → homes ≡ x ∷ [] → get_elem? homes 0 ≡ some x
  shelf_get x homes e = ap (λ (l : List (maybe.Option (Option S))). get_elem? l 0) e

  emptied : (state : S) (homes : List (maybe.Option (Option S))) (place : Where) → IsShelf state homes place → set homes 0 none ≡ none ∷ []
  emptied state homes absent h = shelf_set (some None) none homes h
  emptied state homes home h = shelf_set (some (Some state)) none homes h
  emptied state homes out h = shelf_set none none homes h

  shelf_at : (state : S) (homes : List (maybe.Option (Option S))) (place here : Where) → place ≡ here → IsShelf state homes place → IsShelf state homes here
  shelf_at state homes place here e h = subst (IsShelf state homes) e h

  shelf_out : (state state' : S) (homes : List (maybe.Option (Option S))) (place : Where) → place ≡ out → IsShelf state homes place → IsShelf state' homes place
  shelf_out state state' homes place e h = subst (IsShelf state' homes) (sym e) (shelf_at state homes place out e h)

  same_word : (s : St) (n : ℕ) → get_or s.words 1 0 ≡ n → set s.words 1 n ≡ s.words
  same_word s n e = ap (set s.words 1) (sym e) ∙ set-get_or s.words 1 0

  module _ (s : St) (r : Rule s) (id : ℕ) (v : V) (at : get_elem? s.views id ≡ some v) where
    abbrev Knew : Type 0
    Knew = Knows opening s.views r.line id v

    -- the seat takes what is in the slot, and sees the whole history
    takes_out : (t : ℕ) (history : List (Entry A R)) → v.stage ≢ Spent → ticket_count v.stage ≡ 1 → HasTicket r.line id t → t ≡ r.line.served → t < 2 ^ 63 → (r.line.place ≢ out) → history ≡ r.line.history
        → Rule record { words = set s.words 1 (get_or s.words 1 0); homes = set s.homes 0 none; views = set s.views id (in_turn t history v) }
    takes_out t history awake one mine now small inside all = let line : Line A R = r.line in let w : V = in_turn t history v in let grown = prefix_self line.history in
        let goes = λ (j : ℕ) (other : j ≢ id). goes_taken line id j t mine now other inside in
        let knew = knows_now gives after is_ready allows valid opening s r id v at awake in
        let sees : IsPrefix history line.history = subst (λ (l : List (Entry A R)). IsPrefix l line.history) (sym all) grown in
        moves gives after is_ready allows valid opening s r id v w (set s.words 1 (get_or s.words 1 0)) (set s.homes 0 none) (taken line) at awake grown (λ j _. refl) goes
        (same_word s (get_or s.words 1 0) refl ∙ r.words_are) (emptied (replay after opening line.history) s.homes line.place r.shelf) r.played r.early (omega arith) r.known
        (λ e. let d = mine.drawn in absurd (omega arith)) (
          knows_on gives after is_ready allows valid opening s r id v w (taken line) at awake grown (λ j _. refl) refl refl refl refl sees knew.owns,
          record { owned = mine.owned; comes = mine.comes; drawn = mine.drawn },
          now,
          small,
          all,
          refl,
        )

  pub begins : (slots id : ℕ) (me : M) → me.0.stage ≡ Opening → Allows Rule slots id me 1 (λ n. n) (began (step slots 1 0 0 none) me)
  begins slots id me first s r _ at _ = let line : Line A R = r.line in let h = stands_now gives after is_ready allows valid opening s r id me.0 Opening at first in let mine = h.1 in let comes = mine.comes in
      let awake : me.0.stage ≢ Spent = λ e. absurd (cc) in (
        in_turn 0 [] me.0,
        takes 0 None,
        shelf_get (some None) s.homes (shelf_at (replay after opening line.history) s.homes line.place absent h.3 r.shelf),
        takes_out s r id me.0 at 0 [] awake (ap ticket_count first) mine (omega arith) (lit< tt) (λ e. absurd (cc)) (sym h.2),
        refl,
      )

  pub looks : (slots id ticket : ℕ) (me : M) → me.0.stage ≡ Waiting ticket → ticket < 2 ^ 63 → Allows Rule slots id me 1 (λ n. n) (looked gives after is_ready allows valid (step slots 1 0 0 none) me)
  looks slots id ticket me waits small s r _ at _ = let line : Line A R = r.line in let h = stands_now gives after is_ready allows valid opening s r id me.0 (Waiting ticket) at waits in let knew = h.0 in let mine = h.1 in
      let awake : me.0.stage ≢ Spent = λ e. absurd (cc) in let is = served_is s r in dite (ℕ_discrete (get_or s.words 1 0) ticket)
      (λ now. let here : ticket ≡ line.served = sym now ∙ is in let inside : line.place ≡ home = h.2 here in let state : S = replay after opening line.history in (
        in_turn ticket line.history me.0,
        takes 0 (Some state),
        shelf_get (some (Some state)) s.homes (shelf_at state s.homes line.place home inside r.shelf),
        takes_out s r id me.0 at ticket line.history awake (ap ticket_count waits) mine here small (λ e. absurd (cc)) refl,
        λ o t opens stage. ((λ _. served_at o t me knew.opens opens (waiting_same waits stage) line.history small r.sound r.played knew.sees (knew.owns ∙ ap (λ (n : ℕ). own n line.history) (sym knew.numbered))), λ not. absurd (not (now ∙ waiting_same waits stage))),
      ))
      (λ later. (me.0, keeps, tt, still s 1 id me r at, λ o t opens stage. ((λ found. absurd (later (found ∙ sym (waiting_same waits stage)))), λ _. refl)))

  pub announces : (slots id ticket : ℕ) (me : M) (entry : Entry A R) → me.0.stage ≡ Holding ticket → entry.worker ≡ me.0.worker → me.0.opening ≡ Some opening
      → allows (replay after opening me.0.seen) entry.worker entry.action → is_ready (replay after opening me.0.seen) entry.worker entry.action ≡ true → entry.reply ≡ gives (replay after opening me.0.seen) entry.worker entry.action
      → Allows Rule slots id me 1 (λ n. n) (announced (Some entry) (step slots 1 0 0 none) me)
  announces slots id ticket me entry holds by opens allowed ready reply s r _ at _ =
      let line : Line A R = r.line in let h = stands_now gives after is_ready allows valid opening s r id me.0 (Holding ticket) at holds in let knew = h.0 in let mine = h.1 in
      let awake : me.0.stage ≢ Spent = λ e. absurd (cc) in let w : V = with_entry (Some entry) me.0 in let all : me.0.seen ≡ line.history = h.4 in
      let number : entry.worker.0 ≡ id = ap (λ (n : WorkerNo). n.0) by ∙ knew.numbered in
      let grown : IsPrefix line.history (line.history ++ entry ∷ []) = (entry ∷ [], refl) in
      let others = λ (j : ℕ) (other : j ≢ id). own_same j line.history entry (λ e. other (sym e ∙ number)) in
      let inside : id < length s.views = below s.views id me.0 at in (
        w,
        keeps,
        tt,
        moves gives after is_ready allows valid opening s r id me.0 w (set s.words 1 (get_or s.words 1 0)) s.homes (written line entry) at awake grown others (λ j other. goes_written line id j ticket entry mine h.2 h.5 other)
            (same_word s (get_or s.words 1 0) refl ∙ r.words_are) (shelf_out (replay after opening line.history) (replay after opening (line.history ++ entry ∷ [])) s.homes line.place h.5 r.shelf)
            (history_more gives after is_ready allows opening line.history entry r.played (subst (λ (l : List (Entry A R)). allows (replay after opening l) entry.worker entry.action) all allowed)
            (subst (λ (l : List (Entry A R)). is_ready (replay after opening l) entry.worker entry.action ≡ true) all ready)
            (subst (λ (l : List (Entry A R)). entry.reply ≡ gives (replay after opening l) entry.worker entry.action) all reply))
            r.early (omega arith) (All-push (λ (e : Entry A R). e.worker.0 < length s.views) line.history entry r.known (omega arith))
            (λ e. let d = mine.drawn in let n = h.2 in absurd (omega arith))
            (subst (Stands opening (set s.views id w) (written line entry) id w) (sym holds) (
              knows_on gives after is_ready allows valid opening s r id me.0 w (written line entry) at awake grown others refl refl refl refl
                  (subst (λ (l : List (Entry A R)). IsPrefix (l ++ entry ∷ []) (line.history ++ entry ∷ [])) (sym all) (prefix_self (line.history ++ entry ∷ [])))
                  (ap (λ (l : List (Entry A R)). l ++ entry ∷ []) knew.owns ∙ sym (own_more id line.history entry number)),
              record { owned = mine.owned; comes = mine.comes; drawn = mine.drawn },
              h.2,
              h.3,
              ap (λ (l : List (Entry A R)). l ++ entry ∷ []) all,
              h.5,
            )),
        refl,
      )

  pub announces_as : (slots id ticket : ℕ) (me : M) (said : Option (Entry A R)) (state : S) (worker : WorkerNo) (action : A) → said ≡ Some (entry_of gives state worker action) → me.0.stage ≡ Holding ticket
      → worker ≡ me.0.worker → me.0.opening ≡ Some opening → state ≡ replay after opening me.0.seen → allows state worker action → is_ready state worker action ≡ true
      → Allows Rule slots id me 1 (λ n. n) (announced said (step slots 1 0 0 none) me)
  announces_as slots id ticket me said state worker action is holds by opens brought allowed ready =
      subst (λ (z : Option (Entry A R)). Allows Rule slots id me 1 (λ n. n) (announced z (step slots 1 0 0 none) me)) (sym is)
      (announces slots id ticket me (entry_of gives state worker action) holds by opens (subst (λ (x : S). allows x worker action) brought allowed) (ap (λ (x : S). is_ready x worker action) (sym brought) ∙ ready)
      (ap (λ (x : S). gives x worker action) brought))

  pub passes : (slots id ticket : ℕ) (me : M) → me.0.stage ≡ Holding ticket → me.0.opening ≡ Some opening → me.1 ≡ (0, Some (replay after opening me.0.seen)) ∷ []
      → Allows Rule slots id me 1 (λ n. (n + 1) % 2 ^ 64) (passed (step slots 1 1 0 none) me)
  passes slots id ticket me holds opens has s r _ at _ =
      let line : Line A R = r.line in let h = stands_now gives after is_ready allows valid opening s r id me.0 (Holding ticket) at holds in let knew = h.0 in let mine = h.1 in
      let awake : me.0.stage ≢ Spent = λ e. absurd (cc) in let w : V = at_stage Idle me.0 in let all : me.0.seen ≡ line.history = h.4 in let now : ticket ≡ line.served = h.2 in let small : ticket < 2 ^ 63 = h.3 in
      let found : ℕ = get_or s.words 1 0 in let is = served_is s r in let early = r.early in let up : (found + 1) % 2 ^ 64 ≡ line.served + 1 = mod-eq_of_lt (omega arith) ∙ ap (λ (n : ℕ). n + 1) is in
      let grown = prefix_self line.history in let state : S = replay after opening line.history in (
        w,
        gives_back,
        tt,
        moves gives after is_ready allows valid opening s r id me.0 w (set s.words 1 ((found + 1) % 2 ^ 64)) (put_back s.homes me.1) (handed_on line) at awake grown (λ j _. refl) (λ j other. goes_handed_on line id j ticket mine now h.5 other)
            (ap (λ (ws : List ℕ). set ws 1 ((found + 1) % 2 ^ 64)) r.words_are ∙ ap (λ (n : ℕ). line.next ∷ n ∷ []) up)
            (ap (put_back s.homes) has ∙ (shelf_set none (some (Some (replay after opening me.0.seen))) s.homes (shelf_at state s.homes line.place out h.5 r.shelf)
            ∙ ap (λ (l : List (Entry A R)). some (Some (replay after opening l)) ∷ []) all))
            r.played (omega arith) (let one : ticket_count me.0.stage ≡ 1 = ap ticket_count holds in omega arith) r.known (λ _. refl)
            (knows_on gives after is_ready allows valid opening s r id me.0 w (handed_on line) at awake grown (λ j _. refl) refl refl refl refl knew.sees knew.owns),
        refl,
      )
