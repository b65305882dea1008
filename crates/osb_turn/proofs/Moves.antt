-- A step of one seat: what the others know stays so.
use Rattle.std.proofs.Common.{◌≡◌, ◌≢◌, ℕ, ◌+◌, ◌<◌, ◌≤◌, ◌^◌, Bool, List, [], ◌∷◌, length, length-set, All, Option, ⊎_elim, set, refl, sym, ap, subst, ◌∙◌, arith}
use Rattle.std.proofs.lemmas.List.Elements.{All-weaker}
use mathlib.Core.Option.{some, some-injective}
use mathlib.Core.Option as maybe
use mathlib.Core.Logic.{dite}
use mathlib.Core.List.{IsPrefix}
use native.Mathlib.Decide.{ℕ_discrete}
use lib.ListN.{get_elem?}
use Rattle.atomic_table.specs.Table.{State}
use Rattle.atomic_table.proofs.Lists.{at_set, set_else}
use Rattle.osb_tree.specs.declared.numbers.WorkerNo.{WorkerNo}
use Rattle.osb_turn.specs.declared.views.Entry.{Entry}
use Rattle.osb_turn.specs.declared.views.Joined.{Joined}
use Rattle.osb_turn.specs.declared.views.View.{View}
use Rattle.osb_turn.specs.declared.views.Stage.{Stage}
use Rattle.osb_turn.specs.declared.views.Stage.TheVariants.{Opening, Idle, Waiting, Holding, Spent}
use Rattle.osb_turn.specs.Histories.{own, replay, IsHistory}
use Rattle.osb_turn.specs.Rule.{absent, home, out, IsShelf, ticket_count, spent, Line, HasTicket, IsNoted, Knows, Stands, Turns}
use Rattle.osb_turn.proofs.Lists.{prefix_trans, tickets-set}

-- the other seats' tickets and what they know of them pass from a line to the next
pub record Goes {A R : Type 0} (line line' : Line A R) (j : ℕ) : Type 0 where
  pub ticket : (t : ℕ) → HasTicket line j t → HasTicket line' j t
  pub waits : (t : ℕ) → HasTicket line j t → (t ≡ line.served → line.place ≡ home) → t ≡ line'.served → line'.place ≡ home
  pub opens : HasTicket line j 0 → line.history ≡ [] → line.place ≡ absent → (line'.history ≡ []) × (line'.place ≡ absent)
  pub holds : (t : ℕ) → HasTicket line j t → t ≡ line.served → line.place ≡ out → (t ≡ line'.served) × (line'.history ≡ line.history) × (line'.place ≡ out)

module _ {S A R : Type 0} where
  -- who was taken in stays so, with the entries that it had
  abbrev pub StaySpent : List (View S A R) → List (View S A R) → List (Entry A R) → List (Entry A R) → Type 0
  StaySpent views views' history history' = (k : ℕ) → get_elem? views k ≡ some spent → (get_elem? views' k ≡ some spent) × (own k history' ≡ own k history)

  pub stay_spent : (views : List (View S A R)) (id : ℕ) (v w : View S A R) (history history' : List (Entry A R)) → get_elem? views id ≡ some v → v.stage ≢ Spent
      → ((j : ℕ) → j ≢ id → own j history' ≡ own j history) → StaySpent views (set views id w) history history'
  stay_spent views id v w history history' at awake others k gone = dite (ℕ_discrete k id)
      (λ same. absurd (awake (ap (λ (x : View S A R). x.stage) (some-injective v spent (sym at ∙ (ap (λ (i : ℕ). get_elem? views i) (sym same) ∙ gone))))))
      (λ other. (set_else views id k w other ∙ gone, others k other))

  pub stay_noted : (views views' : List (View S A R)) (history history' : List (Entry A R)) → IsPrefix history history' → StaySpent views views' history history' → (n : Joined A R) → IsNoted views history n → IsNoted views' history' n
  stay_noted views views' history history' grown kept n h = let k = kept n.worker.0 h.gone in record {
    sees = prefix_trans n.seen history history' h.sees grown;
    owns = h.owns ∙ sym k.1;
    gone = k.0;
  }

  module _ (opening : S) where
    -- what a seat knows passes to the next line
    pub stay_known : (views views' : List (View S A R)) (line line' : Line A R) (j : ℕ) (v w : View S A R) → IsPrefix line.history line'.history → StaySpent views views' line.history line'.history
        → w.opening ≡ v.opening → w.worker ≡ v.worker → w.joined ≡ v.joined → (j ≡ 0 → v.made ≡ length views → w.made ≡ length views') → IsPrefix w.seen line'.history → w.mine ≡ own j line'.history
        → Knows opening views line j v → Knows opening views' line' j w
    stay_known views views' line line' j v w grown kept opens numbered joined counts sees owns h = record {
      opens = opens ∙ h.opens;
      numbered = ap (λ (n : WorkerNo). n.0) numbered ∙ h.numbered;
      sees = sees;
      owns = owns;
      counts = λ z. counts z (h.counts z);
      notes = subst (All (IsNoted views' line'.history)) (sym joined) (All-weaker (IsNoted views line.history) (IsNoted views' line'.history) (stay_noted views views' line.history line'.history grown kept) v.joined h.notes);
    }

    pub stay_other : (views views' : List (View S A R)) (line line' : Line A R) (j : ℕ) (v : View S A R) → IsPrefix line.history line'.history → StaySpent views views' line.history line'.history → own j line'.history ≡ own j line.history
        → (j ≡ 0 → length views' ≡ length views) → Knows opening views line j v → Knows opening views' line' j v
    stay_other views views' line line' j v grown kept same long h =
        stay_known views views' line line' j v v grown kept refl refl refl (λ z e. e ∙ sym (long z)) (prefix_trans v.seen line.history line'.history h.sees grown) (h.owns ∙ sym same) h

    pub stay_standing : (views views' : List (View S A R)) (line line' : Line A R) (j : ℕ) (v : View S A R) → IsPrefix line.history line'.history → StaySpent views views' line.history line'.history → own j line'.history ≡ own j line.history
        → (j ≡ 0 → length views' ≡ length views) → Goes line line' j → (st : Stage) → Stands opening views line j v st → Stands opening views' line' j v st
    stay_standing views views' line line' j v grown kept same long goes Opening h = let o = goes.opens h.1 h.2 h.3 in
        (stay_other views views' line line' j v grown kept same long h.0, goes.ticket 0 h.1, o.0, o.1)
    stay_standing views views' line line' j v grown kept same long goes Idle h = stay_other views views' line line' j v grown kept same long h
    stay_standing views views' line line' j v grown kept same long goes (Waiting t) h = (stay_other views views' line line' j v grown kept same long h.0, goes.ticket t h.1, goes.waits t h.1 h.2)
    stay_standing views views' line line' j v grown kept same long goes (Holding t) h = let o = goes.holds t h.1 h.2 h.5 in
        (stay_other views views' line line' j v grown kept same long h.0, goes.ticket t h.1, o.0, h.3, h.4 ∙ sym o.1, o.2)
    stay_standing views views' line line' j v grown kept same long goes Spent h = tt

    pub stands_known : (views : List (View S A R)) (line : Line A R) (j : ℕ) (v : View S A R) (st : Stage) → st ≢ Spent → Stands opening views line j v st → Knows opening views line j v
    stands_known views line j v Opening n h = h.0
    stands_known views line j v Idle n h = h
    stands_known views line j v (Waiting t) n h = h.0
    stands_known views line j v (Holding t) n h = h.0
    stands_known views line j v Spent n h = absurd (n refl)

module _ {S A R : Type 0} (gives : S → WorkerNo → A → R) (after : S → WorkerNo → A → S) (is_ready : S → WorkerNo → A → Bool) (allows : S → WorkerNo → A → Type 0) (valid : S → Type 0) (opening : S) where
  abbrev pub St : Type 0
  St = State (Option S) (View S A R)

  abbrev pub Rule : St → Type 0
  Rule = Turns gives after is_ready allows valid opening

  -- a step of one seat, with the line after it
  pub moves_to : (s : St) (r : Rule s) (id : ℕ) (v w : View S A R) (words : List ℕ) (homes : List (maybe.Option (Option S))) (line' : Line A R) → get_elem? s.views id ≡ some v → v.stage ≢ Spent
      → IsPrefix r.line.history line'.history → ((j : ℕ) → j ≢ id → own j line'.history ≡ own j r.line.history) → ((j : ℕ) → j ≢ id → Goes r.line line' j)
      → words ≡ line'.next ∷ line'.served ∷ [] → IsShelf (replay after opening line'.history) homes line'.place → IsHistory gives after is_ready allows opening line'.history
      → line'.served ≤ 2 ^ 63 → line'.next + r.line.served + ticket_count v.stage ≡ r.line.next + line'.served + ticket_count w.stage → All (λ e. e.worker.0 < length s.views) line'.history
      → (line'.served ≡ line'.next → line'.place ≡ home) → Stands opening (set s.views id w) line' id w w.stage → (t : Rule record { words = words; homes = homes; views = set s.views id w }) × (t.line ≡ line')
  moves_to s r id v w words homes line' at awake grown others goes words_are shelf played early counts known rests mine = let same = length-set s.views id w in (
    record {
      line = line';
      words_are = words_are;
      shelf = shelf;
      sound = r.sound;
      played = played;
      early = early;
      few = let f = r.few in omega arith;
      counted = let t = tickets-set s.views id v w at in let c = r.counted in omega arith;
      known = subst (λ (n : ℕ). All (λ e. e.worker.0 < n) line'.history) (sym same) known;
      rests = rests;
      each_seat = λ j x e. ⊎_elim
          (λ (t : (j ≡ id) × (w ≡ x)). subst (λ (y : ℕ × View S A R). Stands opening (set s.views id w) line' y.0 y.1 y.1.stage) (λ i. (sym t.0 i, t.1 i)) mine)
          (λ (t : (j ≢ id) × (get_elem? s.views j ≡ some x)). stay_standing opening s.views (set s.views id w) r.line line' j x grown (stay_spent s.views id v w r.line.history line'.history at awake others) (others j t.0) (λ _. same) (goes j t.0) x.stage (r.each_seat j x t.1))
          (at_set s.views id j w x e);
    },
    refl,
  )

  pub moves : (s : St) (r : Rule s) (id : ℕ) (v w : View S A R) (words : List ℕ) (homes : List (maybe.Option (Option S))) (line' : Line A R) → get_elem? s.views id ≡ some v → v.stage ≢ Spent
      → IsPrefix r.line.history line'.history → ((j : ℕ) → j ≢ id → own j line'.history ≡ own j r.line.history) → ((j : ℕ) → j ≢ id → Goes r.line line' j)
      → words ≡ line'.next ∷ line'.served ∷ [] → IsShelf (replay after opening line'.history) homes line'.place → IsHistory gives after is_ready allows opening line'.history
      → line'.served ≤ 2 ^ 63 → line'.next + r.line.served + ticket_count v.stage ≡ r.line.next + line'.served + ticket_count w.stage → All (λ e. e.worker.0 < length s.views) line'.history
      → (line'.served ≡ line'.next → line'.place ≡ home) → Stands opening (set s.views id w) line' id w w.stage → Rule record { words = words; homes = homes; views = set s.views id w }
  moves s r id v w words homes line' at awake grown others goes words_are shelf played early counts known rests mine = (moves_to s r id v w words homes line' at awake grown others goes words_are shelf played early counts known rests mine).0

  -- what the stepping seat knows after it
  pub knows_on : (s : St) (r : Rule s) (id : ℕ) (v w : View S A R) (line' : Line A R) → get_elem? s.views id ≡ some v → v.stage ≢ Spent → IsPrefix r.line.history line'.history
      → ((j : ℕ) → j ≢ id → own j line'.history ≡ own j r.line.history) → w.opening ≡ v.opening → w.worker ≡ v.worker → w.joined ≡ v.joined → w.made ≡ v.made → IsPrefix w.seen line'.history
      → w.mine ≡ own id line'.history → Knows opening (set s.views id w) line' id w
  knows_on s r id v w line' at awake grown others opens numbered joined made sees owns =
      stay_known opening s.views (set s.views id w) r.line line' id v w grown (stay_spent s.views id v w r.line.history line'.history at awake others) opens numbered joined
      (λ z e. made ∙ (e ∙ sym (length-set s.views id w))) sees owns (stands_known opening s.views r.line id v v.stage awake (r.each_seat id v at))

  pub knows_now : (s : St) (r : Rule s) (id : ℕ) (v : View S A R) → get_elem? s.views id ≡ some v → v.stage ≢ Spent → Knows opening s.views r.line id v
  knows_now s r id v at awake = stands_known opening s.views r.line id v v.stage awake (r.each_seat id v at)

  pub stands_now : (s : St) (r : Rule s) (id : ℕ) (v : View S A R) (st : Stage) → get_elem? s.views id ≡ some v → v.stage ≡ st → Stands opening s.views r.line id v st
  stands_now s r id v st at is = subst (Stands opening s.views r.line id v) is (r.each_seat id v at)
