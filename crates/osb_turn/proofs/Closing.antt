-- What the last state of the table tells.
use Rattle.std.proofs.Common.{◌≡◌, ℕ, zero, suc, ◌<◌, Bool, List, [], ◌∷◌, length, get_or, All, Option, Some, None, refl, sym, ap, subst, ◌∙◌, arith, ◌⊎◌, inl, inr}
use Rattle.std.specs.List.{slice_get, remove}
use Rattle.std.proofs.lemmas.List.Elements.{All-nil, All-cons, All-pop}
use mathlib.Core.Option.{some, some-injective}
use mathlib.Core.List.{IsPrefix}
use lib.ListN.{get_elem?}
use Rattle.atomic_table.specs.Table.{Final, Seen}
use Rattle.atomic_table.specs.Seated.{TableId}
use Rattle.atomic_table.specs.declared.shared.Seat.{Seat}
use Rattle.osb_tree.specs.declared.numbers.WorkerNo.{WorkerNo}
use Rattle.osb_turn.specs.declared.views.Entry.{Entry}
use Rattle.osb_turn.specs.declared.views.Joined.{Joined}
use Rattle.osb_turn.specs.declared.views.View.{View}
use Rattle.osb_turn.specs.declared.views.Stage.TheVariants.{Idle}
use Rattle.osb_turn.specs.Histories.{own, replay, IsHistory}
use Rattle.osb_turn.specs.Rule.{home, IsShelf, IsNoted, Turns}
use Rattle.osb_turn.specs.Seats.{TurnstileState, SeatState, AreSeatsOf, Closes}
use Rattle.osb_turn.specs.Rows.{Has, note_of, HasTakenIn}
use Rattle.osb_turn.proofs.Lists.{all_at, none_past, last_of, whole_front}
use Rattle.osb_turn.proofs.Moves.{knows_now}
use Rattle.osb_turn.proofs.Seats.{all_home}

module _ {X : Type 0} where
  all_from : (P : X → Type 0) (xs : List X) → ((i : ℕ) (x : X) → slice_get xs i ≡ Some x → P x) → All P xs
  all_from P [] h = All-nil P
  all_from P (x ∷ xs) h = All-cons P x xs (h 0 x refl) (all_from P xs (λ i y e. h (suc i) y e))

  -- the first element was taken out
  pub row_is : (xs : List X) (x : X) (ys : List X) → 0 < length xs → x ≡ get_or xs 0 x → ys ≡ remove xs 0 → xs ≡ x ∷ ys
  row_is [] x ys some_x first others = absurd (omega arith)
  row_is (z ∷ zs) x ys some_x first others = λ i. sym first i ∷ sym others i

  get_there : (xs : List X) (i : ℕ) → i < length xs → (x : X) × (slice_get xs i ≡ Some x)
  get_there [] i h = absurd (omega arith)
  get_there (x ∷ xs) zero h = (x, refl)
  get_there (x ∷ xs) (suc i) h = get_there xs i (omega arith)

  pub nothing_taken : (taken : Option X) (x : X) → taken ≡ Some x → taken ≡ None → ⊥
  nothing_taken taken x e f = cc

  pub Some-injective : {x y : X} → Some x ≡ Some y → x ≡ y
  Some-injective {x} {y} e = cc

module _ {S A R : Type 0} (gives : S → WorkerNo → A → R) (after : S → WorkerNo → A → S) (is_ready : S → WorkerNo → A → Bool) (allows : S → WorkerNo → A → Type 0) (opening : S) where
  -- the last state, seen from the seat that took in all others
  pub record Ended (v : View S A R) (slots : List (Option S)) : Type 0 where
    pub history : List (Entry A R)
    pub played : IsHistory gives after is_ready allows opening history
    pub workers : All (λ entry. entry.worker.0 < v.made) history
    pub sees : IsPrefix v.seen history
    pub owns : v.mine ≡ own v.worker.0 history
    pub notes : (n : Joined A R) → Has v.joined n → IsPrefix n.seen history × (n.mine ≡ own n.worker.0 history)
    pub brought : get_elem? slots 0 ≡ some (Some (replay after opening history))

module _ {S A R : Type 0} (gives : S → WorkerNo → A → R) (after : S → WorkerNo → A → S) (is_ready : S → WorkerNo → A → Bool) (allows : S → WorkerNo → A → Type 0) (valid : S → Type 0) (opening : S) where
  pub ended : (id : ℕ) (v : View S A R) (words : List ℕ) (slots : List (Option S)) → Final (Seen (Turns gives after is_ready allows valid opening) id v) words slots → v.stage ≡ Idle → v.worker.0 ≡ 0
      → ((j : ℕ) → j < v.made → 0 < j → (n : Joined A R) × Has v.joined n × (n.worker.0 ≡ j)) → Ended gives after is_ready allows opening v slots
  ended id v words slots final idle first others = let s = final.0 in let r = final.1.0 in let at = final.1.1 in
      let knew = knows_now gives after is_ready allows valid opening s r id v at (λ e. absurd (cc)) in
      let back : r.line.place ≡ home = all_home gives after is_ready allows valid opening s r id v at idle first others in
      let made : v.made ≡ length s.views = knew.counts (sym knew.numbered ∙ first) in
      let shelf : IsShelf (replay after opening r.line.history) s.homes home = subst (IsShelf (replay after opening r.line.history) s.homes) back r.shelf in record {
        history = r.line.history;
        played = r.played;
        workers = subst (λ (n : ℕ). All (λ e. e.worker.0 < n) r.line.history) (sym made) r.known;
        sees = knew.sees;
        owns = knew.owns ∙ ap (λ (n : ℕ). own n r.line.history) (sym knew.numbered);
        notes = λ n h. let note = all_at (IsNoted s.views r.line.history) v.joined n h.0 knew.notes h.1 in (note.sees, note.owns);
        brought = final.4 0 (Some (replay after opening r.line.history)) (ap (λ l. get_elem? l 0) shelf);
      }

module _ {S A R : Type 0} (gives : S → WorkerNo → A → R) (after : S → WorkerNo → A → S) (is_ready : S → WorkerNo → A → Bool) (allows : S → WorkerNo → A → Type 0) where
  one_closes : (turnstile : TurnstileState S) (first : SeatState S A R) (others : List (SeatState S A R)) → AreSeatsOf gives after is_ready allows turnstile (first ∷ others) → (kept : Seat (Option S) (View S A R)) → HasTakenIn first others kept
      → (slots : List (Option S)) (e : Ended gives after is_ready allows turnstile.opening kept.me.0 slots) → (i : ℕ) (seat : SeatState S A R) → slice_get (first ∷ others) i ≡ Some seat
      → IsPrefix seat.seen e.history × (seat.mine ≡ own i e.history)
  one_closes turnstile first others all kept h slots e zero seat at = let same : first ≡ seat = cc in let fits = all.each 0 seat at in (
    subst (λ (s : SeatState S A R). IsPrefix s.seen e.history) same (subst (λ l. IsPrefix l e.history) h.seen e.sees),
    ap (λ (s : SeatState S A R). s.mine) (sym same) ∙ (sym h.mine ∙ (e.owns ∙ ap (λ (w : WorkerNo). own w.0 e.history) (h.worker ∙ ap (λ (s : SeatState S A R). s.worker) same) ∙ ap (λ (n : ℕ). own n e.history) fits.1)),
  )
  one_closes turnstile first others all kept h slots e (suc i) seat at = let fits = all.each (suc i) seat at in let note = e.notes (note_of seat) (h.notes i seat at) in
      (note.0, note.1 ∙ ap (λ (n : ℕ). own n e.history) fits.1)

  one_sees_all : (turnstile : TurnstileState S) (seats : List (SeatState S A R)) → AreSeatsOf gives after is_ready allows turnstile seats → (history : List (Entry A R)) → All (λ e. e.worker.0 < turnstile.workers) history
      → ((i : ℕ) (seat : SeatState S A R) → slice_get seats i ≡ Some seat → IsPrefix seat.seen history × (seat.mine ≡ own i history))
      → (history ≡ []) ⊎ ((i : ℕ) × (seat : SeatState S A R) × (slice_get seats i ≡ Some seat) × (seat.seen ≡ history))
  one_sees_all turnstile seats all history workers each = elim (last_of history) [
    | inl e ↦ inl e
    | inr h ↦ let count = all.count in let listed : h.1.worker.0 < turnstile.workers = (All-pop (λ e. e.worker.0 < turnstile.workers) history h.0 (Some h.1) h.2 workers).1 in
        let i : ℕ = h.1.worker.0 in let at = get_there seats i (omega arith) in let told = each i at.0 at.1 in let fits = all.each i at.0 at.1 in
        let none : own i told.0.0 ≡ [] = none_past i at.0.seen told.0.0 (ap (own i) told.0.1 ∙ (sym told.1 ∙ (fits.0.mine ∙ ap (λ (n : ℕ). own n at.0.seen) fits.1))) in
        inr (i, at.0, at.1, whole_front at.0.seen told.0.0 h.0 h.1 history told.0.1 h.2 none)
  ]

  pub closes : (turnstile : TurnstileState S) (first : SeatState S A R) (others : List (SeatState S A R)) → AreSeatsOf gives after is_ready allows turnstile (first ∷ others) → (kept : Seat (Option S) (View S A R)) → HasTakenIn first others kept
      → (slots : List (Option S)) → Ended gives after is_ready allows turnstile.opening kept.me.0 slots → (state : S) → get_elem? slots 0 ≡ some (Some state) → Closes gives after is_ready allows turnstile (first ∷ others) state
  closes turnstile first others all kept h slots e state is = let fits = all.each 0 first refl in
      let made : kept.me.0.made ≡ turnstile.workers = h.made ∙ fits.0.made fits.1 in record {
        history = e.history;
        played = e.played;
        workers = subst (λ (n : ℕ). All (λ x. x.worker.0 < n) e.history) made e.workers;
        seen = λ i seat at. (one_closes turnstile first others all kept h slots e i seat at).0;
        mine = λ i seat at. (one_closes turnstile first others all kept h slots e i seat at).1;
        longest = one_sees_all turnstile (first ∷ others) all e.history (subst (λ (n : ℕ). All (λ x. x.worker.0 < n) e.history) made e.workers) (one_closes turnstile first others all kept h slots e);
        ends = Some-injective (some-injective (Some state) (Some (replay after turnstile.opening e.history)) (sym is ∙ e.brought));
      }

  -- each other worker's seat was taken in
  pub all_taken : (turnstile : TurnstileState S) (first : SeatState S A R) (others : List (SeatState S A R)) → AreSeatsOf gives after is_ready allows turnstile (first ∷ others) → (kept : Seat (Option S) (View S A R)) → HasTakenIn first others kept
      → (j : ℕ) → j < kept.me.0.made → 0 < j → (n : Joined A R) × Has kept.me.0.joined n × (n.worker.0 ≡ j)
  all_taken turnstile first others all kept h zero inside some_j = absurd (omega arith)
  all_taken turnstile first others all kept h (suc i) inside some_j = let fits = all.each 0 first refl in let made : kept.me.0.made ≡ turnstile.workers = h.made ∙ fits.0.made fits.1 in
      let count : length (first ∷ others) ≡ turnstile.workers = all.count in let at = get_there others i (omega arith) in
      (note_of at.0, h.notes i at.0 at.1, (all.each (suc i) at.0 at.1).1)

  pub worker_is_first : (turnstile : TurnstileState S) (first : SeatState S A R) (others : List (SeatState S A R)) → AreSeatsOf gives after is_ready allows turnstile (first ∷ others) → (kept : Seat (Option S) (View S A R)) → HasTakenIn first others kept
      → kept.me.0.worker.0 ≡ 0
  worker_is_first turnstile first others all kept h = ap (λ (w : WorkerNo). w.0) h.worker ∙ (all.each 0 first refl).1

  pub first_table : (turnstile : TurnstileState S) (seats : List (SeatState S A R)) (first : SeatState S A R) (others : List (SeatState S A R)) → seats ≡ first ∷ others → AreSeatsOf gives after is_ready allows turnstile seats
      → first.table ≡ turnstile.table
  first_table turnstile seats first others row all = (all.each 0 first (ap (λ (l : List (SeatState S A R)). slice_get l 0) row)).0.table

  pub others_table : (turnstile : TurnstileState S) (first : SeatState S A R) (others : List (SeatState S A R)) (table : TableId) → table ≡ turnstile.table → AreSeatsOf gives after is_ready allows turnstile (first ∷ others)
      → All (λ seat. seat.table ≡ table) others
  others_table turnstile first others table same all = all_from (λ seat. seat.table ≡ table) others (λ i seat at. (all.each (suc i) seat at).0.table ∙ sym same)

module _ {S A R : Type 0} (gives : S → WorkerNo → A → R) (after : S → WorkerNo → A → S) (is_ready : S → WorkerNo → A → Bool) (allows : S → WorkerNo → A → Type 0) (valid : S → Type 0) where
  pub close_told : (turnstile : TurnstileState S) (seats : List (SeatState S A R)) (first : SeatState S A R) (others : List (SeatState S A R)) (opening : S) → opening ≡ turnstile.opening → seats ≡ first ∷ others
      → AreSeatsOf gives after is_ready allows turnstile seats → (kept : Seat (Option S) (View S A R)) → HasTakenIn first others kept → (words : List ℕ) (slots : List (Option S))
      → Final (Seen (Turns gives after is_ready allows valid opening) kept.id kept.me.0) words slots → (taken : Option S) → get_elem? slots 0 ≡ some taken → (state : S) × (taken ≡ Some state) × Closes gives after is_ready allows turnstile seats state
  close_told turnstile seats first others opening same row all kept h words slots final taken is =
      let all' : AreSeatsOf gives after is_ready allows turnstile (first ∷ others) = subst (AreSeatsOf gives after is_ready allows turnstile) row all in
      let e : Ended gives after is_ready allows turnstile.opening kept.me.0 slots = subst (λ (o : S). Ended gives after is_ready allows o kept.me.0 slots) same
      (ended gives after is_ready allows valid opening kept.id kept.me.0 words slots final h.idle (worker_is_first gives after is_ready allows turnstile first others all' kept h)
      (all_taken gives after is_ready allows turnstile first others all' kept h)) in
      let state : S = replay after turnstile.opening e.history in (
        state,
        some-injective taken (Some state) (sym is ∙ e.brought),
        subst (λ (l : List (SeatState S A R)). Closes gives after is_ready allows turnstile l state) (sym row) (closes gives after is_ready allows turnstile first others all' kept h slots e state e.brought),
      )
