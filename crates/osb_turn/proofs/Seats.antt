-- Seats are made and taken in, and at the end the state is home.
use Rattle.std.proofs.Common.{◌≡◌, ◌≢◌, ℕ, ◌+◌, ◌<◌, Bool, List, [], ◌∷◌, ◌++◌, length, length-set, length-append, Option, ⊎_elim, set, refl, sym, ap, subst, ◌∙◌, arith}
use Rattle.std.proofs.lemmas.List.{set_comm}
use Rattle.std.proofs.lemmas.List.Elements.{All-weaker, All-nil, All-cons}
use mathlib.Core.Option.{some, some-injective}
use mathlib.Core.Logic.{dite}
use native.Mathlib.Decide.{ℕ_discrete}
use lib.ListN.{get_elem?}
use Rattle.atomic_table.specs.Table.{State, Splits, Joins}
use Rattle.atomic_table.proofs.Lists.{at_set, set_here, set_else, at_longer}
use Rattle.osb_tree.specs.declared.numbers.WorkerNo.{WorkerNo}
use Rattle.osb_turn.specs.declared.views.Joined.{Joined}
use Rattle.osb_turn.specs.declared.views.View.{View}
use Rattle.osb_turn.specs.declared.views.Stage.TheVariants.{Idle, Spent}
use Rattle.osb_turn.specs.Histories.{own}
use Rattle.osb_turn.specs.Rule.{home, ticket_count, tickets, spent, Line, IsNoted, Knows, Stands, Turns, noted, with_joined, with_seat_made, new_seat}
use Rattle.osb_turn.specs.Rows.{Has}
use Rattle.osb_turn.proofs.Lists.{all_at, prefix_self, below, at_end, own_none, tickets-set, tickets-append, no_tickets}
use Rattle.osb_turn.proofs.Moves.{Goes, StaySpent, stay_spent, stay_noted, stay_known, stay_standing, moves, moves_to, knows_now}

goes_same : {A R : Type 0} (line : Line A R) (j : ℕ) → Goes line line j
goes_same line j = record { ticket = λ t h. h; waits = λ t h w. w; opens = λ h e a. (e, a); holds = λ t h e o. (e, refl, o) }

module _ {S A R : Type 0} (gives : S → WorkerNo → A → R) (after : S → WorkerNo → A → S) (is_ready : S → WorkerNo → A → Bool) (allows : S → WorkerNo → A → Type 0) (valid : S → Type 0) (opening : S) where
  abbrev V : Type 0
  V = View S A R

  abbrev St : Type 0
  St = State (Option S) V

  abbrev Rule : St → Type 0
  Rule = Turns gives after is_ready allows valid opening

  pub splits : (id : ℕ) (v : V) → v.stage ≡ Idle → v.worker.0 ≡ 0 → v.made < 64 → Splits Rule id v (with_seat_made v) (new_seat v)
  splits id v idle first room s r at = let line : Line A R = r.line in let awake : v.stage ≢ Spent = λ e. absurd (cc) in let knew = knows_now gives after is_ready allows valid opening s r id v at awake in
      let left : V = with_seat_made v in let right : V = new_seat v in let vs : List V = set s.views id left in let views : List V = vs ++ right ∷ [] in
      let zeroth : id ≡ 0 = sym knew.numbered ∙ first in let made : v.made ≡ length s.views = knew.counts zeroth in
      let same : length vs ≡ length s.views = length-set s.views id left in let longer : length views ≡ length s.views + 1 = length-append vs (right ∷ []) ∙ ap (λ (n : ℕ). n + 1) same in
      let kept : StaySpent s.views views line.history line.history = λ k gone. let h = stay_spent s.views id v left line.history line.history at awake (λ j _. refl) k gone in (at_longer vs (right ∷ []) k spent h.0, h.1) in
      record {
        line = line;
        words_are = r.words_are;
        shelf = r.shelf;
        sound = r.sound;
        played = r.played;
        early = r.early;
        few = omega arith;
        counted = let t = tickets-set s.views id v left at in let u = tickets-append vs right in let c = r.counted in omega arith;
        known = All-weaker (λ e. e.worker.0 < length s.views) (λ e. e.worker.0 < length views) (λ e h. omega arith) line.history r.known;
        rests = r.rests;
        each_seat = λ j x e. ⊎_elim
            (λ (h : get_elem? vs j ≡ some x). ⊎_elim
            (λ (t : (j ≡ id) × (left ≡ x)). subst (λ (y : ℕ × V). Stands opening views line y.0 y.1 y.1.stage) (λ i. (sym t.0 i, t.1 i))
            (subst (Stands opening views line id left) (sym idle)
            (stay_known opening s.views views line line id v left (prefix_self line.history) kept refl refl refl (λ z m. let n : ℕ = v.made in omega arith) knew.sees knew.owns knew)))
            (λ (t : (j ≢ id) × (get_elem? s.views j ≡ some x)). let n = t.0 in stay_standing opening s.views views line line j x (prefix_self line.history) kept refl (λ z. absurd (n (z ∙ sym zeroth))) (goes_same line j) x.stage (r.each_seat j x t.1))
            (at_set s.views id j left x h))
            (λ (t : (j ≡ length vs) × (right ≡ x)). subst (λ (y : ℕ × V). Stands opening views line y.0 y.1 y.1.stage) (λ i. ((same ∙ sym made ∙ sym (t.0 ∙ same ∙ sym made)) i, t.1 i))
            record {
              opens = knew.opens;
              numbered = made ∙ sym same;
              sees = (line.history, refl);
              owns = sym (own_none (length vs) line.history (All-weaker (λ e. e.worker.0 < length s.views) (λ e. e.worker.0 < length vs) (λ e h. omega arith) line.history r.known));
              counts = λ z. let b = below s.views id v at in absurd (omega arith);
              notes = All-nil _;
            })
            (at_end vs right x j e);
      }

  notes_one : (s : St) (r : Rule s) (id : ℕ) (v : V) (note : Joined A R) → get_elem? s.views id ≡ some v → v.stage ≡ Idle → IsNoted s.views r.line.history note
      → Rule record { words = s.words; homes = s.homes; views = set s.views id (record v { joined = note ∷ v.joined }) }
  notes_one s r id v note at idle told = let line : Line A R = r.line in let awake : v.stage ≢ Spent = λ e. absurd (cc) in let grown = prefix_self line.history in
      let knew = knows_now gives after is_ready allows valid opening s r id v at awake in
      let both : V = record v { joined = note ∷ v.joined } in let views : List V = set s.views id both in
      let kept : StaySpent s.views views line.history line.history = stay_spent s.views id v both line.history line.history at awake (λ j _. refl) in
      let knows : Knows opening views line id both = record {
        opens = knew.opens;
        numbered = knew.numbered;
        sees = knew.sees;
        owns = knew.owns;
        counts = λ z. knew.counts z ∙ sym (length-set s.views id both);
        notes = All-cons (IsNoted views line.history) note v.joined (stay_noted s.views views line.history line.history grown kept note told)
            (All-weaker (IsNoted s.views line.history) (IsNoted views line.history) (stay_noted s.views views line.history line.history grown kept) v.joined knew.notes);
      } in
      moves gives after is_ready allows valid opening s r id v both s.words s.homes line at awake grown (λ j _. refl) (λ j _. goes_same line j) r.words_are r.shelf r.played r.early
      refl r.known r.rests (subst (Stands opening views line id both) (sym idle) knows)

  -- the other seat is spent first, and then noted
  pub joins : (id : ℕ) (v : V) (other : ℕ) (w : V) → v.stage ≡ Idle → w.stage ≡ Idle → Joins Rule id v other w (with_joined v w) spent
  joins id v other w idle idle' s r at apart there = let line : Line A R = r.line in let both : V = with_joined v w in
      let awake' : w.stage ≢ Spent = λ e. absurd (cc) in
      let was : get_elem? s.views other ≡ some w = sym (set_else s.views id other both apart) ∙ there in
      let others : List V = set s.views other spent in let grown = prefix_self line.history in
      let s' : St = record { words = s.words; homes = s.homes; views = others } in
      let m = moves_to gives after is_ready allows valid opening s r other w spent s.words s.homes line was awake' grown (λ j _. refl) (λ j _. goes_same line j) r.words_are r.shelf r.played r.early
      (let none : ticket_count w.stage ≡ 0 = ap ticket_count idle' in omega arith) r.known r.rests tt in
      let at' : get_elem? others id ≡ some v = set_else s.views other id spent (λ e. apart (sym e)) ∙ at in
      let told = knows_now gives after is_ready allows valid opening s r other w was awake' in
      let note : IsNoted others line.history (noted w) = record {
        sees = told.sees;
        owns = told.owns ∙ ap (λ (n : ℕ). own n line.history) (sym told.numbered);
        gone = ap (λ (n : ℕ). get_elem? others n) told.numbered ∙ set_here s.views other spent (below s.views other w was);
      } in
      subst (λ (l : List V). Rule record { words = s.words; homes = s.homes; views = l }) (set_comm s.views other id spent both apart)
      (notes_one s' m.0 id v (noted w) at' idle (subst (λ (l : Line A R). IsNoted others l.history (noted w)) (sym m.1) note))

  -- where all other seats were taken in, the state is home
  pub all_home : (s : St) (r : Rule s) (id : ℕ) (v : V) → get_elem? s.views id ≡ some v → v.stage ≡ Idle → v.worker.0 ≡ 0
      → ((j : ℕ) → j < v.made → 0 < j → (n : Joined A R) × Has v.joined n × (n.worker.0 ≡ j)) → r.line.place ≡ home
  all_home s r id v at idle first others = let awake : v.stage ≢ Spent = λ e. absurd (cc) in let knew = knows_now gives after is_ready allows valid opening s r id v at awake in
      let zeroth : id ≡ 0 = sym knew.numbered ∙ first in let made : v.made ≡ length s.views = knew.counts zeroth in
      let none : tickets s.views ≡ 0 = no_tickets s.views (λ j x e. dite (ℕ_discrete j id)
      (λ same. ap (λ (y : V). ticket_count y.stage) (some-injective x v (sym e ∙ (ap (λ (i : ℕ). get_elem? s.views i) same ∙ at))) ∙ ap ticket_count idle)
      (λ other. let inside = below s.views j x e in let o = others j (omega arith) (omega arith) in let note = all_at (IsNoted s.views r.line.history) v.joined o.0 o.1.0 knew.notes o.1.1 in
      ap (λ (y : V). ticket_count y.stage) (some-injective x spent (sym e ∙ (ap (λ (i : ℕ). get_elem? s.views i) (sym o.2) ∙ note.gone))))) in
      let c = r.counted in r.rests (omega arith)
