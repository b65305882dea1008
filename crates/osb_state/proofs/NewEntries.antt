-- A key without an entry gets one by a commit alone.
use Rattle.std.proofs.Common.{◌≡◌, ◌==◌, ℕ, ◌+◌, ◌-◌, false, List, [], ◌++◌, map, All, find, Option, Some, None, inl, inr, sym, ap, subst, ◌∙◌}
use Rattle.std.specs.Prelude.{option_map}
use Rattle.std.specs.Option.{option_to_list}
use Rattle.std.proofs.lemmas.Bool.{false≢true, false_from_ne_true, and_parts, cases_eq, eqb-true, ne_eqb}
use Rattle.std.proofs.lemmas.List.Elements.{All-append, All-nil, All-push}
use Rattle.std.proofs.lemmas.List.Folds.{list_any_none}
use Rattle.std.proofs.lemmas.Option.{none-some, same_Some}
use Rattle.osb_tree.specs.Trees.{Listing}
use Rattle.osb_tree.specs.declared.numbers.Key.{Key}
use Rattle.osb_tree.specs.declared.numbers.WorkerNo.{WorkerNo}
use Rattle.osb_recipe.specs.declared.plans.Plan.{Plan}
use Rattle.osb_board.proofs.Claims.{none_from_list_any}
use Rattle.osb_cache.specs.Caches.{CacheState, Line, Draft, has_key, is_committed, is_draft, touched, touch, look_reply, after_look, unpinned, counted, reserve_reply, after_reserve, line_of_draft, after_commit}
use Rattle.osb_cache.specs.Edits.{remove_first}
use Rattle.osb_cache.specs.declared.answers.Look.{Look}
use Rattle.osb_cache.specs.declared.answers.Look.TheVariants as looks
use Rattle.osb_cache.specs.declared.answers.Reserve.{Reserve}
use Rattle.osb_cache.specs.declared.answers.Reserve.TheVariants as reserves
use Rattle.osb_cache.proofs.Evicts.{All-evict}
use Rattle.osb_cache.proofs.Firsts.{found_any, any_found, found_passes}
use Rattle.osb_cache.proofs.Lists.{All-remove_first, All-update_first, All-found}
use Rattle.osb_cache.proofs.Sums.{found_or_none}
use Rattle.osb_job.specs.declared.actions.Action.{Action}
use Rattle.osb_job.specs.declared.actions.Action.TheVariants as actions
use Rattle.osb_job.specs.declared.entries.Entry.{Entry}
use Rattle.osb_job.specs.declared.entries.Event.{Event}
use Rattle.osb_job.specs.declared.entries.Event.TheVariants as events
use Rattle.osb_job.specs.Moves.{event_of, puts_of}
use Rattle.osb_state.specs.States.{State, marked_in, part, gives, after}
use Rattle.osb_state.specs.Runs.{replay}
use Rattle.osb_state.specs.KeptLogs.{entry_at, EntriesAreCommitted}
use Rattle.osb_state.proofs.ActedEntries.{Acting, replay_acted}

-- the chunks of what is found
abbrev chunks_of_line : Option (Line Listing) → Option (List Listing)
chunks_of_line found = option_map (λ line. line.chunks) found

module _ (key : ℕ) where
  abbrev Differs : Line Listing → Type 0
  Differs line = has_key key line ≡ false

  lacks : (lines : List (Line Listing)) → chunks_of_line (find (has_key key) lines) ≡ None → All Differs lines
  lacks lines none =
      none_from_list_any (has_key key) lines
      (false_from_ne_true (is_committed key lines) (λ some.
      let found = found_any (has_key key) lines some in
      none-some found.0.chunks (sym none ∙ ap (λ (o : Option (Line Listing)). chunks_of_line o) found.1)))

  none_there : (lines : List (Line Listing)) (chunks : List Listing) → All Differs lines → chunks_of_line (find (has_key key) lines) ≡ Some chunks → ⊥
  none_there lines chunks all some =
      found_or_none (find (has_key key) lines) ⊥
      (λ e. none-some chunks (ap (λ (o : Option (Line Listing)). chunks_of_line o) (sym e) ∙ some))
      (λ line e. false≢true (sym (list_any_none (has_key key) lines all) ∙ any_found (has_key key) lines line e))

  lacks_touch : (clock worker held : ℕ) (lines : List (Line Listing)) → All Differs lines → All Differs (touch clock worker held lines)
  lacks_touch clock worker held lines all =
      let rest : List (Line Listing) = remove_first (has_key held) lines in
      let left : All Differs rest = All-remove_first Differs (has_key held) lines all in
      let Q : Option (Line Listing) → Type 0 = λ o. All Differs (rest ++ map (touched clock worker) (option_to_list o)) in
      found_or_none (find (has_key held) lines) (Q (find (has_key held) lines))
      (λ e. subst Q (sym e) (All-append Differs rest [] left (All-nil Differs)))
      (λ line e. subst Q (sym e) (All-push Differs rest (touched clock worker line) left (All-found Differs (has_key held) lines line e all)))

  lacks_look : (cache : CacheState Listing) (worker : ℕ) (look : Look) → All Differs cache.lines → All Differs (after_look cache worker look).lines
  lacks_look cache worker (looks.Hit place held count) all = lacks_touch (cache.clock + 1) worker held.0 cache.lines all
  lacks_look cache worker looks.Miss all = all

  lacks_reserve : (cache : CacheState Listing) (worker held size count : ℕ) (reserve : Reserve) → All Differs cache.lines → All Differs (after_reserve cache worker held size count reserve).lines
  lacks_reserve cache worker held size count (reserves.Room evicted) all = All-evict Differs (counted cache + size - cache.limit) cache.lines all
  lacks_reserve cache worker held size count reserves.Already all = all
  lacks_reserve cache worker held size count reserves.TooLarge all = all
  lacks_reserve cache worker held size count reserves.Full all = all

  -- an entry that a commit adds is of its key
  adds_own : (cache : CacheState Listing) (worker held : ℕ) (chunks : List Listing) → All Differs cache.lines → chunks_of_line (find (has_key key) (after_commit cache worker held).lines) ≡ Some chunks → held ≡ key
  adds_own cache worker held chunks all some =
      let drafts : List (Draft Listing) = cache.drafts in
      let clock : ℕ = cache.clock + 1 in
      let now : Option (Draft Listing) → List (Line Listing) = λ o. cache.lines ++ map (line_of_draft clock) (option_to_list o) in
      let there : Option (Draft Listing) → Type 0 = λ o. chunks_of_line (find (has_key key) (now o)) ≡ Some chunks in
      found_or_none (find (is_draft worker held) drafts) (held ≡ key)
      (λ e. absurd (none_there (now None) chunks (All-append Differs cache.lines [] all (All-nil Differs)) (subst there e some)))
      (λ draft e. elim (cases_eq draft.key key) [
        | inl same ↦
            let passes = found_passes (is_draft worker held) drafts draft e in
            sym (eqb-true draft.key held (and_parts (draft.worker == worker) (draft.key == held) passes).1) ∙ same
        | inr other ↦ absurd (none_there (now (Some draft)) chunks (All-push Differs cache.lines (line_of_draft clock draft) all (ne_eqb draft.key key other)) (subst there e some))
      ])

-- the event after which a key has an entry that it had not
new_entry : (state : State) (worker : WorkerNo) (action : Action) (puts : ℕ) (event : Event) (key : Key) (chunks : List Listing) → event_of puts action (gives state worker action) ≡ Some event → All (Differs key.0) state.cache.lines → entry_at (after state worker action) key.0 ≡ Some chunks
    → event ≡ events.Commit key
new_entry state worker actions.Claim puts event key chunks is all some = absurd (none_there key.0 state.cache.lines chunks all some)
new_entry state worker (actions.Fetch dep) puts event key chunks is all some = absurd (none_there key.0 state.cache.lines chunks all some)
new_entry state worker (actions.Look task) puts event key chunks is all some =
    let look : Look = look_reply state.cache (marked_in state task) in
    absurd (none_there key.0 (after_look state.cache worker.0 look).lines chunks (lacks_look key.0 state.cache worker.0 look all) some)
new_entry state worker (actions.Read held place) puts event key chunks is all some = absurd (none_there key.0 state.cache.lines chunks all some)
new_entry state worker (actions.Unpin held) puts event key chunks is all some =
    absurd (none_there key.0 _ chunks (All-update_first (Differs key.0) (has_key held.0) (unpinned worker.0) (λ line differs. differs) state.cache.lines all) some)
new_entry state worker (actions.Reserve held size count) puts event key chunks is all some =
    let reserve : Reserve = reserve_reply state.cache held.0 size in
    absurd (none_there key.0 (after_reserve state.cache worker.0 held.0 size count reserve).lines chunks (lacks_reserve key.0 state.cache worker.0 held.0 size count reserve all) some)
new_entry state worker (actions.Put held chunk) puts event key chunks is all some = absurd (none_there key.0 state.cache.lines chunks all some)
new_entry state worker (actions.Commit held) puts event key chunks is all some =
    let own = adds_own key.0 state.cache worker.0 held.0 chunks all some in
    sym (same_Some (events.Commit held) event is) ∙ ap (λ (n : ℕ). events.Commit (record { 0 = n })) own
new_entry state worker (actions.Drop held) puts event key chunks is all some = absurd (none_there key.0 state.cache.lines chunks all some)
new_entry state worker (actions.Done task outcome) puts event key chunks is all some = absurd (none_there key.0 state.cache.lines chunks all some)

pub entries_are_committed : (plan : Plan) (start : State) (log : List Entry) → Acting plan start log → EntriesAreCommitted plan start log
entries_are_committed plan start log acts before rest entry key chunks is none some =
    let state : State = replay plan start before in
    let acted = acts before rest entry is in
    let now : entry_at (after state entry.worker acted.action) key.0 ≡ Some chunks = subst (λ (s : State). entry_at s key.0 ≡ Some chunks) (replay_acted plan start before entry acted) some in
    new_entry state entry.worker acted.action (puts_of (part state entry.worker)) entry.event key chunks acted.event_is (lacks key.0 state.cache.lines none) now
