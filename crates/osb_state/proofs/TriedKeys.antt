-- What a worker has asked room for and what its look found is taken, from one of its entries to the next.
use Rattle.std.proofs.Common.{◌≡◌, ◌==◌, ◌||◌, ℕ, ◌≤◌, true, false, [], ◌∷◌, ◌++◌, Some, None, inl, inr, refl, sym, subst, ◌∙◌, arith}
use Rattle.std.proofs.lemmas.Bool.{false≢true, eqb-true, or_cases}
use Rattle.std.proofs.lemmas.List.Folds.{list_any-append}
use Rattle.std.proofs.lemmas.Option.{none-some}
use Rattle.osb_tree.specs.Trees.{Listing}
use Rattle.osb_tree.specs.declared.numbers.Key.{Key}
use Rattle.osb_tree.specs.declared.numbers.TaskNo.{TaskNo}
use Rattle.osb_recipe.specs.Plans.{has_key}
use Rattle.osb_cache.specs.Caches.{CacheState}
use Rattle.osb_job.specs.declared.entries.Event.{Event}
use Rattle.osb_job.specs.declared.entries.Event.TheVariants as events
use Rattle.osb_job.specs.Scripts.{Hand, free, reads, fills, Block, Progress, idle, busy, over, new_block, in_block, one_more, with_hand, with_one_more, with_look, with_tried, turn}
use Rattle.osb_state.proofs.AskedKeys.{OfAsked}
use Rattle.osb_state.proofs.TakenKeys.{taken_by, IsTaken}

abbrev pub TakenIn : CacheState Listing → Key → Type 0
TakenIn cache key = IsTaken key.0 cache

abbrev pub AreTaken : CacheState Listing → Progress → Type 0
AreTaken cache progress = (block : Block) → progress ≡ busy block → OfAsked block (TakenIn cache)

-- they are taken where no key has left
pub taken_later : (cache now : CacheState Listing) (progress : Progress) → ((key : ℕ) → taken_by key cache ≤ taken_by key now) → AreTaken cache progress → AreTaken now progress
taken_later cache now progress more taken block at =
    let of = taken block at in
    record {
      tried = λ key there. omega (arith, of.tried key there, more key.0);
      hit = λ key found. omega (arith, of.hit key found, more key.0);
    }

-- a key that room was asked for, or that a look found, is taken
abbrev pub IsNews : CacheState Listing → Event → Type 0
IsNews cache (events.Hit key) = IsTaken key.0 cache
IsNews cache (events.Room key evicted) = IsTaken key.0 cache
IsNews cache (events.Already key) = IsTaken key.0 cache
IsNews cache (events.TooLarge key) = IsTaken key.0 cache
IsNews cache (events.Full key) = IsTaken key.0 cache
IsNews cache event = Unit {0}

module _ (cache : CacheState Listing) where
  abbrev KeepsAsked : (Block → Block) → Type 0
  KeepsAsked change = (block : Block) → OfAsked block (TakenIn cache) → OfAsked (change block) (TakenIn cache)

  taken_in : (progress : Progress) (change : Block → Block) → KeepsAsked change → AreTaken cache progress → AreTaken cache (in_block change progress)
  taken_in idle change kept taken block at = absurd (cc)
  taken_in (busy was) change kept taken block at =
      let same : change was ≡ block = cc in
      subst (λ (b : Block). OfAsked b (TakenIn cache)) same (kept was (taken was refl))
  taken_in over change kept taken block at = absurd (cc)

  taken_hand : (hand : Hand) (progress : Progress) → AreTaken cache progress → AreTaken cache (with_hand hand progress)
  taken_hand hand progress taken = taken_in progress (λ (b : Block). record b { hand = hand }) (λ b of. record { tried = of.tried; hit = of.hit }) taken

  taken_more : (progress : Progress) → AreTaken cache progress → AreTaken cache (with_one_more progress)
  taken_more progress taken = taken_in progress (λ (b : Block). record b { hand = one_more b.hand }) (λ b of. record { tried = of.tried; hit = of.hit }) taken

  taken_found : (key : Key) (progress : Progress) → IsTaken key.0 cache → AreTaken cache progress → AreTaken cache (with_look (Some key) progress)
  taken_found key progress here taken =
      taken_in progress (λ (b : Block). record b { looked = Some (Some key) })
      (λ b of. record {
        tried = of.tried;
        hit = λ other found. (let same : key ≡ other = cc in subst (TakenIn cache) same here);
      }) taken

  taken_missed : (progress : Progress) → AreTaken cache progress → AreTaken cache (with_look None progress)
  taken_missed progress taken =
      taken_in progress (λ (b : Block). record b { looked = Some None }) (λ b of. record { tried = of.tried; hit = λ other found. absurd (cc) }) taken

  tried_one : (key : Key) (block : Block) → IsTaken key.0 cache → OfAsked block (TakenIn cache) → (other : Key) → has_key (block.tried ++ key ∷ []) other ≡ true → IsTaken other.0 cache
  tried_one key block here of other there =
      let split : (has_key block.tried other || has_key (key ∷ []) other) ≡ true = sym (list_any-append (λ (k : Key). k.0 == other.0) block.tried (key ∷ [])) ∙ there in
      elim (or_cases (has_key block.tried other) (has_key (key ∷ []) other) split) [
        | inl before ↦ of.tried other before
        | inr last ↦ elim (or_cases (key.0 == other.0) false last) [
          | inl same ↦ subst (λ (k : ℕ). IsTaken k cache) (eqb-true key.0 other.0 same) here
          | inr none ↦ absurd (false≢true none)
        ]
      ]

  taken_tried : (key : Key) (progress : Progress) → IsTaken key.0 cache → AreTaken cache progress → AreTaken cache (with_tried key progress)
  taken_tried key progress here taken =
      taken_in progress (λ (b : Block). record b { tried = b.tried ++ key ∷ [] }) (λ b of. record { tried = tried_one key b here of; hit = of.hit }) taken

  taken_new : (task : TaskNo) → AreTaken cache (busy (new_block task))
  taken_new task block at =
      let same : new_block task ≡ block = cc in
      let new : OfAsked (new_block task) (TakenIn cache) = record { tried = λ key there. absurd (false≢true there); hit = λ key found. absurd (none-some (Some key) found) } in
      subst (λ (b : Block). OfAsked b (TakenIn cache)) same new

  pub taken_turn : (progress : Progress) (event : Event) → IsNews cache event → AreTaken cache progress → AreTaken cache (turn progress event)
  taken_turn progress (events.Claim task) news taken = taken_new task
  taken_turn progress events.Over news taken = λ block at. absurd (cc)
  taken_turn progress (events.Fetch dep word) news taken = taken_in progress (λ (b : Block). record b { words = b.words ++ word ∷ [] }) (λ b of. record { tried = of.tried; hit = of.hit }) taken
  taken_turn progress (events.Hit key) news taken = taken_hand (reads key 0) (with_look (Some key) progress) (taken_found key progress news taken)
  taken_turn progress events.Miss news taken = taken_missed progress taken
  taken_turn progress (events.Read key place) news taken = taken_more progress taken
  taken_turn progress (events.Unpin key) news taken = taken_hand free progress taken
  taken_turn progress (events.Room key evicted) news taken = taken_hand (fills key 0) (with_tried key progress) (taken_tried key progress news taken)
  taken_turn progress (events.Already key) news taken = taken_tried key progress news taken
  taken_turn progress (events.TooLarge key) news taken = taken_tried key progress news taken
  taken_turn progress (events.Full key) news taken = taken_tried key progress news taken
  taken_turn progress (events.Put key place) news taken = taken_more progress taken
  taken_turn progress (events.Commit key) news taken = taken_hand free progress taken
  taken_turn progress (events.Drop key) news taken = taken_hand free progress taken
  taken_turn progress (events.Done task word) news taken = λ block at. absurd (cc)
