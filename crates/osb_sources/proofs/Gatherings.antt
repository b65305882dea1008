-- All items, put together from the last on.
use Rattle.std.proofs.Common.{◌≡◌, ℕ, ◌+◌, ◌<◌, ◌≤◌, List, [], ◌∷◌, ◌++◌, length, drop, get_or, Result, Ok, Err, IsErrAnd, refl, sym, ap, ◌∙◌, subst, append_assoc, append-nil}
use Rattle.std.proofs.lemmas.List.{drop_more, drop_all}
use Rattle.osb_base.specs.Fetchers.{FetcherState}
use Rattle.osb_sources.specs.declared.items.Items.{Items}
use Rattle.osb_sources.specs.declared.answers.SourceAnswer.{SourceAnswer}
use Rattle.osb_sources.specs.declared.answers.SourceAnswer.TheVariants.{NoMemory}
use Rattle.osb_sources.specs.Rounds.{IsRound, Gathers, all_had, one_had, not_had, unfinished, with_first}

abbrev pub with_gathered : List (List ℕ) → Result (List (List ℕ)) SourceAnswer → Result (List (List ℕ)) SourceAnswer
with_gathered gathered (Ok others) = Ok (gathered ++ others)
with_gathered gathered (Err answer) = Err answer

-- whatever comes of the digests that are left, all of it comes of the wanted ones
pub record IsGathering (items : Items) (wanted left : List (List ℕ)) (entry now : List FetcherState) (gathered : List (List ℕ)) : Type 0 where
  pub whole : (after : List FetcherState) (result : Result (List (List ℕ)) SourceAnswer) → Gathers items left now after result → Gathers items wanted entry after (with_gathered gathered result)

with_none : (result : Result (List (List ℕ)) SourceAnswer) → with_gathered [] result ≡ result
with_none (Ok others) = refl
with_none (Err answer) = refl

pub gathering_first : (items : Items) (wanted : List (List ℕ)) (fetchers : List FetcherState) (gathered : List (List ℕ)) → gathered ≡ [] → IsGathering items wanted wanted fetchers fetchers gathered
gathering_first items wanted fetchers gathered e = record {
  whole = λ after result g. subst (λ r. Gathers items wanted fetchers after r) (sym (ap (λ l. with_gathered l result) e ∙ with_none result)) g;
}

err_is : {A : Type 0} (result : Result A SourceAnswer) (answer : SourceAnswer) → IsErrAnd result (λ e. e ≡ answer) → result ≡ Err answer
err_is (Ok value) answer h = absurd h
err_is (Err other) answer h = ap Err h

with_one : (gathered : List (List ℕ)) (bytes : List ℕ) (result : Result (List (List ℕ)) SourceAnswer) → with_gathered gathered (with_first bytes result) ≡ with_gathered (gathered ++ bytes ∷ []) result
with_one gathered bytes (Ok others) = ap Ok (sym (append_assoc gathered (bytes ∷ []) others))
with_one gathered bytes (Err answer) = refl

module _ (items : Items) (wanted : List (List ℕ)) (entry now : List FetcherState) (gathered : List (List ℕ)) where
  next_of : (left : List (List ℕ)) (digest : List ℕ) (others : List (List ℕ)) (between : List FetcherState) (bytes : List ℕ) → left ≡ digest ∷ others → IsGathering items wanted left entry now gathered → IsRound items digest now between (Ok bytes) → IsGathering items wanted others entry between (gathered ++ bytes ∷ [])
  next_of left digest others between bytes split t round = record {
    whole = λ after result g.
        subst (λ r. Gathers items wanted entry after r) (with_one gathered bytes result)
        (t.whole after (with_first bytes result) (subst (λ d. Gathers items d now after (with_first bytes result)) (sym split) (one_had digest others now between after bytes result round g)));
  }

  -- the item at a place is had
  pub gathering_next : (at : ℕ) (digest : List ℕ) (between : List FetcherState) (bytes : List ℕ) (more : List (List ℕ)) → more ≡ gathered ++ bytes ∷ [] → at < length wanted → digest ≡ get_or wanted at digest → IsGathering items wanted (drop at wanted) entry now gathered → IsRound items digest now between (Ok bytes) → IsGathering items wanted (drop (at + 1) wanted) entry between more
  gathering_next at digest between bytes more f within e t round =
      subst (λ m. IsGathering items wanted (drop (at + 1) wanted) entry between m) (sym f)
      (next_of (drop at wanted) digest (drop (at + 1) wanted) between bytes (drop_more wanted at digest within ∙ ap (λ d. d ∷ drop (at + 1) wanted) (sym e)) t round)

  -- or not
  pub gathering_ends : (at : ℕ) (digest : List ℕ) (after : List FetcherState) (answer : SourceAnswer) (result : Result (List (List ℕ)) SourceAnswer) → IsErrAnd result (λ e. e ≡ answer) → at < length wanted → digest ≡ get_or wanted at digest → IsGathering items wanted (drop at wanted) entry now gathered → IsRound items digest now after (Err answer) → Gathers items wanted entry after result
  gathering_ends at digest after answer result f within e t round =
      subst (λ r. Gathers items wanted entry after r) (sym (err_is result answer f))
      (t.whole after (Err answer)
      (subst (λ d. Gathers items d now after (Err answer)) (sym (drop_more wanted at digest within ∙ ap (λ d. d ∷ drop (at + 1) wanted) (sym e))) (not_had digest (drop (at + 1) wanted) now after answer round)))

  pub gathering_stops : (left : List (List ℕ)) (result : Result (List (List ℕ)) SourceAnswer) → IsErrAnd result (λ e. e ≡ NoMemory) → IsGathering items wanted left entry now gathered → Gathers items wanted entry now result
  gathering_stops left result f t = subst (λ r. Gathers items wanted entry now r) (sym (err_is result NoMemory f)) (t.whole now (Err NoMemory) (unfinished left now))

  -- no item is left
  pub gathering_all : (at : ℕ) (all : List (List ℕ)) → all ≡ gathered → length wanted ≤ at → IsGathering items wanted (drop at wanted) entry now gathered → Gathers items wanted entry now (Ok all)
  gathering_all at all f past t =
      let last = t.whole now (Ok []) (subst (λ d. Gathers items d now now (Ok [])) (sym (drop_all at wanted past)) (all_had now)) in
      subst (λ l. Gathers items wanted entry now (Ok l)) (append-nil gathered ∙ sym f) last
