-- Counts of fetchers that are not gone: a rise within a stretch is a rise over the whole of it.
use Rattle.std.proofs.Common.{◌≡◌, ℕ, ◌≤◌, zero, suc, List, [], ◌∷◌, slice_get, Some, inl, inr, refl, sym, ◌∙◌, subst, subst₂, arith}
use Rattle.std.specs.List.{AllZip}
use Rattle.std.proofs.lemmas.Bool.{cases_Bool}
use Rattle.osb_base.specs.Fetchers.{FetcherState}
use Rattle.osb_sources.specs.Rounds.{IsThinned, no_fetcher, one_stays, one_leaves, live, SomeRose}
use Rattle.osb_sources.proofs.Searches.{live_first, gone_first}

abbrev IsLater : FetcherState → FetcherState → Type 0
IsLater was is = was.faults ≤ is.faults

-- ---- the fetchers that are not gone keep their places

live_on : (before now : FetcherState) (befores nows : List FetcherState) → now.is_gone ≡ before.is_gone → before.faults ≤ now.faults → AllZip IsLater (live befores) (live nows) → AllZip IsLater (live (before ∷ befores)) (live (now ∷ nows))
live_on before now befores nows same later others = elim (cases_Bool before.is_gone) [
  | inl gone ↦
      subst₂ (λ a b. AllZip IsLater a b)
      (sym (gone_first before.is_gone (before ∷ live befores) (live befores) gone))
      (sym (gone_first now.is_gone (now ∷ live nows) (live nows) (same ∙ gone)))
      others
  | inr lives ↦
      subst₂ (λ a b. AllZip IsLater a b)
      (sym (live_first before.is_gone (before ∷ live befores) (live befores) lives))
      (sym (live_first now.is_gone (now ∷ live nows) (live nows) (same ∙ lives)))
      (later, others)
]

all_later : {before now : List FetcherState} → IsThinned before now → AllZip IsLater (live before) (live now)
all_later no_fetcher = tt
all_later (one_stays before now befores nows stays others) = live_on before now befores nows stays.gone_stays stays.later (all_later others)
all_later (one_leaves before befores nows gone others) =
    subst (λ a. AllZip IsLater a (live nows)) (sym (gone_first before.is_gone (before ∷ live befores) (live befores) gone)) (all_later others)

record IsOneLater (before : List FetcherState) (place : ℕ) (is : FetcherState) : Type 0 where
  was : FetcherState
  was_at : slice_get before place ≡ Some was
  later : was.faults ≤ is.faults

later_before : (before now : List FetcherState) (place : ℕ) (is : FetcherState) → AllZip IsLater before now → slice_get now place ≡ Some is → IsOneLater before place is
later_before [] [] place is all at = absurd (cc)
later_before [] (now ∷ nows) place is all at = absurd all
later_before (before ∷ befores) [] place is all at = absurd all
later_before (before ∷ befores) (now ∷ nows) zero is all at =
    let same : now ≡ is = cc in
    record { was = before; was_at = refl; later = subst (λ (f : FetcherState). before.faults ≤ f.faults) same all.0 }
later_before (before ∷ befores) (now ∷ nows) (suc place) is all at =
    let one = later_before befores nows place is all.1 at in
    record { was = one.was; was_at = one.was_at; later = one.later }

record IsOneSince (now : List FetcherState) (place : ℕ) (was : FetcherState) : Type 0 where
  is : FetcherState
  is_at : slice_get now place ≡ Some is
  later : was.faults ≤ is.faults

later_since : (before now : List FetcherState) (place : ℕ) (was : FetcherState) → AllZip IsLater before now → slice_get before place ≡ Some was → IsOneSince now place was
later_since [] [] place was all at = absurd (cc)
later_since [] (now ∷ nows) place was all at = absurd all
later_since (before ∷ befores) [] place was all at = absurd all
later_since (before ∷ befores) (now ∷ nows) zero was all at =
    let same : before ≡ was = cc in
    record { is = now; is_at = refl; later = subst (λ (f : FetcherState). f.faults ≤ now.faults) same all.0 }
later_since (before ∷ befores) (now ∷ nows) (suc place) was all at =
    let one = later_since befores nows place was all.1 at in
    record { is = one.is; is_at = one.is_at; later = one.later }

-- ---- a rise, seen from before it and from after it

rises_from : (first before now : List FetcherState) → IsThinned first before → SomeRose before now → SomeRose first now
rises_from first before now thinned rose =
    let one = later_before (live first) (live before) rose.place rose.was (all_later thinned) rose.was_at in
    record { place = rose.place; was = one.was; is = rose.is; was_at = one.was_at; is_at = rose.is_at; rose = omega (arith, one.later, rose.rose) }

rises_to : (before now last : List FetcherState) → SomeRose before now → IsThinned now last → SomeRose before last
rises_to before now last rose thinned =
    let one = later_since (live now) (live last) rose.place rose.is (all_later thinned) rose.is_at in
    record { place = rose.place; was = rose.was; is = one.is; was_at = rose.was_at; is_at = one.is_at; rose = omega (arith, one.later, rose.rose) }

pub rises_within : (first before now last : List FetcherState) → IsThinned first before → SomeRose before now → IsThinned now last → SomeRose first last
rises_within first before now last from rose to = rises_to first now last (rises_from first before now from rose) to
