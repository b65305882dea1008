-- Of the list of fetchers only gone ones leave.
use Rattle.std.proofs.Common.{◌≡◌, ℕ, Bool, true, false, not, cond, List, [], ◌∷◌, map, Result, refl, sym, ◌∙◌, subst₂, arith}
use Rattle.std.specs.List.{All, filter}
use Rattle.std.proofs.lemmas.List.Elements.{All-head, All-tail}
use Rattle.osb_base.specs.Fetchers.{FetcherState}
use Rattle.osb_sources.specs.declared.items.Items.{Items}
use Rattle.osb_sources.specs.declared.answers.SourceAnswer.{SourceAnswer}
use Rattle.osb_sources.specs.Rounds.{Try, IsTry, stays, IsRound, Gathers, all_had, one_had, not_had, unfinished, Stays, IsThinned, no_fetcher, one_stays, one_leaves}

pub thinned_same : (fetchers : List FetcherState) → IsThinned fetchers fetchers
thinned_same [] = no_fetcher
thinned_same (fetcher ∷ fetchers) = one_stays fetcher fetcher fetchers fetchers (record { gone_stays = refl; told_stays = refl; later = omega arith }) (thinned_same fetchers)

stays_on : (a b d : FetcherState) → Stays a b → Stays b d → Stays a d
stays_on a b d s t = record {
  gone_stays = t.gone_stays ∙ s.gone_stays;
  told_stays = t.told_stays ∙ s.told_stays;
  later = omega (arith, s.later, t.later);
}

pub thinned_on : {a b d : List FetcherState} → IsThinned a b → IsThinned b d → IsThinned a d
thinned_on no_fetcher t = t
thinned_on (one_leaves before befores nows gone s) t = one_leaves before befores _ gone (thinned_on s t)
thinned_on (one_stays before now befores nows s r) (one_stays _ last _ lasts t u) = one_stays before last befores lasts (stays_on before now last s t) (thinned_on r u)
thinned_on (one_stays before now befores nows s r) (one_leaves _ _ lasts gone u) = one_leaves before befores lasts (sym s.gone_stays ∙ gone) (thinned_on r u)

abbrev pub befores_of : List Try → List FetcherState
befores_of tries = map (λ (try : Try). try.before) tries

abbrev pub nows_of : List Try → List FetcherState
nows_of tries = map (λ (try : Try). try.now) tries

thinned_more : (digest : List ℕ) (try : Try) (tries left : List Try) (out : Bool) → IsTry digest try → (out ≡ true → try.before.is_gone ≡ true) → IsThinned (befores_of tries) (nows_of left) → IsThinned (try.before ∷ befores_of tries) (nows_of (cond (not out) (try ∷ left) left))
thinned_more digest try tries left true is gone t = one_leaves try.before (befores_of tries) (nows_of left) (gone refl) t
thinned_more digest try tries left false is gone t =
    one_stays try.before try.now (befores_of tries) (nows_of left) (record { gone_stays = is.gone_stays; told_stays = is.told_stays; later = is.later }) t

pub thinned_tries : (digest : List ℕ) (tries : List Try) → All (IsTry digest) tries → IsThinned (befores_of tries) (nows_of (filter stays tries))
thinned_tries digest [] all = no_fetcher
thinned_tries digest (try ∷ tries) all =
    let is = All-head (IsTry digest) try tries all in
    thinned_more digest try tries (filter stays tries) try.is_out is is.out (thinned_tries digest tries (All-tail (IsTry digest) try tries all))

pub thinned_round : (items : Items) (digest : List ℕ) (before now : List FetcherState) (result : Result (List ℕ) SourceAnswer) → IsRound items digest before now result → IsThinned before now
thinned_round items digest before now result round = subst₂ IsThinned round.before_is round.now_is (thinned_tries digest round.tries round.each)

pub thinned_gathers : {items : Items} {digests : List (List ℕ)} {before now : List FetcherState} {result : Result (List (List ℕ)) SourceAnswer} → Gathers items digests before now result → IsThinned before now
thinned_gathers (all_had fetchers) = thinned_same fetchers
thinned_gathers {items = items} (one_had digest digests before between now bytes others round rest) = thinned_on (thinned_round items digest before between _ round) (thinned_gathers rest)
thinned_gathers {items = items} (not_had digest digests before now answer round) = thinned_round items digest before now _ round
thinned_gathers (unfinished digests fetchers) = thinned_same fetchers
