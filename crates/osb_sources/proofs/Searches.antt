-- All calls for an item, put together from the first on.
use Rattle.std.proofs.Common.{◌≡◌, ℕ, Bool, true, false, not, cond, List, [], ◌∷◌, ◌++◌, map, Option, Some, None, Result, Ok, Err, ok_or, refl, sym, ap, ◌∙◌, append_assoc, append-nil}
use Rattle.std.specs.List.{All, filter}
use Rattle.std.proofs.lemmas.Bool.{cond-false}
use Rattle.std.proofs.lemmas.List.Elements.{All-nil, All-cons}
use Rattle.osb_base.specs.Fetchers.{FetcherState}
use Rattle.osb_sources.specs.declared.answers.SourceAnswer.{SourceAnswer}
use Rattle.osb_sources.specs.declared.answers.SourceAnswer.TheVariants.{NoMemory}
use Rattle.osb_sources.specs.Verdicts.{Verdict, failed, absent, too_large, wrong, right, first_right, is_right, answer_of, lack_of}
use Rattle.osb_sources.specs.Rounds.{Try, IsTry, verdict, is_live, verdicts, stays, left}
use Rattle.osb_sources.specs.Replies.{IsSearch}
use Rattle.osb_sources.proofs.Tries.{untouched, IsTry-untouched}

-- ---- fetchers that were not called

pub before-untouched : (digest : List ℕ) (fetchers : List FetcherState) → map (λ (try : Try). try.before) (map (untouched digest) fetchers) ≡ fetchers
before-untouched digest [] = refl
before-untouched digest (fetcher ∷ fetchers) = ap (λ l. fetcher ∷ l) (before-untouched digest fetchers)

pub stays-untouched : (digest : List ℕ) (fetchers : List FetcherState) → filter stays (map (untouched digest) fetchers) ≡ map (untouched digest) fetchers
stays-untouched digest [] = refl
stays-untouched digest (fetcher ∷ fetchers) = ap (λ l. untouched digest fetcher ∷ l) (stays-untouched digest fetchers)

now-map-untouched : (digest : List ℕ) (fetchers : List FetcherState) → map (λ (try : Try). try.now) (map (untouched digest) fetchers) ≡ fetchers
now-map-untouched digest [] = refl
now-map-untouched digest (fetcher ∷ fetchers) = ap (λ l. fetcher ∷ l) (now-map-untouched digest fetchers)

pub now-untouched : (digest : List ℕ) (fetchers : List FetcherState) → map (λ (try : Try). try.now) (filter stays (map (untouched digest) fetchers)) ≡ fetchers
now-untouched digest fetchers =
    ap (λ l. map (λ (try : Try). try.now) l) (stays-untouched digest fetchers) ∙ now-map-untouched digest fetchers

pub each-untouched : (digest : List ℕ) (fetchers : List FetcherState) → All (IsTry digest) (map (untouched digest) fetchers)
each-untouched digest [] = All-nil (IsTry digest)
each-untouched digest (fetcher ∷ fetchers) =
    All-cons (IsTry digest) (untouched digest fetcher) (map (untouched digest) fetchers) (IsTry-untouched digest fetcher) (each-untouched digest fetchers)

-- ---- choices by a test

pub live_first : {A : Type 0} (gone : Bool) (x y : A) → gone ≡ false → cond (not gone) x y ≡ x
live_first true x y e = cc
live_first false x y e = refl

pub gone_first : {A : Type 0} (gone : Bool) (x y : A) → gone ≡ true → cond (not gone) x y ≡ y
gone_first true x y e = refl
gone_first false x y e = cc

-- ---- ends

-- want of memory, with no further call
pub search_stops : (digest : List ℕ) (seen : List Verdict) (fetchers : List FetcherState) → IsSearch digest seen fetchers fetchers (Err NoMemory)
search_stops digest seen fetchers = record {
  tries = map (untouched digest) fetchers;
  each = each-untouched digest fetchers;
  before_is = before-untouched digest fetchers;
  now_is = now-untouched digest fetchers;
  left_is = λ h. absurd (h refl);
  answer = λ h. absurd (h refl);
}

lack_seen : (digest : List ℕ) (seen : List Verdict) → first_right seen ≡ None → Err (lack_of digest seen) ≡ answer_of digest (seen ++ [])
lack_seen digest seen none =
    sym (ap (λ (o : Option (List ℕ)). ok_or o (lack_of digest seen)) none) ∙ sym (ap (answer_of digest) (append-nil seen))

-- no fetcher is left
pub search_ends : (digest : List ℕ) (seen : List Verdict) → first_right seen ≡ None → IsSearch digest seen [] [] (Err (lack_of digest seen))
search_ends digest seen none = record {
  tries = [];
  each = All-nil (IsTry digest);
  before_is = refl;
  now_is = refl;
  left_is = λ h. refl;
  answer = λ h. lack_seen digest seen none;
}

-- ---- the first fetcher

-- it was taken out
pub search_out : (digest : List ℕ) (seen : List Verdict) (try : Try) (rest after : List FetcherState) (result : Result (List ℕ) SourceAnswer) → IsTry digest try → try.is_out ≡ true → try.before.is_gone ≡ true → IsSearch digest seen rest after result → IsSearch digest seen (try.before ∷ rest) after result
search_out digest seen try rest after result is out gone s = record {
  tries = try ∷ s.tries;
  each = All-cons (IsTry digest) try s.tries is s.each;
  before_is = ap (λ l. try.before ∷ l) s.before_is;
  now_is = ap (λ l. map (λ (try : Try). try.now) l) (gone_first try.is_out (try ∷ filter stays s.tries) (filter stays s.tries) out) ∙ s.now_is;
  left_is = λ h. gone_first try.is_out (try ∷ filter stays s.tries) (filter stays s.tries) out ∙ s.left_is h ∙ sym (gone_first try.before.is_gone _ (left digest s.tries) gone);
  answer = λ h. s.answer h ∙ sym (ap (λ l. answer_of digest (seen ++ map (verdict digest) l)) (gone_first try.before.is_gone (try ∷ filter (λ t. is_live t.before) s.tries) (filter (λ t. is_live t.before) s.tries) gone));
}

-- it hadn't the item
pub search_on : (digest : List ℕ) (seen : List Verdict) (try : Try) (rest after : List FetcherState) (result : Result (List ℕ) SourceAnswer) → IsTry digest try → try.is_out ≡ false → try.before.is_gone ≡ false → is_right (verdict digest try) ≡ false → IsSearch digest (seen ++ verdict digest try ∷ []) rest after result → IsSearch digest seen (try.before ∷ rest) (try.now ∷ after) result
search_on digest seen try rest after result is out live unlike s = record {
  tries = try ∷ s.tries;
  each = All-cons (IsTry digest) try s.tries is s.each;
  before_is = ap (λ l. try.before ∷ l) s.before_is;
  now_is = ap (λ l. map (λ (try : Try). try.now) l) (live_first try.is_out (try ∷ filter stays s.tries) (filter stays s.tries) out) ∙ ap (λ l. try.now ∷ l) s.now_is;
  left_is = λ h.
      live_first try.is_out (try ∷ filter stays s.tries) (filter stays s.tries) out ∙ ap (λ l. try ∷ l) (s.left_is h)
      ∙ sym (live_first try.before.is_gone (try ∷ cond (is_right (verdict digest try)) s.tries (left digest s.tries)) (left digest s.tries) live
      ∙ ap (λ l. try ∷ l) (cond-false (is_right (verdict digest try)) s.tries (left digest s.tries) unlike));
  answer = λ h.
      s.answer h ∙ ap (answer_of digest) (append_assoc seen (verdict digest try ∷ []) (verdicts digest s.tries))
      ∙ sym (ap (λ l. answer_of digest (seen ++ map (verdict digest) l)) (live_first try.before.is_gone (try ∷ filter (λ t. is_live t.before) s.tries) (filter (λ t. is_live t.before) s.tries) live));
}

first_right-right : (seen verdicts : List Verdict) (bytes : List ℕ) → first_right seen ≡ None → first_right (seen ++ right bytes ∷ verdicts) ≡ Some bytes
first_right-right [] verdicts bytes h = refl
first_right-right (right other ∷ seen) verdicts bytes h = cc
first_right-right (failed ∷ seen) verdicts bytes h = first_right-right seen verdicts bytes h
first_right-right (absent ∷ seen) verdicts bytes h = first_right-right seen verdicts bytes h
first_right-right (too_large ∷ seen) verdicts bytes h = first_right-right seen verdicts bytes h
first_right-right (wrong ∷ seen) verdicts bytes h = first_right-right seen verdicts bytes h

pub answer_of-right : (digest : List ℕ) (seen verdicts : List Verdict) (bytes : List ℕ) → first_right seen ≡ None → Ok bytes ≡ answer_of digest (seen ++ right bytes ∷ verdicts)
answer_of-right digest seen verdicts bytes h =
    sym (ap (λ (o : Option (List ℕ)). ok_or o (lack_of digest (seen ++ right bytes ∷ verdicts))) (first_right-right seen verdicts bytes h))

pub first_right-more : (seen : List Verdict) (v : Verdict) → first_right seen ≡ None → is_right v ≡ false → first_right (seen ++ v ∷ []) ≡ None
first_right-more [] failed h r = refl
first_right-more [] absent h r = refl
first_right-more [] too_large h r = refl
first_right-more [] wrong h r = refl
first_right-more [] (right bytes) h r = cc
first_right-more (right other ∷ seen) v h r = cc
first_right-more (failed ∷ seen) v h r = first_right-more seen v h r
first_right-more (absent ∷ seen) v h r = first_right-more seen v h r
first_right-more (too_large ∷ seen) v h r = first_right-more seen v h r
first_right-more (wrong ∷ seen) v h r = first_right-more seen v h r

-- it had the item
pub search_found : (digest : List ℕ) (seen : List Verdict) (try : Try) (rest : List FetcherState) (bytes : List ℕ) → IsTry digest try → try.is_out ≡ false → try.before.is_gone ≡ false → verdict digest try ≡ right bytes → first_right seen ≡ None → IsSearch digest seen (try.before ∷ rest) (try.now ∷ rest) (Ok bytes)
search_found digest seen try rest bytes is out live found none =
    let others = map (untouched digest) rest in
    record {
      tries = try ∷ others;
      each = All-cons (IsTry digest) try others is (each-untouched digest rest);
      before_is = ap (λ l. try.before ∷ l) (before-untouched digest rest);
      now_is = ap (λ l. map (λ (try : Try). try.now) l) (live_first try.is_out (try ∷ filter stays others) (filter stays others) out) ∙ ap (λ l. try.now ∷ l) (now-untouched digest rest);
      left_is = λ h.
          live_first try.is_out (try ∷ filter stays others) (filter stays others) out ∙ ap (λ l. try ∷ l) (stays-untouched digest rest)
          ∙ sym (live_first try.before.is_gone (try ∷ cond (is_right (verdict digest try)) others (left digest others)) (left digest others) live
          ∙ ap (λ v. try ∷ cond (is_right v) others (left digest others)) found);
      answer = λ h.
          answer_of-right digest seen (verdicts digest others) bytes none
          ∙ sym (ap (λ l. answer_of digest (seen ++ map (verdict digest) l)) (live_first try.before.is_gone (try ∷ filter (λ t. is_live t.before) others) (filter (λ t. is_live t.before) others) live)
          ∙ ap (λ v. answer_of digest (seen ++ v ∷ verdicts digest others)) found);
    }

-- the call ended for want of memory
pub search_stopped : (digest : List ℕ) (seen : List Verdict) (try : Try) (rest : List FetcherState) → IsTry digest try → try.is_out ≡ false → IsSearch digest seen (try.before ∷ rest) (try.now ∷ rest) (Err NoMemory)
search_stopped digest seen try rest is out =
    let others = map (untouched digest) rest in
    record {
      tries = try ∷ others;
      each = All-cons (IsTry digest) try others is (each-untouched digest rest);
      before_is = ap (λ l. try.before ∷ l) (before-untouched digest rest);
      now_is = ap (λ l. map (λ (try : Try). try.now) l) (live_first try.is_out (try ∷ filter stays others) (filter stays others) out) ∙ ap (λ l. try.now ∷ l) (now-untouched digest rest);
      left_is = λ h. absurd (h refl);
      answer = λ h. absurd (h refl);
    }
