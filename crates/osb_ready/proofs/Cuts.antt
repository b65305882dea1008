-- A manifest that is cut one byte past the limit is refused as the whole one is.
use Rattle.std.proofs.Common.{◌≡◌, ℕ, ◌<◌, cond, List, [], length, Some, None, Result, Ok, Err, sym, refl, ap, ◌∙◌, subst, inl, inr, lit<, arith}
use Rattle.std.proofs.lemmas.Bool.{cases_lt}
use borrow.Author.Tests.{lt-ltb}
use Rattle.osb_base.specs.Shelves.{cut}
use Rattle.osb_base.specs.Fetchers.{FetcherState}
use Rattle.osb_base.proofs.Cuts.{cut_short, cut_long}
use Rattle.osb_shape.specs.Places.{place_text}
use Rattle.osb_sources.specs.Rounds.{Gathers}
use Rattle.osb_sources.specs.declared.answers.SourceAnswer.{SourceAnswer}
use Rattle.osb_manifest.specs.Manifests.{json_of, manifest_of, value_read}
use Rattle.osb_manifest.specs.declared.manifests.Refusal.TheVariants.{TooLong}
use Rattle.osb_plan.specs.declared.builds.Build.{Build}
use Rattle.osb_words.specs.declared.requests.Settings.{Settings}
use Rattle.osb_ready.specs.Readying.{Reply, Asked, cut_reply, asked_by, asked, manifest_ready, ready_of, IsPrepared}
use Rattle.osb_ready.specs.declared.unbuilt.Unbuilt.{Unbuilt}

long_refused : (bytes : List ℕ) → 16777216 < length bytes → manifest_of bytes ≡ Err (TooLong (place_text []))
long_refused bytes h = ap (λ b. cond b (Err (TooLong (place_text []))) (value_read (json_of bytes))) (lt-ltb 16777216 (length bytes) h)

pub manifest_of-cut : (bytes : List ℕ) → manifest_of (cut bytes) ≡ manifest_of bytes
manifest_of-cut bytes = elim (cases_lt 16777216 (length bytes)) [
  | inl long ↦ long_refused (cut bytes) (cut_stays_long bytes long) ∙ sym (long_refused bytes long)
  | inr short ↦ ap manifest_of (cut_short bytes (omega arith))
]
  where
    cut_stays_long : (bytes : List ℕ) → 16777216 < length bytes → 16777216 < length (cut bytes)
    cut_stays_long bytes long = rw (cut_long bytes (omega arith)) (lit< tt)

-- the same is ready of it
ready_of-cut : (settings : Settings) (given : Reply) (gathered : Result (List (List ℕ)) SourceAnswer) → ready_of settings (cut_reply given) gathered ≡ ready_of settings given gathered
ready_of-cut settings (Ok (Some bytes)) gathered = ap (λ read. manifest_ready settings read gathered) (manifest_of-cut bytes)
ready_of-cut settings (Ok None) gathered = refl
ready_of-cut settings (Err stop) gathered = refl

-- nor does it ask for other items
asked-cut : (names : List (List ℕ)) (given : Reply) → asked names (cut_reply given) ≡ asked names given
asked-cut names (Ok (Some bytes)) = ap (asked_by names) (manifest_of-cut bytes)
asked-cut names (Ok None) = refl
asked-cut names (Err stop) = refl

pub prepared-cut : (settings : Settings) (given : Reply) (before now : List FetcherState) (ready : Result Build Unbuilt) → IsPrepared settings (cut_reply given) before now ready → IsPrepared settings given before now ready
prepared-cut settings given before now ready h = record {
  gathered = h.gathered;
  gathers = subst (λ (a : Asked). Gathers a.items a.digests before now h.gathered) (asked-cut settings.exports given) h.gathers;
  due = λ known. h.due known ∙ ready_of-cut settings given h.gathered;
  cause = h.cause;
}
