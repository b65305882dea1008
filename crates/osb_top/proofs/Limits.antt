-- The limit that words ask for.
use Rattle.std.proofs.Common.{◌≡◌, ℕ, ◌≤◌, ◌^◌, Bool, true, false, cond, List, [], codes, Option, Some, None, option_map, option_and_then, IfSome, subst, arith}
use Rattle.std.specs.Str.{bytes_eq}
use Rattle.std.proofs.lemmas.Bool.Decides.{nat_tests}
use Rattle.clap.specs.Words.{Row, matches_of}
use Rattle.osb_ident.specs.declared.checkpoints.Checkpoint.{Checkpoint}
use Rattle.osb_words.specs.Commands.{build_app}
use Rattle.osb_words.specs.Requests.{named, exports_of, checkpoints_of, mirrors_of, number_of, within, most_limit, limit_of, workers_of, manifests_of, read_or, read_needed, value_of, others_of, is_flagged, settings_of, begins_build, request_of}
use Rattle.osb_words.specs.declared.requests.Settings.{Settings}

abbrev IsSmall : ℕ → Type 0
IsSmall limit = limit ≤ 2 ^ 62

-- ---- the option

within_small : (number : ℕ) → IfSome (within 0 most_limit number) IsSmall
within_small number = grind (arith, nat_tests)

limit_either : (unlimited : Bool) (number : Option ℕ) → IfSome (cond unlimited (Some most_limit) (option_and_then (within 0 most_limit) number)) IsSmall
limit_either true number = omega arith
limit_either false None = tt
limit_either false (Some number) = within_small number

limit_small : (value : Option (List ℕ)) → IfSome (read_or most_limit limit_of value) IsSmall
limit_small None = omega arith
limit_small (Some text) = limit_either (bytes_eq text (codes "unlimited")) (number_of text)

-- ---- the settings

module _ (log : Bool) where
  -- what stands where all is read
  abbrev made : Option (Option (List ℕ)) → Option (List ℕ) → Option (List (List ℕ)) → Option (List Checkpoint) → Option ℕ → Option ℕ → Option (List (List ℕ)) → Option (List (List ℕ)) → Option Settings
  made stores outputs exporteds checked limits workereds mirroreds manifesteds =
      option_and_then (λ store.
      option_and_then (λ output.
      option_and_then (λ exports.
      option_and_then (λ checkpoints.
      option_and_then (λ limit.
      option_and_then (λ workers.
      option_and_then (λ mirrors.
      option_map (λ manifests. record { store = store; output = output; limit = limit; workers = workers; exports = exports; checkpoints = checkpoints; mirrors = mirrors; log = log; manifests = manifests })
      manifesteds) mirroreds) workereds) limits) checked) exporteds) outputs) stores

  made_small : (a : Option (Option (List ℕ))) (b : Option (List ℕ)) (d : Option (List (List ℕ))) (f : Option (List Checkpoint)) (limit workers : Option ℕ) (g h : Option (List (List ℕ))) (settings : Settings) → IfSome limit IsSmall → made a b d f limit workers g h ≡ Some settings → IsSmall settings.limit
  made_small None b d f limit workers g h settings small e = absurd (cc)
  made_small (Some store) None d f limit workers g h settings small e = absurd (cc)
  made_small (Some store) (Some output) None f limit workers g h settings small e = absurd (cc)
  made_small (Some store) (Some output) (Some exports) None limit workers g h settings small e = absurd (cc)
  made_small (Some store) (Some output) (Some exports) (Some checkpoints) None workers g h settings small e = absurd (cc)
  made_small (Some store) (Some output) (Some exports) (Some checkpoints) (Some limit) None g h settings small e = absurd (cc)
  made_small (Some store) (Some output) (Some exports) (Some checkpoints) (Some limit) (Some workers) None h settings small e = absurd (cc)
  made_small (Some store) (Some output) (Some exports) (Some checkpoints) (Some limit) (Some workers) (Some mirrors) None settings small e = absurd (cc)
  made_small (Some store) (Some output) (Some exports) (Some checkpoints) (Some limit) (Some workers) (Some mirrors) (Some manifests) settings small e =
      let whole : Settings = record { store = store; output = output; limit = limit; workers = workers; exports = exports; checkpoints = checkpoints; mirrors = mirrors; log = log; manifests = manifests } in
      let same : whole ≡ settings = cc in
      subst (λ (s : Settings). IsSmall s.limit) same small

settings_small : (rows : List Row) (settings : Settings) → settings_of rows ≡ Some settings → IsSmall settings.limit
settings_small rows settings e =
    made_small (is_flagged rows)
    (read_or None (λ text. option_map Some (named text)) (value_of (codes "store") rows))
    (read_needed named (value_of (codes "output") rows))
    (read_needed exports_of (value_of (codes "export") rows))
    (read_or [] checkpoints_of (value_of (codes "checkpoint") rows))
    (read_or most_limit limit_of (value_of (codes "limit") rows))
    (read_or 1 workers_of (value_of (codes "workers") rows))
    (read_or [] mirrors_of (value_of (codes "mirror") rows))
    (manifests_of (others_of rows))
    settings (limit_small (value_of (codes "limit") rows)) e

-- ---- the words

some_begun : (begun : Bool) (asked : Option Settings) (settings : Settings) → cond begun asked None ≡ Some settings → asked ≡ Some settings
some_begun true asked settings e = e
some_begun false asked settings e = absurd (cc)

pub request_small : (words : List (List ℕ)) (settings : Settings) → request_of words ≡ Some settings → settings.limit ≤ 2 ^ 62
request_small words settings e =
    settings_small (matches_of build_app words) settings (some_begun (begins_build words) (settings_of (matches_of build_app words)) settings e)
