-- What the words of a run ask for.
use Rattle.std.specs.Prelude.{◌≡◌, ℕ, ◌^◌, ◌==◌, ◌&&◌, Bool, true, false, not, List, [], ◌∷◌, ◌++◌, length, codes, map, nat_le, Option, Some, None, option_map, option_and_then, if◌then◌else◌}
use Rattle.std.specs.List.{list_all, slice_split}
use Rattle.std.specs.Str.{bytes_eq}
use Rattle.std.specs.Str.Parse.{digits_value}
use Rattle.clap.specs.Words.{Row, first_of, all_of, one_of, matches_of, fault_of}
use Rattle.osb_ident.specs.declared.checkpoints.Checkpoint.{Checkpoint}
use Rattle.osb_ident.specs.declared.checkpoints.Checkpoint.TheVariants.{All, Word}
use Rattle.osb_manifest.specs.Needed.{is_among}
use Rattle.osb_shape.specs.Forms.{is_pipeline_name}
use Rattle.osb_words.specs.declared.requests.Settings.{Settings}
use Rattle.osb_words.specs.Commands.{build_app}

-- ---- values

abbrev pub is_given : List ℕ → Bool
is_given text = not (length text == 0)

-- a text that is not empty
abbrev pub named : List ℕ → Option (List ℕ)
named text = if is_given text then Some text else None

-- texts, with one more that is not among them yet
abbrev pub one_new : List (List ℕ) → List ℕ → List (List ℕ)
one_new names name = if is_among names name then names else names ++ name ∷ []

abbrev pub with_new : List (List ℕ) → List (List ℕ) → List (List ℕ)
with_new names [] = names
with_new names (more ∷ others) = with_new (one_new names more) others

-- the parts of a list between dividers, where none is empty: of equal ones the first stands
abbrev pub parts_of : ℕ → List ℕ → Option (List (List ℕ))
parts_of divider text = if list_all is_given (slice_split (λ b. b == divider) text) then Some (with_new [] (slice_split (λ b. b == divider) text)) else None

-- where all are names of pipelines
abbrev pub all_names : List (List ℕ) → Option (List (List ℕ))
all_names parts = if list_all is_pipeline_name parts then Some parts else None

abbrev pub exports_of : List ℕ → Option (List (List ℕ))
exports_of text = option_and_then all_names (parts_of 44 text)

-- a pipeline's name or an identifier, which has the form of a name, or `*` for all
abbrev pub is_checkpoint : List ℕ → Bool
is_checkpoint part = if bytes_eq part (codes "*") then true else is_pipeline_name part

abbrev pub checkpoint_of : List ℕ → Checkpoint
checkpoint_of part = if bytes_eq part (codes "*") then All else Word part

abbrev pub all_checkpoints : List (List ℕ) → Option (List Checkpoint)
all_checkpoints parts = if list_all is_checkpoint parts then Some (map checkpoint_of parts) else None

abbrev pub checkpoints_of : List ℕ → Option (List Checkpoint)
checkpoints_of text = option_and_then all_checkpoints (parts_of 44 text)

abbrev pub mirrors_of : List ℕ → Option (List (List ℕ))
mirrors_of text = parts_of 58 text

abbrev pub is_digit : ℕ → Bool
is_digit byte = nat_le 48 byte && nat_le byte 57

-- 1 to 19 decimal digits
abbrev pub number_of : List ℕ → Option ℕ
number_of text = if nat_le 1 (length text) && nat_le (length text) 19 && list_all is_digit text then Some (digits_value 10 text) else None

abbrev pub within : ℕ → ℕ → ℕ → Option ℕ
within least most number = if nat_le least number && nat_le number most then Some number else None

abbrev pub most_limit : ℕ
most_limit = 2 ^ 62

abbrev pub limit_of : List ℕ → Option ℕ
limit_of text = if bytes_eq text (codes "unlimited") then Some most_limit else option_and_then (within 0 most_limit) (number_of text)

abbrev pub workers_of : List ℕ → Option ℕ
workers_of text = option_and_then (within 1 64) (number_of text)

-- 1 to 256 names
abbrev pub manifests_of : List (List ℕ) → Option (List (List ℕ))
manifests_of names = if nat_le 1 (length names) && nat_le (length names) 256 && list_all is_given names then Some names else None

-- ---- the table

-- the value of an option, read, or what stands where it is absent
abbrev pub read_or : {A : Type 0} → A → (List ℕ → Option A) → Option (List ℕ) → Option A
read_or absent read None = Some absent
read_or absent read (Some text) = read text

-- of an option that has to be there
abbrev pub read_needed : {A : Type 0} → (List ℕ → Option A) → Option (List ℕ) → Option A
read_needed read None = None
read_needed read (Some text) = read text

abbrev pub value_of : List ℕ → List Row → Option (List ℕ)
value_of name rows = first_of name rows

abbrev pub others_of : List Row → List (List ℕ)
others_of rows = in_use (all_of (codes "manifests") rows)
  where
    in_use : Option (List (List ℕ)) → List (List ℕ)
    in_use None = []
    in_use (Some names) = names

abbrev pub is_flagged : List Row → Bool
is_flagged rows = is_true (one_of (codes "log") rows)
  where
    is_true : Option (List ℕ) → Bool
    is_true None = false
    is_true (Some text) = bytes_eq text (codes "true")

-- the settings, or none where a value breaks the table
abbrev pub settings_of : List Row → Option Settings
settings_of rows =
    option_and_then (λ store.
    option_and_then (λ output.
    option_and_then (λ exports.
    option_and_then (λ checkpoints.
    option_and_then (λ limit.
    option_and_then (λ workers.
    option_and_then (λ mirrors.
    option_map (λ manifests. record { store = store; output = output; limit = limit; workers = workers; exports = exports; checkpoints = checkpoints; mirrors = mirrors; log = is_flagged rows; manifests = manifests })
    (manifests_of (others_of rows)))
    (read_or [] mirrors_of (value_of (codes "mirror") rows)))
    (read_or 1 workers_of (value_of (codes "workers") rows)))
    (read_or most_limit limit_of (value_of (codes "limit") rows)))
    (read_or [] checkpoints_of (value_of (codes "checkpoint") rows)))
    (read_needed exports_of (value_of (codes "export") rows)))
    (read_needed named (value_of (codes "output") rows)))
    (read_or None (λ text. option_map Some (named text)) (value_of (codes "store") rows))

-- ---- requests

abbrev pub begins_build : List (List ℕ) → Bool
begins_build [] = false
begins_build (word ∷ words) = bytes_eq word (codes "build")

-- the settings that words ask for, where they ask for some: the first word is `build`, and the options are clap's own
-- matches of the words
abbrev pub request_of : List (List ℕ) → Option Settings
request_of words = if begins_build words then settings_of (matches_of build_app words) else None

-- clap has no fault to find
abbrev pub IsTaken : List (List ℕ) → Type 0
IsTaken words = fault_of build_app words ≡ []

-- words are refused where they do not begin with `build`, where clap finds a fault, and where a value breaks the table
pub data AreRefused (words : List (List ℕ)) : Type 0 where
  other : begins_build words ≡ false → AreRefused words
  faulty : (IsTaken words → ⊥) → AreRefused words
  broken : request_of words ≡ None → AreRefused words
