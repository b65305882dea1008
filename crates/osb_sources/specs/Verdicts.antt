-- What is had of one item, by what each holder has of it: the manifest's own lists, and the fetchers.
use Rattle.std.specs.Prelude.{ℕ, ◌==◌, nat_lt, Bool, true, false, List, [], ◌∷◌, length, Option, Some, None, option_map, ok_or, Result, Ok, Err, if◌then◌else◌}
use Rattle.std.specs.List.{list_any}
use Rattle.std.specs.Cmp.Lexicographic.{pointwise}
use Rattle.std.specs.Map.{lookup}
use Rattle.sha2.specs.Sha256.{sha256}
use Rattle.base64.specs.GeneralPurpose.{decode_of}
use Rattle.base64.specs.Engines.{standard}
use Rattle.base64.specs.declared.decode.DecodeError.{DecodeError}
use Rattle.osb_sources.specs.declared.items.Items.{Items}
use Rattle.osb_sources.specs.declared.answers.SourceAnswer.{SourceAnswer}
use Rattle.osb_sources.specs.declared.answers.SourceAnswer.TheVariants.{Missing, Wrong, Fault, BadBase64, ItemTooLarge}

-- what a holder has of an item: its call failed, it has none, it has more than 16,777,216 bytes, bytes of another
-- digest, or the item's bytes
pub data Verdict : Type 0 where
  failed : Verdict
  absent : Verdict
  too_large : Verdict
  wrong : Verdict
  right : List ℕ → Verdict

abbrev pub judged : List ℕ → List ℕ → Verdict
judged digest bytes =
    if nat_lt 16777216 (length bytes) then too_large
    else if pointwise ◌==◌ (sha256 bytes) digest then right bytes
    else wrong

-- the bytes of the first holder that has the item's
abbrev pub first_right : List Verdict → Option (List ℕ)
first_right [] = None
first_right (right bytes ∷ verdicts) = Some bytes
first_right (verdict ∷ verdicts) = first_right verdicts

abbrev pub is_failed : Verdict → Bool
is_failed failed = true
is_failed verdict = false

abbrev pub is_too_large : Verdict → Bool
is_too_large too_large = true
is_too_large verdict = false

abbrev pub is_wrong : Verdict → Bool
is_wrong wrong = true
is_wrong verdict = false

abbrev pub is_right : Verdict → Bool
is_right (right bytes) = true
is_right verdict = false

-- why no holder has the item's bytes: a fault comes first, then bytes that are too many, and then wrong ones
abbrev pub lack_of : List ℕ → List Verdict → SourceAnswer
lack_of digest verdicts =
    if list_any is_failed verdicts then Fault digest
    else if list_any is_too_large verdicts then ItemTooLarge digest
    else if list_any is_wrong verdicts then Wrong digest
    else Missing digest

abbrev pub answer_of : List ℕ → List Verdict → Result (List ℕ) SourceAnswer
answer_of digest verdicts = ok_or (first_right verdicts) (lack_of digest verdicts)

-- the bytes of a base64 text
unfoldable pub decoded : List ℕ → Result (List ℕ) DecodeError
decoded text = decode_of standard text

-- what the manifest's own text of the item is read as, where it has one
abbrev pub own_bytes : Items → List ℕ → Option (Result (List ℕ) DecodeError)
own_bytes items digest = option_map decoded (lookup (pointwise ◌==◌ digest) items.inline)

-- own bytes that are too many end the search; others are the first that is looked at
abbrev pub with_verdict : List ℕ → Verdict → List Verdict → Result (List ℕ) SourceAnswer
with_verdict digest too_large verdicts = Err (ItemTooLarge digest)
with_verdict digest own verdicts = answer_of digest (own ∷ verdicts)

abbrev pub with_own : List ℕ → Option (Result (List ℕ) DecodeError) → List Verdict → Result (List ℕ) SourceAnswer
with_own digest None verdicts = answer_of digest verdicts
with_own digest (Some (Err error)) verdicts = Err (BadBase64 digest)
with_own digest (Some (Ok bytes)) verdicts = with_verdict digest (judged digest bytes) verdicts

abbrev pub is_listed : Items → List ℕ → Bool
is_listed items digest = list_any (pointwise ◌==◌ digest) items.curl

-- the bytes of an item, by what the fetchers have of it, which count only where the manifest lists it as one to be had
-- elsewhere
abbrev pub item : Items → List ℕ → List Verdict → Result (List ℕ) SourceAnswer
item items digest verdicts = with_own digest (own_bytes items digest) (if is_listed items digest then verdicts else [])

-- fetchers are asked for an item that is to be had elsewhere, unless the manifest's own text decides
abbrev pub leaves_open : List ℕ → Option (Result (List ℕ) DecodeError) → Bool
leaves_open digest None = true
leaves_open digest (Some (Err error)) = false
leaves_open digest (Some (Ok bytes)) = is_wrong (judged digest bytes)

abbrev pub is_asked : Items → List ℕ → Bool
is_asked items digest = if is_listed items digest then leaves_open digest (own_bytes items digest) else false
