-- What `inspect` does, as it is seen from outside.
use Rattle.std.specs.Prelude.{◌≡◌, ◌==◌, ℕ, ◌⊎◌, List, [], ◌∷◌, codes, Option, Some, None, IfSome, Result, Ok, Err, if◌then◌else◌}
use Rattle.std.specs.Cmp.Lexicographic.{pointwise}
use Rattle.osb_base.specs.Shelves.{file_of}
use Rattle.osb_manifest.specs.Manifests.{manifest_of}
use Rattle.osb_manifest.specs.declared.manifests.Manifest.{Manifest}
use Rattle.osb_manifest.specs.declared.manifests.Refusal.{Refusal}
use Rattle.osb_ident.specs.Idents.{manifest_ids}
use Rattle.osb_ident.specs.Marks.{inspect_text}
use Rattle.osb_answers.specs.Exports.{HasRisen}
use Rattle.osb_answers.specs.Lines.{line_of, unbuilt_words}
use Rattle.osb_top.specs.Seen.{ShelfSeen, SinkSeen}
use Rattle.osb_top.specs.Writing.{IsWritten, Ends}
use Rattle.osb_ready.specs.declared.unbuilt.Unbuilt.{Unbuilt}
use Rattle.osb_ready.specs.declared.unbuilt.Unbuilt.TheVariants.{Absent, ReadFault, Refused}

-- two words, of which the first is `inspect`: the second is a manifest's name
abbrev pub inspected : List (List ℕ) → Option (List ℕ)
inspected [] = None
inspected (word ∷ []) = None
inspected (word ∷ name ∷ []) = if pointwise ◌==◌ word (codes "inspect") then Some name else None
inspected (word ∷ name ∷ other ∷ words) = None

abbrev pub read_due : Result Manifest Refusal → Result (List ℕ) Unbuilt
read_due (Ok manifest) = Ok (inspect_text manifest (manifest_ids manifest))
read_due (Err refusal) = Err (Refused refusal)

-- the identifiers of the manifest's stages, a line each, or why there are none, where these bytes stand under its name,
-- or where none stand there
abbrev pub inspect_due : Option (List ℕ) → Result (List ℕ) Unbuilt
inspect_due None = Err Absent
inspect_due (Some bytes) = read_due (manifest_of bytes)

-- what is written: the identifiers, or an answer line
abbrev pub inspect_out : Result (List ℕ) Unbuilt → List ℕ
inspect_out (Ok text) = text
inspect_out (Err unbuilt) = line_of 1 (unbuilt_words unbuilt)

abbrev pub inspect_status : Result (List ℕ) Unbuilt → ℕ
inspect_status (Ok text) = 0
inspect_status (Err unbuilt) = 1

-- what is due is written; or the shelf failed, and that is
abbrev pub IsInspected : ShelfSeen → SinkSeen → Result (List ℕ) Unbuilt → ℕ → Type 0
IsInspected shelf sink due status =
    Ends sink (inspect_out due) (inspect_status due) status
    ⊎ (HasRisen shelf.faults × Ends sink (inspect_out (Err ReadFault)) (inspect_status (Err ReadFault)) status)

-- a look at the manifest of a name, by what was found there
pub record Inspects (shelf : ShelfSeen) (sink : SinkSeen) (name : List ℕ) (status : ℕ) : Type 0 where
  pub found : Option (List ℕ)
  -- where the shelf tells, it was what the shelf holds there
  pub read : IfSome shelf.files (λ files. found ≡ file_of files name)
  pub output : IsInspected shelf sink (inspect_due found) status

-- words that ask for nothing are refused
abbrev pub IsInspect : Option (List ℕ) → ShelfSeen → SinkSeen → ℕ → Type 0
IsInspect None shelf sink status = IsWritten sink (codes "words refused\n") 2 status
IsInspect (Some name) shelf sink status = Inspects shelf sink name status
