-- What is due of one manifest before it is planned: a build that is ready, or why there is none. It is a function of what
-- the shelf gave under the manifest's name, of the settings, and of what was gathered of the items that are asked for.
use Rattle.std.specs.Prelude.{◌≡◌, ◌≢◌, ℕ, List, [], Option, Some, None, Result, Ok, Err}
use Rattle.std.specs.List.{zip}
use Rattle.osb_base.specs.declared.faults.ReadStop.{ReadStop}
use Rattle.osb_base.specs.declared.faults.ReadStop.TheVariants as stops
use Rattle.osb_base.specs.Fetchers.{FetcherState}
use Rattle.osb_base.specs.Shelves.{cut}
use Rattle.osb_sources.specs.Rounds.{Gathers, SomeRose}
use Rattle.osb_sources.specs.declared.items.Items.{Items}
use Rattle.osb_sources.specs.declared.answers.SourceAnswer.{SourceAnswer}
use Rattle.osb_sources.specs.declared.answers.SourceAnswer.TheVariants as answers
use Rattle.osb_manifest.specs.Manifests.{manifest_of}
use Rattle.osb_manifest.specs.Needed.{needed}
use Rattle.osb_manifest.specs.Wanted.{wanted}
use Rattle.osb_manifest.specs.declared.manifests.Manifest.{Manifest}
use Rattle.osb_manifest.specs.declared.manifests.Refusal.{Refusal}
use Rattle.osb_manifest.specs.declared.exports.NoSuchExport.{NoSuchExport as Lacks}
use Rattle.osb_manifest.specs.declared.exports.NoSuchExport.TheVariants as lacks
use Rattle.osb_ident.specs.Idents.{manifest_ids}
use Rattle.osb_ident.specs.Marks.{manifest_marks}
use Rattle.osb_plan.specs.declared.builds.Build.{Build}
use Rattle.osb_words.specs.declared.requests.Settings.{Settings}
use Rattle.osb_ready.specs.declared.unbuilt.Unbuilt.{Unbuilt}
use Rattle.osb_ready.specs.declared.unbuilt.Unbuilt.TheVariants.{Absent, ReadFault, Refused, NoSuchExport, Source, NoMemory}

-- what a shelf gave under a name: some bytes or none, or that it stopped
abbrev pub Reply : Type 0
Reply = Result (Option (List ℕ)) ReadStop

-- the same, of a file that is cut as a shelf cuts it
abbrev pub cut_reply : Reply → Reply
cut_reply (Ok (Some bytes)) = Ok (Some (cut bytes))
cut_reply (Ok None) = Ok None
cut_reply (Err stop) = Err stop

-- ---- what is gathered

-- some items of a manifest, by digest
pub record Asked : Type 0 where
  pub items : Items
  pub digests : List (List ℕ)

abbrev pub nothing_asked : Asked
nothing_asked = record { items = record { inline = []; curl = [] }; digests = [] }

abbrev pub asked_of : Manifest → Result (List ℕ) Lacks → Asked
asked_of manifest (Ok places) = record { items = manifest.items; digests = wanted manifest places }
asked_of manifest (Err lacks) = nothing_asked

abbrev pub asked_by : List (List ℕ) → Result Manifest Refusal → Asked
asked_by names (Ok manifest) = asked_of manifest (needed manifest names)
asked_by names (Err refusal) = nothing_asked

-- the items that the exports of these names need; nothing is asked for where there is no manifest, or one export lacks
abbrev pub asked : List (List ℕ) → Reply → Asked
asked names (Ok (Some bytes)) = asked_by names (manifest_of bytes)
asked names (Ok None) = nothing_asked
asked names (Err stop) = nothing_asked

-- ---- the build

-- the pipelines at these places, the marked stages, and the items that the pipelines use, each under its digest
abbrev pub build_of : Settings → Manifest → List ℕ → List (List ℕ) → Build
build_of settings manifest places blobs = record {
  manifest = manifest;
  needed = places;
  marks = manifest_marks manifest (manifest_ids manifest) settings.checkpoints;
  blobs = zip (wanted manifest places) blobs;
}

abbrev pub gathered_ready : Settings → Manifest → List ℕ → Result (List (List ℕ)) SourceAnswer → Result Build Unbuilt
gathered_ready settings manifest places (Ok blobs) = Ok (build_of settings manifest places blobs)
gathered_ready settings manifest places (Err answers.NoMemory) = Err NoMemory
gathered_ready settings manifest places (Err answer) = Err (Source answer)

abbrev pub needed_ready : Settings → Manifest → Result (List ℕ) Lacks → Result (List (List ℕ)) SourceAnswer → Result Build Unbuilt
needed_ready settings manifest (Ok places) gathered = gathered_ready settings manifest places gathered
needed_ready settings manifest (Err (lacks.Lacking name)) gathered = Err (NoSuchExport name)
needed_ready settings manifest (Err lacks.NoMemory) gathered = Err NoMemory

abbrev pub manifest_ready : Settings → Result Manifest Refusal → Result (List (List ℕ)) SourceAnswer → Result Build Unbuilt
manifest_ready settings (Ok manifest) gathered = needed_ready settings manifest (needed manifest settings.exports) gathered
manifest_ready settings (Err refusal) gathered = Err (Refused refusal)

-- a build that is ready, or the first of the reasons why there is none: the shelf stopped, nothing has the name, the bytes
-- are no manifest, an export lacks, an item was not had
abbrev pub ready_of : Settings → Reply → Result (List (List ℕ)) SourceAnswer → Result Build Unbuilt
ready_of settings (Ok (Some bytes)) gathered = manifest_ready settings (manifest_of bytes) gathered
ready_of settings (Ok None) gathered = Err Absent
ready_of settings (Err stops.Failed) gathered = Err ReadFault
ready_of settings (Err stops.NoMemory) gathered = Err NoMemory

-- ---- preparing

-- the fetchers before and those left, and what is due by what was gathered; want of memory may stand in its place, and a
-- source fault only where the count of a fetcher that is not gone rose
pub record IsPrepared (settings : Settings) (given : Reply) (before now : List FetcherState) (ready : Result Build Unbuilt) : Type 0 where
  pub gathered : Result (List (List ℕ)) SourceAnswer
  pub gathers : Gathers (asked settings.exports given).items (asked settings.exports given).digests before now gathered
  pub due : ready ≢ Err NoMemory → ready ≡ ready_of settings given gathered
  pub cause : (digest : List ℕ) → ready ≡ Err (Source (answers.Fault digest)) → SomeRose before now
