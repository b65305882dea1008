-- What is ready, by what was gathered.
use Rattle.std.proofs.Common.{◌≡◌, ◌≢◌, ◌⊎◌, inl, inr, ℕ, List, [], Option, Some, None, Result, Ok, Err, refl, sym, ap, ◌∙◌, subst}
use Rattle.osb_base.specs.declared.faults.ReadStop.{ReadStop}
use Rattle.osb_base.specs.declared.faults.ReadStop.TheVariants as stops
use Rattle.osb_base.specs.Fetchers.{FetcherState}
use Rattle.osb_sources.specs.Rounds.{Gathers, all_had, unfinished, SomeRose}
use Rattle.osb_sources.specs.declared.answers.SourceAnswer.{SourceAnswer}
use Rattle.osb_sources.specs.declared.answers.SourceAnswer.TheVariants as answers
use Rattle.osb_manifest.specs.Manifests.{manifest_of}
use Rattle.osb_manifest.specs.Needed.{needed}
use Rattle.osb_manifest.specs.Wanted.{wanted}
use Rattle.osb_manifest.specs.declared.manifests.Manifest.{Manifest}
use Rattle.osb_manifest.specs.declared.manifests.Refusal.{Refusal}
use Rattle.osb_manifest.specs.declared.manifests.Refusal.TheVariants as refusals
use Rattle.osb_manifest.specs.declared.exports.NoSuchExport.{NoSuchExport as Lacks}
use Rattle.osb_manifest.specs.declared.exports.NoSuchExport.TheVariants as lacks
use Rattle.osb_plan.specs.declared.builds.Build.{Build}
use Rattle.osb_words.specs.declared.requests.Settings.{Settings}
use Rattle.osb_ready.specs.Readying.{Reply, Asked, nothing_asked, asked_of, asked_by, asked, gathered_ready, needed_ready, manifest_ready, ready_of, IsPrepared}
use Rattle.osb_ready.specs.Steps.{IsReadied}
use Rattle.osb_ready.specs.declared.unbuilt.Unbuilt.{Unbuilt}
use Rattle.osb_ready.specs.declared.unbuilt.Unbuilt.TheVariants.{Absent, Refused, Source, NoMemory}

abbrev Due : Type 0
Due = Result (List (List ℕ)) SourceAnswer → Result Build Unbuilt

abbrev source_fault : List ℕ → Result Build Unbuilt
source_fault digest = Err (Source (answers.Fault digest))

no_memory : (digest : List ℕ) → source_fault digest ≡ Err NoMemory → ⊥
no_memory digest e = cc

-- what is due and no want of memory is that fault where the answer is
due_fault : (due ready : Result Build Unbuilt) (digest : List ℕ) → (ready ≢ Err NoMemory → ready ≡ due) → ready ≡ source_fault digest → due ≡ source_fault digest
due_fault due ready digest is e = sym (is (λ n. no_memory digest (sym e ∙ n))) ∙ e

-- ---- builds by what is asked

-- where nothing is asked for
nothing_needed : (asks : Asked) (due : Due) (fetchers : List FetcherState) (ready : Result Build Unbuilt) → asks ≡ nothing_asked → (ready ≢ Err NoMemory → ready ≡ due (Ok [])) → ((digest : List ℕ) → due (Ok []) ≡ source_fault digest → ⊥) → IsReadied asks due fetchers fetchers ready
nothing_needed asks due fetchers ready e is none =
    subst (λ (a : Asked). IsReadied a due fetchers fetchers ready) (sym e)
    (record { gathered = Ok []; gathers = all_had fetchers; due = is; cause = λ digest f. absurd (none digest (due_fault (due (Ok [])) ready digest is f)) })

-- for want of memory
pub unknown : (asks : Asked) (due : Due) (fetchers : List FetcherState) → IsReadied asks due fetchers fetchers (Err NoMemory)
unknown asks due fetchers = record { gathered = Err answers.NoMemory; gathers = unfinished asks.digests fetchers; due = λ n. absurd (n refl); cause = λ digest f. absurd (no_memory digest (sym f)) }

of_places : (settings : Settings) (manifest : Manifest) (places : Result (List ℕ) Lacks) (before now : List FetcherState) (ready : Result Build Unbuilt) → places ≡ needed manifest settings.exports
    → IsReadied (asked_of manifest places) (needed_ready settings manifest places) before now ready → IsReadied (asked_of manifest (needed manifest settings.exports)) (needed_ready settings manifest (needed manifest settings.exports)) before now ready
of_places settings manifest places before now ready e h = subst (λ (p : Result (List ℕ) Lacks). IsReadied (asked_of manifest p) (needed_ready settings manifest p) before now ready) e h

prepared_of : (settings : Settings) (given : Reply) (before now : List FetcherState) (ready : Result Build Unbuilt) → IsReadied (asked settings.exports given) (ready_of settings given) before now ready → IsPrepared settings given before now ready
prepared_of settings given before now ready h = record { gathered = h.gathered; gathers = h.gathers; due = h.due; cause = h.cause }

of_manifest : (settings : Settings) (bytes : List ℕ) (read : Result Manifest Refusal) (before now : List FetcherState) (ready : Result Build Unbuilt) → read ≡ manifest_of bytes
    → IsReadied (asked_by settings.exports read) (manifest_ready settings read) before now ready → IsPrepared settings (Ok (Some bytes)) before now ready
of_manifest settings bytes read before now ready e h =
    let whole = subst (λ (r : Result Manifest Refusal). IsReadied (asked_by settings.exports r) (manifest_ready settings r) before now ready) e h in
    record { gathered = whole.gathered; gathers = whole.gathers; due = whole.due; cause = whole.cause }

-- ---- what was gathered

fault_gathered : (settings : Settings) (manifest : Manifest) (places : List ℕ) (gathered : Result (List (List ℕ)) SourceAnswer) (digest : List ℕ) → gathered_ready settings manifest places gathered ≡ source_fault digest → gathered ≡ Err (answers.Fault digest)
fault_gathered settings manifest places (Ok blobs) digest e = absurd (cc)
fault_gathered settings manifest places (Err (answers.Missing d)) digest e = cc
fault_gathered settings manifest places (Err (answers.Wrong d)) digest e = cc
fault_gathered settings manifest places (Err (answers.Fault d)) digest e = cc
fault_gathered settings manifest places (Err (answers.BadBase64 d)) digest e = cc
fault_gathered settings manifest places (Err (answers.ItemTooLarge d)) digest e = cc
fault_gathered settings manifest places (Err answers.NoMemory) digest e = cc

-- what was gathered of the digests that are wanted
pub of_gathered : (settings : Settings) (manifest : Manifest) (places : List ℕ) (digests : List (List ℕ)) (before now : List FetcherState) (gathered : Result (List (List ℕ)) SourceAnswer) (ready : Result Build Unbuilt) → digests ≡ wanted manifest places
    → Gathers manifest.items digests before now gathered → (ready ≢ Err NoMemory → ready ≡ gathered_ready settings manifest places gathered) → ((digest : List ℕ) → gathered ≡ Err (answers.Fault digest) → SomeRose before now)
    → IsReadied (asked_of manifest (Ok places)) (gathered_ready settings manifest places) before now ready
of_gathered settings manifest places digests before now gathered ready e gathers is cause = record {
  gathered = gathered;
  gathers = subst (λ (ds : List (List ℕ)). Gathers manifest.items ds before now gathered) e gathers;
  due = is;
  cause = λ digest f. cause digest (fault_gathered settings manifest places gathered digest (due_fault (gathered_ready settings manifest places gathered) ready digest is f));
}

-- ---- nothing to gather

no_fault_lacking : (settings : Settings) (manifest : Manifest) (name digest : List ℕ) → needed_ready settings manifest (Err (lacks.Lacking name)) (Ok []) ≡ source_fault digest → ⊥
no_fault_lacking settings manifest name digest e = cc

-- an export that is lacking
pub lacks_ready : (settings : Settings) (manifest : Manifest) (lack : Lacks) (fetchers : List FetcherState) (unbuilt : Unbuilt) → (lack ≡ lacks.NoMemory → unbuilt ≡ NoMemory) → ((gathered : Result (List (List ℕ)) SourceAnswer) → needed_ready settings manifest (Err lack) gathered ≡ Err unbuilt)
    → (lack ≢ lacks.NoMemory → Err lack ≡ needed manifest settings.exports) → IsReadied (asked_of manifest (needed manifest settings.exports)) (needed_ready settings manifest (needed manifest settings.exports)) fetchers fetchers (Err unbuilt)
lacks_ready settings manifest (lacks.Lacking name) fetchers unbuilt memory due is =
    of_places settings manifest (Err (lacks.Lacking name)) fetchers fetchers (Err unbuilt) (is (λ e. cc))
    (nothing_needed (asked_of manifest (Err (lacks.Lacking name))) (needed_ready settings manifest (Err (lacks.Lacking name))) fetchers (Err unbuilt) refl (λ n. sym (due (Ok []))) (no_fault_lacking settings manifest name))
lacks_ready settings manifest lacks.NoMemory fetchers unbuilt memory due is =
    subst (λ (u : Unbuilt). IsReadied (asked_of manifest (needed manifest settings.exports)) (needed_ready settings manifest (needed manifest settings.exports)) fetchers fetchers (Err u)) (sym (memory refl))
    (unknown (asked_of manifest (needed manifest settings.exports)) (needed_ready settings manifest (needed manifest settings.exports)) fetchers)

no_fault_absent : (settings : Settings) (digest : List ℕ) → ready_of settings (Ok None) (Ok []) ≡ source_fault digest → ⊥
no_fault_absent settings digest e = cc

-- no manifest
pub absent_ready : (settings : Settings) (found : Option (List ℕ)) (fetchers : List FetcherState) → found ≡ None → IsPrepared settings (Ok found) fetchers fetchers (Err Absent)
absent_ready settings found fetchers e =
    subst (λ (f : Option (List ℕ)). IsPrepared settings (Ok f) fetchers fetchers (Err Absent)) (sym e)
    (prepared_of settings (Ok None) fetchers fetchers (Err Absent) (nothing_needed (asked settings.exports (Ok None)) (ready_of settings (Ok None)) fetchers (Err Absent) refl (λ n. refl) (no_fault_absent settings)))

no_fault_stopped : (settings : Settings) (stop : ReadStop) (digest : List ℕ) → ready_of settings (Err stop) (Ok []) ≡ source_fault digest → ⊥
no_fault_stopped settings stops.Failed digest e = cc
no_fault_stopped settings stops.NoMemory digest e = cc

-- one that was not read
pub stopped_ready : (settings : Settings) (given : Reply) (stop : ReadStop) (fetchers : List FetcherState) (unbuilt : Unbuilt) → given ≡ Err stop → ((gathered : Result (List (List ℕ)) SourceAnswer) → ready_of settings (Err stop) gathered ≡ Err unbuilt) → IsPrepared settings given fetchers fetchers (Err unbuilt)
stopped_ready settings given stop fetchers unbuilt e due =
    subst (λ (g : Reply). IsPrepared settings g fetchers fetchers (Err unbuilt)) (sym e)
    (prepared_of settings (Err stop) fetchers fetchers (Err unbuilt) (nothing_needed (asked settings.exports (Err stop)) (ready_of settings (Err stop)) fetchers (Err unbuilt) refl (λ n. sym (due (Ok []))) (no_fault_stopped settings stop)))

-- ---- a manifest that is there

pub found_ready : (settings : Settings) (found : Option (List ℕ)) (bytes : List ℕ) (read : Result Manifest Refusal) (before now : List FetcherState) (ready : Result Build Unbuilt) → found ≡ Some bytes → read ≡ manifest_of bytes
    → IsReadied (asked_by settings.exports read) (manifest_ready settings read) before now ready → IsPrepared settings (Ok found) before now ready
found_ready settings found bytes read before now ready f e h =
    subst (λ (o : Option (List ℕ)). IsPrepared settings (Ok o) before now ready) (sym f) (of_manifest settings bytes read before now ready e h)

on : {A B C : Type 0} → A ⊎ B → (A → C) → (B → C) → C
on (inl x) f g = f x
on (inr y) f g = g y

want : (refusal : Refusal) → (refusal ≡ refusals.NoMemory) ⊎ (refusal ≢ refusals.NoMemory)
want refusals.NoMemory = inl refl
want refusal = inr (λ e. cc)

no_fault_refused : (settings : Settings) (refusal : Refusal) (digest : List ℕ) → manifest_ready settings (Err refusal) (Ok []) ≡ source_fault digest → ⊥
no_fault_refused settings refusal digest e = cc

-- one that is refused
pub refused_ready : (settings : Settings) (found : Option (List ℕ)) (bytes : List ℕ) (refusal : Refusal) (fetchers : List FetcherState) (unbuilt : Unbuilt) → found ≡ Some bytes → (refusal ≡ refusals.NoMemory → unbuilt ≡ NoMemory) → (refusal ≢ refusals.NoMemory → unbuilt ≡ Refused refusal)
    → (refusal ≢ refusals.NoMemory → Err refusal ≡ manifest_of bytes) → IsPrepared settings (Ok found) fetchers fetchers (Err unbuilt)
refused_ready settings found bytes refusal fetchers unbuilt f memory refused is = on (want refusal)
    (λ e. subst (λ (u : Unbuilt). IsPrepared settings (Ok found) fetchers fetchers (Err u)) (sym (memory e)) (prepared_of settings (Ok found) fetchers fetchers (Err NoMemory) (unknown (asked settings.exports (Ok found)) (ready_of settings (Ok found)) fetchers)))
    (λ other. found_ready settings found bytes (Err refusal) fetchers fetchers (Err unbuilt) f (is other) (nothing_needed (asked_by settings.exports (Err refusal)) (manifest_ready settings (Err refusal)) fetchers (Err unbuilt) refl (λ n. ap Err (refused other)) (no_fault_refused settings refusal)))
