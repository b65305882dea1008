-- A run in which no count of faults rose, over a true store: each answer is what is due, with its exports whole.
use Rattle.std.proofs.Common.{◌≡◌, ◌≢◌, ℕ, ◌+◌, zero, suc, Bool, true, false, cond, List, [], ◌∷◌, ◌++◌, map, Some, None, Result, Ok, Err, refl, sym, ap, ◌∙◌, subst, arith}
use Rattle.std.specs.List.{All, AllZip, count_by}
use Rattle.std.proofs.lemmas.List.Elements.{All-nil, All-cons}
use Rattle.std.proofs.lemmas.List.Sums.{sum_by-cons, sum_by-append}
use Rattle.osb_base.specs.Fetchers.{FetcherState}
use Rattle.osb_base.specs.declared.faults.ReadStop.TheVariants as stops
use Rattle.osb_sources.specs.Rounds.{IsThinned, SomeRose}
use Rattle.osb_sources.specs.declared.answers.SourceAnswer.{SourceAnswer}
use Rattle.osb_sources.specs.declared.answers.SourceAnswer.TheVariants as sources
use Rattle.osb_sources.proofs.Thinned.{thinned_same, thinned_on, thinned_gathers}
use Rattle.osb_manifest.specs.Manifests.{manifest_of}
use Rattle.osb_manifest.specs.Needed.{needed}
use Rattle.osb_manifest.specs.declared.manifests.Manifest.{Manifest}
use Rattle.osb_manifest.specs.declared.manifests.Refusal.{Refusal}
use Rattle.osb_manifest.specs.declared.exports.NoSuchExport.{NoSuchExport as Lacks}
use Rattle.osb_manifest.specs.declared.exports.NoSuchExport.TheVariants as lacks
use Rattle.osb_plan.specs.declared.builds.Build.{Build}
use Rattle.osb_store.specs.declared.stores.Store.{Store}
use Rattle.osb_words.specs.declared.requests.Settings.{Settings}
use Rattle.osb_ready.specs.Readying.{Reply, gathered_ready, needed_ready, manifest_ready, ready_of, IsPrepared}
use Rattle.osb_ready.specs.Trees.{IsOfBuild, exports_due}
use Rattle.osb_ready.specs.declared.exports.Export.{Export}
use Rattle.osb_ready.specs.declared.unbuilt.Unbuilt.{Unbuilt as WhyUnbuilt}
use Rattle.osb_ready.specs.declared.unbuilt.Unbuilt.TheVariants.{Absent, ReadFault, Refused, NoSuchExport, Source, Failed, NoMemory}
use Rattle.osb_builder.specs.Stores.{IsTrueStore}
use Rattle.osb_answers.specs.Exports.{Placed, placed_of, all_placed, is_fault as is_export_fault, Count, RoseBy}
use Rattle.osb_answers.specs.declared.answers.Exported.{Exported as ExportedData}
use Rattle.osb_answers.specs.declared.answers.ExportAnswer.{ExportAnswer}
use Rattle.osb_answers.specs.declared.answers.ExportAnswer.TheVariants.{Fault}
use Rattle.osb_answers.specs.declared.answers.Answer.{Answer}
use Rattle.osb_answers.specs.declared.answers.Answer.TheVariants.{Unbuilt, Exports}
use Rattle.osb_top.specs.Seen.{ShelfSeen, Seen}
use Rattle.osb_top.specs.Builds.{ArePrepared, all_prepared, one_prepared}
use Rattle.osb_top.specs.Runs.{MayAnswer, IsOfPlan, IsAnswered, Comes}
use Rattle.osb_top.specs.Wholes.{IsGiven, is_fault}
use Rattle.osb_top.specs.Complete.{Stands, IsQuiet, due_of_ready, due_of, IsNoFault, IsWhole, AreWhole, all_whole, one_whole, Completes}
use Rattle.osb_top.proofs.Rising.{rises_within}

-- ---- counts that stand

none_rose : (n : ℕ) (count : Count) → RoseBy n count → Stands count → n ≡ 0
none_rose zero count rose stands = refl
none_rose (suc n) count rose stands = absurd (stands (omega (arith, rose)))

module _ {X : Type 0} (fails : X → Bool) where
  first_fine : (x : X) (xs : List X) → count_by fails (x ∷ xs) ≡ 0 → fails x ≡ false
  first_fine x xs none = by (fails x) (sym (sum_by-cons (λ y. cond (fails y) 1 0) x xs) ∙ none)
    where
      by : (fault : Bool) → cond fault 1 0 + count_by fails xs ≡ 0 → fault ≡ false
      by true sum = absurd (omega (arith, sum))
      by false sum = refl

  others_fine : (x : X) (xs : List X) → count_by fails (x ∷ xs) ≡ 0 → count_by fails xs ≡ 0
  others_fine x xs none =
      let sum : cond (fails x) 1 0 + count_by fails xs ≡ 0 = sym (sum_by-cons (λ y. cond (fails y) 1 0) x xs) ∙ none in
      omega (arith, sum)

  front_fine : (xs ys : List X) → count_by fails (xs ++ ys) ≡ 0 → count_by fails xs ≡ 0
  front_fine xs ys none =
      let sum : count_by fails xs + count_by fails ys ≡ 0 = sym (sum_by-append (λ y. cond (fails y) 1 0) xs ys) ∙ none in
      omega (arith, sum)

  rest_fine : (xs ys : List X) → count_by fails (xs ++ ys) ≡ 0 → count_by fails ys ≡ 0
  rest_fine xs ys none =
      let sum : count_by fails xs + count_by fails ys ≡ 0 = sym (sum_by-append (λ y. cond (fails y) 1 0) xs ys) ∙ none in
      omega (arith, sum)

-- ---- exports

abbrev is_placed_fault : Placed → Bool
is_placed_fault placed = is_export_fault placed.1.answer

abbrev IsUnfailed : ExportedData → Type 0
IsUnfailed exported = exported.answer ≢ Fault

abbrev AreUnfailed : Answer → Type 0
AreUnfailed (Unbuilt why) = Unit {0}
AreUnfailed (Exports list) = All (λ exported. exported.answer ≢ Fault) list

unfailed : (answer : ExportAnswer) → is_export_fault answer ≡ false → answer ≢ Fault
unfailed answer fine fault = let e : true ≡ false = sym (ap is_export_fault fault) ∙ fine in cc

all_unfailed : (place : ℕ) (list : List ExportedData) → count_by is_placed_fault (map (λ exported. (place, exported)) list) ≡ 0 → All IsUnfailed list
all_unfailed place [] none = All-nil IsUnfailed
all_unfailed place (exported ∷ list) none =
    let others = map (λ (e : ExportedData). (place, e)) list in
    All-cons IsUnfailed exported list
    (unfailed exported.answer (first_fine is_placed_fault (place, exported) others none))
    (all_unfailed place list (others_fine is_placed_fault (place, exported) others none))

answer_unfailed : (place : ℕ) (answer : Answer) → count_by is_placed_fault (placed_of place answer) ≡ 0 → AreUnfailed answer
answer_unfailed place (Unbuilt why) none = tt
answer_unfailed place (Exports list) none = all_unfailed place list none

-- ---- reads

module _ (settings : Settings) where
  gathered_fine : (manifest : Manifest) (places : List ℕ) (gathered : Result (List (List ℕ)) SourceAnswer) → gathered_ready settings manifest places gathered ≡ Err ReadFault → ⊥
  gathered_fine manifest places (Ok blobs) e = cc
  gathered_fine manifest places (Err sources.NoMemory) e = cc
  gathered_fine manifest places (Err answer) e = cc

  needed_fine : (manifest : Manifest) (places : Result (List ℕ) Lacks) (gathered : Result (List (List ℕ)) SourceAnswer) → needed_ready settings manifest places gathered ≡ Err ReadFault → ⊥
  needed_fine manifest (Ok places) gathered e = gathered_fine manifest places gathered e
  needed_fine manifest (Err (lacks.Lacking name)) gathered e = cc
  needed_fine manifest (Err lacks.NoMemory) gathered e = cc

  manifest_fine : (read : Result Manifest Refusal) (gathered : Result (List (List ℕ)) SourceAnswer) → manifest_ready settings read gathered ≡ Err ReadFault → ⊥
  manifest_fine (Ok manifest) gathered e = needed_fine manifest (needed manifest settings.exports) gathered e
  manifest_fine (Err refusal) gathered e = cc

  -- there is a read fault only where the shelf failed
  failed_read : (given : Reply) (gathered : Result (List (List ℕ)) SourceAnswer) → ready_of settings given gathered ≡ Err ReadFault → is_fault given ≡ true
  failed_read (Ok (Some bytes)) gathered e = absurd (manifest_fine (manifest_of bytes) gathered e)
  failed_read (Ok None) gathered e = absurd (cc)
  failed_read (Err stops.Failed) gathered e = refl
  failed_read (Err stops.NoMemory) gathered e = absurd (cc)

-- ---- one build

module _ (names : List (List ℕ)) (ready whole : Result Build WhyUnbuilt) (due : ready ≢ Err NoMemory → ready ≡ whole) where
  due_built : (build : Build) → ready ≡ Ok build → due_of_ready names whole ≡ exports_due names build
  due_built build is = sym (ap (due_of_ready names) (sym is ∙ due (λ e. cc)))

  due_unbuilt : (why : WhyUnbuilt) → ready ≡ Err why → why ≢ NoMemory → due_of_ready names whole ≡ Err why
  due_unbuilt why is other = sym (ap (due_of_ready names) (sym is ∙ due (λ e. other (cc))))

planned_fine : (why : WhyUnbuilt) → IsOfBuild (Err why) → IsNoFault why
planned_fine Absent of = absurd of
planned_fine ReadFault of = absurd of
planned_fine (Refused refusal) of = absurd of
planned_fine (NoSuchExport name) of = ((λ e. cc), (λ digest e. cc))
planned_fine (Source answer) of = absurd of
planned_fine (Failed pipeline stage fault) of = ((λ e. cc), (λ digest e. cc))
planned_fine NoMemory of = ((λ e. cc), (λ digest e. cc))

due_why : (due : Result (List Export) WhyUnbuilt) (why : WhyUnbuilt) → MayAnswer due (Unbuilt why) → why ≢ NoMemory → due ≡ Err why
due_why due Absent may other = may
due_why due ReadFault may other = may
due_why due (Refused refusal) may other = may
due_why due (NoSuchExport name) may other = may
due_why due (Source answer) may other = may
due_why due (Failed pipeline stage fault) may other = may
due_why due NoMemory may other = absurd (other refl)

planned_whole : (due : Result (List Export) WhyUnbuilt) (answer : Answer) → IsOfPlan answer → MayAnswer due answer → AreUnfailed answer → IsWhole due answer
planned_whole due (Unbuilt why) of may fine = (due_why due why may, planned_fine why of)
planned_whole due (Exports list) of may fine = (may, fine)

module _ (settings : Settings) (truth : Type 0) (holds : truth) (given : Reply) (before now : List FetcherState) (stands : SomeRose before now → ⊥) (read : is_fault given ≡ false) where
  unbuilt_fine : (why : WhyUnbuilt) → IsPrepared settings given before now (Err why) → IsNoFault why
  unbuilt_fine why is = (
    λ e.
        let no_memory : why ≢ NoMemory = λ (f : why ≡ NoMemory). let g : ReadFault ≡ NoMemory = sym e ∙ f in cc in
        let failed : is_fault given ≡ true = failed_read settings given is.gathered (sym (is.due (λ h. no_memory (cc))) ∙ ap Err e) in
        let both : true ≡ false = sym failed ∙ read in
        cc,
    λ digest e. stands (is.cause digest (ap Err e)),
  )

  one_is_whole : (ready : Result Build WhyUnbuilt) (answer : Answer) (is : IsPrepared settings given before now ready) → IsAnswered settings.exports truth ready answer → AreUnfailed answer → IsWhole (due_of settings given is.gathered) answer
  one_is_whole (Ok build) answer is answered fine =
      subst (λ (due : Result (List Export) WhyUnbuilt). IsWhole due answer)
      (sym (due_built settings.exports (Ok build) (ready_of settings given is.gathered) is.due build refl))
      (planned_whole (exports_due settings.exports build) answer answered.0 (answered.1 holds) fine)
  one_is_whole (Err why) answer is answered fine =
      subst (λ (a : Answer). IsWhole (due_of settings given is.gathered) a) (sym answered)
      (due_unbuilt settings.exports (Err why) (ready_of settings given is.gathered) is.due why refl, unbuilt_fine why is)

-- ---- all builds

thinned_prepared : {settings : Settings} {before now : List FetcherState} {reads : List Reply} {builds : List (Result Build WhyUnbuilt)} → ArePrepared settings before reads builds now → IsThinned before now
thinned_prepared (all_prepared fetchers) = thinned_same fetchers
thinned_prepared (one_prepared before between now given ready reads builds is others) = thinned_on (thinned_gathers is.gathers) (thinned_prepared others)

module _ (settings : Settings) (truth : Type 0) (holds : truth) (first : List FetcherState) where
  are_whole : {before now : List FetcherState} {reads : List Reply} {builds : List (Result Build WhyUnbuilt)} → ArePrepared settings before reads builds now → (place : ℕ) (answers : List Answer) → AllZip (IsAnswered settings.exports truth) builds answers
      → IsThinned first before → (SomeRose first now → ⊥) → count_by is_fault reads ≡ 0 → count_by is_placed_fault (all_placed place answers) ≡ 0 → AreWhole settings before reads answers now
  are_whole (all_prepared fetchers) place [] answered thinned stands fine unfailed = all_whole fetchers
  are_whole (all_prepared fetchers) place (answer ∷ answers) answered thinned stands fine unfailed = absurd answered
  are_whole (one_prepared before between now given ready reads builds is others) place [] answered thinned stands fine unfailed = absurd answered
  are_whole (one_prepared before between now given ready reads builds is others) place (answer ∷ answers) answered thinned stands fine unfailed =
      one_whole before between now given is.gathered answer reads answers is.gathers
      (one_is_whole settings truth holds given before between
      (λ rose. stands (rises_within first before between now thinned rose (thinned_prepared others)))
      (first_fine is_fault given reads fine) ready answer is answered.0
      (answer_unfailed place answer (front_fine is_placed_fault (placed_of place answer) (all_placed (place + 1) answers) unfailed)))
      (are_whole others (place + 1) answers answered.1 (thinned_on thinned (thinned_gathers is.gathers)) stands
      (others_fine is_fault given reads fine)
      (rest_fine is_placed_fault (placed_of place answer) (all_placed (place + 1) answers) unfailed))

pub completes : (settings : Settings) (workers : ℕ) (store : Store) (reads : List Reply) (shelf : ShelfSeen) (seen : Seen) (status : ℕ) → AllZip (IsGiven shelf.files) settings.manifests reads → RoseBy (count_by is_fault reads) shelf.faults
    → IsQuiet shelf seen → IsTrueStore store → Comes settings workers store reads seen status → Completes settings shelf seen
completes settings workers store reads shelf seen status given faults quiet holds comes = record {
  reads = reads;
  given = given;
  answers = comes.answers;
  whole =
      are_whole settings (IsTrueStore store) holds seen.fetchers.before comes.prepared 1 comes.answers comes.answered
      (thinned_same seen.fetchers.before) quiet.of_fetchers
      (none_rose (count_by is_fault reads) shelf.faults faults quiet.of_shelf)
      (none_rose (count_by is_placed_fault (all_placed 1 comes.answers)) seen.exporter.faults comes.trees.faults quiet.of_exporter);
  trees = comes.trees;
}
