-- What comes of builds, and what they are answered.
use Rattle.std.proofs.Common.{◌≡◌, ℕ, ◌+◌, ◌⊎◌, List, [], ◌∷◌, drop, map, slice_get, zero, suc, Option, Some, None, option_map, Result, Ok, Err, sym, refl, ap, subst, ◌∙◌, arith}
use Rattle.std.specs.Option.{option_map_or}
use Rattle.std.specs.List.{All, AllZip, filter_map}
use Rattle.std.specs.Result.{result_ok}
use Rattle.osb_tree.specs.declared.numbers.TaskNo.{TaskNo}
use Rattle.osb_recipe.specs.Meanings.{meant}
use Rattle.osb_recipe.specs.declared.outcomes.Outcome.{Outcome}
use Rattle.osb_recipe.specs.declared.outcomes.Outcome.TheVariants as outcomes
use Rattle.osb_recipe.specs.declared.plans.Plan.{Plan}
use Rattle.osb_recipe.specs.declared.plans.Task.{Task}
use Rattle.osb_machine.specs.Finishes.{AreMeantEnds}
use Rattle.osb_manifest.specs.Solo.{solo}
use Rattle.osb_plan.specs.Bridge.{IsReady, AreMeant, task_meaning}
use Rattle.osb_plan.specs.declared.builds.Build.{Build}
use Rattle.osb_ready.specs.Ends.{AreTaskEnds}
use Rattle.osb_ready.specs.Trees.{exports_due}
use Rattle.osb_ready.specs.declared.exports.Export.{Export}
use Rattle.osb_ready.specs.declared.unbuilt.Unbuilt.{Unbuilt as WhyUnbuilt}
use Rattle.osb_ready.specs.declared.unbuilt.Unbuilt.TheVariants.{Absent, ReadFault, Refused, NoSuchExport, Source, Failed, NoMemory}
use Rattle.osb_answers.specs.Exports.{IsAnswerOf}
use Rattle.osb_answers.specs.declared.answers.Answer.{Answer}
use Rattle.osb_answers.specs.declared.answers.Answer.TheVariants.{Unbuilt, Exports}
use Rattle.osb_top.specs.Builds.{places_from, MayCome, IsCameAt, IsCame}
use Rattle.osb_top.specs.Runs.{MayAnswer, IsAnswered}

-- ---- the tasks of a build

ended : (plan : Plan) (task : Option Task) (meaning outcome : Outcome) → option_map (λ t. meant plan.table t.chain) task ≡ Some meaning → (outcome ≡ meant plan.table (option_map_or (λ t. t.chain) task [])) ⊎ (outcome ≡ outcomes.NoMemory) → (outcome ≡ meaning) ⊎ (outcome ≡ outcomes.NoMemory)
ended plan None meaning outcome is end = absurd (cc)
ended plan (Some task) meaning outcome is end = let same : meant plan.table task.chain ≡ meaning = cc in subst (λ (m : Outcome). (outcome ≡ m) ⊎ (outcome ≡ outcomes.NoMemory)) same end

record HasNumbers (plan : Plan) (more : List (List TaskNo)) (place : ℕ) (build : Build) : Type 0 where
  numbers : List TaskNo
  at : slice_get more place ≡ Some numbers
  mean : map (task_meaning plan) numbers ≡ map (λ built. Some built.1) (solo build.manifest build.needed build.blobs)

numbers_at : (plan : Plan) (builds : List Build) (more : List (List TaskNo)) (place : ℕ) (build : Build) → AreMeant plan builds more → slice_get builds place ≡ Some build → HasNumbers plan more place build
numbers_at plan [] [] place build are at = absurd (cc)
numbers_at plan [] (numbers ∷ more) place build are at = absurd are
numbers_at plan (first ∷ builds) [] place build are at = absurd are
numbers_at plan (first ∷ builds) (numbers ∷ more) zero build are at =
    let same : first ≡ build = cc in
    record { numbers = numbers; at = refl; mean = subst (λ (b : Build). map (task_meaning plan) numbers ≡ map (λ built. Some built.1) (solo b.manifest b.needed b.blobs)) same are.0 }
numbers_at plan (first ∷ builds) (numbers ∷ more) (suc place) build are at =
    let later = numbers_at plan builds more place build are.1 at in
    record { numbers = later.numbers; at = later.at; mean = later.mean }

task_ends : (plan : Plan) (build : Build) (numbers : List TaskNo) (outcomes : List Outcome) → map (task_meaning plan) numbers ≡ map (λ built. Some built.1) (solo build.manifest build.needed build.blobs) → AreMeantEnds plan outcomes → AreTaskEnds plan build numbers outcomes
task_ends plan build numbers outcomes mean ends = record {
  mean = mean;
  ends = λ number meaning outcome is at. ended plan (slice_get plan.tasks number.0) meaning outcome is (ends number.0 outcome at);
}

-- ---- places among the planned builds

left_at : {X : Type 0} (xs : List X) (i : ℕ) (x : X) (rest : List X) → drop i xs ≡ x ∷ rest → (slice_get xs i ≡ Some x) × (drop (i + 1) xs ≡ rest)
left_at [] zero x rest e = absurd (cc)
left_at [] (suc i) x rest e = absurd (cc)
left_at (y ∷ xs) zero x rest e =
    let head : y ≡ x = cc in
    let tail : xs ≡ rest = cc in
    (ap Some head, tail)
left_at (y ∷ xs) (suc i) x rest e =
    let later = left_at xs i x rest e in
    let Left : ℕ → Type 0 = λ n. drop n (y ∷ xs) ≡ rest in
    let next : suc (i + 1) ≡ suc i + 1 = omega arith in
    (later.0, subst Left next later.1)

ready_at : (builds : List Build) (place : ℕ) (build : Build) → All IsReady builds → slice_get builds place ≡ Some build → IsReady build
ready_at [] place build all at = absurd (cc)
ready_at (first ∷ builds) zero build all at = let same : first ≡ build = cc in subst (λ (b : Build). IsReady b) same (all 0 first (omega arith))
ready_at (first ∷ builds) (suc place) build all at = ready_at builds place build (λ k d lt. all (suc k) d (omega arith)) at

module _ (names : List (List ℕ)) (truth : Type 0) (planned : List Build) (plan : Plan) (outcomes : List Outcome) where
  one_came : (place : ℕ) (build : Build) (came : Result (List Export) WhyUnbuilt) → slice_get planned place ≡ Some build → All IsReady planned → AreMeant plan planned plan.builds → (truth → AreMeantEnds plan outcomes) → IsCameAt names planned plan outcomes (Ok place) came → IsCame names truth (Ok build) came
  one_came place build came at ready mean ends is =
      let has = numbers_at plan planned plan.builds place build mean at in
      (is.0, λ t. is.1 build has.numbers at has.at (ready_at planned place build ready at) (task_ends plan build has.numbers outcomes has.mean (ends t)))

  pub all_came : (readies : List (Result Build WhyUnbuilt)) (next : ℕ) (came : List (Result (List Export) WhyUnbuilt)) → drop next planned ≡ filter_map result_ok readies → All IsReady planned → AreMeant plan planned plan.builds → (truth → AreMeantEnds plan outcomes)
      → AllZip (IsCameAt names planned plan outcomes) (places_from next readies) came → AllZip (IsCame names truth) readies came
  all_came [] next [] left ready mean ends are = tt
  all_came [] next (one ∷ came) left ready mean ends are = absurd are
  all_came (Ok build ∷ readies) next [] left ready mean ends are = absurd are
  all_came (Err why ∷ readies) next [] left ready mean ends are = absurd are
  all_came (Ok build ∷ readies) next (one ∷ came) left ready mean ends are =
      let at = left_at planned next build (filter_map result_ok readies) left in
      (one_came next build one at.0 ready mean ends are.0, all_came readies (next + 1) came at.1 ready mean ends are.1)
  all_came (Err why ∷ readies) next (one ∷ came) left ready mean ends are = (are.0, all_came readies next came left ready mean ends are.1)

-- ---- answers

may_unbuilt : (due : Result (List Export) WhyUnbuilt) (why : WhyUnbuilt) → MayCome due (Err why) → MayAnswer due (Unbuilt why)
may_unbuilt due Absent may = sym (may (λ e. cc))
may_unbuilt due ReadFault may = sym (may (λ e. cc))
may_unbuilt due (Refused refusal) may = sym (may (λ e. cc))
may_unbuilt due (NoSuchExport name) may = sym (may (λ e. cc))
may_unbuilt due (Source answer) may = sym (may (λ e. cc))
may_unbuilt due (Failed pipeline stage fault) may = sym (may (λ e. cc))
may_unbuilt due NoMemory may = tt

answered_unbuilt : (names : List (List ℕ)) (truth : Type 0) (build : Build) (why : WhyUnbuilt) → IsCame names truth (Ok build) (Err why) → IsAnswered names truth (Ok build) (Unbuilt why)
answered_unbuilt names truth build why is = (is.0, λ t. may_unbuilt (exports_due names build) why (is.1 t))

one_answered : (names : List (List ℕ)) (truth : Type 0) (ready : Result Build WhyUnbuilt) (came : Result (List Export) WhyUnbuilt) (answer : Answer) → IsCame names truth ready came → IsAnswerOf came answer → IsAnswered names truth ready answer
one_answered names truth (Err why) (Ok exports) answer is of = absurd (cc)
one_answered names truth (Err why) (Err other) answer is of = let same : other ≡ why = cc in of ∙ ap Unbuilt same
one_answered names truth (Ok build) (Err why) answer is of = subst (λ (a : Answer). IsAnswered names truth (Ok build) a) (sym of) (answered_unbuilt names truth build why is)
one_answered names truth (Ok build) (Ok exports) (Unbuilt why) is of = subst (λ (w : WhyUnbuilt). IsAnswered names truth (Ok build) (Unbuilt w)) (sym of) (tt, λ t. tt)
one_answered names truth (Ok build) (Ok exports) (Exports list) is of = (tt, λ t. sym (is.1 t (λ e. cc)) ∙ ap Ok (sym of))

pub all_answered : (names : List (List ℕ)) (truth : Type 0) (readies : List (Result Build WhyUnbuilt)) (came : List (Result (List Export) WhyUnbuilt)) (answers : List Answer) → AllZip (IsCame names truth) readies came → AllZip IsAnswerOf came answers → AllZip (IsAnswered names truth) readies answers
all_answered names truth [] [] [] are of = tt
all_answered names truth [] [] (answer ∷ answers) are of = absurd of
all_answered names truth [] (one ∷ came) answers are of = absurd are
all_answered names truth (ready ∷ readies) [] answers are of = absurd are
all_answered names truth (ready ∷ readies) (one ∷ came) [] are of = absurd of
all_answered names truth (ready ∷ readies) (one ∷ came) (answer ∷ answers) are of = (one_answered names truth ready one answer are.0 of.0, all_answered names truth readies came answers are.1 of.1)
