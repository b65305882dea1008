use Rattle.std.proofs.Common.{ℕ, List, length, map, sym, ap, ◌∙◌, subst}
use Rattle.std.specs.Str.{bytes_eq}
use Rattle.std.specs.List.{AllByRecursion, IsDistinct, filter_map}
use Rattle.std.specs.Map.{keys_of}
use Rattle.serde_json.specs.Data.{Data}
use Rattle.serde_json.specs.View.{view}
use Rattle.osb_manifest.specs.Walks.{refusals_of}
use Rattle.osb_manifest.specs.Right.{IsRightPipeline, stage_counts}
use Rattle.osb_manifest.specs.Manifests.{made_pipeline}
use Rattle.osb_manifest.specs.declared.manifests.Pipeline.{Pipeline}
use Rattle.osb_manifest.proofs.Distinct.{IsDistinct-made}
use Rattle.osb_manifest.proofs.Names.{counts-named}
use Rattle.osb_manifest.proofs.Nothing.{none-from_first}
use Rattle.osb_manifest.proofs.Rightness.{right}
use Rattle.osb_manifest.proofs.making.make_manifest.Goals as goal

pub make_pipelines-requires : goal.make_pipelines-requires
make_pipelines-requires c =
    let P : List Data → Type 0 = AllByRecursion IsRightPipeline in
    subst P (sym c.list_at-values.ensures.items) (right (view c.args.value.now) (none-from_first (refusals_of (view c.args.value.now)) c.requires))

pub new-requires : goal.new-requires
new-requires c =
    let P : List (List ℕ × Pipeline) → Type 0 = λ ps. IsDistinct bytes_eq (keys_of ps) in
    subst P (sym (c.in_ok-pipelines.ensures.made ∙ ap (λ (values : List Data). filter_map (made_pipeline values) values) c.list_at-values.ensures.items)) (IsDistinct-made (view c.args.value.now) c.requires)

pub returns-clause-kept : goal.returns-clause-kept
returns-clause-kept c =
    ap (λ ps. map (λ p. length p.1.stages) ps) c.in_ok-new.ensures.pipelines ∙ counts-named c.in_ok-pipelines.pipelines.items ∙ c.in_ok-pipelines.ensures.kept ∙ ap stage_counts c.list_at-values.ensures.items
