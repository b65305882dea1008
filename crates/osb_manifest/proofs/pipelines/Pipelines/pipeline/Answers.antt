use Rattle.std.proofs.Common.{sym, ap, ◌∙◌, slice_get}
use Rattle.std.specs.Map.{values_of}
use Rattle.osb_manifest.proofs.Names.{pipeline_at}
use Rattle.osb_manifest.proofs.pipelines.Pipelines.pipeline.Goals as goal

pub returns : goal.returns
returns c = record {
  pipeline = ap (λ es. slice_get (values_of es) c.args.place) (sym c.self.view_is)
      ∙ pipeline_at c.self.inside.by_name.entries c.args.place (c.unwrap.result.0.now, c.unwrap.result.1.now) (sym (rw c.unwrap.ensures at c.get_index.ensures.entry));
}
