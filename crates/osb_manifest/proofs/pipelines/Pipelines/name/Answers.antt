use Rattle.std.proofs.Common.{sym, ap, ◌∙◌, Some, slice_get}
use Rattle.std.specs.Map.{keys_of}
use Rattle.osb_manifest.proofs.Names.{name_at}
use Rattle.osb_manifest.proofs.pipelines.Pipelines.name.Goals as goal

pub returns : goal.returns
returns c = record {
  name = ap (λ es. slice_get (keys_of es) c.args.place) (sym c.self.view_is)
      ∙ name_at c.self.inside.by_name.entries c.args.place (c.unwrap.result.0.now, c.unwrap.result.1.now) (sym (rw c.unwrap.ensures at c.get_index.ensures.entry))
      ∙ ap Some (sym c.as_str.ensures.value);
}
