use Rattle.std.proofs.Common.{ap, ◌∙◌}
use Rattle.std.specs.Str.{bytes_eq}
use Rattle.std.specs.Map.{lookup}
use Rattle.osb_manifest.proofs.Names.{lookup-named}
use Rattle.osb_manifest.proofs.pipelines.Pipelines.get.Goals as goal

pub returns : goal.returns
returns c = record {
  found = c.get.ensures.value ∙ lookup-named (bytes_eq c.args.name.now) c.self.inside.by_name.entries ∙ ap (lookup (bytes_eq c.args.name.now)) c.self.view_is;
}
