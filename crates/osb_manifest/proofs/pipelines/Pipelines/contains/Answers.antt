use Rattle.std.proofs.Common.{ap, ◌∙◌}
use Rattle.std.specs.Str.{bytes_eq}
use Rattle.std.specs.List.{list_any}
use Rattle.std.specs.Map.{keys_of}
use Rattle.osb_manifest.proofs.Names.{is_some-lookup}
use Rattle.osb_manifest.proofs.pipelines.Pipelines.contains.Goals as goal

pub returns : goal.returns
returns c = record {
  has = c.contains_key.ensures ∙ is_some-lookup (bytes_eq c.args.name.now) c.self.inside.by_name.entries ∙ ap (λ es. list_any (bytes_eq c.args.name.now) (keys_of es)) c.self.view_is;
}
