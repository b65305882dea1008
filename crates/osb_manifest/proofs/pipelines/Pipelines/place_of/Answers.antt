use Rattle.std.proofs.Common.{ap, ◌∙◌}
use Rattle.std.specs.Str.{bytes_eq}
use Rattle.std.specs.List.{position}
use Rattle.std.specs.Map.{keys_of}
use Rattle.osb_manifest.proofs.Names.{position-named}
use Rattle.osb_manifest.proofs.pipelines.Pipelines.place_of.Goals as goal

pub returns : goal.returns
returns c = record {
  place = c.get_index_of.ensures.index ∙ position-named (bytes_eq c.args.name.now) c.self.inside.by_name.entries ∙ ap (λ es. position (bytes_eq c.args.name.now) (keys_of es)) c.self.view_is;
}
