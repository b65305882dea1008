use Rattle.std.proofs.Common.{◌≡◌, false, is_some, sym, rules, subst}
use Rattle.std.specs.Bool.{◌==◌}
use Rattle.std.specs.Cmp.Lexicographic.{pointwise}
use Rattle.std.specs.Map.{lookup}
use Rattle.osb_base.specs.Shelves.{AreFiles}
use Rattle.osb_cases.proofs.MoreFiles.{AreFiles-push}
use Rattle.osb_cases.proofs.mirrors.add_item.Goals as goal

pub returns : goal.returns
returns c =
    let absent : is_some (lookup (pointwise ◌==◌ c.in_ok-digest.digest) c.args.items.now.items) ≡ false = search rules in
    subst AreFiles (sym c.in_ok-push.ensures.items) (AreFiles-push c.args.items.now.items c.in_ok-digest.digest c.in_ok-digest.bytes absent c.requires)
