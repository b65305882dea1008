use Rattle.std.proofs.Common.{ap₂, ◌∙◌}
use Rattle.std.specs.List.{zip}
use Rattle.osb_ready.proofs.Pairing.{build_ready}
use Rattle.osb_ready.proofs.preparing.gathered_build.Goals as goal

pub new-build-requires : goal.new-build-requires
new-build-requires c = record {
  ready = rw c.places.view_is (build_ready c.args.manifest c.args.places c.in_ok-marks.marks c.args.digests c.args.gathered c.args.settings.now.exports _ c.requires.formed c.requires.needed c.requires.wanted c.requires.items
      (c.in_ok-items_by_digest.ensures.pairs ∙ ap₂ zip c.into_vec.ensures.items c.into_vec-2.ensures.items));
}
