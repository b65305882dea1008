use Rattle.std.proofs.Common.{refl, ◌∙◌}
use Rattle.osb_ident.specs.Idents.{object_text}
use Rattle.osb_ident.proofs.Pieces.{Takes-append, Takes-no_members, Takes-same, first-more, members-all, Takes-member}
use Rattle.osb_ident.proofs.inputs.take_references.Goals as goal

pub loop-digest-init : goal.loop-digest-init
loop-digest-init c = record { taken = Takes-no_members c.take_text.new.hasher; first = refl }

pub loop-digest-preserved : goal.loop-digest-preserved
loop-digest-preserved c =
    let within = c.loop-digest-test.true in
    let is = c.loop-digest-item.is in
    record {
      taken = Takes-member _ c.args.files.now c.loop-digest.digest-index c.loop-digest-item.result c.loop-digest.is_first _ _ within is
          c.loop-digest.invariant.first (c.as_str.ensures.content ∙ c.in_ok-key.ensures.text) c.as_str-in-loop-digest.ensures.content
          c.loop-digest.invariant.taken c.in_ok-take_member.ensures;
      first = first-more _ c.args.files.now c.loop-digest.digest-index c.loop-digest-item.result within is;
    }

pub returns : goal.returns
unfolding object_text
returns c =
    Takes-append c.take_text.ensures (Takes-append
    (Takes-same c.loop-digest.invariant.taken (members-all _ c.args.files.now c.loop-digest.digest-index c.loop-digest-test.false))
    c.take_text-2.ensures)
