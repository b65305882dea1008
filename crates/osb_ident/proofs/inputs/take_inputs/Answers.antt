use Rattle.std.proofs.Common.{refl, sym, ◌∙◌}
use Rattle.osb_ident.specs.Idents.{object_text}
use Rattle.osb_ident.proofs.Identifiers.{inputs_text-empty, inputs_text-some}
use Rattle.osb_ident.proofs.Pieces.{Takes-append, Takes-nil, Takes-no_members, Takes-same, first-more, members-all, Takes-member}
use Rattle.osb_ident.proofs.inputs.take_inputs.Goals as goal

pub returns-then-is_empty : goal.returns-then-is_empty
returns-then-is_empty c =
    Takes-same (Takes-nil c.args.hasher.now) (sym (inputs_text-empty c.args.ids.now c.args.inputs.now (sym c.is_empty.ensures ∙ c.if-is_empty.true)))

pub loop-name-init : goal.loop-name-init
loop-name-init c = record { taken = Takes-no_members c.take_text.new.hasher; first = refl }

pub loop-name-preserved : goal.loop-name-preserved
loop-name-preserved c =
    let within = c.loop-name-test.true in
    let is = c.loop-name-item.is in
    record {
      taken = Takes-member _ c.args.inputs.now c.loop-name.name-index c.loop-name-item.result c.loop-name.is_first _ _ within is
          c.loop-name.invariant.first c.as_str.ensures.content (c.as_str-in-loop-name.ensures.content ∙ c.in_ok-value.ensures)
          c.loop-name.invariant.taken c.in_ok-take_member.ensures;
      first = first-more _ c.args.inputs.now c.loop-name.name-index c.loop-name-item.result within is;
    }

pub returns : goal.returns
unfolding object_text
returns c =
    Takes-same (Takes-append c.take_text.ensures (Takes-append
    (Takes-same c.loop-name.invariant.taken (members-all _ c.args.inputs.now c.loop-name.name-index c.loop-name-test.false))
    c.take_text-2.ensures))
    (sym (inputs_text-some c.args.ids.now c.args.inputs.now (sym c.is_empty.ensures ∙ c.if-is_empty.false)))
