use Rattle.std.proofs.Common.{sym, ◌∙◌}
use Rattle.serde_json.specs.View.{view}
use Rattle.osb_store.proofs.OptionKinds.{kind_found, kind_fault, no_object}
use Rattle.osb_store.proofs.options.kind_in.Goals as goal

pub returns-then-not-is_object : goal.returns-then-not-is_object
returns-then-not-is_object c = no_object c.args.stage.now (view c.args.options.now) (sym c.is_object.ensures ∙ c.if-not-is_object.true)

pub returns-in-Ok : goal.returns-in-Ok
returns-in-Ok c =
    kind_found c.args.stage.now (view c.args.options.now) c.in-Ok.kind (sym c.is_object.ensures ∙ c.if-not-is_object.false) (sym (c.in-Ok.ensures.kind (λ e. cc)))

pub returns-in-Err-UnknownStage : goal.returns-in-Err-UnknownStage
returns-in-Err-UnknownStage c =
    let is = c.in-Err-UnknownStage.field-0-is in
    kind_fault c.args.stage.now (view c.args.options.now) c.in-Err-UnknownStage.field-0 (sym (c.in-Err-UnknownStage.ensures.kind (λ e. cc)))

pub returns-in-Err-Options : goal.returns-in-Err-Options
returns-in-Err-Options c =
    let is = c.in-Err-Options.field-0-is in
    kind_fault c.args.stage.now (view c.args.options.now) c.in-Err-Options.field-0 (sym (c.in-Err-Options.ensures.kind (λ e. cc)))
