use Rattle.std.proofs.Common.{◌++◌, List, ℕ, sym, ap, ◌∙◌, append-nil, append_assoc}
use Rattle.std.specs.Prelude.{string_bytes}
use Rattle.std.proofs.lemmas.List.{take_all}
use Rattle.osb_ident.specs.Marks.{stage_lines}
use Rattle.osb_ident.proofs.Lines.{pipeline_lines-empty, pipeline_lines-some, stage_lines-more}
use Rattle.osb_ident.proofs.inspect.write_pipeline.Goals as goal

pub returns-then-is_empty : goal.returns-then-is_empty
returns-then-is_empty c =
    let lines = pipeline_lines-empty c.args.name.now c.args.ids.now (sym c.is_empty.ensures ∙ c.if-is_empty.true) in
    rw (lines, c.in_ok-push_str-2.ensures.bytes, c.in_ok-push_str.ensures.bytes) (append_assoc (string_bytes c.args.out.now) c.args.name.now _)

pub loop-place-init : goal.loop-place-init
unfolding stage_lines
loop-place-init c = sym (append-nil (string_bytes c.args.out.now))

pub loop-place-preserved : goal.loop-place-preserved
loop-place-preserved c =
    c.in_ok-write_stage.ensures
    ∙ stage_lines-more c.args.name.now c.args.ids.now c.loop-place.place c.index-ids-place.result (string_bytes c.loop-place.out) (string_bytes c.args.out.now)
    c.loop-place-test.true c.index-ids-place.is c.loop-place.invariant

pub returns : goal.returns
returns c =
    let all = ap (stage_lines c.args.name.now 0) (take_all c.loop-place.place c.args.ids.now c.loop-place-test.false) in
    let lines = pipeline_lines-some c.args.name.now c.args.ids.now (sym c.is_empty.ensures ∙ c.if-is_empty.false) in
    c.loop-place.invariant ∙ ap (λ (more : List ℕ). string_bytes c.args.out.now ++ more) (all ∙ sym lines)
