use Rattle.std.proofs.Common.{◌≡◌, sym, ap, ◌∙◌, subst, option_map}
use Rattle.serde_json.specs.Data.{Data}
use Rattle.serde_json.specs.View.{view}
use Rattle.osb_manifest.specs.Right.{IsKept}
use Rattle.osb_manifest.proofs.Kept.{IsKept-read}
use Rattle.osb_manifest.proofs.WellFormed.{IsWellFormed-read, same_value}
use Rattle.osb_manifest.proofs.reading.read_manifest.Goals as goal

pub returns-clause-well_formed : goal.returns-clause-well_formed
returns-clause-well_formed c =
    IsWellFormed-read c.args.bytes.now (view c.in-Some.value) c.in_ok-refusal.field-0 c.in_ok-make_manifest.field-0
    (sym c.in_ok-value.ensures ∙ ap (option_map view) c.in-Some.is) c.in_ok-refusal.ensures c.in_default-2.not-Some c.in_ok-make_manifest.ensures.made

pub returns-clause-kept : goal.returns-clause-kept
returns-clause-kept c whole is =
    let P : Data → Type 0 = λ d. IsKept d c.in_ok-make_manifest.field-0 in
    let same : view c.in-Some.value ≡ whole = same_value (view c.in-Some.value) whole (sym (ap (option_map view) c.in-Some.is) ∙ c.in_ok-value.ensures ∙ is) in
    subst P same (IsKept-read (view c.in-Some.value) c.in_ok-refusal.field-0 c.in_ok-make_manifest.field-0 c.in_ok-refusal.ensures c.in_default-2.not-Some c.in_ok-make_manifest.ensures.made c.in_ok-make_manifest.ensures.kept)
