use Rattle.std.proofs.Common.{sym, ap, ◌∙◌, subst}
use Rattle.osb_recipe.specs.Tables.{TableData}
use Rattle.osb_plan.specs.Planning.{with_blobs}
use Rattle.osb_plan.specs.Held.{HasBlobs}
use Rattle.osb_plan.proofs.Steps.{has_blobs}
use Rattle.osb_plan.proofs.chains.build_chains.Goals as goal

pub chains_of-requires-clause-held : goal.chains_of-requires-clause-held
chains_of-requires-clause-held c =
    let Held : TableData → Type 0 = λ table. HasBlobs table.blobs c.args.build.now.blobs in
    subst Held (sym (c.in_ok-intern_blobs.ensures.table ∙ ap (with_blobs c.args.table.now) c.as_slice.ensures.items)) (has_blobs c.args.table.now.blobs c.args.build.now.blobs)
