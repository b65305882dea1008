use Rattle.std.proofs.Common.{List, subst, ◌∙◌}
use Rattle.osb_cache.specs.Edits.{IsFirst}
use Rattle.osb_cache.proofs.Firsts.{removed_at}
use Rattle.osb_cache.proofs.Lookups.{found_read}
use Rattle.osb_machine.specs.Owed.{is_staging}
use Rattle.osb_machine.specs.declared.stagings.Staging.{Staging}
use Rattle.osb_machine.proofs.stagings.take_staging.Goals as goal

pub returns-clause-taken : goal.returns-clause-taken
returns-clause-taken c =
    let first = subst (λ (xs : List Staging). IsFirst (is_staging c.args.worker.0 c.args.key.0) xs c.place_of-place.result) c.deref.ensures.value c.place_of-place.ensures in
    found_read (is_staging c.args.worker.0 c.args.key.0) c.args.stagings.now.items c.place_of-place.result c.remove.result first c.remove.ensures.value

pub returns-clause-items : goal.returns-clause-items
returns-clause-items c =
    let first = subst (λ (xs : List Staging). IsFirst (is_staging c.args.worker.0 c.args.key.0) xs c.place_of-place.result) c.deref.ensures.value c.place_of-place.ensures in
    c.remove.ensures.items ∙ removed_at (is_staging c.args.worker.0 c.args.key.0) c.args.stagings.now.items c.place_of-place.result first
