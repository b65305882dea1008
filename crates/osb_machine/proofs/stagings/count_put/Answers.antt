use Rattle.std.proofs.Common.{List, ◌-◌, subst, sym, ap, ◌∙◌, arith}
use Rattle.std.proofs.lemmas.Option.{same_Some}
use Rattle.osb_cache.specs.Edits.{IsFirst}
use Rattle.osb_cache.proofs.Firsts.{updated_at}
use Rattle.osb_cache.proofs.Lookups.{found_read}
use Rattle.osb_machine.specs.Owed.{is_staging, one_put}
use Rattle.osb_machine.specs.declared.stagings.Staging.{Staging}
use Rattle.osb_machine.proofs.stagings.count_put.Goals as goal

pub overflow_sub-staging : goal.overflow_sub-staging
overflow_sub-staging c =
    let first = subst (λ (xs : List Staging). IsFirst (is_staging c.args.worker.0 c.args.key.0) xs c.place_of-place.result) c.deref.ensures.value c.place_of-place.ensures in
    let left = c.requires.left c.index-staging.result.now (found_read (is_staging c.args.worker.0 c.args.key.0) c.args.stagings.now.items c.place_of-place.result c.index-staging.result.now first c.index-staging.ensures) in
    omega arith

pub overflow_sub-result : goal.overflow_sub-result
overflow_sub-result c =
    let first = subst (λ (xs : List Staging). IsFirst (is_staging c.args.worker.0 c.args.key.0) xs c.place_of-place.result) c.deref.ensures.value c.place_of-place.ensures in
    let left = c.requires.left c.index-staging.result.now (found_read (is_staging c.args.worker.0 c.args.key.0) c.args.stagings.now.items c.place_of-place.result c.index-staging.result.now first c.index-staging.ensures) in
    omega arith

pub returns-clause-put : goal.returns-clause-put
returns-clause-put c =
    let first = subst (λ (xs : List Staging). IsFirst (is_staging c.args.worker.0 c.args.key.0) xs c.place_of-place.result) c.deref.ensures.value c.place_of-place.ensures in
    let found = found_read (is_staging c.args.worker.0 c.args.key.0) c.args.stagings.now.items c.place_of-place.result c.index-staging.result.now first c.index-staging.ensures in
    λ staging e. ap (λ (s : Staging). s.count - s.left) (same_Some _ _ (sym found ∙ e))

pub returns-clause-items : goal.returns-clause-items
returns-clause-items c =
    let first = subst (λ (xs : List Staging). IsFirst (is_staging c.args.worker.0 c.args.key.0) xs c.place_of-place.result) c.deref.ensures.value c.place_of-place.ensures in
    updated_at (is_staging c.args.worker.0 c.args.key.0) one_put c.args.stagings.now.items c.place_of-place.result _ c.index-staging.result.now first (ap one_put c.index-staging.ensures)
