use Rattle.std.proofs.Common.{◌<◌, List, [], length, sym, subst}
use Rattle.std.specs.List.{All}
use Rattle.osb_tree.specs.Trees.{Listing, tree_size}
use Rattle.osb_tree.specs.Chunks.{AreOfATree}
use Rattle.osb_cache.specs.Caches.{CanOpen}
use Rattle.osb_cache.specs.declared.answers.Stored.{Stored}
use Rattle.osb_builder.proofs.StoreEntries.{can_open, are_trees}
use Rattle.osb_builder.proofs.TrueStores.{known_later}
use Rattle.osb_builder.proofs.MachineRuns.{extends_store, is_opening, ends_meant, machine_run, opened_with}
use Rattle.osb_builder.proofs.runs.build_serial.Goals as goal

pub open-requires-clause-can_open : goal.open-requires-clause-can_open
open-requires-clause-can_open g c =
    subst (λ (entries : List (Stored Listing)). CanOpen tree_size c.args.limit entries) (sym c.into_vec-entries.ensures.items) (can_open c.args.store c.args.limit c.requires.store c.requires.limit)

pub open-requires-clause-known : goal.open-requires-clause-known
open-requires-clause-known g c =
    let extends = extends_store c.args.store c.in_ok-plan.plan c.args.builds.now c.recipes-recipes.ensures.table c.requires.ready c.in_ok-plan.ensures.planned in
    subst (λ (entries : List (Stored Listing)). All (λ (stored : Stored Listing). stored.key.0 < length c.in_ok-plan.plan.table.recipes) entries) (sym c.into_vec-entries.ensures.items)
    (known_later c.args.store c.in_ok-plan.plan c.recipes-recipes.ensures.table extends c.requires.store)

pub open-requires-clause-trees : goal.open-requires-clause-trees
open-requires-clause-trees g c =
    subst (λ (entries : List (Stored Listing)). All (λ (stored : Stored Listing). AreOfATree stored.chunks) entries) (sym c.into_vec-entries.ensures.items)
    (are_trees (length c.args.store.table.recipes) [] c.args.store.entries c.requires.store.entries)

pub serial-requires-clause-opened : goal.serial-requires-clause-opened
serial-requires-clause-opened g c =
    let store = c.args.store in
    let plan = c.in_ok-plan.plan in
    let table = c.recipes-recipes.ensures.table in
    let extends = extends_store store plan c.args.builds.now table c.requires.ready c.in_ok-plan.ensures.planned in
    let opened = opened_with store plan c.args.limit c.into_vec-entries.result.items c.in_ok-shared.shared c.into_vec-entries.ensures.items c.in_ok-shared.ensures.opened in
    (store.entries, c.args.limit, is_opening store plan c.args.limit table extends c.requires.store c.requires.limit c.in_ok-shared.shared opened)

pub returns-clause-meant : goal.returns-clause-meant
returns-clause-meant g c =
    let store = c.args.store in
    let plan = c.in_ok-plan.plan in
    let table = c.recipes-recipes.ensures.table in
    let extends = extends_store store plan c.args.builds.now table c.requires.ready c.in_ok-plan.ensures.planned in
    let opened = opened_with store plan c.args.limit c.into_vec-entries.result.items c.in_ok-shared.shared c.into_vec-entries.ensures.items c.in_ok-shared.ensures.opened in
    ends_meant store plan c.args.limit table extends c.requires.store c.requires.limit c.in_ok-shared.shared opened c.in_ok-finished.finished c.in_ok-finished.ensures.meant

pub returns-clause-run : goal.returns-clause-run
returns-clause-run g c =
    let store = c.args.store in
    let plan = c.in_ok-plan.plan in
    let table = c.recipes-recipes.ensures.table in
    let extends = extends_store store plan c.args.builds.now table c.requires.ready c.in_ok-plan.ensures.planned in
    let opened = opened_with store plan c.args.limit c.into_vec-entries.result.items c.in_ok-shared.shared c.into_vec-entries.ensures.items c.in_ok-shared.ensures.opened in
    let left = c.in_ok-finished.ensures in
    machine_run store plan c.args.limit table extends c.requires.store c.requires.limit c.in_ok-shared.shared opened c.in_ok-finished.finished c.args.steps.now c.serial.new.steps left.finished left.kept left.true_entries left.filled left.steps
