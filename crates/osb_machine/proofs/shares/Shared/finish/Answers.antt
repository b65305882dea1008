use Rattle.std.proofs.Common.{ℕ, ◌<◌, ◌≤◌, List, All, sum_by, sym, subst, ◌∙◌}
use Rattle.std.proofs.lemmas.List.Elements.{All-map, All-weaker}
use Rattle.osb_tree.specs.Trees.{Listing, tree_size}
use Rattle.osb_tree.specs.Chunks.{AreOfATree}
use Rattle.osb_cache.specs.declared.answers.Stored.{Stored}
use Rattle.osb_cache.specs.Caches.{Line, stored_of, CanOpen}
use Rattle.osb_state.specs.States.{State}
use Rattle.osb_state.specs.Kept.{IsEntry}
use Rattle.osb_machine.proofs.KeptEntries.{weights_within}
use Rattle.osb_machine.proofs.shares.Shared.finish.Goals as goal

pub returns-clause-known : goal.returns-clause-known
returns-clause-known c =
    let P : ℕ → Stored Listing → Type 0 = λ keys stored. stored.key.0 < keys in
    let own : Line Listing → Type 0 = λ line. line.key < c.self.inside.keys in
    let lines : All own c.self.inside.cache.lines = All-weaker (IsEntry c.self.inside.keys) own (λ line e. e.known) c.self.inside.cache.lines c.self.invariant.valid.entries in
    subst (λ (state : State). All (P state.keys) c.new-2.result) c.self.view_is
    (subst (All (P c.self.inside.keys)) (sym (c.new-2.ensures.items ∙ c.in_ok-into_entries.ensures.entries)) (All-map (P c.self.inside.keys) stored_of c.self.inside.cache.lines lines))

pub returns-clause-trees : goal.returns-clause-trees
returns-clause-trees c =
    let P : Stored Listing → Type 0 = λ stored. AreOfATree stored.chunks in
    let own : Line Listing → Type 0 = λ line. AreOfATree line.chunks in
    let lines : All own c.self.inside.cache.lines = All-weaker (IsEntry c.self.inside.keys) own (λ line e. e.tree) c.self.inside.cache.lines c.self.invariant.valid.entries in
    subst (All P) (sym (c.new-2.ensures.items ∙ c.in_ok-into_entries.ensures.entries)) (All-map P stored_of c.self.inside.cache.lines lines)

pub returns-clause-can_open : goal.returns-clause-can_open
returns-clause-can_open c limit small =
    subst (CanOpen tree_size limit) (sym c.new-2.ensures.items) (c.in_ok-into_entries.ensures.can_open limit small)

pub returns-clause-within : goal.returns-clause-within
returns-clause-within c =
    let weighs : List (Stored Listing) → ℕ = λ entries. sum_by (λ (stored : Stored Listing). sum_by tree_size stored.chunks) entries in
    subst (λ (state : State). weighs c.new-2.result ≤ state.cache.limit) c.self.view_is
    (subst (λ (entries : List (Stored Listing)). weighs entries ≤ c.self.inside.cache.limit) (sym (c.new-2.ensures.items ∙ c.in_ok-into_entries.ensures.entries)) (weights_within c.self.inside.cache c.self.invariant.valid.sound))
