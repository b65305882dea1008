use Rattle.std.proofs.Common.{rules}
use Rattle.std.proofs.lemmas.List.Sorted.{IsNonDecreasingBy-from_sort_by_key}
use Rattle.osb_evict.specs.declared.lines.Line.{Line}
use Rattle.osb_evict.specs.Victims.{IsQueue}
use Rattle.osb_evict.proofs.Queues.{IsQueue-sorted, sizes-queue}
use Rattle.osb_evict.proofs.choices.queue.Goals as goal

sorted : (c : goal.In_ok-sort_by_key) → IsQueue c.args.lines.now c.sort_by_key.new.self.items
sorted c =
    IsQueue-sorted c.args.lines.now c.sort_by_key.new.self.items c.requires
    (rw (← c.in_ok-queue.ensures) c.in_ok-sort_by_key.ensures.permutation)
    (IsNonDecreasingBy-from_sort_by_key (λ (line : Line). line.used) _ c.in_ok-sort_by_key.ensures.sorted (λ a r q k. search rules))

pub returns-clause-queue : goal.returns-clause-queue
returns-clause-queue c = sorted c

pub returns-clause-sizes : goal.returns-clause-sizes
returns-clause-sizes c = sizes-queue c.args.lines.now c.sort_by_key.new.self.items (sorted c)
