use Rattle.std.proofs.Common.{length, ap, ◌∙◌, arith}
use Rattle.osb_cache.specs.Caches.{sizes, pinned_sizes, stays}
use Rattle.osb_cache.proofs.Lookups.{none_says, some_says}
use Rattle.osb_cache.proofs.Replies.{filter_small, opened_now, opened_state}
use Rattle.osb_cache.proofs.Kept.{small-opening_lines, apart_opening, none_pinned, kept_open}
use Rattle.osb_cache.proofs.Rises.{rises-opening}
use Rattle.osb_cache.proofs.caches.Cache.open.Goals as goal

pub leaving-requires-clause-small : goal.leaving-requires-clause-small
leaving-requires-clause-small g c =
    omega (arith, ap sizes (c.deref.ensures.value ∙ c.in_ok-slots.ensures), small-opening_lines g.C.Weighed.weight_of c.args.limit c.args.entries.items c.requires.can_open)

pub leaving-requires-clause-rising : goal.leaving-requires-clause-rising
leaving-requires-clause-rising g c =
    (length c.args.entries.items, rw (c.deref.ensures.value ∙ c.in_ok-slots.ensures) (rises-opening g.C.Weighed.weight_of c.args.entries.items))

pub leaving-requires-clause-apart : goal.leaving-requires-clause-apart
leaving-requires-clause-apart g c =
    λ key. rw (c.deref.ensures.value ∙ c.in_ok-slots.ensures) (apart_opening g.C.Weighed.weight_of c.args.limit c.args.entries.items c.requires.can_open key)

pub unreachable-requires : goal.unreachable-requires
unreachable-requires g c =
    let full = none_says c.in_ok-keys.field-0 _ c.in_default.is c.in_ok-keys.ensures.full in
    omega (arith, full, ap pinned_sizes (c.deref.ensures.value ∙ c.in_ok-slots.ensures), none_pinned g.C.Weighed.weight_of 1 c.args.entries.items)

pub total_size-counted-requires : goal.total_size-counted-requires
total_size-counted-requires g c =
    let small = filter_small (stays c.as_slice.result.now) c.in_ok-slots.slots.items c.remove_keys.new.slots.items c.remove_keys.ensures.items in
    omega (arith, small, ap sizes c.deref-2.ensures.value, ap sizes c.in_ok-slots.ensures, small-opening_lines g.C.Weighed.weight_of c.args.limit c.args.entries.items c.requires.can_open)

pub invariant_of-result : goal.invariant_of-result
invariant_of-result g c =
    let now = opened_now g.C.Weighed.weight_of c.args.limit c.args.entries.items c.in_ok-slots.slots.items c.deref.result.now c.remove_keys.new.slots.items c.in-Some.keys c.as_slice.result.now (length c.in-Some.keys) c.in_ok-slots.ensures c.deref.ensures.value c.as_slice.ensures.items (some_says c.in_ok-keys.field-0 c.in-Some.keys _ c.in-Some.is c.in_ok-keys.ensures.left) c.remove_keys.ensures.items in
    kept_open g.C.Weighed.weight_of c.args.limit c.len-clock.result c.args.entries.items c.remove_keys.new.slots.items c.new.result.items c.total_size-counted.result _ c.requires.can_open (c.len-clock.ensures ∙ c.args.entries.ok.0) now c.new.ensures.items (c.total_size-counted.ensures ∙ ap sizes c.deref-2.ensures.value) (omega (arith, c.remove_keys.new.slots.ok.0, c.remove_keys.new.slots.ok.1))

pub returns : goal.returns
returns g c =
    let now = opened_now g.C.Weighed.weight_of c.args.limit c.args.entries.items c.in_ok-slots.slots.items c.deref.result.now c.remove_keys.new.slots.items c.in-Some.keys c.as_slice.result.now (length c.in-Some.keys) c.in_ok-slots.ensures c.deref.ensures.value c.as_slice.ensures.items (some_says c.in_ok-keys.field-0 c.in-Some.keys _ c.in-Some.is c.in_ok-keys.ensures.left) c.remove_keys.ensures.items in
    record { opened = opened_state g.C.Weighed.weight_of c.args.limit c.len-clock.result c.args.entries.items c.remove_keys.new.slots.items c.new.result.items (c.len-clock.ensures ∙ c.args.entries.ok.0) now c.new.ensures.items }
