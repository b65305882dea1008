use Rattle.std.proofs.Common.{◌≡◌, ℕ, ◌<◌, ◌≤◌, [], ◌∷◌, ◌++◌, length, filter, sym, ap, subst, ◌∙◌, arith}
use Rattle.std.specs.List.{list_any}
use Rattle.std.proofs.lemmas.Bool.{or_from}
use Rattle.osb_cache.specs.declared.answers.Reserve.TheVariants.{Room}
use Rattle.osb_cache.specs.Caches.{CacheState, Draft, is_committed, drafts_key, sizes, pinned_sizes, held, stays, reserve_reply, after_reserve}
use Rattle.osb_cache.specs.Parts.{state_of}
use Rattle.osb_cache.proofs.Kept.{kept_reserve}
use Rattle.osb_cache.proofs.Lookups.{some_not, some_says}
use Rattle.osb_cache.proofs.Replies.{filter_small, left_now, reply_now, after_now}
use Rattle.osb_cache.proofs.caches.Cache.reserve.Goals as goal

fits_by : (limit sum : ℕ) → (limit < sum → ⊥) → sum ≤ limit
fits_by limit sum h = omega (arith, h)

pub leaving-requires-clause-apart : goal.leaving-requires-clause-apart
leaving-requires-clause-apart g c =
    λ key. rw c.deref-3.ensures.value (omega (arith, c.self.invariant.sound.apart key))

pub total_size-requires : goal.total_size-requires
total_size-requires g c =
    let small = filter_small (stays c.as_slice.result.now) c.self.inside.slots.items c.remove_keys.new.slots.items (c.remove_keys.ensures.items ∙ ap (filter (stays c.as_slice.result.now)) c.in_ok-add_stage.ensures.slots) in
    omega (arith, small, ap sizes c.deref-4.ensures.value, c.self.invariant.sound.within, c.self.invariant.sound.limited)

pub overflow_add-self : goal.overflow_add-self
overflow_add-self g c =
    let small = filter_small (stays c.as_slice.result.now) c.self.inside.slots.items c.remove_keys.new.slots.items (c.remove_keys.ensures.items ∙ ap (filter (stays c.as_slice.result.now)) c.in_ok-add_stage.ensures.slots) in
    let reserved = c.held_size-held.ensures ∙ ap held c.deref-2.ensures.value in
    omega (arith, small, reserved, c.total_size.ensures, ap sizes c.deref-4.ensures.value, c.self.invariant.sound.within, c.self.invariant.sound.limited)

pub overflow_add-self-2 : goal.overflow_add-self-2
overflow_add-self-2 g c =
    let small = filter_small (stays c.as_slice.result.now) c.self.inside.slots.items c.remove_keys.new.slots.items (c.remove_keys.ensures.items ∙ ap (filter (stays c.as_slice.result.now)) c.in_ok-add_stage.ensures.slots) in
    let reserved = c.held_size-held.ensures ∙ ap held c.deref-2.ensures.value in
    omega (arith, small, reserved, c.total_size.ensures, ap sizes c.deref-4.ensures.value, c.self.invariant.sound.within, c.self.invariant.sound.limited, c.if-size-self.false)

pub invariant_of-self-2 : goal.invariant_of-self-2
invariant_of-self-2 g c =
    let free = or_from (is_committed c.args.key.0 c.self.inside.slots.items) (list_any (drafts_key c.args.key.0) c.self.inside.stages.items) (ap (is_committed c.args.key.0) (sym c.deref.ensures.value) ∙ sym c.is_committed.ensures ∙ c.if-is_committed.false) (ap (list_any (drafts_key c.args.key.0)) (sym c.deref-else-is_committed.ensures.value) ∙ sym c.is_staged.ensures ∙ c.if-is_staged.false) in
    let reserved = c.held_size-held.ensures ∙ ap held c.deref-2.ensures.value in
    let now = left_now c.self.inside.slots.items c.deref-3.result.now c.remove_keys.new.slots.items c.in-Some.keys c.as_slice.result.now (held c.self.inside.stages.items) c.held_size-held.result c.args.size c.self.inside.limit (length c.in-Some.keys) c.deref-3.ensures.value c.as_slice.ensures.items reserved (some_says c.in_ok-keys.field-0 c.in-Some.keys _ c.in-Some.is c.in_ok-keys.ensures.left) (c.remove_keys.ensures.items ∙ ap (filter (stays c.as_slice.result.now)) c.in_ok-add_stage.ensures.slots) in
    let fits = fits_by (c.self.inside.limit) _ (some_not c.in_ok-keys.field-0 c.in-Some.keys _ c.in-Some.is c.in_ok-keys.ensures.full) in
    let more = c.in_ok-add_stage.ensures.ok ∙ ap (λ (draft : Draft g.row.C.Denot). c.self.inside.stages.items ++ draft ∷ []) c.in_ok-stage.ensures in
    kept_reserve g.C.Weighed.weight_of c.self.inside.limit c.self.inside.clock c.self.inside.slots.items c.remove_keys.new.slots.items c.self.inside.stages.items c.add_stage.new.stages.items c.self.inside.counted _ _ c.args.worker.0 c.args.key.0 c.args.size c.args.chunks c.self.invariant.sound free c.if-size-self.false
    (omega (arith, fits, reserved, ap pinned_sizes c.deref-3.ensures.value)) now.0 more
    (omega (arith, reserved, c.total_size.ensures, ap sizes c.deref-4.ensures.value))
    (omega (arith, c.in_ok-add_stage.ensures.room, c.remove_keys.ensures.capacity, c.add_stage.new.slots.ok.0, c.add_stage.new.stages.ok.0, ap length c.in_ok-add_stage.ensures.slots))

pub returns-clause-reply : goal.returns-clause-reply
returns-clause-reply g c =
    let free = or_from (is_committed c.args.key.0 c.self.inside.slots.items) (list_any (drafts_key c.args.key.0) c.self.inside.stages.items) (ap (is_committed c.args.key.0) (sym c.deref.ensures.value) ∙ sym c.is_committed.ensures ∙ c.if-is_committed.false) (ap (list_any (drafts_key c.args.key.0)) (sym c.deref-else-is_committed.ensures.value) ∙ sym c.is_staged.ensures ∙ c.if-is_staged.false) in
    let reserved = c.held_size-held.ensures ∙ ap held c.deref-2.ensures.value in
    let now = left_now c.self.inside.slots.items c.deref-3.result.now c.remove_keys.new.slots.items c.in-Some.keys c.as_slice.result.now (held c.self.inside.stages.items) c.held_size-held.result c.args.size c.self.inside.limit (length c.in-Some.keys) c.deref-3.ensures.value c.as_slice.ensures.items reserved (some_says c.in_ok-keys.field-0 c.in-Some.keys _ c.in-Some.is c.in_ok-keys.ensures.left) (c.remove_keys.ensures.items ∙ ap (filter (stays c.as_slice.result.now)) c.in_ok-add_stage.ensures.slots) in
    let fits = fits_by (c.self.inside.limit) _ (some_not c.in_ok-keys.field-0 c.in-Some.keys _ c.in-Some.is c.in_ok-keys.ensures.full) in
    let number = ap length c.as_slice-evicted.ensures.items in
    subst (λ (s : CacheState g.row.C.Denot). Room (length c.as_slice-evicted.result.now) ≡ reserve_reply s c.args.key.0 c.args.size) c.self.view_is
    (reply_now (state_of c.self.inside.limit c.self.inside.clock c.self.inside.slots.items c.self.inside.stages.items) c.args.key.0 c.args.size (length c.as_slice-evicted.result.now) free c.if-size-self.false
    (omega (arith, fits, reserved, ap pinned_sizes c.deref-3.ensures.value)) (omega (arith, now.1, number)))

pub returns-clause-after : goal.returns-clause-after
returns-clause-after g c =
    let free = or_from (is_committed c.args.key.0 c.self.inside.slots.items) (list_any (drafts_key c.args.key.0) c.self.inside.stages.items) (ap (is_committed c.args.key.0) (sym c.deref.ensures.value) ∙ sym c.is_committed.ensures ∙ c.if-is_committed.false) (ap (list_any (drafts_key c.args.key.0)) (sym c.deref-else-is_committed.ensures.value) ∙ sym c.is_staged.ensures ∙ c.if-is_staged.false) in
    let reserved = c.held_size-held.ensures ∙ ap held c.deref-2.ensures.value in
    let now = left_now c.self.inside.slots.items c.deref-3.result.now c.remove_keys.new.slots.items c.in-Some.keys c.as_slice.result.now (held c.self.inside.stages.items) c.held_size-held.result c.args.size c.self.inside.limit (length c.in-Some.keys) c.deref-3.ensures.value c.as_slice.ensures.items reserved (some_says c.in_ok-keys.field-0 c.in-Some.keys _ c.in-Some.is c.in_ok-keys.ensures.left) (c.remove_keys.ensures.items ∙ ap (filter (stays c.as_slice.result.now)) c.in_ok-add_stage.ensures.slots) in
    let fits = fits_by (c.self.inside.limit) _ (some_not c.in_ok-keys.field-0 c.in-Some.keys _ c.in-Some.is c.in_ok-keys.ensures.full) in
    let more = c.in_ok-add_stage.ensures.ok ∙ ap (λ (draft : Draft g.row.C.Denot). c.self.inside.stages.items ++ draft ∷ []) c.in_ok-stage.ensures in
    subst (λ (s : CacheState g.row.C.Denot). state_of c.self.inside.limit c.self.inside.clock c.remove_keys.new.slots.items c.add_stage.new.stages.items ≡ after_reserve s c.args.worker.0 c.args.key.0 c.args.size c.args.chunks (reserve_reply s c.args.key.0 c.args.size)) c.self.view_is
    (after_now c.self.inside.limit c.self.inside.clock c.self.inside.slots.items c.remove_keys.new.slots.items c.self.inside.stages.items c.add_stage.new.stages.items c.args.worker.0 c.args.key.0 c.args.size c.args.chunks free c.if-size-self.false
    (omega (arith, fits, reserved, ap pinned_sizes c.deref-3.ensures.value)) now.0 more)
