use Rattle.std.proofs.Common.{◌<◌, List, length, subst}
use Rattle.osb_cache.specs.Edits.{IsFirst}
use Rattle.osb_cache.specs.Caches.{Draft, is_draft, with_chunk}
use Rattle.osb_cache.proofs.Firsts.{updated_at}
use Rattle.osb_cache.proofs.Lookups.{some_any, some_read}
use Rattle.osb_cache.proofs.stages.put_chunk.Goals as goal

pub stage_place-place-requires : goal.stage_place-place-requires
stage_place-place-requires g c =
    rw c.deref.ensures.value (some_any (is_draft c.args.ticket.worker.0 c.args.ticket.key.0) (λ draft. length draft.chunks < draft.count) c.args.stages.now.items c.requires)

pub put-requires : goal.put-requires
put-requires g c =
    let first = subst (λ (xs : List (Draft g.row.C.Denot)). IsFirst (is_draft c.args.ticket.worker.0 c.args.ticket.key.0) xs c.stage_place-place.result) c.deref.ensures.value c.stage_place-place.ensures in
    some_read (is_draft c.args.ticket.worker.0 c.args.ticket.key.0) (λ (draft : Draft g.row.C.Denot). length draft.chunks < draft.count) c.args.stages.now.items c.stage_place-place.result c.index_mut-stage.result.now c.requires first c.index_mut-stage.ensures.value

pub returns : goal.returns
returns g c =
    let first = subst (λ (xs : List (Draft g.row.C.Denot)). IsFirst (is_draft c.args.ticket.worker.0 c.args.ticket.key.0) xs c.stage_place-place.result) c.deref.ensures.value c.stage_place-place.ensures in
    updated_at (is_draft c.args.ticket.worker.0 c.args.ticket.key.0) (with_chunk c.args.chunk) c.args.stages.now.items c.stage_place-place.result c.put.new.self c.index_mut-stage.result.now first (rw (← c.index_mut-stage.ensures.value) c.put.ensures)
