use Rattle.std.proofs.Common.{[], ◌∷◌, ◌++◌, ap, ◌∙◌}
use Rattle.osb_store.specs.Places.{same_text}
use Rattle.osb_store.proofs.Seen.{held_more, same_order}
use Rattle.osb_store.proofs.held.Blobs.with.Goals as goal

pub invariant_of-self : goal.invariant_of-self
invariant_of-self c = (
  c.add_blob.ensures.recipes ∙ c.self.invariant.0,
  λ text.
      held_more (same_text text) c.self.inside.table.blobs c.add_blob.new.self.blobs c.args.blob.now _ _ _ (c.self.invariant.1 text)
      (c.in_ok-insert.ensures.updates.0 (record { ref_ptr = c.args.blob.ref_ptr; now = text })) (same_order c.args.blob.now text)
      (c.in_ok-add_blob.ensures.blobs ∙ ap (λ b. c.self.inside.table.blobs ++ b ∷ []) (c.new-bytes.ensures.content ∙ c.in_ok-from_slice.ensures.items)),
)
