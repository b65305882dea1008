use Rattle.std.proofs.Common.{length, Some, refl, sym, ap, ◌∙◌}
use Rattle.std.proofs.lemmas.Option.{slice_get_read}
use Rattle.osb_recipe.proofs.Exact.{exact_bytes}
use Rattle.osb_recipe.proofs.tables.place_of_blob.Goals as goal

pub returns-then-eq-clause-equal : goal.returns-then-eq-clause-equal
returns-then-eq-clause-equal c = λ within.
    slice_get_read c.args.blobs.now (length c.args.blobs.now) c.loop-place.place c.index-blobs-place.result refl within c.index-blobs-place.is
    ∙ ap Some (sym (exact_bytes c.args.bytes.now c.index-blobs-place.result (rw (← c.as_slice.ensures.content) (sym c.eq.ensures ∙ c.if-eq.true))))
