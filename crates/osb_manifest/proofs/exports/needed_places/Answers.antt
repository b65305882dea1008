use Rattle.std.proofs.Common.{◌≡◌, ◌+◌, ◌-◌, ◌<◌, true, false, [], ◌∷◌, length, reverse, sym, ap, ◌∙◌, arith}
use Rattle.std.proofs.lemmas.List.{reverse-append}
use Rattle.osb_manifest.specs.Needed.{is_needed_by, places_of}
use Rattle.osb_manifest.proofs.Needs.{later, decided, flagged_turn, whole_again}
use Rattle.osb_manifest.proofs.exports.needed_places.Goals as goal

pub loop-place-preserved-then-is_needed : goal.loop-place-preserved-then-is_needed
loop-place-preserved-then-is_needed c =
    let l = c.loop-place in
    let next : l.place - 1 + 1 ≡ l.place = omega arith in
    let within : l.place - 1 < length l.flags.items = omega (arith, l.invariant.each) in
    let d = decided c.args.exports.now c.args.pipelines.now (l.place - 1) l.place c.name.result.now true l.flags.items c.deref.result.now next within c.name.ensures.name c.deref.ensures.value (sym c.if-is_needed.true ∙ c.is_needed.ensures) l.invariant.flagged in
    let size : l.flags.len ≡ length l.flags.items = omega (arith, l.flags.ok.0) in
    let same : length c.flag_needs.new.flags ≡ length c.deref_mut.result.now = c.flag_needs.auto.flags in
    record {
      flagged = flagged_turn l.flags.items c.deref_mut.result.now c.flag_needs.new.flags l.flags.len (l.place - 1) d.0 c.pipeline.result.now (later c.args.exports.now c.args.pipelines.now l.place) (later c.args.exports.now c.args.pipelines.now (l.place - 1))
          c.deref_mut.ensures.value same size c.flag_needs.ensures l.invariant.flagged (sym c.pipeline.ensures.pipeline ∙ d.1) d.2;
      found = ap reverse c.in_ok-push.ensures.items ∙ reverse-append l.places.items ((l.place - 1) ∷ []) ∙ ap (λ ps. (l.place - 1) ∷ ps) l.invariant.found ∙ ap places_of (sym d.2);
      each = ap length (whole_again l.flags.items c.flag_needs.new.flags l.flags.len (same ∙ ap length c.deref_mut.ensures.value) size) ∙ same ∙ ap length c.deref_mut.ensures.value ∙ l.invariant.each;
    }

pub loop-place-preserved : goal.loop-place-preserved
loop-place-preserved c =
    let l = c.loop-place in
    let next : l.place - 1 + 1 ≡ l.place = omega arith in
    let within : l.place - 1 < length l.flags.items = omega (arith, l.invariant.each) in
    let d = decided c.args.exports.now c.args.pipelines.now (l.place - 1) l.place c.name.result.now false l.flags.items c.deref.result.now next within c.name.ensures.name c.deref.ensures.value (sym c.if-is_needed.false ∙ c.is_needed.ensures) l.invariant.flagged in
    record {
      flagged = λ k h. l.invariant.flagged k h ∙ ap (λ ps. is_needed_by ps k) (sym d.2);
      found = l.invariant.found ∙ ap places_of (sym d.2);
      each = l.invariant.each;
    }
