use Rattle.std.proofs.Common.{◌++◌, [], ◌∷◌, length, map, ap, arith, refl, length-append}
use Rattle.std.proofs.lemmas.List.{map-append}
use Rattle.osb_answers.proofs.ManyExports.{no_export_yet, next_exported}
use Rattle.osb_answers.proofs.exports.export_all.Goals as goal

pub loop-export-init : goal.loop-export-init
loop-export-init g c = record {
  exported = no_export_yet _ c.args.place _ c.in_ok-exported.ensures.items refl (omega arith);
  answer = ap (map _) c.in_ok-exported.ensures.items;
  room = omega (arith, c.in_ok-exported.ensures.capacity, c.len.ensures, c.into_vec-exports.result.ok.0, ap length c.into_vec-exports.ensures.items);
  count = c.in_ok-exported.ensures.len;
}

pub loop-export-preserved : goal.loop-export-preserved
loop-export-preserved g c = record {
  exported = next_exported _ _ _ _ _ _ c.args.place _ _ _ c.in-Ok.ensures.items c.loop-export.invariant.exported c.export_one-answer.ensures;
  answer = rw (c.in-Ok.ensures.items, map-append) (ap (λ list. list ++ c.in-Some.export ∷ []) c.loop-export.invariant.answer);
  room = omega (arith, c.in-Ok.ensures.capacity, c.loop-export.invariant.room);
  count = simp length-append (omega (arith, c.in-Ok.ensures.len, c.loop-export.invariant.count));
}
