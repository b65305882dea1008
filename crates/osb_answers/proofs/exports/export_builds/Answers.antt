use Rattle.std.proofs.Common.{◌≡◌, ◌+◌, length, arith, refl, length-append}
use Rattle.osb_answers.proofs.ManyExports.{none_exported, no_answer_yet, none_answered, next_answer, answered_on}
use Rattle.osb_answers.proofs.exports.export_builds.Goals as goal
use Rattle.osb_answers.proofs.exports.export_builds.Goals.{in-Ok, in-Err}

pub loop-build-init : goal.loop-build-init
loop-build-init g c = record {
  exported = no_answer_yet _ _ c.in_ok-answers.ensures.items refl (omega arith);
  answers = none_answered _ c.in_ok-answers.ensures.items;
  room = omega (arith, c.in_ok-answers.ensures.capacity, c.len.ensures);
  count = c.in_ok-answers.ensures.len;
}

pub loop-build-preserved : goal.loop-build-preserved
loop-build-preserved g c =
    let place : c.len-place.result + 1 ≡ 1 + length c.loop-build.answers.items = omega (arith, c.len-place.ensures, c.loop-build.answers.ok.0) in
    record {
      exported = elim c.match-build.branch [
        | in-Ok w ↦
            next_answer _ _ _ _ _ _ _ _ _ _ c.in-Ok-push.ensures.items place c.loop-build.invariant.exported (rw (w.exporter-is, w.answer-is) w.export_build-answer.ensures.exported)
        | in-Err w ↦
            next_answer _ _ _ _ _ _ _ _ _ _ c.in-Ok-push.ensures.items place c.loop-build.invariant.exported (rw (w.exporter-is, w.answer-is) (none_exported _ refl (omega arith)))
      ];
      answers = elim c.match-build.branch [
        | in-Ok w ↦ answered_on _ _ _ _ _ c.in-Ok-push.ensures.items c.loop-build.invariant.answers (rw (w.in-Ok.is, w.answer-is) w.export_build-answer.ensures.answer)
        | in-Err w ↦ answered_on _ _ _ _ _ c.in-Ok-push.ensures.items c.loop-build.invariant.answers (rw w.in-Err.is w.answer-is)
      ];
      room = omega (arith, c.in-Ok-push.ensures.capacity, c.loop-build.invariant.room);
      count = simp length-append (omega (arith, c.in-Ok-push.ensures.len, c.loop-build.invariant.count));
    }
