use Rattle.osb_accounts.proofs.Parts.{write-first, write-more}
use Rattle.osb_accounts.proofs.lines.write_fields.Goals as goal
use Rattle.osb_accounts.proofs.lines.write_fields.Goals.{then-place-gt0+in_ok-push, else-place-gt0}

pub loop-place-preserved : goal.loop-place-preserved
loop-place-preserved c =
    elim c.if-place-gt0.branch [
      | then-place-gt0+in_ok-push w ↦
          rw (c.in_ok-extend_from_slice.ensures.items, w.out-is, w.in_ok-push.ensures.items, c.as_slice.ensures.content)
          (write-more _ _ _ _ _ w.if-place-gt0.true c.loop-place-test.true c.index-fields-place.is c.loop-place.invariant)
      | else-place-gt0 w ↦
          rw (c.in_ok-extend_from_slice.ensures.items, w.out-is, c.as_slice.ensures.content)
          (write-first _ _ _ _ _ w.if-place-gt0.false c.loop-place-test.true c.index-fields-place.is c.loop-place.invariant)
    ]
