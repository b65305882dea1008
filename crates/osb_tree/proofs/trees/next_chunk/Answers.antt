use Rattle.std.proofs.Common.{◌≡◌, ◌≤◌, ◌++◌, ◌⊎◌, inl, inr, [], length, take, drop, ap, sym, ◌∙◌, arith}
use Rattle.osb_tree.proofs.ChunkWalks.{next_chunk, on_ok}
use Rattle.osb_tree.proofs.trees.next_chunk.Goals as goal
use Rattle.osb_tree.proofs.trees.next_chunk.Goals.{After-from_pairs, else-loop-rest-test, then-loop-rest-test+in_default}

taken : (c : After-from_pairs) → (c.loop-rest.pairs.items ≡ take 256 c.args.rest.now) × (c.loop-rest-test.rest ≡ drop 256 c.args.rest.now)
taken c =
    let items = c.loop-rest.pairs.items in
    let stopped : (items ++ c.loop-rest-test.rest ≡ c.args.rest.now) × ((256 ≤ length items) ⊎ (c.loop-rest-test.rest ≡ [])) = elim c.loop-rest-test.branch [
      | else-loop-rest-test w ↦ (ap (λ rest. items ++ rest) w.rest-is ∙ c.loop-rest.invariant.0, inl (omega (arith, w.loop-rest-test.false, c.len.ensures, c.loop-rest.pairs.ok)))
      | then-loop-rest-test+in_default w ↦ (ap (λ rest. items ++ rest) (w.rest-is ∙ w.in_default.ensures.steps.1 ∙ sym w.in_default.ensures.steps.0) ∙ c.loop-rest.invariant.0, inr (w.rest-is ∙ w.in_default.ensures.steps.1))
    ] in
    next_chunk items c.loop-rest-test.rest c.args.rest.now stopped.0 (omega (arith, c.loop-rest.invariant.1, c.loop-rest.pairs.ok)) stopped.1

pub returns-clause-chunk : goal.returns-clause-chunk
returns-clause-chunk c = rw (taken c).0 at c.from_pairs.ensures.pairs

pub returns-clause-rest : goal.returns-clause-rest
returns-clause-rest c = on_ok c.from_pairs.result _ (taken c).1
