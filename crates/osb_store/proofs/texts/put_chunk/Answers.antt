use Rattle.std.proofs.Common.{◌≡◌, ℕ, ◌+◌, ◌<◌, List, ◌∷◌, ◌++◌, length, drop, get_or, Some, sym, ap, ◌∙◌, append_assoc, arith}
use Rattle.std.specs.List.{flat_map, slice_get}
use Rattle.std.specs.Option.{option_map}
use Rattle.std.proofs.lemmas.List.{drop_more}
use Rattle.std.proofs.lemmas.Option.{slice_get-get_or, same_Some}
use Rattle.osb_store.specs.Texts.{node_text}
use Rattle.osb_store.proofs.texts.put_chunk.Goals as goal

-- both parts of a pair at its place
drop-pair : {A B : Type 0} (pairs : List (A × B)) (i : ℕ) (a : A) (b : B) → i < length pairs → option_map (λ pair. pair.0) (slice_get pairs i) ≡ Some a → option_map (λ pair. pair.1) (slice_get pairs i) ≡ Some b
    → drop i pairs ≡ (a, b) ∷ drop (i + 1) pairs
drop-pair pairs i a b below first second =
    let is = slice_get-get_or pairs i (a, b) below in
    let one : (get_or pairs i (a, b)).0 ≡ a = same_Some _ _ (sym (ap (option_map (λ pair. pair.0)) is) ∙ first) in
    let two : (get_or pairs i (a, b)).1 ≡ b = same_Some _ _ (sym (ap (option_map (λ pair. pair.1)) is) ∙ second) in
    drop_more pairs i (a, b) below ∙ (λ j. (one j, two j) ∷ drop (i + 1) pairs)

pub loop-i-preserved : goal.loop-i-preserved
loop-i-preserved c =
    let pairs = c.args.chunk.now in
    let here = drop-pair pairs c.loop-i.i c.path.result.now c.node.result.now (omega arith) c.path.ensures.path c.node.ensures.node in
    let text = node_text (c.path.result.now, c.node.result.now) in
    ap (λ out. out ++ flat_map node_text (drop (c.loop-i.i + 1) pairs)) c.in_ok-put_node.ensures
    ∙ append_assoc c.loop-i.out.items text (flat_map node_text (drop (c.loop-i.i + 1) pairs))
    ∙ ap (λ rest. c.loop-i.out.items ++ flat_map node_text rest) (sym here) ∙ c.loop-i.invariant
