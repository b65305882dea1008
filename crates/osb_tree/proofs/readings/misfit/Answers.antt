use Rattle.std.proofs.Common.{◌≡◌, ◌+◌, ◌∙◌, take, get_or, sym, ap, subst, option_copied}
use Rattle.std.specs.Option.{option_or}
use Rattle.osb_tree.specs.Trees.{Listing, tree_size}
use Rattle.osb_tree.specs.Chunks.{pairs_of}
use Rattle.osb_tree.proofs.ChunkReadings.{nothing_read, misfit_in, chunk_read, of_a_tree, option_copied-or}
use Rattle.osb_tree.proofs.readings.misfit.Goals as goal

pub loop-chunk-init : goal.loop-chunk-init
loop-chunk-init c = nothing_read

pub returns-then-fitting-pairs : goal.returns-then-fitting-pairs
returns-then-fitting-pairs c =
    let chunks = c.args.chunks.now in
    let at = subst (λ (x : Listing). x ≡ get_or chunks c.loop-chunk.chunk-index x) (sym (c.pairs-pairs.ensures.pairs ∙ c.get.ensures.value)) c.chunk-item.is in
    let read = c.loop-chunk.invariant.0 in
    let begins = c.loop-chunk.invariant.1 in
    let count = c.count_fitting-fitting.ensures in
    record { misfit = misfit_in chunks c.loop-chunk.chunk-index c.pairs-pairs.result.now c.loop-chunk-test.true at (option_copied c.loop-chunk.last) c.loop-chunk.count c.loop-chunk.size read c.count_fitting-fitting.result (count.fitting (pairs_of (take c.loop-chunk.chunk-index chunks)) read begins) c.if-fitting-pairs.true (count.first (pairs_of (take c.loop-chunk.chunk-index chunks)) read begins c.if-fitting-pairs.true) }

pub loop-chunk-preserved : goal.loop-chunk-preserved
loop-chunk-preserved c =
    let chunks = c.args.chunks.now in
    let same = c.pairs-pairs.ensures.pairs ∙ c.get.ensures.value in
    let at = subst (λ (x : Listing). x ≡ get_or chunks c.loop-chunk.chunk-index x) (sym same) c.chunk-item.is in
    let read = c.loop-chunk.invariant.0 in
    let begins = c.loop-chunk.invariant.1 in
    let more = chunk_read chunks c.loop-chunk.chunk-index c.pairs-pairs.result.now c.loop-chunk-test.true at (option_copied c.loop-chunk.last) c.loop-chunk.count c.loop-chunk.size read c.count_fitting-fitting.result (c.count_fitting-fitting.ensures.fitting (pairs_of (take c.loop-chunk.chunk-index chunks)) read begins) c.if-fitting-pairs.false in
    let last = ap option_copied c.or-last.ensures ∙ option_copied-or c.last.result c.loop-chunk.last ∙ ap (λ o. option_or o (option_copied c.loop-chunk.last)) c.last.ensures.value in
    let weight = c.weight-size.ensures.weight ∙ ap tree_size (c.get-in-loop-chunk.ensures.value ∙ sym same) in
    (record { last_is = last ∙ more.0.last_is; count_is = more.0.count_is; size_is = ap (λ w. c.loop-chunk.size + w) weight ∙ more.0.size_is }, more.1)

pub returns-then-is_cut : goal.returns-then-is_cut
returns-then-is_cut c =
    record { misfit = of_a_tree c.args.chunks.now c.loop-chunk.chunk-index (option_copied c.loop-chunk.last) c.loop-chunk.count c.loop-chunk.size c.loop-chunk-test.false c.loop-chunk.invariant.0 c.loop-chunk.invariant.1 (sym c.if-is_cut.ensures) }
