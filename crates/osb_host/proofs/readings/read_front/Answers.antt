use Rattle.std.proofs.Common.{rules, ◌≡◌, ◌≤◌, IfSome, length, sym, subst}
use Rattle.std.proofs.lemmas.List.{places}
use Rattle.std.specs.Io.KnownBytes.{Consumes}
use Rattle.osb_base.specs.Shelves.{cut}
use Rattle.osb_host.proofs.Fronts.{Consumes-append, Consumes-nothing, cut_whole}
use Rattle.osb_host.proofs.readings.read_front.Goals as goal

pub loop-init : goal.loop-init
loop-init g c =
    (search rules, search rules, subst (Consumes _ _) (sym c.new-front.ensures.items) (Consumes-nothing _))

pub returns-then-branch-clause-front : goal.returns-then-branch-clause-front
returns-then-branch-clause-front g c =
    let (some, short, consumed) = c.loop.invariant in
    let (piece, grown, more) = c.in_ok-read_more.ensures.bytes in
    let all = subst (Consumes _ _) (sym grown) (Consumes-append _ _ _ _ piece consumed more) in
    let whole = c.in_ok-read_more.ensures.end (search rules) in
    let within : length c.read_more.new.front.items ≤ 16777217 = search (rules, places) in
    subst (λ front. IfSome (g.F.Read.remaining c.args.file.now) (λ bytes. front ≡ cut bytes)) (sym c.new.ensures.content) (cut_whole _ _ _ all within whole)

pub loop-preserved : goal.loop-preserved
loop-preserved g c =
    let (some, short, consumed) = c.loop.invariant in
    let (piece, grown, more) = c.in_ok-read_more.ensures.bytes in
    (some, c.in_ok-read_more.ensures.short, subst (Consumes _ _) (sym grown) (Consumes-append _ _ _ _ piece consumed more))
