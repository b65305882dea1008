use Rattle.osb_top.proofs.Inspecting.{inspection_written}
use Rattle.osb_top.proofs.inspects.inspect.Goals as goal

pub returns-in-Some-clause-inspect : goal.returns-in-Some-clause-inspect
returns-in-Some-clause-inspect g c =
    rw (← c.inspected.ensures, c.in-Some.is) (inspection_written _ _ c.in-Some.name.now c.inspect_named-text.result _ c.inspect_named-text.ensures c.write_inspected.ensures)
