use Rattle.osb_store.proofs.PathReads.{path_stops}
use Rattle.osb_store.proofs.nodes.path_of.Goals as goal

pub returns : goal.returns
returns c = path_stops c.args.bytes.now c.in_ok-text.text.now c.in_ok-text.rest.now c.in_ok-text.ensures c.stop_of.result c.in-Err.fault c.stop_of.ensures c.in-Err.ensures.path
