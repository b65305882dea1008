use Rattle.std.proofs.Common.{rules}
use Rattle.osb_manifest.proofs.Json.{json_read, json_refused}
use Rattle.osb_manifest.proofs.reading.read_json.Goals as goal

pub returns-in-Ok : goal.returns-in-Ok
returns-in-Ok c = let h = c.in-Ok.ensures.ok in json_read _ _ h.0 h.1

pub returns-else-is_memory : goal.returns-else-is_memory
returns-else-is_memory c = json_refused _ (c.in-Err.ensures.err (search rules))
