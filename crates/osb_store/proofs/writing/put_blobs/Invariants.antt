use Rattle.std.proofs.Common.{◌≡◌, ◌++◌, drop}
use Rattle.std.specs.List.{flat_map}
use Rattle.osb_store.specs.Fields.{field}
use Rattle.osb_store.specs.Texts.{list_text}
use Rattle.osb_store.proofs.writing.put_blobs.Given as goal

abbrev pub invariant-loop-blob : goal.invariant-loop-blob
invariant-loop-blob l = l.out.items ++ flat_map field (drop l.blob-index l.blobs) ≡ l.fn.out.items ++ list_text field l.blobs
