-- Pipelines by name, as contracts see them.
use Rattle.std.specs.Prelude.{ℕ, List, String, string_bytes}
use Rattle.std.specs.declared.alloc.Global.{Global}
use Rattle.osb_manifest.specs.declared.manifests.Pipeline.{Pipeline}

-- a pipeline with the bytes of its name
abbrev pub named : String Global × Pipeline → List ℕ × Pipeline
named pair = (string_bytes pair.0, pair.1)
