-- What a text says after its start.
use Rattle.std.proofs.Common.{◌≡◌, ℕ, ◌==◌, false, List, Some, Err, refl}
use Rattle.std.specs.List.{starts_with}
use Rattle.serde_json.specs.Data.{Data}
use Rattle.serde_json.specs.Find.{as_str}
use Rattle.osb_tree.specs.declared.faults.OptionFault.TheVariants.{BadPath}
use Rattle.osb_files.specs.Copy.{text_after}

pub text_after-other : (start name read : List ℕ) (value : Data) → as_str value ≡ Some read → starts_with ◌==◌ read start ≡ false → text_after start name value ≡ Err (BadPath name)
text_after-other start name read value text other = rw (text, other) refl
