-- What `serde_json` says of reading bytes, in the words of manifests.
use Rattle.std.proofs.Common.{◌≡◌, ℕ, List, Bool, true, false, Option, Some, None, cond, refl, sym}
use Rattle.std.specs.Str.{IsUtf8, is_utf8}
use Rattle.std.proofs.lemmas.Str.{IsUtf8-from_is_utf8, is_utf8-from_IsUtf8}
use Rattle.serde_json.specs.Data.{Data}
use Rattle.serde_json.specs.Read.{read}
use Rattle.osb_manifest.specs.Manifests.{json_of}

pub json_read : (bytes : List ℕ) (value : Data) → IsUtf8 bytes → read bytes ≡ Some value → Some value ≡ json_of bytes
json_read bytes value utf8 is = rw (is_utf8-from_IsUtf8 bytes utf8) (sym is)

-- by whether the bytes are UTF-8
by_utf8 : (bytes : List ℕ) (b : Bool) (found : Option Data) → (b ≡ true → found ≡ None) → None ≡ cond b found None
by_utf8 bytes true found h = sym (h refl)
by_utf8 bytes false found h = refl

pub json_refused : (bytes : List ℕ) → (IsUtf8 bytes → read bytes ≡ None) → None ≡ json_of bytes
json_refused bytes refused = by_utf8 bytes (is_utf8 bytes) (read bytes) (λ e. refused (IsUtf8-from_is_utf8 bytes e))
