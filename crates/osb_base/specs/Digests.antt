-- SHA-256 digests (FIPS 180-4), each by its 32 bytes, and how they are written.
use Rattle.std.specs.Prelude.{◌≡◌, ℕ, ◌+◌, ◌-◌, ◌*◌, ◌<◌, ◌==◌, nat_le, ◌&&◌, List, [], ◌∷◌, ◌++◌, codes, length, drop, Option, Some, None, ok_or, Result, if◌then◌else◌}
use Rattle.std.specs.List.{All, starts_with}
use Rattle.hex.specs.Hex.{encode_lower}
use Rattle.osb_base.specs.declared.digests.DigestFault.{DigestFault}
use Rattle.osb_base.specs.declared.digests.DigestFault.TheVariants.{BadForm}

-- 32 bytes
pub record IsDigest (digest : List ℕ) : Type 0 where
  pub length : length digest ≡ 32
  pub bytes : All (λ byte. byte < 256) digest

-- ---- writing

-- `sha256:` and 64 lower-case hex digits
abbrev pub digest_text : List ℕ → List ℕ
digest_text digest = codes "sha256:" ++ encode_lower digest

-- ---- reading

-- the value of a hex digit: `0` to `9` are 48 to 57, and `a` to `f` are 97 to 102
abbrev pub digit_value : ℕ → Option ℕ
digit_value c =
    if nat_le 48 c && nat_le c 57 then Some (c - 48)
    else if nat_le 97 c && nat_le c 102 then Some (c - 87)
    else None

-- the byte of two digits, before the bytes of those after them
abbrev pub with_byte : Option ℕ → Option ℕ → Option (List ℕ) → Option (List ℕ)
with_byte (Some high) (Some low) (Some bytes) = Some ((high * 16 + low) ∷ bytes)
with_byte high low bytes = None

-- the bytes that digits spell, two for each
unfoldable pub spelled : List ℕ → Option (List ℕ)
spelled [] = Some []
spelled (digit ∷ []) = None
spelled (high ∷ low ∷ digits) = with_byte (digit_value high) (digit_value low) (spelled digits)

-- the digest that a text is: `sha256:` and 64 lower-case hex digits
unfoldable pub digest_of : List ℕ → Option (List ℕ)
digest_of text = if starts_with ◌==◌ text (codes "sha256:") && length text == 71 then spelled (drop 7 text) else None

-- the digest, or that the text has another form
abbrev pub digest_read : List ℕ → Result (List ℕ) DigestFault
digest_read text = ok_or (digest_of text) BadForm
