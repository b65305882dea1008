-- For private clauses: how a body is taken from the bytes of a store.
use Rattle.std.specs.Prelude.{ℕ, ◌-◌, Bool, not, List, length, take, drop, min, nat_lt, Result, Ok, Err, if◌then◌else◌}
use Rattle.sha2.specs.Sha256.{sha256}
use Rattle.byteorder.specs.Endian.{big_number}
use Rattle.osb_store.specs.Places.{same_text}
use Rattle.osb_store.specs.Texts.{magic}
use Rattle.osb_store.specs.declared.refusals.StoreRefusal.{StoreRefusal}
use Rattle.osb_store.specs.declared.refusals.StoreRefusal.TheVariants.{Magic, Truncated, TrailingBytes, Digest}

abbrev pub begins_well : List ℕ → Bool
begins_well bytes = same_text (take (min (length bytes) 8) bytes) (take (min (length bytes) 8) magic)

-- the length that is told behind the magic
unfoldable pub told_number : List ℕ → ℕ
told_number bytes = big_number 8 (drop 8 bytes)

-- all but the digest
abbrev pub signed_of : List ℕ → List ℕ
signed_of bytes = take (length bytes - 32) bytes

abbrev pub digest_of : List ℕ → List ℕ
digest_of bytes = drop (length bytes - 32) bytes

-- by whether the magic is right, whether there are fewer than 48 bytes, whether the rest is shorter or longer than is told,
-- and whether the digest is right
abbrev pub taken_by : Bool → Bool → Bool → Bool → Bool → List ℕ → Result (List ℕ) StoreRefusal
taken_by begins small short long signed body =
    if not begins then Err Magic
    else if small then Err Truncated
    else if short then Err Truncated
    else if long then Err TrailingBytes
    else if not signed then Err Digest
    else Ok body

unfoldable pub body_in : List ℕ → Result (List ℕ) StoreRefusal
body_in bytes =
    taken_by (begins_well bytes) (nat_lt (length bytes) 48) (nat_lt (length bytes - 48) (told_number bytes)) (nat_lt (told_number bytes) (length bytes - 48))
    (same_text (sha256 (signed_of bytes)) (digest_of bytes)) (drop 16 (signed_of bytes))
