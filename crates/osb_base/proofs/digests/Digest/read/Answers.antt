use Rattle.std.proofs.Common.{◌≡◌, ℕ, List, ◌++◌, sym, ap, ◌∙◌}
use Rattle.std.specs.Prelude.{codes}
use Rattle.std.proofs.lemmas.Bool.{false≢true}
use Rattle.std.proofs.lemmas.Bool.Decides.{Decides-eqb}
use Rattle.std.proofs.lemmas.Slice.Eq.{bytes_eq-Decides, strip_prefix_is}
use Rattle.hex.specs.Hex.{encode_lower}
use Rattle.osb_base.proofs.DigestTexts.{digest_read-other, digest_read-digest_text, decode_sized-digest, decode_sized-same, IsDigest-decode_sized, digits_after}
use Rattle.osb_base.proofs.digests.Digest.read.Goals as goal

pub returns-in_default : goal.returns-in_default
returns-in_default c =
    let split = strip_prefix_is Decides-eqb c.as_bytes.result.now (codes "sha256:") c.strip_prefix.result c.strip_prefix.ensures.cases in
    let none = rw c.in_default.is at split in
    record { digest = rw (← c.as_bytes.ensures.value) (digest_read-other c.as_bytes.result.now (λ bytes h e. none (encode_lower bytes) e)) }

pub returns-in_default-from_hex : goal.returns-in_default-from_hex
returns-in_default-from_hex c =
    let split = strip_prefix_is Decides-eqb c.as_bytes.result.now (codes "sha256:") c.strip_prefix.result c.strip_prefix.ensures.cases in
    let after = rw c.in-Some.is at split in
    record {
      digest = rw (← c.as_bytes.ensures.value) (digest_read-other c.as_bytes.result.now
          (λ bytes h e. c.in_default-from_hex.not-Ok bytes (c.from_hex.ensures ∙ decode_sized-digest c.in-Some.digits.now bytes h (digits_after _ _ _ after e))));
    }

pub returns-then-has_digits : goal.returns-then-has_digits
returns-then-has_digits c =
    let split = strip_prefix_is Decides-eqb c.as_bytes.result.now (codes "sha256:") c.strip_prefix.result c.strip_prefix.ensures.cases in
    let after = rw c.in-Some.is at split in
    let decoded = sym c.from_hex.ensures ∙ c.in-Ok.is in
    let same = (bytes_eq-Decides c.in-Some.digits.now (encode_lower c.in-Ok.bytes)).0 (sym c.has_digits.ensures.digits ∙ c.if-has_digits.true) in
    let text : c.as_bytes.result.now ≡ codes "sha256:" ++ encode_lower c.in-Ok.bytes = after ∙ ap (λ (digits : List ℕ). codes "sha256:" ++ digits) same in
    record { digest = rw (← c.as_bytes.ensures.value) (digest_read-digest_text c.as_bytes.result.now c.in-Ok.bytes (IsDigest-decode_sized c.in-Some.digits.now c.in-Ok.bytes decoded) text) }

pub returns-else-has_digits : goal.returns-else-has_digits
returns-else-has_digits c =
    let split = strip_prefix_is Decides-eqb c.as_bytes.result.now (codes "sha256:") c.strip_prefix.result c.strip_prefix.ensures.cases in
    let after = rw c.in-Some.is at split in
    let decoded = sym c.from_hex.ensures ∙ c.in-Ok.is in
    record {
      digest = rw (← c.as_bytes.ensures.value) (digest_read-other c.as_bytes.result.now
          (λ bytes h e.
          let digits = digits_after _ _ _ after e in
          let same = decode_sized-same c.in-Some.digits.now bytes c.in-Ok.bytes h digits decoded in
          false≢true (sym c.if-has_digits.false ∙ c.has_digits.ensures.digits ∙ (bytes_eq-Decides c.in-Some.digits.now (encode_lower c.in-Ok.bytes)).1 same)));
    }
