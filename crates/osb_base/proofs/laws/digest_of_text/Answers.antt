use Rattle.std.proofs.Common.{◌∙◌, ap}
use Rattle.osb_base.specs.Digests.{digest_of}
use Rattle.osb_base.proofs.DigestTexts.{digest_of-some, digest_of-digest_text}
use Rattle.osb_base.proofs.laws.digest_of_text.Goals as goal

pub returns : goal.returns
returns c = record {
  law = λ text bytes. (
    digest_of-some text bytes,
    λ h. ap digest_of h.1 ∙ digest_of-digest_text bytes h.0,
  );
}
