-- What a shelf gives of manifests, which it cuts one byte past the most that a manifest may have.
use Rattle.std.specs.Prelude.{◌≡◌, ℕ, List, Option, IfSome}
use Rattle.osb_base.specs.Shelves.{Files, IsRead, IsCut}
use Rattle.osb_ready.specs.Readying.{Reply, cut_reply}

-- where it tells, what it gives is cut from what it holds; it gives nothing longer
pub record IsCutGiven (held : Option Files) (name : List ℕ) (reply : Reply) : Type 0 where
  pub read : IfSome held (λ files. IsRead files name reply)
  pub short : IsCut reply

-- a reply that is the whole one, or cut from it
abbrev pub IsCutOf : Reply → Reply → Type 0
IsCutOf whole reply = reply ≡ cut_reply whole
