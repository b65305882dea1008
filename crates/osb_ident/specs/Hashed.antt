-- For private clauses: what a hasher takes in, and what stands before a member.
use Rattle.std.specs.Prelude.{Bool, true, false, ℕ, List, [], ◌++◌, codes}
use Rattle.sha2.specs.Hashers.{Holds256}
use Rattle.sha2.specs.declared.Sha256.{Sha256}

-- the hasher took in a piece, after what it held
pub record Takes (before now : Sha256) (piece : List ℕ) : Type 0 where
  pub holds : (message : List ℕ) → Holds256 before message → Holds256 now (message ++ piece)

abbrev pub separator : Bool → List ℕ
separator true = []
separator false = codes ", "
