-- What a keeper holds between two runs: some bytes, or none.
use Rattle.std.specs.Prelude.{◌≡◌, ℕ, ◌⊎◌, List, Option, Some, None, IfSome, Result, Ok, Err}
use Rattle.osb_base.specs.Calls.{Calls}

-- a keeper in memory
pub record KeeperState : Type 0 where
  pub bytes : Option (List ℕ)
  pub calls : Calls

-- after a save a keeper that told holds the bytes; after another answer it holds what it held, or tells nothing
abbrev pub IsSaved : {E : Type 0} → Option (Option (List ℕ)) → Option (Option (List ℕ)) → List ℕ → Result (Unit {0}) E → Type 0
IsSaved before now bytes (Ok _) = IfSome before (λ held. now ≡ Some (Some bytes))
IsSaved before now bytes (Err _) = (now ≡ before) ⊎ (now ≡ None)

-- what a keeper in memory has after a save
abbrev pub after_save : {E : Type 0} → Result (Unit {0}) E → List ℕ → Option (List ℕ) → Option (List ℕ)
after_save (Ok _) bytes held = Some bytes
after_save (Err _) bytes held = held
