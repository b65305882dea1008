-- Chunks with no misfit are those of a tree, and no others.
use Rattle.std.proofs.Common.{◌≡◌, ℕ, List, Bool, true, false, Option, Some, None, true≢false, refl, sym}
use Rattle.std.specs.Prelude.{◌↔◌, MatchOption, IsTrue, is_some, not}
use Rattle.osb_tree.specs.Trees.{Listing}
use Rattle.osb_tree.specs.Chunks.{AreOfATree, IsMisfit}
use Rattle.osb_tree.proofs.ChunkLaws.{misfit_is_one}

pub no_misfit : (chunks : List Listing) (misfit : Option ℕ) (fit : Bool) → is_some misfit ≡ not fit → MatchOption misfit (AreOfATree chunks) (IsMisfit chunks) → IsTrue fit ↔ AreOfATree chunks
no_misfit chunks None true is are = (λ fits. are, λ of. refl)
no_misfit chunks None false is are = absurd (true≢false (sym is))
no_misfit chunks (Some place) true is fails = absurd (true≢false is)
no_misfit chunks (Some place) false is fails = (λ fits. absurd (true≢false (sym fits)), λ of. absurd ((misfit_is_one chunks place fails).0 of))
