-- What a path's text is read as.
use Rattle.std.proofs.Common.{◌≡◌, ℕ, List, Option, Some, None, Ok, Err, Result, refl, sym, ap, subst, ◌∙◌}
use Rattle.std.specs.Prelude.{option_map, option_and_then, IfSome}
use Rattle.std.specs.Str.{is_utf8}
use Rattle.std.proofs.lemmas.Option.{none-some, cond_some}
use Rattle.osb_tree.specs.Paths.{Names, IsPath, path_of, path_text}
use Rattle.osb_tree.specs.declared.faults.PathFault.{PathFault}
use Rattle.osb_tree.specs.declared.faults.PathFault.TheVariants.{NoMemory}
use Rattle.osb_store.specs.Reading.{path_of_text, path_at, text_at, field_at, utf8_of}
use Rattle.osb_store.specs.Entries.{Refuses}
use Rattle.osb_store.specs.declared.steps.Stop.{Stop}
use Rattle.osb_store.specs.declared.steps.Stop.TheVariants.{Broken, Memory}
use Rattle.osb_store.proofs.PathTexts.{path_of-path_text, path_of_text-takes}
use Rattle.osb_store.proofs.Spelling.{option_map_some}

abbrev Piece : Type 0 → Type 0
Piece Y = Option (Y × List ℕ)

abbrev with_rest : {Y : Type 0} → List ℕ → Option Y → Piece Y
with_rest rest found = option_map (λ y. (y, rest)) found

-- the text in a field, and the path
abbrev text_in : Piece (List ℕ) → Piece (List ℕ)
text_in found = option_and_then (λ x. with_rest x.1 (utf8_of x.0)) found

abbrev path_in : Piece (List ℕ) → Piece Names
path_in found = option_and_then (λ x. with_rest x.1 (path_of_text x.0)) found

abbrev NoPath : Piece Names → Type 0
NoPath piece = IfSome piece (λ y. IsPath y.0 → ⊥)

text_step : (found : Piece (List ℕ)) (text rest : List ℕ) → text_in found ≡ Some (text, rest) → path_in found ≡ with_rest rest (path_of_text text)
text_step None text rest e = absurd (none-some (text, rest) e)
text_step (Some x) text rest e =
    option_map_some (λ (y : List ℕ). (y, x.1)) (utf8_of x.0) (text, rest) e (λ y read same.
    let is = cond_some (is_utf8 x.0) x.0 y read in
    let own : x.0 ≡ text = is.1 ∙ ap (λ (p : List ℕ × List ℕ). p.0) same in
    let rest_is : x.1 ≡ rest = ap (λ (p : List ℕ × List ℕ). p.1) same in
    λ i. with_rest (rest_is i) (path_of_text (own i)))

module _ (bytes text rest : List ℕ) (read : text_at bytes ≡ Some (text, rest)) where
  given : path_at bytes ≡ with_rest rest (path_of_text text)
  given = text_step (field_at bytes) text rest read

  refused_step : (found : Option Names) → path_of_text text ≡ found → ((names : Names) → IsPath names → path_text names ≡ text → ⊥) → NoPath (with_rest rest found)
  refused_step None e none = tt
  refused_step (Some names) e none = λ p. none names p (path_of_text-takes text names e).1

  refused : ((names : Names) → IsPath names → path_text names ≡ text → ⊥) → NoPath (path_at bytes)
  refused none = subst NoPath (sym given) (refused_step (path_of_text text) refl none)

  path_faulty : (fault : PathFault) → Err fault ≡ path_of text → NoPath (path_at bytes)
  path_faulty fault e = refused (λ found p own. let z : ◌≡◌ {A = Result Names PathFault} (Err fault) (Ok found) = e ∙ sym (ap path_of own) ∙ path_of-path_text found p in absurd cc)

  pub path_stops : (stop : Stop) (fault : PathFault) → (stop ≡ Broken → fault ≡ NoMemory → ⊥) → ((◌≡◌ {A = Result Names PathFault} (Err fault) (Err NoMemory) → ⊥) → Err fault ≡ path_of text) → Refuses IsPath stop (path_at bytes)
  path_stops Memory fault other e = tt
  path_stops Broken fault other e = path_faulty fault (e (λ same. other refl cc))
