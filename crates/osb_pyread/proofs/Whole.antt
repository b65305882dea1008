-- What is read of a whole text, and what its value is.
use Rattle.std.proofs.Common.{◌≡◌, ℕ, ◌≤◌, List, [], Some, None, refl, sym, ap, subst, ◌∙◌}
use Rattle.std.proofs.lemmas.List.{append-nil}
use Rattle.serde_json.specs.Data.{Data, depth}
use Rattle.osb_pyjson.specs.PyText.{py_data}
use Rattle.osb_pyread.specs.declared.faults.Stop.{Stop}
use Rattle.osb_pyread.specs.declared.faults.Stop.TheVariants.{Broken}
use Rattle.osb_pyread.specs.Steps.{Fails}
use Rattle.osb_pyread.specs.Nests.{value_at}
use Rattle.osb_pyread.proofs.Decimals.{some_same}
use Rattle.osb_pyread.proofs.Levels.{Shallow, value_shallow}
use Rattle.osb_pyread.proofs.Again.{none_is_some, data_again}

module _ (d : ℕ) (text : List ℕ) (v : Data) (is_text : py_data v ≡ Some text) (within : depth v ≤ d) where
  whole_again : value_at d text ≡ Some (v, [])
  whole_again = ap (value_at d) (sym (append-nil text)) ∙ data_again v d text [] is_text within refl

  pub not_broken : (stop : Stop) → stop ≡ Broken → Fails stop (value_at d text) → ⊥
  not_broken stop is fails =
      let none : value_at d text ≡ None = rw is at fails in
      none_is_some (v, []) (sym none ∙ whole_again)

  -- so the value that was read has this text
  pub is_read : (w : Data) (rest : List ℕ) → value_at d text ≡ Some (w, rest) → py_data w ≡ Some text
  is_read w rest read =
      let same = some_same (w, rest) (v, []) (sym read ∙ whole_again) in
      ap (λ x. py_data x.0) same ∙ is_text

pub no_deeper : (d : ℕ) (text : List ℕ) (v : Data) (rest : List ℕ) → value_at d text ≡ Some (v, rest) → depth v ≤ d
no_deeper d text v rest read = subst (Shallow d) read (value_shallow d text)
