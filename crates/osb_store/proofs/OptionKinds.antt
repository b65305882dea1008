-- What a text of options spells, and the kind that a type reads in it.
use Rattle.std.proofs.Common.{◌≡◌, ◌↔◌, ℕ, ◌≤◌, Bool, true, false, cond, List, [], Option, Some, None, Result, Ok, Err, refl, sym, ap, ◌∙◌}
use Rattle.std.specs.Option.{is_some, option_and_then}
use Rattle.std.specs.Result.{result_ok}
use Rattle.std.proofs.lemmas.Bool.{false≢true}
use Rattle.std.proofs.lemmas.List.{append-nil}
use Rattle.std.proofs.lemmas.Option.{option_and_then_some, none-some, same_Some, cond_some}
use Rattle.serde_json.specs.Data.{Data, depth}
use Rattle.serde_json.specs.Find.{as_object}
use Rattle.osb_pyjson.specs.PyText.{py_data}
use Rattle.osb_pyread.specs.Nests.{value_at}
use Rattle.osb_pyread.proofs.Again.{data_again}
use Rattle.osb_pyread.proofs.Whole.{no_deeper}
use Rattle.osb_stages.specs.Readers.{IsObject}
use Rattle.osb_recipe.specs.Kinds.{type_text, kind_of}
use Rattle.osb_recipe.specs.Recipes.{IsReadFrom}
use Rattle.osb_recipe.specs.declared.kinds.StageKind.{StageKind}
use Rattle.osb_recipe.specs.declared.kinds.KindFault.{KindFault}
use Rattle.osb_recipe.proofs.Exact.{exact_bytes, same_bytes-self}
use Rattle.osb_recipe.proofs.KindTypes.{kind_type}
use Rattle.osb_store.specs.Recipes.{is_text, if_spelled, options_of, kind_in, kind_of_texts}

-- ---- options

told_text : (text : List ℕ) (written : Option (List ℕ)) → is_text text written ≡ true → written ≡ Some text
told_text text None e = absurd (false≢true e)
told_text text (Some spelled) e = ap Some (exact_bytes spelled text e)

-- it is the value's text, and the value is shallow
abbrev pub IsSpelled : List ℕ → Data → Type 0
IsSpelled text value = (py_data value ≡ Some text) × (depth value ≤ 127)

pub options_spelled : (text : List ℕ) (value : Data) → options_of text ≡ Some value → IsSpelled text value
unfolding options_of
options_spelled text value e =
    option_and_then_some (if_spelled text) (value_at 127 text) value e (λ x first second.
    let is = cond_some (is_text text (py_data x.0)) x.0 value second in
    (ap py_data (sym is.1) ∙ told_text text (py_data x.0) is.0, no_deeper 127 text value x.1 (first ∙ (λ i. Some (is.1 i, x.1)))))

pub options_found : (text : List ℕ) (value : Data) → IsSpelled text value → options_of text ≡ Some value
unfolding options_of
options_found text value (written, shallow) =
    let read : value_at 127 text ≡ Some (value, []) = ap (value_at 127) (sym (append-nil text)) ∙ data_again value 127 text [] written shallow refl in
    let told : is_text text (py_data value) ≡ true = ap (is_text text) written ∙ same_bytes-self text in
    ap (option_and_then (if_spelled text)) read ∙ ap (λ (b : Bool). cond b (Some value) None) told

pub options_law : (text : List ℕ) (value : Data) → (options_of text ≡ Some value) ↔ IsSpelled text value
options_law text value = (options_spelled text value, options_found text value)

none_of_step : (found : Option Data) → ((value : Data) → found ≡ Some value → ⊥) → found ≡ None
none_of_step None never = refl
none_of_step (Some value) never = absurd (never value refl)

pub options_none : (text : List ℕ) → ((value : Data) → depth value ≤ 127 → py_data value ≡ Some text → ⊥) → options_of text ≡ None
options_none text never =
    none_of_step (options_of text) (λ value e. let is = options_spelled text value e in never value is.1 is.0)

-- ---- kinds

object_step : (b : Bool) (read : Result StageKind KindFault) (stage : StageKind) → cond b (result_ok read) None ≡ Some stage → (b ≡ true) × (read ≡ Ok stage)
object_step true (Ok kind) stage e = (refl, ap Ok (same_Some kind stage e))
object_step true (Err fault) stage e = absurd (none-some stage e)
object_step false read stage e = absurd (none-some stage e)

found_step : (b : Bool) (read : Result StageKind KindFault) (stage : StageKind) → b ≡ true → read ≡ Ok stage → cond b (result_ok read) None ≡ Some stage
found_step b read stage is e = ap (λ (c : Bool). cond c (result_ok read) None) is ∙ ap result_ok e

fault_step : (b : Bool) (read : Result StageKind KindFault) (fault : KindFault) → read ≡ Err fault → cond b (result_ok read) None ≡ None
fault_step true read fault e = ap result_ok e
fault_step false read fault e = refl

pub kind_reads : (type : List ℕ) (options : Data) (stage : StageKind) → kind_in type options ≡ Some stage → IsObject options × (kind_of type options ≡ Ok stage)
unfolding kind_in
kind_reads type options stage e = object_step (is_some (as_object options)) (kind_of type options) stage e

pub kind_found : (type : List ℕ) (options : Data) (stage : StageKind) → is_some (as_object options) ≡ true → kind_of type options ≡ Ok stage → kind_in type options ≡ Some stage
unfolding kind_in
kind_found type options stage is e = found_step (is_some (as_object options)) (kind_of type options) stage is e

pub kind_fault : (type : List ℕ) (options : Data) (fault : KindFault) → kind_of type options ≡ Err fault → kind_in type options ≡ None
unfolding kind_in
kind_fault type options fault e = fault_step (is_some (as_object options)) (kind_of type options) fault e

pub no_object : (type : List ℕ) (options : Data) → is_some (as_object options) ≡ false → kind_in type options ≡ None
unfolding kind_in
no_object type options is = ap (λ (c : Bool). cond c (result_ok (kind_of type options)) None) is

-- ---- both

pub kind_read : (type text : List ℕ) (stage : StageKind) → kind_of_texts type text ≡ Some stage → (type_text stage ≡ type) × IsReadFrom stage text
unfolding kind_of_texts
kind_read type text stage e =
    option_and_then_some (kind_in type) (options_of text) stage e (λ value first second.
    let spelled = options_spelled text value first in
    let read = kind_reads type value stage second in
    let typed = kind_type type value stage read.1 in
    (typed, record { options = value; object = read.0; shallow = spelled.1; text = spelled.0; kind = ap (λ (name : List ℕ). kind_of name value) typed ∙ read.1 }))

pub kind_again : (text : List ℕ) (stage : StageKind) → IsReadFrom stage text → kind_of_texts (type_text stage) text ≡ Some stage
unfolding kind_of_texts
kind_again text stage read =
    ap (option_and_then (kind_in (type_text stage))) (options_found text read.options (read.text, read.shallow)) ∙ kind_found (type_text stage) read.options stage read.object read.kind
