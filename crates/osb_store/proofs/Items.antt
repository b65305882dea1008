-- Items that are read one after another, where each may stand behind those before it.
use Rattle.std.proofs.Common.{◌≡◌, ℕ, zero, suc, ◌+◌, ◌^◌, ◌<◌, ◌≤◌, Bool, true, List, [], ◌∷◌, ◌++◌, length, Option, Some, None, Ok, Err, cond, refl, sym, ap, ◌∙◌, subst, arith, append_assoc, append-nil, length-append}
use Rattle.std.specs.List.{flat_map}
use Rattle.std.specs.Option.{option_and_then}
use Rattle.std.proofs.lemmas.Option.{option_and_then_some, none-some, cond_some}
use Rattle.osb_store.specs.Bytes.{IsBytes}
use Rattle.osb_store.specs.Reading.{At}
use Rattle.osb_store.specs.Rules.{EachMay}
use Rattle.osb_store.specs.Refusals.{NoneFollows}
use Rattle.osb_store.specs.Lists.{checked_at, then_from, items_at}
use Rattle.osb_store.proofs.Spelling.{Takes, bytes_behind}

-- items that are read and tested as they may stand
pub record Fitting {X : Type 0} (text : X → List ℕ) (May : List X → X → Type 0) (read : At X) (test : List X → X → Bool) : Type 0 where
  pub takes : (bytes : List ℕ) (before : List X) (x : X) (rest : List ℕ) → IsBytes bytes → read bytes ≡ Some (x, rest) → test before x ≡ true → Takes text (May before) bytes x rest
  pub again : (before : List X) (x : X) (rest : List ℕ) → EachMay May [] before → length before < 2 ^ 64 → length (text x ++ rest) < 2 ^ 64 → May before x → (read (text x ++ rest) ≡ Some (x, rest)) × (test before x ≡ true)
  pub long : (x : X) → 8 ≤ length (text x)

pub each_may-append : {X : Type 0} (May : List X → X → Type 0) (before xs ys : List X) → EachMay May before xs → EachMay May (before ++ xs) ys → EachMay May before (xs ++ ys)
each_may-append May before [] ys hs ks = subst (λ (zs : List _). EachMay May zs ys) (append-nil before) ks
each_may-append May before (x ∷ xs) ys hs ks =
    (hs.0, each_may-append May (before ++ x ∷ []) xs ys hs.1 (subst (λ (zs : List _). EachMay May zs ys) (sym (append_assoc before (x ∷ []) xs)) ks))

pub each_may-push : {X : Type 0} (May : List X → X → Type 0) (before : List X) (x : X) → EachMay May [] before → May before x → EachMay May [] (before ++ x ∷ [])
each_may-push May before x hs h = each_may-append May [] before (x ∷ []) hs (h, tt)

-- what was read behind some items
pub record Read {X : Type 0} (text : X → List ℕ) (May : List X → X → Type 0) (before : List X) (bytes : List ℕ) (more : List X) (rest : List ℕ) : Type 0 where
  pub parts : bytes ≡ flat_map text more ++ rest
  pub each : EachMay May before more

module _ {X : Type 0} (text : X → List ℕ) (May : List X → X → Type 0) (read : At X) (test : List X → X → Bool) (fitting : Fitting text May read test) where
  pub checked_takes : (before : List X) (bytes : List ℕ) (x : X × List ℕ) → IsBytes bytes → checked_at read test before bytes ≡ Some x → Takes text (May before) bytes x.0 x.1
  checked_takes before bytes x b e =
      option_and_then_some (λ y. cond (test before y.0) (Some y) None) (read bytes) x e (λ y first second.
      let is = cond_some (test before y.0) y x second in
      let Taken : X × List ℕ → Type 0 = λ z. Takes text (May before) bytes z.0 z.1 in
      subst Taken is.1 (fitting.takes bytes before y.0 y.1 b first is.0))

  checked_again : (before : List X) (x : X) (rest : List ℕ) → EachMay May [] before → length before + length (text x ++ rest) < 2 ^ 64 → May before x → checked_at read test before (text x ++ rest) ≡ Some (x, rest)
  checked_again before x rest each short may =
      let is = fitting.again before x rest each (omega arith) (omega arith) may in
      ap (option_and_then (λ y. cond (test before y.0) (Some y) None)) is.0 ∙ ap (λ (b : Bool). cond b (Some (x, rest)) None) is.1

  -- room that stays while items are read
  moved : (before : List X) (x : X) (rest : List ℕ) → length before + length (text x ++ rest) < 2 ^ 64 → length (before ++ x ∷ []) + length rest < 2 ^ 64
  moved before x rest short =
      let long = fitting.long x in
      omega (arith, length-append before (x ∷ []), length-append (text x) rest)

  one_more : (before more : List X) (x : X) (bytes : List ℕ) (middle rest : List ℕ) → Takes text (May before) bytes x middle → Read text May (before ++ x ∷ []) middle more rest → Read text May before bytes (x ∷ more) rest
  one_more before more x bytes middle rest head tail = record {
    parts = head.parts ∙ ap (λ (zs : List ℕ). text x ++ zs) tail.parts ∙ sym (append_assoc (text x) (flat_map text more) rest);
    each = (head.fits, tail.each);
  }

  -- ---- to the end

  pub items_take : (count place : ℕ) (before : List X) (bytes : List ℕ) (items : List X × List ℕ) → IsBytes bytes → items_at read test count place before bytes ≡ Ok items
      → (more : List X) × ((items.0 ≡ before ++ more) × ((length more ≡ count) × Read text May before bytes more items.1))
  items_take zero place before bytes items b e =
      let same : ◌≡◌ {A = List X × List ℕ} (before, bytes) items = cc in
      ([], (ap (λ y. y.0) (sym same) ∙ sym (append-nil before), (refl, record { parts = ap (λ y. y.1) same; each = tt })))
  items_take (suc count) place before bytes items b e = stepped (checked_at read test before bytes) refl e (λ x c later. items_take count (suc place) (before ++ x.0 ∷ []) x.1 items c later)
    where
      stepped : (piece : Option (X × List ℕ)) → checked_at read test before bytes ≡ piece → then_from place piece (λ x. items_at read test count (suc place) (before ++ x.0 ∷ []) x.1) ≡ Ok items
          → ((x : X × List ℕ) → IsBytes x.1 → items_at read test count (suc place) (before ++ x.0 ∷ []) x.1 ≡ Ok items
          → (more : List X) × ((items.0 ≡ (before ++ x.0 ∷ []) ++ more) × ((length more ≡ count) × Read text May (before ++ x.0 ∷ []) x.1 more items.1)))
          → (more : List X) × ((items.0 ≡ before ++ more) × ((length more ≡ suc count) × Read text May before bytes more items.1))
      stepped None is later next = absurd (cc)
      stepped (Some x) is later next =
          let head = checked_takes before bytes x b is in
          let tail = next x (bytes_behind (text x.0) x.1 bytes head.parts b) later in
          (x.0 ∷ tail.0, (tail.1.0 ∙ append_assoc before (x.0 ∷ []) tail.0, (ap suc tail.1.1.0, one_more before tail.0 x.0 bytes x.1 items.1 head tail.1.1.1)))

  pub items_again : (more : List X) (place : ℕ) (before : List X) (rest : List ℕ) → EachMay May [] before → EachMay May before more → length before + length (flat_map text more ++ rest) < 2 ^ 64
      → items_at read test (length more) place before (flat_map text more ++ rest) ≡ Ok (before ++ more, rest)
  items_again [] place before rest each may short = ap (λ (xs : List X). Ok (xs, rest)) (sym (append-nil before))
  items_again (x ∷ more) place before rest each may short =
      let behind = flat_map text more ++ rest in
      let room : length before + length (text x ++ behind) < 2 ^ 64 = subst (λ (xs : List ℕ). length before + length xs < 2 ^ 64) (append_assoc (text x) (flat_map text more) rest) short in
      let first = checked_again before x behind each room may.0 in
      let later = items_again more (suc place) (before ++ x ∷ []) rest (each_may-push May before x each may.0) may.1 (moved before x behind room) in
      ap (λ (xs : List ℕ). items_at read test (suc (length more)) place before xs) (append_assoc (text x) (flat_map text more) rest)
      ∙ ap (λ piece. then_from place piece (λ y. items_at read test (length more) (suc place) (before ++ y.0 ∷ []) y.1)) first
      ∙ later ∙ ap (λ (xs : List X). Ok (xs, rest)) (append_assoc before (x ∷ []) more)

  -- ---- to where it stops

  -- these items, and then none where there is to be one
  abbrev pub StopsBehind : ℕ → ℕ → ℕ → List X → List ℕ → Type 0
  StopsBehind count place at before bytes =
      (more : List X) × ((rest : List ℕ) × ((at ≡ place + length more) × ((length more < count) × (Read text May before bytes more rest × NoneFollows text May (before ++ more) rest))))

  pub items_stop : (count place at : ℕ) (before : List X) (bytes : List ℕ) → IsBytes bytes → EachMay May [] before → length before + length bytes < 2 ^ 64 → items_at read test count place before bytes ≡ Err at
      → StopsBehind count place at before bytes
  items_stop zero place at before bytes b each short e = absurd (cc)
  items_stop (suc count) place at before bytes b each short e = stepped (checked_at read test before bytes) refl e (λ x c more room later. items_stop count (suc place) at (before ++ x.0 ∷ []) x.1 c more room later)
    where
      stepped : (piece : Option (X × List ℕ)) → checked_at read test before bytes ≡ piece → then_from place piece (λ x. items_at read test count (suc place) (before ++ x.0 ∷ []) x.1) ≡ Err at
          → ((x : X × List ℕ) → IsBytes x.1 → EachMay May [] (before ++ x.0 ∷ []) → length (before ++ x.0 ∷ []) + length x.1 < 2 ^ 64 → items_at read test count (suc place) (before ++ x.0 ∷ []) x.1 ≡ Err at
          → StopsBehind count (suc place) at (before ++ x.0 ∷ []) x.1)
          → StopsBehind (suc count) place at before bytes
      stepped None is later next =
          let here : place ≡ at = cc in
          let none : NoneFollows text May (before ++ []) bytes = subst (λ (xs : List X). NoneFollows text May xs bytes) (sym (append-nil before)) (λ x after may parts.
          none-some (x, after) (sym is ∙ ap (checked_at read test before) parts ∙ checked_again before x after each (subst (λ (xs : List ℕ). length before + length xs < 2 ^ 64) parts short) may)) in
          ([], (bytes, (omega arith, (omega arith, (record { parts = refl; each = tt }, none)))))
      stepped (Some x) is later next =
          let head = checked_takes before bytes x b is in
          let room : length (before ++ x.0 ∷ []) + length x.1 < 2 ^ 64 = moved before x.0 x.1 (subst (λ (xs : List ℕ). length before + length xs < 2 ^ 64) head.parts short) in
          let tail = next x (bytes_behind (text x.0) x.1 bytes head.parts b) (each_may-push May before x.0 each head.fits) room later in
          let none = subst (λ (xs : List X). NoneFollows text May xs tail.1.0) (append_assoc before (x.0 ∷ []) tail.0) tail.1.1.1.1.1 in
          (x.0 ∷ tail.0, (tail.1.0, (tail.1.1.0 ∙ omega arith, (omega (arith, tail.1.1.1.0), (one_more before tail.0 x.0 bytes x.1 tail.1.0 head tail.1.1.1.1.0, none)))))

  pub stop_again : (more : List X) (count place : ℕ) (before : List X) (bytes rest : List ℕ) → IsBytes rest → EachMay May [] before → EachMay May before more → bytes ≡ flat_map text more ++ rest → length before + length bytes < 2 ^ 64
      → length more < count → NoneFollows text May (before ++ more) rest → items_at read test count place before bytes ≡ Err (place + length more)
  stop_again more zero place before bytes rest b each may parts short few none = absurd (omega arith)
  stop_again [] (suc count) place before bytes rest b each may parts short few none = stepped (checked_at read test before bytes) refl
    where
      stepped : (piece : Option (X × List ℕ)) → checked_at read test before bytes ≡ piece → then_from place piece (λ x. items_at read test count (suc place) (before ++ x.0 ∷ []) x.1) ≡ Err (place + 0)
      stepped None is = ap Err (omega arith)
      stepped (Some x) is =
          let head = checked_takes before rest x b (ap (checked_at read test before) (sym parts) ∙ is) in
          absurd (none x.0 x.1 (subst (λ (xs : List X). May xs x.0) (sym (append-nil before)) head.fits) head.parts)
  stop_again (x ∷ more) (suc count) place before bytes rest b each may parts short few none =
      let behind = flat_map text more ++ rest in
      let whole : bytes ≡ text x ++ behind = parts ∙ append_assoc (text x) (flat_map text more) rest in
      let room : length before + length (text x ++ behind) < 2 ^ 64 = subst (λ (xs : List ℕ). length before + length xs < 2 ^ 64) whole short in
      let first = checked_again before x behind each room may.0 in
      let later = stop_again more count (suc place) (before ++ x ∷ []) behind rest b (each_may-push May before x each may.0) may.1 refl (moved before x behind room) (omega arith)
      (subst (λ (xs : List X). NoneFollows text May xs rest) (sym (append_assoc before (x ∷ []) more)) none) in
      let at : suc place + length more ≡ place + suc (length more) = omega arith in
      ap (λ (xs : List ℕ). items_at read test (suc count) place before xs) whole
      ∙ ap (λ piece. then_from place piece (λ y. items_at read test count (suc place) (before ++ y.0 ∷ []) y.1)) first
      ∙ later ∙ ap Err at
