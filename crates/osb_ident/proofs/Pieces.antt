-- Pieces that a hasher takes in, one after another.
use Rattle.std.proofs.Common.{◌≡◌, ℕ, ◌+◌, ◌<◌, ◌≤◌, Bool, true, false, List, [], ◌∷◌, ◌++◌, length, map, take, get_or, append_assoc, append-nil, refl, sym, ap, ◌∙◌, arith}
use Rattle.std.specs.Prelude.{codes}
use Rattle.std.proofs.lemmas.List.{length-map, map-append, take_all, take_more, take-map}
use Rattle.sha2.specs.declared.Sha256.{Sha256}
use Rattle.osb_ident.specs.Hashed.{Takes, separator}
use Rattle.osb_ident.specs.Idents.{member_text, members_text, object_text}

pub Takes-nil : (s : Sha256) → Takes s s []
Takes-nil s = record { holds = λ message h. rw append-nil h }

pub Takes-append : {a b c : Sha256} {first second : List ℕ} → Takes a b first → Takes b c second → Takes a c (first ++ second)
Takes-append f s = record { holds = λ message h. rw append_assoc at (s.holds _ (f.holds message h)) }

-- the same piece in another form
pub Takes-same : {a b : Sha256} {piece other : List ℕ} → Takes a b piece → piece ≡ other → Takes a b other
Takes-same f e = rw (← e) f

-- what stands before the first member, and before another
pub separator-first : (is_first : Bool) → is_first ≡ true → separator is_first ≡ []
separator-first is_first e = rw e refl

pub separator-later : (is_first : Bool) → is_first ≡ false → separator is_first ≡ codes ", "
separator-later is_first e = rw e refl

-- ---- members of an object

abbrev pub Entry : Type 0
Entry = List ℕ × List ℕ

abbrev pub is_nil : List Entry → Bool
is_nil [] = true
is_nil (entry ∷ entries) = false

is_nil-push : (entries : List Entry) (entry : Entry) → is_nil (entries ++ entry ∷ []) ≡ false
is_nil-push [] entry = refl
is_nil-push (first ∷ entries) entry = refl

-- one more member
members_text-push : (entries : List Entry) (entry : Entry)
    → members_text (entries ++ entry ∷ []) ≡ members_text entries ++ (separator (is_nil entries) ++ member_text entry)
unfolding members_text
members_text-push [] entry = refl
members_text-push (first ∷ []) entry = refl
members_text-push (first ∷ next ∷ entries) entry = rw (members_text-push (next ∷ entries) entry) (simp append_assoc)

pub Takes-no_members : (s : Sha256) → Takes s s (members_text [])
unfolding members_text
Takes-no_members s = Takes-nil s

-- an object of one member
pub Takes-one_member : {a b c d : Sha256} (key value shown : List ℕ) → key ≡ shown → Takes a b (codes "{")
    → Takes b c (separator true ++ member_text (key, value)) → Takes c d (codes "}") → Takes a d (object_text ((shown, value) ∷ []))
unfolding object_text members_text
Takes-one_member key value shown e begin member end = rw (← e) (Takes-append begin (Takes-append member end))

-- of members that are made of items
module _ {X : Type 0} (made : X → Entry) where
  entries_more : (items : List X) (i : ℕ) (item : X) → i < length items → item ≡ get_or items i item
      → take (i + 1) (map made items) ≡ take i (map made items) ++ made item ∷ []
  entries_more items i item within is =
      let e : take (i + 1) items ≡ take i items ++ item ∷ [] = take_more items i item within ∙ ap (λ (x : X). take i items ++ x ∷ []) (sym is) in
      take-map made (i + 1) items ∙ ap (map made) e ∙ map-append made (take i items) (item ∷ [])
      ∙ ap (λ (entries : List Entry). entries ++ made item ∷ []) (sym (take-map made i items))

  pub first-more : (items : List X) (i : ℕ) (item : X) → i < length items → item ≡ get_or items i item
      → false ≡ is_nil (take (i + 1) (map made items))
  first-more items i item within is = rw (entries_more items i item within is) (sym (is_nil-push (take i (map made items)) (made item)))

  pub Takes-member : {a b c : Sha256} (items : List X) (i : ℕ) (item : X) (is_first : Bool) (key value : List ℕ)
      → i < length items → item ≡ get_or items i item → is_first ≡ is_nil (take i (map made items))
      → key ≡ (made item).0 → value ≡ (made item).1
      → Takes a b (members_text (take i (map made items))) → Takes b c (separator is_first ++ member_text (key, value))
      → Takes a c (members_text (take (i + 1) (map made items)))
  Takes-member items i item is_first key value within is first k v before more =
      let entry : (key, value) ≡ made item = λ i. (k i, v i) in
      let piece : members_text (take i (map made items)) ++ (separator is_first ++ member_text (key, value)) ≡ members_text (take (i + 1) (map made items)) =
      rw (entry, first, entries_more items i item within is, members_text-push (take i (map made items)) (made item)) refl in
      Takes-same (Takes-append before more) piece

  pub members-all : (items : List X) (i : ℕ) → length items ≤ i → members_text (take i (map made items)) ≡ members_text (map made items)
  members-all items i past =
      let len = length-map items made in
      ap members_text (take_all i (map made items) (omega (arith, len)))
