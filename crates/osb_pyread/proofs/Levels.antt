-- What is read is nested no deeper than is allowed.
use Rattle.std.proofs.Common.{ℕ, zero, suc, ◌≤◌, Bool, true, false, cond, eqb, List, [], ◌∷◌, ◌++◌, codes, length, Option, Some, None, Ordering, Less, Equal, Greater, arith}
use Rattle.std.specs.Ordering.{nat_cmp, match_ordering}
use Rattle.std.specs.Cmp.Lexicographic.{slice_cmp}
use Rattle.serde_json.specs.Data.{Data, null, boolean, number, string, array, object, Members, no_members, member, put, depth, items_depth, members_depth}
use Rattle.serde_json.specs.View.{items_of}
use Rattle.osb_pyread.specs.Steps.{◌>>=◌, made, behind, ends_at, until}
use Rattle.osb_pyread.specs.Numerals.{number_at}
use Rattle.osb_pyread.specs.Quotes.{quoted_at}
use Rattle.osb_pyread.specs.Nests.{Reader, skip_comma, word_at, plain_at, items_at, member_at, members_at, nested_at, value_at}

abbrev pub Holds : {A : Type 0} → (A → Type 0) → Option (A × List ℕ) → Type 0
Holds P None = Unit {0}
Holds P (Some x) = P x.0

abbrev pub Shallow : ℕ → Option (Data × List ℕ) → Type 0
Shallow d read = Holds (λ v. depth v ≤ d) read

Holds-cond : {A : Type 0} (P : A → Type 0) (b : Bool) (x y : Option (A × List ℕ)) → Holds P x → Holds P y → Holds P (cond b x y)
Holds-cond P true x y p q = p
Holds-cond P false x y p q = q

Holds-bind : {A B : Type 0} (P : B → Type 0) (o : Option A) (f : A → Option (B × List ℕ)) → ((a : A) → Holds P (f a)) → Holds P (o >>= f)
Holds-bind P None f h = tt
Holds-bind P (Some a) f h = h a

Holds-then : {A B : Type 0} (Q : A → Type 0) (P : B → Type 0) (o : Option (A × List ℕ)) (f : A × List ℕ → Option (B × List ℕ)) → Holds Q o → ((a : A × List ℕ) → Q a.0 → Holds P (f a)) → Holds P (o >>= f)
Holds-then Q P None f q h = tt
Holds-then Q P (Some a) f q h = h a q

module _ {S X : Type 0} (Q : S → Type 0) (P : X → Type 0) (close : List ℕ) (next : List ℕ → Option (X × List ℕ)) (add : S → X → S) (each : (bytes : List ℕ) → Holds P (next bytes)) (kept : (s : S) (x : X) → Q s → P x → Q (add s x)) where
  ended : (b : Option (List ℕ)) (s : S) (more : Option (S × List ℕ)) → Q s → Holds Q more → Holds Q (ends_at b s more)
  ended None s more q h = h
  ended (Some rest) s more q h = q

  Holds-until : (n : ℕ) (s : S) (bytes : List ℕ) → Q s → Holds Q (until close next add n s bytes)
  unfolding until
  Holds-until zero s bytes q = tt
  Holds-until (suc n) s bytes q =
      ended (behind close bytes) s (next bytes >>= λ x. until close next add n (add s x.0) x.1) q
      (Holds-then P Q (next bytes) (λ x. until close next add n (add s x.0) x.1) (each bytes) (λ x p. Holds-until n (add s x.0) x.1 (kept s x.0 q p)))

-- ---- items and members

items_depth-push : (items : List Data) (v : Data) (d : ℕ) → items_depth (items_of items) ≤ d → depth v ≤ d → items_depth (items_of (items ++ v ∷ [])) ≤ d
items_depth-push [] v d p q = omega arith
items_depth-push (i ∷ items) v d p q =
    let rest : items_depth (items_of items) ≤ d = omega arith in
    omega (arith, items_depth-push items v d rest q)

by_order : (o : Ordering) (a b c : Members) (d : ℕ) → members_depth a ≤ d → members_depth b ≤ d → members_depth c ≤ d → members_depth (match_ordering o a b c) ≤ d
by_order Less a b c d p q r = p
by_order Equal a b c d p q r = q
by_order Greater a b c d p q r = r

members_depth-put : (k : List ℕ) (v : Data) (ms : Members) (d : ℕ) → depth v ≤ d → members_depth ms ≤ d → members_depth (put k v ms) ≤ d
members_depth-put k v no_members d p q = omega arith
members_depth-put k v (member l e ms) d p q =
    by_order (slice_cmp nat_cmp k l) (member k v (member l e ms)) (member l v ms) (member l e (put k v ms)) d (omega arith) (omega arith) (omega (arith, members_depth-put k v ms d p (omega arith)))

-- ---- values

made_shallow : {A : Type 0} (make : A → Data) (d : ℕ) (o : Option (A × List ℕ)) → ((a : A) → depth (make a) ≤ d) → Shallow d (made make o)
made_shallow make d o h = Holds-bind (λ v. depth v ≤ d) o (λ x. Some (make x.0, x.1)) (λ x. h x.0)

word_shallow : (word : List ℕ) (v : Data) (d : ℕ) (bytes : List ℕ) → depth v ≤ d → Shallow d (word_at word v bytes)
word_shallow word v d bytes h = Holds-bind (λ x. depth x ≤ d) (behind word bytes) (λ rest. Some (v, rest)) (λ rest. h)

plain_shallow : (d : ℕ) (bytes : List ℕ) → Shallow d (plain_at bytes)
unfolding plain_at
plain_shallow d [] = tt
plain_shallow d (c ∷ rest) =
    let P : Data → Type 0 = λ v. depth v ≤ d in
    Holds-cond P (eqb c 34) _ _ (made_shallow string d (quoted_at (c ∷ rest)) (λ a. omega arith))
    (Holds-cond P (eqb c 110) _ _ (word_shallow (codes "null") null d (c ∷ rest) (omega arith))
    (Holds-cond P (eqb c 116) _ _ (word_shallow (codes "true") (boolean true) d (c ∷ rest) (omega arith))
    (Holds-cond P (eqb c 102) _ _ (word_shallow (codes "false") (boolean false) d (c ∷ rest) (omega arith))
    (made_shallow number d (number_at (c ∷ rest)) (λ a. omega arith)))))

member_shallow : (read : Reader) (d : ℕ) → ((bytes : List ℕ) → Shallow d (read bytes)) → (bytes : List ℕ) → Holds (λ m. depth m.1 ≤ d) (member_at read bytes)
member_shallow read d each bytes =
    let P : List ℕ × Data → Type 0 = λ m. depth m.1 ≤ d in
    Holds-bind P (quoted_at (skip_comma bytes)) (λ key. behind (codes ": ") key.1 >>= λ rest. read rest >>= λ v. Some ((key.0, v.0), v.1))
    (λ key. Holds-bind P (behind (codes ": ") key.1) (λ rest. read rest >>= λ v. Some ((key.0, v.0), v.1))
    (λ rest. Holds-then (λ v. depth v ≤ d) P (read rest) (λ v. Some ((key.0, v.0), v.1)) (each rest) (λ v h. h)))

nested_shallow : (read : Reader) (d : ℕ) → ((bytes : List ℕ) → Shallow d (read bytes)) → (bytes : List ℕ) → Shallow (suc d) (nested_at read bytes)
unfolding nested_at
nested_shallow read d each [] = tt
nested_shallow read d each (c ∷ rest) =
    let P : Data → Type 0 = λ v. depth v ≤ suc d in
    let Few : List Data → Type 0 = λ items. items_depth (items_of items) ≤ d in
    let FewMembers : Members → Type 0 = λ ms. members_depth ms ≤ d in
    let items = Holds-until Few (λ v. depth v ≤ d) (codes "]") (λ bytes. read (skip_comma bytes)) (λ items v. items ++ v ∷ []) (λ bytes. each (skip_comma bytes)) (λ items v p q. items_depth-push items v d p q) (length rest) [] rest (omega arith) in
    let members = Holds-until FewMembers (λ m. depth m.1 ≤ d) (codes "}") (member_at read) (λ ms m. put m.0 m.1 ms) (member_shallow read d each) (λ ms m p q. members_depth-put m.0 m.1 ms d q p) (length rest) no_members rest (omega arith) in
    Holds-cond P (eqb c 91) _ _ (Holds-then Few P (items_at read (length rest) [] rest) (λ x. Some (array (items_of x.0), x.1)) items (λ x h. omega (arith, h)))
    (Holds-cond P (eqb c 123) _ _ (Holds-then FewMembers P (members_at read (length rest) no_members rest) (λ x. Some (object x.0, x.1)) members (λ x h. omega (arith, h)))
    (plain_shallow (suc d) (c ∷ rest)))

pub value_shallow : (d : ℕ) (bytes : List ℕ) → Shallow d (value_at d bytes)
unfolding value_at
value_shallow zero bytes = plain_shallow 0 bytes
value_shallow (suc d) bytes = nested_shallow (value_at d) d (value_shallow d) bytes
