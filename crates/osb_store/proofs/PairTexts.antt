-- Pairs of a listing as texts.
use Rattle.std.proofs.Common.{◌≡◌, ℕ, ◌^◌, ◌==◌, ◌<◌, Bool, true, false, cond, List, [], ◌∷◌, ◌++◌, length, Some, None, refl, sym, ap, subst, ◌∙◌, arith}
use Rattle.std.specs.Prelude.{option_map}
use Rattle.std.specs.List.{AllByRecursion}
use Rattle.std.specs.Map.{keys_of, values_of}
use Rattle.std.specs.Str.{is_utf8}
use Rattle.std.proofs.lemmas.Bool.{eqb-true}
use Rattle.std.proofs.lemmas.List.{nil_from_length}
use Rattle.std.proofs.lemmas.Option.{none-some, same_Some, cond_some}
use Rattle.osb_tree.specs.Nodes.{InRange}
use Rattle.osb_tree.specs.Paths.{Names, IsPath, path_text}
use Rattle.osb_tree.specs.Trees.{Listing}
use Rattle.osb_tree.specs.declared.nodes.Node.{Node}
use Rattle.osb_tree.specs.declared.nodes.Node.TheVariants.{Dir, File, Link}
use Rattle.osb_store.specs.Entries.{pair_at}
use Rattle.osb_store.specs.Fields.{small_number, field}
use Rattle.osb_store.specs.Reading.{Parts, parts_at, path_at, path_of_text, field_at, parsed_at, node_of, utf8_of}
use Rattle.osb_store.specs.Rules.{HasTexts, HasTextTarget}
use Rattle.osb_store.specs.Texts.{node_text}
use Rattle.osb_store.proofs.PathTexts.{path_of_text-again, path_of_text-takes}
use Rattle.osb_store.proofs.Spelling.{Spells, Anything, field_spells, small_number_spells, both_spell, parsed_spells, tagged_spells, option_map_some}

-- ---- paths

-- a path that its own text gives
pub record IsOwn (names : Names) : Type 0 where
  pub given : path_of_text (path_text names) ≡ Some names

path_spells : Spells (λ names. field (path_text names)) IsOwn path_at
path_spells =
    parsed_spells field Anything field_at field_spells path_of_text path_text IsOwn
    (λ text names fits e.
    let is = sym (path_of_text-takes text names e).1 in
    (is, record { given = subst (λ t. path_of_text t ≡ Some names) is e }))
    (λ names own. (own.given, tt))

-- ---- the parts behind a node's first byte

abbrev parts_text : Parts → List ℕ
parts_text p = small_number p.0 ++ (small_number p.1.0 ++ (small_number p.1.1.0 ++ (field (path_text p.1.1.1.0) ++ field p.1.1.1.1)))

abbrev PartsFit : Parts → Type 0
PartsFit p = (p.0 < 2 ^ 32) × ((p.1.0 < 2 ^ 32) × ((p.1.1.0 < 2 ^ 32) × (IsOwn p.1.1.1.0 × Unit {0})))

parts_spells : Spells parts_text PartsFit parts_at
parts_spells =
    both_spell _ _ _ small_number_spells _ _ _
    (both_spell _ _ _ small_number_spells _ _ _
    (both_spell _ _ _ small_number_spells _ _ _
    (both_spell _ _ _ path_spells _ _ _ field_spells)))

-- ---- pairs

abbrev tag_of : Names × Node → ℕ
tag_of (path, Dir mode uid gid) = 1
tag_of (path, File mode uid gid bytes) = 2
tag_of (path, Link uid gid target) = 3

abbrev parts_of : Names × Node → Parts
parts_of (path, Dir mode uid gid) = (mode, (uid, (gid, (path, []))))
parts_of (path, File mode uid gid bytes) = (mode, (uid, (gid, (path, bytes))))
parts_of (path, Link uid gid target) = (511, (uid, (gid, (path, target))))

pub record PairFits (pair : Names × Node) : Type 0 where
  pub parts : PartsFit (parts_of pair)
  pub target : HasTextTarget pair.1

tagged_is : (pair : Names × Node) → tag_of pair ∷ parts_text (parts_of pair) ≡ node_text pair
tagged_is (path, Dir mode uid gid) = refl
tagged_is (path, File mode uid gid bytes) = refl
tagged_is (path, Link uid gid target) = refl

record IsMade (tag : ℕ) (parts : Parts) (pair : Names × Node) : Type 0 where
  pub tagged : tag ≡ tag_of pair
  pub is : parts ≡ parts_of pair
  pub target : HasTextTarget pair.1

dir_made : (parts : Parts) (pair : Names × Node) → cond (length parts.1.1.1.1 == 0) (Some (parts.1.1.1.0, Dir parts.0 parts.1.0 parts.1.1.0)) None ≡ Some pair → IsMade 1 parts pair
dir_made (mode, (uid, (gid, (path, content)))) pair e =
    let is = cond_some (length content == 0) (path, Dir mode uid gid) pair e in
    let none = nil_from_length content (eqb-true (length content) 0 is.0) in
    subst (IsMade 1 (mode, (uid, (gid, (path, content))))) is.1 (record { tagged = refl; is = ap (λ (c : List ℕ). (mode, (uid, (gid, (path, c))))) none; target = tt })

file_made : (parts : Parts) (pair : Names × Node) → Some (parts.1.1.1.0, File parts.0 parts.1.0 parts.1.1.0 parts.1.1.1.1) ≡ Some pair → IsMade 2 parts pair
file_made (mode, (uid, (gid, (path, content)))) pair e =
    subst (IsMade 2 (mode, (uid, (gid, (path, content))))) (same_Some (path, File mode uid gid content) pair e) (record { tagged = refl; is = refl; target = tt })

link_step : (mode uid gid : ℕ) (path : Names) (content : List ℕ) (pair : Names × Node) (all : Bool) → (mode == 511) ≡ all
    → cond all (option_map (λ target. (path, Link uid gid target)) (utf8_of content)) None ≡ Some pair → IsMade 3 (mode, (uid, (gid, (path, content)))) pair
link_step mode uid gid path content pair false m e = absurd (none-some pair e)
link_step mode uid gid path content pair true m e =
    option_map_some (λ target. (path, Link uid gid target)) (utf8_of content) pair e (λ target read same.
    let text = cond_some (is_utf8 content) content target read in
    subst (IsMade 3 (mode, (uid, (gid, (path, content))))) same (record {
      tagged = refl;
      is = λ i. (eqb-true mode 511 m i, (uid, (gid, (path, text.1 i))));
      target = ap is_utf8 (sym text.1) ∙ text.0;
    }))

made_step : (tag : ℕ) (parts : Parts) (pair : Names × Node) (one two three : Bool) → (tag == 1) ≡ one → (tag == 2) ≡ two → (tag == 3) ≡ three
    → cond one (cond (length parts.1.1.1.1 == 0) (Some (parts.1.1.1.0, Dir parts.0 parts.1.0 parts.1.1.0)) None)
    (cond two (Some (parts.1.1.1.0, File parts.0 parts.1.0 parts.1.1.0 parts.1.1.1.1))
    (cond three (cond (parts.0 == 511) (option_map (λ target. (parts.1.1.1.0, Link parts.1.0 parts.1.1.0 target)) (utf8_of parts.1.1.1.1)) None) None)) ≡ Some pair
    → IsMade tag parts pair
made_step tag parts pair true two three a b c e = subst (λ n. IsMade n parts pair) (sym (eqb-true tag 1 a)) (dir_made parts pair e)
made_step tag parts pair false true three a b c e = subst (λ n. IsMade n parts pair) (sym (eqb-true tag 2 b)) (file_made parts pair e)
made_step tag parts pair false false true a b c e = subst (λ n. IsMade n parts pair) (sym (eqb-true tag 3 c)) (link_step parts.0 parts.1.0 parts.1.1.0 parts.1.1.1.0 parts.1.1.1.1 pair (parts.0 == 511) refl e)
made_step tag parts pair false false false a b c e = absurd (none-some pair e)

made_from : (tag : ℕ) (parts : Parts) (pair : Names × Node) → node_of tag parts ≡ Some pair → IsMade tag parts pair
made_from tag (mode, (uid, (gid, (path, content)))) pair e = made_step tag (mode, (uid, (gid, (path, content)))) pair (tag == 1) (tag == 2) (tag == 3) refl refl refl e

made_again : (pair : Names × Node) → HasTextTarget pair.1 → node_of (tag_of pair) (parts_of pair) ≡ Some pair
made_again (path, Dir mode uid gid) t = refl
made_again (path, File mode uid gid bytes) t = refl
made_again (path, Link uid gid target) t = rw t refl

abbrev HasTag : ℕ → Names × Node → Type 0
HasTag tag pair = (tag ≡ tag_of pair) × PairFits pair

body_spells : (tag : ℕ) → Spells (λ pair. parts_text (parts_of pair)) (HasTag tag) (parsed_at (node_of tag) parts_at)
body_spells tag =
    parsed_spells parts_text PartsFit parts_at parts_spells (node_of tag) parts_of (HasTag tag)
    (λ parts pair fits e.
    let made = made_from tag parts pair e in
    (made.is, (made.tagged, record { parts = subst PartsFit made.is fits; target = made.target })))
    (λ pair has. (ap (λ n. node_of n (parts_of pair)) has.0 ∙ made_again pair has.1.target, has.1.parts))

pub pair_spells : Spells node_text PairFits pair_at
unfolding pair_at
pair_spells =
    tagged_spells node_text PairFits tag_of (λ pair. parts_text (parts_of pair)) (λ tag. parsed_at (node_of tag) parts_at) tagged_is
    (λ tag bytes pair rest b e.
    let head = (body_spells tag).takes bytes pair rest b e in
    record { parts = ap (λ (text : List ℕ). tag ∷ text) head.parts; fits = head.fits })
    (λ pair rest short fits. (body_spells (tag_of pair)).again pair rest short (refl, fits))

-- ---- which pairs fit

pub texts_from : (pair : Names × Node) → PairFits pair → HasTexts pair
texts_from (path, Dir mode uid gid) fits = record { path = (path_of_text-takes _ _ fits.parts.1.1.1.0.given).0; target = tt }
texts_from (path, File mode uid gid bytes) fits = record { path = (path_of_text-takes _ _ fits.parts.1.1.1.0.given).0; target = tt }
texts_from (path, Link uid gid target) fits = record { path = (path_of_text-takes _ _ fits.parts.1.1.1.0.given).0; target = fits.target }

pub pair_fits : (pair : Names × Node) → IsPath pair.0 → InRange pair.1 → HasTexts pair → PairFits pair
pair_fits (path, Dir mode uid gid) p r t = record { parts = (omega (arith, r.0), (omega (arith, r.1), (omega (arith, r.2), (record { given = path_of_text-again path p t.path }, tt)))); target = t.target }
pair_fits (path, File mode uid gid bytes) p r t = record { parts = (omega (arith, r.0), (omega (arith, r.1), (omega (arith, r.2), (record { given = path_of_text-again path p t.path }, tt)))); target = t.target }
pair_fits (path, Link uid gid target) p r t = record { parts = (omega arith, (omega (arith, r.0), (omega (arith, r.1), (record { given = path_of_text-again path p t.path }, tt)))); target = t.target }

pub pairs_fit : (pairs : Listing) → AllByRecursion IsPath (keys_of pairs) → AllByRecursion InRange (values_of pairs) → AllByRecursion HasTexts pairs → AllByRecursion PairFits pairs
pairs_fit [] p r t = tt
pairs_fit (pair ∷ pairs) p r t = (pair_fits pair p.0 r.0 t.0, pairs_fit pairs p.1 r.1 t.1)
