-- Manifests that are read one after another: what was given of each, and the shelf's count of faults.
use Rattle.std.proofs.Common.{◌≡◌, ℕ, ◌+◌, ◌<◌, ◌≤◌, min, length, take, get_or, cond, List, [], ◌∷◌, ◌++◌, Option, IfSome, Ok, Err, sym, refl, ap, subst, ◌∙◌, arith}
use Rattle.std.proofs.lemmas.List.{take_more, take_all}
use Rattle.std.proofs.lemmas.List.Sums.{sum_by-append}
use Rattle.std.specs.List.{AllZip, count_by}
use Rattle.osb_base.specs.Faults.{HasCause}
use Rattle.osb_base.specs.Shelves.{Files, IsRead, IsCut}
use Rattle.osb_base.specs.declared.faults.ReadStop.TheVariants as stops
use Rattle.osb_ready.specs.Readying.{Reply}
use Rattle.osb_answers.specs.Exports.{RoseBy}
use Rattle.osb_top.specs.Readings.{IsCutGiven}
use Rattle.osb_top.specs.Wholes.{is_fault}
use Rattle.osb_top.proofs.Preparing.{zipped_more}

-- ---- the count

rose_twice : (top first between now m n : ℕ) → min (first + m) top ≤ between → min (between + n) top ≤ now → min (first + (m + n)) top ≤ now
rose_twice top first between now m n one two = omega arith

pub none_rose : (first now : ℕ) (reads : List Reply) → reads ≡ [] → first ≤ now → RoseBy (count_by is_fault reads) (record { before = first; now = now })
none_rose first now reads none later = rw none (omega arith)

one_rose : (between now : ℕ) (reply : Reply) → HasCause stops.Failed between now reply → RoseBy (count_by is_fault (reply ∷ [])) (record { before = between; now = now })
one_rose between now (Ok found) cause = omega (arith, cause.later)
one_rose between now (Err stops.NoMemory) cause = omega (arith, cause.later)
one_rose between now (Err stops.Failed) cause = cause.failed refl

pub more_rose : (first between now : ℕ) (reads more : List Reply) (reply : Reply) → more ≡ reads ++ reply ∷ [] → RoseBy (count_by is_fault reads) (record { before = first; now = between }) → HasCause stops.Failed between now reply
    → RoseBy (count_by is_fault more) (record { before = first; now = now })
more_rose first between now reads more reply pushed rose cause =
    let sum : count_by is_fault (reads ++ reply ∷ []) ≡ count_by is_fault reads + count_by is_fault (reply ∷ []) = sum_by-append (λ r. cond (is_fault r) 1 0) reads (reply ∷ []) in
    subst (λ n. RoseBy n (record { before = first; now = now })) (sym (ap (count_by is_fault) pushed ∙ sum))
    (rose_twice _ first between now _ _ rose (one_rose between now reply cause))

-- ---- what was given

pub given_cut : (first held : Option Files) (name : List ℕ) (reply : Reply) → held ≡ first → IfSome held (λ files. IsRead files name reply) → IsCut reply → IsCutGiven first name reply
given_cut first held name reply same read short = record { read = subst (λ (h : Option Files). IfSome h (λ files. IsRead files name reply)) same read; short = short }

module _ (held : Option Files) where
  pub given_more : (names : List (List ℕ)) (place : ℕ) (name text : List ℕ) (reads more : List Reply) (reply : Reply) → place < length names → name ≡ get_or names place name → text ≡ name → more ≡ reads ++ reply ∷ []
      → AllZip (IsCutGiven held) (take place names) reads → IsCutGiven held text reply → AllZip (IsCutGiven held) (take (place + 1) names) more
  given_more names place name text reads more reply within at same pushed are is =
      subst (λ list. AllZip (IsCutGiven held) list more) (sym (take_more names place name within ∙ ap (λ n. take place names ++ n ∷ []) (sym at)))
      (zipped_more (IsCutGiven held) (take place names) reads more name reply pushed are (subst (λ n. IsCutGiven held n reply) same is))

  pub given_all : (names : List (List ℕ)) (place : ℕ) (reads : List Reply) → length names ≤ place → AllZip (IsCutGiven held) (take place names) reads → AllZip (IsCutGiven held) names reads
  given_all names place reads past are = subst (λ list. AllZip (IsCutGiven held) list reads) (take_all place names past) are
