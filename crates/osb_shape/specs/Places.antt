-- Places in a JSON value: the names of members and the numbers of items from the top, as a JSON Pointer (RFC 6901)
-- writes them.
use Rattle.std.specs.Prelude.{ℕ, ◌==◌, List, [], ◌∷◌, ◌++◌, codes, encode_utf8, if◌then◌else◌}
use Rattle.std.specs.List.{flat_map}
use Rattle.std.specs.Fmt.{decimal}
use Rattle.std.specs.Str.{chars}

-- one step: into a member whose name needs no escape, into a member of any name, or into an item of a list
pub data Step : Type 0 where
  known : List ℕ → Step
  named : List ℕ → Step
  index : ℕ → Step

abbrev pub Place : Type 0
Place = List Step

-- `~` is written as `~0`, and `/` as `~1`
abbrev pub escaped_char : ℕ → List ℕ
escaped_char c = if c == 126 then codes "~0" else if c == 47 then codes "~1" else encode_utf8 c

-- each step after a `/`
abbrev pub step_text : Step → List ℕ
step_text (known name) = 47 ∷ name
step_text (named name) = 47 ∷ flat_map escaped_char (chars name)
step_text (index n) = 47 ∷ decimal n

-- the top is the empty text
abbrev pub place_text : Place → List ℕ
place_text place = flat_map step_text place

-- ---- places in a manifest

abbrev pub pipeline_place : ℕ → Place
pipeline_place i = known (codes "pipelines") ∷ index i ∷ []

abbrev pub stage_place : ℕ → ℕ → Place
stage_place i j = known (codes "pipelines") ∷ index i ∷ known (codes "stages") ∷ index j ∷ []

abbrev pub input_place : ℕ → ℕ → List ℕ → Place
input_place i j name = known (codes "pipelines") ∷ index i ∷ known (codes "stages") ∷ index j ∷ known (codes "inputs") ∷ named name ∷ []

abbrev pub source_place : List ℕ → Place
source_place source = known (codes "sources") ∷ named source ∷ []

abbrev pub item_place : List ℕ → List ℕ → Place
item_place source key = known (codes "sources") ∷ named source ∷ known (codes "items") ∷ named key ∷ []

-- a member of a known name of what stands at a place
abbrev pub member_place : Place → List ℕ → Place
member_place place name = place ++ known name ∷ []
