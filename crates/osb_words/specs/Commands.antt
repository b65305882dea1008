-- The words behind `build`, as one simple command of clap's: options, a flag, and the manifests' names.
use Rattle.std.specs.Prelude.{ℕ, List, Some, true, codes}
use Rattle.clap.specs.Words.{App, Rule, new_app, new_rule, with_rule}
use Rattle.clap.specs.declared.builder.action.ArgAction.TheVariants.{Set, Append, SetTrue}

-- `--NAME VALUE`, once at most
abbrev pub option_rule : List ℕ → Rule
option_rule name = record (new_rule name) { long = Some name; action = Some Set }

-- which has to be there
abbrev pub needed_rule : List ℕ → Rule
needed_rule name = record (new_rule name) { long = Some name; action = Some Set; required = true }

-- `--NAME`, once at most
abbrev pub flag_rule : List ℕ → Rule
flag_rule name = record (new_rule name) { long = Some name; action = Some SetTrue }

-- words that are no options, one at least, between options too
abbrev pub others_rule : List ℕ → Rule
others_rule name = record (new_rule name) { action = Some Append; required = true }

-- the command's name is the first word
unfoldable pub build_app : App
build_app =
    with_rule (with_rule (with_rule (with_rule (with_rule (with_rule (with_rule (with_rule (with_rule (new_app (codes "build"))
    (option_rule (codes "store")))
    (needed_rule (codes "output")))
    (needed_rule (codes "export")))
    (option_rule (codes "checkpoint")))
    (option_rule (codes "limit")))
    (option_rule (codes "workers")))
    (option_rule (codes "mirror")))
    (flag_rule (codes "log")))
    (others_rule (codes "manifests"))
