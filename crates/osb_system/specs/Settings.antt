-- What a system is told: files and links of `/etc`, and the texts that go there.
use Rattle.std.specs.Prelude.{ℕ, ◌==◌, Bool, not, ◌&&◌, List, [], ◌∷◌, length, nat_le, codes}
use Rattle.std.specs.List.{list_all}
use Rattle.osb_tree.specs.Paths.{Names}
use Rattle.osb_tree.specs.Trees.{Listing}
use Rattle.osb_tree.specs.declared.nodes.Node.TheVariants.{File}
use Rattle.osb_stages.specs.Rules.{Effect, with_leaf}
use Rattle.osb_system.specs.declared.settings.SystemFile.{SystemFile}
use Rattle.osb_system.specs.declared.settings.SystemFile.TheVariants.{Hostname, Locale, Localtime, Console, MachineId}

abbrev pub system_path : SystemFile → Names
system_path Hostname = codes "etc" ∷ codes "hostname" ∷ []
system_path Locale = codes "etc" ∷ codes "locale.conf" ∷ []
system_path Localtime = codes "etc" ∷ codes "localtime" ∷ []
system_path Console = codes "etc" ∷ codes "vconsole.conf" ∷ []
system_path MachineId = codes "etc" ∷ codes "machine-id" ∷ []

-- 1 to some bytes, which all pass
abbrev pub is_setting : ℕ → (ℕ → Bool) → List ℕ → Bool
is_setting last passes text = nat_le 1 (length text) && nat_le (length text) last && list_all passes text

-- what stands within a line
abbrev pub is_line_byte : ℕ → Bool
is_line_byte byte = not (byte == 0) && not (byte == 10)

-- a file of a text, with owners 0
abbrev pub with_file : SystemFile → ℕ → List ℕ → Listing → Effect
with_file file mode text listing = with_leaf (system_path file) (File mode 0 0 text) listing
