-- Rule texts and rulesets.
use Rattle.std.specs.Prelude.{ℕ, ◌==◌, Bool, false, List, [], ◌∷◌, position, Option, bytes_eq}
use Rattle.ps_base.specs.Ids.{id_of}
use Rattle.ps_rules.specs.declared.table.Rule.{Rule}
use Rattle.ps_rules.specs.declared.table.Ruleset.{Ruleset}
use Rattle.ps_base.specs.Characters as characters

-- `!` stands at the front
abbrev pub begins_so : List ℕ → Bool
begins_so [] = false
begins_so (byte ∷ text) = byte == characters.exclamation_mark

-- a text names the id of what follows an optional `!`; an id has no `!` in it anyway
abbrev pub rule_of : List ℕ → Rule
rule_of text = record { id = id_of text; repeals = begins_so text }

-- the index of the ruleset with an id
unfoldable pub index_of : List ℕ → List Ruleset → Option ℕ
index_of id sets = position (λ rule_set. bytes_eq rule_set.id id) sets
