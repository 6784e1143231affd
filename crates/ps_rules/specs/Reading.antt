-- What rulesets and formats a configuration says.
use Rattle.std.specs.Prelude.{ℕ, ◌==◌, ◌&&◌, ◌||◌, Bool, true, not, List, [], ◌∷◌, length, codes, is_some, bytes_eq, Result, Ok, Err}
use Rattle.std.specs.Prelude.{nat_le}
use Rattle.std.specs.List.{list_any, list_all}
use Rattle.std.specs.Str.{chars}
use Rattle.serde_json.specs.Data.{Data}
use Rattle.ps_base.specs.Ids.{id_of}
use Rattle.ps_data.specs.declared.fault.DataKind.{DataKind}
use Rattle.ps_data.specs.declared.fault.DataKind.TheVariants.{Range, Unknown, Repeat}
use Rattle.ps_data.specs.declared.fault.Fault.{Fault}
use Rattle.ps_data.specs.Paths.{Index}
use Rattle.ps_data.specs.Reading.{◌>>=◌, refuse, under, ensure, required, optional}
use Rattle.ps_data.specs.Forms.{object_in, text_in, boolean_in, number_in, array_in}
use Rattle.ps_data.specs.Lists.{each, entries_at}
use Rattle.ps_data.specs.OwnIds.{has_id, key_id_in}
use Rattle.ps_dex.specs.declared.item.Tables.{Tables}
use Rattle.ps_dex.specs.Lookups.{species_of, move_of}
use Rattle.ps_rules.specs.declared.table.Rule.{Rule}
use Rattle.ps_rules.specs.declared.table.Ruleset.{Ruleset}
use Rattle.ps_rules.specs.declared.table.Format.{Format}
use Rattle.ps_rules.specs.declared.table.RuleTable.{RuleTable}
use Rattle.ps_rules.specs.declared.table.Said.{Said}
use Rattle.ps_rules.specs.declared.name.Named.{Named}
use Rattle.ps_rules.specs.declared.fault.RuleFault.{RuleFault}
use Rattle.ps_rules.specs.declared.fault.RuleFault.TheVariants as rule_faults
use Rattle.ps_rules.specs.declared.version.Version.{Version}
use Rattle.ps_rules.specs.Rules.{rule_of}
use Rattle.ps_rules.specs.Versions.{version_in, always_on}
use Rattle.ps_rules.specs.Walk.{clauses_of}
use Rattle.ps_base.specs.Characters as characters

-- ---- rulesets

abbrev pub rule_in : Data → Result Rule Fault
rule_in value = text_in value >>= λ text. Ok (rule_of text)

-- a list of rule texts; what they name is looked up where the list is walked
unfoldable pub rules_in : Data → Result (List Rule) Fault
rules_in value = do
  items ← array_in value
  each (λ before after. rule_in) [] items

-- the key is tested before the value
unfoldable pub ruleset_in : List Ruleset → List ℕ → Data → Result Ruleset Fault
ruleset_in before key value = do
  id ← key_id_in (λ rule_set. rule_set.id) before key
  rules ← rules_in value
  Ok (record { id = id; rules = rules })

-- ---- the name of a format

-- no control character below the space, and no bar
abbrev pub is_name_char : ℕ → Bool
is_name_char char = nat_le characters.space char && not (char == characters.bar)

unfoldable pub are_name_chars : List ℕ → Bool
are_name_chars cs = list_all is_name_char cs

-- such characters, at most 32, with an id that isn't empty, so at least one
unfoldable pub is_name : List ℕ → List ℕ → Bool
is_name cs id = are_name_chars cs && nat_le (length cs) 32 && not (length id == 0)

unfoldable pub has_format : List ℕ → List Format → Bool
has_format id formats = has_id (λ format. format.id) id formats

-- a name and its id, which no format before has
unfoldable pub name_in : List Format → Data → Result Named Fault
name_in before value = do
  text ← text_in value
  _ ← ensure Range (is_name (chars text) (id_of text))
  _ ← ensure Repeat (not (has_format (id_of text) before))
  Ok (record { name = text; id = id_of text })

-- ---- the rules of a format

-- the kind under which a configuration tells the first fault of a walk, which is never out of memory
abbrev pub kind_of : RuleFault → DataKind
kind_of (rule_faults.UnknownRule id) = Unknown
kind_of (rule_faults.Cycle id) = Repeat
kind_of (rule_faults.Contradiction id) = Range
kind_of rule_faults.NoMemory = Unknown

abbrev pub or_kind : Result ℕ RuleFault → Result ℕ Fault
or_kind (Ok clauses) = Ok clauses
or_kind (Err fault) = refuse (kind_of fault)

-- the clauses that are on by a format's rule list, or a fault of the list as a whole
unfoldable pub clauses_in : Version → List Ruleset → Data → Result ℕ Fault
clauses_in version sets value = do
  rules ← rules_in value
  or_kind (clauses_of version sets rules)

-- ---- bans: ids of species or moves or aliases of them, none of them twice

unfoldable pub has_ban : List ℕ → List (List ℕ) → Bool
has_ban id bans = list_any (λ ban. bytes_eq ban id) bans

-- a species or a move
abbrev pub is_known : List ℕ → Tables → Bool
is_known id dex = is_some (species_of id dex) || is_some (move_of id dex)

unfoldable pub ban_in : Tables → List (List ℕ) → Data → Result (List ℕ) Fault
ban_in dex before value = do
  text ← text_in value
  _ ← ensure Unknown (is_known (id_of text) dex)
  _ ← ensure Repeat (not (has_ban (id_of text) before))
  Ok (id_of text)

unfoldable pub bans_in : Tables → Data → Result (List (List ℕ)) Fault
bans_in dex value = do
  items ← array_in value
  each (λ before after. ban_in dex before) [] items

-- ---- levels: the least and the greatest, each 1 to 100

abbrev pub level_in : ℕ → Data → Result ℕ Fault
level_in index value = under (Index index) (number_in 1 100 value)

unfoldable pub two_levels_in : Data → Data → Result (List ℕ) Fault
two_levels_in least greatest = do
  low ← level_in 0 least
  high ← level_in 1 greatest
  Ok (low ∷ high ∷ [])

abbrev pub levels_of : List Data → Result (List ℕ) Fault
levels_of [] = refuse Range
levels_of (least ∷ []) = refuse Range
levels_of (least ∷ greatest ∷ []) = two_levels_in least greatest
levels_of (least ∷ greatest ∷ extra ∷ more) = refuse Range

unfoldable pub levels_in : Data → Result (List ℕ) Fault
levels_in value = do
  items ← array_in value
  levels_of items

-- ---- a format, and all of them

-- The keys behind the name, in their order. Without `rules` what is always on is on alone, as with an empty list.
unfoldable pub table_in : Version → List Ruleset → Tables → Data → Result RuleTable Fault
table_in version sets dex value = do
  clauses ← optional (codes "rules") (always_on version) (clauses_in version sets) value
  bans ← optional (codes "bans") [] (bans_in dex) value
  least ← optional (codes "min") 1 (number_in 1 6) value
  most ← optional (codes "max") 6 (number_in 1 6) value
  levels ← optional (codes "levels") (1 ∷ 100 ∷ []) levels_in value
  rated ← optional (codes "rated") true boolean_in value
  Ok (record { clauses = clauses; bans = bans; min = least; max = most; levels = levels; rated = rated })

unfoldable pub format_in : Version → List Ruleset → Tables → List Format → Data → Result Format Fault
format_in version sets dex before value = do
  _ ← object_in value
  named ← required (codes "name") (name_in before) value
  table ← table_in version sets dex value
  Ok (record { name = named.name; id = named.id; table = table })

unfoldable pub formats_in : Version → List Ruleset → Tables → Data → Result (List Format) Fault
formats_in version sets dex value = do
  items ← array_in value
  each (λ before after. format_in version sets dex before) [] items

-- the two keys of a configuration of a version, each of which may be missing
unfoldable pub said_in : Version → Tables → Data → Result Said Fault
said_in version dex value = do
  _ ← object_in value
  rulesets ← entries_at (codes "rulesets") ruleset_in value
  formats ← optional (codes "formats") [] (formats_in version rulesets dex) value
  Ok (record { version = version; rulesets = rulesets; formats = formats })

-- the same of a configuration by itself, whose version is read first
unfoldable pub said_of : Tables → Data → Result Said Fault
said_of dex value = version_in value >>= λ version. said_in version dex value
