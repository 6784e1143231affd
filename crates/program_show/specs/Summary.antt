-- What is told of a dex and a configuration.
use Rattle.std.specs.Prelude.{◌≡◌, ℕ, List, [], ◌∷◌, ◌++◌, length, map, codes, decimal}
use Rattle.ps_dex.specs.declared.item.Tables.{Tables}
use Rattle.ps_rules.specs.declared.table.Format.{Format}
use Rattle.ps_rules.specs.declared.table.Said.{Said}
use Rattle.rules_config.specs.declared.settings.Registered.{Registered}
use Rattle.rules_config.specs.declared.settings.Settings.{Settings}
use Rattle.file_help.specs.declared.page.Row.{Row}
use Rattle.file_help.specs.declared.page.Section.{Section}
use Rattle.program_show.specs.DexRows.{type_row, all_factors, move_row, kind_words, kind_row, species_row, alias_row}
use Rattle.program_show.specs.ConfigRows.{group_rows, room_row, user_row, setup_rows}
use Rattle.program_show.specs.FormatRows.{format_section, left_section}
use Rattle.program_show.specs.RulesetRows.{set_row}
use Rattle.program_show.specs.DrillRows.{IsDrill}

-- ---- how many there are of each

abbrev pub count_row : List ℕ → ℕ → Row
count_row key count = record { key = key; value = decimal count }

unfoldable pub count_rows : Tables → Settings → List Row
count_rows dex settings =
    count_row (codes "types") (length dex.types)
    ∷ count_row (codes "moves") (length dex.moves)
    ∷ count_row (codes "species") (length dex.species)
    ∷ count_row (codes "aliases") (length dex.aliases)
    ∷ count_row (codes "groups") (length settings.groups)
    ∷ count_row (codes "rooms") (length settings.rooms)
    ∷ count_row (codes "registered names") (length settings.users)
    ∷ count_row (codes "rulesets") (length settings.formats.rulesets)
    ∷ count_row (codes "formats") (length settings.formats.formats)
    ∷ []

-- ---- the dex, and the configuration

abbrev pub section : List ℕ → List Row → Section
section title rows = record { title = title; rows = rows }

abbrev pub type_sections : Tables → List Section
type_sections dex =
    section (codes "Types") (map type_row dex.types)
    ∷ section (codes "Factors in tenths") (all_factors dex.types dex.factors)
    ∷ []

abbrev pub move_sections : Tables → List Section
move_sections dex =
    section (codes "Moves") (map (move_row dex.types) dex.moves)
    ∷ section (codes "Moves by kind of effect") (map (kind_row dex.moves) kind_words)
    ∷ []

abbrev pub species_sections : Tables → List Section
species_sections dex =
    section (codes "Species") (map (species_row dex.types dex.moves) dex.species)
    ∷ section (codes "Aliases") (map (alias_row dex) dex.aliases)
    ∷ []

abbrev pub config_sections : Settings → List Section
config_sections settings =
    section (codes "Groups") (group_rows settings.groups 0 settings.groups)
    ∷ section (codes "Rooms") (map room_row settings.rooms)
    ∷ section (codes "Registered names") (map (user_row settings.groups) settings.users)
    ∷ section (codes "Setup") (setup_rows settings)
    ∷ []

abbrev pub rule_sections : Tables → Said → List Section
rule_sections dex said = section (codes "Rulesets") (map (set_row said) said.rulesets) ∷ [] ++ map (format_section dex) said.formats

-- ---- all of it

-- without a format: both files, and these rows on the battle of a drill
unfoldable pub whole : Tables → Settings → List Row → List Section
whole dex settings drill =
    section (codes "Counts") (count_rows dex settings) ∷ [] ++ type_sections dex ++ move_sections dex ++ species_sections dex
    ++ config_sections settings ++ rule_sections dex settings.formats ++ section (codes "A drill would play") drill ∷ []

-- these sections are told of both files
abbrev pub IsWhole : Tables → Settings → List Section → Type 0
IsWhole dex settings sections = (drill : List Row) × IsDrill dex settings drill × (sections ≡ whole dex settings drill)

-- with one: that format, and what may stand in it
abbrev pub of_format : Tables → Format → List Section
of_format dex format = format_section dex format ∷ left_section dex format ∷ []

-- the same configuration, in which each secret that isn't empty is a star
abbrev pub starred : List ℕ → List ℕ
starred [] = []
starred (byte ∷ secret) = codes "*"

abbrev pub hidden : Registered → Registered
hidden user = record { id = user.id; secret = starred user.secret; rank = user.rank }

abbrev pub without_secrets : Settings → Settings
without_secrets settings = record {
  groups = settings.groups;
  staff = settings.staff;
  rooms = settings.rooms;
  users = map hidden settings.users;
  formats = settings.formats;
  nonce = settings.nonce;
  seed = settings.seed;
  seeds = settings.seeds;
  gives_nonce = settings.gives_nonce;
  gives_seed = settings.gives_seed;
}
