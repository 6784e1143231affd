-- What is told of a format.
use Rattle.std.specs.Prelude.{ℕ, ◌+◌, Bool, not, List, [], ◌∷◌, ◌++◌, codes, decimal, map, filter, slice_index, if◌then◌else◌}
use Rattle.std.specs.List.{filter_map}
use Rattle.ps_mon.specs.Clauses.{has_clause}
use Rattle.ps_dex.specs.declared.item.MoveItem.{MoveItem}
use Rattle.ps_dex.specs.declared.item.SpeciesItem.{SpeciesItem}
use Rattle.ps_dex.specs.declared.item.Tables.{Tables}
use Rattle.ps_dex.specs.Lookups.{species_of, move_of, name_of_move}
use Rattle.ps_dex.specs.Species.{has_number}
use Rattle.ps_rules.specs.declared.clause.Clause.{Clause}
use Rattle.ps_rules.specs.declared.clause.Clause.TheVariants as clauses
use Rattle.ps_rules.specs.declared.table.RuleTable.{RuleTable}
use Rattle.ps_rules.specs.declared.table.Format.{Format}
use Rattle.ps_rules.specs.Clauses.{bit_of, name_of}
use Rattle.file_help.specs.declared.page.Row.{Row}
use Rattle.file_help.specs.declared.page.Section.{Section}
use Rattle.file_help.specs.Pages.{listed}
use Rattle.program_show.specs.DexRows.{parts_text}

-- ---- clauses

abbrev pub clause_part : ℕ → Clause → List (List ℕ)
clause_part on clause = if has_clause on (bit_of clause) then name_of clause ∷ [] else []

-- the names of the clauses that are on
unfoldable pub clause_names : ℕ → List (List ℕ)
clause_names on =
    clause_part on clauses.Species ++ clause_part on clauses.Sleep ++ clause_part on clauses.Freeze ++ clause_part on clauses.Ohko
    ++ clause_part on clauses.Evasion ++ clause_part on clauses.Nickname ++ clause_part on clauses.Preview
    ++ clause_part on clauses.Percentage

-- ---- the rows

-- a ban: what its id stands for
abbrev pub ban_text : Tables → List ℕ → List ℕ
ban_text dex id = parts_text dex (species_of id dex) (move_of id dex)

-- `LEAST to GREATEST`
abbrev pub range_text : ℕ → ℕ → List ℕ
range_text least greatest = decimal least ++ codes " to " ++ decimal greatest

abbrev pub yes_or_no : Bool → List ℕ
yes_or_no answer = if answer then codes "yes" else codes "no"

unfoldable pub table_rows : Tables → RuleTable → List Row
table_rows dex table =
    record { key = codes "clauses"; value = listed (clause_names table.clauses) }
    ∷ record { key = codes "bans"; value = listed (map (ban_text dex) table.bans) }
    ∷ record { key = codes "members"; value = range_text table.min table.max }
    ∷ record { key = codes "levels"; value = range_text (slice_index table.levels 0) (slice_index table.levels 1) }
    ∷ record { key = codes "rated"; value = yes_or_no table.rated }
    ∷ []

abbrev pub format_rows : Tables → Format → List Row
format_rows dex format = record { key = codes "name"; value = format.name } ∷ table_rows dex format.table

abbrev pub format_section : Tables → Format → Section
format_section dex format = record { title = codes "Format " ++ format.id; rows = format_rows dex format }

-- ---- what may stand in a format

abbrev pub banned_species : Tables → List (List ℕ) → List ℕ
banned_species dex bans = filter_map (λ id. species_of id dex) bans

abbrev pub banned_moves : Tables → List (List ℕ) → List ℕ
banned_moves dex bans = filter_map (λ id. move_of id dex) bans

-- the names of the moves with these numbers that no ban names
abbrev pub left_moves : List MoveItem → List ℕ → List ℕ → List (List ℕ)
left_moves moves banned numbers = map (λ number. name_of_move number moves) (filter (λ number. not (has_number number banned)) numbers)

abbrev pub left_row : List MoveItem → List ℕ → SpeciesItem → Row
left_row moves banned species = record { key = species.name; value = listed (left_moves moves banned species.learns) }

-- a row for a species that no ban names
abbrev pub left_part : List MoveItem → List ℕ → List ℕ → ℕ → SpeciesItem → List Row
left_part moves banned_s banned_m index species = if has_number index banned_s then [] else left_row moves banned_m species ∷ []

-- a row for each species from an index on that no ban names, with its moves that no ban names
abbrev pub left_rows : List MoveItem → List ℕ → List ℕ → ℕ → List SpeciesItem → List Row
left_rows moves banned_s banned_m index [] = []
left_rows moves banned_s banned_m index (item ∷ species) =
    left_part moves banned_s banned_m index item ++ left_rows moves banned_s banned_m (index + 1) species

abbrev pub left_section : Tables → Format → Section
left_section dex format = record {
  title = codes "May stand in " ++ format.id;
  rows = left_rows dex.moves (banned_species dex format.table.bans) (banned_moves dex format.table.bans) 0 dex.species;
}
