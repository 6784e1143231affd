-- The rules of one set, in their order. A set has its number from 1, and its species the id that the team has.
use Rattle.std.specs.Prelude.{ℕ, Bool, not, List, [], ◌∷◌, length, slice_index, decimal, Result, Ok, ⊤, nat_le, nat_lt}
use Rattle.std.specs.List.{list_any}
use Rattle.ps_base.specs.Ids.{id_of}
use Rattle.ps_base.specs.declared.team_rule.TeamRule.TheVariants.{UnknownSpecies, BannedSpecies, LevelTooLow, LevelTooHigh, NoMoves}
use Rattle.ps_base.specs.declared.team_rule.TeamRule.TheVariants.{EvTooHigh}
use Rattle.ps_data.specs.Reading.{◌>>=◌}
use Rattle.ps_mon.specs.declared.team.Member.{Member}
use Rattle.ps_packed.specs.declared.set.Set.{Set}
use Rattle.ps_dex.specs.declared.item.Tables.{Tables}
use Rattle.ps_dex.specs.Lookups.{species_of}
use Rattle.ps_rules.specs.declared.table.RuleTable.{RuleTable}
use Rattle.ps_valid.specs.declared.verdict.Verdict.{Verdict}
use Rattle.ps_valid.specs.Verdicts.{keeps, require_known}
use Rattle.ps_valid.specs.MoveRows.{is_number, each_move}
use Rattle.ps_valid.specs.Members.{member_of}

-- a ban names the species, by its id or by an alias
abbrev pub is_banned_species : Tables → List (List ℕ) → ℕ → Bool
is_banned_species dex bans species = list_any (λ ban. is_number (species_of ban dex) species) bans

-- ---- the rows

-- the dex has the species, by its id or by an alias
unfoldable pub unknown_species : Tables → ℕ → List ℕ → Result ℕ Verdict
unknown_species dex number id = require_known number UnknownSpecies id (species_of id dex)

unfoldable pub banned_species : Tables → RuleTable → ℕ → List ℕ → ℕ → Result ⊤ Verdict
banned_species dex rules number id species = keeps number BannedSpecies id (not (is_banned_species dex rules.bans species))

unfoldable pub level_too_low : RuleTable → ℕ → ℕ → Result ⊤ Verdict
level_too_low rules number level = keeps number LevelTooLow (decimal level) (nat_le (slice_index rules.levels 0) level)

unfoldable pub level_too_high : RuleTable → ℕ → ℕ → Result ⊤ Verdict
level_too_high rules number level = keeps number LevelTooHigh (decimal level) (nat_le level (slice_index rules.levels 1))

unfoldable pub no_moves : ℕ → List ℕ → List (List ℕ) → Result ⊤ Verdict
no_moves number id moves = keeps number NoMoves id (nat_lt 0 (length moves))

-- each of the six, in the order of the team
abbrev pub ev_too_high : ℕ → List ℕ → Result ⊤ Verdict
ev_too_high number [] = Ok tt
ev_too_high number (ev ∷ evs) = keeps number EvTooHigh (decimal ev) (nat_le ev 252) >>= λ _. ev_too_high number evs

-- ---- one set: the member that it makes

unfoldable pub member_in : Tables → RuleTable → ℕ → Set → Result Member Verdict
member_in dex rules number set = do
  species ← unknown_species dex number (id_of set.species)
  _ ← banned_species dex rules number (id_of set.species) species
  _ ← level_too_low rules number set.level
  _ ← level_too_high rules number set.level
  _ ← no_moves number (id_of set.species) set.moves
  moves ← each_move dex rules number species [] set.moves
  _ ← ev_too_high number set.evs
  Ok (member_of dex species set moves)
