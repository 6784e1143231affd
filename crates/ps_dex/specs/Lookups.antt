-- What is looked up in a dex.
use Rattle.std.specs.Prelude.{ℕ, ◌==◌, ◌&&◌, ◌||◌, Bool, List, [], ◌∷◌, codes, slice_get, Option, Some, None, if◌then◌else◌}
use Rattle.ps_mon.specs.declared.facts.MoveData.{MoveData}
use Rattle.ps_mon.specs.Facts.{struggle}
use Rattle.ps_dex.specs.declared.item.TypeItem.{TypeItem}
use Rattle.ps_dex.specs.declared.item.FactorItem.{FactorItem}
use Rattle.ps_dex.specs.declared.item.MoveItem.{MoveItem}
use Rattle.ps_dex.specs.declared.item.SpeciesItem.{SpeciesItem}
use Rattle.ps_dex.specs.declared.item.AliasItem.{AliasItem}
use Rattle.ps_dex.specs.declared.item.Tables.{Tables}
use Rattle.ps_dex.specs.Types.{is_special, is_contact}
use Rattle.ps_dex.specs.Moves.{move_index, has_move}
use Rattle.ps_dex.specs.Species.{species_index, has_species, has_number}
use Rattle.ps_dex.specs.Aliases.{alias_index}

-- a dex of which nothing is said
abbrev pub no_tables : Tables
no_tables = record { types = []; factors = []; moves = []; species = []; aliases = [] }

-- ---- ids and aliases

-- a species or a move has the id, so no alias with it counts
abbrev pub is_taken : List ℕ → Tables → Bool
is_taken id dex = has_species id dex.species || has_move id dex.moves

abbrev pub at_index_of : Option ℕ → List AliasItem → Option AliasItem
at_index_of None aliases = None
at_index_of (Some index) aliases = slice_get aliases index

-- the alias with the id
abbrev pub alias_of : List ℕ → List AliasItem → Option AliasItem
alias_of id aliases = at_index_of (alias_index id aliases) aliases

abbrev pub species_target : Option AliasItem → Option ℕ
species_target None = None
species_target (Some alias) = alias.species

abbrev pub move_target : Option AliasItem → Option ℕ
move_target None = None
move_target (Some alias) = alias.mv

-- the species with the id, or the one that the alias with the id stands for
abbrev pub species_of : List ℕ → Tables → Option ℕ
species_of id dex = if is_taken id dex then species_index id dex.species else species_target (alias_of id dex.aliases)

-- the move with the id, or the one that the alias with the id stands for
abbrev pub move_of : List ℕ → Tables → Option ℕ
move_of id dex = if is_taken id dex then move_index id dex.moves else move_target (alias_of id dex.aliases)

-- ---- factors

-- the factor of a pair in tenths: that of its item, and 10 where no item has the pair
abbrev pub factor_of : List FactorItem → ℕ → ℕ → ℕ
factor_of [] attack defend = 10
factor_of (factor ∷ items) attack defend = if factor.attack == attack
    && factor.defend == defend then factor.tenths else factor_of items attack defend

-- ---- moves

abbrev pub learned_by : Option SpeciesItem → List ℕ
learned_by None = []
learned_by (Some species) = species.learns

-- the species learns the move
abbrev pub learns : ℕ → ℕ → Tables → Bool
learns species mv dex = has_number mv (learned_by (slice_get dex.species species))

-- Struggle of a dex, whose type is the first one
abbrev pub built_in : List TypeItem → MoveData
built_in types = struggle (is_special types 0) (is_contact types 0)

abbrev pub name_or_struggle : Option MoveItem → List ℕ
name_or_struggle None = codes "Struggle"
name_or_struggle (Some move) = move.name

-- the name of a move; each number past the moves is Struggle's
abbrev pub name_of_move : ℕ → List MoveItem → List ℕ
name_of_move mv moves = name_or_struggle (slice_get moves mv)
