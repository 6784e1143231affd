-- Ranges of what a dex file says, as far as lookups and battles rest on them.
use Rattle.std.specs.Prelude.{ℕ, ◌<◌, ◌≤◌, All, length, IfSome}
use Rattle.ps_mon.specs.Facts.{IsFairMove, IsFactor}
use Rattle.ps_dex.specs.declared.item.SpeciesItem.{SpeciesItem}
use Rattle.ps_dex.specs.declared.item.AliasItem.{AliasItem}
use Rattle.ps_dex.specs.declared.item.Tables.{Tables}

-- its types are types of the dex, its stats 1 to 255, and what it learns are moves of the dex
pub record IsFitSpecies (type_count move_count : ℕ) (species : SpeciesItem) : Type 0 where
  pub types : All (λ number. number < type_count) species.types
  pub stats : All (λ stat. (1 ≤ stat) × (stat ≤ 255)) species.stats
  pub learns : All (λ mv. mv < move_count) species.learns

-- what it stands for is a species of the dex, a move of it, or both
pub record IsFitAlias (species_count move_count : ℕ) (alias : AliasItem) : Type 0 where
  pub species : IfSome alias.species (λ number. number < species_count)
  pub mv : IfSome alias.mv (λ mv. mv < move_count)

pub record AreFit (dex : Tables) : Type 0 where
  pub few_types : length dex.types ≤ 32
  pub few_moves : length dex.moves ≤ 1024
  pub few_species : length dex.species ≤ 1024
  pub factors : All (λ factor. IsFactor factor.tenths) dex.factors
  pub moves : All (λ move. IsFairMove move.numbers) dex.moves
  pub species : All (IsFitSpecies (length dex.types) (length dex.moves)) dex.species
  pub aliases : All (IsFitAlias (length dex.species) (length dex.moves)) dex.aliases
