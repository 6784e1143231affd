-- The number of each field of a set, from 0.
use Rattle.std.specs.Prelude.{ℕ}
use Rattle.ps_packed.specs.declared.field.Field.{Field}
use Rattle.ps_packed.specs.declared.field.Field.TheVariants.{Nick, Species, Item, Ability, Moves, Nature, Evs, Gender, Ivs, Shiny}
use Rattle.ps_packed.specs.declared.field.Field.TheVariants.{Level, Misc}

abbrev pub field_index : Field → ℕ
field_index Nick = 0
field_index Species = 1
field_index Item = 2
field_index Ability = 3
field_index Moves = 4
field_index Nature = 5
field_index Evs = 6
field_index Gender = 7
field_index Ivs = 8
field_index Shiny = 9
field_index Level = 10
field_index Misc = 11
