-- The battle of a drill: its format and its one team.
use Rattle.std.specs.Prelude.{ℕ, List, [], ◌∷◌, ◌++◌, codes, chars, length, map, take, slice_get, nat_le, Option, Some, None, false}
use Rattle.std.specs.Prelude.{if◌then◌else◌}
use Rattle.ps_packed.specs.declared.set.Set.{Set}
use Rattle.ps_packed.specs.Packed.{six}
use Rattle.ps_packed.specs.Canon.{canon}
use Rattle.ps_dex.specs.declared.item.MoveItem.{MoveItem}
use Rattle.ps_dex.specs.declared.item.SpeciesItem.{SpeciesItem}
use Rattle.ps_dex.specs.declared.item.Tables.{Tables}
use Rattle.ps_rules.specs.declared.table.Format.{Format}
use Rattle.rules_config.specs.declared.settings.Settings.{Settings}
use Rattle.replay_drill.specs.declared.fight.Fight.{Fight}
use Rattle.replay_drill.specs.Lines.{start_lines, choose_lines}

abbrev pub id_of_move : Option MoveItem → List ℕ
id_of_move None = []
id_of_move (Some move) = move.id

-- the id of the move with a number; the dex has each move that a species learns
unfoldable pub id_at : List MoveItem → ℕ → List ℕ
id_at moves number = id_of_move (slice_get moves number)

-- the ids of up to four of the moves with these numbers, the first of them
abbrev pub first_moves : List MoveItem → List ℕ → List (List ℕ)
first_moves moves numbers = map (id_at moves) (take 4 numbers)

-- a species by its name with the first moves that it learns; all else is what an empty field of a packed team means
abbrev pub drill_set : List MoveItem → SpeciesItem → Set
drill_set moves species = record {
  nick = species.name;
  species = species.name;
  item = [];
  ability = [];
  moves = first_moves moves species.learns;
  nature = [];
  evs = six 252;
  gender = None;
  ivs = six 31;
  shiny = false;
  level = 100;
  misc = [];
}

-- the packed text of that set alone
unfoldable pub drill_team : List MoveItem → SpeciesItem → List ℕ
drill_team moves species = canon (drill_set moves species ∷ [])

-- for the code alone: the packed text of a set of which only the name and the moves are told: the name stands in the nickname's field
-- where it has
-- up to 18 characters, else in the species'
unfoldable pub packed_alone : List ℕ → List ℕ → List ℕ
packed_alone name moves =
    if nat_le (length (chars name)) 18 then name ++ codes "||||" ++ moves ++ codes "|||||||"
    else codes "|" ++ name ++ codes "|||" ++ moves ++ codes "|||||||"

-- the first format and the first species, where there are both
abbrev pub fight_in : List Format → List MoveItem → List SpeciesItem → Option Fight
fight_in [] moves species = None
fight_in (format ∷ formats) moves [] = None
fight_in (format ∷ formats) moves (species ∷ species_left) = Some (record { format = format.id; team = drill_team moves species })

abbrev pub fight_of : Settings → Tables → Option Fight
fight_of config dex = fight_in config.formats.formats dex.moves dex.species

-- how the battle begins, and how each step goes on with it: nothing, where there is none
abbrev pub fight_start : Option Fight → List ℕ
fight_start None = []
fight_start (Some fight) = start_lines fight.format fight.team

abbrev pub fight_choices : Option Fight → List ℕ
fight_choices None = []
fight_choices (Some fight) = choose_lines fight.format
