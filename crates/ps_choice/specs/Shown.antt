-- The texts of a request on the own members.
use Rattle.std.specs.Prelude.{ℕ, ◌==◌, List, [], ◌++◌, codes, decimal, Option, Some, None, slice_get, zero, suc, if◌then◌else◌}
use Rattle.ps_mon.specs.declared.status.Status.{Status}
use Rattle.ps_mon.specs.declared.status.Status.TheVariants as statuses
use Rattle.ps_mon.specs.declared.team.Member.{Member}
use Rattle.ps_dex.specs.declared.item.MoveItem.{MoveItem}
use Rattle.ps_dex.specs.declared.item.SpeciesItem.{SpeciesItem}

abbrev pub id_or_struggle : Option MoveItem → List ℕ
id_or_struggle None = codes "struggle"
id_or_struggle (Some move) = move.id

-- the id of a move; each number past the moves is Struggle's
abbrev pub id_of_move : ℕ → List MoveItem → List ℕ
id_of_move mv moves = id_or_struggle (slice_get moves mv)

abbrev pub name_or_none : Option SpeciesItem → List ℕ
name_or_none None = []
name_or_none (Some species) = species.name

-- the name of a species; empty for a number past the species
abbrev pub name_of_species : ℕ → List SpeciesItem → List ℕ
name_of_species number species = name_or_none (slice_get species number)

abbrev pub level_part : ℕ → List ℕ
level_part level = if level == 100 then [] else codes ", L" ++ decimal level

-- the species, and the level where it isn't 100
unfoldable pub details : List SpeciesItem → Member → List ℕ
details species member = name_of_species member.species species ++ level_part member.level

abbrev pub status_part : Status → List ℕ
status_part statuses.Healthy = []
status_part statuses.Slp = codes " slp"
status_part statuses.Par = codes " par"
status_part statuses.Brn = codes " brn"
status_part statuses.Psn = codes " psn"
status_part statuses.Tox = codes " tox"
status_part statuses.Frz = codes " frz"

abbrev pub most_part : ℕ → List ℕ
most_part max = codes "/" ++ decimal max

abbrev pub health_part : ℕ → ℕ → List ℕ
health_part hp max = decimal hp ++ most_part max

-- the exact health and the status
unfoldable pub condition : Member → List ℕ
condition member = if member.hp == 0 then codes "0 fnt" else health_part member.hp member.max ++ status_part member.status

abbrev pub side_id : ℕ → List ℕ
side_id zero = codes "p1"
side_id (suc side) = codes "p2"

abbrev pub text_or_none : Option (List ℕ) → List ℕ
text_or_none None = []
text_or_none (Some text) = text

-- the nickname of the member at an index of the team
abbrev pub nick_of : List (List ℕ) → ℕ → List ℕ
nick_of nicks index = text_or_none (slice_get nicks index)

abbrev pub ident : ℕ → List ℕ → List ℕ
ident side nick = side_id side ++ codes ": " ++ nick
