-- The parts that lines are made of.
use Rattle.std.specs.Prelude.{ℕ, Bool, true, false, ◌==◌, ◌||◌, List, ◌++◌, codes, Option, Some, None, nat_lt, slice_get, if◌then◌else◌}
use Rattle.std.specs.Fmt.{decimal}
use Rattle.ps_calc.specs.Health.{hundredths_of, pixels_of}
use Rattle.ps_event.specs.Numbers.{effect_mimic, effect_disable}
use Rattle.ps_event.specs.declared.event.Who.{Who}
use Rattle.ps_event.specs.declared.event.Health.{Health}
use Rattle.ps_dex.specs.declared.item.SpeciesItem.{SpeciesItem}
use Rattle.ps_dex.specs.declared.item.Tables.{Tables}
use Rattle.ps_dex.specs.Lookups.{name_of_move}
use Rattle.ps_view.specs.declared.names.Names.{Names}
use Rattle.ps_view.specs.Named.{nick_of}
use Rattle.ps_view.specs.Words.{side_word, status_word, stat_word}

-- who is active, and where: p1a: NICK
abbrev pub position : Names → Who → List ℕ
position names who = side_word who.side ++ codes "a: " ++ nick_of names who

abbrev pub name_or_none : Option SpeciesItem → List ℕ
name_or_none None = codes ""
name_or_none (Some species) = species.name

-- the name of a species; the empty text past the species of the dex
abbrev pub species_word : Tables → ℕ → List ℕ
species_word dex species = name_or_none (slice_get dex.species species)

-- the level, where it isn't 100
abbrev pub level_end : ℕ → List ℕ
level_end level = if level == 100 then codes "" else codes ", L" ++ decimal level

-- SPECIES, or SPECIES, L50
abbrev pub details : Tables → ℕ → ℕ → List ℕ
details dex species level = species_word dex species ++ level_end level

-- a space and the status, if there is one
abbrev pub status_end : ℕ → List ℕ
status_end status = if status == 0 then codes "" else codes " " ++ status_word status

-- the hundredths that others see; more than the greatest health would be all of it
abbrev pub share_of : Health → ℕ
share_of health = if nat_lt health.max health.hp then 100 else hundredths_of health.hp health.max

-- the 48ths that others see; more than the greatest health would be all of it
abbrev pub bar_of : Health → ℕ
bar_of health = if nat_lt health.max health.hp then 48 else pixels_of health.hp health.max

-- a share of the greatest health: in hundredths under HP Percentage Mod, else in 48ths
abbrev pub shown_share : Bool → Health → List ℕ
shown_share true health = decimal (share_of health) ++ codes "/100"
shown_share false health = decimal (bar_of health) ++ codes "/48"

-- what the member's own side sees of its health
abbrev pub exact_condition : Health → List ℕ
exact_condition health = if health.hp == 0 then codes "0 fnt" else decimal health.hp ++ codes "/" ++ decimal health.max
    ++ status_end health.status

-- what all others see of it, under HP Percentage Mod or without it
abbrev pub public_condition : Bool → Health → List ℕ
public_condition percent health = if health.hp == 0 then codes "0 fnt" else shown_share percent health ++ status_end health.status

abbrev pub condition : Bool → Bool → Health → List ℕ
condition true percent health = exact_condition health
condition false percent health = public_condition percent health

-- where a move is only prepared
abbrev pub still_end : Bool → List ℕ
still_end true = codes "|[still]"
still_end false = codes ""

-- the move that called another one, or goes on
abbrev pub called_end : Tables → Option ℕ → List ℕ
called_end dex None = codes ""
called_end dex (Some mv) = codes "|[from]" ++ name_of_move mv dex.moves

-- a stat, and by how many stages it changed
abbrev pub stages : ℕ → ℕ → List ℕ
stages stat by = stat_word stat ++ codes "|" ++ decimal by

-- what begins with a move's name behind it
abbrev pub names_move : ℕ → Bool
names_move effect = effect == effect_mimic || effect == effect_disable

-- the move that an effect names
abbrev pub named_end : Tables → ℕ → Option ℕ → List ℕ
named_end dex effect None = codes ""
named_end dex effect (Some mv) = if names_move effect then codes "|" ++ name_of_move mv dex.moves else codes ""
