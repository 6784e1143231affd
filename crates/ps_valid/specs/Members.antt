-- The member that a set makes, and the team of all.
use Rattle.std.specs.Prelude.{ℕ, false, List, [], ◌∷◌, length, slice_get, slice_index, Option, Some, None}
use Rattle.ps_calc.specs.Stats.{dv_of, hp_dv_of, stat_of, hp_stat_of}
use Rattle.ps_mon.specs.declared.status.Status.TheVariants.{Healthy}
use Rattle.ps_mon.specs.declared.team.MoveSlot.{MoveSlot}
use Rattle.ps_mon.specs.declared.team.Member.{Member}
use Rattle.ps_mon.specs.declared.team.BattleTeam.{BattleTeam}
use Rattle.ps_mon.specs.Reading.{no_slot}
use Rattle.ps_packed.specs.declared.set.Set.{Set}
use Rattle.ps_dex.specs.declared.item.MoveItem.{MoveItem}
use Rattle.ps_dex.specs.declared.item.SpeciesItem.{SpeciesItem}
use Rattle.ps_dex.specs.declared.item.Tables.{Tables}
use Rattle.ps_valid.specs.declared.member.Numbers.{Numbers}

-- ---- what the dex says of a species and of a move; of a number past them nothing

abbrev pub stats_of : Option SpeciesItem → List ℕ
stats_of None = 0 ∷ 0 ∷ 0 ∷ 0 ∷ 0 ∷ []
stats_of (Some item) = item.stats

abbrev pub types_of : Option SpeciesItem → List ℕ
types_of None = 0 ∷ 0 ∷ []
types_of (Some item) = item.types

abbrev pub pp_of : Option MoveItem → ℕ
pp_of None = 0
pp_of (Some item) = item.numbers.pp

-- ---- slots

-- a move with all of its PP
abbrev pub slot_of : List MoveItem → ℕ → MoveSlot
slot_of moves mv = record { mv = mv; pp = pp_of (slice_get moves mv); max_pp = pp_of (slice_get moves mv) }

abbrev pub slot_at : List MoveItem → Option ℕ → MoveSlot
slot_at moves None = no_slot
slot_at moves (Some mv) = slot_of moves mv

-- the moves in order, and blank slots up to four
abbrev pub slots_of : List MoveItem → List ℕ → List MoveSlot
slots_of moves known = slot_at moves (slice_get known 0) ∷ slot_at moves (slice_get known 1) ∷ slot_at moves (slice_get known 2)
    ∷ slot_at moves (slice_get known 3) ∷ []

-- ---- numbers

-- Base stats are HP, Attack, Defense, Special and Speed. EVs and IVs are HP, Attack, Defense, Special Attack, Special
-- Defense and Speed: Special takes those of Special Attack, and the IV of HP counts for nothing.
unfoldable pub numbers_of : List ℕ → Set → Numbers
numbers_of base set =
    let attack = dv_of (slice_index set.ivs 1) in
    let defense = dv_of (slice_index set.ivs 2) in
    let special = dv_of (slice_index set.ivs 3) in
    let speed = dv_of (slice_index set.ivs 5) in
    record {
      max = hp_stat_of (slice_index base 0) (hp_dv_of (attack ∷ defense ∷ speed ∷ special ∷ [])) (slice_index set.evs 0) set.level;
      stats = stat_of (slice_index base 1) attack (slice_index set.evs 1) set.level
          ∷ stat_of (slice_index base 2) defense (slice_index set.evs 2) set.level
          ∷ stat_of (slice_index base 3) special (slice_index set.evs 3) set.level
          ∷ stat_of (slice_index base 4) speed (slice_index set.evs 5) set.level ∷ [];
    }

-- ---- members

-- the member that a set makes, with its species and moves by their numbers: full health and PP
unfoldable pub member_of : Tables → ℕ → Set → List ℕ → Member
member_of dex species set moves =
    let base = stats_of (slice_get dex.species species) in
    let numbers = numbers_of base set in
    record {
      species = species;
      level = set.level;
      types = types_of (slice_get dex.species species);
      stats = numbers.stats;
      base_speed = slice_index base 4;
      hp = numbers.max;
      max = numbers.max;
      status = Healthy;
      counter = 0;
      rested = false;
      slots = slots_of dex.moves moves;
      slot_count = length moves;
    }

-- no member
abbrev pub blank_member : Member
blank_member = record {
  species = 0;
  level = 0;
  types = 0 ∷ 0 ∷ [];
  stats = 0 ∷ 0 ∷ 0 ∷ 0 ∷ [];
  base_speed = 0;
  hp = 0;
  max = 0;
  status = Healthy;
  counter = 0;
  rested = false;
  slots = no_slot ∷ no_slot ∷ no_slot ∷ no_slot ∷ [];
  slot_count = 0;
}

abbrev pub member_at : Option Member → Member
member_at None = blank_member
member_at (Some member) = member

-- the members in order, and blank ones up to six
abbrev pub team_of : List Member → BattleTeam
team_of members = record {
  members = member_at (slice_get members 0) ∷ member_at (slice_get members 1)
      ∷ member_at (slice_get members 2) ∷ member_at (slice_get members 3) ∷ member_at (slice_get members 4)
      ∷ member_at (slice_get members 5) ∷ [];
  count = length members;
}
