-- Which records are battles.
use Rattle.std.specs.Prelude.{◌≡◌, ℕ, ℤ, pos, negsuc, Bool, true, false, zero, suc, EachIndex, IfSome, List, ◌<◌, ◌≤◌, ◌≤ℤ◌, nat_lt}
use Rattle.std.specs.Prelude.{length, take, slice_index, slice_index_or}
use Rattle.std.specs.List.{list_any}
use Rattle.ps_mon.specs.declared.record.Battle.{Battle}
use Rattle.ps_mon.specs.declared.record.SideState.{SideState}
use Rattle.ps_mon.specs.declared.record.Phase.{Phase}
use Rattle.ps_mon.specs.declared.record.Phase.TheVariants as phases
use Rattle.ps_mon.specs.declared.record.Lock.{Lock}
use Rattle.ps_mon.specs.declared.record.Disabled.{Disabled}
use Rattle.ps_mon.specs.declared.record.CopiedSlots.{CopiedSlots}
use Rattle.ps_mon.specs.declared.record.ChangedSlots.{ChangedSlots}
use Rattle.ps_mon.specs.declared.record.Stages.{Stages}
use Rattle.ps_mon.specs.declared.record.Volatiles.{Volatiles}
use Rattle.ps_mon.specs.declared.team.Member.{Member}
use Rattle.ps_mon.specs.Reading.{side_of, member_of, active_of, slot_of, no_slot}

pub record IsStage (stage : ℤ) : Type 0 where
  pub low : negsuc 5 ≤ℤ stage
  pub high : stage ≤ℤ pos 6

pub record AreStages (stages : Stages) : Type 0 where
  pub atk : IsStage stages.atk
  pub def : IsStage stages.def
  pub spc : IsStage stages.spc
  pub spe : IsStage stages.spe
  pub acc : IsStage stages.acc
  pub eva : IsStage stages.eva

-- stats from 1 to 999
abbrev pub AreStats : List ℕ → Type 0
AreStats stats = EachIndex stats (λ index. (1 ≤ slice_index stats index) × (slice_index stats index ≤ 999))

-- types below 32
abbrev pub AreTypes : List ℕ → Type 0
AreTypes types = EachIndex types (λ index. slice_index types index < 32)

pub record IsLock (lock : Lock) : Type 0 where
  pub turns : lock.turns ≤ 4
  pub damage : lock.damage ≤ 5992
  pub stored : lock.stored ≤ 713

pub record IsDisabled (disabled : Disabled) : Type 0 where
  pub slot : disabled.slot < 4
  pub turns : disabled.turns ≤ 8

pub record IsCopied (copied : CopiedSlots) : Type 0 where
  pub four : length copied.slots ≡ 4
  pub count : 1 ≤ copied.count
  pub count_high : copied.count ≤ 4
  pub pp : (slot : ℕ) → slot < copied.count
      → (slice_index_or copied.slots slot no_slot).pp ≤ (slice_index_or copied.slots slot no_slot).max_pp

pub record AreChanged (slots : ChangedSlots) : Type 0 where
  pub four : length slots.mimic ≡ 4
  pub copied : IfSome slots.copied IsCopied

pub record AreVolatiles (volatiles : Volatiles) : Type 0 where
  pub stages : AreStages volatiles.stages
  pub confusion : volatiles.confusion ≤ 5
  pub substitute : volatiles.substitute ≤ 179
  pub lock : IfSome volatiles.lock IsLock
  pub disabled : IfSome volatiles.disabled IsDisabled
  pub types : IfSome volatiles.types AreTypes
  pub stats : IfSome volatiles.stats AreStats
  pub slots : AreChanged volatiles.slots
  pub toxic : volatiles.toxic ≤ 15
  pub taken : IfSome volatiles.taken (λ loss. loss.damage ≤ 713)

pub record IsMember (member : Member) : Type 0 where
  pub level : 1 ≤ member.level
  pub level_high : member.level ≤ 100
  pub types : AreTypes member.types
  pub stats : AreStats member.stats
  pub hp : member.hp ≤ member.max
  pub max : 1 ≤ member.max
  pub max_high : member.max ≤ 713
  pub counter : member.counter ≤ 7
  pub four : length member.slots ≡ 4
  pub slot_count : 1 ≤ member.slot_count
  pub slot_count_high : member.slot_count ≤ 4
  pub pp : (slot : ℕ) → slot < member.slot_count → (slot_of member slot).pp ≤ (slot_of member slot).max_pp

-- a side's order: 1 to 6 members, and an order that has each of them once
pub record IsShaped (side : SideState) : Type 0 where
  pub six : length side.members ≡ 6
  pub six_order : length side.order ≡ 6
  pub count : 1 ≤ side.count
  pub count_high : side.count ≤ 6
  pub order : (place : ℕ) → place < side.count → slice_index side.order place < side.count
  pub once : (another place : ℕ) → another < side.count → place < side.count
      → slice_index side.order another ≡ slice_index side.order place → another ≡ place

pub record IsSide (side : SideState) : Type 0 where
  pub shape : IsShaped side
  pub members : (index : ℕ) → index < side.count → IsMember (member_of side index)
  pub vol : AreVolatiles side.vol

-- what every effect keeps: all numbers are in their ranges
pub record IsSound (battle : Battle) : Type 0 where
  pub two : length battle.sides ≡ 2
  pub sides : (side : ℕ) → side < 2 → IsSide (side_of battle side)
  pub turn : battle.turn ≤ 1000
  pub clauses : battle.clauses < 256

abbrev pub is_over : Phase → Bool
is_over (phases.Won side) = true
is_over phases.Tied = true
is_over other = false

-- whether a side must send in another member
abbrev pub replaces : Phase → ℕ → Bool
replaces (phases.Replace first second) zero = first
replaces (phases.Replace first second) (suc side) = second
replaces other side = false

-- whether some member of a side stands
unfoldable pub has_standing : SideState → Bool
has_standing side = list_any (λ member. nat_lt 0 member.hp) (take side.count side.members)

abbrev pub AllStand : SideState → Type 0
AllStand side = (index : ℕ) → index < side.count → 1 ≤ (member_of side index).hp

-- as long as nobody is sent out, every member stands
abbrev pub StandBefore : Phase → SideState → Type 0
StandBefore phases.Preview side = AllStand side
StandBefore other side = Unit {0}

-- who stands in a battle that goes on: some member of each side, and its active one unless it is to be replaced
pub record IsStanding (battle : Battle) : Type 0 where
  pub turn : battle.turn < 1000
  pub some : (side : ℕ) → side < 2 → has_standing (side_of battle side) ≡ true
  pub before : (side : ℕ) → side < 2 → StandBefore battle.phase (side_of battle side)
  pub active : (side : ℕ) → side < 2 → replaces battle.phase side ≡ false → 1 ≤ (active_of (side_of battle side)).hp

pub record IsValid (battle : Battle) : Type 0 where
  pub sound : IsSound battle
  pub standing : is_over battle.phase ≡ false → IsStanding battle
