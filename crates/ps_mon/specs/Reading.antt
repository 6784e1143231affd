-- Reading a battle's record.
use Rattle.std.specs.Prelude.{ℕ, None, false, pos, [], slice_index, slice_index_or, ◌-◌}
use Rattle.ps_mon.specs.declared.record.Battle.{Battle}
use Rattle.ps_mon.specs.declared.record.SideState.{SideState}
use Rattle.ps_mon.specs.declared.record.Stages.{Stages}
use Rattle.ps_mon.specs.declared.record.ChangedSlots.{ChangedSlots}
use Rattle.ps_mon.specs.declared.record.Volatiles.{Volatiles}
use Rattle.ps_mon.specs.declared.team.Member.{Member}
use Rattle.ps_mon.specs.declared.team.MoveSlot.{MoveSlot}
use Rattle.ps_mon.specs.declared.status.Status.TheVariants.{Healthy}

-- what a read outside a list gives
abbrev pub no_slot : MoveSlot
no_slot = record { mv = 0; pp = 0; max_pp = 0 }

abbrev pub no_member : Member
no_member = record {
  species = 0;
  level = 0;
  types = [];
  stats = [];
  base_speed = 0;
  hp = 0;
  max = 0;
  status = Healthy;
  counter = 0;
  rested = false;
  slots = [];
  slot_count = 0;
}

abbrev pub no_stages : Stages
no_stages = record { atk = pos 0; def = pos 0; spc = pos 0; spe = pos 0; acc = pos 0; eva = pos 0 }

abbrev pub no_changes : ChangedSlots
no_changes = record { mimic = []; copied = None }

abbrev pub no_volatiles : Volatiles
no_volatiles = record {
  stages = no_stages;
  confusion = 0;
  flinch = false;
  substitute = 0;
  seeded = false;
  reflect = false;
  light = false;
  mist = false;
  focus = false;
  recharge = false;
  lock = None;
  disabled = None;
  types = None;
  stats = None;
  slots = no_changes;
  toxic = 0;
  last = None;
  taken = None;
}

abbrev pub no_side : SideState
no_side = record { members = []; count = 0; order = []; vol = no_volatiles }

-- side 0 is P1's, side 1 is P2's
abbrev pub side_of : Battle → ℕ → SideState
side_of battle side = slice_index_or battle.sides side no_side

-- a member by its index in the team
abbrev pub member_of : SideState → ℕ → Member
member_of side index = slice_index_or side.members index no_member

-- the active member's index: the first in the order
abbrev pub active_index : SideState → ℕ
active_index side = slice_index side.order 0

abbrev pub active_of : SideState → Member
active_of side = member_of side (active_index side)

-- the member at a position, which counts from 1
abbrev pub member_at : SideState → ℕ → Member
member_at side position = member_of side (slice_index side.order (position - 1))

-- a member's own slot, from 0
abbrev pub slot_of : Member → ℕ → MoveSlot
slot_of member slot = slice_index_or member.slots slot no_slot
