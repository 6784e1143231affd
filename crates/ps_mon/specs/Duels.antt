-- A duel: the two active members, without their slots, and what an effect may know beside them.
use Rattle.std.specs.Prelude.{ℕ, Bool, true, false, List, [], ◌∷◌, ◌-◌, ◌≤◌, ◌&&◌, not, nat_lt, slice_set, take, drop}
use Rattle.std.specs.List.{list_any}
use Rattle.ps_mon.specs.declared.record.Battle.{Battle}
use Rattle.ps_mon.specs.declared.record.SideState.{SideState}
use Rattle.ps_mon.specs.declared.team.Member.{Member}
use Rattle.ps_mon.specs.declared.status.Status.{Status}
use Rattle.ps_mon.specs.declared.status.Status.TheVariants.{Slp, Frz}
use Rattle.ps_mon.specs.declared.duel.Fighter.{Fighter}
use Rattle.ps_mon.specs.declared.duel.Duel.{Duel}
use Rattle.ps_mon.specs.Reading.{side_of, active_index, member_of, active_of}
use Rattle.ps_mon.specs.Slots.{is_ready, slot_count_now}
use Rattle.ps_mon.specs.Valid.{AreStats, AreTypes, AreVolatiles}
use Rattle.ps_mon.specs.Known.{AreNamed}

abbrev pub is_slp : Status → Bool
is_slp Slp = true
is_slp other = false

abbrev pub is_frz : Status → Bool
is_frz Frz = true
is_frz other = false

-- whether a standing member sleeps, and not by Rest
abbrev pub sleeps : Member → Bool
sleeps member = is_slp member.status && nat_lt 0 member.hp && not member.rested

-- whether a standing member is frozen
abbrev pub freezes : Member → Bool
freezes member = is_frz member.status && nat_lt 0 member.hp

-- whether some member beside the active one is so
abbrev pub bench_has : (Member → Bool) → SideState → Bool
bench_has test side = list_any (λ index. test (member_of side index)) (drop 1 (take side.count side.order))

-- which slots in force have PP left
abbrev pub ready_of : SideState → List Bool
ready_of side = is_ready side 0 ∷ is_ready side 1 ∷ is_ready side 2 ∷ is_ready side 3 ∷ []

-- the active member of a side
unfoldable pub fighter_of : ℕ → SideState → Fighter
fighter_of side_number side =
    let active = active_of side in
    record {
      side = side_number;
      member = active_index side;
      level = active.level;
      types = active.types;
      stats = active.stats;
      base_speed = active.base_speed;
      hp = active.hp;
      max = active.max;
      status = active.status;
      counter = active.counter;
      rested = active.rested;
      vol = side.vol;
    }

-- a member with a fighter's numbers
abbrev pub worn : Member → Fighter → Member
worn member fighter = record member {
  level = fighter.level;
  types = fighter.types;
  stats = fighter.stats;
  base_speed = fighter.base_speed;
  hp = fighter.hp;
  max = fighter.max;
  status = fighter.status;
  counter = fighter.counter;
  rested = fighter.rested;
}

-- the side with its active member as in the duel; its slots, and what changed them, stay
unfoldable pub with_fighter : SideState → Fighter → SideState
with_fighter side fighter =
    record side {
      members = slice_set side.members (active_index side) (worn (active_of side) fighter);
      vol = record fighter.vol { slots = side.vol.slots };
    }

-- the duel of a side against the other
unfoldable pub duel_of : Battle → ℕ → Duel
duel_of battle side =
    let theirs = side_of battle (1 - side) in
    record {
      user = fighter_of side (side_of battle side);
      foe = fighter_of (1 - side) theirs;
      clauses = battle.clauses;
      asleep = bench_has sleeps theirs;
      frozen = bench_has freezes theirs;
      ready = ready_of theirs;
      slot_count = slot_count_now theirs;
      rng = battle.rng;
    }

-- the battle with the duel of a side put back
unfoldable pub with_duel : Battle → ℕ → Duel → Battle
with_duel battle side duel =
    let mine = with_fighter (side_of battle side) duel.user in
    let theirs = with_fighter (side_of battle (1 - side)) duel.foe in
    record battle { sides = slice_set (slice_set battle.sides side mine) (1 - side) theirs; rng = duel.rng }

-- a fighter's numbers are in their ranges
pub record IsFighter (fighter : Fighter) : Type 0 where
  pub level : 1 ≤ fighter.level
  pub level_high : fighter.level ≤ 100
  pub types : AreTypes fighter.types
  pub stats : AreStats fighter.stats
  pub hp : fighter.hp ≤ fighter.max
  pub max : 1 ≤ fighter.max
  pub max_high : fighter.max ≤ 713
  pub counter : fighter.counter ≤ 7
  pub vol : AreVolatiles fighter.vol

pub record IsFit (duel : Duel) : Type 0 where
  pub user : IsFighter duel.user
  pub foe : IsFighter duel.foe

-- the moves of a duel are among so many
pub record IsDuelKnown (moves : ℕ) (duel : Duel) : Type 0 where
  pub user : AreNamed moves duel.user.vol
  pub foe : AreNamed moves duel.foe.vol
