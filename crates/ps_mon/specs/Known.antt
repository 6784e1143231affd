-- The moves of a battle are those of the facts.
use Rattle.std.specs.Prelude.{ℕ, None, IfSome, ◌<◌, slice_index_or}
use Rattle.ps_mon.specs.declared.record.Battle.{Battle}
use Rattle.ps_mon.specs.declared.record.SideState.{SideState}
use Rattle.ps_mon.specs.declared.record.CopiedSlots.{CopiedSlots}
use Rattle.ps_mon.specs.declared.record.ChangedSlots.{ChangedSlots}
use Rattle.ps_mon.specs.declared.record.Volatiles.{Volatiles}
use Rattle.ps_mon.specs.declared.team.Member.{Member}
use Rattle.ps_mon.specs.Facts.{Figures, AreFair}
use Rattle.ps_mon.specs.Moves.{IsNamed, move_count}
use Rattle.ps_mon.specs.Reading.{side_of, member_of, slot_of, no_slot}

-- the moves of its slots are among so many
abbrev pub AreOwnKnown : ℕ → Member → Type 0
AreOwnKnown moves member = (slot : ℕ) → slot < member.slot_count → (slot_of member slot).mv < moves

abbrev pub AreCopiedKnown : ℕ → CopiedSlots → Type 0
AreCopiedKnown moves copied = (slot : ℕ) → slot < copied.count → (slice_index_or copied.slots slot no_slot).mv < moves

pub record AreChangedKnown (moves : ℕ) (slots : ChangedSlots) : Type 0 where
  pub mimic : (slot : ℕ) → IfSome (slice_index_or slots.mimic slot None) (λ mv. mv < moves)
  pub copied : IfSome slots.copied (AreCopiedKnown moves)

-- a lock has a move of the dex; the last move, and the move of the last damage, may be Struggle
pub record AreNamed (moves : ℕ) (volatiles : Volatiles) : Type 0 where
  pub slots : AreChangedKnown moves volatiles.slots
  pub lock : IfSome volatiles.lock (λ hold. hold.mv < moves)
  pub last : IfSome volatiles.last (IsNamed moves)
  pub taken : IfSome volatiles.taken (λ loss. IsNamed moves loss.mv)

pub record IsSideKnown (moves : ℕ) (side : SideState) : Type 0 where
  pub members : (index : ℕ) → index < side.count → AreOwnKnown moves (member_of side index)
  pub vol : AreNamed moves side.vol

-- the moves of a battle are among so many
pub record AreKnown (moves : ℕ) (battle : Battle) : Type 0 where
  pub sides : (side : ℕ) → side < 2 → IsSideKnown moves (side_of battle side)

-- the facts are fair for a battle
pub record AreFairFor (facts : Figures) (battle : Battle) : Type 0 where
  pub ranges : AreFair facts
  pub known : AreKnown (move_count facts) battle
