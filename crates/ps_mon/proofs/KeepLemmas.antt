-- What stays, step after step.
use Rattle.std.proofs.Common.{ℕ, ◌<◌, Option, Some, None, IfSome, ◌∙◌, get_or}
use Rattle.ps_mon.specs.declared.record.Battle.{Battle}
use Rattle.ps_mon.specs.declared.record.SideState.{SideState}
use Rattle.ps_mon.specs.declared.record.CopiedSlots.{CopiedSlots}
use Rattle.ps_mon.specs.declared.team.Member.{Member}
use Rattle.ps_mon.specs.Reading.{active_of, active_index}
use Rattle.ps_mon.specs.Slots.{slot_count_now, slot_now, slot_in_force, count_in_force}
use Rattle.ps_mon.specs.Valid.{IsShaped}
use Rattle.ps_mon.specs.Known.{IsSideKnown, AreOwnKnown, AreCopiedKnown}
use Rattle.ps_mon.specs.Keeping.{KeepsTeam, Keeps}

pub team-trans : (a b c : SideState) → KeepsTeam a b → KeepsTeam b c → KeepsTeam a c
team-trans a b c x y = record { count = y.count ∙ x.count; order = y.order ∙ x.order; slot_count = y.slot_count ∙ x.slot_count; moves = λ j. y.moves j ∙ x.moves j }

pub keeps_trans : (user : ℕ) (a b c : Battle) → Keeps user a b → Keeps user b c → Keeps user a c
keeps_trans user a b c x y = record { turn = y.turn ∙ x.turn; phase = y.phase ∙ x.phase; foe = team-trans _ _ _ x.foe y.foe }

known-in-force : (moves : ℕ) (copied : Option CopiedSlots) (mimic : Option ℕ) (m : Member) (j : ℕ) → IfSome copied (AreCopiedKnown moves) → IfSome mimic (λ mv. mv < moves) → AreOwnKnown moves m → j < count_in_force copied m → (slot_in_force copied mimic m j).mv < moves
known-in-force moves None None m j c h own lt = own j lt
known-in-force moves None (Some mv) m j c h own lt = h
known-in-force moves (Some copied) mimic m j c h own lt = c j lt

-- the move of a slot in force is among the moves
pub slot-known : (moves : ℕ) (a : SideState) (j : ℕ) → IsShaped a → IsSideKnown moves a → j < slot_count_now a → (slot_now a j).mv < moves
unfolding slot_count_now slot_now
slot-known moves a j shape known lt =
    known-in-force moves a.vol.slots.copied (get_or a.vol.slots.mimic j None) (active_of a) j known.vol.slots.copied (known.vol.slots.mimic j)
    (known.members (active_index a) (shape.order 0 shape.count)) lt
