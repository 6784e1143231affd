-- Disable: a slot of the foe can't be chosen for some acts.
use Rattle.std.specs.Prelude.{ℕ, Bool, Option, Some, None, is_some, List, [], ◌∷◌, ◌++◌, ◌+◌, ◌-◌, ◌==◌, ◌||◌, length, slice_index}
use Rattle.ps_event.specs.declared.event.Event.TheVariants as events
use Rattle.ps_event.specs.Numbers as numbers
use Rattle.ps_mon.specs.declared.duel.Fighter.{Fighter}
use Rattle.ps_mon.specs.Facts.{Figures}
use Rattle.ps_mon.specs.Duels.{fighter_of}
use Rattle.ps_mon.specs.Moves.{move_of}
use Rattle.ps_mon.specs.Reading.{side_of}
use Rattle.ps_mon.specs.Slots.{slot_now}
use Rattle.ps_hits.specs.Scenes.{Play, ◌>>=◌, ◌>>◌, give, duel_now, change, choose, draw}
use Rattle.ps_hits.specs.Told.{who_of}
use Rattle.ps_hits.specs.Strikes.{accuracy_test}
use Rattle.ps_hits.specs.Courses.{Course, played}
use Rattle.ps_copy.specs.Answers.{answer_of}
use Rattle.ps_copy.specs.Indices.{indices}
use Rattle.ps_copy.specs.Calling.{fail}

-- the slots with PP left, of four of which that is told
unfoldable pub ready_slots : List Bool → List ℕ
ready_slots ready = indices (λ one. one) 0 ready

abbrev pub disabled_for : ℕ → ℕ → Fighter → Fighter
disabled_for slot turns fighter = record fighter { vol = record fighter.vol { disabled = Some (record { slot = slot; turns = turns }) } }

-- one of the foe's slots with PP, drawn, is disabled for 1 to 8 acts
unfoldable pub disable_one : List ℕ → Play (Option ℕ)
disable_one slots = do
  index ← draw (length slots)
  more ← draw 8
  let slot = slice_index slots index
  change (λ duel. record duel { foe = disabled_for slot (1 + more) duel.foe })
  give (Some slot)

-- the accuracy test of Disable, then Fail where the foe has a disabled slot, or none with PP; else the slot that is disabled
unfoldable pub disable_row : Figures → ℕ → Play (Option ℕ)
disable_row facts mv = do
  lands ← accuracy_test (move_of facts mv).accuracy
  duel ← duel_now
  choose lands
      (choose (is_some duel.foe.vol.disabled || length (ready_slots duel.ready) == 0) fail (disable_one (ready_slots duel.ready)))
      (give None)

-- the event names the move that stands in the slot
abbrev pub told_disabled : ℕ → Option ℕ → Course → Course
told_disabled user None course = course
told_disabled user (Some slot) course =
    let theirs = side_of course.battle (1 - user) in
    record course {
      told = course.told ++ events.VolStart (who_of (fighter_of (1 - user) theirs)) numbers.effect_disable
          (Some (slot_now theirs slot).mv) ∷ [];
    }

-- disable
unfoldable pub disable_effect : Figures → ℕ → ℕ → Course → Course
disable_effect facts mv user course =
    told_disabled user (answer_of (disable_row facts mv) user course) (played (disable_row facts mv) user course)
