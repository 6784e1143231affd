-- Battles that are alike after the same events.
use Rattle.std.specs.Prelude.{◌≡◌, ℕ, ◌<◌, Bool, true, ◌||◌, is_some, List, ◌++◌, All, length}
use Rattle.std.specs.List.{list_any}
use Rattle.ps_event.specs.declared.event.Event.{Event}
use Rattle.ps_event.specs.declared.event.Who.{Who}
use Rattle.ps_mon.specs.declared.record.Battle.{Battle}
use Rattle.ps_mon.specs.Reading.{side_of, active_index}
use Rattle.ps_hits.specs.Courses.{Course}
use Rattle.ps_hits.specs.Told.{side_name}
use Rattle.battle_secrecy.specs.Places.{Hidden}
use Rattle.battle_secrecy.specs.Alike.{AreAlike}
use Rattle.battle_secrecy.specs.Showing.{ShowsNoHidden, takes_form, whos}

-- alike battles after the same events, with active members at these places
pub record AreCoursesAlike (hidden : Hidden) (front : ℕ → ℕ) (one two : Course) : Type 0 where
  pub battle : AreAlike hidden one.battle two.battle
  pub indices : (side : ℕ) → side < 2 → active_index (side_of one.battle side) ≡ front side
  pub told : one.told ≡ two.told

-- a step from alike battles leads to alike battles, and tells the same
abbrev pub KeepsAlike : (Course → Course) → Type 0
KeepsAlike step = (hidden : Hidden) (front : ℕ → ℕ) (one two : Course) → AreCoursesAlike hidden front one two
    → AreCoursesAlike hidden front (step one) (step two)

-- whether the active member of a side has the slots of another one, which it took with its form
abbrev pub has_copied : Battle → ℕ → Bool
has_copied battle side = is_some (side_of battle side).vol.slots.copied

-- each active member that had another's form before, as `formed` says, or is told to take one, has the slots of it
pub record HasForms (formed : ℕ → ℕ → Bool) (front : ℕ → ℕ) (course : Course) : Type 0 where
  pub two : length course.battle.sides ≡ 2
  pub copied : (side : ℕ) → side < 2 → (formed side (front side) || list_any (takes_form side (front side)) course.told) ≡ true
      → has_copied course.battle side ≡ true

-- the same of a step whose events may show slots, where none of those is hidden
abbrev pub KeepsAlikeUnshown : (Course → Course) → Type 0
KeepsAlikeUnshown step = (hidden : Hidden) (front : ℕ → ℕ) (formed : ℕ → ℕ → Bool) (one two : Course)
    → ShowsNoHidden hidden front formed (step one).told → HasForms formed front one →
    AreCoursesAlike hidden front one two → AreCoursesAlike hidden front (step one) (step two)

-- ---- what is told

-- events are only added, behind those that are told
pub record Grows (old new : List Event) : Type 0 where
  pub more : List Event
  pub is : new ≡ old ++ more

-- whatever holds of two members holds of all that the new events name
abbrev pub NamesBoth : Who → Who → List Event → List Event → Type 1
NamesBoth user foe old new = (P : Who → Type 0) → P user → P foe → All (λ event. All P (whos event)) old
    → All (λ event. All P (whos event)) new

-- the active member of a side
abbrev pub active_who : Battle → ℕ → Who
active_who battle side = record { side = side_name side; member = active_index (side_of battle side) }

-- a step of a battle only adds events, which name the two active members alone, and these stay active. Who takes another's form has
-- its slots
pub record TellsOfActive (before after : Course) : Type 1 where
  pub index : (side : ℕ) → side < 2 → active_index (side_of after.battle side) ≡ active_index (side_of before.battle side)
  pub grows : Grows before.told after.told
  pub names : NamesBoth (active_who before.battle 0) (active_who before.battle 1) before.told after.told
  pub forms : (formed : ℕ → ℕ → Bool) (front : ℕ → ℕ) → HasForms formed front before → HasForms formed front after
