-- Two worlds of a battle: what is hidden changes nothing that is told.
use Rattle.std.specs.Prelude.{◌≡◌, ℕ, zero, suc, ◌-◌, ◌==◌, ◌&&◌, Bool, true, false, not, slice_index}
use Rattle.ps_mon.specs.declared.record.Battle.{Battle}
use Rattle.ps_mon.specs.declared.record.SideState.{SideState}
use Rattle.ps_mon.specs.declared.choice.Choice.{Choice}
use Rattle.ps_mon.specs.declared.choice.Choice.TheVariants as choices
use Rattle.ps_mon.specs.Choices.{IsChoiceOf}
use Rattle.ps_mon.specs.Facts.{Figures}
use Rattle.ps_mon.specs.Orders.{index_at}
use Rattle.ps_mon.specs.Reading.{side_of, active_index}
use Rattle.ps_hits.specs.Courses.{Course, untold}
use Rattle.ps_battle.specs.Turns.{turn}
use Rattle.battle_secrecy.specs.Places.{Hidden}
use Rattle.battle_secrecy.specs.Alike.{AreBattlesAlike}
use Rattle.battle_secrecy.specs.Showing.{ShowsNoHidden, NamesNoHidden}
use Rattle.battle_secrecy.specs.Courses.{has_copied}

-- alike battles after the same events, none of which names a hidden member
pub record AreToldAlike (hidden : Hidden) (one two : Course) : Type 0 where
  pub battle : AreBattlesAlike hidden one.battle two.battle
  pub told : one.told ≡ two.told
  pub names : NamesNoHidden hidden one.told

-- a choice that a side may be committed with, and that shows no hidden place: its slot isn't hidden, and the member that it sends in, or
-- puts first, isn't
abbrev pub IsChoiceUnhidden : Hidden → ℕ → SideState → Choice → Type 0
IsChoiceUnhidden hidden player side (choices.Move number) = hidden.slot player (active_index side) (number - 1) ≡ false
IsChoiceUnhidden hidden player side (choices.Switch position) = hidden.member player (slice_index side.order (position - 1)) ≡ false
IsChoiceUnhidden hidden player side (choices.Team numbers) = hidden.member player (index_at side.order (slice_index numbers 0)) ≡ false
IsChoiceUnhidden hidden player side choice = Unit {0}

-- the place of the active member of each side
abbrev pub fronts : Battle → ℕ → ℕ
fronts battle side = active_index (side_of battle side)

-- a choice that sends in a member
abbrev pub is_switch : Choice → Bool
is_switch (choices.Switch position) = true
is_switch other = false

-- whether a member of a side is active, stays so by the side's choice, and has another's form: a member that is sent in has its own
abbrev pub has_form : Battle → Choice → ℕ → ℕ → Bool
has_form battle choice side member = not (is_switch choice) && (active_index (side_of battle side) == member && has_copied battle side)

-- which members have another's form as the acts of a round begin: of side 0 with the first choice, of the other side with the second
abbrev pub forms : Battle → Choice → Choice → ℕ → ℕ → Bool
forms battle one two zero member = has_form battle one zero member
forms battle one two (suc other) member = has_form battle two (suc other) member

-- A turn is the same in two alike battles, where neither its choices nor what is told of it show a hidden place.
abbrev pub TurnKeepsAlike : Type 0
TurnKeepsAlike = (facts : Figures) (one two : Choice) (hidden : Hidden) (battle twin : Battle) → AreBattlesAlike hidden battle twin →
    IsChoiceOf battle 0 one → IsChoiceOf battle 1 two → IsChoiceUnhidden hidden 0 (side_of battle 0) one
    → IsChoiceUnhidden hidden 1 (side_of battle 1) two →
    ShowsNoHidden hidden (fronts (turn facts one two (untold battle)).battle) (forms battle one two)
    (turn facts one two (untold battle)).told →
    AreToldAlike hidden (turn facts one two (untold battle)) (turn facts one two (untold twin))
