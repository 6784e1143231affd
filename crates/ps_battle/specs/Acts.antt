-- An act: whether the member acts, its move, and its residual.
use Rattle.std.specs.Prelude.{ℕ, Bool, true, false, Option, Some, None, ◌-◌, ◌||◌, ◌==◌, not, unwrap_or, if◌then◌else◌}
use Rattle.ps_event.specs.declared.event.Event.TheVariants as events
use Rattle.ps_event.specs.declared.event.Who.{Who}
use Rattle.ps_mon.specs.declared.record.Battle.{Battle}
use Rattle.ps_mon.specs.declared.choice.Choice.{Choice}
use Rattle.ps_mon.specs.declared.choice.Choice.TheVariants as choices
use Rattle.ps_mon.specs.declared.duel.Duel.{Duel}
use Rattle.ps_mon.specs.declared.effect.Effect.{Effect}
use Rattle.ps_mon.specs.declared.effect.Effect.TheVariants as effects
use Rattle.ps_mon.specs.declared.effect.Aim.{Aim}
use Rattle.ps_mon.specs.declared.effect.Aim.TheVariants.{User, Foe}
use Rattle.ps_mon.specs.declared.effect.CopyKind.{CopyKind}
use Rattle.ps_mon.specs.declared.effect.CopyKind.TheVariants as copies
use Rattle.ps_mon.specs.Facts.{Figures}
use Rattle.ps_mon.specs.declared.record.Lock.{Lock}
use Rattle.ps_mon.specs.Reading.{side_of, active_of}
use Rattle.ps_mon.specs.Moves.{move_of, struggle_number}
use Rattle.ps_mon.specs.Duels.{duel_of}
use Rattle.ps_mon.specs.Spending.{after_use}
use Rattle.ps_hits.specs.Scenes.{Play, ◌>>=◌, ◌>>◌, duel_now, tell, change}
use Rattle.ps_hits.specs.Courses.{Course, played}
use Rattle.ps_hits.specs.Told.{who_of}
use Rattle.ps_battle.specs.Effects.{effect, call}
use Rattle.ps_battle.specs.Acting.{may_act}
use Rattle.ps_battle.specs.Residual.{residual}
use Rattle.ps_battle.specs.Chosen.{chosen_slot}
use Rattle.ps_battle.specs.declared.acts.Usage.{Usage}

abbrev pub is_user : Aim → Bool
is_user User = true
is_user Foe = false

abbrev pub is_conversion : CopyKind → Bool
is_conversion copies.Conversion = true
is_conversion other = false

-- whether a kind is aimed at its user
abbrev pub is_for_user : Effect → Bool
is_for_user (effects.Boost who stat by chance) = is_user who
is_for_user (effects.Copy sub) = is_conversion sub
is_for_user effects.Haze = true
is_for_user effects.Heal = true
is_for_user effects.Rest = true
is_for_user (effects.Screen which) = true
is_for_user effects.Mist = true
is_for_user effects.Focus = true
is_for_user effects.Substitute = true
is_for_user effects.Nothing = true
is_for_user other = false

abbrev pub target_of : Effect → Duel → Who
target_of kind duel = if is_for_user kind then who_of duel.user else who_of duel.foe

-- whether a move prepares: the first act of a charge does, its Continue strikes
abbrev pub prepares : Effect → Bool → Bool
prepares (effects.Charge away) goes_on = not goes_on
prepares other goes_on = false

-- Move is told, and the move is the last one of its user
unfoldable pub named_row : Figures → Usage → Play (Unit {0})
named_row facts usage = do
  change (λ duel. record duel { user = record duel.user { vol = record duel.user.vol { last = Some usage.mv } } })
  duel ← duel_now
  tell (events.Move (who_of duel.user) usage.mv (target_of (move_of facts usage.mv).effect duel)
      (prepares (move_of facts usage.mv).effect usage.goes_on) usage.from)

unfoldable pub named : Figures → ℕ → Usage → Course → Course
named facts user usage course = played (named_row facts usage) user course

-- a move is told, and takes effect
unfoldable pub used_alone : Figures → ℕ → Usage → Course → Course
used_alone facts user usage course = effect (move_of facts usage.mv).effect facts usage.mv usage.slot user (named facts user usage course)

-- the move that a move calls
unfoldable pub call_of : Figures → ℕ → Usage → Course → Option ℕ
call_of facts user usage course = call (move_of facts usage.mv).effect facts usage.mv user (named facts user usage course)

-- a called move is used with the slot of who called it, and takes no PP
abbrev pub calling : Usage → ℕ → Usage
calling usage mv = record { mv = mv; slot = usage.slot; from = Some usage.mv; goes_on = false }

-- what comes of a call, where there is one
abbrev pub then_called : Option ℕ → (ℕ → Course → Course) → Course → Course
then_called None next course = course
then_called (Some mv) next course = next mv course

-- a called move, and the one that it calls in turn. None calls a third: what Mirror Move calls calls none, and what Metronome calls is
-- no Metronome
unfoldable pub used_called : Figures → ℕ → Usage → Course → Course
used_called facts user usage course =
    then_called (call_of facts user usage course) (λ mv. used_alone facts user (calling usage mv)) (used_alone facts user usage course)

-- a move, and the moves that it calls: at most three
unfoldable pub used : Figures → ℕ → Usage → Course → Course
used facts user usage course =
    then_called (call_of facts user usage course) (λ mv. used_called facts user (calling usage mv)) (used_alone facts user usage course)

-- a use takes PP from the slot; Struggle has none
unfoldable pub with_use_of : ℕ → Option ℕ → Battle → Battle
with_use_of user None battle = battle
with_use_of user (Some slot) battle = after_use battle user slot

-- a move of a slot, or Struggle, which has none
abbrev pub fresh_use : Option ℕ → ℕ → Usage
fresh_use slot mv = record { mv = mv; slot = unwrap_or slot 0; from = None; goes_on = false }

-- a lock's move, which is told with its own name behind it and takes no PP
abbrev pub continued_use : Lock → Usage
continued_use lock = record { mv = lock.mv; slot = 0; from = Some lock.mv; goes_on = true }

-- a move takes PP from its slot and is used; then its user takes its residual, where both active members stand
unfoldable pub moved : Figures → ℕ → Option ℕ → ℕ → Course → Course
moved facts user slot mv course =
    played residual user (used facts user (fresh_use slot mv) (record course { battle = with_use_of user slot course.battle }))

unfoldable pub fail_row : Play (Unit {0})
fail_row = do
  duel ← duel_now
  tell (events.Fail (who_of duel.user))

-- a long move goes on; where its lock has ended there is Fail in the place of Move and effect
abbrev pub went_on : Option Lock → Figures → ℕ → Course → Course
went_on None facts user course = played fail_row user course
went_on (Some lock) facts user course = used facts user (continued_use lock) course

unfoldable pub continued : Figures → ℕ → Course → Course
continued facts user course = played residual user (went_on (side_of course.battle user).vol.lock facts user course)

-- whether the member acts: else the line that ends its act stands in the place of the move and of the residual after it
unfoldable pub goes_on : Option ℕ → ℕ → Course → Bool
goes_on slot user course = (may_act slot (record { duel = duel_of course.battle user; told = course.told })).0

unfoldable pub tried : Figures → ℕ → Option ℕ → ℕ → Course → Course
tried facts user slot mv course =
    let tested = played (may_act slot) user course in
    if goes_on slot user course then moved facts user slot mv tested else tested

unfoldable pub tried_again : Figures → ℕ → Course → Course
tried_again facts user course =
    let tested = played (may_act None) user course in
    if goes_on None user course then continued facts user tested else tested

-- an act of a side; a switch is none
unfoldable pub act : Figures → ℕ → Choice → Course → Course
act facts user (choices.Move number) course = tried facts user (Some (number - 1)) (chosen_slot (side_of course.battle user) number) course
act facts user choices.Struggle course = tried facts user None struggle_number course
act facts user choices.Continue course = tried_again facts user course
act facts user choice course = course

-- whether an active member has fainted
unfoldable pub is_down : Battle → ℕ → Bool
is_down battle side = (active_of (side_of battle side)).hp == 0

unfoldable pub has_faint : Battle → Bool
has_faint battle = is_down battle 0 || is_down battle 1

-- two acts, the second only where nobody fainted in the first
unfoldable pub two_acts : Figures → ℕ → Choice → ℕ → Choice → Course → Course
two_acts facts first_side first second_side second course =
    let one = act facts first_side first course in
    if has_faint one.battle then one else act facts second_side second one
