-- Stages, with a strike or without one.
use Rattle.std.specs.Prelude.{ℕ, ℤ, pos, negsuc, ◌+ℤ◌, ◌-ℤ◌, ◌≤ℤ◌, int_lt, unsigned_abs, Bool, false, ◌||◌, not, nat_lt, ◌==◌}
use Rattle.std.specs.Prelude.{if◌then◌else◌}
use Rattle.ps_event.specs.declared.event.Event.{Event}
use Rattle.ps_event.specs.declared.event.Event.TheVariants as events
use Rattle.ps_mon.specs.declared.duel.Fighter.{Fighter}
use Rattle.ps_mon.specs.declared.duel.Duel.{Duel}
use Rattle.ps_mon.specs.declared.effect.Aim.{Aim}
use Rattle.ps_mon.specs.declared.effect.Aim.TheVariants.{User, Foe}
use Rattle.ps_mon.specs.declared.effect.Stat.{Stat}
use Rattle.ps_mon.specs.declared.effect.Stat.TheVariants.{Atk, Def, Spc, Spe, Acc, Eva}
use Rattle.ps_mon.specs.declared.effect.Effect.{Effect}
use Rattle.ps_mon.specs.declared.effect.Effect.TheVariants as effects
use Rattle.ps_mon.specs.Facts.{Figures}
use Rattle.ps_mon.specs.declared.record.Stages.{Stages}
use Rattle.ps_mon.specs.Moves.{move_of}
use Rattle.ps_hits.specs.Scenes.{Play, ◌>>=◌, ◌>>◌, give, duel_now, tell, change, choose}
use Rattle.ps_hits.specs.Told.{who_of}
use Rattle.ps_hits.specs.Strikes.{accuracy_test, strike_with}
use Rattle.ps_status.specs.declared.boosting.Shift.{Shift}
use Rattle.ps_event.specs.Numbers as numbers
use Rattle.ps_status.specs.Seconds.{second}

-- a change by at most 6 stages
pub record IsShift (shift : Shift) : Type 0 where
  pub low : negsuc 5 ≤ℤ shift.by
  pub high : shift.by ≤ℤ pos 6

abbrev pub stage_of : Stat → Stages → ℤ
stage_of Atk stages = stages.atk
stage_of Def stages = stages.def
stage_of Spc stages = stages.spc
stage_of Spe stages = stages.spe
stage_of Acc stages = stages.acc
stage_of Eva stages = stages.eva

abbrev pub with_stage : Stat → ℤ → Stages → Stages
with_stage Atk stage stages = record stages { atk = stage }
with_stage Def stage stages = record stages { def = stage }
with_stage Spc stage stages = record stages { spc = stage }
with_stage Spe stage stages = record stages { spe = stage }
with_stage Acc stage stages = record stages { acc = stage }
with_stage Eva stage stages = record stages { eva = stage }

-- a stage after a change, cut at 6 and at -6
unfoldable pub moved : ℤ → ℤ → ℤ
moved stage by =
    if int_lt (pos 6) (stage +ℤ by) then pos 6 else if int_lt (stage +ℤ by) (negsuc 5) then negsuc 5 else stage +ℤ by

-- a stage that can't rise or fall any more
unfoldable pub is_at_end : ℤ → ℤ → Bool
is_at_end stage by = if int_lt (pos 0) by then not (int_lt stage (pos 6)) else not (int_lt (negsuc 5) stage)

abbrev pub stage_now : Stat → Fighter → ℤ
stage_now stat fighter = stage_of stat fighter.vol.stages

abbrev pub boosted : Shift → Fighter → Fighter
boosted shift fighter =
    record fighter {
      vol = record fighter.vol
          { stages = with_stage shift.stat (moved (stage_now shift.stat fighter) shift.by) fighter.vol.stages };
    }

-- a stage's index in the list of what has stages
abbrev pub stat_number : Stat → ℕ
stat_number Atk = numbers.stat_atk
stat_number Def = numbers.stat_def
stat_number Spc = numbers.stat_spc
stat_number Spe = numbers.stat_spe
stat_number Acc = numbers.stat_acc
stat_number Eva = numbers.stat_eva

-- by how many stages a fighter really changes
unfoldable pub steps_of : Shift → Fighter → ℕ
steps_of shift fighter = unsigned_abs (moved (stage_now shift.stat fighter) shift.by -ℤ stage_now shift.stat fighter)

-- Boost or Unboost, by as many stages as really change
unfoldable pub boost_event : Shift → Fighter → Event
boost_event shift fighter =
    if int_lt (pos 0) shift.by then events.Boost (who_of fighter) (stat_number shift.stat) (steps_of shift fighter)
    else events.Unboost (who_of fighter) (stat_number shift.stat) (steps_of shift fighter)

-- the user's stages change
unfoldable pub boost_user : Shift → Play (Unit {0})
boost_user shift = do
  duel ← duel_now
  change (λ duel. record duel { user = boosted shift duel.user })
  tell (boost_event shift duel.user)

-- the foe's stages change
unfoldable pub boost_foe : Shift → Play (Unit {0})
boost_foe shift = do
  duel ← duel_now
  change (λ duel. record duel { foe = boosted shift duel.foe })
  tell (boost_event shift duel.foe)

abbrev pub boost_at : Aim → Shift → Play (Unit {0})
boost_at User shift = boost_user shift
boost_at Foe shift = boost_foe shift

-- the end of the range bars a change, and a foe's mist or substitute does
abbrev pub is_barred_at : Aim → Shift → Duel → Bool
is_barred_at User shift duel = is_at_end (stage_now shift.stat duel.user) shift.by
is_barred_at Foe shift duel =
    is_at_end (stage_now shift.stat duel.foe) shift.by || duel.foe.vol.mist || nat_lt 0 duel.foe.vol.substitute

unfoldable pub is_boost_barred : Shift → Duel → Bool
is_boost_barred shift duel = is_barred_at shift.who shift duel

-- a change as the secondary of a strike
unfoldable pub boost_second : Shift → Play (Unit {0})
boost_second shift = do
  duel ← duel_now
  choose (is_boost_barred shift duel) (give tt) (boost_at shift.who shift)

-- a strike, and a change as its secondary
unfoldable pub boost_by_strike : Shift → ℕ → Figures → ℕ → Play (Unit {0})
boost_by_strike shift chance facts mv = do
  struck ← strike_with facts mv false
  second chance struck (boost_second shift)

-- a change, or Fail where it can't be
unfoldable pub boost_or_fail : Shift → Play (Unit {0})
boost_or_fail shift = do
  duel ← duel_now
  choose (is_boost_barred shift duel) (tell (events.Fail (who_of duel.user))) (boost_at shift.who shift)

-- with power 0: the accuracy test is for a foe alone
abbrev pub boost_alone_at : Aim → Shift → Figures → ℕ → Play (Unit {0})
boost_alone_at User shift facts mv = boost_or_fail shift
boost_alone_at Foe shift facts mv = do
  lands ← accuracy_test (move_of facts mv).accuracy
  choose lands (boost_or_fail shift) (give tt)

unfoldable pub boost_alone : Shift → Figures → ℕ → Play (Unit {0})
boost_alone shift facts mv = boost_alone_at shift.who shift facts mv

-- boost: by strike and secondary, or with power 0
unfoldable pub boost_row : Shift → ℕ → Figures → ℕ → Play (Unit {0})
boost_row shift chance facts mv =
    choose ((move_of facts mv).power == 0) (boost_alone shift facts mv) (boost_by_strike shift chance facts mv)

-- what the call does for a move of that kind; for another kind nothing
abbrev pub boost_effect : Effect → Figures → ℕ → Play (Unit {0})
boost_effect (effects.Boost who stat by chance) facts mv = boost_row (record { who = who; stat = stat; by = by }) chance facts mv
boost_effect other facts mv = give tt
