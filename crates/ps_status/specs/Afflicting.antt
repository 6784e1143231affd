-- A status, by a strike or without one.
use Rattle.std.specs.Prelude.{ℕ, Bool, true, false, ◌+◌, ◌&&◌, ◌||◌, not, nat_lt, ◌==◌, List, slice_index}
use Rattle.ps_event.specs.declared.event.Event.TheVariants as events
use Rattle.ps_mon.specs.declared.duel.Fighter.{Fighter}
use Rattle.ps_mon.specs.declared.duel.Duel.{Duel}
use Rattle.ps_mon.specs.declared.effect.Effect.{Effect}
use Rattle.ps_mon.specs.declared.effect.Effect.TheVariants as effects
use Rattle.ps_mon.specs.Facts.{Figures}
use Rattle.ps_mon.specs.declared.facts.MoveData.{MoveData}
use Rattle.ps_mon.specs.declared.status.Status.{Status}
use Rattle.ps_mon.specs.declared.status.Status.TheVariants.{Healthy, Slp, Brn, Psn, Tox, Frz}
use Rattle.ps_mon.specs.Duels.{is_slp}
use Rattle.ps_mon.specs.Moves.{move_of, move_factors}
use Rattle.ps_mon.specs.Clauses.{has_clause}
use Rattle.ps_hits.specs.Scenes.{Play, give, duel_now, tell, change, choose, draw, ◌>>=◌, ◌>>◌}
use Rattle.ps_hits.specs.Told.{who_of, status_number}
use Rattle.ps_hits.specs.Fighters.{types_now, is_of_type, is_paralysed}
use Rattle.ps_hits.specs.Strikes.{accuracy_test, strike_with}
use Rattle.ps_status.specs.Seconds.{second}

abbrev pub is_healthy : Status → Bool
is_healthy Healthy = true
is_healthy other = false

-- Sleep Clause Mod and Freeze Clause Mod: the bits of the second and the third clause
abbrev pub sleep_clause : ℕ
sleep_clause = 2

abbrev pub freeze_clause : ℕ
freeze_clause = 4

-- a clause bars sleep where another standing member of the foe's side sleeps, and not by Rest, and frost where one is frozen
abbrev pub is_barred_by_clause : Status → Duel → Bool
is_barred_by_clause Slp duel = has_clause duel.clauses sleep_clause && duel.asleep
is_barred_by_clause Frz duel = has_clause duel.clauses freeze_clause && duel.frozen
is_barred_by_clause status duel = false

-- whether the foe has a substitute, or the move's type
abbrev pub is_shielded : MoveData → Duel → Bool
is_shielded used duel = nat_lt 0 duel.foe.vol.substitute || is_of_type duel.foe used.kind

-- as a secondary: a status, the clauses, a substitute and the move's type bar any status
unfoldable pub is_barred_second : Status → MoveData → Duel → Bool
is_barred_second status used duel = not (is_healthy duel.foe.status) || is_barred_by_clause status duel || is_shielded used duel

-- what a substitute or the move's type bars with power 0
abbrev pub is_by_touch : Status → Bool
is_by_touch Psn = true
is_by_touch Tox = true
is_by_touch Brn = true
is_by_touch Frz = true
is_by_touch other = false

-- whether a type of the foe is immune to a move
abbrev pub has_no_effect : List ℕ → Bool
has_no_effect factors = slice_index factors 0 == 0 || slice_index factors 1 == 0

-- with power 0: a status and the clauses bar any; a special move to which a type is immune bars Par; a substitute and the move's type bar
-- Psn, Tox, Brn and Frz
unfoldable pub is_barred_alone : Status → MoveData → List ℕ → Duel → Bool
is_barred_alone status used factors duel =
    not (is_healthy duel.foe.status) || is_barred_by_clause status duel
    || (is_paralysed status && (used.special && has_no_effect factors))
    || (is_by_touch status && is_shielded used duel)

-- how many acts a new status counts: sleep 1 to 7
unfoldable pub counter_of : Status → Play ℕ
counter_of status = choose (is_slp status) (do
  drawn ← draw 7
  give (1 + drawn)) (give 0)

-- each new bad poison counts anew
abbrev pub toxic_after : Status → ℕ → ℕ
toxic_after Tox toxic = 0
toxic_after other toxic = toxic

-- a fighter that has got a status
unfoldable pub afflicted : Status → ℕ → Fighter → Fighter
afflicted status counter fighter =
    record fighter {
      status = status;
      counter = counter;
      rested = false;
      vol = record fighter.vol { toxic = toxic_after status fighter.vol.toxic };
    }

-- the foe gets the status
unfoldable pub afflict : Status → Play (Unit {0})
afflict status = do
  counter ← counter_of status
  change (λ duel. record duel { foe = afflicted status counter duel.foe })
  duel ← duel_now
  tell (events.Status (who_of duel.foe) (status_number status))

-- a status as the secondary of a strike
unfoldable pub status_second : Status → MoveData → Play (Unit {0})
status_second status used = do
  duel ← duel_now
  choose (is_barred_second status used duel) (give tt) (afflict status)

-- a strike, and a status as its secondary
unfoldable pub status_by_strike : Status → ℕ → Figures → ℕ → Play (Unit {0})
status_by_strike status chance facts mv = do
  struck ← strike_with facts mv false
  second chance struck (status_second status (move_of facts mv))

-- with power 0: the accuracy test, and the status, or Fail where it can't be
unfoldable pub status_alone : Status → Figures → ℕ → Play (Unit {0})
status_alone status facts mv = do
  lands ← accuracy_test (move_of facts mv).accuracy
  duel ← duel_now
  choose lands
      (choose (is_barred_alone status (move_of facts mv) (move_factors facts mv (types_now duel.foe)) duel)
      (tell (events.Fail (who_of duel.user))) (afflict status))
      (give tt)

-- status: by strike and secondary, or with power 0
unfoldable pub status_row : Status → ℕ → Figures → ℕ → Play (Unit {0})
status_row status chance facts mv =
    choose ((move_of facts mv).power == 0) (status_alone status facts mv) (status_by_strike status chance facts mv)

-- what the call does for a move of that kind; for another kind nothing
abbrev pub status_effect : Effect → Figures → ℕ → Play (Unit {0})
status_effect (effects.Status status chance) facts mv = status_row status chance facts mv
status_effect other facts mv = give tt
