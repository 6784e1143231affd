-- Health for the user, and sleep.
use Rattle.std.specs.Prelude.{true, ◌/◌, ◌==◌}
use Rattle.ps_event.specs.declared.event.Event.TheVariants as events
use Rattle.ps_mon.specs.declared.duel.Fighter.{Fighter}
use Rattle.ps_mon.specs.declared.status.Status.TheVariants.{Slp}
use Rattle.ps_hits.specs.Scenes.{Play, ◌>>=◌, ◌>>◌, duel_now, tell, change, choose}
use Rattle.ps_hits.specs.Told.{who_of, status_number}
use Rattle.ps_hits.specs.Shares.{gain}

-- heal: Fail at full health, else the user gains half of its greatest health, rounded down
unfoldable pub heal_row : Play (Unit {0})
heal_row = do
  duel ← duel_now
  choose (duel.user.hp == duel.user.max) (tell (events.Fail (who_of duel.user))) (gain (duel.user.max / 2))

-- a fighter that Rest put to sleep, whatever status it had
abbrev pub resting : Fighter → Fighter
resting fighter = record fighter { status = Slp; counter = 2; rested = true }

-- rest: Fail at full health, else sleep of 2 acts, and then all of its health
unfoldable pub rest_row : Play (Unit {0})
rest_row = do
  duel ← duel_now
  choose (duel.user.hp == duel.user.max) (tell (events.Fail (who_of duel.user))) (do
    change (λ duel. record duel { user = resting duel.user })
    tell (events.Status (who_of duel.user) (status_number Slp))
    gain duel.user.max)
