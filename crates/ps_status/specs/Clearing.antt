-- Haze, and the end of a status.
use Rattle.std.specs.Prelude.{false, None}
use Rattle.ps_event.specs.declared.event.Event.TheVariants as events
use Rattle.ps_mon.specs.declared.duel.Fighter.{Fighter}
use Rattle.ps_mon.specs.declared.status.Status.TheVariants.{Healthy}
use Rattle.ps_mon.specs.Reading.{no_stages}
use Rattle.ps_mon.specs.Switching.{milder}
use Rattle.ps_hits.specs.Scenes.{Play, give, duel_now, tell, change, choose, ◌>>=◌, ◌>>◌}
use Rattle.ps_hits.specs.Told.{who_of, status_number}
use Rattle.ps_status.specs.Afflicting.{is_healthy}

-- a fighter without its status, and without what counted it
abbrev pub cured : Fighter → Fighter
cured fighter = record fighter { status = Healthy; counter = 0; rested = false }

-- stages, confusion, seed, screens, Mist, Focus Energy and a disabled slot end
unfoldable pub cleared : Fighter → Fighter
cleared fighter =
    record fighter {
      vol = record fighter.vol {
        stages = no_stages;
        confusion = 0;
        seeded = false;
        reflect = false;
        light = false;
        mist = false;
        focus = false;
        disabled = None;
      };
    }

-- the foe's status ends, where it has one
unfoldable pub cure_foe : Play (Unit {0})
cure_foe = do
  duel ← duel_now
  choose (is_healthy duel.foe.status) (give tt) (do
    change (λ duel. record duel { foe = cured duel.foe })
    tell (events.CureStatus (who_of duel.foe) (status_number duel.foe.status)))

-- haze: both members lose what is above; the foe's status ends, and the user's bad poison becomes a plain one
unfoldable pub haze_row : Play (Unit {0})
haze_row = do
  tell events.ClearAll
  change (λ duel. record duel { user = cleared duel.user; foe = cleared duel.foe })
  cure_foe
  change (λ duel. record duel { user = record duel.user { status = milder duel.user.status } })
