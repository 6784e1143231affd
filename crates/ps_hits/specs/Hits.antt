-- Effects that are a strike, and one after which the user faints.
use Rattle.std.specs.Prelude.{ℕ, true, false}
use Rattle.ps_event.specs.declared.event.Event.TheVariants as events
use Rattle.ps_mon.specs.Facts.{Figures}
use Rattle.ps_hits.specs.Scenes.{Play, ◌>>=◌, ◌>>◌, give, duel_now, tell, change}
use Rattle.ps_hits.specs.Told.{who_of}
use Rattle.ps_hits.specs.Strikes.{strike_with}

-- plain: a strike
unfoldable pub plain_row : Figures → ℕ → Play (Unit {0})
plain_row facts mv = do
  struck ← strike_with facts mv false
  give tt

-- explode: a strike against half the defence; then, whatever came of it, the user's health is 0 and it faints
unfoldable pub explode_row : Figures → ℕ → Play (Unit {0})
explode_row facts mv = do
  struck ← strike_with facts mv true
  change (λ duel. record duel { user = record duel.user { hp = 0 } })
  duel ← duel_now
  tell (events.Faint (who_of duel.user))
