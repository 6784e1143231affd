-- What the user puts before itself: a substitute, screens, Mist and Focus Energy.
use Rattle.std.specs.Prelude.{ℕ, Bool, true, None, ◌+◌, ◌-◌, ◌/◌, ◌||◌, nat_lt, not}
use Rattle.ps_event.specs.declared.event.Event.TheVariants as events
use Rattle.ps_mon.specs.declared.duel.Fighter.{Fighter}
use Rattle.ps_mon.specs.declared.effect.Effect.{Effect}
use Rattle.ps_mon.specs.declared.effect.Effect.TheVariants as effects
use Rattle.ps_mon.specs.declared.effect.ScreenKind.{ScreenKind}
use Rattle.ps_mon.specs.declared.effect.ScreenKind.TheVariants as screens
use Rattle.ps_hits.specs.Scenes.{Play, ◌>>=◌, ◌>>◌, give, duel_now, tell, change, choose}
use Rattle.ps_hits.specs.Told.{who_of}
use Rattle.ps_event.specs.Numbers as numbers

-- a quarter of the greatest health, rounded down
abbrev pub cost_of : Fighter → ℕ
cost_of fighter = fighter.max / 4

-- who has a substitute, or no more health than the cost, can't make one
unfoldable pub cannot_make_one : Fighter → Bool
cannot_make_one fighter = nat_lt 0 fighter.vol.substitute || not (nat_lt (cost_of fighter) fighter.hp)

-- a fighter that gave the cost for a substitute, which has that and 1
unfoldable pub with_substitute : Fighter → Fighter
with_substitute fighter = record fighter {
  hp = fighter.hp - cost_of fighter;
  vol = record fighter.vol { substitute = cost_of fighter + 1 };
}

-- substitute: Fail where the user can't make one; else it loses the cost, with no event of the loss
unfoldable pub substitute_row : Play (Unit {0})
substitute_row = do
  duel ← duel_now
  choose (cannot_make_one duel.user) (tell (events.Fail (who_of duel.user))) (do
    change (λ duel. record duel { user = with_substitute duel.user })
    tell (events.VolStart (who_of duel.user) numbers.effect_substitute None))

-- Fail where it is on, else it starts, with the number of its name
abbrev pub start : (Fighter → Bool) → (Fighter → Fighter) → ℕ → Play (Unit {0})
start is_on turn_on number = do
  duel ← duel_now
  choose (is_on duel.user) (tell (events.Fail (who_of duel.user))) (do
    change (λ duel. record duel { user = turn_on duel.user })
    tell (events.VolStart (who_of duel.user) number None))

abbrev pub has_screen : ScreenKind → Fighter → Bool
has_screen screens.Reflect fighter = fighter.vol.reflect
has_screen screens.Light fighter = fighter.vol.light

-- a screen's place in the list of what starts
abbrev pub screen_number : ScreenKind → ℕ
screen_number screens.Reflect = numbers.effect_reflect
screen_number screens.Light = numbers.effect_light_screen

abbrev pub with_screen : ScreenKind → Fighter → Fighter
with_screen screens.Reflect fighter = record fighter { vol = record fighter.vol { reflect = true } }
with_screen screens.Light fighter = record fighter { vol = record fighter.vol { light = true } }

-- screen: Reflect or Light Screen
unfoldable pub screen_row : ScreenKind → Play (Unit {0})
screen_row which = start (has_screen which) (with_screen which) (screen_number which)

-- mist
unfoldable pub mist_row : Play (Unit {0})
mist_row = start (λ fighter. fighter.vol.mist) (λ fighter. record fighter { vol = record fighter.vol { mist = true } }) numbers.effect_mist

-- focus: Focus Energy
unfoldable pub focus_row : Play (Unit {0})
focus_row = start (λ fighter. fighter.vol.focus) (λ fighter. record fighter { vol = record fighter.vol { focus = true } })
    numbers.effect_focus_energy

-- what the call does for a move of that kind; for another kind nothing
abbrev pub screen_effect : Effect → Play (Unit {0})
screen_effect (effects.Screen which) = screen_row which
screen_effect other = give tt
