-- Effects that deal a stated amount: the types aren't looked at, but by one.
use Rattle.std.specs.Prelude.{ℕ, ◌+◌, ◌*◌, ◌/◌, ◌||◌, ◌==◌, max, nat_lt, slice_index}
use Rattle.ps_event.specs.declared.event.Event.TheVariants as events
use Rattle.ps_mon.specs.Facts.{Figures}
use Rattle.ps_mon.specs.Moves.{move_of, move_factors}
use Rattle.ps_mon.specs.declared.effect.Effect.{Effect}
use Rattle.ps_mon.specs.declared.effect.Effect.TheVariants as effects
use Rattle.ps_hits.specs.Scenes.{Play, ◌>>=◌, give, duel_now, tell, choose, draw}
use Rattle.ps_hits.specs.Told.{who_of}
use Rattle.ps_hits.specs.Fighters.{types_now, speed_of}
use Rattle.ps_hits.specs.Strikes.{deal, accuracy_test}

-- Deal without an answer
abbrev pub deal_alone : ℕ → ℕ → Play (Unit {0})
deal_alone mv damage = do
  dealt ← deal mv damage
  give tt

-- the accuracy test, and where it hits what comes then
abbrev pub where_it_lands : Figures → ℕ → Play (Unit {0}) → Play (Unit {0})
where_it_lands facts mv then_this = do
  lands ← accuracy_test (move_of facts mv).accuracy
  choose lands then_this (give tt)

-- fixed: the amount of the move
unfoldable pub fixed_row : ℕ → Figures → ℕ → Play (Unit {0})
fixed_row amount facts mv = where_it_lands facts mv (deal_alone mv amount)

-- level: the user's level
unfoldable pub level_row : Figures → ℕ → Play (Unit {0})
level_row facts mv = where_it_lands facts mv do
  duel ← duel_now
  deal_alone mv duel.user.level

-- half: half of the foe's health, at least 1
unfoldable pub half_row : Figures → ℕ → Play (Unit {0})
half_row facts mv = where_it_lands facts mv do
  duel ← duel_now
  deal_alone mv (max 1 (duel.foe.hp / 2))

-- psywave: 1 to one and a half times the user's level
unfoldable pub psywave_row : Figures → ℕ → Play (Unit {0})
psywave_row facts mv = where_it_lands facts mv do
  duel ← duel_now
  drawn ← draw (3 * duel.user.level / 2)
  deal_alone mv (1 + drawn)

-- ohko: no effect by a factor 0, Fail where the user is slower, then all of the foe's health
unfoldable pub ohko_row : Figures → ℕ → Play (Unit {0})
ohko_row facts mv = do
  duel ← duel_now
  let factors = move_factors facts mv (types_now duel.foe)
  choose (slice_index factors 0 == 0 || slice_index factors 1 == 0) (tell (events.Immune (who_of duel.foe)))
      (choose (nat_lt (speed_of duel.user) (speed_of duel.foe)) (tell (events.Fail (who_of duel.user)))
      (where_it_lands facts mv (deal_alone mv duel.foe.hp)))

-- what a move of the kind fixed deals
abbrev pub amount_of : Effect → ℕ
amount_of (effects.Fixed amount) = amount
amount_of other = 0
