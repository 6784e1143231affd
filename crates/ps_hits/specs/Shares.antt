-- Effects by which the user gains or loses a part of what it dealt.
use Rattle.std.specs.Prelude.{ℕ, false, ◌+◌, ◌-◌, ◌/◌, ◌==◌, min, max}
use Rattle.ps_event.specs.declared.event.Event.TheVariants as events
use Rattle.ps_event.specs.Numbers as numbers
use Rattle.ps_mon.specs.Facts.{Figures}
use Rattle.ps_mon.specs.declared.effect.Effect.{Effect}
use Rattle.ps_mon.specs.declared.effect.Effect.TheVariants as effects
use Rattle.ps_mon.specs.Duels.{is_slp}
use Rattle.ps_hits.specs.declared.strike.Struck.{Struck}
use Rattle.ps_hits.specs.declared.strike.Struck.TheVariants.{NoEffect, Missed, Hit}
use Rattle.ps_hits.specs.Scenes.{Play, ◌>>=◌, ◌>>◌, give, duel_now, tell, change, choose}
use Rattle.ps_hits.specs.Told.{who_of, health_of}
use Rattle.ps_hits.specs.Strikes.{strike_with}

-- the user gains up to so much; Heal is told at full health too
unfoldable pub gain : ℕ → Play (Unit {0})
gain amount = do
  duel ← duel_now
  let user = record duel.user { hp = min duel.user.max (duel.user.hp + amount) }
  change (λ duel. record duel { user = user })
  tell (events.Heal (who_of user) (health_of user))

-- the user loses up to so much, and faints at 0
unfoldable pub lose : ℕ → ℕ → Play (Unit {0})
lose from amount = do
  duel ← duel_now
  let user = record duel.user { hp = duel.user.hp - amount }
  change (λ duel. record duel { user = user })
  tell (events.Damage (who_of user) (health_of user) from)
  choose (user.hp == 0) (tell (events.Faint (who_of user))) (give tt)

-- half of what was dealt, at least 1
unfoldable pub drained : Struck → Play (Unit {0})
drained NoEffect = give tt
drained Missed = give tt
drained (Hit dealt) = gain (max 1 (dealt.amount / 2))

-- drain: a strike; the user gains half of what it dealt
unfoldable pub drain_row : Figures → ℕ → Play (Unit {0})
drain_row facts mv = do
  struck ← strike_with facts mv false
  drained struck

-- dreameater: Fail unless the foe sleeps, then drain
unfoldable pub dreameater_row : Figures → ℕ → Play (Unit {0})
dreameater_row facts mv = do
  duel ← duel_now
  choose (is_slp duel.foe.status) (drain_row facts mv) (tell (events.Fail (who_of duel.user)))

-- what was dealt divided by a number, at least 1
unfoldable pub recoiled : ℕ → Struck → Play (Unit {0})
recoiled by NoEffect = give tt
recoiled by Missed = give tt
recoiled by (Hit dealt) = lose numbers.from_recoil (max 1 (dealt.amount / by))

-- recoil: a strike; the user loses a part of what it dealt
unfoldable pub recoil_row : ℕ → Figures → ℕ → Play (Unit {0})
recoil_row by facts mv = do
  struck ← strike_with facts mv false
  recoiled by struck

unfoldable pub crashed : Struck → Play (Unit {0})
crashed NoEffect = give tt
crashed Missed = lose numbers.from_crash 1
crashed (Hit dealt) = give tt

-- crash: a strike; at a Miss the user loses 1
unfoldable pub crash_row : Figures → ℕ → Play (Unit {0})
crash_row facts mv = do
  struck ← strike_with facts mv false
  crashed struck

-- what a move of the kind recoil divides by
abbrev pub divisor_of : Effect → ℕ
divisor_of (effects.Recoil by) = by
divisor_of other = 1
