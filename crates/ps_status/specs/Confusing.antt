-- Confusion, by a strike or without one, and a strike that makes the foe flinch.
use Rattle.std.specs.Prelude.{ℕ, Bool, true, false, None, ◌+◌, ◌||◌, nat_lt, ◌==◌}
use Rattle.ps_event.specs.declared.event.Event.TheVariants as events
use Rattle.ps_mon.specs.declared.duel.Fighter.{Fighter}
use Rattle.ps_mon.specs.declared.effect.Effect.{Effect}
use Rattle.ps_mon.specs.declared.effect.Effect.TheVariants as effects
use Rattle.ps_mon.specs.Facts.{Figures}
use Rattle.ps_mon.specs.Moves.{move_of}
use Rattle.ps_hits.specs.Scenes.{Play, ◌>>=◌, ◌>>◌, give, duel_now, tell, change, choose, draw}
use Rattle.ps_hits.specs.Told.{who_of}
use Rattle.ps_hits.specs.Strikes.{accuracy_test, strike_with}
use Rattle.ps_event.specs.Numbers as numbers
use Rattle.ps_status.specs.Seconds.{second}

-- who is confused, or has a substitute, can't be confused
abbrev pub stays_sane : Fighter → Bool
stays_sane fighter = nat_lt 0 fighter.vol.confusion || nat_lt 0 fighter.vol.substitute

abbrev pub confused : ℕ → Fighter → Fighter
confused turns fighter = record fighter { vol = record fighter.vol { confusion = turns } }

-- the foe is confused for 2 to 5 acts
unfoldable pub daze : Play (Unit {0})
daze = do
  drawn ← draw 4
  change (λ duel. record duel { foe = confused (2 + drawn) duel.foe })
  duel ← duel_now
  tell (events.VolStart (who_of duel.foe) numbers.effect_confusion None)

-- confusion as the secondary of a strike
unfoldable pub confuse_second : Play (Unit {0})
confuse_second = do
  duel ← duel_now
  choose (stays_sane duel.foe) (give tt) daze

-- a strike, and confusion as its secondary
unfoldable pub confuse_by_strike : ℕ → Figures → ℕ → Play (Unit {0})
confuse_by_strike chance facts mv = do
  struck ← strike_with facts mv false
  second chance struck confuse_second

-- with power 0: the accuracy test, and confusion, or Fail where it can't be
unfoldable pub confuse_alone : Figures → ℕ → Play (Unit {0})
confuse_alone facts mv = do
  lands ← accuracy_test (move_of facts mv).accuracy
  duel ← duel_now
  choose lands (choose (stays_sane duel.foe) (tell (events.Fail (who_of duel.user))) daze) (give tt)

-- confuse: by strike and secondary, or with power 0
unfoldable pub confuse_row : ℕ → Figures → ℕ → Play (Unit {0})
confuse_row chance facts mv =
    choose ((move_of facts mv).power == 0) (confuse_alone facts mv) (confuse_by_strike chance facts mv)

abbrev pub flinching : Fighter → Fighter
flinching fighter = record fighter { vol = record fighter.vol { flinch = true } }

-- flinch: a strike and, as its secondary, the foe flinches
unfoldable pub flinch_row : ℕ → Figures → ℕ → Play (Unit {0})
flinch_row chance facts mv = do
  struck ← strike_with facts mv false
  second chance struck (change (λ duel. record duel { foe = flinching duel.foe }))

-- what the calls do for a move of that kind; for another kind nothing
abbrev pub confuse_effect : Effect → Figures → ℕ → Play (Unit {0})
confuse_effect (effects.Confuse chance) facts mv = confuse_row chance facts mv
confuse_effect other facts mv = give tt

abbrev pub flinch_effect : Effect → Figures → ℕ → Play (Unit {0})
flinch_effect (effects.Flinch chance) facts mv = flinch_row chance facts mv
flinch_effect other facts mv = give tt
