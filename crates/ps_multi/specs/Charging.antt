-- Moves that take the act before their strike, or the one after it.
use Rattle.std.specs.Prelude.{ℕ, Bool, true, false, Option, Some, None, ◌&&◌, nat_lt, not}
use Rattle.ps_event.specs.declared.event.Event.TheVariants as events
use Rattle.ps_mon.specs.declared.duel.Duel.{Duel}
use Rattle.ps_mon.specs.declared.effect.Effect.{Effect}
use Rattle.ps_mon.specs.declared.effect.Effect.TheVariants as effects
use Rattle.ps_mon.specs.Facts.{Figures}
use Rattle.ps_mon.specs.declared.record.Lock.{Lock}
use Rattle.ps_mon.specs.declared.record.LockKind.{LockKind}
use Rattle.ps_mon.specs.declared.record.LockKind.TheVariants.{Charge}
use Rattle.ps_hits.specs.declared.strike.Struck.{Struck}
use Rattle.ps_hits.specs.declared.strike.Struck.TheVariants.{NoEffect, Missed, Hit}
use Rattle.ps_hits.specs.Scenes.{Play, ◌>>=◌, ◌>>◌, give, duel_now, tell, change, choose}
use Rattle.ps_hits.specs.Told.{who_of}
use Rattle.ps_hits.specs.Strikes.{strike_with}

-- a lock of that kind and move, for so many acts, that has stored nothing
abbrev pub new_lock : LockKind → ℕ → ℕ → ℕ → Lock
new_lock kind mv turns damage = record { kind = kind; mv = mv; turns = turns; damage = damage; stored = 0 }

-- the user has that lock, or none, from now on
abbrev pub lock_user : Option Lock → Play (Unit {0})
lock_user lock = change (λ duel. record duel { user = record duel.user { vol = record duel.user.vol { lock = lock } } })

abbrev pub is_charge : LockKind → Bool
is_charge (Charge away) = true
is_charge other = false

-- a member has prepared while it has the lock of a charge
abbrev pub has_prepared : Option Lock → Bool
has_prepared None = false
has_prepared (Some lock) = is_charge lock.kind

-- the act before the strike
unfoldable pub prepare : Bool → ℕ → Play (Unit {0})
prepare away mv = do
  duel ← duel_now
  tell (events.Prepare (who_of duel.user) mv)
  lock_user (Some (new_lock (Charge away) mv 1 0))

-- the strike that was prepared; the lock ends, whatever came of it
unfoldable pub charged_strike : Figures → ℕ → Play (Unit {0})
charged_strike facts mv = do
  struck ← strike_with facts mv false
  lock_user None

-- charge: first Prepare and a lock, out of reach if the move says so; then the strike, and the lock ends
unfoldable pub charge_row : Bool → Figures → ℕ → Play (Unit {0})
charge_row away facts mv = do
  duel ← duel_now
  choose (has_prepared duel.user.vol.lock) (charged_strike facts mv) (prepare away mv)

-- what the call does for a move of that kind; for another kind nothing
abbrev pub charge_effect : Effect → Figures → ℕ → Play (Unit {0})
charge_effect (effects.Charge away) facts mv = charge_row away facts mv
charge_effect other facts mv = give tt

-- whether a strike wears its user out: it hit, the foe stands, and no substitute ended
abbrev pub wears_out : Struck → Duel → Bool
wears_out NoEffect duel = false
wears_out Missed duel = false
wears_out (Hit dealt) duel = nat_lt 0 duel.foe.hp && not dealt.ended

-- the user must recharge in its next act
unfoldable pub tire : Play (Unit {0})
tire = do
  change (λ duel. record duel { user = record duel.user { vol = record duel.user.vol { recharge = true } } })
  duel ← duel_now
  tell (events.MustRecharge (who_of duel.user))

-- recharge: a strike; the user must recharge where it hit, the foe stands and no substitute ended
unfoldable pub recharge_row : Figures → ℕ → Play (Unit {0})
recharge_row facts mv = do
  struck ← strike_with facts mv false
  duel ← duel_now
  choose (wears_out struck duel) tire (give tt)
