-- Moves that hold their user for several acts.
use Rattle.std.specs.Prelude.{ℕ, Bool, true, false, Option, Some, None, ◌+◌, ◌-◌, ◌*◌, ◌==◌, ◌||◌, if◌then◌else◌}
use Rattle.ps_event.specs.declared.event.Event.TheVariants as events
use Rattle.ps_event.specs.Numbers.{effect_confusion, effect_bide}
use Rattle.ps_mon.specs.Facts.{Figures}
use Rattle.ps_mon.specs.declared.record.Lock.{Lock}
use Rattle.ps_mon.specs.declared.record.LockKind.{LockKind}
use Rattle.ps_mon.specs.declared.record.LockKind.TheVariants.{Trap, Thrash, Bide, Rage}
use Rattle.ps_hits.specs.declared.strike.Dealt.{Dealt}
use Rattle.ps_hits.specs.declared.strike.Struck.{Struck}
use Rattle.ps_hits.specs.declared.strike.Struck.TheVariants.{NoEffect, Missed, Hit}
use Rattle.ps_hits.specs.Scenes.{Play, ◌>>=◌, ◌>>◌, give, duel_now, tell, change, choose, draw}
use Rattle.ps_hits.specs.Told.{who_of}
use Rattle.ps_hits.specs.Strikes.{deal, strike_with}
use Rattle.ps_hits.specs.Amounts.{deal_alone}
use Rattle.ps_status.specs.Confusing.{stays_sane, confused}
use Rattle.ps_multi.specs.Several.{hits_by}
use Rattle.ps_multi.specs.Charging.{new_lock, lock_user}

abbrev pub is_trap : LockKind → Bool
is_trap Trap = true
is_trap other = false

abbrev pub is_thrash : LockKind → Bool
is_thrash Thrash = true
is_thrash other = false

abbrev pub is_bide : LockKind → Bool
is_bide Bide = true
is_bide other = false

-- a lock, where it is of that kind
abbrev pub own_lock : (LockKind → Bool) → Option Lock → Option Lock
own_lock is_own None = None
own_lock is_own (Some lock) = if is_own lock.kind then Some lock else None

-- a lock with one act less
abbrev pub one_act_less : Lock → Lock
one_act_less lock = record lock { turns = lock.turns - 1 }

-- the lock that the user has or, where it has none, a new one of so many acts or one more
abbrev pub lock_or_new : LockKind → ℕ → ℕ → Option Lock → Play Lock
lock_or_new kind fewest mv (Some lock) = give lock
lock_or_new kind fewest mv None = do
  drawn ← draw 2
  give (new_lock kind mv (fewest + drawn) 0)

-- a strike of that damage that left the foe standing traps it, for one act less than so many
unfoldable pub trap_foe : ℕ → Dealt → Play (Unit {0})
trap_foe mv dealt = do
  drawn ← draw 8
  lock_user (Some (new_lock Trap mv (hits_by drawn - 1) dealt.damage))

unfoldable pub trap_after : ℕ → Struck → Play (Unit {0})
trap_after mv NoEffect = give tt
trap_after mv Missed = give tt
trap_after mv (Hit dealt) = do
  duel ← duel_now
  choose (duel.foe.hp == 0) (give tt) (trap_foe mv dealt)

-- a trap begins: a strike, and the foe is trapped
unfoldable pub trap_begins : Figures → ℕ → Play (Unit {0})
trap_begins facts mv = do
  struck ← strike_with facts mv false
  trap_after mv struck

-- a trap ends with its last act, and where the foe has fainted
unfoldable pub trap_wears_off : Lock → Play (Unit {0})
trap_wears_off lock = do
  duel ← duel_now
  choose (lock.turns == 0 || duel.foe.hp == 0) (lock_user None) (lock_user (Some lock))

-- a trap goes on: the damage of its strike is dealt again
unfoldable pub trap_goes_on : ℕ → Lock → Play (Unit {0})
trap_goes_on mv lock = do
  dealt ← deal mv lock.damage
  trap_wears_off (one_act_less lock)

abbrev pub trap_by : Option Lock → Figures → ℕ → Play (Unit {0})
trap_by None facts mv = trap_begins facts mv
trap_by (Some lock) facts mv = trap_goes_on mv lock

-- trap: a strike that traps the foe; then its damage again in each act, without a test
unfoldable pub trap_row : Figures → ℕ → Play (Unit {0})
trap_row facts mv = do
  duel ← duel_now
  trap_by (own_lock is_trap duel.user.vol.lock) facts mv

-- the user is confused for 2 to 5 acts, where it can be
unfoldable pub grow_dizzy : Play (Unit {0})
grow_dizzy = do
  duel ← duel_now
  choose (stays_sane duel.user) (give tt) do
    drawn ← draw 4
    change (λ duel. record duel { user = confused (2 + drawn) duel.user })
    tell (events.VolStart (who_of duel.user) effect_confusion None)

-- after the last act the lock ends, and the user is confused
unfoldable pub thrash_wears_off : Lock → Play (Unit {0})
thrash_wears_off lock = choose (lock.turns == 0) (do
  lock_user None
  grow_dizzy) (lock_user (Some lock))

-- thrash: a strike in each of 3 or 4 acts, of which this may be the first; it goes on though the strike misses
unfoldable pub thrash_row : Figures → ℕ → Play (Unit {0})
thrash_row facts mv = do
  duel ← duel_now
  lock ← lock_or_new Thrash 3 mv (own_lock is_thrash duel.user.vol.lock)
  struck ← strike_with facts mv false
  thrash_wears_off (one_act_less lock)

-- an act in which the user bides
unfoldable pub bide_on : Lock → Play (Unit {0})
bide_on lock = do
  lock_user (Some (one_act_less lock))
  duel ← duel_now
  tell (events.Activate (who_of duel.user) effect_bide None)

-- the act after the last: the lock ends, and twice of what it has stored is dealt, without a test; Fail where that is nothing
unfoldable pub bide_ends : ℕ → Lock → Play (Unit {0})
bide_ends mv lock = do
  lock_user None
  duel ← duel_now
  tell (events.VolEnd (who_of duel.user) effect_bide)
  choose (lock.stored == 0) (tell (events.Fail (who_of duel.user))) (deal_alone mv (2 * lock.stored))

-- bide: 2 or 3 acts, of which this may be the first, and then the release
unfoldable pub bide_row : ℕ → Play (Unit {0})
bide_row mv = do
  duel ← duel_now
  lock ← lock_or_new Bide 2 mv (own_lock is_bide duel.user.vol.lock)
  choose (lock.turns == 0) (bide_ends mv lock) (bide_on lock)

-- rage: a strike, and a lock without end, whatever came of it
unfoldable pub rage_row : Figures → ℕ → Play (Unit {0})
rage_row facts mv = do
  struck ← strike_with facts mv false
  lock_user (Some (new_lock Rage mv 0 0))
