-- Whether a member acts: one line after another, each says whether the act goes on.
use Rattle.std.specs.Prelude.{ℕ, Bool, true, false, Option, Some, None, ◌-◌, nat_lt, ◌==◌, [], ◌∷◌, slice_index, if◌then◌else◌}
use Rattle.ps_event.specs.declared.event.Event.TheVariants as events
use Rattle.ps_calc.specs.Damage.{damage_of}
use Rattle.ps_calc.specs.Stages.{staged_of}
use Rattle.ps_calc.specs.declared.formula.Hit.{Hit}
use Rattle.ps_mon.specs.declared.duel.Fighter.{Fighter}
use Rattle.ps_mon.specs.declared.record.Disabled.{Disabled}
use Rattle.ps_mon.specs.declared.record.Lock.{Lock}
use Rattle.ps_mon.specs.declared.status.Status.TheVariants.{Slp}
use Rattle.ps_mon.specs.Duels.{is_slp, is_frz}
use Rattle.ps_mon.specs.Slots.{is_disabled}
use Rattle.ps_hits.specs.Scenes.{Play, ◌>>=◌, ◌>>◌, give, duel_now, tell, change, choose, draw}
use Rattle.ps_hits.specs.Told.{who_of, health_of, status_number}
use Rattle.ps_hits.specs.Fighters.{stats_now, is_paralysed}
use Rattle.ps_status.specs.Clearing.{cured}
use Rattle.ps_event.specs.Numbers as numbers
use Rattle.ps_multi.specs.Locking.{is_trap}

-- the act ends, and why
unfoldable pub cannot : ℕ → Play Bool
cannot reason = do
  duel ← duel_now
  tell (events.Cant (who_of duel.user) reason)
  give false

-- sleep: the counter falls by 1; at 0 it is cured; the act ends either way
unfoldable pub sleep_on : Play Bool
sleep_on = do
  duel ← duel_now
  let left = duel.user.counter - 1
  change (λ duel. record duel { user = record duel.user { counter = left } })
  choose (left == 0)
      (do
        change (λ duel. record duel { user = cured duel.user })
        tell (events.CureStatus (who_of duel.user) (status_number Slp))
        give false)
      (cannot numbers.reason_slp)

unfoldable pub stays_awake : Play Bool
stays_awake = do
  duel ← duel_now
  choose (is_slp duel.user.status) sleep_on (give true)

-- frozen
unfoldable pub stays_thawed : Play Bool
stays_thawed = do
  duel ← duel_now
  choose (is_frz duel.user.status) (cannot numbers.reason_frz) (give true)

-- a member is trapped while its foe has the lock of a trap
abbrev pub traps : Option Lock → Bool
traps None = false
traps (Some lock) = is_trap lock.kind

-- trapped by the foe's lock
unfoldable pub stays_free : Play Bool
stays_free = do
  duel ← duel_now
  choose (traps duel.foe.vol.lock) (cannot numbers.reason_partially_trapped) (give true)

-- flinching
unfoldable pub stays_steady : Play Bool
stays_steady = do
  duel ← duel_now
  choose duel.user.vol.flinch (cannot numbers.reason_flinch) (give true)

-- recharging, which is over then
unfoldable pub stays_fresh : Play Bool
stays_fresh = do
  duel ← duel_now
  choose duel.user.vol.recharge
      (do
        change (λ duel. record duel { user = record duel.user { vol = record duel.user.vol { recharge = false } } })
        cannot numbers.reason_recharge)
      (give true)

-- a disabled slot after one more act of its member
abbrev pub one_act_later : Disabled → Option Disabled
one_act_later disabled = if disabled.turns - 1 == 0 then None else Some (record disabled { turns = disabled.turns - 1 })

-- a disabled slot's turns fall by 1; at 0 it ends
abbrev pub wear_off : Option Disabled → Play (Unit {0})
wear_off None = give tt
wear_off (Some disabled) = do
  duel ← duel_now
  change (λ duel. record duel { user = record duel.user { vol = record duel.user.vol { disabled = one_act_later disabled } } })
  choose (disabled.turns - 1 == 0) (tell (events.VolEnd (who_of duel.user) numbers.effect_disable)) (give tt)

unfoldable pub disabled_wears_off : Play (Unit {0})
disabled_wears_off = do
  duel ← duel_now
  wear_off duel.user.vol.disabled

-- whether the chosen slot is disabled; Struggle and long moves have no slot
abbrev pub is_slot_disabled : Option Disabled → Option ℕ → Bool
is_slot_disabled disabled None = false
is_slot_disabled disabled (Some slot) = is_disabled disabled slot

-- the chosen slot is still disabled
unfoldable pub stays_enabled : Option ℕ → Play Bool
stays_enabled slot = do
  disabled_wears_off
  duel ← duel_now
  choose (is_slot_disabled duel.user.vol.disabled slot) (cannot numbers.reason_disable) (give true)

abbrev pub without_lock : Fighter → Fighter
without_lock fighter = record fighter { vol = record fighter.vol { lock = None } }

-- a confused member's hit on itself: of power 40, from its staged Attack and Defense, without Brn or screens, with factors 10 and no bonus
-- of its types, never critical, with the greatest roll
unfoldable pub own_hit : Fighter → Hit
own_hit fighter = record {
  level = fighter.level;
  power = 40;
  attack = staged_of (slice_index (stats_now fighter) 0) fighter.vol.stages.atk;
  defence = staged_of (slice_index (stats_now fighter) 1) fighter.vol.stages.def;
  crit = false;
  stab = false;
  factors = 10 ∷ 10 ∷ [];
  roll = 255;
}

-- the member loses up to so much by its own hit, and its lock ends
unfoldable pub hurt_itself : ℕ → Play Bool
hurt_itself damage = do
  duel ← duel_now
  let user = record (without_lock duel.user) { hp = duel.user.hp - damage }
  change (λ duel. record duel { user = user })
  tell (events.Damage (who_of user) (health_of user) numbers.from_confusion)
  choose (user.hp == 0) (tell (events.Faint (who_of user))) (give tt)
  give false

-- a member that stays confused: in 128 of 256 cases it hits itself
unfoldable pub act_confused : Play Bool
act_confused = do
  duel ← duel_now
  tell (events.Activate (who_of duel.user) numbers.effect_confusion None)
  drawn ← draw 256
  choose (nat_lt drawn 128) (hurt_itself (damage_of (own_hit duel.user))) (give true)

-- confused: the turns fall by 1; at 0 it ends
unfoldable pub stays_clear : Play Bool
stays_clear = do
  duel ← duel_now
  choose (duel.user.vol.confusion == 0) (give true)
      (do
        let left = duel.user.vol.confusion - 1
        change (λ duel. record duel { user = record duel.user { vol = record duel.user.vol { confusion = left } } })
        choose (left == 0)
            (do
              tell (events.VolEnd (who_of duel.user) numbers.effect_confusion)
              give true)
            act_confused)

-- paralysed: in 63 of 256 cases it can't move, and its lock ends
unfoldable pub stays_mobile : Play Bool
stays_mobile = do
  duel ← duel_now
  choose (is_paralysed duel.user.status)
      (do
        drawn ← draw 256
        choose (nat_lt drawn 63)
            (do
              change (λ duel. record duel { user = without_lock duel.user })
              cannot numbers.reason_par)
            (give true))
      (give true)

-- one line after another, until one ends the act
infixr 10 ◌and◌
abbrev pub ◌and◌ : Play Bool → Play Bool → Play Bool
one and other = do
  goes_on ← one
  choose goes_on other (give false)

-- whether a member acts, with the slot of its move
unfoldable pub may_act : Option ℕ → Play Bool
may_act slot =
    stays_awake and stays_thawed and stays_free and stays_steady and stays_fresh and stays_enabled slot and stays_clear and stays_mobile
