-- A strike, step by step.
use Rattle.std.specs.Prelude.{ℕ, pos, ◌+ℤ◌, int_lt, Option, Some, None, Bool, true, false, ◌+◌, ◌-◌, ◌*◌, ◌/◌, ◌≤◌, ◌&&◌, ◌||◌, min}
use Rattle.std.specs.Prelude.{max, nat_lt, ◌==◌, List, slice_index, if◌then◌else◌}
use Rattle.ps_event.specs.declared.event.Event.TheVariants as events
use Rattle.ps_event.specs.Numbers as numbers
use Rattle.ps_calc.specs.Damage.{damage_of}
use Rattle.ps_calc.specs.declared.formula.Hit.{Hit as Numbers}
use Rattle.ps_calc.specs.Chances.{accuracy_byte_of, crit_byte_of}
use Rattle.ps_mon.specs.Facts.{Figures}
use Rattle.ps_mon.specs.declared.record.Lock.{Lock}
use Rattle.ps_mon.specs.declared.record.LockKind.{LockKind}
use Rattle.ps_mon.specs.declared.record.LockKind.TheVariants.{Bide}
use Rattle.ps_mon.specs.declared.record.Taken.{Taken}
use Rattle.ps_mon.specs.declared.duel.Fighter.{Fighter}
use Rattle.ps_mon.specs.declared.duel.Duel.{Duel}
use Rattle.ps_mon.specs.Moves.{move_of, move_factors}
use Rattle.ps_hits.specs.declared.strike.Blow.{Blow}
use Rattle.ps_hits.specs.declared.strike.Dealt.{Dealt}
use Rattle.ps_hits.specs.declared.strike.Struck.{Struck}
use Rattle.ps_hits.specs.declared.strike.Struck.TheVariants.{NoEffect, Missed, Hit}
use Rattle.ps_hits.specs.Scenes.{Play, ◌>>=◌, ◌>>◌, give, duel_now, tell, change, choose, draw}
use Rattle.ps_hits.specs.Told.{who_of, health_of}
use Rattle.ps_hits.specs.Fighters.{types_now, is_of_type, is_away, rages, attack_of, defence_of, own_attack, own_defence}

-- Deal to a substitute: it loses up to so much in the foe's place, and ends at 0
unfoldable pub deal_to_substitute : ℕ → Play Dealt
deal_to_substitute damage = do
  duel ← duel_now
  let left = duel.foe.vol.substitute - damage
  change (λ duel. record duel { foe = record duel.foe { vol = record duel.foe.vol { substitute = left } } })
  choose (left == 0) (tell (events.VolEnd (who_of duel.foe) numbers.effect_substitute))
      (tell (events.Activate (who_of duel.foe) numbers.effect_substitute None))
  give (record { damage = damage; amount = min damage duel.foe.vol.substitute; own = false; ended = left == 0 })

-- the damage taken in this turn, where health was lost
unfoldable pub taken_after : ℕ → ℕ → Option Taken → Option Taken
taken_after mv lost before = if lost == 0 then before else Some (record { damage = lost; mv = mv })

-- Bide stores the health that its user loses, at most 713
abbrev pub stored_by : LockKind → ℕ → Lock → Lock
stored_by Bide lost lock = record lock { stored = min 713 (lock.stored + lost) }
stored_by kind lost lock = lock

abbrev pub stored_after : ℕ → Option Lock → Option Lock
stored_after lost None = None
stored_after lost (Some lock) = Some (stored_by lock.kind lost lock)

-- a fighter that a move has taken health from
unfoldable pub hurt_by : ℕ → ℕ → Fighter → Fighter
hurt_by mv lost fighter = record fighter {
  hp = fighter.hp - lost;
  vol = record fighter.vol { taken = taken_after mv lost fighter.vol.taken; lock = stored_after lost fighter.vol.lock };
}

-- a raging foe's Attack rises by one stage, up to 6
unfoldable pub enrage : Play (Unit {0})
enrage = do
  duel ← duel_now
  choose (int_lt duel.foe.vol.stages.atk (pos 6)) (do
    change (λ duel. record duel {
      foe = record duel.foe
          { vol = record duel.foe.vol { stages = record duel.foe.vol.stages { atk = duel.foe.vol.stages.atk +ℤ pos 1 } } };
    })
    tell (events.Boost (who_of duel.foe) numbers.stat_atk 1))
      (give tt)

-- a foe that lost health, and rages
unfoldable pub rage_on : ℕ → Play (Unit {0})
rage_on lost = do
  duel ← duel_now
  choose (nat_lt 0 lost && rages duel.foe.vol.lock) enrage (give tt)

-- Deal to the foe itself: it loses up to so much, faints at 0, and rages on
unfoldable pub deal_to_foe : ℕ → ℕ → Play Dealt
deal_to_foe mv damage = do
  duel ← duel_now
  let lost = min damage duel.foe.hp
  let foe = hurt_by mv lost duel.foe
  change (λ duel. record duel { foe = foe })
  tell (events.Damage (who_of foe) (health_of foe) numbers.from_nothing)
  choose (foe.hp == 0) (tell (events.Faint (who_of foe))) (give tt)
  rage_on lost
  give (record { damage = damage; amount = lost; own = nat_lt 0 lost; ended = false })

-- Deal: a substitute loses health in the foe's place
unfoldable pub deal : ℕ → ℕ → Play Dealt
deal mv damage = do
  duel ← duel_now
  choose (nat_lt 0 duel.foe.vol.substitute) (deal_to_substitute damage) (deal_to_foe mv damage)

-- the accuracy test: 0 always hits, with no draw; who is away is missed, with no draw; else a draw below the byte hits
unfoldable pub accuracy_test : ℕ → Play Bool
accuracy_test percent = do
  duel ← duel_now
  choose (percent == 0) (give true)
      (choose (is_away duel.foe.vol.lock)
      (do
        tell (events.Miss (who_of duel.user))
        give false)
      (do
        drawn ← draw 256
        choose (nat_lt drawn (accuracy_byte_of percent duel.user.vol.stages.acc duel.foe.vol.stages.eva)) (give true)
            (do
              tell (events.Miss (who_of duel.user))
              give false)))

-- the defence of a strike, halved where the user explodes, at least 1
abbrev pub halved : Bool → ℕ → ℕ
halved half stat = if half then max 1 (stat / 2) else stat

-- the numbers of a hit
unfoldable pub numbers_of : Duel → Blow → Bool → ℕ → Numbers
numbers_of duel blow crit roll = record {
  level = duel.user.level;
  power = blow.move_data.power;
  attack = if crit then own_attack duel.user blow.move_data.special else attack_of duel.user blow.move_data.special;
  defence = halved blow.half (if crit then own_defence duel.foe blow.move_data.special else defence_of duel.foe blow.move_data.special);
  crit = crit;
  stab = is_of_type duel.user blow.move_data.kind;
  factors = blow.factors;
  roll = roll;
}

-- Super or Resisted, where the product of the factors is over or under one
unfoldable pub tell_factors : List ℕ → Play (Unit {0})
tell_factors factors = do
  duel ← duel_now
  let product = slice_index factors 0 * slice_index factors 1
  choose (nat_lt 100 product) (tell (events.Super (who_of duel.foe)))
      (choose (nat_lt product 100) (tell (events.Resisted (who_of duel.foe))) (give tt))

-- a strike that lands: whether it is critical, the roll, what is told of them, and Deal
unfoldable pub hit : Blow → Play Dealt
hit blow = do
  before ← duel_now
  drawn ← draw 256
  let crit = nat_lt drawn (crit_byte_of before.user.base_speed blow.move_data.high before.user.vol.focus)
  roll ← draw 39
  choose crit (tell (events.Crit (who_of before.foe))) (give tt)
  tell_factors blow.factors
  deal blow.mv (damage_of (numbers_of before blow crit (217 + roll)))

-- the damage of a strike that hit is at most 5,992
abbrev pub IsStruck : Struck → Type 0
IsStruck NoEffect = Unit {0}
IsStruck Missed = Unit {0}
IsStruck (Hit dealt) = dealt.damage ≤ 5992

-- a strike: no effect by a factor 0, the accuracy test, and the hit
unfoldable pub strike : Blow → Play Struck
strike blow = do
  duel ← duel_now
  choose (slice_index blow.factors 0 == 0 || slice_index blow.factors 1 == 0)
      (do
        tell (events.Immune (who_of duel.foe))
        give NoEffect)
      (do
        lands ← accuracy_test blow.move_data.accuracy
        choose lands
            (do
              dealt ← hit blow
              give (Hit dealt))
            (give Missed))

-- a move as a strike on a fighter
unfoldable pub blow_of : Figures → ℕ → Bool → Fighter → Blow
blow_of facts mv half foe = record { mv = mv; move_data = move_of facts mv; factors = move_factors facts mv (types_now foe); half = half }

-- a move as a strike on the foe
unfoldable pub strike_with : Figures → ℕ → Bool → Play Struck
strike_with facts mv half = do
  duel ← duel_now
  strike (blow_of facts mv half duel.foe)
