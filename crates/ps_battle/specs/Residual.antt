-- The residual: what a member takes after its act.
use Rattle.std.specs.Prelude.{ℕ, ◌+◌, ◌*◌, ◌/◌, ◌&&◌, ◌==◌, min, max, nat_lt}
use Rattle.ps_event.specs.declared.event.Event.TheVariants as events
use Rattle.ps_mon.specs.declared.duel.Fighter.{Fighter}
use Rattle.ps_mon.specs.declared.status.Status.{Status}
use Rattle.ps_mon.specs.declared.status.Status.TheVariants.{Brn, Psn, Tox}
use Rattle.ps_hits.specs.Scenes.{Play, ◌>>=◌, ◌>>◌, give, duel_now, tell, change, choose}
use Rattle.ps_hits.specs.Told.{who_of, health_of}
use Rattle.ps_hits.specs.Shares.{lose}
use Rattle.ps_event.specs.Numbers as numbers
use Rattle.ps_battle.specs.Acting.{traps, without_lock}

-- a sixteenth of the greatest health, rounded down, at least 1
unfoldable pub base_loss : Fighter → ℕ
base_loss fighter = max 1 (fighter.max / 16)

-- bad poison: its count rises by 1 first, up to 15, and the loss is so many times the base
unfoldable pub residual_of_bad_poison : Play (Unit {0})
residual_of_bad_poison = do
  duel ← duel_now
  let count = min 15 (duel.user.vol.toxic + 1)
  change (λ duel. record duel { user = record duel.user { vol = record duel.user.vol { toxic = count } } })
  lose numbers.from_psn (base_loss duel.user * count)

-- Brn and Psn take the base, Tox more and more
abbrev pub residual_of : Status → Play (Unit {0})
residual_of Brn = do
  duel ← duel_now
  lose numbers.from_brn (base_loss duel.user)
residual_of Psn = do
  duel ← duel_now
  lose numbers.from_psn (base_loss duel.user)
residual_of Tox = residual_of_bad_poison
residual_of other = give tt

unfoldable pub residual_of_status : Play (Unit {0})
residual_of_status = do
  duel ← duel_now
  residual_of duel.user.status

-- the foe gains up to so much; Heal is told at full health too
unfoldable pub foe_gains : ℕ → Play (Unit {0})
foe_gains amount = do
  duel ← duel_now
  let foe = record duel.foe { hp = min duel.foe.max (duel.foe.hp + amount) }
  change (λ duel. record duel { foe = foe })
  tell (events.Heal (who_of foe) (health_of foe))

-- a seeded member that stands loses the base, and the foe gains it, whatever the member had
unfoldable pub feed_foe : Play (Unit {0})
feed_foe = do
  duel ← duel_now
  choose (duel.user.vol.seeded && nat_lt 0 duel.user.hp)
      (do
        lose numbers.from_leech_seed (base_loss duel.user)
        foe_gains (base_loss duel.user))
      (give tt)

-- a trap ends where its user has fainted
unfoldable pub lets_go_down : Play (Unit {0})
lets_go_down = do
  duel ← duel_now
  choose (duel.user.hp == 0 && traps duel.user.vol.lock) (change (λ duel. record duel { user = without_lock duel.user })) (give tt)

-- the residual of who acted, where both active members stand
unfoldable pub residual : Play (Unit {0})
residual = do
  duel ← duel_now
  choose (nat_lt 0 duel.user.hp && nat_lt 0 duel.foe.hp)
      (do
        residual_of_status
        feed_foe
        lets_go_down)
      (give tt)
