-- What the lines of an act tell, before its move and after it.
use Rattle.std.proofs.Common.{ℕ, Bool, true, false, Option, Some, None, if◌then◌else◌}
use Rattle.ps_event.specs.declared.event.Who.{Who}
use Rattle.ps_mon.specs.Facts.{Figures}
use Rattle.ps_event.specs.declared.event.Event.TheVariants as events
use Rattle.ps_mon.specs.declared.duel.Duel.{Duel}
use Rattle.ps_mon.specs.Moves.{move_of}
use Rattle.ps_mon.specs.declared.effect.Effect.{Effect}
use Rattle.ps_mon.specs.declared.record.Disabled.{Disabled}
use Rattle.ps_mon.specs.declared.status.Status.{Status}
use Rattle.ps_mon.specs.declared.status.Status.TheVariants.{Healthy, Slp, Par, Brn, Psn, Tox, Frz}
use Rattle.ps_hits.specs.Scenes.{Play}
use Rattle.ps_hits.specs.Told.{who_of}
use Rattle.ps_battle.specs.Acting.{cannot, sleep_on, stays_awake, stays_thawed, stays_free, stays_steady, stays_fresh, wear_off, disabled_wears_off, stays_enabled, hurt_itself, act_confused, stays_clear, stays_mobile, ◌and◌, may_act}
use Rattle.ps_battle.specs.Residual.{residual_of_bad_poison, residual_of, residual_of_status, foe_gains, feed_foe, lets_go_down, residual}
use Rattle.ps_battle.specs.Acts.{target_of, prepares, named_row, fail_row}
use Rattle.battle_secrecy.proofs.Uses.{Use}
use Rattle.battle_secrecy.specs.Showing.{whos}
use Rattle.battle_secrecy.proofs.TellLemmas.{Tells, tells, AreSo}
use Rattle.battle_secrecy.proofs.TellHitsLemmas.{lose-tells}

cannot-tells : (P : Who → Type 0) (reason : ℕ) → Tells P (cannot reason)
unfolding cannot
cannot-tells P reason = search tells depth 20

sleep_on-tells : (P : Who → Type 0) → Tells P sleep_on
unfolding sleep_on
sleep_on-tells P = search (tells, cannot-tells) depth 20

stays_awake-tells : (P : Who → Type 0) → Tells P stays_awake
unfolding stays_awake
stays_awake-tells P = search (tells, sleep_on-tells) depth 20

stays_thawed-tells : (P : Who → Type 0) → Tells P stays_thawed
unfolding stays_thawed
stays_thawed-tells P = search (tells, cannot-tells) depth 20

stays_free-tells : (P : Who → Type 0) → Tells P stays_free
unfolding stays_free
stays_free-tells P = search (tells, cannot-tells) depth 20

stays_steady-tells : (P : Who → Type 0) → Tells P stays_steady
unfolding stays_steady
stays_steady-tells P = search (tells, cannot-tells) depth 20

stays_fresh-tells : (P : Who → Type 0) → Tells P stays_fresh
unfolding stays_fresh
stays_fresh-tells P = search (tells, cannot-tells) depth 20

wear_off-tells : (P : Who → Type 0) (disabled : Option Disabled) → Tells P (wear_off disabled)
wear_off-tells P None = search tells depth 20
wear_off-tells P (Some disabled) = search tells depth 20

disabled_wears_off-tells : (P : Who → Type 0) → Tells P disabled_wears_off
unfolding disabled_wears_off
disabled_wears_off-tells P = search (tells, wear_off-tells) depth 20

stays_enabled-tells : (P : Who → Type 0) (slot : Option ℕ) → Tells P (stays_enabled slot)
unfolding stays_enabled
stays_enabled-tells P slot = search (tells, disabled_wears_off-tells, cannot-tells) depth 20

hurt_itself-tells : (P : Who → Type 0) (n : ℕ) → Tells P (hurt_itself n)
unfolding hurt_itself
hurt_itself-tells P n = search tells depth 20

act_confused-tells : (P : Who → Type 0) → Tells P act_confused
unfolding act_confused
act_confused-tells P = search (tells, hurt_itself-tells) depth 20

stays_clear-tells : (P : Who → Type 0) → Tells P stays_clear
unfolding stays_clear
stays_clear-tells P = search (tells, act_confused-tells) depth 20

stays_mobile-tells : (P : Who → Type 0) → Tells P stays_mobile
unfolding stays_mobile
stays_mobile-tells P = search (tells, cannot-tells) depth 20

and-tells : (P : Who → Type 0) (p q : Play Bool) → Tells P p → Tells P q → Tells P (p and q)
and-tells P p q one two = search tells depth 20

pub may_act-tells : (P : Who → Type 0) (slot : Option ℕ) → Tells P (may_act slot)
unfolding may_act
may_act-tells P slot =
    and-tells P _ _ (stays_awake-tells P)
    (and-tells P _ _ (stays_thawed-tells P)
    (and-tells P _ _ (stays_free-tells P)
    (and-tells P _ _ (stays_steady-tells P)
    (and-tells P _ _ (stays_fresh-tells P)
    (and-tells P _ _ (stays_enabled-tells P slot)
    (and-tells P _ _ (stays_clear-tells P) (stays_mobile-tells P)))))))

-- ---- the residual

residual_of_bad_poison-tells : (P : Who → Type 0) → Tells P residual_of_bad_poison
unfolding residual_of_bad_poison
residual_of_bad_poison-tells P = search (tells, lose-tells) depth 20

residual_of-tells : (P : Who → Type 0) (status : Status) → Tells P (residual_of status)
residual_of-tells P Healthy = search tells depth 20
residual_of-tells P Slp = search tells depth 20
residual_of-tells P Par = search tells depth 20
residual_of-tells P Brn = search (tells, lose-tells) depth 20
residual_of-tells P Psn = search (tells, lose-tells) depth 20
residual_of-tells P Tox = residual_of_bad_poison-tells P
residual_of-tells P Frz = search tells depth 20

residual_of_status-tells : (P : Who → Type 0) → Tells P residual_of_status
unfolding residual_of_status
residual_of_status-tells P = search (tells, residual_of-tells) depth 20

foe_gains-tells : (P : Who → Type 0) (n : ℕ) → Tells P (foe_gains n)
unfolding foe_gains
foe_gains-tells P n = search tells depth 20

feed_foe-tells : (P : Who → Type 0) → Tells P feed_foe
unfolding feed_foe
feed_foe-tells P = search (tells, lose-tells, foe_gains-tells) depth 20

lets_go_down-tells : (P : Who → Type 0) → Tells P lets_go_down
unfolding lets_go_down
lets_go_down-tells P = search tells depth 20

pub residual-tells : (P : Who → Type 0) → Tells P residual
unfolding residual
residual-tells P = search (tells, residual_of_status-tells, feed_foe-tells, lets_go_down-tells) depth 20

-- ---- a move and its target

either : (P : Who → Type 0) (b : Bool) (x y : Who) → P x → P y → P (if b then x else y)
either P true x y one two = one
either P false x y one two = two

target-so : (P : Who → Type 0) (kind : Effect) (d : Duel) → P (who_of d.user) → P (who_of d.foe) → P (target_of kind d)
target-so P kind d user foe = either P _ _ _ user foe

move-so : (P : Who → Type 0) (facts : Figures) (u : Use) (kind : Effect) (d : Duel) → P (who_of d.user) → P (who_of d.foe) → AreSo P (whos (events.Move (who_of d.user) u.mv (target_of kind d) (prepares kind u.goes_on) u.from))
move-so P facts u kind d user foe = (user, (target-so P kind d user foe, tt))

pub named_row-tells : (P : Who → Type 0) (facts : Figures) (u : Use) → Tells P (named_row facts u)
unfolding named_row
named_row-tells P facts u = search (tells, move-so P facts u (move_of facts u.mv).effect) depth 20

pub fail_row-tells : (P : Who → Type 0) → Tells P fail_row
unfolding fail_row
fail_row-tells P = search tells depth 20
