-- What moves of several hits, charged moves and locks tell.
use Rattle.std.proofs.Common.{ℕ, zero, suc, Bool, Option, Some, None}
use Rattle.ps_event.specs.declared.event.Who.{Who}
use Rattle.ps_mon.specs.Facts.{Figures}
use Rattle.ps_mon.specs.declared.record.Lock.{Lock}
use Rattle.ps_mon.specs.declared.record.LockKind.{LockKind}
use Rattle.ps_mon.specs.declared.status.Status.{Status}
use Rattle.ps_hits.specs.declared.strike.Dealt.{Dealt}
use Rattle.ps_hits.specs.declared.strike.Struck.{Struck}
use Rattle.ps_hits.specs.declared.strike.Struck.TheVariants.{NoEffect, Missed, Hit}
use Rattle.ps_multi.specs.Several.{further_hits, hits_in_all, multi_after, multi_row, double_after, double_row}
use Rattle.ps_multi.specs.Charging.{lock_user, prepare, charged_strike, charge_row, tire, recharge_row}
use Rattle.ps_multi.specs.Locking.{lock_or_new, trap_foe, trap_after, trap_begins, trap_wears_off, trap_goes_on, trap_by, trap_row, grow_dizzy, thrash_wears_off, thrash_row, bide_on, bide_ends, bide_row, rage_row}
use Rattle.battle_secrecy.proofs.TellLemmas.{Tells, tells}
use Rattle.battle_secrecy.proofs.TellHitsLemmas.{deal-tells, strike_with-tells, deal_alone-tells}
use Rattle.battle_secrecy.proofs.TellStatusLemmas.{second-tells, status_second-tells}

further_hits-tells : (P : Who → Type 0) (n mv : ℕ) (dealt : Dealt) → Tells P (further_hits n mv dealt)
unfolding further_hits
further_hits-tells P zero mv dealt = search tells depth 20
further_hits-tells P (suc n) mv dealt = (let more = further_hits-tells P n in search (tells, deal-tells, more) depth 20)

hits_in_all-tells : (P : Who → Type 0) (n mv : ℕ) (first : Dealt) → Tells P (hits_in_all n mv first)
unfolding hits_in_all
hits_in_all-tells P n mv first = search (tells, further_hits-tells) depth 20

multi_after-tells : (P : Who → Type 0) (mv : ℕ) (struck : Struck) → Tells P (multi_after mv struck)
unfolding multi_after
multi_after-tells P mv NoEffect = search tells depth 20
multi_after-tells P mv Missed = search tells depth 20
multi_after-tells P mv (Hit dealt) = search (tells, hits_in_all-tells) depth 20

pub multi_row-tells : (P : Who → Type 0) (facts : Figures) (mv : ℕ) → Tells P (multi_row facts mv)
unfolding multi_row
multi_row-tells P facts mv = search (tells, strike_with-tells, multi_after-tells) depth 20

double_after-tells : (P : Who → Type 0) (mv : ℕ) (struck : Struck) → Tells P (double_after mv struck)
unfolding double_after
double_after-tells P mv NoEffect = search tells depth 20
double_after-tells P mv Missed = search tells depth 20
double_after-tells P mv (Hit dealt) = hits_in_all-tells P 2 mv dealt

pub double_row-tells : (P : Who → Type 0) (status : Status) (chance : ℕ) (facts : Figures) (mv : ℕ) → Tells P (double_row status chance facts mv)
unfolding double_row
double_row-tells P status chance facts mv = search (tells, strike_with-tells, double_after-tells, second-tells, status_second-tells) depth 20

lock_user-tells : (P : Who → Type 0) (lock : Option Lock) → Tells P (lock_user lock)
lock_user-tells P lock = search tells depth 20

prepare-tells : (P : Who → Type 0) (away : Bool) (mv : ℕ) → Tells P (prepare away mv)
unfolding prepare
prepare-tells P away mv = search (tells, lock_user-tells) depth 20

charged_strike-tells : (P : Who → Type 0) (facts : Figures) (mv : ℕ) → Tells P (charged_strike facts mv)
unfolding charged_strike
charged_strike-tells P facts mv = search (tells, strike_with-tells, lock_user-tells) depth 20

pub charge_row-tells : (P : Who → Type 0) (away : Bool) (facts : Figures) (mv : ℕ) → Tells P (charge_row away facts mv)
unfolding charge_row
charge_row-tells P away facts mv = search (tells, charged_strike-tells, prepare-tells) depth 20

tire-tells : (P : Who → Type 0) → Tells P tire
unfolding tire
tire-tells P = search tells depth 20

pub recharge_row-tells : (P : Who → Type 0) (facts : Figures) (mv : ℕ) → Tells P (recharge_row facts mv)
unfolding recharge_row
recharge_row-tells P facts mv = search (tells, strike_with-tells, tire-tells) depth 20

lock_or_new-tells : (P : Who → Type 0) (kind : LockKind) (fewest mv : ℕ) (lock : Option Lock) → Tells P (lock_or_new kind fewest mv lock)
lock_or_new-tells P kind fewest mv None = search tells depth 20
lock_or_new-tells P kind fewest mv (Some lock) = search tells depth 20

trap_foe-tells : (P : Who → Type 0) (mv : ℕ) (dealt : Dealt) → Tells P (trap_foe mv dealt)
unfolding trap_foe
trap_foe-tells P mv dealt = search (tells, lock_user-tells) depth 20

trap_after-tells : (P : Who → Type 0) (mv : ℕ) (struck : Struck) → Tells P (trap_after mv struck)
unfolding trap_after
trap_after-tells P mv NoEffect = search tells depth 20
trap_after-tells P mv Missed = search tells depth 20
trap_after-tells P mv (Hit dealt) = search (tells, trap_foe-tells) depth 20

trap_begins-tells : (P : Who → Type 0) (facts : Figures) (mv : ℕ) → Tells P (trap_begins facts mv)
unfolding trap_begins
trap_begins-tells P facts mv = search (tells, strike_with-tells, trap_after-tells) depth 20

trap_wears_off-tells : (P : Who → Type 0) (lock : Lock) → Tells P (trap_wears_off lock)
unfolding trap_wears_off
trap_wears_off-tells P lock = search (tells, lock_user-tells) depth 20

trap_goes_on-tells : (P : Who → Type 0) (mv : ℕ) (lock : Lock) → Tells P (trap_goes_on mv lock)
unfolding trap_goes_on
trap_goes_on-tells P mv lock = search (tells, deal-tells, trap_wears_off-tells) depth 20

trap_by-tells : (P : Who → Type 0) (lock : Option Lock) (facts : Figures) (mv : ℕ) → Tells P (trap_by lock facts mv)
trap_by-tells P None facts mv = trap_begins-tells P facts mv
trap_by-tells P (Some lock) facts mv = trap_goes_on-tells P mv lock

pub trap_row-tells : (P : Who → Type 0) (facts : Figures) (mv : ℕ) → Tells P (trap_row facts mv)
unfolding trap_row
trap_row-tells P facts mv = search (tells, trap_by-tells) depth 20

grow_dizzy-tells : (P : Who → Type 0) → Tells P grow_dizzy
unfolding grow_dizzy
grow_dizzy-tells P = search tells depth 20

thrash_wears_off-tells : (P : Who → Type 0) (lock : Lock) → Tells P (thrash_wears_off lock)
unfolding thrash_wears_off
thrash_wears_off-tells P lock = search (tells, lock_user-tells, grow_dizzy-tells) depth 20

pub thrash_row-tells : (P : Who → Type 0) (facts : Figures) (mv : ℕ) → Tells P (thrash_row facts mv)
unfolding thrash_row
thrash_row-tells P facts mv = search (tells, lock_or_new-tells, strike_with-tells, thrash_wears_off-tells) depth 20

bide_on-tells : (P : Who → Type 0) (lock : Lock) → Tells P (bide_on lock)
unfolding bide_on
bide_on-tells P lock = search (tells, lock_user-tells) depth 20

bide_ends-tells : (P : Who → Type 0) (mv : ℕ) (lock : Lock) → Tells P (bide_ends mv lock)
unfolding bide_ends
bide_ends-tells P mv lock = search (tells, lock_user-tells, deal_alone-tells) depth 20

pub bide_row-tells : (P : Who → Type 0) (mv : ℕ) → Tells P (bide_row mv)
unfolding bide_row
bide_row-tells P mv = search (tells, lock_or_new-tells, bide_ends-tells, bide_on-tells) depth 20

pub rage_row-tells : (P : Who → Type 0) (facts : Figures) (mv : ℕ) → Tells P (rage_row facts mv)
unfolding rage_row
rage_row-tells P facts mv = search (tells, strike_with-tells, lock_user-tells) depth 20
