-- What a status, stages, confusion and healing tell.
use Rattle.std.proofs.Common.{ℕ, Bool, true, false, if◌then◌else◌}
use Rattle.ps_event.specs.declared.event.Who.{Who}
use Rattle.ps_event.specs.declared.event.Event.{Event}
use Rattle.ps_mon.specs.Facts.{Figures}
use Rattle.ps_mon.specs.declared.duel.Fighter.{Fighter}
use Rattle.ps_mon.specs.declared.effect.Aim.{Aim}
use Rattle.ps_mon.specs.declared.effect.Aim.TheVariants.{User, Foe}
use Rattle.ps_mon.specs.declared.facts.MoveData.{MoveData}
use Rattle.ps_mon.specs.declared.status.Status.{Status}
use Rattle.ps_hits.specs.Scenes.{Play}
use Rattle.ps_hits.specs.Told.{who_of}
use Rattle.ps_hits.specs.declared.strike.Struck.{Struck}
use Rattle.ps_status.specs.declared.boosting.Shift.{Shift}
use Rattle.ps_status.specs.Seconds.{comes, second}
use Rattle.ps_status.specs.Afflicting.{counter_of, afflicted, afflict, status_second, status_by_strike, status_alone, status_row}
use Rattle.ps_status.specs.Boosting.{boost_event, boost_user, boost_foe, boost_at, boost_second, boost_by_strike, boost_or_fail, boost_alone_at, boost_alone, boost_row}
use Rattle.ps_status.specs.Clearing.{cleared, cure_foe, haze_row}
use Rattle.ps_status.specs.Confusing.{daze, confuse_second, confuse_by_strike, confuse_alone, confuse_row, flinch_row}
use Rattle.ps_status.specs.Healing.{heal_row, rest_row}
use Rattle.battle_secrecy.specs.Showing.{whos}
use Rattle.battle_secrecy.proofs.TellLemmas.{Tells, tells, AreSo, IsPlain}
use Rattle.battle_secrecy.proofs.TellHitsLemmas.{accuracy_test-tells, strike_with-tells, gain-tells}

pub second-tells : (P : Who → Type 0) (chance : ℕ) (struck : Struck) (then_this : Play (Unit {0})) → Tells P then_this → Tells P (second chance struck then_this)
unfolding comes
second-tells P chance struck then_this this = search tells depth 20

counter_of-tells : (P : Who → Type 0) (status : Status) → Tells P (counter_of status)
unfolding counter_of
counter_of-tells P status = search tells depth 20

afflict-tells : (P : Who → Type 0) (status : Status) → Tells P (afflict status)
unfolding afflict afflicted
afflict-tells P status = search (tells, counter_of-tells) depth 20

pub status_second-tells : (P : Who → Type 0) (status : Status) (used : MoveData) → Tells P (status_second status used)
unfolding status_second
status_second-tells P status used = search (tells, afflict-tells) depth 20

status_by_strike-tells : (P : Who → Type 0) (status : Status) (chance : ℕ) (facts : Figures) (mv : ℕ) → Tells P (status_by_strike status chance facts mv)
unfolding status_by_strike
status_by_strike-tells P status chance facts mv = search (tells, strike_with-tells, second-tells, status_second-tells) depth 20

status_alone-tells : (P : Who → Type 0) (status : Status) (facts : Figures) (mv : ℕ) → Tells P (status_alone status facts mv)
unfolding status_alone
status_alone-tells P status facts mv = search (tells, accuracy_test-tells, afflict-tells) depth 20

pub status_row-tells : (P : Who → Type 0) (status : Status) (chance : ℕ) (facts : Figures) (mv : ℕ) → Tells P (status_row status chance facts mv)
unfolding status_row
status_row-tells P status chance facts mv = search (tells, status_alone-tells, status_by_strike-tells) depth 20

either-so : (P : Who → Type 0) (b : Bool) (x y : Event) → AreSo P (whos x) → AreSo P (whos y) → AreSo P (whos (if b then x else y))
either-so P true x y one two = one
either-so P false x y one two = two

boost_event-so : (P : Who → Type 0) (shift : Shift) (f : Fighter) → P (who_of f) → AreSo P (whos (boost_event shift f))
unfolding boost_event
boost_event-so P shift f so = search either-so

either-plain : (b : Bool) (x y : Event) → IsPlain x → IsPlain y → IsPlain (if b then x else y)
either-plain true x y one two = one
either-plain false x y one two = two

boost_event-plain : (shift : Shift) (f : Fighter) → IsPlain (boost_event shift f)
unfolding boost_event
boost_event-plain shift f = search either-plain

boost_user-tells : (P : Who → Type 0) (shift : Shift) → Tells P (boost_user shift)
unfolding boost_user
boost_user-tells P shift = search (tells, boost_event-so, boost_event-plain) depth 20

boost_foe-tells : (P : Who → Type 0) (shift : Shift) → Tells P (boost_foe shift)
unfolding boost_foe
boost_foe-tells P shift = search (tells, boost_event-so, boost_event-plain) depth 20

boost_at-tells : (P : Who → Type 0) (aim : Aim) (shift : Shift) → Tells P (boost_at aim shift)
boost_at-tells P User shift = boost_user-tells P shift
boost_at-tells P Foe shift = boost_foe-tells P shift

boost_second-tells : (P : Who → Type 0) (shift : Shift) → Tells P (boost_second shift)
unfolding boost_second
boost_second-tells P shift = search (tells, boost_at-tells) depth 20

boost_by_strike-tells : (P : Who → Type 0) (shift : Shift) (chance : ℕ) (facts : Figures) (mv : ℕ) → Tells P (boost_by_strike shift chance facts mv)
unfolding boost_by_strike
boost_by_strike-tells P shift chance facts mv = search (tells, strike_with-tells, second-tells, boost_second-tells) depth 20

boost_or_fail-tells : (P : Who → Type 0) (shift : Shift) → Tells P (boost_or_fail shift)
unfolding boost_or_fail
boost_or_fail-tells P shift = search (tells, boost_at-tells) depth 20

boost_alone_at-tells : (P : Who → Type 0) (aim : Aim) (shift : Shift) (facts : Figures) (mv : ℕ) → Tells P (boost_alone_at aim shift facts mv)
boost_alone_at-tells P User shift facts mv = boost_or_fail-tells P shift
boost_alone_at-tells P Foe shift facts mv = search (tells, accuracy_test-tells, boost_or_fail-tells) depth 20

boost_alone-tells : (P : Who → Type 0) (shift : Shift) (facts : Figures) (mv : ℕ) → Tells P (boost_alone shift facts mv)
unfolding boost_alone
boost_alone-tells P shift facts mv = boost_alone_at-tells P shift.who shift facts mv

pub boost_row-tells : (P : Who → Type 0) (shift : Shift) (chance : ℕ) (facts : Figures) (mv : ℕ) → Tells P (boost_row shift chance facts mv)
unfolding boost_row
boost_row-tells P shift chance facts mv = search (tells, boost_alone-tells, boost_by_strike-tells) depth 20

cure_foe-tells : (P : Who → Type 0) → Tells P cure_foe
unfolding cure_foe
cure_foe-tells P = search tells depth 20

pub haze_row-tells : (P : Who → Type 0) → Tells P haze_row
unfolding haze_row cleared
haze_row-tells P = search (tells, cure_foe-tells) depth 20

daze-tells : (P : Who → Type 0) → Tells P daze
unfolding daze
daze-tells P = search tells depth 20

confuse_second-tells : (P : Who → Type 0) → Tells P confuse_second
unfolding confuse_second
confuse_second-tells P = search (tells, daze-tells) depth 20

confuse_by_strike-tells : (P : Who → Type 0) (chance : ℕ) (facts : Figures) (mv : ℕ) → Tells P (confuse_by_strike chance facts mv)
unfolding confuse_by_strike
confuse_by_strike-tells P chance facts mv = search (tells, strike_with-tells, second-tells, confuse_second-tells) depth 20

confuse_alone-tells : (P : Who → Type 0) (facts : Figures) (mv : ℕ) → Tells P (confuse_alone facts mv)
unfolding confuse_alone
confuse_alone-tells P facts mv = search (tells, accuracy_test-tells, daze-tells) depth 20

pub confuse_row-tells : (P : Who → Type 0) (chance : ℕ) (facts : Figures) (mv : ℕ) → Tells P (confuse_row chance facts mv)
unfolding confuse_row
confuse_row-tells P chance facts mv = search (tells, confuse_alone-tells, confuse_by_strike-tells) depth 20

pub flinch_row-tells : (P : Who → Type 0) (chance : ℕ) (facts : Figures) (mv : ℕ) → Tells P (flinch_row chance facts mv)
unfolding flinch_row
flinch_row-tells P chance facts mv = search (tells, strike_with-tells, second-tells) depth 20

pub heal_row-tells : (P : Who → Type 0) → Tells P heal_row
unfolding heal_row
heal_row-tells P = search (tells, gain-tells) depth 20

pub rest_row-tells : (P : Who → Type 0) → Tells P rest_row
unfolding rest_row
rest_row-tells P = search (tells, gain-tells) depth 20
