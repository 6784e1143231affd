-- What strikes, amounts and shares tell.
use Rattle.std.proofs.Common.{ℕ, Bool, List}
use Rattle.ps_event.specs.declared.event.Who.{Who}
use Rattle.ps_mon.specs.Facts.{Figures}
use Rattle.ps_hits.specs.Scenes.{Play}
use Rattle.ps_hits.specs.declared.strike.Blow.{Blow}
use Rattle.ps_hits.specs.declared.strike.Struck.{Struck}
use Rattle.ps_hits.specs.declared.strike.Struck.TheVariants.{NoEffect, Missed, Hit}
use Rattle.ps_hits.specs.Strikes.{deal_to_substitute, hurt_by, enrage, rage_on, deal_to_foe, deal, accuracy_test, tell_factors, hit, strike, strike_with}
use Rattle.ps_hits.specs.Hits.{plain_row, explode_row}
use Rattle.ps_hits.specs.Amounts.{deal_alone, where_it_lands, fixed_row, level_row, half_row, psywave_row, ohko_row}
use Rattle.ps_hits.specs.Shares.{gain, lose, drained, drain_row, dreameater_row, recoiled, recoil_row, crashed, crash_row}
use Rattle.battle_secrecy.proofs.TellLemmas.{Tells, tells}

deal_to_substitute-tells : (P : Who → Type 0) (n : ℕ) → Tells P (deal_to_substitute n)
unfolding deal_to_substitute
deal_to_substitute-tells P n = search tells depth 20

enrage-tells : (P : Who → Type 0) → Tells P enrage
unfolding enrage
enrage-tells P = search tells depth 20

rage_on-tells : (P : Who → Type 0) (lost : ℕ) → Tells P (rage_on lost)
unfolding rage_on
rage_on-tells P lost = search (tells, enrage-tells) depth 20

deal_to_foe-tells : (P : Who → Type 0) (mv n : ℕ) → Tells P (deal_to_foe mv n)
unfolding deal_to_foe hurt_by
deal_to_foe-tells P mv n = search (tells, rage_on-tells) depth 20

pub deal-tells : (P : Who → Type 0) (mv n : ℕ) → Tells P (deal mv n)
unfolding deal
deal-tells P mv n = search (tells, deal_to_substitute-tells, deal_to_foe-tells) depth 20

pub accuracy_test-tells : (P : Who → Type 0) (percent : ℕ) → Tells P (accuracy_test percent)
unfolding accuracy_test
accuracy_test-tells P percent = search tells depth 20

tell_factors-tells : (P : Who → Type 0) (factors : List ℕ) → Tells P (tell_factors factors)
unfolding tell_factors
tell_factors-tells P factors = search tells depth 20

hit-tells : (P : Who → Type 0) (blow : Blow) → Tells P (hit blow)
unfolding hit
hit-tells P blow = search (tells, tell_factors-tells, deal-tells) depth 20

strike-tells : (P : Who → Type 0) (blow : Blow) → Tells P (strike blow)
unfolding strike
strike-tells P blow = search (tells, accuracy_test-tells, hit-tells) depth 20

pub strike_with-tells : (P : Who → Type 0) (facts : Figures) (mv : ℕ) (half : Bool) → Tells P (strike_with facts mv half)
unfolding strike_with
strike_with-tells P facts mv half = search (tells, strike-tells) depth 20

pub plain_row-tells : (P : Who → Type 0) (facts : Figures) (mv : ℕ) → Tells P (plain_row facts mv)
unfolding plain_row
plain_row-tells P facts mv = search (tells, strike_with-tells) depth 20

pub explode_row-tells : (P : Who → Type 0) (facts : Figures) (mv : ℕ) → Tells P (explode_row facts mv)
unfolding explode_row
explode_row-tells P facts mv = search (tells, strike_with-tells) depth 20

pub deal_alone-tells : (P : Who → Type 0) (mv n : ℕ) → Tells P (deal_alone mv n)
deal_alone-tells P mv n = search (tells, deal-tells) depth 20

where_it_lands-tells : (P : Who → Type 0) (facts : Figures) (mv : ℕ) (then_this : Play (Unit {0})) → Tells P then_this → Tells P (where_it_lands facts mv then_this)
where_it_lands-tells P facts mv then_this this = search (tells, accuracy_test-tells) depth 20

pub fixed_row-tells : (P : Who → Type 0) (amount : ℕ) (facts : Figures) (mv : ℕ) → Tells P (fixed_row amount facts mv)
unfolding fixed_row
fixed_row-tells P amount facts mv = where_it_lands-tells P facts mv _ (deal_alone-tells P mv amount)

pub level_row-tells : (P : Who → Type 0) (facts : Figures) (mv : ℕ) → Tells P (level_row facts mv)
unfolding level_row
level_row-tells P facts mv = where_it_lands-tells P facts mv _ (search (tells, deal_alone-tells) depth 20)

pub half_row-tells : (P : Who → Type 0) (facts : Figures) (mv : ℕ) → Tells P (half_row facts mv)
unfolding half_row
half_row-tells P facts mv = where_it_lands-tells P facts mv _ (search (tells, deal_alone-tells) depth 20)

pub psywave_row-tells : (P : Who → Type 0) (facts : Figures) (mv : ℕ) → Tells P (psywave_row facts mv)
unfolding psywave_row
psywave_row-tells P facts mv = where_it_lands-tells P facts mv _ (search (tells, deal_alone-tells) depth 20)

pub ohko_row-tells : (P : Who → Type 0) (facts : Figures) (mv : ℕ) → Tells P (ohko_row facts mv)
unfolding ohko_row
ohko_row-tells P facts mv = search (tells, where_it_lands-tells, deal_alone-tells) depth 20

pub gain-tells : (P : Who → Type 0) (n : ℕ) → Tells P (gain n)
unfolding gain
gain-tells P n = search tells depth 20

pub lose-tells : (P : Who → Type 0) (from n : ℕ) → Tells P (lose from n)
unfolding lose
lose-tells P from n = search tells depth 20

drained-tells : (P : Who → Type 0) (struck : Struck) → Tells P (drained struck)
unfolding drained
drained-tells P NoEffect = search tells
drained-tells P Missed = search tells
drained-tells P (Hit dealt) = gain-tells P _

pub drain_row-tells : (P : Who → Type 0) (facts : Figures) (mv : ℕ) → Tells P (drain_row facts mv)
unfolding drain_row
drain_row-tells P facts mv = search (tells, strike_with-tells, drained-tells) depth 20

pub dreameater_row-tells : (P : Who → Type 0) (facts : Figures) (mv : ℕ) → Tells P (dreameater_row facts mv)
unfolding dreameater_row
dreameater_row-tells P facts mv = search (tells, drain_row-tells) depth 20

recoiled-tells : (P : Who → Type 0) (by : ℕ) (struck : Struck) → Tells P (recoiled by struck)
unfolding recoiled
recoiled-tells P by NoEffect = search tells
recoiled-tells P by Missed = search tells
recoiled-tells P by (Hit dealt) = lose-tells P _ _

pub recoil_row-tells : (P : Who → Type 0) (by : ℕ) (facts : Figures) (mv : ℕ) → Tells P (recoil_row by facts mv)
unfolding recoil_row
recoil_row-tells P by facts mv = search (tells, strike_with-tells, recoiled-tells) depth 20

crashed-tells : (P : Who → Type 0) (struck : Struck) → Tells P (crashed struck)
unfolding crashed
crashed-tells P NoEffect = search tells
crashed-tells P Missed = lose-tells P _ _
crashed-tells P (Hit dealt) = search tells

pub crash_row-tells : (P : Who → Type 0) (facts : Figures) (mv : ℕ) → Tells P (crash_row facts mv)
unfolding crash_row
crash_row-tells P facts mv = search (tells, strike_with-tells, crashed-tells) depth 20
