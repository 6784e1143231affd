-- What a substitute, screens, a seed and an answered blow tell.
use Rattle.std.proofs.Common.{ℕ, Bool, Option, Some, None}
use Rattle.ps_event.specs.declared.event.Who.{Who}
use Rattle.ps_mon.specs.Facts.{Figures}
use Rattle.ps_mon.specs.declared.duel.Fighter.{Fighter}
use Rattle.ps_mon.specs.declared.effect.ScreenKind.{ScreenKind}
use Rattle.ps_mon.specs.declared.effect.ScreenKind.TheVariants as screens
use Rattle.ps_hits.specs.Told.{who_of}
use Rattle.ps_volat.specs.Covering.{with_substitute, substitute_row, start, has_screen, with_screen, screen_number, screen_row, mist_row, focus_row}
use Rattle.ps_volat.specs.Answering.{leechseed_row, deal_answer, counter_row, nothing_row}
use Rattle.battle_secrecy.proofs.TellLemmas.{Tells, tells}
use Rattle.battle_secrecy.proofs.TellHitsLemmas.{accuracy_test-tells, deal_alone-tells}

pub substitute_row-tells : (P : Who → Type 0) → Tells P substitute_row
unfolding substitute_row with_substitute
substitute_row-tells P = search tells depth 20

start-tells : (P : Who → Type 0) (is_on : Fighter → Bool) (turn_on : Fighter → Fighter) (number : ℕ) → ((f : Fighter) → P (who_of f) → P (who_of (turn_on f))) → Tells P (start is_on turn_on number)
start-tells P is_on turn_on number kept = search tells depth 20

with_screen-kept : (P : Who → Type 0) (which : ScreenKind) (f : Fighter) → P (who_of f) → P (who_of (with_screen which f))
with_screen-kept P screens.Reflect f so = so
with_screen-kept P screens.Light f so = so

pub screen_row-tells : (P : Who → Type 0) (which : ScreenKind) → Tells P (screen_row which)
unfolding screen_row
screen_row-tells P which = start-tells P (has_screen which) (with_screen which) (screen_number which) (with_screen-kept P which)

pub mist_row-tells : (P : Who → Type 0) → Tells P mist_row
unfolding mist_row
mist_row-tells P = search tells depth 20

pub focus_row-tells : (P : Who → Type 0) → Tells P focus_row
unfolding focus_row
focus_row-tells P = search tells depth 20

pub leechseed_row-tells : (P : Who → Type 0) (facts : Figures) (mv : ℕ) → Tells P (leechseed_row facts mv)
unfolding leechseed_row
leechseed_row-tells P facts mv = search (tells, accuracy_test-tells) depth 20

deal_answer-tells : (P : Who → Type 0) (mv : ℕ) (answer : Option ℕ) → Tells P (deal_answer mv answer)
deal_answer-tells P mv None = search tells depth 20
deal_answer-tells P mv (Some amount) = deal_alone-tells P mv amount

pub counter_row-tells : (P : Who → Type 0) (facts : Figures) (mv : ℕ) → Tells P (counter_row facts mv)
unfolding counter_row
counter_row-tells P facts mv = search (tells, deal_answer-tells) depth 20

pub nothing_row-tells : (P : Who → Type 0) (mv : ℕ) → Tells P (nothing_row mv)
unfolding nothing_row
nothing_row-tells P mv = search tells depth 20
