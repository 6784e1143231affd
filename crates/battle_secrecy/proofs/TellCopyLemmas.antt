-- What the rows of moves that copy tell. Transform's stands where its step does, since it alone tells that a member takes another's form.
use Rattle.std.proofs.Common.{ℕ, List, Option, Some, None}
use Rattle.ps_event.specs.declared.event.Who.{Who}
use Rattle.ps_mon.specs.Facts.{Figures}
use Rattle.ps_copy.specs.Calling.{fail, metronome_row, give_or_fail, mirrormove_row}
use Rattle.ps_copy.specs.Learning.{mimic_row, conversion_row}
use Rattle.ps_copy.specs.Disabling.{disable_one, disable_row}
use Rattle.battle_secrecy.proofs.TellLemmas.{Tells, tells}
use Rattle.battle_secrecy.proofs.TellHitsLemmas.{accuracy_test-tells}

fail-tells : (P : Who → Type 0) → Tells P fail
fail-tells P = search tells depth 20

pub metronome_row-tells : (P : Who → Type 0) (facts : Figures) → Tells P (metronome_row facts)
unfolding metronome_row
metronome_row-tells P facts = search (tells, fail-tells) depth 20

give_or_fail-tells : (P : Who → Type 0) (mv : Option ℕ) → Tells P (give_or_fail mv)
give_or_fail-tells P None = fail-tells P
give_or_fail-tells P (Some mv) = search tells depth 20

pub mirrormove_row-tells : (P : Who → Type 0) (facts : Figures) → Tells P (mirrormove_row facts)
unfolding mirrormove_row
mirrormove_row-tells P facts = search (tells, give_or_fail-tells) depth 20

pub mimic_row-tells : (P : Who → Type 0) (facts : Figures) (mv : ℕ) → Tells P (mimic_row facts mv)
unfolding mimic_row
mimic_row-tells P facts mv = search (tells, accuracy_test-tells) depth 20

pub conversion_row-tells : (P : Who → Type 0) → Tells P conversion_row
unfolding conversion_row
conversion_row-tells P = search tells depth 20

disable_one-tells : (P : Who → Type 0) (slots : List ℕ) → Tells P (disable_one slots)
unfolding disable_one
disable_one-tells P slots = search tells depth 20

pub disable_row-tells : (P : Who → Type 0) (facts : Figures) (mv : ℕ) → Tells P (disable_row facts mv)
unfolding disable_row
disable_row-tells P facts mv = search (tells, accuracy_test-tells, fail-tells, disable_one-tells) depth 20
