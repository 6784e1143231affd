-- A refusal told one step further down.
use Rattle.std.proofs.Common.{Result, refl}
use Rattle.ps_data.specs.Paths.{Step}
use Rattle.ps_data.specs.declared.fault.Fault.{Fault}
use Rattle.ps_data.specs.declared.fault.Refusal.{Refusal}
use Rattle.ps_data.specs.declared.fault.Refusal.TheVariants as refusals
use Rattle.ps_data.specs.Reading.{under, Fails, IsDeeper}

pub fails_deeper : {A : Type 0} (e : Refusal) (step : Step) (deeper : Refusal) (form : Result A Fault) → IsDeeper step e deeper → Fails e form → Fails deeper (under step form)
fails_deeper refusals.NoMemory step refusals.NoMemory form d f = tt
fails_deeper refusals.NoMemory step (refusals.Fault g) form d f = absurd cc
fails_deeper (refusals.Fault fault) step refusals.NoMemory form d f = tt
fails_deeper (refusals.Fault fault) step (refusals.Fault g) form d f = rw (f, d) refl
