-- What the files of a command give.
use Rattle.std.proofs.Common.{◌≡◌, ℕ, List, Option, Some, None, Result, refl, sym, subst, inl, inr}
use Rattle.ps_outside.specs.Causes.{Rose}
use Rattle.ps_outside.specs.Files.{FileCounts}
use Rattle.ps_dex.specs.declared.item.Tables.{Tables}
use Rattle.rules_config.specs.declared.settings.Settings.{Settings}
use Rattle.program_commands.specs.declared.status.Status.{Status}
use Rattle.program_commands.specs.declared.status.Status.TheVariants.{FileFault, NoMemory}
use Rattle.program_commands.specs.Words.{Options}
use Rattle.program_commands.specs.Steps.{dex_in, config_in}
use Rattle.program_commands.specs.Setups.{Stands, IsSetUp, IsSettled, IsKnown, AreGood, StepCause, Ended}

-- ---- a step has one value

nowhere : List ℕ → Option (List ℕ)
nowhere name = None

one_value : {A : Type 0} (contents : Option (List ℕ → Option (List ℕ))) (named : Option (List ℕ)) (step : (List ℕ → Option (List ℕ)) → Result A Status) (x y : A) → Stands contents named step x → IsKnown contents named step y → x ≡ y
one_value contents None step x y s k = let e = s nowhere in let f = k nowhere in cc
one_value None (Some name) step x y s k = absurd k
one_value (Some lookup) (Some name) step x y s k = cc

pub one_dex : (contents : Option (List ℕ → Option (List ℕ))) (o : Options) (dex : Tables) → Stands contents o.dex (λ lookup. dex_in lookup o.dex) dex → (f : AreGood contents o) → dex ≡ f.dex
one_dex contents o dex s f = one_value contents o.dex (λ (lookup : List ℕ → Option (List ℕ)). dex_in lookup o.dex) dex f.dex s f.dex_is

-- the configuration of the words, over this dex
known_config : (contents : Option (List ℕ → Option (List ℕ))) (o : Options) (dex : Tables) → Stands contents o.dex (λ lookup. dex_in lookup o.dex) dex → (f : AreGood contents o) → IsKnown contents o.config (λ lookup. config_in lookup dex o.config) f.config
known_config contents o dex s f = subst (λ (t : Tables). IsKnown contents o.config (λ (lookup : List ℕ → Option (List ℕ)). config_in lookup t o.config) f.config) (sym (one_dex contents o dex s f)) f.config_is

pub one_config : (contents : Option (List ℕ → Option (List ℕ))) (o : Options) (config : Settings) (dex : Tables) → IsSetUp contents o config dex → (f : AreGood contents o) → config ≡ f.config
one_config contents o config dex s f = one_value contents o.config (λ (lookup : List ℕ → Option (List ℕ)). config_in lookup dex o.config) config f.config s.config_is (known_config contents o dex s.dex_is f)

-- ---- a step that has a value is ended by memory or a fault of the files alone

fault_rose : (name : List ℕ) (old new : FileCounts) (status : Status) → status ≡ FileFault name → StepCause (Some name) old new status → Rose old.faults new.faults
fault_rose name old new status is cause = (subst (λ (s : Status). StepCause (Some name) old new s) is cause).1

pub step_settles : {A : Type 0} (contents : Option (List ℕ → Option (List ℕ))) (named : Option (List ℕ)) (step : (List ℕ → Option (List ℕ)) → Result A Status) (x : A) (old new : FileCounts) (status : Status) → IsKnown contents named step x → (named ≡ None → status ≡ NoMemory) → Ended contents named step status → StepCause named old new status → (Rose old.faults new.faults → ⊥) → IsSettled status
step_settles contents None step x old new status known alone ended cause files = subst IsSettled (sym (alone refl)) tt
step_settles None (Some name) step x old new status known alone ended cause files = absurd known
step_settles (Some lookup) (Some name) step x old new status known alone (inl e) cause files = subst IsSettled (sym e) tt
step_settles (Some lookup) (Some name) step x old new status known alone (inr (inl e)) cause files = absurd (files (fault_rose name old new status e cause))
step_settles (Some lookup) (Some name) step x old new status known alone (inr (inr e)) cause files = absurd cc

pub files_settle : (contents : Option (List ℕ → Option (List ℕ))) (o : Options) (dex : Tables) (old new : FileCounts) (status : Status) → Stands contents o.dex (λ lookup. dex_in lookup o.dex) dex → (o.config ≡ None → status ≡ NoMemory) → Ended contents o.config (λ lookup. config_in lookup dex o.config) status → StepCause o.config old new status → AreGood contents o → (Rose old.faults new.faults → ⊥) → IsSettled status
files_settle contents o dex old new status s alone ended cause good files = step_settles contents o.config (λ (lookup : List ℕ → Option (List ℕ)). config_in lookup dex o.config) good.config old new status (known_config contents o dex s good) alone ended cause files

-- ---- under a configuration and a dex

pub set_up : (contents : Option (List ℕ → Option (List ℕ))) (o : Options) (config shared_config : Settings) (dex shared_dex : Tables) → shared_config ≡ config → shared_dex ≡ dex → Stands contents o.dex (λ lookup. dex_in lookup o.dex) dex → Stands contents o.config (λ lookup. config_in lookup dex o.config) config → IsSetUp contents o shared_config shared_dex
set_up contents o config shared_config dex shared_dex e f d s = rw (e, f) (record { dex_is = d; config_is = s })
