-- What stays from step to step of a turn.
use Rattle.std.proofs.Common.{◌≡◌, refl}
use Rattle.ps_mon.specs.declared.record.SideState.{SideState}
use Rattle.ps_mon.specs.declared.choice.Choice.{Choice}
use Rattle.ps_mon.specs.declared.choice.Choice.TheVariants as choices
use Rattle.ps_mon.specs.Keeping.{KeepsTeam}
use Rattle.ps_mon.specs.Choices.{IsThere, incoming}
use Rattle.ps_mon.specs.Switching.{released}

pub there-kept : (a b : SideState) (choice : Choice) → KeepsTeam a b → IsThere a choice → IsThere b choice
there-kept a b (choices.Move n) kept there = (there.0, rw kept.slot_count there.1)
there-kept a b choices.Struggle kept there = tt
there-kept a b choices.Continue kept there = tt
there-kept a b (choices.Switch position) kept there = (there.0, rw kept.count there.1)
there-kept a b choices.Pass kept there = tt
there-kept a b (choices.Team numbers) kept there = rw kept.count there

-- a release changes nobody's health
pub released-incoming : (a : SideState) (choice : Choice) → (incoming (released a) choice).hp ≡ (incoming a choice).hp
unfolding released
released-incoming a (choices.Move n) = refl
released-incoming a choices.Struggle = refl
released-incoming a choices.Continue = refl
released-incoming a (choices.Switch position) = refl
released-incoming a choices.Pass = refl
released-incoming a (choices.Team numbers) = refl
