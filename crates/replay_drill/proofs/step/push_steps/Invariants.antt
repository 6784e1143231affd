use Rattle.std.proofs.Common.{◌≡◌, ◌++◌, string_bytes}
use Rattle.replay_drill.specs.Draws.{after_steps}
use Rattle.replay_drill.specs.Drills.{step_lines}
use Rattle.replay_drill.proofs.step.push_steps.Given as goal
use Rattle.ps_base.specs.Lists.{each_to}

abbrev pub invariant-loop-i : goal.invariant-loop-i
invariant-loop-i l = (string_bytes l.script ≡ string_bytes l.fn.script ++ each_to (step_lines l.fight l.steps) l.i) × (l.rng.x ≡ after_steps l.steps l.i)
