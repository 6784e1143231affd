use Rattle.std.specs.Prelude.{◌≤◌}
use Rattle.std.specs.List.{AllWithin}
use Rattle.ps_hub.proofs.passes.Passes.gap.Given as goal

-- those before stand at lower places, or at this one
abbrev pub invariant-loop-pass_index : goal.invariant-loop-pass_index
invariant-loop-pass_index l = AllWithin (λ k. k.number ≤ l.number) l.rooms 0 l.pass_index
