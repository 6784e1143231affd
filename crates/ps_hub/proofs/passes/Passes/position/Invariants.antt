use Rattle.std.proofs.Common.{◌≢◌}
use Rattle.std.specs.List.{AllWithin}
use Rattle.ps_hub.proofs.passes.Passes.position.Given as goal

-- it is none of those before
abbrev pub invariant-loop-pass_index : goal.invariant-loop-pass_index
invariant-loop-pass_index l = AllWithin (λ k. k.number ≢ l.number) l.rooms 0 l.pass_index
