use Rattle.std.proofs.Common.{◌≢◌, Some}
use Rattle.std.specs.List.{AllWithin}
use Rattle.ps_hub.proofs.passes.Passes.position_of.Given as goal

-- it is none of those before
abbrev pub invariant-loop-pass_index : goal.invariant-loop-pass_index
invariant-loop-pass_index l = AllWithin (λ k. k.id ≢ Some l.id) l.rooms 0 l.pass_index
