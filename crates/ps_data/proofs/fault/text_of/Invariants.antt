use Rattle.std.proofs.Common.{◌≡◌, ◌++◌, length, string_bytes}
use Rattle.ps_data.specs.Paths.{steps_text, path_text}
use Rattle.ps_data.specs.Parts.{steps_of}
use Rattle.ps_data.proofs.fault.text_of.Given as goal

abbrev pub invariant-loop-part : goal.invariant-loop-part
invariant-loop-part l = string_bytes l.text ++ steps_text l.first (steps_of l.left) ≡ path_text (steps_of l.inwards)

abbrev pub decreases-loop-part : goal.decreases-loop-part
decreases-loop-part l = length l.left
