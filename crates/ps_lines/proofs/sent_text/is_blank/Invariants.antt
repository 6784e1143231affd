use Rattle.std.proofs.Common.{◌≡◌, ◌==◌, true, take}
use Rattle.std.specs.List.{list_all}
use Rattle.ps_lines.proofs.sent_text.is_blank.Given as goal

abbrev pub invariant-loop-b : goal.invariant-loop-b
invariant-loop-b l = list_all (λ b. b == 32) (take l.b-index l.b-items) ≡ true
