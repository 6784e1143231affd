use Rattle.std.proofs.Common.{◌≡◌, ◌+◌, ◌≤◌, drop, length}
use Rattle.ps_packed.specs.Forms.{parts}
use Rattle.ps_packed.proofs.forms.part_count.Given as goal

abbrev pub invariant-loop-c : goal.invariant-loop-c
invariant-loop-c l = record {
  few : l.count ≤ l.c-index + 1;
  so_far : l.count + length (parts (drop l.c-index l.word)) ≡ length (parts l.word) + 1;
}
