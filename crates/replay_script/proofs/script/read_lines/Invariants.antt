use Rattle.std.proofs.Common.{◌≡◌, ◌+◌, ◌≤◌, length}
use Rattle.replay_script.specs.Scripts.{start, seen_after}
use Rattle.replay_script.proofs.ScriptLemmas.{Reads}
use Rattle.replay_script.proofs.script.read_lines.Given as goal

abbrev pub invariant-loop-rest : goal.invariant-loop-rest
invariant-loop-rest l = record {
  reads : Reads l.symbols l.bytes l.rest l.items.items l.count;
  seen : l.seen ≡ seen_after (start l.symbols) l.items.items;
  few : length l.items.items ≡ l.count;
  room : l.count + length l.rest ≤ length l.bytes;
}

abbrev pub decreases-loop-rest : goal.decreases-loop-rest
decreases-loop-rest l = length l.rest
