use Rattle.std.proofs.Common.{◌≡◌, take}
use Rattle.ps_packed.specs.Packed.{bytes_of}
use Rattle.ps_packed.proofs.Longest.{IsAlive}
use Rattle.ps_packed.proofs.scan.scan_text.Given as goal

abbrev pub invariant-loop-next : goal.invariant-loop-next
invariant-loop-next l = record {
  alive : IsAlive l.text l.next-index l.scan;
  offset : l.at ≡ bytes_of (take l.next-index l.text);
}
