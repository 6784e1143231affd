use Rattle.std.proofs.Common.{◌≡◌, [], All, length, drop}
use Rattle.ps_valid.specs.Ready.{IsReadyMember}
use Rattle.ps_valid.specs.TeamRows.{each_member}
use Rattle.ps_valid.proofs.team_rows.each_member.Given as goal

abbrev pub invariant-loop-i : goal.invariant-loop-i
invariant-loop-i l = record {
  count : length l.members.items ≡ l.i;
  ready : All (λ m. IsReadyMember l.dex m) l.members.items;
  so_far : each_member l.dex l.rules l.members.items (drop l.i l.sets) ≡ each_member l.dex l.rules [] l.sets;
}
