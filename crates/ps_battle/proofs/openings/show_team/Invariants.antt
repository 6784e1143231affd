use Rattle.std.proofs.Common.{◌≡◌, ◌≤◌, ◌+◌, ◌++◌, drop, map}
use Rattle.arrayvec.specs.ArrayVec.{array_vec_len}
use Rattle.ps_battle.specs.Openings.{poke}
use Rattle.ps_battle.proofs.openings.show_team.Given as goal

abbrev pub invariant-loop-m : goal.invariant-loop-m
invariant-loop-m l = record {
  so_far : l.out.items ++ map (poke l.name) (drop l.m-index l.m-items) ≡ l.fn.out.items ++ map (poke l.name) l.m-items;
  room : array_vec_len l.out ≤ array_vec_len l.fn.out + l.m-index;
}
