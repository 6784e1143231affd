use Rattle.std.specs.Prelude.{All, IfErr, OnOk}
use Rattle.ps_hub.specs.Passes.{IsRoomPass}
use Rattle.ps_hub.specs.Calls.{QuitsRoom, QuitsRoomAtMost}
use Rattle.ps_hub.proofs.QuitLemmas.{IsDoneTo, IsShutOutBefore}
use Rattle.ps_hub.proofs.hub.Hub.quit_rooms.Given as goal

-- the Quits so far
abbrev pub invariant-loop-pass_index : goal.invariant-loop-pass_index
invariant-loop-pass_index g l = record {
  of : All (IsRoomPass l.self l.conn) l.rooms;
  ok : OnOk l.done (IsDoneTo (QuitsRoom l.badge l.conn l.moment) l.pass_index l.initial.rooms l.rooms);
  most : IsDoneTo (QuitsRoomAtMost l.badge l.conn l.moment) l.pass_index l.initial.rooms l.rooms;
  taken : IfErr l.done (IsShutOutBefore l.pass_index l.conn l.rooms);
}
