use Rattle.std.proofs.Common.{map}
use Rattle.ps_base.specs.Messages.{msg_lines}
use Rattle.ps_splitlog.proofs.PieceLemmas.{IsWalking}
use Rattle.ps_splitlog.proofs.piece.walk.Given as goal

abbrev pub invariant-loop-entry_index : goal.invariant-loop-entry_index
invariant-loop-entry_index l = IsWalking l.start l.entries l.most (map msg_lines l.messages.items) l.room l.role l.entry_index
