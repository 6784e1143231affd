use Rattle.std.proofs.Common.{ap, ◌∙◌}
use Rattle.std.specs.Prelude.{Some}
use Rattle.ps_keep.proofs.NotedLemmas.{stopped, stopped_cause}
use Rattle.ps_keep.proofs.mem_keeper.MemKeeperKeeper.note_all.Goals as goal

pub returns-in-Err-clause-err : goal.returns-in-Err-clause-err
returns-in-Err-clause-err c = stopped c.args.self.now.notes _ c.args.more.now c.loop-note.note-index (c.in-Err.ensures.after ∙ ap Some c.loop-note.invariant.0)

pub returns-in-Err-clause-cause : goal.returns-in-Err-clause-cause
returns-in-Err-clause-cause c = stopped_cause c.args.self.now.counts c.loop-note.self.counts c.note.new.self.counts c.in-Err.end c.loop-note.invariant.1 c.in-Err.ensures.cause
