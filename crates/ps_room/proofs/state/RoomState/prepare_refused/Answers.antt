use Rattle.std.proofs.Common.{◌∙◌}
use Rattle.ps_room.specs.Logs.{record_in}
use Rattle.ps_room.proofs.AnswerLemmas.{out_refused}
use Rattle.ps_room.proofs.ChangeLemmas.{given_refused}
use Rattle.ps_room.proofs.state.RoomState.prepare_refused.Goals as goal

pub returns-clause-out : goal.returns-clause-out
returns-clause-out c = out_refused (record_in c.args.self.now) c.args.entry.now c.args.why c.requires

pub returns-clause-log_entry : goal.returns-clause-log_entry
returns-clause-log_entry c = c.in_ok-refused_log_entry.ensures ∙ given_refused (record_in c.args.self.now) c.args.entry.now c.args.why c.requires
