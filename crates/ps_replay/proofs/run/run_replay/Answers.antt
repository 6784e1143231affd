use Rattle.std.proofs.Common.{refl}
use Rattle.program_commands.specs.Words.{options_of}
use Rattle.ps_replay.proofs.CommandLemmas.{keeps}
use Rattle.ps_replay.proofs.ReplayLemmas.{dex_ends}
use Rattle.ps_replay.proofs.run.run_replay.Goals as goal

pub returns-in-Err : goal.returns-in-Err
returns-in-Err g c = dex_ends (options_of c.args.options) _ c.in-Err.status refl (keeps (g.K.Sink.written c.args.out.now)) c.in-Err.ensures.ended c.in-Err.ensures.alone c.in-Err.ensures.cause

pub returns-in-Ok : goal.returns-in-Ok
returns-in-Ok g c = rw (c.in-Ok.ensures.same, c.in-Ok.ensures.counts) at c.run_config.ensures
