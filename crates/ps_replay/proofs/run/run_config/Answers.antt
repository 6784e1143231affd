use Rattle.std.proofs.Common.{refl}
use Rattle.std.specs.Arc.{arc_value}
use Rattle.program_commands.specs.Words.{options_of}
use Rattle.ps_replay.proofs.CommandLemmas.{keeps}
use Rattle.ps_replay.proofs.ReplayLemmas.{config_ends, input_ends}
use Rattle.ps_replay.proofs.run.run_config.Goals as goal

pub returns-in-Err : goal.returns-in-Err
returns-in-Err g c =
    config_ends (options_of c.args.options) _ (arc_value c.args.dex.now) c.in-Err.status refl (keeps (g.K.Sink.written c.args.out.now)) c.requires (rw c.deref.ensures at c.in-Err.ensures.ended) c.in-Err.ensures.alone c.in-Err.ensures.cause

pub returns-in-Ok : goal.returns-in-Ok
returns-in-Ok g c =
    input_ends (options_of c.args.options) _ (arc_value c.in-Ok.config) (arc_value c.args.dex.now) c.run_input.result (record { dex_is = c.requires; config_is = rw c.deref.ensures at c.in-Ok.ensures.stands })
    c.run_input.ensures.of c.run_input.ensures.whole c.run_input.ensures.replayed c.run_input.ensures.prefix c.run_input.ensures.bounded c.run_input.ensures.cause c.run_input.ensures.read_fault c.run_input.ensures.write_fault c.run_input.ensures.settles
