use Rattle.std.proofs.Common.{refl}
use Rattle.std.specs.Arc.{arc_value}
use Rattle.program_commands.specs.Words.{options_of}
use Rattle.ps_replay.proofs.CommandLemmas.{keeps}
use Rattle.ps_replay.proofs.ArchiveLemmas.{archive_config_ends}
use Rattle.ps_replay.proofs.archive.archive_config.Goals as goal

pub returns-in-Err : goal.returns-in-Err
returns-in-Err g c =
    archive_config_ends (options_of c.args.options) _ (arc_value c.args.dex.now) c.in-Err.status
    (record { input = refl; quiet = record { output = keeps (g.K.Sink.written c.args.out.now); notes = refl } })
    c.requires (rw c.deref.ensures at c.in-Err.ensures.ended) c.in-Err.ensures.alone c.in-Err.ensures.cause
