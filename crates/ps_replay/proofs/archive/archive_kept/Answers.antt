use Rattle.std.specs.Arc.{arc_value}
use Rattle.program_commands.specs.Words.{options_of}
use Rattle.ps_replay.proofs.ArchiveLemmas.{archive_ends}
use Rattle.ps_replay.proofs.archive.archive_kept.Goals as goal

pub returns-in-Ok : goal.returns-in-Ok
returns-in-Ok g c =
    archive_ends (options_of c.args.options) _ (arc_value c.args.config.now) (arc_value c.args.dex.now) c.in-Ok.loaded.items
    c.archive_input.result c.requires.set_up
    (record { are = c.in-Ok.ensures.loaded; few = c.in-Ok.ensures.few })
    (rw (c.deref.ensures.value, c.in-Ok.ensures.same, c.in-Ok.ensures.cause) at c.archive_input.ensures.ends)
    c.archive_input.ensures.whole c.archive_input.ensures.bounded
