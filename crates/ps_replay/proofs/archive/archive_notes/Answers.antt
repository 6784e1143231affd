use Rattle.std.specs.Arc.{arc_value}
use Rattle.ps_replay.proofs.ArchiveLemmas.{all_archived}
use Rattle.ps_replay.proofs.archive.archive_notes.Goals as goal

pub returns-in-Ok-replay : goal.returns-in-Ok-replay
returns-in-Ok-replay g c =
    all_archived (arc_value c.args.config.now) (arc_value c.args.dex.now) c.args.loaded.now c.args.more.now _ c.args.bytes.now c.args.items.now
    c.requires.known c.requires.within c.requires.script c.requires.notes c.requires.room c.in-Ok.ensures.ok c.in-Ok-replay.ensures.wrote
