use Rattle.std.proofs.Common.{Vec, Global}
use Rattle.std.specs.Arc.{arc_value}
use Rattle.ps_keep.specs.declared.note.Note.{Note}
use Rattle.replay_state.specs.Setup.{setup_of}
use Rattle.replay_state.specs.Notes.{notes}
use Rattle.ps_replay.proofs.ArchiveLemmas.{made_is, not_none, made_some}
use Rattle.ps_replay.proofs.archive.notes_of.Goals as goal

pub unreachable-requires : goal.unreachable-requires
unreachable-requires c =
    let setup = setup_of (arc_value c.args.config.now) (arc_value c.args.dex.now) c.args.items.now in
    not_none (λ (v : Vec Note Global). v.items) c.in_ok-notes.field-0 (notes setup c.args.items.now)
    (made_is c.in_ok-table.table setup c.args.items.now _ c.in_ok-table.ensures c.in_ok-notes.ensures) c.in-None.is

pub returns : goal.returns
returns c =
    let setup = setup_of (arc_value c.args.config.now) (arc_value c.args.dex.now) c.args.items.now in
    made_some (λ (v : Vec Note Global). v.items) c.in_ok-notes.field-0 c.in-Some.notes (notes setup c.args.items.now)
    (made_is c.in_ok-table.table setup c.args.items.now _ c.in_ok-table.ensures c.in_ok-notes.ensures) c.in-Some.is
