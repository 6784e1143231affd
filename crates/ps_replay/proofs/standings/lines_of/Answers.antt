use Rattle.std.proofs.Common.{string_bytes}
use Rattle.ps_replay.proofs.StandingsLemmas.{lines_made}
use Rattle.ps_replay.proofs.standings.lines_of.Goals as goal

pub returns : goal.returns
returns c =
    lines_made c.args.format.now _ c.args.notes.now c.in_ok-places.places.items _ (string_bytes c.new-text.result) c.in_ok-format.ensures
    c.in_ok-places.ensures c.new-text.ensures.bytes (rw c.deref.ensures.value at c.in_ok-push_lines.ensures)
