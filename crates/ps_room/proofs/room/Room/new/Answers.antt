use Rattle.std.proofs.Common.{List, ◌∙◌, ap}
use Rattle.ps_splitlog.specs.declared.entry.LogEntry.{LogEntry}
use Rattle.ps_room.specs.Logs.{with_log, opened_log}
use Rattle.ps_room.proofs.room.Room.new.Goals as goal

pub returns : goal.returns
returns c =
    ap (λ (log : List LogEntry). with_log log c.in_ok-opened.opened.state) (c.in_ok-log.ensures ∙ c.in_ok-opened.ensures.first)
    ∙ ap (with_log (opened_log c.args.opening.config c.args.opening.dex c.args.opening.battle)) c.in_ok-opened.ensures.state
