use Rattle.std.proofs.Common.{IfOk, Option, subst, sym}
use Rattle.ps_base.specs.declared.badge.Badge.{Badge}
use Rattle.ps_lines.specs.declared.command.HallCmd.{HallCmd}
use Rattle.ps_hall.specs.Changes.{IsAnswerBy, IsPrepared}
use Rattle.ps_hall.specs.Records.{Record}
use Rattle.ps_hall.specs.States.{record_of}
use Rattle.ps_hall.proofs.PrepareLemmas.{if_then, prepared_by, report_is}
use Rattle.ps_hall.proofs.prepare.prepare.Goals as goal

pub returns-in-Report : goal.returns-in-Report
returns-in-Report c =
    let h : Record = record_of c.args.state.now in
    subst (λ (cmd : HallCmd). IfOk c.report.result (IsPrepared h c.args.conn cmd)) (sym c.in-Report.is)
    (if_then _ _ c.report.result (report_is h c.args.conn c.in-Report.number c.in-Report.winner) (c.report.ensures c.args.conn))

pub returns-in_default : goal.returns-in_default
returns-in_default c =
    let h : Record = record_of c.args.state.now in
    let rest = c.in_default in
    if_then _ _ c.prepare_by.result
    (λ r. prepared_by h c.args.conn c.args.cmd.now r rest.not-Open rest.not-Quit rest.not-Bad rest.not-Name rest.not-Report)
    (subst (λ (badge : Option Badge). IfOk c.prepare_by.result (IsAnswerBy h c.args.conn badge c.args.cmd.now))
    c.badge.ensures.value c.prepare_by.ensures)
