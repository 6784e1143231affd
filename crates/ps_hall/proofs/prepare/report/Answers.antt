use Rattle.std.proofs.Common.{IfOk, Option, subst}
use Rattle.ps_hall.specs.declared.game.Game.{Game}
use Rattle.ps_hall.specs.Changes.{IsReportAnswer}
use Rattle.ps_hall.specs.States.{record_of}
use Rattle.ps_hall.proofs.prepare.report.Goals as goal

pub returns-in-Some : goal.returns-in-Some
returns-in-Some c conn =
    subst (λ (game : Option Game). IfOk c.report_game.result (IsReportAnswer (record_of c.args.state.now) conn c.args.number c.args.winner game))
    c.in-Some.ensures (c.report_game.ensures conn)
