use Rattle.std.proofs.Common.{◌∙◌, ap}
use Rattle.ps_chat.specs.Verdicts.{verdict}
use Rattle.ps_chat.specs.Steps.{Seen}
use Rattle.ps_chat.proofs.StepLemmas.{room_answers}
use Rattle.ps_chat.proofs.chat.Chat.verdict.Goals as goal

pub returns : goal.returns
returns c =
    c.room_verdict.ensures
    ∙ room_answers c.self.inside.room c.args.conn c.args.badge.now c.args.moment c.args.cmd.now c.self.invariant
    ∙ ap (λ (s : Seen). verdict s.opening s.state c.args.conn c.args.badge.now c.args.moment c.args.cmd.now) c.self.view_is
