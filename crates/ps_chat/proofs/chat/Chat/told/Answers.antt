use Rattle.std.proofs.Common.{◌≡◌, ◌∙◌, ap}
use Rattle.ps_chat.specs.Told.{lines, room_lines}
use Rattle.ps_chat.specs.Steps.{Seen}
use Rattle.ps_chat.proofs.StepLemmas.{room_tells}
use Rattle.ps_chat.proofs.chat.Chat.told.Goals as goal

pub returns : goal.returns
returns c =
    let same : room_lines c.self.inside.room c.args.conn c.args.badge.now c.args.moment c.args.cmd.now ≡ lines c.args.self.now.opening c.args.self.now.state c.args.conn c.args.badge.now c.args.moment c.args.cmd.now =
    room_tells c.self.inside.room c.args.conn c.args.badge.now c.args.moment c.args.cmd.now c.self.invariant
    ∙ ap (λ (s : Seen). lines s.opening s.state c.args.conn c.args.badge.now c.args.moment c.args.cmd.now) c.self.view_is in
    rw (← same) c.room_lines.ensures
