use Rattle.std.proofs.Common.{◌∙◌, ap}
use Rattle.ps_chat.specs.Verdicts.{verdict}
use Rattle.ps_chat.specs.Changes.{record_after}
use Rattle.ps_chat.specs.Steps.{Seen}
use Rattle.ps_chat.proofs.StepLemmas.{room_answers, joins_new, still_settled, moved_on}
use Rattle.ps_chat.proofs.chat.Chat.change.Goals as goal

pub change-requires : goal.change-requires
change-requires c =
    joins_new c.self.inside.room c.args.conn c.args.badge.now c.args.moment c.args.cmd.now
    (room_answers c.self.inside.room c.args.conn c.args.badge.now c.args.moment c.args.cmd.now c.self.invariant
    ∙ ap (λ (s : Seen). verdict s.opening s.state c.args.conn c.args.badge.now c.args.moment c.args.cmd.now) c.self.view_is
    ∙ c.requires)

pub invariant_of-self-2 : goal.invariant_of-self-2
invariant_of-self-2 c = rw c.in_ok-change.ensures.ok (still_settled c.self.inside.room c.args.conn c.args.badge.now c.args.moment c.args.cmd.now c.self.invariant)

pub returns-clause-ok : goal.returns-clause-ok
returns-clause-ok c =
    rw c.in_ok-change.ensures.ok (moved_on c.self.inside.room c.self.inside.lines.items c.args.conn c.args.badge.now c.args.moment c.args.cmd.now
    ∙ ap (λ (s : Seen). record s { state = record_after s.opening.groups s.state c.args.conn c.args.badge.now c.args.moment c.args.cmd.now }) c.self.view_is)
