use Rattle.std.proofs.Common.{◌∙◌}
use Rattle.std.specs.Option.{option_copied}
use Rattle.ps_serve.proofs.CallLemmas.{sent_one}
use Rattle.ps_serve.proofs.send.send_msgs.Goals as goal

pub loop-msg-preserved : goal.loop-msg-preserved
loop-msg-preserved g c =
    let sent = sent_one (option_copied c.args.room) c.args.msgs.now c.loop-msg.msg-index c.msg-item.result (g.L.Link.talk c.args.link.now) (g.L.Link.talk c.loop-msg.link) (g.L.Link.talk c.send_message.new.self) c.loop-msg-test.true c.msg-item.is c.loop-msg.invariant.1 c.in-Ok.ensures.known in
    (c.in-Ok.ensures.cause ∙ c.loop-msg.invariant.0, sent.0, sent.1)
