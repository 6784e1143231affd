use Rattle.std.proofs.Common.{◌≡◌, take}
use Rattle.std.specs.Option.{option_copied}
use Rattle.ps_base.specs.Messages.{texts_of}
use Rattle.ps_serve.specs.Tellings.{after_texts}
use Rattle.ps_serve.proofs.send.send_msgs.Given as goal

abbrev pub invariant-loop-msg : goal.invariant-loop-msg
invariant-loop-msg g l =
    (g.L.Link.counts l.link ≡ g.L.Link.counts l.initial.link)
    × (g.L.Link.talk l.link ≡ after_texts (take l.msg-index (texts_of (option_copied l.room) l.msgs)) (g.L.Link.talk l.initial.link))
    × (g.L.Link.talk l.link ≡ after_texts (texts_of (option_copied l.room) (take l.msg-index l.msgs)) (g.L.Link.talk l.initial.link))
