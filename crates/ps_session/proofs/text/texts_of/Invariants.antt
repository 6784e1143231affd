use Rattle.std.proofs.Common.{◌≡◌, map, take}
use Rattle.std.specs.Option.{option_copied}
use Rattle.ps_base.specs.Messages.{text_of}
use Rattle.ps_session.proofs.text.texts_of.Given as goal

abbrev pub invariant-loop-msg : goal.invariant-loop-msg
invariant-loop-msg l = l.texts.items ≡ map (text_of (option_copied l.room)) (take l.msg-index l.msgs)
