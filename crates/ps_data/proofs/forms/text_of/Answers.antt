use Rattle.std.proofs.lemmas.Str.{is_utf8-from_IsUtf8}
use Rattle.ps_data.proofs.Texts.{no_utf8}
use Rattle.ps_data.proofs.forms.text_of.Goals as goal

pub returns-in-Ok : goal.returns-in-Ok
returns-in-Ok c = record { some = (c.in-Ok.ensures.cases.0, is_utf8-from_IsUtf8 c.args.bytes.now c.in-Ok.ensures.cases.1); none = tt }

pub returns-in-Err : goal.returns-in-Err
returns-in-Err c = record { some = tt; none = no_utf8 c.args.bytes.now c.in-Err.ensures.cases.0 }
