use Rattle.json.proofs.Printed.Plain.{escape_on_plain}
use Rattle.json_text.proofs.quoted.needs_no_escape.Goals as goal

pub returns : goal.returns
returns c = escape_on_plain c.is_plain.result c.args.text.now c.is_plain.ensures
