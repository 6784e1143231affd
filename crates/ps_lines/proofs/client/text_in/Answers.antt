use Rattle.ps_lines.proofs.ClientLemmas.{is_text}
use Rattle.ps_lines.proofs.client.text_in.Goals as goal

pub returns : goal.returns
returns c = is_text c.args.whole.now c.utf8.whole
