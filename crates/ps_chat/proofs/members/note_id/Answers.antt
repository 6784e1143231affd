use Rattle.std.proofs.Common.{◌≡◌, None, string_bytes, rules}
use Rattle.std.specs.BTreeMap.{get_by_text}
use Rattle.ps_chat.proofs.IndexLemmas.{noted}
use Rattle.ps_chat.proofs.members.note_id.Goals as goal

pub returns-clause-ok : goal.returns-clause-ok
returns-clause-ok c =
    let none : get_by_text c.args.ids.now c.args.id.now ≡ None = search rules in
    noted c.args.ids.now c.insert.new.self (string_bytes c.in_ok-key.key) c.args.id.now c.args.index c.in_ok-key.ensures.ok none c.in_ok-insert.ensures.updates
