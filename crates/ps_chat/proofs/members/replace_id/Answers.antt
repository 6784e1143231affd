use Rattle.std.proofs.Common.{◌∙◌, sym, ap, cond, ℕ, Option, Some, rules}
use Rattle.std.specs.Str.{bytes_eq}
use Rattle.std.specs.BTreeMap.{get_by_text}
use Rattle.std.proofs.lemmas.Map.Text.{btree_map_updates_text}
use Rattle.ps_chat.proofs.members.replace_id.Goals as goal

pub returns-in-None : goal.returns-in-None
returns-in-None c = λ other. btree_map_updates_text c.args.id.now c.args.ids.now c.remove.new.self _ c.remove.ensures.updates other ∙ ap (λ (o : Option ℕ). cond (bytes_eq c.args.id.now other) o (get_by_text c.args.ids.now other)) (sym c.in-None.is)

pub returns-in-Some : goal.returns-in-Some
returns-in-Some c = λ other. btree_map_updates_text c.args.id.now c.args.ids.now (c.get_mut.follows.lender c.in-Some.next) (Some c.in-Some.next) ((c.get_mut.follows.holds c.in-Some.next).3 (search rules)) other ∙ ap (λ (o : Option ℕ). cond (bytes_eq c.args.id.now other) o (get_by_text c.args.ids.now other)) (sym c.in-Some.is)
