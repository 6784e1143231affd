use Rattle.ps_chat.proofs.IndexLemmas.{ranked_index, ranked_id_index}
use Rattle.ps_chat.proofs.members.Members.set_rank.Goals as goal

pub invariant_of-self : goal.invariant_of-self
invariant_of-self c = rw c.set_ranks.ensures (ranked_index c.args.id.now c.args.rank c.self.inside.list.items c.self.inside.indices c.self.invariant.0, ranked_id_index c.args.id.now c.args.rank c.self.inside.list.items c.self.inside.ids c.self.invariant.1)
