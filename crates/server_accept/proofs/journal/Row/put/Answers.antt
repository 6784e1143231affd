use Rattle.std.proofs.Common.{◌≡◌, ◌+◌, ℕ, subst, rules, arith}
use Rattle.ps_serve.specs.Sessions.{IsSession}
use Rattle.server_accept.proofs.JournalLemmas.{one_put}
use Rattle.server_accept.proofs.journal.Row.put.Goals as goal

pub invariant_of-self : goal.invariant_of-self
invariant_of-self g c =
    let same : c.args.conn ≡ c.in-Some.place + 1 = search (rules, arith) in
    one_put g.S.Serving.hub c.self.inside.ends.items c.in-Some.place c.args.closed (subst (λ (n : ℕ). IsSession g.S.Serving.hub n c.args.closed) same c.requires) c.self.invariant

pub invariant_of-self-then-place-len-2 : goal.invariant_of-self-then-place-len-2
invariant_of-self-then-place-len-2 g c =
    let same : c.args.conn ≡ c.in-Some.place + 1 = search (rules, arith) in
    one_put g.S.Serving.hub c.self.inside.ends.items c.in-Some.place c.args.closed (subst (λ (n : ℕ). IsSession g.S.Serving.hub n c.args.closed) same c.requires) c.self.invariant
