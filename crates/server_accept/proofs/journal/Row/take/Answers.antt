use Rattle.std.proofs.Common.{rules, ◌≡◌, List, length, take, Option, IsTrue, sym, subst, ap, ◌∙◌}
use Rattle.ps_serve.specs.declared.closed.Closed.{Closed}
use Rattle.server_accept.specs.Journals.{AreFilled, AreSessions}
use Rattle.server_accept.proofs.JournalLemmas.{taken_sessions, taken_count}
use Rattle.server_accept.proofs.journal.Row.take.Goals as goal

pub returns-clause-sessions : goal.returns-clause-sessions
returns-clause-sessions g c =
    let was : IsTrue c.are_filled.result = search rules in
    let filled : AreFilled c.args.begun c.self.inside.ends.items = subst (λ (l : List (Option Closed)). AreFilled c.args.begun l) c.as_slice.ensures.value (c.are_filled.ensures was) in
    let cut = c.truncate.ensures.items in
    let moved = c.replace-ends.ensures.value in
    let items : c.truncate.new.self.items ≡ take c.args.begun c.self.inside.ends.items = cc in
    subst (λ (l : List (Option Closed)). AreSessions g.S.Serving.hub l) (sym items) (taken_sessions g.S.Serving.hub c.args.begun c.self.inside.ends.items filled c.self.invariant)

pub returns-clause-count : goal.returns-clause-count
returns-clause-count g c =
    let was : IsTrue c.are_filled.result = search rules in
    let filled : AreFilled c.args.begun c.self.inside.ends.items = subst (λ (l : List (Option Closed)). AreFilled c.args.begun l) c.as_slice.ensures.value (c.are_filled.ensures was) in
    let cut = c.truncate.ensures.items in
    let moved = c.replace-ends.ensures.value in
    let items : c.truncate.new.self.items ≡ take c.args.begun c.self.inside.ends.items = cc in
    ap length items ∙ taken_count c.args.begun c.self.inside.ends.items filled
