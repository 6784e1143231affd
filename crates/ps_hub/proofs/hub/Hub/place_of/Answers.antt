use Rattle.std.proofs.Common.{sym, ap}
use Rattle.std.specs.Arc.{arc_value}
use Rattle.std.proofs.lemmas.Option.{IfSome_then}
use Rattle.ps_hub.specs.Hubs.{Hub}
use Rattle.ps_hub.proofs.LockLemmas.{named_place, named_nowhere, if_none_then}
use Rattle.ps_hub.proofs.hub.Hub.place_of.Goals as goal

pub returns-clause-found : goal.returns-clause-found
returns-clause-found c = IfSome_then c.place_named.result c.place_named.ensures.found (λ number names.
    named_place c.args.self.now (arc_value c.self.inside.config) c.deref.result.now c.self.inside.chats.items c.self.inside.battles.items c.args.id.now number
    (sym (ap (λ (h : Hub). h.config) c.self.view_is)) c.deref.ensures (sym (ap (λ (h : Hub). h.chats) c.self.view_is)) (sym (ap (λ (h : Hub). h.battles) c.self.view_is)) c.self.invariant.3 c.self.invariant.4 names)

pub returns-clause-none : goal.returns-clause-none
returns-clause-none c = if_none_then _ _ c.place_named.result c.place_named.ensures.none (λ none.
    named_nowhere c.args.self.now (arc_value c.self.inside.config) c.deref.result.now c.args.id.now (sym (ap (λ (h : Hub). h.config) c.self.view_is)) c.deref.ensures none)
