use Rattle.std.proofs.Common.{sym, ap}
use Rattle.std.specs.Arc.{arc_value}
use Rattle.std.proofs.lemmas.Option.{IfSome_then}
use Rattle.ps_hub.proofs.LockLemmas.{chat_found, battle_found, chat_missing, battle_missing, if_none_then}
use Rattle.ps_hub.specs.Hubs.{Hub}
use Rattle.ps_hub.proofs.hub.Hub.find_lock.Goals as goal

pub returns-then-number-lt-FIRST_BATTLE-clause-found : goal.returns-then-number-lt-FIRST_BATTLE-clause-found
returns-then-number-lt-FIRST_BATTLE-clause-found c = IfSome_then c.lock_at.result c.lock_at.ensures.found (λ l there.
    chat_found c.args.self.now (arc_value c.self.inside.config) (arc_value c.self.inside.dex) c.self.inside.chats.items c.deref.result.now c.args.number l.now
    (sym (ap (λ (h : Hub). h.config) c.self.view_is)) (sym (ap (λ (h : Hub). h.dex) c.self.view_is)) (sym (ap (λ (h : Hub). h.chats) c.self.view_is)) c.self.invariant.1 c.deref.ensures.value c.if-number-lt-FIRST_BATTLE.true there)

pub returns-then-number-lt-FIRST_BATTLE-clause-none : goal.returns-then-number-lt-FIRST_BATTLE-clause-none
returns-then-number-lt-FIRST_BATTLE-clause-none c = if_none_then _ _ c.lock_at.result c.lock_at.ensures.none
    (chat_missing c.args.self.now c.self.inside.chats.items c.deref.result.now c.args.number (sym (ap (λ (h : Hub). h.chats) c.self.view_is)) c.deref.ensures.value c.if-number-lt-FIRST_BATTLE.true)

pub returns-else-number-lt-FIRST_BATTLE-clause-found : goal.returns-else-number-lt-FIRST_BATTLE-clause-found
returns-else-number-lt-FIRST_BATTLE-clause-found c = IfSome_then c.lock_at-else-number-lt-FIRST_BATTLE.result c.lock_at-else-number-lt-FIRST_BATTLE.ensures.found (λ l there.
    battle_found c.args.self.now (arc_value c.self.inside.config) (arc_value c.self.inside.dex) c.self.inside.battles.items c.deref-else-number-lt-FIRST_BATTLE.result.now c.args.number l.now
    (sym (ap (λ (h : Hub). h.config) c.self.view_is)) (sym (ap (λ (h : Hub). h.dex) c.self.view_is)) (sym (ap (λ (h : Hub). h.battles) c.self.view_is)) c.self.invariant.2 c.deref-else-number-lt-FIRST_BATTLE.ensures.value c.if-number-lt-FIRST_BATTLE.false there)

pub returns-else-number-lt-FIRST_BATTLE-clause-none : goal.returns-else-number-lt-FIRST_BATTLE-clause-none
returns-else-number-lt-FIRST_BATTLE-clause-none c = if_none_then _ _ c.lock_at-else-number-lt-FIRST_BATTLE.result c.lock_at-else-number-lt-FIRST_BATTLE.ensures.none
    (battle_missing c.args.self.now c.self.inside.battles.items c.deref-else-number-lt-FIRST_BATTLE.result.now c.args.number (sym (ap (λ (h : Hub). h.battles) c.self.view_is)) c.deref-else-number-lt-FIRST_BATTLE.ensures.value c.if-number-lt-FIRST_BATTLE.false)
