use Rattle.std.proofs.Common.{◌∙◌, sym, ap, rules, SFits, w8}
use Rattle.std.proofs.lemmas.Int.{to_z-of_z}
use Rattle.ps_mon.specs.Facts.{figures}
use Rattle.ps_battle.proofs.OrderLemmas.{first-even}
use Rattle.ps_battle.proofs.turns.is_p1_first.Goals as goal

pub returns-clause-first : goal.returns-clause-first
returns-clause-first c =
    let fp : SFits w8 c.priority-p.result = search rules in
    let fq : SFits w8 c.priority-q.result = search rules in
    let not-p = simp to_z-of_z at c.if-p-q.false in
    let not-q = simp to_z-of_z at c.if-q-p.false in
    let even = first-even (figures c.args.facts) c.args.c1 c.args.c2 c.args.battle.now _ _ (sym c.acts.ensures ∙ c.if-not-acts.false) (sym c.acts-2.ensures ∙ c.if-not-acts-2.false) c.priority-p.ensures c.priority-q.ensures not-p not-q in
    rw even (rw (← c.duel-duel.ensures.value) c.is_faster-first.ensures.value)

pub returns-clause-after : goal.returns-clause-after
returns-clause-after c =
    let fp : SFits w8 c.priority-p.result = search rules in
    let fq : SFits w8 c.priority-q.result = search rules in
    let not-p = simp to_z-of_z at c.if-p-q.false in
    let not-q = simp to_z-of_z at c.if-q-p.false in
    let even = first-even (figures c.args.facts) c.args.c1 c.args.c2 c.args.battle.now _ _ (sym c.acts.ensures ∙ c.if-not-acts.false) (sym c.acts-2.ensures ∙ c.if-not-acts-2.false) c.priority-p.ensures c.priority-q.ensures not-p not-q in
    ap (λ x. record c.args.battle.now { rng = x }) (rw even (rw (← c.duel-duel.ensures.value) c.is_faster-first.ensures.after))
