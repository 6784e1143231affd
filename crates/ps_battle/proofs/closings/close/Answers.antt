use Rattle.std.proofs.Common.{◌≡◌, true, ◌∙◌, sym, rules}
use Rattle.ps_battle.proofs.CloseLemmas.{both-up, replacing-valid}
use Rattle.ps_battle.proofs.closings.close.Goals as goal

pub returns-then-p1-clause-valid : goal.returns-then-p1-clause-valid
returns-then-p1-clause-valid c =
    let one : c.stands-one.result ≡ true = search rules in
    let two : c.stands-two.result ≡ true = search rules in
    replacing-valid c.args.battle.now _ _ c.requires.sound c.requires.turn
    (sym c.stands-one.ensures ∙ one) (sym c.stands-two.ensures ∙ two) c.has_fallen-p1.ensures c.has_fallen-p2.ensures

pub go_on-requires-clause-active : goal.go_on-requires-clause-active
go_on-requires-clause-active c =
    both-up c.args.battle.now (sym c.has_fallen-p1.ensures ∙ c.if-p1.false) (sym c.has_fallen-p2.ensures ∙ c.if-p2.false)
