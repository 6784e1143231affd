use Rattle.std.proofs.Common.{◌∙◌, sym}
use Rattle.ps_hall.proofs.GameLemmas.{on_ok, on_err, once, twice, undone_first}
use Rattle.ps_hall.proofs.games.add_players.Goals as goal

pub returns-then-eq-clause-ok : goal.returns-then-eq-clause-ok
returns-then-eq-clause-ok c =
    once c.args.game.now c.as_str-first.result.now c.as_str-second.result.now (c.as_str-first.ensures.value ∙ c.first_id.ensures) (c.as_str-second.ensures.value ∙ c.second_id.ensures)
    c.args.index.now c.add.new.self (sym c.eq.ensures ∙ c.if-eq.true) c.in_ok-add.ensures.ok

pub returns-clause-ok : goal.returns-clause-ok
returns-clause-ok c =
    on_ok c.add_second.result c.add_second.ensures.ok
    (λ then. twice c.args.game.now c.as_str-first.result.now c.as_str-second.result.now (c.as_str-first.ensures.value ∙ c.first_id.ensures) (c.as_str-second.ensures.value ∙ c.second_id.ensures)
    c.args.index.now c.add.new.self c.add_second.new.index (sym c.eq.ensures ∙ c.if-eq.false) c.in_ok-add.ensures.ok then)

pub returns-clause-err : goal.returns-clause-err
returns-clause-err c =
    on_err c.add_second.result c.add_second.ensures.err
    (λ then. undone_first c.args.game.now c.as_str-first.result.now c.as_str-second.result.now (c.as_str-first.ensures.value ∙ c.first_id.ensures) (c.as_str-second.ensures.value ∙ c.second_id.ensures)
    c.args.index.now c.add.new.self c.add_second.new.index c.in_ok-add.ensures.ok then)
