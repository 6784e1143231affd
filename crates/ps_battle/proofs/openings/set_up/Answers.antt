use Rattle.std.proofs.Common.{◌<◌, rules}
use Rattle.ps_battle.proofs.OpeningLemmas.{opened-valid}
use Rattle.ps_battle.proofs.openings.set_up.Goals as goal

pub returns-clause-valid : goal.returns-clause-valid
returns-clause-valid c =
    let few : c.args.clauses < 256 = search rules in
    let one = c.open_side.ensures in
    let two = c.open_side-2.ensures in
    opened-valid c.open_side.result c.open_side-2.result c.first_phase.result c.args.clauses c.args.seed few
    (record { side = one.side; some = one.some; active = one.active; stand = one.stand }) (record { side = two.side; some = two.some; active = two.active; stand = two.stand })
