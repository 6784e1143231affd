use Rattle.std.proofs.Common.{◌≡◌, length, rules}
use Rattle.ps_mon.proofs.OpeningLemmas.{open-side, open-active, open-standing, open-stand, open-known}
use Rattle.ps_mon.proofs.opening.open_side.Goals as goal

pub returns-clause-side : goal.returns-clause-side
returns-clause-side c =
    let six : length c.args.team.now.members ≡ 6 = search rules in
    open-side c.args.team.now six c.requires

pub returns-clause-some : goal.returns-clause-some
returns-clause-some c =
    let six : length c.args.team.now.members ≡ 6 = search rules in
    open-standing c.args.team.now six c.requires

pub returns-clause-active : goal.returns-clause-active
returns-clause-active c = open-active c.args.team.now c.requires

pub returns-clause-stand : goal.returns-clause-stand
returns-clause-stand c = open-stand c.args.team.now c.requires

pub returns-clause-known : goal.returns-clause-known
returns-clause-known c = λ moves known. open-known moves c.args.team.now known
