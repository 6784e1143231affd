use Rattle.std.proofs.Common.{◌∙◌, None, Some}
use Rattle.ps_hall.proofs.SearchTeamLemmas.{first_with, found_none, found_at}
use Rattle.ps_hall.proofs.search_teams.find.Goals as goal

pub returns-in-None : goal.returns-in-None
returns-in-None c =
    found_none c.args.user.now c.args.with_id.now c.args.table.now c.requires
    (first_with c.args.user.now c.args.with_id.now c.args.table.now c.requires None c.as_str.result.now c.at-numbers.result.now c.at-numbers.ensures c.as_str.ensures.value c.in-None.ensures)

pub returns-in-Some : goal.returns-in-Some
returns-in-Some c =
    c.get.ensures
    ∙ found_at c.args.user.now c.args.with_id.now c.args.table.now c.requires c.in-Some.number
    (first_with c.args.user.now c.args.with_id.now c.args.table.now c.requires (Some c.in-Some.number) c.as_str.result.now c.at-numbers.result.now c.at-numbers.ensures c.as_str.ensures.value c.in-Some.ensures)
