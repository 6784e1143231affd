use Rattle.std.proofs.Common.{◌∙◌, ap, None, Some}
use Rattle.hall_index.specs.Numbered.{items_of}
use Rattle.ps_hall.proofs.SearchTeamLemmas.{first_with, left_none, left_at}
use Rattle.ps_hall.proofs.search_teams.drop_kept.Goals as goal

pub returns-in-None-clause-after : goal.returns-in-None-clause-after
returns-in-None-clause-after c =
    left_none c.args.user.now c.args.with_id.now c.args.table.now c.requires
    (first_with c.args.user.now c.args.with_id.now c.args.table.now c.requires None c.as_str.result.now c.at-numbers.result.now c.at-numbers.ensures c.as_str.ensures.value c.in-None.ensures)

pub returns-in-Some-clause-after : goal.returns-in-Some-clause-after
returns-in-Some-clause-after c =
    ap (λ l. items_of l) c.remove.ensures.teams
    ∙ left_at c.args.user.now c.args.with_id.now c.args.table.now c.requires c.in-Some.number
    (first_with c.args.user.now c.args.with_id.now c.args.table.now c.requires (Some c.in-Some.number) c.as_str.result.now c.at-numbers.result.now c.at-numbers.ensures c.as_str.ensures.value c.in-Some.ensures)
