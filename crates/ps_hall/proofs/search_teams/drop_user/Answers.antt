use Rattle.std.proofs.Common.{◌≡◌, ◌∙◌, sym, None, rules}
use Rattle.hall_index.proofs.FindLemmas.{fewer_numbers}
use Rattle.ps_hall.proofs.SearchTeamLemmas.{ended, all_ended}
use Rattle.ps_hall.proofs.search_teams.drop_user.Goals as goal

pub loop-number-smaller : goal.loop-number-smaller
loop-number-smaller c = fewer_numbers c.loop-number.table.users c.remove.new.table.users c.args.user.now c.in-Some.number c.in-Some.ensures c.remove.ensures.users

pub loop-number-preserved : goal.loop-number-preserved
loop-number-preserved c = (
  c.remove.ensures.kept,
  ended c.loop-number.table c.loop-number.invariant.0 c.args.user.now c.in-Some.number c.remove.new.table.teams c.in-Some.ensures c.remove.ensures.teams
      ∙ c.loop-number.invariant.1,
)

pub returns-clause-after : goal.returns-clause-after
returns-clause-after c =
    let none : c.first_of.result ≡ None = search rules in
    all_ended c.loop-number.table c.loop-number.invariant.0 c.args.user.now (sym none ∙ c.first_of.ensures) ∙ c.loop-number.invariant.1
