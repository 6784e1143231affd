use Rattle.std.proofs.Common.{◌≡◌, ◌∙◌, sym, None, rules}
use Rattle.hall_index.proofs.FindLemmas.{fewer_numbers}
use Rattle.ps_ladder.proofs.TableLemmas.{ended, all_ended}
use Rattle.ps_ladder.proofs.table.end_all.Goals as goal

pub loop-number-smaller : goal.loop-number-smaller
loop-number-smaller c = fewer_numbers c.loop-number.table.users c.end_at.new.table.users c.args.user.now c.in-Some.number c.in-Some.ensures c.end_at.ensures.users

pub loop-number-preserved : goal.loop-number-preserved
loop-number-preserved c = (
  c.end_at.ensures.kept,
  ended c.loop-number.table c.loop-number.invariant.0 c.args.user.now c.in-Some.number c.end_at.new.table.waiting c.in-Some.ensures c.end_at.ensures.waiting
      ∙ c.loop-number.invariant.1,
)

pub returns-clause-after : goal.returns-clause-after
returns-clause-after c =
    let none : c.first_of.result ≡ None = search rules in
    all_ended c.loop-number.table c.loop-number.invariant.0 c.args.user.now (sym none ∙ c.first_of.ensures) ∙ c.loop-number.invariant.1
