use Rattle.std.proofs.Common.{◌∙◌, sym, None, Some}
use Rattle.std.proofs.lemmas.Int.{to_z-of_z}
use Rattle.ps_ladder.proofs.TableLemmas.{first_with, found_none, found_at}
use Rattle.ps_ladder.proofs.table.find.Goals as goal

pub returns-in-None : goal.returns-in-None
returns-in-None c =
    let is = simp (to_z-of_z, c.ranges.rating) at c.in-None.ensures in
    sym (found_none c.args.user.now c.args.format.now c.args.rating c.args.table.now c.requires
    (first_with c.args.user.now c.args.format.now c.args.rating c.args.table.now c.requires None c.as_str.result.now c.at-numbers.result.now c.at-numbers.ensures c.as_str.ensures.value is))

pub returns-in-Some : goal.returns-in-Some
returns-in-Some c =
    let is = simp (to_z-of_z, c.ranges.rating) at c.in-Some.ensures in
    c.get.ensures
    ∙ found_at c.args.user.now c.args.format.now c.args.rating c.args.table.now c.requires c.in-Some.number
    (first_with c.args.user.now c.args.format.now c.args.rating c.args.table.now c.requires (Some c.in-Some.number) c.as_str.result.now c.at-numbers.result.now c.at-numbers.ensures c.as_str.ensures.value is)
