use Rattle.std.proofs.Common.{◌∙◌, sym, ap, None, Some}
use Rattle.std.proofs.lemmas.Int.{to_z-of_z}
use Rattle.hall_index.specs.Numbered.{items_of}
use Rattle.ps_ladder.proofs.TableLemmas.{first_with, found_none, left_none, found_at, left_at}
use Rattle.ps_ladder.proofs.table.take_found.Goals as goal

pub returns-in-None-clause-value : goal.returns-in-None-clause-value
returns-in-None-clause-value c =
    let is = simp (to_z-of_z, c.ranges.rating) at c.in-None.ensures in
    sym (found_none c.args.user.now c.args.format.now c.args.rating c.args.table.now c.requires
    (first_with c.args.user.now c.args.format.now c.args.rating c.args.table.now c.requires None c.as_str.result.now c.at-numbers.result.now c.at-numbers.ensures c.as_str.ensures.value is))

pub returns-in-None-clause-after : goal.returns-in-None-clause-after
returns-in-None-clause-after c =
    let is = simp (to_z-of_z, c.ranges.rating) at c.in-None.ensures in
    left_none c.args.user.now c.args.format.now c.args.rating c.args.table.now c.requires
    (first_with c.args.user.now c.args.format.now c.args.rating c.args.table.now c.requires None c.as_str.result.now c.at-numbers.result.now c.at-numbers.ensures c.as_str.ensures.value is)

pub returns-in-Some-clause-value : goal.returns-in-Some-clause-value
returns-in-Some-clause-value c =
    let is = simp (to_z-of_z, c.ranges.rating) at c.in-Some.ensures in
    c.remove.ensures.value
    ∙ found_at c.args.user.now c.args.format.now c.args.rating c.args.table.now c.requires c.in-Some.number
    (first_with c.args.user.now c.args.format.now c.args.rating c.args.table.now c.requires (Some c.in-Some.number) c.as_str.result.now c.at-numbers.result.now c.at-numbers.ensures c.as_str.ensures.value is)

pub returns-in-Some-clause-after : goal.returns-in-Some-clause-after
returns-in-Some-clause-after c =
    let is = simp (to_z-of_z, c.ranges.rating) at c.in-Some.ensures in
    ap (λ l. items_of l) c.remove.ensures.after
    ∙ left_at c.args.user.now c.args.format.now c.args.rating c.args.table.now c.requires c.in-Some.number
    (first_with c.args.user.now c.args.format.now c.args.rating c.args.table.now c.requires (Some c.in-Some.number) c.as_str.result.now c.at-numbers.result.now c.at-numbers.ensures c.as_str.ensures.value is)
