use Rattle.std.proofs.Common.{◌++◌, ◌∷◌, [], ◌∙◌, ap}
use Rattle.std.proofs.lemmas.Int.{to_z-of_z}
use Rattle.hall_index.specs.Numbered.{items_of}
use Rattle.ps_ladder.proofs.TableLemmas.{at_fault, stays, added_none}
use Rattle.ps_ladder.proofs.searches.add_new.Goals as goal

pub returns-in_err-entry-in-None-clause-err : goal.returns-in_err-entry-in-None-clause-err
returns-in_err-entry-in-None-clause-err c =
    let told = simp (to_z-of_z, c.ranges.rating) at c.in-None.ensures in
    at_fault c.from_residual.result
    (stays c.args.user.now c.args.format.now c.args.rating (items_of c.args.table.now.waiting) (items_of c.take_found.new.table.waiting) told.value told.after)

pub returns-in_err-push-in-None-clause-err : goal.returns-in_err-push-in-None-clause-err
returns-in_err-push-in-None-clause-err c =
    let told = simp (to_z-of_z, c.ranges.rating) at c.in-None.ensures in
    at_fault c.from_residual-in_err-push-in-None.result
    (c.in_err-push-in-None.ensures.err
    ∙ stays c.args.user.now c.args.format.now c.args.rating (items_of c.args.table.now.waiting) (items_of c.take_found.new.table.waiting) told.value told.after)

pub returns-in_ok-push-in-None-clause-added : goal.returns-in_ok-push-in-None-clause-added
returns-in_ok-push-in-None-clause-added c =
    let told = simp (to_z-of_z, c.ranges.rating) at c.in-None.ensures in
    let made = simp (to_z-of_z, c.ranges.rating) at c.in_ok-entry-in-None.ensures in
    c.in_ok-push-in-None.ensures.ok
    ∙ ap (λ l. l ++ c.in_ok-entry-in-None.entry ∷ []) (stays c.args.user.now c.args.format.now c.args.rating (items_of c.args.table.now.waiting) (items_of c.take_found.new.table.waiting) told.value told.after)
    ∙ added_none c.args.user.now c.args.format.now c.args.rating (items_of c.args.table.now.waiting) c.in_ok-entry-in-None.entry told.value made
