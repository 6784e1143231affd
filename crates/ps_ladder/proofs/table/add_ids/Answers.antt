use Rattle.std.proofs.Common.{ap, ◌∙◌}
use Rattle.hall_index.specs.IdIndices.{with_number}
use Rattle.ps_ladder.proofs.TableLemmas.{undone, on_err}
use Rattle.ps_ladder.proofs.table.add_ids.Goals as goal

pub returns-clause-undone : goal.returns-clause-undone
returns-clause-undone c =
    on_err c.add_format.result c.add_format.ensures.undone
    (λ gone. undone c.args.search.now c.args.number c.args.users.now c.add.new.self c.add_format.new.users (c.in_ok-add.ensures.ok ∙ ap (λ id. with_number c.args.users.now id c.args.number) c.as_str.ensures.value) gone)
