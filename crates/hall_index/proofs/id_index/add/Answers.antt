use Rattle.std.proofs.Common.{◌∷◌, [], ◌++◌, Some, ap, ◌∙◌}
use Rattle.std.specs.FinMap.{insert}
use Rattle.hall_index.specs.IdIndices.{numbers_or_none}
use Rattle.hall_index.proofs.MapLemmas.{stands, exchanged, restored}
use Rattle.hall_index.proofs.id_index.add.Goals as goal

pub put_back-requires : goal.put_back-requires
put_back-requires c = stands c.args.map.now c.replace.new.self c.args.id.now _ c.in-Some.ensures.there

pub put_back-requires-in-Ok : goal.put_back-requires-in-Ok
put_back-requires-in-Ok c = stands c.args.map.now c.replace.new.self c.args.id.now _ c.in-Some.ensures.there

pub returns-in-Err-clause-err : goal.returns-in-Err-clause-err
returns-in-Err-clause-err c = restored c.args.map.now c.replace.new.self c.put_back.new.map c.args.id.now _ _ c.in-Some.ensures.there c.put_back.ensures (ap (λ v. Some v) c.in-Err.ensures.err ∙ c.in-Some.ensures.value)

pub returns-in-Ok-clause-ok : goal.returns-in-Ok-clause-ok
returns-in-Ok-clause-ok c =
    exchanged c.args.map.now c.replace.new.self c.put_back-in-Ok.new.map c.args.id.now _ _ c.in-Some.ensures.there c.put_back-in-Ok.ensures
    ∙ ap (insert c.args.map.now c.args.id.now) c.in-Ok.ensures.ok
    ∙ ap (λ o. insert c.args.map.now c.args.id.now (numbers_or_none o ++ c.args.number ∷ [])) c.in-Some.ensures.value
