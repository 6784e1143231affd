use Rattle.std.proofs.Common.{Some, ap, ◌∙◌}
use Rattle.std.specs.FinMap.{insert}
use Rattle.ps_pms.specs.Changes.{with_target}
use Rattle.hall_index.proofs.MapLemmas.{stands, exchanged, restored}
use Rattle.ps_pms.proofs.blocks.add_block.Goals as goal

pub put_back-requires : goal.put_back-requires
put_back-requires c = stands c.args.blocks.now c.replace.new.self c.args.owner.now _ c.in-Some.ensures.there

pub put_back-requires-in-Ok : goal.put_back-requires-in-Ok
put_back-requires-in-Ok c = stands c.args.blocks.now c.replace.new.self c.args.owner.now _ c.in-Some.ensures.there

pub returns-in-Err-clause-err : goal.returns-in-Err-clause-err
returns-in-Err-clause-err c = restored c.args.blocks.now c.replace.new.self c.put_back.new.blocks c.args.owner.now _ _ c.in-Some.ensures.there c.put_back.ensures (ap (λ v. Some v) c.in-Err.ensures.err ∙ c.in-Some.ensures.value)

pub returns-in-Ok-clause-ok : goal.returns-in-Ok-clause-ok
returns-in-Ok-clause-ok c =
    exchanged c.args.blocks.now c.replace.new.self c.put_back-in-Ok.new.blocks c.args.owner.now _ _ c.in-Some.ensures.there c.put_back-in-Ok.ensures
    ∙ ap (insert c.args.blocks.now c.args.owner.now) c.in-Ok.ensures.ok
    ∙ ap (λ o. insert c.args.blocks.now c.args.owner.now (with_target o c.args.target.now)) c.in-Some.ensures.value
