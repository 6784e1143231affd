use Rattle.std.proofs.Common.{ap, ◌∙◌}
use Rattle.std.specs.FinMap.{insert}
use Rattle.ps_pms.specs.Changes.{without_target}
use Rattle.hall_index.proofs.MapLemmas.{stands, exchanged}
use Rattle.ps_pms.proofs.blocks.end_block.Goals as goal

pub put_back-requires : goal.put_back-requires
put_back-requires c = stands c.args.blocks.now c.replace.new.self c.args.owner.now _ c.in-Some.ensures.there

pub returns : goal.returns
returns c =
    exchanged c.args.blocks.now c.replace.new.self c.put_back.new.blocks c.args.owner.now _ _ c.in-Some.ensures.there c.put_back.ensures
    ∙ ap (insert c.args.blocks.now c.args.owner.now) c.remove.ensures
    ∙ ap (without_target c.args.blocks.now c.args.owner.now c.args.target.now) c.in-Some.ensures.value
