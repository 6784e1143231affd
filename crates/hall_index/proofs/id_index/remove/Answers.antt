use Rattle.std.proofs.Common.{ap, ◌∙◌}
use Rattle.hall_index.specs.Numbered.{but}
use Rattle.hall_index.specs.IdIndices.{numbers_or_none, put_numbers}
use Rattle.hall_index.proofs.MapLemmas.{stands}
use Rattle.hall_index.proofs.IndexLemmas.{put_over}
use Rattle.hall_index.proofs.id_index.remove.Goals as goal

pub put-requires : goal.put-requires
put-requires c = stands c.args.map.now c.replace.new.self c.args.id.now _ c.in-Some.ensures.there

pub returns : goal.returns
returns c =
    put_over c.args.map.now c.replace.new.self c.put.new.map c.args.id.now _ _ c.in-Some.ensures.there c.put.ensures
    ∙ ap (put_numbers c.args.map.now c.args.id.now) c.remove-2.ensures
    ∙ ap (λ o. put_numbers c.args.map.now c.args.id.now (but c.args.number (numbers_or_none o))) c.in-Some.ensures.value
