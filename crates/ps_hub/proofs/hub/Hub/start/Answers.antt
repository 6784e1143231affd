use Rattle.std.proofs.Common.{refl}
use Rattle.ps_hub.proofs.PassListLemmas.{are_as_before, kept_pass, kept_read}
use Rattle.ps_hub.proofs.EnterLemmas.{entered_are}
use Rattle.ps_hub.proofs.CallLemmas.{started}
use Rattle.ps_hub.proofs.hub.Hub.start.Goals as goal

pub returns-in-Err-clause-of : goal.returns-in-Err-clause-of
returns-in-Err-clause-of g c = are_as_before c.args.self.now c.args.passes.now c.keep.new.passes c.requires.of c.in-Err.ensures.err

pub begin-requires : goal.begin-requires
begin-requires g c =
    let kept = c.in-Ok.ensures.ok in
    let keeps = kept_read c.args.self.now c.place_of_battle.result c.in-Ok.pass_index c.args.passes.now kept.0 c.index_mut.result.now
    c.keep.new.passes kept.1 c.index_mut.ensures.value in (
      c.args.passes.now.conn,
      kept_pass c.args.self.now c.place_of_battle.result c.in-Ok.pass_index c.args.passes.now c.index_mut.result.now
          c.keep.new.passes c.requires.of keeps,
    )

pub returns-in-Ok-clause-of : goal.returns-in-Ok-clause-of
returns-in-Ok-clause-of g c =
    let kept = c.in-Ok.ensures.ok in
    let keeps = kept_read c.args.self.now c.place_of_battle.result c.in-Ok.pass_index c.args.passes.now kept.0 c.index_mut.result.now
    c.keep.new.passes kept.1 c.index_mut.ensures.value in
    entered_are c.args.self.now c.place_of_battle.result c.in-Ok.pass_index c.args.passes.now c.index_mut.result.now c.keep.new.passes
    c.begin.new.pass _ c.requires.of keeps refl refl c.begin.ensures.same.1 c.begin.ensures.of

pub returns-in-Ok-clause-does : goal.returns-in-Ok-clause-does
returns-in-Ok-clause-does g c =
    let kept = c.in-Ok.ensures.ok in
    let keeps = kept_read c.args.self.now c.place_of_battle.result c.in-Ok.pass_index c.args.passes.now kept.0 c.index_mut.result.now
    c.keep.new.passes kept.1 c.index_mut.ensures.value in
    started c.args.self.now c.args.start c.place_of_battle.result c.in-Ok.pass_index c.args.passes.now c.index_mut.result.now
    c.keep.new.passes c.begin.new.pass _ c.begin.result c.place_of_battle.ensures.value keeps refl refl c.begin.ensures.same
    c.begin.ensures.ok c.begin.ensures.err
