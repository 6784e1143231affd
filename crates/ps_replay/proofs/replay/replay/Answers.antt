use Rattle.std.proofs.Common.{◌≡◌, ap, ◌∙◌}
use Rattle.std.specs.Arc.{arc_value}
use Rattle.replay_state.specs.Setup.{setup_of}
use Rattle.replay_state.specs.Transcript.{output}
use Rattle.replay_state.specs.Tables.{Desk, text_from}
use Rattle.replay_state.proofs.TextLemmas.{output_is}
use Rattle.ps_replay.proofs.replay.replay.Goals as goal

pub returns-in-Ok-clause-wrote : goal.returns-in-Ok-clause-wrote
returns-in-Ok-clause-wrote g c =
    let setup = setup_of (arc_value c.args.config.now) (arc_value c.args.dex.now) c.args.items.now in
    let all : text_from c.in-Ok.table c.args.items.now ≡ output setup c.args.items.now = ap (λ (s : Desk). text_from s c.args.items.now) c.in-Ok.ensures ∙ output_is setup c.args.items.now in
    rw all at c.replay_once.ensures.wrote

pub returns-in-Ok-clause-err : goal.returns-in-Ok-clause-err
returns-in-Ok-clause-err g c =
    let setup = setup_of (arc_value c.args.config.now) (arc_value c.args.dex.now) c.args.items.now in
    let all : text_from c.in-Ok.table c.args.items.now ≡ output setup c.args.items.now = ap (λ (s : Desk). text_from s c.args.items.now) c.in-Ok.ensures ∙ output_is setup c.args.items.now in
    rw all at c.replay_once.ensures.err
