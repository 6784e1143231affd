use Rattle.std.proofs.Common.{◌≡◌}
use Rattle.std.specs.Arc.{arc_value}
use Rattle.replay_drill.specs.Drills.{drill_text}
use Rattle.ps_replay.specs.Outcomes.{symbols_of}
use Rattle.ps_replay.proofs.RunLemmas.{no_fault}
use Rattle.ps_replay.proofs.drill.summarize.Goals as goal

pub unreachable-requires : goal.unreachable-requires
unreachable-requires c =
    let symbols : c.as_slice.result.now ≡ symbols_of (arc_value c.args.config.now).groups = cc (c.in_ok-symbols.ensures) in
    let text : c.as_bytes.result.now ≡ drill_text (arc_value c.args.config.now) (arc_value c.args.dex.now) c.args.steps = cc (c.in_ok-script.ensures) in
    no_fault (arc_value c.args.config.now) (arc_value c.args.dex.now) c.args.steps c.as_slice.result.now c.as_bytes.result.now c.in-Err-Bad.field-0 c.in-Err-Bad.field-0-0 c.in-Err-Bad.field-0-1 c.in-Err-Bad.field-0-is c.requires.formats c.requires.names c.requires.few symbols text c.in-Err-Bad.ensures.none
