use Rattle.std.proofs.Common.{[], subst, string_bytes}
use Rattle.std.specs.Arc.{arc_value}
use Rattle.replay_state.specs.Tables.{Desk}
use Rattle.replay_state.specs.Setup.{setup_of}
use Rattle.ps_replay.specs.Outcomes.{symbols_of}
use Rattle.ps_replay.specs.Runs.{SummarizesRun}
use Rattle.ps_replay.proofs.RunLemmas.{if_known}
use Rattle.ps_replay.proofs.drill.run_items.Goals as goal

pub returns : goal.returns
returns c =
    let setup = setup_of (arc_value c.args.config.now) (arc_value c.args.dex.now) c.args.items.now in
    if_known string_bytes (symbols_of (arc_value c.args.config.now).groups) c.args.script.now setup c.args.items.now c.take.new.self c.in_ok-run.run' c.run_summary.result c.requires
    (c.take.ensures [] c.new-tally.ensures)
    (subst (λ (s : Desk). SummarizesRun c.take.new.self s c.args.items.now c.in_ok-run.run') c.in_ok-table.ensures c.in_ok-run.ensures)
    c.run_summary.ensures
