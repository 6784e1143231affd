use Rattle.std.proofs.Common.{◌≡◌, subst}
use Rattle.std.specs.Arc.{arc_value}
use Rattle.ps_replay.specs.Outcomes.{IsReplayed}
use Rattle.ps_replay.proofs.OutcomeLemmas.{not_long, input_is}
use Rattle.ps_replay.proofs.run.run_input.Goals as goal

pub returns-in-Err-Long-clause-settles : goal.returns-in-Err-Long-clause-settles
returns-in-Err-Long-clause-settles g c = λ readable _ _.
    absurd (not_long (arc_value c.args.config.now).groups (g.S.Source.left c.args.input.now) c.in-Err-Long.count (c.in-Err-Long.ensures.long c.in-Err-Long.count (cc)) readable)

pub returns-in-Ok-clause-replayed : goal.returns-in-Ok-clause-replayed
returns-in-Ok-clause-replayed g c = λ done.
    let R = IsReplayed (arc_value c.args.config.now) (arc_value c.args.dex.now) (g.K.Sink.written c.args.out.now) (g.K.Sink.written c.run_bytes.new.out) in
    let same : c.deref.result.now ≡ c.in-Ok.bytes.items = cc in
    input_is R (g.S.Source.left c.args.input.now) c.in-Ok.bytes.items c.in-Ok.ensures.whole (subst R same (c.run_bytes.ensures.replayed done))
