use Rattle.std.proofs.lemmas.List.{length-append}
use Rattle.std.proofs.Common.{◌∷◌, [], arith, ap, ◌∙◌}
use Rattle.replay_script.specs.Scripts.{next}
use Rattle.replay_script.proofs.ScriptLemmas.{Reads-more, seen_after_more}
use Rattle.replay_script.proofs.script.read_lines.Goals as goal

pub loop-rest-preserved : goal.loop-rest-preserved
loop-rest-preserved c =
    let inv = c.loop-rest.invariant in
    let items-are = c.in_ok-push-in-Ok.ensures.items in
    record {
      reads = rw items-are (Reads-more c.args.symbols.now c.args.bytes.now c.loop-rest.rest.now c.first_line.result.0.now c.first_line.result.1.now c.loop-rest.items.items c.in-Ok.item c.loop-rest.count inv.reads c.first_line.ensures.lines c.in-Ok.ensures.found.0 (rw inv.seen at c.in-Ok.ensures.found.1));
      seen = rw (items-are, seen_after_more) (c.in_ok-pass-in-Ok.ensures.ok ∙ ap (λ s. next s c.in-Ok.item) inv.seen);
      few = rw items-are (omega (arith, length-append c.loop-rest.items.items (c.in-Ok.item ∷ []), inv.few));
      room = omega (arith, inv.room, c.first_line.ensures.shorter);
    }
