use Rattle.std.proofs.Common.{◌≡◌, ◌<◌, ◌-◌, arith, ap, ◌∙◌}
use Rattle.ps_mon.specs.declared.duel.Duel.{Duel}
use Rattle.ps_mon.specs.Reading.{side_of}
use Rattle.ps_mon.specs.Slots.{slot_count_now}
use Rattle.ps_copy.proofs.ChangeLemmas.{count-range, duel-count}
use Rattle.ps_copy.proofs.learning.mimic.Goals as goal

pub mimic_duel-from-requires-clause-count : goal.mimic_duel-from-requires-clause-count
mimic_duel-from-requires-clause-count c =
    let count : c.duel-duel.result.slot_count ≡ slot_count_now (side_of c.args.battle.now (1 - c.args.user)) = ap (λ (d : Duel). d.slot_count) c.duel-duel.ensures.value ∙ duel-count _ _ in
    let low = (count-range _ (c.requires.sound.sides (1 - c.args.user) (omega arith))).0 in
    rw count low

pub learn-requires-clause-from : goal.learn-requires-clause-from
learn-requires-clause-from c =
    let count : c.duel-duel.result.slot_count ≡ slot_count_now (side_of c.args.battle.now (1 - c.args.user)) = ap (λ (d : Duel). d.slot_count) c.duel-duel.ensures.value ∙ duel-count _ _ in
    let same : slot_count_now (side_of c.put.new.self (1 - c.args.user)) ≡ slot_count_now (side_of c.args.battle.now (1 - c.args.user)) = (c.put.ensures.kept c.args.user c.requires.user).foe.slot_count in
    let inside : c.in-Some.from < c.duel-duel.result.slot_count = c.in-Some.ensures.inside in
    omega (arith, count, same, inside)

pub returns-in-Some-clause-kept : goal.returns-in-Some-clause-kept
returns-in-Some-clause-kept c = c.learn.ensures.kept _ (c.put.ensures.kept c.args.user c.requires.user)
