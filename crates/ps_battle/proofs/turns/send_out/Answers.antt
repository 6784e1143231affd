use Rattle.std.proofs.Common.{◌<◌, ◌∙◌, sym, subst}
use Rattle.ps_mon.specs.declared.record.SideState.{SideState}
use Rattle.ps_mon.specs.Choices.{IsThere}
use Rattle.ps_battle.proofs.ChoiceLemmas.{sent-valid}
use Rattle.ps_battle.proofs.turns.send_out.Goals as goal

pub place-requires-2-clause-there : goal.place-requires-2-clause-there
place-requires-2-clause-there c = subst (λ (a : SideState). IsThere a c.args.c2) (sym c.place.ensures.foe) c.requires.second

pub returns-clause-valid : goal.returns-clause-valid
returns-clause-valid c =
    sent-valid c.place-2.new.battle c.place-2.ensures.sound (subst (λ n. n < 1000) (sym (c.place-2.ensures.turn ∙ c.place.ensures.turn)) c.requires.turn)
    (λ s h. c.place-2.ensures.some s h (c.place.ensures.some s h (c.requires.some s h))) (λ s h. c.place-2.ensures.stand s h (c.place.ensures.stand s h (c.requires.stand s h)))
