use Rattle.std.proofs.Common.{◌+◌, ◌<◌, sym, ap, subst, ◌∙◌}
use Rattle.ps_base.specs.Limits.{most_battles}
use Rattle.ps_ladder.specs.Ratings.{Ratings, Standing}
use Rattle.ps_ladder.proofs.SumLemmas.{sound_after, standing_more}
use Rattle.ps_ladder.proofs.ladder.Ladder.settle.Goals as goal

pub invariant_of-self-2 : goal.invariant_of-self-2
invariant_of-self-2 c =
    let few = subst (λ (s : Standing). s.count < most_battles) (sym c.self.view_is) c.requires.few in
    sound_after c.self.inside.count c.self.inside.scores c.settle.new.scores c.args.winner.now c.args.loser.now c.self.invariant few c.requires.apart c.settle.ensures.gain c.in_ok-ratings.ensures.ok

pub returns-clause-history : goal.returns-clause-history
returns-clause-history c = λ results is.
    ap (λ (m : Ratings). record { count = c.self.inside.count + 1; ratings = m }) c.in_ok-ratings.ensures.ok
    ∙ standing_more (record { count = c.self.inside.count; ratings = c.self.inside.scores }) results (record { winner = c.args.winner.now; loser = c.args.loser.now }) (c.self.view_is ∙ is)

pub returns-clause-sum : goal.returns-clause-sum
returns-clause-sum c = (invariant_of-self-2 c).balanced
