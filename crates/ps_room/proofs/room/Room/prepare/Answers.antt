use Rattle.std.proofs.Common.{subst}
use Rattle.ps_room.specs.Logs.{Seen, Goes, MakesNone}
use Rattle.ps_room.proofs.ChangeLemmas.{goes_unlogged, none_unlogged}
use Rattle.ps_room.proofs.room.Room.prepare.Goals as goal

pub returns-clause-goes : goal.returns-clause-goes
returns-clause-goes c =
    subst (λ (s : Seen). Goes s c.args.entry.now c.in_ok-prepared.prepared.bout) c.self.view_is
    (goes_unlogged c.self.inside.state c.self.inside.log c.args.entry.now c.in_ok-prepared.prepared.bout c.in_ok-prepared.ensures.goes)

pub returns-clause-none : goal.returns-clause-none
returns-clause-none c =
    subst (λ (s : Seen). MakesNone s c.args.entry.now c.in_ok-prepared.prepared.bout) c.self.view_is
    (none_unlogged c.self.inside.state c.self.inside.log c.args.entry.now c.in_ok-prepared.prepared.bout c.in_ok-prepared.ensures.none)
