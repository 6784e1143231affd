use Rattle.std.proofs.Common.{ℕ, List, Some, ap}
use Rattle.ps_hub.proofs.EnterLemmas.{chat_of}
use Rattle.ps_hub.proofs.hub.Hub.hold.Goals as goal

pub returns-then-pass-lt-FIRST_BATTLE-clause-of : goal.returns-then-pass-lt-FIRST_BATTLE-clause-of
returns-then-pass-lt-FIRST_BATTLE-clause-of c = λ conn p. chat_of c.args.self.now conn c.args.pass.now _ c.args.id.now c.requires.named c.if-pass-lt-FIRST_BATTLE.true (ap (λ (n : List ℕ). record c.args.pass.now { id = Some n }) c.in-Ok.ensures) p
