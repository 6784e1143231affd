use Rattle.std.proofs.Common.{◌≡◌, ℕ, List, [], ◌∷◌, ◌++◌, length, Option, IfNone, IfSome, subst}
use Rattle.ps_outside.specs.Links.{Talk, LinkCounts}
use Rattle.ps_serve.specs.Acts.{Act}
use Rattle.ps_serve.specs.Sendings.{Sending}
use Rattle.ps_serve.specs.Sittings.{Sits}
use Rattle.ps_serve.specs.Steps.{Tells, TellsPart, IsBreak}
use Rattle.ps_serve.proofs.session.Sitting.answer.Goals as goal

-- the link was told only what happened, and where to ring
pub returns-clause-counts : goal.returns-clause-counts
returns-clause-counts g c = subst (λ (counts : LinkCounts). IfNone c.catch_up.result (g.L.Link.counts c.catch_up.new.link ≡ counts)) c.notify.ensures.counts c.catch_up.ensures.counts

pub returns-clause-cause : goal.returns-clause-cause
returns-clause-cause g c = subst (λ (counts : LinkCounts). IfSome c.catch_up.result (λ end. IsBreak end counts (g.L.Link.counts c.catch_up.new.link))) c.notify.ensures.counts c.catch_up.ensures.cause

pub returns-clause-told : goal.returns-clause-told
returns-clause-told g c = subst (λ (talk : Option Talk). IfNone c.catch_up.result ((conn open_at : ℕ) (acts : List Act) (a : Act) (ss : List Sending) → Sits c.args.hub.now conn open_at (acts ++ a ∷ []) (length acts) ss c.args.self.now.session c.args.self.now.passes → Tells c.args.hub.now conn open_at acts a ss c.args.self.now.session talk (g.L.Link.talk c.catch_up.new.link) c.catch_up.new.self.passes)) c.notify.ensures.talk c.catch_up.ensures.told

pub returns-clause-broke : goal.returns-clause-broke
returns-clause-broke g c = subst (λ (talk : Option Talk). IfSome c.catch_up.result (λ end. (conn open_at : ℕ) (acts : List Act) (a : Act) (ss : List Sending) → Sits c.args.hub.now conn open_at (acts ++ a ∷ []) (length acts) ss c.args.self.now.session c.args.self.now.passes → TellsPart end c.args.hub.now conn open_at acts a ss talk (g.L.Link.talk c.catch_up.new.link) c.catch_up.new.self.passes)) c.notify.ensures.talk c.catch_up.ensures.broke
