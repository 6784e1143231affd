use Rattle.std.proofs.Common.{ℕ, ◌<◌}
use Rattle.ps_hub.specs.Names.{IsChatId}
use Rattle.ps_hub.proofs.name.chat_named.Given as goal

-- none before has the id
abbrev pub invariant-loop-number : goal.invariant-loop-number
invariant-loop-number l = (before : ℕ) → before < l.number → IsChatId l.config l.id before → ⊥
