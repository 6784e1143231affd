-- The rows of the hall table that change blocks and challenges: the record after each command that is applied.
use Rattle.std.specs.Prelude.{ℕ, not, List, [], ◌∷◌, ◌++◌, Option, Some, None}
use Rattle.std.specs.List.{filter}
use Rattle.std.specs.FinMap.{get, insert, remove, empty}
use Rattle.ps_lines.specs.declared.command.HallCmd.{HallCmd}
use Rattle.ps_lines.specs.declared.command.HallCmd.TheVariants.{Quit, Challenge, CancelChallenge, Reject, Accept, Block, Unblock}
use Rattle.ps_base.specs.ById.{ById}
use Rattle.ps_pms.specs.Records.{Record}
use Rattle.ps_pms.specs.Lookups.{is_by, is_of, is_with}

-- ---- blocks

-- the ids that somebody blocks, who may have blocked nobody, with one more
abbrev pub with_target : Option (ById (Unit {0})) → List ℕ → ById (Unit {0})
with_target None target = insert empty target tt
with_target (Some targets) target = insert targets target tt

-- the owner blocks the target
abbrev pub with_block : ById (ById (Unit {0})) → List ℕ → List ℕ → ById (ById (Unit {0}))
with_block blocks owner target = insert blocks owner (with_target (get blocks owner) target)

abbrev pub without_target : ById (ById (Unit {0})) → List ℕ → List ℕ → Option (ById (Unit {0})) → ById (ById (Unit {0}))
without_target blocks owner target None = blocks
without_target blocks owner target (Some targets) = insert blocks owner (remove targets target)

-- the owner doesn't block the target; all other blocks stay
abbrev pub without_block : ById (ById (Unit {0})) → List ℕ → List ℕ → ById (ById (Unit {0}))
without_block blocks owner target = without_target blocks owner target (get blocks owner)

abbrev pub after_block : Record → List ℕ → List ℕ → Record
after_block pms actor user = record pms { blocks = with_block pms.blocks actor user }

abbrev pub after_unblock : Record → List ℕ → List ℕ → Record
after_unblock pms actor user = record pms { blocks = without_block pms.blocks actor user }

-- ---- challenges

abbrev pub after_challenge : Record → List ℕ → List ℕ → List ℕ → Record
after_challenge pms actor user format = record pms { asked = pms.asked ++ record { by = actor; to = user; format = format } ∷ [] }

-- what the actor made is gone
abbrev pub after_cancel : Record → List ℕ → Record
after_cancel pms actor = record pms { asked = filter (λ challenge. not (is_by actor challenge)) pms.asked }

-- what the user made to the actor is gone
abbrev pub after_answer : Record → List ℕ → List ℕ → Record
after_answer pms actor user = record pms { asked = filter (λ challenge. not (is_of user actor challenge)) pms.asked }

-- what the actor made or got is gone; its blocks stay
abbrev pub after_quit : Record → List ℕ → Record
after_quit pms actor = record pms { asked = filter (λ challenge. not (is_with actor challenge)) pms.asked }

-- the record after the actor's command, where it is applied
abbrev pub after : Record → List ℕ → HallCmd → Record
after pms actor Quit = after_quit pms actor
after pms actor (Challenge user format) = after_challenge pms actor user format
after pms actor CancelChallenge = after_cancel pms actor
after pms actor (Reject user) = after_answer pms actor user
after pms actor (Accept user) = after_answer pms actor user
after pms actor (Block user) = after_block pms actor user
after pms actor (Unblock user) = after_unblock pms actor user
after pms actor other = pms
