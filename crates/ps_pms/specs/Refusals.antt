-- The rows of the hall table that speak of blocks and challenges: why each command is refused, in the row's order.
use Rattle.std.specs.Prelude.{ℕ, Bool, true, false, not, List, is_some, Option, Some, None}
use Rattle.std.specs.Str.{bytes_eq}
use Rattle.ps_base.specs.declared.hall_why.HallWhy.{HallWhy}
use Rattle.ps_base.specs.declared.hall_why.HallWhy.TheVariants as why
use Rattle.ps_lines.specs.declared.command.HallCmd.{HallCmd}
use Rattle.ps_lines.specs.declared.command.HallCmd.TheVariants.{Challenge, CancelChallenge, Reject, Accept, Whisper, Block, Unblock}
use Rattle.ps_pms.specs.Records.{Record}
use Rattle.ps_pms.specs.Lookups.{blocks, asked_by, asked_of}

-- a reason where the test holds, else what comes next
abbrev pub when : Bool → HallWhy → Option HallWhy → Option HallWhy
when true reason more = Some reason
when false reason more = more

-- Blocked, then AlreadyChallenged
abbrev pub refusal_of_asking : Record → List ℕ → List ℕ → Option HallWhy
refusal_of_asking pms actor user = when (blocks pms user actor) why.Blocked (when (is_some (asked_by pms actor)) why.AlreadyChallenged None)

-- SelfTarget, then Blocked and AlreadyChallenged
abbrev pub refusal_of_challenge : Record → List ℕ → List ℕ → Option HallWhy
refusal_of_challenge pms actor user = when (bytes_eq user actor) why.SelfTarget (refusal_of_asking pms actor user)

-- the actor has no open challenge
abbrev pub refusal_of_cancel : Record → List ℕ → Option HallWhy
refusal_of_cancel pms actor = when (not (is_some (asked_by pms actor))) why.NoChallenge None

-- the user has no open challenge to the actor
abbrev pub refusal_of_answer : Record → List ℕ → List ℕ → Option HallWhy
refusal_of_answer pms actor user = when (not (is_some (asked_of pms user actor))) why.NoChallenge None

-- the user blocks the actor
abbrev pub refusal_of_whisper : Record → List ℕ → List ℕ → Option HallWhy
refusal_of_whisper pms actor user = when (blocks pms user actor) why.Blocked None

-- SelfTarget, then AlreadyBlocked
abbrev pub refusal_of_block : Record → List ℕ → List ℕ → Option HallWhy
refusal_of_block pms actor user = when (bytes_eq user actor) why.SelfTarget (when (blocks pms actor user) why.AlreadyBlocked None)

-- the actor doesn't block the user
abbrev pub refusal_of_unblock : Record → List ℕ → List ℕ → Option HallWhy
refusal_of_unblock pms actor user = when (not (blocks pms actor user)) why.NotBlocked None

-- Why the actor's command is refused, as far as blocks and challenges can tell; None where they refuse nothing.
abbrev pub refusal : Record → List ℕ → HallCmd → Option HallWhy
refusal pms actor (Challenge user format) = refusal_of_challenge pms actor user
refusal pms actor CancelChallenge = refusal_of_cancel pms actor
refusal pms actor (Reject user) = refusal_of_answer pms actor user
refusal pms actor (Accept user) = refusal_of_answer pms actor user
refusal pms actor (Whisper user text) = refusal_of_whisper pms actor user
refusal pms actor (Block user) = refusal_of_block pms actor user
refusal pms actor (Unblock user) = refusal_of_unblock pms actor user
refusal pms actor other = None
