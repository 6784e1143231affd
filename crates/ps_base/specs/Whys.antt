-- Why a room refuses an entry, and what its sender is told.
use Rattle.std.specs.Prelude.{ℕ, Bool, true, false, List, ◌++◌, codes}
use Rattle.ps_base.specs.declared.why.Why.{Why}
use Rattle.ps_base.specs.declared.why.Why.TheVariants as why

-- the name of a reason
abbrev pub why_name : Why → List ℕ
why_name why.AlreadyMember = codes "AlreadyMember"
why_name why.Banned = codes "Banned"
why_name why.RoomFull = codes "RoomFull"
why_name why.NotMember = codes "NotMember"
why_name why.EmptyText = codes "EmptyText"
why_name why.TooLong = codes "TooLong"
why_name why.Muted = codes "Muted"
why_name why.Modchat = codes "Modchat"
why_name why.NotAllowed = codes "NotAllowed"
why_name why.NoSuchUser = codes "NoSuchUser"
why_name why.AlreadyMuted = codes "AlreadyMuted"
why_name why.NotMuted = codes "NotMuted"
why_name why.AlreadyBanned = codes "AlreadyBanned"
why_name why.NotBanned = codes "NotBanned"
why_name why.NoSuchGroup = codes "NoSuchGroup"
why_name why.SameRank = codes "SameRank"
why_name why.NotBattle = codes "NotBattle"
why_name why.NotPlayer = codes "NotPlayer"
why_name why.AlreadyChosen = codes "AlreadyChosen"
why_name why.StaleRequest = codes "StaleRequest"
why_name why.BadChoice = codes "BadChoice"
why_name why.NothingChosen = codes "NothingChosen"
why_name why.NotYourTurn = codes "NotYourTurn"
why_name why.WrongPhase = codes "WrongPhase"
why_name why.Locked = codes "Locked"
why_name why.NoSuchMove = codes "NoSuchMove"
why_name why.NoPp = codes "NoPp"
why_name why.Disabled = codes "Disabled"
why_name why.NoSuchMember = codes "NoSuchMember"
why_name why.AlreadyOut = codes "AlreadyOut"
why_name why.Fainted = codes "Fainted"

-- whether a reason speaks of a choice
abbrev pub is_of_choice : Why → Bool
is_of_choice why.NotYourTurn = true
is_of_choice why.WrongPhase = true
is_of_choice why.Locked = true
is_of_choice why.NoSuchMove = true
is_of_choice why.NoPp = true
is_of_choice why.Disabled = true
is_of_choice why.NoSuchMember = true
is_of_choice why.AlreadyOut = true
is_of_choice why.Fainted = true
is_of_choice reason = false

-- how a line that refuses begins
abbrev pub error_front : Bool → List ℕ
error_front true = codes "|error|[Invalid choice] "
error_front false = codes "|error|["

abbrev pub error_end : Bool → List ℕ
error_end true = codes ""
error_end false = codes "]"

-- what the sender of a refused entry is told
abbrev pub error_line : Why → List ℕ
error_line reason = error_front (is_of_choice reason) ++ (why_name reason ++ error_end (is_of_choice reason))
