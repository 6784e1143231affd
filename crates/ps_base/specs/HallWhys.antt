-- Why the hall refuses an entry, and what its sender is told.
use Rattle.std.specs.Prelude.{ℕ, List, [], ◌++◌, codes}
use Rattle.std.specs.Fmt.{decimal}
use Rattle.ps_base.specs.PackKinds.{pack_kind_name}
use Rattle.ps_base.specs.TeamRules.{team_rule_name}
use Rattle.ps_base.specs.declared.pack_kind.PackKind.{PackKind}
use Rattle.ps_base.specs.declared.team_rule.TeamRule.{TeamRule}
use Rattle.ps_base.specs.declared.hall_why.HallWhy.{HallWhy}
use Rattle.ps_base.specs.declared.hall_why.HallWhy.TheVariants as why

-- the name of a reason
abbrev pub hall_why_name : HallWhy → List ℕ
hall_why_name why.AlreadyNamed = codes "AlreadyNamed"
hall_why_name why.BadName = codes "BadName"
hall_why_name why.BadAssertion = codes "BadAssertion"
hall_why_name why.NameTaken = codes "NameTaken"
hall_why_name (why.BadPack at kind) = codes "BadPack"
hall_why_name why.UnknownFormat = codes "UnknownFormat"
hall_why_name why.NotRated = codes "NotRated"
hall_why_name why.NoTeam = codes "NoTeam"
hall_why_name (why.BadTeam set rule subject) = codes "BadTeam"
hall_why_name why.AlreadySearching = codes "AlreadySearching"
hall_why_name why.BattlesFull = codes "BattlesFull"
hall_why_name why.NotSearching = codes "NotSearching"
hall_why_name why.NoSuchUser = codes "NoSuchUser"
hall_why_name why.SelfTarget = codes "SelfTarget"
hall_why_name why.Blocked = codes "Blocked"
hall_why_name why.AlreadyChallenged = codes "AlreadyChallenged"
hall_why_name why.NoChallenge = codes "NoChallenge"
hall_why_name why.EmptyText = codes "EmptyText"
hall_why_name why.TooLong = codes "TooLong"
hall_why_name why.AlreadyBlocked = codes "AlreadyBlocked"
hall_why_name why.NotBlocked = codes "NotBlocked"
hall_why_name why.NoBattle = codes "NoBattle"
hall_why_name why.NoBar = codes "NoBar"
hall_why_name why.UnknownCommand = codes "UnknownCommand"
hall_why_name why.BadArgs = codes "BadArgs"
hall_why_name why.NotNamed = codes "NotNamed"
hall_why_name why.RoomLimit = codes "RoomLimit"
hall_why_name why.NoSuchRoom = codes "NoSuchRoom"

-- the offset and kind of a fault in a packed team
abbrev pub pack_end : ℕ → PackKind → List ℕ
pack_end at kind = codes " " ++ decimal at ++ codes " " ++ pack_kind_name kind

-- set, rule and subject of a team that isn't legal
abbrev pub team_end : ℕ → TeamRule → List ℕ → List ℕ
team_end set rule subject = codes " " ++ decimal set ++ codes " " ++ team_rule_name rule ++ codes " " ++ subject

-- what stands behind the name of the reason
abbrev pub popup_end : HallWhy → List ℕ
popup_end (why.BadPack at kind) = pack_end at kind
popup_end (why.BadTeam set rule subject) = team_end set rule subject
popup_end reason = []

-- what the sender of a refused entry is told
abbrev pub popup_line : HallWhy → List ℕ
popup_line reason = codes "|popup|[" ++ hall_why_name reason ++ codes "]" ++ popup_end reason

-- what who asks for a name that is taken is told
abbrev pub nametaken_line : List ℕ → List ℕ
nametaken_line name = codes "|nametaken|" ++ name ++ codes "|[NameTaken]"
