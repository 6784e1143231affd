-- The names of the rules for a team.
use Rattle.std.specs.Prelude.{ℕ, List, codes}
use Rattle.ps_base.specs.declared.team_rule.TeamRule.{TeamRule}
use Rattle.ps_base.specs.declared.team_rule.TeamRule.TheVariants as rules

abbrev pub team_rule_name : TeamRule → List ℕ
team_rule_name rules.TooFew = codes "TooFew"
team_rule_name rules.TooMany = codes "TooMany"
team_rule_name rules.UnknownSpecies = codes "UnknownSpecies"
team_rule_name rules.BannedSpecies = codes "BannedSpecies"
team_rule_name rules.LevelTooLow = codes "LevelTooLow"
team_rule_name rules.LevelTooHigh = codes "LevelTooHigh"
team_rule_name rules.NoMoves = codes "NoMoves"
team_rule_name rules.UnknownMove = codes "UnknownMove"
team_rule_name rules.BannedMove = codes "BannedMove"
team_rule_name rules.NotLearned = codes "NotLearned"
team_rule_name rules.RepeatedMove = codes "RepeatedMove"
team_rule_name rules.OhkoClause = codes "OhkoClause"
team_rule_name rules.EvasionClause = codes "EvasionClause"
team_rule_name rules.EvTooHigh = codes "EvTooHigh"
team_rule_name rules.SpeciesClause = codes "SpeciesClause"
team_rule_name rules.NicknameClause = codes "NicknameClause"
