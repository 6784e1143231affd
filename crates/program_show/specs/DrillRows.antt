-- What is told of the battle of a drill.
use Rattle.std.specs.Prelude.{◌≡◌, ℕ, List, [], ◌∷◌, ◌++◌, codes, decimal, Option, Some, None}
use Rattle.ps_base.specs.declared.pack_kind.PackKind.{PackKind}
use Rattle.ps_base.specs.TeamRules.{team_rule_name}
use Rattle.ps_base.specs.PackKinds.{pack_kind_name}
use Rattle.ps_dex.specs.declared.item.Tables.{Tables}
use Rattle.ps_rules.specs.declared.table.RuleTable.{RuleTable}
use Rattle.ps_valid.specs.declared.verdict.Verdict.{Verdict}
use Rattle.rules_config.specs.declared.settings.Settings.{Settings}
use Rattle.replay_drill.specs.declared.fight.Fight.{Fight}
use Rattle.replay_drill.specs.Fights.{fight_of}
use Rattle.program_commands.specs.Checks.{IsLegal, IsBroken, IsUnpacked}
use Rattle.program_commands.specs.Fields.{first_rules}
use Rattle.file_help.specs.declared.page.Row.{Row}
use Rattle.program_show.specs.declared.drill_rows.Trial.{Trial}
use Rattle.program_show.specs.declared.drill_rows.Trial.TheVariants.{Legal, Broken, Unpacked}

-- what the check of a packed text finds
abbrev pub IsTrial : Tables → RuleTable → List ℕ → Trial → Type 0
IsTrial dex rules text Legal = IsLegal dex rules text
IsTrial dex rules text (Broken verdict) = IsBroken dex rules text verdict.set verdict.rule verdict.subject
IsTrial dex rules text (Unpacked at kind) = IsUnpacked text at kind

-- as `check` tells it
unfoldable pub broken_text : Verdict → List ℕ
broken_text verdict = codes "BadTeam set=" ++ decimal verdict.set ++ codes " rule=" ++ team_rule_name verdict.rule
    ++ codes " subject=" ++ verdict.subject

unfoldable pub unpacked_text : ℕ → PackKind → List ℕ
unpacked_text at kind = codes "BadPack at=" ++ decimal at ++ codes " kind=" ++ pack_kind_name kind

abbrev pub trial_text : Trial → List ℕ
trial_text Legal = codes "legal"
trial_text (Broken verdict) = broken_text verdict
trial_text (Unpacked at kind) = unpacked_text at kind

-- the format, the team of both sides, and what its check finds
unfoldable pub fight_rows : Fight → Trial → List Row
fight_rows fight trial =
    record { key = codes "format"; value = fight.format }
    ∷ record { key = codes "team"; value = fight.team }
    ∷ record { key = codes "check"; value = trial_text trial }
    ∷ []

unfoldable pub no_fight_rows : List Row
no_fight_rows = record { key = codes "battle"; value = codes "none, without a format and a species" } ∷ []

-- these rows are told of the first format and of the battle of a drill
abbrev pub IsDrillIn : Tables → Option RuleTable → Option Fight → List Row → Type 0
IsDrillIn dex None fight rows = rows ≡ no_fight_rows
IsDrillIn dex (Some rules) None rows = rows ≡ no_fight_rows
IsDrillIn dex (Some rules) (Some fight) rows = (trial : Trial) × IsTrial dex rules fight.team trial × (rows ≡ fight_rows fight trial)

abbrev pub IsDrill : Tables → Settings → List Row → Type 0
IsDrill dex settings rows = IsDrillIn dex (first_rules settings.formats.formats) (fight_of settings dex) rows
