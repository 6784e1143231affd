-- Who plays a tournament: the format and the team of its battles.
use Rattle.std.specs.Prelude.{◌≡◌, ◌⊎◌, ℕ, Bool, true, false, List, [], ◌∷◌, Option, Some, None}
use Rattle.ps_dex.specs.declared.item.Tables.{Tables}
use Rattle.ps_rules.specs.declared.table.RuleTable.{RuleTable}
use Rattle.ps_rules.specs.declared.table.Format.{Format}
use Rattle.rules_config.specs.declared.settings.Settings.{Settings}
use Rattle.replay_drill.specs.declared.fight.Fight.{Fight}
use Rattle.replay_drill.specs.Fights.{fight_of}
use Rattle.program_commands.specs.declared.status.Status.{Status}
use Rattle.program_commands.specs.declared.status.Status.TheVariants.{NoMemory, NoTour}
use Rattle.program_commands.specs.Checks.{IsLegal}

-- the rules of the first format
abbrev pub first_rules : List Format → Option RuleTable
first_rules [] = None
first_rules (format ∷ formats) = Some format.table

-- there is a species and a format, and this is the drill's team, which is legal in the first format
pub record HasField (config : Settings) (dex : Tables) (fight : Fight) : Type 0 where
  pub fight_is : fight_of config dex ≡ Some fight
  pub rules : RuleTable
  pub rules_are : first_rules config.formats.formats ≡ Some rules
  pub legal : IsLegal dex rules fight.team

abbrev pub HasNoField : Settings → Tables → Type 0
HasNoField config dex = (fight : Fight) → HasField config dex fight → ⊥

-- ---- for the code alone

-- whether the packed team of a text keeps the rules
abbrev pub AreKept : Tables → RuleTable → List ℕ → Bool → Type 0
AreKept dex rules text true = IsLegal dex rules text
AreKept dex rules text false = IsLegal dex rules text → ⊥

-- why there is none
abbrev pub LacksField : Settings → Tables → Status → Type 0
LacksField config dex status = (status ≡ NoMemory) ⊎ ((status ≡ NoTour) × HasNoField config dex)
