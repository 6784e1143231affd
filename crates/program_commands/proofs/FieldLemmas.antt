-- Who plays a tournament, or why nobody does.
use Rattle.std.proofs.Common.{◌≡◌, ℕ, List, Option, Some, None, Ok, Err, sym, ◌∙◌, subst}
use Rattle.std.specs.Str.{IsUtf8, chars}
use Rattle.std.proofs.lemmas.Option.{none-some, same_Some}
use Rattle.ps_base.specs.declared.pack_kind.PackKind.{PackKind}
use Rattle.ps_packed.specs.declared.set.Set.{Set}
use Rattle.ps_packed.specs.Packed.{IsTeam}
use Rattle.ps_dex.specs.declared.item.Tables.{Tables}
use Rattle.ps_rules.specs.declared.table.RuleTable.{RuleTable}
use Rattle.rules_config.specs.declared.settings.Settings.{Settings}
use Rattle.ps_valid.specs.declared.legal.Legal.{Legal}
use Rattle.ps_valid.specs.declared.verdict.Verdict.{Verdict}
use Rattle.ps_valid.specs.TeamRows.{legal_in}
use Rattle.replay_drill.specs.declared.fight.Fight.{Fight}
use Rattle.replay_drill.specs.Fights.{fight_of}
use Rattle.program_commands.specs.Checks.{IsLegal, IsUnpacked}
use Rattle.program_commands.specs.Fields.{first_rules, HasField, HasNoField}
use Rattle.program_commands.proofs.CheckLemmas.{not_broken, not_unpacked}

-- ---- whether a text's team is legal

pub unpacked_breaks : (dex : Tables) (rules : RuleTable) (text : List ℕ) (at : ℕ) (kind : PackKind) → IsUnpacked text at kind → IsLegal dex rules text → ⊥
unpacked_breaks dex rules text at kind unpacked legal = not_unpacked dex rules text at kind legal unpacked

pub broken_breaks : (dex : Tables) (rules : RuleTable) (text : List ℕ) (team : List Set) (verdict : Verdict) → IsUtf8 text × IsTeam (chars text) team → legal_in dex rules team ≡ Err verdict → IsLegal dex rules text → ⊥
broken_breaks dex rules text team verdict packed breaks legal = not_broken dex rules text verdict.set verdict.rule verdict.subject legal (record { utf8 = packed.0; team = team; packed = packed.1; breaks = breaks })

pub keeps_rules : (dex : Tables) (rules : RuleTable) (text : List ℕ) (team : List Set) (legal : Legal) → IsUtf8 text × IsTeam (chars text) team → legal_in dex rules team ≡ Ok legal → IsLegal dex rules text
keeps_rules dex rules text team legal packed keeps = record { utf8 = packed.0; team = team; packed = packed.1; legal = legal; keeps = keeps }

-- ---- the field

pub has_field : (config : Settings) (dex : Tables) (fight : Fight) (rules : RuleTable) → fight_of config dex ≡ Some fight → first_rules config.formats.formats ≡ Some rules → IsLegal dex rules fight.team → HasField config dex fight
has_field config dex fight rules is are legal = record { fight_is = is; rules = rules; rules_are = are; legal = legal }

pub lacks_fight : (config : Settings) (dex : Tables) → fight_of config dex ≡ None → HasNoField config dex
lacks_fight config dex none fight has = absurd (none-some fight (sym none ∙ has.fight_is))

pub lacks_rules : (config : Settings) (dex : Tables) → first_rules config.formats.formats ≡ None → HasNoField config dex
lacks_rules config dex none fight has = absurd (none-some has.rules (sym none ∙ has.rules_are))

pub lacks_legal : (config : Settings) (dex : Tables) (fight : Fight) (rules : RuleTable) → fight_of config dex ≡ Some fight → first_rules config.formats.formats ≡ Some rules → (IsLegal dex rules fight.team → ⊥) → HasNoField config dex
lacks_legal config dex fight rules is are illegal other has =
    let same : other ≡ fight = same_Some other fight (sym has.fight_is ∙ is) in
    let ruled : has.rules ≡ rules = same_Some has.rules rules (sym has.rules_are ∙ are) in
    illegal (subst (λ (f : Fight). IsLegal dex rules f.team) same (subst (λ (t : RuleTable). IsLegal dex t other.team) ruled has.legal))
