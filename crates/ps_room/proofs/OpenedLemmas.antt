-- A room at its opening, by the parts that its code makes.
use Rattle.std.proofs.Common.{◌≡◌, List, [], Option, ap, ◌∙◌}
use Rattle.std.specs.Prelude.{is_some, option_map}
use Rattle.std.specs.Arc.{arc_value}
use Rattle.rules_config.specs.declared.settings.Settings.{Settings}
use Rattle.ps_chat.specs.Records.{Opening as ChatOpening}
use Rattle.ps_chat.specs.Steps.{Seen as ChatSeen, opened as chat_opened}
use Rattle.battle_rounds.specs.Fights.{Fight}
use Rattle.ps_splitlog.specs.declared.entry.LogEntry.{LogEntry}
use Rattle.ps_room.specs.declared.opening.Parts.{Parts}
use Rattle.ps_room.specs.Openings.{Opening, of_parts, fight_with}
use Rattle.ps_room.specs.Logs.{unlogged, opened_log, seen_opened}
use Rattle.ps_room.proofs.ChangeLemmas.{room_with}

-- the parts of a room whose chat is opened with these, and its battle under this configuration
pub opened_so : (p : Parts) (o : Opening) (chat : ChatSeen) (battle : Option Fight) (config : Settings) (start : ChatOpening) → of_parts p ≡ o
    → chat ≡ chat_opened start
    → start.title ≡ p.title → start.battle ≡ is_some p.battle → start.groups ≡ (arc_value p.config).groups → start.staff ≡ (arc_value p.config).staff
    → battle ≡ option_map (fight_with config (arc_value p.dex)) p.battle → config ≡ arc_value p.config
    → room_with p.no p.id chat battle [] ≡ unlogged (seen_opened o)
opened_so p o chat battle config start parts is title of_battle groups staff fight same =
    ap (λ (c : ChatSeen). room_with p.no p.id c battle []) is
    ∙ ap (λ (x : Option Fight). room_with p.no p.id (chat_opened start) x []) (fight ∙ ap (λ (s : Settings). option_map (fight_with s (arc_value p.dex)) p.battle) same)
    ∙ ap (λ (x : ChatOpening). room_with p.no p.id (chat_opened x) (option_map (fight_with (arc_value p.config) (arc_value p.dex)) p.battle) []) (
    ap (λ x. record start { title = x }) title
    ∙ ap (λ x. record start { title = p.title; battle = x }) of_battle
    ∙ ap (λ x. record start { title = p.title; battle = is_some p.battle; groups = x }) groups
    ∙ ap (λ x. record { title = p.title; battle = is_some p.battle; groups = (arc_value p.config).groups; staff = x }) staff)
    ∙ ap (λ (x : Opening). unlogged (seen_opened x)) parts

-- what its log begins with
pub first_so : (p : Parts) (o : Opening) (first : List LogEntry) (config : Settings) → of_parts p ≡ o → first ≡ opened_log config (arc_value p.dex) p.battle → config ≡ arc_value p.config → first ≡ opened_log o.config o.dex o.battle
first_so p o first config parts is same =
    is
    ∙ ap (λ (s : Settings). opened_log s (arc_value p.dex) p.battle) same
    ∙ ap (λ (x : Opening). opened_log x.config x.dex x.battle) parts
