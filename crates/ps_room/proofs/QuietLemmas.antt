-- What the battle makes of commands that aren't its own: nothing.
use Rattle.std.proofs.Common.{◌≡◌, ℕ, true, false, List, [], ◌++◌, Option, Some, None, refl, ap, ◌∙◌}
use Rattle.std.proofs.lemmas.List.{append-nil}
use Rattle.ps_lines.specs.declared.command.Command.{Command}
use Rattle.ps_lines.specs.declared.command.Command.TheVariants.{Join, Leave, Quit, Say, Announce, Modnote, Warn, Mute, Unmute, Ban, Unban, Promote, Modchat, Choose, Undo, Forfeit}
use Rattle.ps_chat.specs.Lines.{Line}
use Rattle.ps_chat.specs.declared.present.Present.{Present}
use Rattle.ps_dex.specs.declared.item.Tables.{Tables}
use Rattle.ps_view.specs.declared.role.Role.{Role}
use Rattle.battle_rounds.specs.declared.bout.Bout.{Bout}
use Rattle.battle_rounds.specs.Casts.{Cast}
use Rattle.battle_rounds.specs.Rounds.{Outcome}
use Rattle.battle_rounds.specs.Fights.{Fight, is_of_battle, still, outcome_in, outcome_of_side, requests}
use Rattle.ps_room.specs.Roles.{side_of_member}
use Rattle.ps_room.specs.Rooms.{shown_events, battle_after, lines_by, events_by}

side_still : (dex : Tables) (b : Bout) (s : ℕ) (cmd : Command) → is_of_battle cmd ≡ false → outcome_of_side dex b s cmd ≡ still b
side_still dex b s (Join room) e = refl
side_still dex b s Leave e = refl
side_still dex b s Quit e = refl
side_still dex b s (Say text) e = refl
side_still dex b s (Announce text) e = refl
side_still dex b s (Modnote text) e = refl
side_still dex b s (Warn id reason) e = refl
side_still dex b s (Mute id reason) e = refl
side_still dex b s (Unmute id) e = refl
side_still dex b s (Ban id reason) e = refl
side_still dex b s (Unban id) e = refl
side_still dex b s (Promote id symbol) e = refl
side_still dex b s (Modchat symbol) e = refl
side_still dex b s (Choose choice rqid) e = absurd (let wrong : true ≡ false = e in cc)
side_still dex b s Undo e = absurd (let wrong : true ≡ false = e in cc)
side_still dex b s Forfeit e = absurd (let wrong : true ≡ false = e in cc)

outcome_still : (dex : Tables) (b : Bout) (side : Option ℕ) (cmd : Command) → is_of_battle cmd ≡ false → outcome_in dex b side cmd ≡ still b
outcome_still dex b None cmd e = refl
outcome_still dex b (Some s) cmd e = side_still dex b s cmd e

pub quiet_events : (battle : Option Fight) (me : Option Present) (cmd : Command) → is_of_battle cmd ≡ false → events_by battle me cmd ≡ []
quiet_events None me cmd e = refl
quiet_events (Some f) me cmd e = ap (λ (o : Outcome). o.told) (outcome_still f.cast.dex f.bout (side_of_member f.cast me) cmd e)

pub quiet_lines : (battle : Option Fight) (me : Option Present) (cmd : Command) (ls : List Line) → is_of_battle cmd ≡ false → lines_by battle me cmd ls ≡ ls
quiet_lines None me cmd ls e = refl
quiet_lines (Some f) me cmd ls e = ap (λ (o : Outcome). ls ++ requests f.cast o.bout o.told) (outcome_still f.cast.dex f.bout (side_of_member f.cast me) cmd e) ∙ append-nil ls

pub quiet_battle : (battle : Option Fight) (me : Option Present) (cmd : Command) → is_of_battle cmd ≡ false → battle_after battle me cmd ≡ battle
quiet_battle None me cmd e = refl
quiet_battle (Some f) me cmd e = ap (λ (o : Outcome). Some (record f { bout = o.bout })) (outcome_still f.cast.dex f.bout (side_of_member f.cast me) cmd e)

pub shown_nothing : (cast : Option Cast) (role : Role) → shown_events cast role [] ≡ []
shown_nothing None role = refl
shown_nothing (Some c) role = refl
