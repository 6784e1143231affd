-- The notes of a script: what staff did to users, and the rated battles that were won.
use Rattle.std.specs.Prelude.{ℕ, ◌==◌, Bool, true, false, List, [], ◌∷◌, ◌++◌, Option, Some, None, option_to_list, if◌then◌else◌}
use Rattle.ps_base.specs.Ids.{id_of}
use Rattle.ps_lines.specs.declared.command.Command.{Command}
use Rattle.ps_lines.specs.declared.command.Command.TheVariants as commands
use Rattle.ps_lines.specs.declared.command.HallCmd.{HallCmd}
use Rattle.ps_lines.specs.declared.command.HallCmd.TheVariants as hall_commands
use Rattle.ps_hall.specs.declared.game.Game.{Game}
use Rattle.ps_hall.specs.Records.{Record as HallRecord}
use Rattle.ps_hall.specs.Lookups.{game_in, player_id}
use Rattle.ps_room.specs.declared.entry.Entry.{Entry as RoomEntry}
use Rattle.ps_keep.specs.declared.note.Note.{Note}
use Rattle.ps_keep.specs.declared.note.Note.TheVariants.{Won, Act}
use Rattle.ps_keep.specs.declared.note.ActKind.{ActKind}
use Rattle.ps_keep.specs.declared.note.ActKind.TheVariants as kinds
use Rattle.replay_script.specs.declared.item.Item.{Item}
use Rattle.replay_state.specs.declared.place.Placed.{Placed}
use Rattle.replay_state.specs.declared.place.Placed.TheVariants.{Hall, Room}
use Rattle.replay_state.specs.Setup.{Setup}
use Rattle.replay_state.specs.Worlds.{World, world_opening, world_after}
use Rattle.replay_state.specs.Nows.{Standing, Now, now_of, room_at}
use Rattle.replay_state.specs.Entries.{entries}
use Rattle.replay_state.specs.Counts.{is_refused}

-- ---- acts of staff

-- in the room with this id, the sender of an entry does this to a user; a promotion has its new group's symbol
abbrev pub act : List ℕ → RoomEntry → ActKind → List ℕ → Option ℕ → Option Note
act room entry kind user rank = Some (Act room (id_of entry.badge.name) kind user rank entry.moment)

abbrev pub act_by : List ℕ → RoomEntry → Command → Option Note
act_by room entry (commands.Warn user reason) = act room entry kinds.Warn user None
act_by room entry (commands.Mute user reason) = act room entry kinds.Mute user None
act_by room entry (commands.Unmute user) = act room entry kinds.Unmute user None
act_by room entry (commands.Ban user reason) = act room entry kinds.Ban user None
act_by room entry (commands.Unban user) = act room entry kinds.Unban user None
act_by room entry (commands.Promote user symbol) = act room entry kinds.Promote user (Some symbol)
act_by room entry other = None

-- the act of an entry of a room, if it is one
abbrev pub act_in : Option Standing → RoomEntry → Option Note
act_in None entry = None
act_in (Some room) entry = act_by room.id entry entry.cmd

-- ---- battles that were won

abbrev pub won : Game → ℕ → ℕ → Option Note
won game winner loser = Some (Won game.format (player_id game winner) (player_id game loser))

-- player 1, which is side 0, or player 2 won this battle
abbrev pub won_by_side : Game → ℕ → Option Note
won_by_side game side = if side == 0 then won game 0 1 else (if side == 1 then won game 1 0 else None)

-- a battle that counts for ratings; nobody won a tie
abbrev pub won_rated : Bool → Game → Option ℕ → Option Note
won_rated true game (Some side) = won_by_side game side
won_rated true game None = None
won_rated false game winner = None

abbrev pub won_in : Option Game → Option ℕ → Option Note
won_in None winner = None
won_in (Some game) winner = won_rated game.rated game winner

-- the battle whose end an entry of the hall reports, as the hall is before it
abbrev pub won_by : HallRecord → HallCmd → Option Note
won_by hall (hall_commands.Report number winner) = won_in (game_in hall number) winner
won_by hall other = None

-- ---- the notes of entries

-- what is refused isn't noted
abbrev pub unless : Bool → Option Note → Option Note
unless true does = None
unless false does = does

-- what an entry does, if it is applied
abbrev pub done_by : Now → Placed → Option Note
done_by now (Hall entry) = won_by now.hall entry.cmd
done_by now (Room number entry) = act_in (room_at number now) entry

-- the note of an entry, as the hall and the rooms are before it
abbrev pub note_of : Now → Placed → Option Note
note_of now placed = unless (is_refused now placed) (done_by now placed)

-- the notes of these entries, each by what those before it leave
abbrev pub notes_from : World → List Placed → List Note
notes_from world [] = []
notes_from world (placed ∷ placeds) = option_to_list (note_of (now_of world) placed) ++ notes_from (world_after world placed) placeds

-- all notes of a script, in order
abbrev pub notes : Setup → List Item → List Note
notes setup items = notes_from (world_opening setup) (entries setup items)
