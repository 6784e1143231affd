-- The rows of the room table: why each command is refused, in the row's order. Each row is given the sender's member, and
-- the member that the command names.
use Rattle.std.specs.Prelude.{ℕ, Bool, true, false, not, ◌||◌, List, length, Option, Some, None, nat_le, ◌==◌}
use Rattle.std.specs.Str.{bytes_eq}
use Rattle.ps_base.specs.Ids.{id_of}
use Rattle.ps_base.specs.declared.why.Why.{Why}
use Rattle.ps_base.specs.declared.why.Why.TheVariants as why
use Rattle.ps_group.specs.Ranks.{is_below, rank_of}
use Rattle.ps_group.specs.Can.{can, reaches_all}
use Rattle.ps_group.specs.declared.group.Perm.{Perm}
use Rattle.ps_group.specs.declared.group.Perm.TheVariants as perms
use Rattle.ps_chat.specs.Lookups.{room_rank, is_muted, is_banned, is_below_level, is_long_reason}
use Rattle.ps_lines.specs.SentTexts.{is_blank, is_long}
use Rattle.ps_chat.specs.declared.present.Present.{Present}
use Rattle.ps_chat.specs.declared.room.Room.{Room}

-- a reason where the test holds, else what comes next
abbrev pub when : Bool → Why → Option Why → Option Why
when true reason more = Some reason
when false reason more = more

-- the first of two refusals
abbrev pub or_else : Option Why → Option Why → Option Why
or_else (Some reason) more = Some reason
or_else None more = more

-- ---- what several rows ask

-- EmptyText, then TooLong, then what comes next
abbrev pub of_text : List ℕ → Option Why → Option Why
of_text text more = when (is_blank text) why.EmptyText (when (is_long text) why.TooLong more)

-- whether the sender may do this with no target
abbrev pub may : Room → Present → Perm → Bool
may chat me perm = can chat.groups me.rank None false perm

-- whether the sender may do this to the id, which has a rank
abbrev pub may_to : Room → Present → ℕ → List ℕ → Perm → Bool
may_to chat me rank id perm = can chat.groups me.rank (Some rank) (bytes_eq (id_of me.badge.name) id) perm

-- the rank of an id: that of its member, or else its room rank, or else the lowest
abbrev pub rank_of_id : Room → List ℕ → Option Present → ℕ
rank_of_id chat id None = room_rank chat.groups chat.ranks id
rank_of_id chat id (Some target) = target.rank

-- NotMember, then NotAllowed, then EmptyText and TooLong
abbrev pub refusal_of_staff_text : Room → Option Present → Perm → List ℕ → Option Why
refusal_of_staff_text chat None perm text = Some why.NotMember
refusal_of_staff_text chat (Some me) perm text = when (not (may chat me perm)) why.NotAllowed (of_text text None)

-- NoSuchUser, then NotAllowed
abbrev pub refusal_over_target : Room → Present → Option Present → List ℕ → Perm → Option Why
refusal_over_target chat me None id perm = Some why.NoSuchUser
refusal_over_target chat me (Some target) id perm = when (not (may_to chat me target.rank id perm)) why.NotAllowed None

-- NotMember, then NoSuchUser and NotAllowed
abbrev pub refusal_over : Room → Option Present → Option Present → List ℕ → Perm → Option Why
refusal_over chat None target id perm = Some why.NotMember
refusal_over chat (Some me) target id perm = refusal_over_target chat me target id perm

-- NotMember, then NotAllowed by the rank of a member or a stranger
abbrev pub refusal_of_bar : Room → Option Present → Option Present → List ℕ → Option Why
refusal_of_bar chat None target id = Some why.NotMember
refusal_of_bar chat (Some me) target id = when (not (may_to chat me (rank_of_id chat id target) id perms.Ban)) why.NotAllowed None

-- ---- the rows

abbrev pub refusal_of_join : Room → Option Present → List ℕ → Option Why
refusal_of_join chat (Some me) id = Some why.AlreadyMember
refusal_of_join chat None id = when (is_banned chat.bans id) why.Banned (when (nat_le 256 (length chat.members)) why.RoomFull None)

abbrev pub refusal_of_leave : Option Present → Option Why
refusal_of_leave None = Some why.NotMember
refusal_of_leave (Some me) = None

abbrev pub refusal_of_quit : Option Why
refusal_of_quit = None

abbrev pub refusal_of_say : Room → ℕ → Option Present → List ℕ → Option Why
refusal_of_say chat moment None text = Some why.NotMember
refusal_of_say chat moment (Some me) text = of_text text
    (when (is_muted chat.mutes moment (id_of me.badge.name)) why.Muted (when (is_below_level me.rank chat.modchat) why.Modchat None))

abbrev pub refusal_of_announce : Room → Option Present → List ℕ → Option Why
refusal_of_announce chat me text = refusal_of_staff_text chat me perms.Announce text

abbrev pub refusal_of_modnote : Room → Option Present → List ℕ → Option Why
refusal_of_modnote chat me text = refusal_of_staff_text chat me perms.Modnote text

abbrev pub refusal_of_warn : Room → Option Present → Option Present → List ℕ → Option (List ℕ) → Option Why
refusal_of_warn chat me target id reason = or_else (refusal_over chat me target id perms.Warn)
    (when (is_long_reason reason) why.TooLong None)

abbrev pub refusal_of_mute : Room → ℕ → Option Present → Option Present → List ℕ → Option (List ℕ) → Option Why
refusal_of_mute chat moment me target id reason = or_else (refusal_over chat me target id perms.Mute)
    (when (is_long_reason reason) why.TooLong (when (is_muted chat.mutes moment id) why.AlreadyMuted None))

abbrev pub refusal_of_unmute : Room → ℕ → Option Present → Option Present → List ℕ → Option Why
refusal_of_unmute chat moment me target id = or_else (refusal_over chat me target id perms.Mute)
    (when (not (is_muted chat.mutes moment id)) why.NotMuted None)

abbrev pub refusal_of_ban : Room → Option Present → Option Present → List ℕ → Option (List ℕ) → Option Why
refusal_of_ban chat me target id reason = or_else (refusal_of_bar chat me target id)
    (when (is_long_reason reason) why.TooLong (when (is_banned chat.bans id) why.AlreadyBanned None))

abbrev pub refusal_of_unban : Room → Option Present → Option Present → List ℕ → Option Why
refusal_of_unban chat me target id = or_else (refusal_of_bar chat me target id) (when (not (is_banned chat.bans id)) why.NotBanned None)

-- a new rank that isn't below the sender's own, where its permission doesn't reach everybody
abbrev pub is_too_high : Room → Present → ℕ → Bool
is_too_high chat me new = not (is_below new me.rank || reaches_all chat.groups me.rank perms.Promote)

abbrev pub refusal_to_rank : Room → Present → Present → List ℕ → Option ℕ → Option Why
refusal_to_rank chat me target id None = Some why.NoSuchGroup
refusal_to_rank chat me target id (Some new) = when (not (may_to chat me target.rank id perms.Promote)) why.NotAllowed
    (when (is_too_high chat me new) why.NotAllowed (when (target.rank == new) why.SameRank None))

abbrev pub refusal_of_promoted : Room → Present → Option Present → List ℕ → Option ℕ → Option Why
refusal_of_promoted chat me None id new = Some why.NoSuchUser
refusal_of_promoted chat me (Some target) id new = refusal_to_rank chat me target id new

abbrev pub refusal_of_promote : Room → Option Present → Option Present → List ℕ → ℕ → Option Why
refusal_of_promote chat None target id symbol = Some why.NotMember
refusal_of_promote chat (Some me) target id symbol = refusal_of_promoted chat me target id (rank_of symbol chat.groups)

abbrev pub is_same_level : Option ℕ → Option ℕ → Bool
is_same_level None None = true
is_same_level None (Some new) = false
is_same_level (Some old) None = false
is_same_level (Some old) (Some new) = old == new

abbrev pub refusal_to_level : Room → Present → Option ℕ → Option Why
refusal_to_level chat me level = when (not (may chat me perms.Modchat)) why.NotAllowed
    (when (is_same_level chat.modchat level) why.SameRank None)

abbrev pub refusal_to_group : Room → Present → Option ℕ → Option Why
refusal_to_group chat me None = Some why.NoSuchGroup
refusal_to_group chat me (Some rank) = refusal_to_level chat me (Some rank)

-- by the symbol, or with none for `off`
abbrev pub refusal_of_level : Room → Present → Option ℕ → Option Why
refusal_of_level chat me None = refusal_to_level chat me None
refusal_of_level chat me (Some symbol) = refusal_to_group chat me (rank_of symbol chat.groups)

abbrev pub refusal_of_modchat : Room → Option Present → Option ℕ → Option Why
refusal_of_modchat chat None symbol = Some why.NotMember
refusal_of_modchat chat (Some me) symbol = refusal_of_level chat me symbol

-- Choose, Undo and Forfeit: in a battle's room the rest is for the battle to say
abbrev pub refusal_of_battle : Room → Option Present → Option Why
refusal_of_battle chat None = Some why.NotMember
refusal_of_battle chat (Some me) = when (not chat.battle) why.NotBattle None
