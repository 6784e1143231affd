-- The rows of the room table: the lines of each command that is applied. Each row is given the sender's member, and the
-- member that the command names; who isn't there has no line.
use Rattle.std.specs.Prelude.{ℕ, true, false, List, [], ◌∷◌, codes, Option, Some, None}
use Rattle.ps_event.specs.declared.audience.Audience.TheVariants.{All, Rank}
use Rattle.ps_event.specs.declared.line.ChatLine.{ChatLine}
use Rattle.ps_group.specs.ShownNames.{shown_name}
use Rattle.ps_chat.specs.Texts.{moved, said, noted, done_to, done_because, promoted, level}
use Rattle.ps_chat.specs.declared.present.Present.{Present}
use Rattle.ps_chat.specs.declared.room.Room.{Room}

abbrev pub Line : Type 0
Line = ChatLine (List ℕ)

-- to all members, and logged
abbrev pub logged : List ℕ → List Line
logged text = record { audience = All; logged = true; text = text } ∷ []

-- to all members, and not logged
abbrev pub passing : List ℕ → List Line
passing text = record { audience = All; logged = false; text = text } ∷ []

-- to staff alone, and not logged
abbrev pub to_staff : ℕ → List ℕ → List Line
to_staff staff text = record { audience = Rank staff; logged = false; text = text } ∷ []

-- the symbol and the name of a member
abbrev pub shown_name_of : Room → Present → List ℕ
shown_name_of chat present = shown_name chat.groups present.rank present.badge.name

-- ---- the rows

abbrev pub line_of_join : Room → Present → List Line
line_of_join chat joiner = passing (moved (codes "|j|") (shown_name_of chat joiner))

abbrev pub line_of_leave : Room → Option Present → List Line
line_of_leave chat None = []
line_of_leave chat (Some me) = passing (moved (codes "|l|") (shown_name_of chat me))

abbrev pub line_of_quit : Room → Option Present → List Line
line_of_quit chat me = line_of_leave chat me

abbrev pub line_of_say : Room → ℕ → Option Present → List ℕ → List Line
line_of_say chat moment None text = []
line_of_say chat moment (Some me) text = logged (said moment (shown_name_of chat me) text)

abbrev pub line_of_announce : Room → Option Present → List ℕ → List Line
line_of_announce chat None text = []
line_of_announce chat (Some me) text = logged (noted (codes "Announcement") (shown_name_of chat me) text)

abbrev pub line_of_modnote : Room → Option Present → List ℕ → List Line
line_of_modnote chat None text = []
line_of_modnote chat (Some me) text = to_staff chat.staff (noted (codes "Modnote") (shown_name_of chat me) text)

-- a deed to a member, by its name
abbrev pub line_to_member : Room → List ℕ → Option Present → Option Present → Option (List ℕ) → List Line
line_to_member chat word None target reason = []
line_to_member chat word (Some me) None reason = []
line_to_member chat word (Some me) (Some target) reason = logged (done_because word target.badge.name (shown_name_of chat me) reason)

-- a deed to an id
abbrev pub line_to_id : Room → List ℕ → Option Present → List ℕ → Option (List ℕ) → List Line
line_to_id chat word None id reason = []
line_to_id chat word (Some me) id reason = logged (done_because word id (shown_name_of chat me) reason)

abbrev pub line_of_warn : Room → Option Present → Option Present → Option (List ℕ) → List Line
line_of_warn chat me target reason = line_to_member chat (codes "Warned") me target reason

abbrev pub line_of_mute : Room → Option Present → Option Present → Option (List ℕ) → List Line
line_of_mute chat me target reason = line_to_member chat (codes "Muted") me target reason

abbrev pub line_of_unmute : Room → Option Present → Option Present → List Line
line_of_unmute chat me target = line_to_member chat (codes "Unmuted") me target None

abbrev pub line_of_ban : Room → Option Present → List ℕ → Option (List ℕ) → List Line
line_of_ban chat me id reason = line_to_id chat (codes "Banned") me id reason

abbrev pub line_of_unban : Room → Option Present → List ℕ → List Line
line_of_unban chat me id = line_to_id chat (codes "Unbanned") me id None

abbrev pub line_of_promote : Room → Option Present → Option Present → ℕ → List Line
line_of_promote chat None target symbol = []
line_of_promote chat (Some me) None symbol = []
line_of_promote chat (Some me) (Some target) symbol = logged
    (done_to (codes "Promoted") (promoted target.badge.name symbol) (shown_name_of chat me))

abbrev pub line_of_modchat : Room → Option Present → Option ℕ → List Line
line_of_modchat chat None symbol = []
line_of_modchat chat (Some me) symbol = logged (done_to (codes "Modchat") (level symbol) (shown_name_of chat me))
