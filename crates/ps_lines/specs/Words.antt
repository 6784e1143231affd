-- The words of the commands, in the order of the two tables.
use Rattle.std.specs.Prelude.{ℕ, List, codes, Option, Some, None, if◌then◌else◌}
use Rattle.std.specs.Option.{option_or}
use Rattle.std.specs.Str.{bytes_eq}
use Rattle.ps_lines.specs.declared.word.Word.{Word}
use Rattle.ps_lines.specs.declared.word.Word.TheVariants.{Join, Leave, Announce, Modnote, Warn, Mute, Unmute, Ban, Unban, Promote}
use Rattle.ps_lines.specs.declared.word.Word.TheVariants.{Modchat, Choose, Undo, Forfeit, Name, Team, Search, CancelSearch, Challenge}
use Rattle.ps_lines.specs.declared.word.Word.TheVariants.{CancelChallenge, Reject, Accept, Whisper, Block, Unblock, Rank}

-- who comes and goes, and who speaks
unfoldable pub speaking_word : List ℕ → Option Word
speaking_word word =
    if bytes_eq word (codes "join") then Some Join else (
    if bytes_eq word (codes "leave") then Some Leave else (
    if bytes_eq word (codes "announce") then Some Announce else (
    if bytes_eq word (codes "modnote") then Some Modnote else
    None)))

-- what staff does to users
unfoldable pub staff_word : List ℕ → Option Word
staff_word word =
    if bytes_eq word (codes "warn") then Some Warn else (
    if bytes_eq word (codes "mute") then Some Mute else (
    if bytes_eq word (codes "unmute") then Some Unmute else (
    if bytes_eq word (codes "ban") then Some Ban else (
    if bytes_eq word (codes "unban") then Some Unban else
    None))))

-- ranks, and battles
unfoldable pub rank_or_battle_word : List ℕ → Option Word
rank_or_battle_word word =
    if bytes_eq word (codes "roompromote") then Some Promote else (
    if bytes_eq word (codes "modchat") then Some Modchat else (
    if bytes_eq word (codes "choose") then Some Choose else (
    if bytes_eq word (codes "undo") then Some Undo else (
    if bytes_eq word (codes "forfeit") then Some Forfeit else
    None))))

-- a user's own name, team and searches
unfoldable pub own_word : List ℕ → Option Word
own_word word =
    if bytes_eq word (codes "trn") then Some Name else (
    if bytes_eq word (codes "utm") then Some Team else (
    if bytes_eq word (codes "search") then Some Search else (
    if bytes_eq word (codes "cancelsearch") then Some CancelSearch else
    None)))

-- challenges
unfoldable pub challenge_word : List ℕ → Option Word
challenge_word word =
    if bytes_eq word (codes "challenge") then Some Challenge else (
    if bytes_eq word (codes "cancelchallenge") then Some CancelChallenge else (
    if bytes_eq word (codes "reject") then Some Reject else (
    if bytes_eq word (codes "accept") then Some Accept else
    None)))

-- whispers, blocks and ratings
unfoldable pub user_word : List ℕ → Option Word
user_word word =
    if bytes_eq word (codes "pm") then Some Whisper else (
    if bytes_eq word (codes "block") then Some Block else (
    if bytes_eq word (codes "unblock") then Some Unblock else (
    if bytes_eq word (codes "rank") then Some Rank else
    None)))

-- a word of the room table
abbrev pub room_word : List ℕ → Option Word
room_word word = option_or (option_or (speaking_word word) (staff_word word)) (rank_or_battle_word word)

-- a word of the hall table
abbrev pub hall_word : List ℕ → Option Word
hall_word word = option_or (option_or (own_word word) (challenge_word word)) (user_word word)

-- the command that a word names, if it is in one of the tables
abbrev pub word_of : List ℕ → Option Word
word_of word = option_or (room_word word) (hall_word word)
