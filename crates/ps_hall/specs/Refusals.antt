-- The rows of the hall table: why each command is refused, in the row's order. `me` is the id of who sends it.
use Rattle.std.specs.Prelude.{◌≡◌, ℕ, Bool, true, not, List, is_none, Option, Some, None, Result, Ok, Err, nat_lt}
use Rattle.std.specs.Str.{bytes_eq, chars}
use Rattle.std.specs.FinMap.{get}
use Rattle.ps_base.specs.Ids.{id_of}
use Rattle.ps_base.specs.declared.badge.Badge.{Badge}
use Rattle.ps_base.specs.declared.hall_why.HallWhy.{HallWhy}
use Rattle.ps_base.specs.declared.hall_why.HallWhy.TheVariants as why
use Rattle.ps_lines.specs.declared.command.BadWhy.{BadWhy}
use Rattle.ps_lines.specs.declared.command.BadWhy.TheVariants as bad
use Rattle.ps_lines.specs.declared.command.HallCmd.{HallCmd}
use Rattle.ps_lines.specs.declared.command.HallCmd.TheVariants.{Open, Quit, Bad, Name, Team, Search, CancelSearch, Challenge}
use Rattle.ps_lines.specs.declared.command.HallCmd.TheVariants.{CancelChallenge, Reject, Accept, Whisper, Block, Unblock, Rank}
use Rattle.ps_lines.specs.declared.command.HallCmd.TheVariants.{Report}
use Rattle.ps_packed.specs.declared.set.Set.{Set}
use Rattle.ps_packed.specs.Scan.{team_of}
use Rattle.ps_rules.specs.declared.table.Format.{Format}
use Rattle.ps_valid.specs.declared.legal.Legal.{Legal}
use Rattle.ps_valid.specs.declared.verdict.Verdict.{Verdict}
use Rattle.ps_lines.specs.SentTexts.{is_blank, is_long}
use Rattle.ps_users.specs.Refusals.{refusal as refusal_of_user}
use Rattle.ps_pms.specs.Refusals.{when, refusal_of_asking, refusal_of_cancel, refusal_of_whisper, refusal_of_block, refusal_of_unblock}
use Rattle.ps_pms.specs.declared.asked.Asked.{Asked}
use Rattle.ps_ladder.specs.Waiting.{waits}
use Rattle.ps_hall.specs.Packs.{PackFaultAt, pack_fault}
use Rattle.ps_hall.specs.Records.{Record}
use Rattle.ps_hall.specs.Lookups.{badge_of, is_online, format_in, checked, challenge_from, is_searching, is_full, game_in}

-- why a text is no command of its connection, as a reason of refusal
abbrev pub bad_why : BadWhy → HallWhy
bad_why bad.NoBar = why.NoBar
bad_why bad.UnknownCommand = why.UnknownCommand
bad_why bad.BadArgs = why.BadArgs
bad_why bad.NotNamed = why.NotNamed
bad_why bad.RoomLimit = why.RoomLimit
bad_why bad.NoSuchRoom = why.NoSuchRoom

-- ---- what several rows ask

-- the first reason, if there is one, else what comes next
abbrev pub or_else : Option HallWhy → Option HallWhy → Option HallWhy
or_else (Some reason) more = Some reason
or_else None more = more

-- BadTeam, where the rules find a fault
abbrev pub of_found : Result Legal Verdict → Option HallWhy
of_found (Err verdict) = Some (why.BadTeam verdict.set verdict.rule verdict.subject)
of_found (Ok legal) = None

-- NoTeam, then BadTeam
abbrev pub of_checked : Option (Result Legal Verdict) → Option HallWhy
of_checked None = Some why.NoTeam
of_checked (Some found) = of_found found

abbrev pub of_team : Record → List ℕ → Format → Option HallWhy
of_team hall me format = of_checked (checked hall format (get hall.teams me))

-- EmptyText, then TooLong
abbrev pub of_text : List ℕ → Option HallWhy
of_text text = when (is_blank text) why.EmptyText (when (is_long text) why.TooLong None)

abbrev pub of_battles : Record → Option HallWhy
of_battles hall = when (is_full hall) why.BattlesFull None

-- ---- the rows

abbrev pub of_pack : Option PackFaultAt → Option HallWhy
of_pack None = None
of_pack (Some fault) = Some (why.BadPack fault.at fault.kind)

-- the team that was read of a text is the text's, and the reason why none was is BadPack with its fault
abbrev pub Reads : List ℕ → Result (List Set) HallWhy → Type 0
Reads text (Ok team) = (of_pack (pack_fault text) ≡ None) × (team ≡ team_of text)
Reads text (Err reason) = of_pack (pack_fault text) ≡ Some reason

-- `/utm`
unfoldable pub refusal_of_team : Option (List ℕ) → Option HallWhy
refusal_of_team None = None
refusal_of_team (Some text) = of_pack (pack_fault (chars text))

-- AlreadySearching, then BattlesFull
abbrev pub of_waiting : Record → List ℕ → List ℕ → Option HallWhy
of_waiting hall me format = when (waits hall.searches me format) why.AlreadySearching (of_battles hall)

abbrev pub of_search : Record → List ℕ → List ℕ → Option Format → Option HallWhy
of_search hall me format None = Some why.UnknownFormat
of_search hall me format (Some found) = when (not found.table.rated) why.NotRated
    (or_else (of_team hall me found) (of_waiting hall me format))

-- `/search FORMAT`
unfoldable pub refusal_of_search : Record → List ℕ → List ℕ → Option HallWhy
refusal_of_search hall me format = of_search hall me format (format_in hall format)

-- `/cancelsearch`
unfoldable pub refusal_of_cancel_search : Record → List ℕ → Option HallWhy
refusal_of_cancel_search hall me = when (not (is_searching hall me)) why.NotSearching None

abbrev pub of_challenge : Record → List ℕ → List ℕ → Option Format → Option HallWhy
of_challenge hall me user None = Some why.UnknownFormat
of_challenge hall me user (Some format) = or_else (of_team hall me format) (refusal_of_asking hall.pms me user)

-- `/challenge USER, FORMAT`
unfoldable pub refusal_of_challenge : Record → List ℕ → List ℕ → List ℕ → Option HallWhy
refusal_of_challenge hall me user format = when (not (is_online hall user)) why.NoSuchUser
    (when (bytes_eq user me) why.SelfTarget (of_challenge hall me user (format_in hall format)))

-- `/cancelchallenge`
unfoldable pub refusal_of_cancel_challenge : Record → List ℕ → Option HallWhy
refusal_of_cancel_challenge hall me = refusal_of_cancel hall.pms me

-- `/reject USER`
unfoldable pub refusal_of_reject : Record → List ℕ → List ℕ → Option HallWhy
refusal_of_reject hall me user = when (is_none (challenge_from hall me user)) why.NoChallenge None

-- the format of a challenge is one of the formats
abbrev pub of_accepted : Record → List ℕ → Option Format → Option HallWhy
of_accepted hall me None = Some why.UnknownFormat
of_accepted hall me (Some format) = or_else (of_team hall me format) (of_battles hall)

abbrev pub of_accept : Record → List ℕ → Option Asked → Option HallWhy
of_accept hall me None = Some why.NoChallenge
of_accept hall me (Some challenge) = of_accepted hall me (format_in hall challenge.format)

-- `/accept USER`
unfoldable pub refusal_of_accept : Record → List ℕ → List ℕ → Option HallWhy
refusal_of_accept hall me user = of_accept hall me (challenge_from hall me user)

-- `/pm USER, TEXT`
unfoldable pub refusal_of_pm : Record → List ℕ → List ℕ → List ℕ → Option HallWhy
refusal_of_pm hall me user text = when (not (is_online hall user)) why.NoSuchUser
    (or_else (of_text text) (refusal_of_whisper hall.pms me user))

-- `/rank USER, FORMAT`
unfoldable pub refusal_of_rank : Record → List ℕ → Option HallWhy
refusal_of_rank hall format = when (is_none (format_in hall format)) why.UnknownFormat None

-- nobody, player 1 or player 2
abbrev pub is_winner : Option ℕ → Bool
is_winner None = true
is_winner (Some winner) = nat_lt winner 2

-- a battle's end
unfoldable pub refusal_of_report : Record → ℕ → Option ℕ → Option HallWhy
refusal_of_report hall number winner = when (is_none (game_in hall number)) why.NoBattle (when (not (is_winner winner)) why.NoBattle None)

-- ---- all of them

-- the commands that take a name
abbrev pub refusal_of_named : Record → List ℕ → HallCmd → Option HallWhy
refusal_of_named hall me (Team pack) = refusal_of_team pack
refusal_of_named hall me (Search format) = refusal_of_search hall me format
refusal_of_named hall me CancelSearch = refusal_of_cancel_search hall me
refusal_of_named hall me (Challenge user format) = refusal_of_challenge hall me user format
refusal_of_named hall me CancelChallenge = refusal_of_cancel_challenge hall me
refusal_of_named hall me (Reject user) = refusal_of_reject hall me user
refusal_of_named hall me (Accept user) = refusal_of_accept hall me user
refusal_of_named hall me (Whisper user text) = refusal_of_pm hall me user text
refusal_of_named hall me (Block user) = refusal_of_block hall.pms me user
refusal_of_named hall me (Unblock user) = refusal_of_unblock hall.pms me user
refusal_of_named hall me (Rank user format) = refusal_of_rank hall format
refusal_of_named hall me other = None

-- NotNamed, where the connection has no name
abbrev pub refusal_by : Record → Option Badge → HallCmd → Option HallWhy
refusal_by hall None cmd = Some why.NotNamed
refusal_by hall (Some badge) cmd = refusal_of_named hall (id_of badge.name) cmd

-- why a command of a connection is refused; None where it is allowed
unfoldable pub refusal : Record → ℕ → HallCmd → Option HallWhy
refusal hall conn Open = None
refusal hall conn Quit = None
refusal hall conn (Bad reason) = Some (bad_why reason)
refusal hall conn (Name name assertion) = refusal_of_user hall.users conn (Name name assertion)
refusal hall conn (Report number winner) = refusal_of_report hall number winner
refusal hall conn other = refusal_by hall (badge_of hall conn) other
