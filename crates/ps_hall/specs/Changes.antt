-- For the code: what an entry is found to come to, before anything changes.
use Rattle.std.specs.Prelude.{◌≡◌, ℕ, ℤ, ◌<◌, ◌+◌, List, [], ◌∷◌, ◌++◌, is_none, not, true, false, Option, Some, None, Result, Ok}
use Rattle.std.specs.Prelude.{Err, IfSome}
use Rattle.std.specs.FinMap.{remove}
use Rattle.ps_base.specs.Ids.{id_of}
use Rattle.ps_base.specs.Limits.{most_battles}
use Rattle.ps_base.specs.declared.badge.Badge.{Badge}
use Rattle.ps_base.specs.declared.hall_why.HallWhy.{HallWhy}
use Rattle.ps_base.specs.declared.hall_why.HallWhy.TheVariants as why
use Rattle.ps_lines.specs.declared.command.HallCmd.{HallCmd}
use Rattle.ps_lines.specs.declared.command.HallCmd.TheVariants as cmds
use Rattle.ps_packed.specs.declared.set.Set.{Set}
use Rattle.ps_dex.specs.declared.item.Tables.{Tables}
use Rattle.ps_valid.specs.declared.legal.Legal.{Legal}
use Rattle.ps_valid.specs.Ready.{IsReady}
use Rattle.rules_start.specs.declared.start.Start.{Start}
use Rattle.rules_start.specs.Fits.{IsFit}
use Rattle.ps_users.specs.Refusals.{refusal as refusal_of_user}
use Rattle.ps_users.specs.Steps.{granted}
use Rattle.ps_pms.specs.Refusals.{when}
use Rattle.ps_pms.specs.declared.asked.Asked.{Asked}
use Rattle.ps_ladder.specs.Waiting.{added_by, without}
use Rattle.ps_ladder.specs.declared.searches.Search.{Search}
use Rattle.ps_hall.specs.declared.change.Allowed.{Allowed}
use Rattle.ps_hall.specs.declared.change.Change.{Change}
use Rattle.ps_hall.specs.declared.change.Change.TheVariants.{Nothing, Users, Quit, Team, Wait, Match, CancelSearch, Challenge}
use Rattle.ps_hall.specs.declared.change.Change.TheVariants.{CancelChallenge, Reject, Accept, Blocks, Report}
use Rattle.ps_hall.specs.declared.game.Game.{Game}
use Rattle.ps_hall.specs.declared.kept.KeptTeam.{KeptTeam}
use Rattle.ps_hall.specs.declared.notice.Notice.{Notice}
use Rattle.ps_hall.specs.Records.{Record}
use Rattle.ps_hall.specs.Lookups.{rating_in, without_kept, without_user}
use Rattle.ps_hall.specs.Refusals.{is_winner, of_accept, refusal, refusal_by, refusal_of_named}
use Rattle.ps_hall.specs.Starts.{start_of_challenge, start_of_match, with_game, with_start}
use Rattle.ps_hall.specs.Steps.{after_by, after_cancel_search, after_challenge, after_named, after_report, applied, forgotten_if}
use Rattle.ps_hall.specs.Steps.{kept_by_search, reported, start_by, start_of, start_of_named, with_accept, with_pms, with_team}
use Rattle.ps_hall.specs.Steps.{with_users}
use Rattle.ps_hall.specs.Told.{told, told_by, told_of_accept, told_of_named, told_both, told_of_report, told_of_search}

-- ---- what changes

-- a team is kept, or forgotten
abbrev pub team_changed : Record → List ℕ → Option (List Set) → Record
team_changed hall me None = record hall { teams = remove hall.teams me }
team_changed hall me (Some team) = with_team hall me team

-- who is matched with nobody waits
abbrev pub waiting : Record → KeptTeam → Search → Record
waiting hall kept search = record hall {
  searches = hall.searches ++ search ∷ [];
  search_teams = hall.search_teams ++ kept ∷ [];
}

-- the other's search is taken, with the team that was kept for it
abbrev pub matched : Record → List ℕ → List ℕ → ℤ → List ℕ → Record
matched hall me format rating user = record hall {
  searches = without hall.searches me format rating;
  search_teams = without_kept user format hall.search_teams;
}

-- the hall after a change, of this command of this connection
abbrev pub changed : Record → ℕ → HallCmd → Change → Record
changed hall conn cmd Nothing = hall
changed hall conn cmd Users = with_users hall conn cmd
changed hall conn cmd (Quit me) = with_users (forgotten_if hall me) conn cmds.Quit
changed hall conn cmd (Team me team) = team_changed hall me team
changed hall conn cmd (Wait kept search) = waiting hall kept search
changed hall conn cmd (Match me format rating user game) = with_game (matched hall me format rating user) game
changed hall conn cmd (CancelSearch me) = after_cancel_search hall me
changed hall conn cmd (Challenge kept) = record (with_pms hall (id_of kept.name) cmd)
    { challenge_teams = hall.challenge_teams ++ kept ∷ [] }
changed hall conn cmd (CancelChallenge me) = record (with_pms hall me cmd) { challenge_teams = without_user me hall.challenge_teams }
changed hall conn cmd (Reject me user) = record (with_pms hall me cmd) { challenge_teams = without_kept user me hall.challenge_teams }
changed hall conn cmd (Accept me user game) = with_game (with_accept hall me user) game
changed hall conn cmd (Blocks me) = with_pms hall me cmd
changed hall conn cmd (Report number winner) = after_report hall number winner

-- a battle that is to start is the next of those that may start
pub record CanStart (hall : Record) (game : Option Game) : Type 0 where
  pub few : hall.started < most_battles
  pub next : IfSome game (λ next_game. next_game.number ≡ hall.started + 1)

-- what must hold of a change before it is made
abbrev pub CanChange : Record → ℕ → HallCmd → Change → Type 0
CanChange hall conn cmd Users = refusal_of_user hall.users conn cmd ≡ None
CanChange hall conn cmd (Quit me) = cmd ≡ cmds.Quit
CanChange hall conn cmd (Wait kept search) = IsReady hall.dex kept.team
CanChange hall conn cmd (Match me format rating user game) = CanStart hall game
CanChange hall conn cmd (Challenge kept) = IsReady hall.dex kept.team
CanChange hall conn cmd (Accept me user game) = CanStart hall game
CanChange hall conn cmd (Report number winner) = is_winner winner ≡ true
CanChange hall conn cmd other = Unit {0}

-- ---- what a judge finds of a team

-- a legal team, where nothing is to refuse
pub record IsLegal (dex : Tables) (why : Option HallWhy) (team : Option Legal) (legal : Legal) : Type 0 where
  pub allowed : why ≡ None
  pub found : team ≡ Some legal
  pub ready : IsReady dex legal

-- the reason, or else the legal team
abbrev pub IsJudged : Tables → Option HallWhy → Option Legal → Result Legal HallWhy → Type 0
IsJudged dex why team (Err reason) = why ≡ Some reason
IsJudged dex why team (Ok legal) = IsLegal dex why team legal

-- ---- what an entry comes to

-- What is told, the badge and the battle that an allowed command gives, and a change that makes this of the hall.
pub record IsAllowed (notes : List Notice) (gives : Option Badge) (starts : Option Start) (then hall : Record) (conn : ℕ) (cmd : HallCmd)
    (allowed : Allowed) : Type 0 where
  pub notices : allowed.notices ≡ notes
  pub badge : allowed.badge ≡ gives
  pub start : allowed.start ≡ starts
  pub after : changed hall conn cmd allowed.change ≡ then
  pub can : CanChange hall conn cmd allowed.change
  pub fit : IfSome starts (λ next_start. IsFit next_start hall.config hall.dex)

-- the reason why it is refused, or else all that
abbrev pub IsAnswer : Option HallWhy → List Notice → Option Badge → Option Start → Record → Record → ℕ → HallCmd
    → Result Allowed HallWhy → Type 0
IsAnswer why notes gives starts then hall conn cmd (Err reason) = why ≡ Some reason
IsAnswer why notes gives starts then hall conn cmd (Ok allowed) = (why ≡ None) × IsAllowed notes gives starts then hall conn cmd allowed

-- of a command that takes a name
abbrev pub IsNamedAnswer : Record → ℕ → Badge → HallCmd → Result Allowed HallWhy → Type 0
IsNamedAnswer hall conn me cmd answer = IsAnswer (refusal_of_named hall (id_of me.name) cmd)
    (told_of_named hall (after_named hall me.name cmd) conn me cmd) None (start_of_named hall me.name cmd)
    (after_named hall me.name cmd) hall conn cmd answer

-- of one of a connection that may have no name
abbrev pub IsAnswerBy : Record → ℕ → Option Badge → HallCmd → Result Allowed HallWhy → Type 0
IsAnswerBy hall conn me cmd answer = IsAnswer (refusal_by hall me cmd) (told_by hall (after_by hall me cmd) conn me cmd) None
    (start_by hall me cmd)
    (after_by hall me cmd) hall conn cmd answer

-- of any
abbrev pub IsPrepared : Record → ℕ → HallCmd → Result Allowed HallWhy → Type 0
IsPrepared hall conn cmd answer = IsAnswer (refusal hall conn cmd) (told hall (applied hall conn cmd) conn cmd) (granted hall.users cmd)
    (start_of hall conn cmd) (applied hall conn cmd) hall conn cmd answer

-- ---- searches and challenges, by what was found

-- the hall after a search that is matched with this one, or with nobody
abbrev pub search_with : Record → List ℕ → List ℕ → Option Search → Record
search_with hall name format other = with_start (record hall {
  searches = added_by other hall.searches (id_of name) format (rating_in hall format (id_of name));
  search_teams = kept_by_search hall name format other;
}) true (start_of_match hall name format other)

abbrev pub IsSearch : Record → ℕ → List ℕ → List ℕ → Option Search → Allowed → Type 0
IsSearch hall conn name format other allowed = IsAllowed
    (told_of_search hall.users.online (search_with hall name format other).games (search_with hall name format other).searches conn
    (id_of name) other)
    None (start_of_match hall name format other) (search_with hall name format other) hall conn (cmds.Search format) allowed

-- the hall after a challenge is accepted, of which this battle starts
abbrev pub accept_with : Record → List ℕ → List ℕ → Option Start → Record
accept_with hall name user start = with_start (with_accept hall (id_of name) user) false start

abbrev pub told_with : Record → ℕ → List ℕ → List ℕ → Record → List Notice
told_with hall conn name user then = told_of_accept hall.users.online then.games then.searches then.pms.asked conn (id_of name) user

abbrev pub IsAccept : Record → ℕ → List ℕ → List ℕ → Option Start → Allowed → Type 0
IsAccept hall conn name user start allowed = IsAllowed (told_with hall conn name user (accept_with hall name user start)) None start
    (accept_with hall name user start) hall conn (cmds.Accept user) allowed

abbrev pub IsAcceptAnswer : Record → ℕ → List ℕ → List ℕ → Option Asked → Result Allowed HallWhy → Type 0
IsAcceptAnswer hall conn name user asked (Err reason) = of_accept hall (id_of name) asked ≡ Some reason
IsAcceptAnswer hall conn name user asked (Ok allowed) = (of_accept hall (id_of name) asked ≡ None)
    × IsAccept hall conn name user (start_of_challenge hall name asked) allowed

abbrev pub IsChallenge : Record → ℕ → List ℕ → List ℕ → List ℕ → Allowed → Type 0
IsChallenge hall conn name user format allowed = IsAllowed
    (told_both hall.users.online (after_challenge hall name user format).pms.asked conn (id_of name) user)
    None None (after_challenge hall name user format) hall conn (cmds.Challenge user format) allowed

-- ---- the others

-- a Block or an Unblock of this user
abbrev pub BlocksBy : List ℕ → Option HallWhy → Result Allowed HallWhy → Type 0
BlocksBy me why (Err reason) = why ≡ Some reason
BlocksBy me why (Ok allowed) = (why ≡ None) × (allowed ≡ record { notices = []; badge = None; start = None; change = Blocks me })

-- a report of this battle
abbrev pub refusal_of_game : Option Game → Option ℕ → Option HallWhy
refusal_of_game game winner = when (is_none game) why.NoBattle (when (not (is_winner winner)) why.NoBattle None)

abbrev pub IsReportAnswer : Record → ℕ → ℕ → Option ℕ → Option Game → Result Allowed HallWhy → Type 0
IsReportAnswer hall conn number winner game answer = IsAnswer (refusal_of_game game winner)
    (told_of_report hall.users.online (reported hall number winner game) winner game)
    None None (after_report hall number winner) hall conn (cmds.Report number winner) answer
