-- The ratings of the hall: the ladder of a format is made of the reports of its battles.
use Rattle.std.specs.Prelude.{◌≡◌, ℕ, Bool, true, List, [], ◌∷◌, ◌++◌, if◌then◌else◌, Option, Some, None, is_some}
use Rattle.std.specs.Str.{bytes_eq}
use Rattle.ps_base.specs.Ids.{id_of}
use Rattle.ps_base.specs.declared.badge.Badge.{Badge}
use Rattle.ps_base.specs.declared.hall_why.HallWhy.{HallWhy}
use Rattle.ps_lines.specs.declared.command.HallCmd.{HallCmd}
use Rattle.ps_lines.specs.declared.command.HallCmd.TheVariants.{Report, Search}
use Rattle.ps_ladder.specs.Ratings.{Won, standing_of, ratings_of, IsBalanced}
use Rattle.ps_hall.specs.declared.entry.HallEntry.{HallEntry}
use Rattle.ps_hall.specs.declared.game.Game.{Game}
use Rattle.ps_hall.specs.Records.{Record}
use Rattle.ps_hall.specs.Lookups.{game_in, ladder_of, badge_of, opponent}
use Rattle.ps_hall.specs.Steps.{winner_of, loser_of}
use Rattle.ps_hall.specs.Halls.{verdict, after, out_of, run_record}
use Rattle.ps_laws.specs.HallStories.{HallOpening, HallStory, hall_opened}

-- the result of a battle in a format, if it is one of it, was rated and somebody won
abbrev pub won_by : List ℕ → Game → Bool → Option ℕ → List Won
won_by format game true (Some winner) =
    if bytes_eq game.format format then record { winner = winner_of game winner; loser = loser_of game winner } ∷ [] else []
won_by format game rated winner = []

abbrev pub won_in : List ℕ → Option ℕ → Option Game → List Won
won_in format winner None = []
won_in format winner (Some game) = won_by format game game.rated winner

abbrev pub won_at : List ℕ → Option HallWhy → Record → HallCmd → List Won
won_at format None hall (Report number winner) = won_in format winner (game_in hall number)
won_at format why hall cmd = []

-- the results of a format that the allowed reports of a history have, from a record on, the oldest first
abbrev pub results_from : List ℕ → Record → List HallEntry → List Won
results_from format hall [] = []
results_from format hall (entry ∷ entries) = won_at format (verdict hall entry) hall entry.cmd
    ++ results_from format (after hall entry) entries

-- what the ladder of a format is after these results
pub record IsLadder (hall : Record) (format : List ℕ) (results : List Won) : Type 0 where
  -- the fold over all of them: none is left out
  pub fold : ladder_of hall format ≡ standing_of results
  -- and its ratings sum to 1000 times the number of those who were rated
  pub sum : IsBalanced (ratings_of results)

-- After every history, whatever it is, the ladder of each format is made of all its results.
abbrev pub HallRatingsAreResults : Type 0
HallRatingsAreResults = (opening : HallOpening) (es : List HallEntry) (format : List ℕ)
    → IsLadder (run_record (hall_opened opening) es) format (results_from format (hall_opened opening) es)

-- ---- of one history

-- each allowed search that was matched started its battle
abbrev pub HasMatches : HallStory → Type 0
HasMatches story = (before : List HallEntry) (entry : HallEntry) (later : List HallEntry) (format : List ℕ) (badge : Badge)
    → story.history ≡ before ++ entry ∷ later → entry.cmd ≡ Search format
    → badge_of (run_record (hall_opened story.opening) before) entry.conn ≡ Some badge
    → verdict (run_record (hall_opened story.opening) before) entry ≡ None
    → is_some (out_of (run_record (hall_opened story.opening) before) entry).start
    ≡ is_some (opponent (run_record (hall_opened story.opening) before) (id_of badge.name) format)

-- No battle of a match is lost, and no result: of the hall of a run, or of a session.
pub record IsHallWhole (story : HallStory) : Type 0 where
  pub matches : HasMatches story
  pub ladders : (format : List ℕ)
      → IsLadder (run_record (hall_opened story.opening) story.history) format
      (results_from format (hall_opened story.opening) story.history)
