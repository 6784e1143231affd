-- A tournament line by line: which line is next, and what it is after a line, by how a battle ended at it.
use Rattle.std.specs.Prelude.{ℕ, ◌+◌, nat_lt, List, [], ◌∷◌, ◌++◌, Option, Some, None, if◌then◌else◌}
use Rattle.ps_tour.specs.Brackets.{Round, first_round, after_win, open_match}
use Rattle.replay_script.specs.declared.item.Item.{Item}
use Rattle.replay_tour.specs.declared.battle_end.BattleEnd.{BattleEnd}
use Rattle.replay_tour.specs.declared.battle_end.BattleEnd.TheVariants as ends
use Rattle.replay_tour.specs.declared.win.Win.{Win}
use Rattle.replay_tour.specs.declared.stage.Stage.{Stage}
use Rattle.replay_tour.specs.declared.stage.Stage.TheVariants.{Challenge, Accept, FirstJoin, SecondJoin, FirstChoice, SecondChoice}
use Rattle.replay_tour.specs.Matches.{match_line}

-- The round of the bracket, which says who meets; who beat whom, match by match; the number of the battle that is played or comes
-- next; how many battles of the open match were tied; and which of its lines is next.
pub record Tour : Type 0 where
  pub round : Round
  pub wins : List Win
  pub battle : ℕ
  pub ties : ℕ
  pub stage : Stage

-- before the first match of so many users, whose order a seed draws
abbrev pub begun : ℕ → ℕ → Tour
begun users seed = record { round = first_round users seed; wins = []; battle = 1; ties = 0; stage = Challenge }

-- ---- the next line

abbrev pub line_of : List ℕ → Tour → Option (ℕ × ℕ) → Option Item
line_of format tour None = None
line_of format tour (Some pair) = Some (match_line format tour.battle pair tour.stage)

-- that of the open match, and none where there is a champion
abbrev pub next_line : List ℕ → Tour → Option Item
next_line format tour = line_of format tour (open_match tour.round)

-- ---- after a line

abbrev pub at_stage : Stage → Tour → Tour
at_stage stage tour = record { round = tour.round; wins = tour.wins; battle = tour.battle; ties = tour.ties; stage = stage }

-- the open match is won, and the next one begins with a battle of its own
abbrev pub won : ℕ → ℕ → Tour → Tour
won winner loser tour = record {
  round = after_win winner tour.round;
  wins = tour.wins ++ record { winner = winner; loser = loser } ∷ [];
  battle = tour.battle + 1;
  ties = 0;
  stage = Challenge;
}

-- the open match is played again
abbrev pub again : Tour → Tour
again tour = record { round = tour.round; wins = tour.wins; battle = tour.battle + 1; ties = tour.ties + 1; stage = Challenge }

-- a tied match is played again up to two times; after its third tie the first of the two wins
abbrev pub tied : ℕ × ℕ → Tour → Tour
tied pair tour = if nat_lt tour.ties 2 then again tour else won pair.0 pair.1 tour

-- a battle of these two ended: the first won it, or the second, or nobody
abbrev pub ended : ℕ × ℕ → BattleEnd → Tour → Tour
ended pair ends.FirstWon tour = won pair.0 pair.1 tour
ended pair ends.SecondWon tour = won pair.1 pair.0 tour
ended pair ends.Tied tour = tied pair tour

-- after a choice the other one chooses, unless the battle ended at it
abbrev pub chosen : ℕ × ℕ → Stage → Option BattleEnd → Tour → Tour
chosen pair other None tour = at_stage other tour
chosen pair other (Some end) tour = ended pair end tour

abbrev pub past_line : ℕ × ℕ → Stage → Option BattleEnd → Tour → Tour
past_line pair Challenge end tour = at_stage Accept tour
past_line pair Accept end tour = at_stage FirstJoin tour
past_line pair FirstJoin end tour = at_stage SecondJoin tour
past_line pair SecondJoin end tour = at_stage FirstChoice tour
past_line pair FirstChoice end tour = chosen pair SecondChoice end tour
past_line pair SecondChoice end tour = chosen pair FirstChoice end tour

abbrev pub past_match : Option (ℕ × ℕ) → Option BattleEnd → Tour → Tour
past_match None end tour = tour
past_match (Some pair) end tour = past_line pair tour.stage end tour

-- after the next line, at which a battle ended so, or none
abbrev pub past : Option BattleEnd → Tour → Tour
past end tour = past_match (open_match tour.round) end tour
