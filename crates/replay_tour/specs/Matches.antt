-- The lines of a match: the first of two, as the bracket has them, is its first player.
use Rattle.std.specs.Prelude.{ℕ, List, ◌++◌, codes}
use Rattle.std.specs.Fmt.{decimal}
use Rattle.rules_start.specs.Starts.{battle_id}
use Rattle.replay_script.specs.declared.item.Item.{Item}
use Rattle.replay_script.specs.declared.item.Item.TheVariants.{Send}
use Rattle.replay_tour.specs.declared.stage.Stage.{Stage}
use Rattle.replay_tour.specs.declared.stage.Stage.TheVariants.{Challenge, Accept, FirstJoin, SecondJoin, FirstChoice, SecondChoice}
use Rattle.replay_tour.specs.Entrants.{user_name}

-- a challenge of the user of a connection, but for its format
abbrev pub challenge_front : ℕ → List ℕ
challenge_front other = codes "|/challenge u" ++ decimal other ++ codes ", "

-- a connection challenges another one's user in a format
abbrev pub challenge_line : List ℕ → ℕ → ℕ → Item
challenge_line format conn other = Send conn (challenge_front other ++ format)

-- a connection accepts the challenge of another one's user
abbrev pub accept_line : ℕ → ℕ → Item
accept_line conn other = Send conn (codes "|/accept " ++ user_name other)

-- a connection joins the room of a battle
abbrev pub join_line : List ℕ → ℕ → ℕ → Item
join_line format battle conn = Send conn (codes "|/join " ++ battle_id format battle)

-- a connection lets a battle choose for it
abbrev pub choice_line : List ℕ → ℕ → ℕ → Item
choice_line format battle conn = Send conn (battle_id format battle ++ codes "|/choose default")

-- The next line of a match of these two, in a battle with this number: the first challenges, the second accepts, both join, and
-- then they choose in turn, the first first.
abbrev pub match_line : List ℕ → ℕ → ℕ × ℕ → Stage → Item
match_line format battle pair Challenge = challenge_line format pair.0 pair.1
match_line format battle pair Accept = accept_line pair.1 pair.0
match_line format battle pair FirstJoin = join_line format battle pair.0
match_line format battle pair SecondJoin = join_line format battle pair.1
match_line format battle pair FirstChoice = choice_line format battle pair.0
match_line format battle pair SecondChoice = choice_line format battle pair.1
