-- The rounds of a battle that a history completed.
use Rattle.std.specs.Prelude.{ℕ, zero, suc, Bool, true, false, ◌&&◌, List, [], ◌∷◌, ◌++◌}
use Rattle.std.specs.Prelude.{Option, Some, None, option_to_list, Result, Ok, Err, ⊤, if◌then◌else◌}
use Rattle.ps_base.specs.declared.why.Why.{Why}
use Rattle.ps_lines.specs.declared.command.Command.{Command}
use Rattle.ps_lines.specs.declared.command.Command.TheVariants.{Choose}
use Rattle.ps_mon.specs.declared.record.Battle.{Battle}
use Rattle.ps_mon.specs.declared.choice.Choice.{Choice}
use Rattle.ps_mon.specs.Facts.{Figures}
use Rattle.ps_dex.specs.declared.item.Tables.{Tables}
use Rattle.ps_dex.specs.Figures.{figures_of}
use Rattle.ps_event.specs.declared.event.Event.{Event}
use Rattle.ps_battle.specs.Turns.{turn}
use Rattle.battle_rounds.specs.declared.bout.Bout.{Bout}
use Rattle.battle_rounds.specs.Bouts.{with_waiting}
use Rattle.battle_rounds.specs.Refusals.{chosen}
use Rattle.battle_rounds.specs.Rounds.{is_ready, choice_or_pass}
use Rattle.battle_rounds.specs.Fights.{Fight}
use Rattle.ps_chat.specs.declared.present.Present.{Present}
use Rattle.ps_room.specs.declared.entry.Entry.{Entry}
use Rattle.ps_room.specs.Records.{Record}
use Rattle.ps_room.specs.Roles.{side_of_member}
use Rattle.ps_room.specs.Rooms.{sender_of, verdict, after}
use Rattle.ps_room.specs.Stories.{Story, begun}
use Rattle.ps_hits.specs.Courses.{untold}

-- a round: the battle before it, the choices of player 1 and player 2, the battle after it, and what was told
pub record Round : Type 0 where
  pub before : Battle
  pub first : Choice
  pub second : Choice
  pub after : Battle
  pub told : List Event

abbrev pub choice_of : Round → ℕ → Choice
choice_of round zero = round.first
choice_of round (suc other) = round.second

-- the round of two choices
abbrev pub round_of_choices : Figures → Battle → Choice → Choice → Round
round_of_choices facts battle first second =
    let course = turn facts first second (untold battle) in
    record { before = battle; first = first; second = second; after = course.battle; told = course.told }

-- what waits is a round where both sides are ready
abbrev pub completed_round : Figures → Bout → Option Round
completed_round facts bout = if is_ready bout 0 && is_ready bout 1
    then Some (round_of_choices facts bout.battle (choice_or_pass bout.first) (choice_or_pass bout.second)) else None

-- ---- the round of an entry

-- one step after another: where one finds nothing, nothing is found
infixl 10 ◌>>=◌
abbrev pub ◌>>=◌ : {A B : Type 0} → Option A → (A → Option B) → Option B
None >>= next = None
(Some value) >>= next = next value

-- what is refused completes no round
abbrev pub allowed : Option Why → Option ⊤
allowed None = Some tt
allowed (Some why) = None

abbrev pub ok_choice : Result Choice Why → Option Choice
ok_choice (Ok choice) = Some choice
ok_choice (Err why) = None

-- the choice that a command of a side makes, if it makes one
abbrev pub choice_by : Tables → Bout → ℕ → Command → Option Choice
choice_by dex bout side (Choose choice rqid) = ok_choice (chosen bout side dex choice rqid)
choice_by dex bout side other = None

-- the round that an entry completes, if it completes one: the choice of a side's player completes it, or waits
abbrev pub round_of : Record → Entry → Option Round
round_of room entry = do
  _ ← allowed (verdict room entry)
  fight ← room.battle
  side ← side_of_member fight.cast (sender_of room entry)
  choice ← choice_by fight.cast.dex fight.bout side entry.cmd
  completed_round (figures_of fight.cast.dex) (with_waiting side (Some choice) fight.bout)

-- the rounds that a history completes, from a record on
abbrev pub rounds_from : Record → List Entry → List Round
rounds_from room [] = []
rounds_from room (entry ∷ entries) = option_to_list (round_of room entry) ++ rounds_from (after room entry) entries

abbrev pub rounds : Story → List Round
rounds story = rounds_from (begun story) story.history
