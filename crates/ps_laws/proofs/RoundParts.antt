-- The steps of an entry's round from one on, each over what the steps before it find.
use Rattle.std.specs.Prelude.{ℕ, Bool, Option, Result, if◌then◌else◌, Some, None}
use Rattle.ps_base.specs.declared.why.Why.{Why}
use Rattle.ps_lines.specs.declared.command.Command.{Command}
use Rattle.ps_mon.specs.declared.choice.Choice.{Choice}
use Rattle.ps_mon.specs.Facts.{Figures}
use Rattle.ps_dex.specs.declared.item.Tables.{Tables}
use Rattle.ps_dex.specs.Figures.{figures_of}
use Rattle.battle_rounds.specs.declared.bout.Bout.{Bout}
use Rattle.battle_rounds.specs.Bouts.{with_waiting}
use Rattle.battle_rounds.specs.Rounds.{choice_or_pass}
use Rattle.battle_rounds.specs.Fights.{Fight}
use Rattle.ps_chat.specs.declared.present.Present.{Present}
use Rattle.ps_room.specs.declared.entry.Entry.{Entry}
use Rattle.ps_room.specs.Records.{Record}
use Rattle.ps_room.specs.Roles.{side_of_member}
use Rattle.ps_room.specs.Rooms.{sender_of}
use Rattle.ps_laws.specs.Rounds.{Round, round_of_choices, completed_round, ◌>>=◌, allowed, ok_choice, choice_by}

abbrev pub completed_if : Bool → Figures → Bout → Option Round
completed_if ready facts bout =
    if ready then Some (round_of_choices facts bout.battle (choice_or_pass bout.first) (choice_or_pass bout.second)) else None

abbrev pub round_by : Tables → Bout → ℕ → Result Choice Why → Option Round
round_by dex bout side chosen = do
  choice ← ok_choice chosen
  completed_round (figures_of dex) (with_waiting side (Some choice) bout)

abbrev pub round_in : Tables → Bout → Option ℕ → Command → Option Round
round_in dex bout player cmd = do
  side ← player
  choice ← choice_by dex bout side cmd
  completed_round (figures_of dex) (with_waiting side (Some choice) bout)

abbrev pub round_of_member : Option Fight → Option Present → Command → Option Round
round_of_member battle me cmd = do
  fight ← battle
  round_in fight.cast.dex fight.bout (side_of_member fight.cast me) cmd

abbrev pub round_if_allowed : Option Why → Record → Entry → Option Round
round_if_allowed refused room entry = do
  _ ← allowed refused
  round_of_member room.battle (sender_of room entry) entry.cmd
