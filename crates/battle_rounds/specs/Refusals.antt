-- Why a battle's commands are refused, and the choice that a text stands for.
use Rattle.std.specs.Prelude.{ℕ, Bool, false, not, ◌==◌, List, Option, Some, None, is_some, Result, Ok, Err, if◌then◌else◌}
use Rattle.ps_base.specs.declared.why.Why.{Why}
use Rattle.ps_base.specs.declared.why.Why.TheVariants as whys
use Rattle.ps_mon.specs.declared.choice.Choice.{Choice}
use Rattle.ps_mon.specs.declared.choice.ChoiceFault.{ChoiceFault}
use Rattle.ps_mon.specs.declared.choice.ChoiceFault.TheVariants as faults
use Rattle.ps_mon.specs.declared.record.Battle.{Battle}
use Rattle.ps_mon.specs.Reading.{side_of}
use Rattle.ps_mon.specs.Choices.{is_asked}
use Rattle.ps_mon.specs.Valid.{is_over}
use Rattle.ps_dex.specs.declared.item.Tables.{Tables}
use Rattle.ps_choice.specs.Wants.{Want, want_in}
use Rattle.ps_choice.specs.Resolved.{resolved}
use Rattle.battle_rounds.specs.declared.bout.Bout.{Bout}
use Rattle.battle_rounds.specs.Bouts.{waiting}

-- each fault of a choice is a reason of the same name
abbrev pub why_of : ChoiceFault → Why
why_of faults.NotYourTurn = whys.NotYourTurn
why_of faults.WrongPhase = whys.WrongPhase
why_of faults.Locked = whys.Locked
why_of faults.NoSuchMove = whys.NoSuchMove
why_of faults.NoPp = whys.NoPp
why_of faults.Disabled = whys.Disabled
why_of faults.NoSuchMember = whys.NoSuchMember
why_of faults.AlreadyOut = whys.AlreadyOut
why_of faults.Fainted = whys.Fainted

abbrev pub with_why : Result Choice ChoiceFault → Result Choice Why
with_why (Ok choice) = Ok choice
with_why (Err fault) = Err (why_of fault)

-- another round than the open one is meant
abbrev pub is_stale : ℕ → Option ℕ → Bool
is_stale round None = false
is_stale round (Some number) = not (number == round)

-- the choice of what is asked for; a text that asks for nothing is no choice
abbrev pub choice_in : Battle → ℕ → Tables → Option Want → Result Choice Why
choice_in battle side dex None = Err whys.BadChoice
choice_in battle side dex (Some want) = with_why (resolved battle.phase side (side_of battle side) dex want)

-- The choice that a text of a side stands for, or why it is refused. It looks at the phase, the round, the dex and the own
-- side with its waiting choice.
unfoldable pub chosen : Bout → ℕ → Tables → List ℕ → Option ℕ → Result Choice Why
chosen bout side dex text number =
    if not (is_asked bout.battle.phase side) then Err whys.NotYourTurn
    else if is_some (waiting bout side) then Err whys.AlreadyChosen
    else if is_stale bout.round number then Err whys.StaleRequest
    else choice_in bout.battle side dex (want_in text)

abbrev pub refused : Result Choice Why → Option Why
refused (Ok choice) = None
refused (Err why) = Some why

abbrev pub refusal_of_choose : Bout → ℕ → Tables → List ℕ → Option ℕ → Option Why
refusal_of_choose bout side dex text number = refused (chosen bout side dex text number)

abbrev pub refusal_of_undo : Bout → ℕ → Option Why
refusal_of_undo bout side = if is_some (waiting bout side) then None else Some whys.NothingChosen

abbrev pub refusal_of_forfeit : Bout → Option Why
refusal_of_forfeit bout = if is_over bout.battle.phase then Some whys.NotYourTurn else None
