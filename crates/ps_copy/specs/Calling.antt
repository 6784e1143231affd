-- Moves in whose place another move is used: Metronome takes some move of the dex, Mirror Move the foe's last one.
use Rattle.std.specs.Prelude.{ℕ, Bool, true, false, Option, Some, None, List, length, not, ◌==◌, slice_index}
use Rattle.ps_event.specs.declared.event.Event.TheVariants as events
use Rattle.ps_mon.specs.declared.effect.Effect.{Effect}
use Rattle.ps_mon.specs.declared.effect.Effect.TheVariants as effects
use Rattle.ps_mon.specs.declared.effect.CopyKind.{CopyKind}
use Rattle.ps_mon.specs.declared.effect.CopyKind.TheVariants as kinds
use Rattle.ps_mon.specs.Facts.{Figures}
use Rattle.ps_mon.specs.declared.facts.MoveData.{MoveData}
use Rattle.ps_mon.specs.Moves.{move_of}
use Rattle.ps_hits.specs.Scenes.{Play, ◌>>=◌, ◌>>◌, give, duel_now, tell, choose, draw}
use Rattle.ps_hits.specs.Told.{who_of}
use Rattle.ps_copy.specs.Indices.{indices}

-- how many moves can be used in turn in the place of one of that kind, each in the place of the one before: Metronome may take
-- Mirror Move, and what that takes takes none
abbrev pub calls_of : CopyKind → ℕ
calls_of kinds.Metronome = 2
calls_of kinds.MirrorMove = 1
calls_of other = 0

abbrev pub calls_left : Effect → ℕ
calls_left (effects.Copy sub) = calls_of sub
calls_left other = 0

-- the kind of Metronome
abbrev pub is_metronome_kind : CopyKind → Bool
is_metronome_kind kinds.Metronome = true
is_metronome_kind other = false

abbrev pub is_metronome : Effect → Bool
is_metronome (effects.Copy sub) = is_metronome_kind sub
is_metronome other = false

-- the kinds of Metronome and of Mirror Move
abbrev pub is_calling_kind : CopyKind → Bool
is_calling_kind kinds.Metronome = true
is_calling_kind kinds.MirrorMove = true
is_calling_kind other = false

abbrev pub is_calling : Effect → Bool
is_calling (effects.Copy sub) = is_calling_kind sub
is_calling other = false

-- whether Metronome can take a move: any but one of its own kind
abbrev pub is_callable : MoveData → Bool
is_callable move = not (is_metronome move.effect)

-- the indices of those moves in the dex
unfoldable pub callable : Figures → List ℕ
callable facts = indices is_callable 0 facts.moves

abbrev pub fail : Play (Option ℕ)
fail = do
  duel ← duel_now
  tell (events.Fail (who_of duel.user))
  give None

-- metronome: one of those moves, drawn; Fail where there is none
unfoldable pub metronome_row : Figures → Play (Option ℕ)
metronome_row facts = choose (length (callable facts) == 0) fail (do
  index ← draw (length (callable facts))
  give (Some (slice_index (callable facts) index)))

-- a move that Mirror Move can take: any but Metronome and Mirror Move
abbrev pub unless_calling : Bool → ℕ → Option ℕ
unless_calling true mv = None
unless_calling false mv = Some mv

abbrev pub mirrored : Figures → Option ℕ → Option ℕ
mirrored facts None = None
mirrored facts (Some mv) = unless_calling (is_calling (move_of facts mv).effect) mv

abbrev pub give_or_fail : Option ℕ → Play (Option ℕ)
give_or_fail None = fail
give_or_fail (Some mv) = give (Some mv)

-- mirrormove: the foe's last move; Fail where there is none that it can take
unfoldable pub mirrormove_row : Figures → Play (Option ℕ)
mirrormove_row facts = do
  duel ← duel_now
  give_or_fail (mirrored facts duel.foe.vol.last)
