-- What a turn leaves of a pass, its cursor and the messages that are kept.
use Rattle.std.specs.Prelude.{◌≡◌, ◌⊎◌, ℕ, zero, suc, List, ◌++◌, length, Option, Some, None, Result, Ok, Err}
use Rattle.ps_base.specs.declared.msg.Msg.{Msg}
use Rattle.ps_histlock.specs.declared.view.Entry.{Entry}
use Rattle.ps_histlock.specs.declared.view.View.{View}
use Rattle.ps_histlock.specs.declared.lock.TheConstants.{OWN_LIMIT}
use Rattle.ps_histlock.specs.Histories.{commands}
use Rattle.ps_histlock.specs.Views.{Extends}
use Rattle.ps_histlock.specs.declared.turn.Unread.{Unread}
use Rattle.ps_histlock.specs.declared.turn.Unread.TheVariants as unread
use Rattle.ps_histlock.specs.Turns.{turned, Turns, IsBusy}
use Rattle.server_pass.specs.declared.turn_end.Back.{Back}
use Rattle.server_pass.specs.declared.turn_end.TurnEnd.{TurnEnd}
use Rattle.server_pass.specs.declared.turn_end.TurnEnd.TheVariants.{Done, Busy, OwnLimit, NameTaken, NoMemory}

module _ {O C : Type 0} where
  -- the same after tries in vain, which met these words
  abbrev pub TurnsAtLast : View O C → Option C → View O C → Type 0
  TurnsAtLast old cmd new = (words : List ℕ) × Turns (record old { met = old.met ++ words }) cmd new

  -- so many turns without an entry, one behind the other
  abbrev pub ReadsOn : ℕ → View O C → View O C → Type 0
  ReadsOn zero old new = new ≡ old
  ReadsOn (suc turns) old new = (mid : View O C) × ReadsOn turns old mid × TurnsAtLast mid None new

  -- turns without an entry, if any
  abbrev pub Rereads : View O C → View O C → Type 0
  Rereads old new = (turns : ℕ) × ReadsOn turns old new

  -- a turn with an entry, behind turns without one, if any: tries for which memory was wanting
  abbrev pub TurnsInTheEnd : View O C → C → View O C → Type 0
  TurnsInTheEnd old cmd new = (mid : View O C) × Rereads old mid × TurnsAtLast mid (Some cmd) new

module _ {O C X : Type 0} where
  -- Of the view and the cursor before, the two after, if out of memory for an entry: there was no turn, or one without it. The
  -- cursor stands where it stood.
  abbrev pub FallsShort : View O C → X → View O C → X → Type 0
  FallsShort old cursor new new_cursor = (new_cursor ≡ cursor) × ((new ≡ old) ⊎ Turns old None new)

  abbrev pub FallsShortAtLast : View O C → X → View O C → X → Type 0
  FallsShortAtLast old cursor new new_cursor = (new_cursor ≡ cursor) × ((new ≡ old) ⊎ TurnsAtLast old None new)

module _ {O C X : Type 0} (pulls : O → List C → X → List Msg → X → Type 0) where
  -- of the commands of a history, and the cursor and the messages kept before, the two after: what was pulled stands behind
  abbrev pub PullsMore : O → List C → X → List Msg → X → List Msg → Type 0
  PullsMore origin cmds old kept new more = (msgs : List Msg) × pulls origin cmds old msgs new × (more ≡ kept ++ msgs)

  -- the same; or nothing was pulled, if memory ran out for the messages, which are still to come
  abbrev pub PullsIfCan : O → List C → X → List Msg → X → List Msg → Type 0
  PullsIfCan origin cmds old kept new more = PullsMore origin cmds old kept new more ⊎ ((new ≡ old) × (more ≡ kept))

  -- Of the view, the cursor and the messages kept before, how a turn without a command ended, and the three after
  abbrev pub Reads : {T : Type 0} → View O C → X → List Msg → Result T Unread → View O C → X → List Msg → Type 0
  Reads old cursor kept (Ok done) new new_cursor more = Turns old None new
      × PullsMore old.origin (commands new.seen) cursor kept new_cursor more
  Reads old cursor kept (Err (unread.Busy word)) new new_cursor more = IsBusy old word new × (new_cursor ≡ cursor) × (more ≡ kept)
  Reads old cursor kept (Err unread.NoMemory) new new_cursor more = ((new ≡ old) ⊎ Turns old None new) × (new_cursor ≡ cursor)
      × (more ≡ kept)

  -- the same after tries in vain: it isn't busy then
  abbrev pub ReadsAtLast : {T E : Type 0} → View O C → X → List Msg → Result T E → View O C → X → List Msg → Type 0
  ReadsAtLast old cursor kept (Ok done) new new_cursor more = TurnsAtLast old None new
      × PullsMore old.origin (commands new.seen) cursor kept new_cursor more
  ReadsAtLast old cursor kept (Err fault) new new_cursor more = ((new ≡ old) ⊎ TurnsAtLast old None new) × (new_cursor ≡ cursor)
      × (more ≡ kept)

module _ {O C U X : Type 0} (answers : O → List C → C → U → Type 0) (pulls : O → List C → X → List Msg → X → Type 0) where
  -- Of the view, the cursor, the messages kept and the command before, what a turn with it gave, and the three after
  abbrev pub Takes : {L : Type 0} → View O C → X → List Msg → C → TurnEnd U (Back C) L → View O C → X → List Msg → Type 0
  Takes old cursor kept cmd (Done out) new new_cursor more =
      (log : List (Entry C)) × Extends old log × (new ≡ turned old log (Some cmd)) × answers old.origin (commands log) cmd out
      × PullsIfCan pulls old.origin (commands new.seen) cursor kept new_cursor more
  Takes old cursor kept cmd (Busy back) new new_cursor more = IsBusy old back.word new × (back.cmd ≡ cmd) × (new_cursor ≡ cursor)
      × (more ≡ kept)
  Takes old cursor kept cmd (OwnLimit reason) new new_cursor more = (length old.mine ≡ OWN_LIMIT) × (new ≡ old)
      × (new_cursor ≡ cursor) × (more ≡ kept)
  Takes old cursor kept cmd NameTaken new new_cursor more = Turns old None new × (new_cursor ≡ cursor) × (more ≡ kept)
  Takes old cursor kept cmd NoMemory new new_cursor more = FallsShort old cursor new new_cursor × (more ≡ kept)

  -- The same after tries in vain. It isn't busy then; at its limit, or without memory at once, it tries nothing
  abbrev pub TakesAtLast : {T B L : Type 0} → View O C → X → List Msg → C → TurnEnd T B L → View O C → X → List Msg → Type 0
  TakesAtLast old cursor kept cmd (Done out) new new_cursor more = TurnsAtLast old (Some cmd) new
      × PullsIfCan pulls old.origin (commands new.seen) cursor kept new_cursor more
  TakesAtLast old cursor kept cmd (Busy back) new new_cursor more = ⊥
  TakesAtLast old cursor kept cmd (OwnLimit reason) new new_cursor more = ⊥
  TakesAtLast old cursor kept cmd NameTaken new new_cursor more = TurnsAtLast old None new × (new_cursor ≡ cursor) × (more ≡ kept)
  TakesAtLast old cursor kept cmd NoMemory new new_cursor more = FallsShortAtLast old cursor new new_cursor × (more ≡ kept)

module _ {U B L : Type 0} where
  -- this holds where there is no entry, since one stands that is signed as the command is
  abbrev pub IfKeptOut : TurnEnd U B L → Type 0 → Type 0
  IfKeptOut NameTaken P = P
  IfKeptOut other P = Unit {0}

  -- no entry was made, since the pass may make no more, or for being out of memory
  abbrev pub IsLimited : TurnEnd U B L → Type 0
  IsLimited (OwnLimit reason) = Unit {0}
  IsLimited NoMemory = Unit {0}
  IsLimited other = ⊥
