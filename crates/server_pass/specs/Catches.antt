-- What a connection is told of a place, piece by piece.
use Rattle.std.specs.Prelude.{◌≡◌, ℕ, ◌≤◌, List, ◌++◌, length, take, All}
use Rattle.ps_base.specs.declared.msg.Msg.{Msg}
use Rattle.ps_histlock.specs.Histories.{commands}
use Rattle.ps_histlock.specs.Seated.{TableId}
use Rattle.ps_histlock.specs.declared.view.View.{View}
use Rattle.ps_histlock.specs.Views.{after_look}
use Rattle.server_pass.specs.Tellings.{Telling, lines_of}
use Rattle.server_pass.specs.Turns.{Rereads}
use Rattle.server_pass.specs.declared.pass.PlacePass.{PlacePass}

-- a look shows at least all that the pass knew, and no less than any before
abbrev pub IsFresh : {O C : Type 0} → View O C → ℕ → Type 0
IsFresh view shown = (length view.known ≤ shown) × All (λ (look : ℕ). look ≤ shown) view.looks

-- A look, and then turns without an entry, none if it showed no more than the cursor had passed.
pub record LooksAnd {O C : Type 0} (old : View O C) (passed : ℕ) (new : View O C) (now : ℕ) : Type 0 where
  pub shown : ℕ
  pub seen : length old.seen ≤ shown
  pub fresh : IsFresh old shown
  pub read : Rereads (after_look old shown) new
  pub idle : shown ≤ passed → new ≡ after_look old shown
  -- all that the look showed is among the first `now` entries
  pub answered : shown ≤ now

-- a look, and then turns without an entry, if any
abbrev pub LooksAtMost : {O C : Type 0} → View O C → View O C → Type 0
LooksAtMost old new = (shown : ℕ) × (length old.seen ≤ shown) × Rereads (after_look old shown) new × IsFresh old shown

-- The messages that are handed out are those past the place up to which they were, up to a place further on.
module _ {C : Type 0} (shows : List C → List (List (List ℕ)) → Type 0) where
  pub record HandsOut (cmds : List C) (at : ℕ) (msgs : List Msg) (more : List C) (now : ℕ) : Type 0 where
    pub before : List (List (List ℕ))
    pub shown_before : shows (take at cmds) before
    pub on : at ≤ now
    pub within : now ≤ length more
    pub shown : shows (take now more) (before ++ lines_of msgs)

module _ {O C X N I : Type 0} (telling : Telling O C X) (conn : ℕ) (origin : O) where
  -- a look, turns until all was pulled that it showed, and all of it was handed out
  abbrev pub Caught : List Msg → PlacePass (TableId × View O C) X N I → PlacePass (TableId × View O C) X N I → Type 0
  Caught msgs before behind =
      LooksAnd before.pass.1 (telling.passed before.cursor) behind.pass.1 behind.at
      × HandsOut (telling.shows conn origin) (commands before.pass.1.seen) before.at msgs (commands behind.pass.1.seen) behind.at

  -- a piece was handed out, for which turns without an entry were taken, if any
  abbrev pub Handed : List Msg → PlacePass (TableId × View O C) X N I → PlacePass (TableId × View O C) X N I → Type 0
  Handed msgs before behind = Rereads before.pass.1 behind.pass.1
      × HandsOut (telling.shows conn origin) (commands before.pass.1.seen) before.at msgs (commands behind.pass.1.seen) behind.at
