-- How a connection is told of a place, whatever stands there.
use Rattle.std.specs.Prelude.{◌≡◌, ℕ, ◌≤◌, List, ◌++◌, map, length, take, Option, None}
use Rattle.ps_base.specs.declared.msg.Msg.{Msg}
use Rattle.ps_base.specs.Messages.{msg_lines}

-- the lines of messages
abbrev pub lines_of : List Msg → List (List (List ℕ))
lines_of msgs = map msg_lines msgs

-- What a connection is shown of a list of commands, after an origin; where its cursor stands if it was told of all of them; how many
-- commands a cursor has passed; and a cursor with this bound, or with none.
pub record Telling (O C X : Type 0) : Type 1 where
  pub shows : ℕ → O → List C → List (List (List ℕ)) → Type 0
  pub stands_at : ℕ → O → List C → X → Type 0
  pub passed : X → ℕ
  pub bounded : Option ℕ → X → X

module _ {C X : Type 0} (shows : List C → List (List (List ℕ)) → Type 0) (stands_at : List C → X → Type 0) where
  -- Of the history that a pass has seen the messages of the first `passed` entries were pulled, and those of the first `at`
  -- were handed out; what is kept lies between.
  pub record IsTold (cmds : List C) (pass_cursor : X) (passed : ℕ) (kept : List (List (List ℕ))) (at : ℕ) : Type 0 where
    pub within : passed ≤ length cmds
    pub handed_out : at ≤ passed
    pub cursor : stands_at (take passed cmds) pass_cursor
    pub before : List (List (List ℕ))
    pub shown_before : shows (take at cmds) before
    pub shown : shows (take passed cmds) (before ++ kept)

  -- pulling goes on where it left off, up to a place further on
  abbrev pub GoesOn : (List C → X → List Msg → X → Type 0) → (X → ℕ) → Type 0
  GoesOn pulls passed = (before later : List C) (old new : X) (ms : List (List (List ℕ))) (msgs : List Msg)
      → stands_at before old → shows before ms → pulls (before ++ later) old msgs new
      → (length before ≤ passed new) × (passed new ≤ length (before ++ later))
      × shows (take (passed new) (before ++ later)) (ms ++ lines_of msgs)
      × stands_at (take (passed new) (before ++ later)) new

module _ {O C X : Type 0} (pulls : O → List C → X → List Msg → X → Type 0) where
  -- what is pulled with a bound that is set for this alone
  abbrev pub UpTo : (Option ℕ → X → X) → O → List C → X → List Msg → X → Type 0
  UpTo bounded origin cmds old msgs new = (until : Option ℕ) × (reached : X) × pulls origin cmds (bounded until old) msgs reached
      × (new ≡ bounded None reached)

  -- What is pulled goes on where it left off, whatever the bound. Between two calls a cursor has no bound, and who pulls without one leaves
  -- none; one that is set takes the place of an earlier one.
  pub record IsLawful (telling : Telling O C X) : Type 0 where
    pub goes_on : (conn : ℕ) (origin : O) → GoesOn (telling.shows conn origin) (telling.stands_at conn origin)
        (UpTo telling.bounded origin) telling.passed
    pub free : (conn : ℕ) (origin : O) (cmds : List C) (cursor : X) → telling.stands_at conn origin cmds cursor
        → telling.bounded None cursor ≡ cursor
    pub unset : (origin : O) (cmds : List C) (cursor new_cursor : X) (msgs : List Msg) → telling.bounded None cursor ≡ cursor
        → pulls origin cmds cursor msgs new_cursor
        → UpTo telling.bounded origin cmds cursor msgs new_cursor
    pub last : (first second : Option ℕ) (cursor : X)
        → telling.bounded second (telling.bounded first cursor) ≡ telling.bounded second cursor
