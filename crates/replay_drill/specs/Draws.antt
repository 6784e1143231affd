-- What each step of a drill draws.
use Rattle.std.specs.Prelude.{ℕ, zero, suc, ◌+◌, ◌==◌, List, if◌then◌else◌}
use Rattle.ps_calc.specs.Draws.{after, drawn}
use Rattle.replay_drill.specs.Lines.{talk_line, whisper_line, note_line}

-- a connection, 1 to 8, drawn from this state
abbrev pub conn_drawn : ℕ → ℕ
conn_drawn state = 1 + drawn (after state) 8

-- who speaks: the step's first draw
abbrev pub speaker : ℕ → ℕ
speaker state = conn_drawn state

-- what is done: the second draw, 0 for talk, 1 for a whisper, 2 for a note
abbrev pub kind : ℕ → ℕ
kind state = drawn (after (after state)) 3

-- to whom a whisper goes: the third draw, of whispers alone
abbrev pub hearer : ℕ → ℕ
hearer state = conn_drawn (after (after state))

-- a step's line, from the state before it
unfoldable pub drawn_line : ℕ → ℕ → List ℕ
drawn_line step state =
    if kind state == 0 then talk_line (speaker state) step
    else (if kind state == 1 then whisper_line (speaker state) (hearer state) step
    else note_line (speaker state) step)

-- the state after a step: a whisper draws once more than the others
unfoldable pub after_step : ℕ → ℕ
after_step state = if kind state == 1 then after (after (after state)) else after (after state)

-- the state after so many steps
abbrev pub after_steps : ℕ → ℕ → ℕ
after_steps state zero = state
after_steps state (suc steps) = after_step (after_steps state steps)
