-- Limits that several crates share.
use Rattle.std.specs.Prelude.{ℕ}

-- how many battles start at the most
abbrev pub most_battles : ℕ
most_battles = 65536

-- how many bytes a client's text has at the most
abbrev pub most_text : ℕ
most_text = 8192
