-- Texts that somebody says or whispers.
use Rattle.std.specs.Prelude.{ℕ, Bool, List, length, nat_lt, ◌==◌}
use Rattle.std.specs.List.{list_all}
use Rattle.std.specs.Str.{chars}
use Rattle.ps_base.specs.Characters as characters

-- a text of spaces alone
abbrev pub is_blank : List ℕ → Bool
is_blank text = list_all (λ byte. byte == characters.space) text

-- a text of more than 300 characters
abbrev pub is_long : List ℕ → Bool
is_long text = nat_lt 300 (length (chars text))
