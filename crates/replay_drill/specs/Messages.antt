-- How many messages a transcript has: its lines that begin with `N< `.
use Rattle.std.specs.Prelude.{ℕ, ◌+◌, ◌-◌, ◌^◌, ◌==◌, ◌&&◌, Bool, nat_le, min, List, [], ◌∷◌, if◌then◌else◌}
use Rattle.replay_drill.specs.declared.mark.Mark.{Mark}
use Rattle.replay_drill.specs.declared.mark.Mark.TheVariants.{Start, Number, Sign, Inside}
use Rattle.ps_base.specs.Characters as characters

abbrev pub is_digit : ℕ → Bool
is_digit byte = nat_le characters.digit_zero byte && nat_le byte characters.digit_nine

-- within a line
abbrev pub next_within : Mark → ℕ → Mark
next_within Start byte = if is_digit byte then Number else Inside
next_within Number byte = if is_digit byte then Number else (if byte == characters.less_than then Sign else Inside)
next_within Sign byte = Inside
next_within Inside byte = Inside

-- how far a line has come with one byte more; a newline ends it
unfoldable pub next_mark : Mark → ℕ → Mark
next_mark mark byte = if byte == characters.newline then Start else next_within mark byte

-- how many messages the byte begins: one, where it is the space behind digits and `<`
abbrev pub begins : Mark → ℕ → ℕ
begins Start byte = 0
begins Number byte = 0
begins Sign byte = if byte == characters.space then 1 else 0
begins Inside byte = 0

-- for the code alone: behind a text whose last line had come so far
abbrev pub mark_after : Mark → List ℕ → Mark
mark_after mark [] = mark
mark_after mark (byte ∷ bytes) = mark_after (next_mark mark byte) bytes

abbrev pub messages_from : Mark → List ℕ → ℕ
messages_from mark [] = 0
messages_from mark (byte ∷ bytes) = begins mark byte + messages_from (next_mark mark byte) bytes

-- the lines of a text that begin with digits, `<` and a space
abbrev pub messages_in : List ℕ → ℕ
messages_in text = messages_from Start text

-- for the code alone: a count as a number of 64 bits, which stands still at the greatest
abbrev pub counted : ℕ → ℕ
counted count = min count (2 ^ 64 - 1)
