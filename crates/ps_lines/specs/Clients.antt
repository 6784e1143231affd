-- The room and the text of what a client sends.
use Rattle.std.specs.Prelude.{ℕ, List, length, Option, Some, None, Result, Ok, Err, nat_lt, if◌then◌else◌}
use Rattle.std.specs.Str.{is_utf8}
use Rattle.ps_base.specs.Numbers.{counted}
use Rattle.ps_base.specs.Limits.{most_text}
use Rattle.ps_lines.specs.Parts.{at_first}
use Rattle.ps_lines.specs.declared.client.ClientFault.{ClientFault}
use Rattle.ps_lines.specs.declared.client.ClientFault.TheVariants.{Long, NotUtf8, NoBar}
use Rattle.ps_base.specs.Characters as characters

-- the bytes as a text, if they are UTF-8
unfoldable pub text_of : List ℕ → Option (List ℕ)
text_of bytes = if is_utf8 bytes then Some bytes else None

-- a text with a bar, by its parts round the first
abbrev pub barred : Option (List ℕ × List ℕ) → Result (List ℕ × List ℕ) ClientFault
barred None = Err NoBar
barred (Some parts) = Ok parts

-- bytes that are UTF-8
abbrev pub readable : Option (List ℕ) → Result (List ℕ × List ℕ) ClientFault
readable None = Err NotUtf8
readable (Some text) = barred (at_first characters.bar text)

-- the room and the text: at most 8,192 bytes of UTF-8, parted at the first bar
unfoldable pub client : List ℕ → Result (List ℕ × List ℕ) ClientFault
client bytes = if nat_lt most_text (length bytes) then Err (Long (counted (length bytes))) else readable (text_of bytes)
