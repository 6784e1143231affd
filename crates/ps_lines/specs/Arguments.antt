-- The arguments of a command. What follows the command's word and one space is None where the space is missing.
use Rattle.std.specs.Prelude.{ℕ, List, [], ◌∷◌, Option, Some, None, Result, Ok, Err, ⊤}
use Rattle.std.specs.Str.{chars}
use Rattle.ps_base.specs.Ids.{id_of}
use Rattle.ps_lines.specs.Faults.{◌>>=◌}
use Rattle.ps_lines.specs.Parts.{at_first, after_space}
use Rattle.ps_lines.specs.declared.command.CommandFault.{CommandFault}
use Rattle.ps_lines.specs.declared.command.CommandFault.TheVariants.{BadArgs}
use Rattle.ps_base.specs.Characters as characters

-- a command without arguments: nothing follows
abbrev pub nothing : Option (List ℕ) → Result ⊤ CommandFault
nothing None = Ok tt
nothing (Some text) = Err (BadArgs 1)

-- a text, which may be empty
abbrev pub argument : Option (List ℕ) → Result (List ℕ) CommandFault
argument None = Err (BadArgs 1)
argument (Some text) = Ok text

-- an id that isn't empty
abbrev pub filled : ℕ → List ℕ → Result (List ℕ) CommandFault
filled which [] = Err (BadArgs which)
filled which (byte ∷ bytes) = Ok (byte ∷ bytes)

-- USER or FORMAT: a text whose id isn't empty
abbrev pub id_at : ℕ → List ℕ → Result (List ℕ) CommandFault
id_at which text = filled which (id_of text)

-- the one character of a list
abbrev pub only : ℕ → List ℕ → Result ℕ CommandFault
only which [] = Err (BadArgs which)
only which (char ∷ []) = Ok char
only which (char ∷ extra ∷ more) = Err (BadArgs which)

-- SYMBOL: one character
abbrev pub symbol_at : ℕ → List ℕ → Result ℕ CommandFault
symbol_at which text = only which (chars text)

-- two arguments, of which the second may be missing with its comma
abbrev pub parted : List ℕ → Option (List ℕ × List ℕ) → List ℕ × Option (List ℕ)
parted text None = (text, None)
parted text (Some parts) = (parts.0, Some (after_space parts.1))

-- the arguments before and after the first comma and the one space behind it
abbrev pub two : List ℕ → List ℕ × Option (List ℕ)
two text = parted text (at_first characters.comma text)

-- a second argument that may not be missing
abbrev pub second : Option (List ℕ) → Result (List ℕ) CommandFault
second None = Err (BadArgs 2)
second (Some text) = Ok text

-- USER or FORMAT as the one argument
abbrev pub one_id : Option (List ℕ) → Result (List ℕ) CommandFault
one_id rest = do
  text ← argument rest
  id_at 1 text

-- USER, REASON: the reason may be missing with its comma
abbrev pub user_and_reason : Option (List ℕ) → Result (List ℕ × Option (List ℕ)) CommandFault
user_and_reason rest = do
  text ← argument rest
  user ← id_at 1 (two text).0
  Ok (user, (two text).1)

-- USER, FORMAT
abbrev pub user_and_format : Option (List ℕ) → Result (List ℕ × List ℕ) CommandFault
user_and_format rest = do
  text ← argument rest
  user ← id_at 1 (two text).0
  named ← second (two text).1
  format ← id_at 2 named
  Ok (user, format)
