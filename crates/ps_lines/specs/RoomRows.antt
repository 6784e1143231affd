-- The rows of the room table: the command of each word, from what follows the word. No text stands for Quit.
use Rattle.std.specs.Prelude.{ℕ, List, codes, Option, Some, None, Result, Ok, Err, if◌then◌else◌}
use Rattle.std.specs.Str.{bytes_eq}
use Rattle.ps_base.specs.Numbers.{number_in}
use Rattle.ps_lines.specs.Parts.{at_last}
use Rattle.ps_lines.specs.Faults.{◌>>=◌}
use Rattle.ps_lines.specs.Arguments.{nothing, argument, id_at, symbol_at, two, second, one_id, user_and_reason}
use Rattle.ps_lines.specs.declared.command.CommandFault.{CommandFault}
use Rattle.ps_lines.specs.declared.command.CommandFault.TheVariants.{BadArgs}
use Rattle.ps_lines.specs.declared.command.Parsed.{Parsed}
use Rattle.ps_lines.specs.declared.command.Parsed.TheVariants.{Room}
use Rattle.ps_lines.specs.declared.command.Command.TheVariants.{Join, Leave, Say, Announce, Modnote, Warn, Mute, Unmute, Ban, Unban}
use Rattle.ps_lines.specs.declared.command.Command.TheVariants.{Promote, Modchat, Choose, Undo, Forfeit}
use Rattle.ps_base.specs.Characters as characters

-- `/join ROOM`
abbrev pub join : Option (List ℕ) → Result Parsed CommandFault
join rest = do
  room ← argument rest
  Ok (Room (Join room))

-- `/leave`
abbrev pub leave : Option (List ℕ) → Result Parsed CommandFault
leave rest = do
  _ ← nothing rest
  Ok (Room Leave)

-- any text that doesn't begin with a slash
abbrev pub say : List ℕ → Result Parsed CommandFault
say text = Ok (Room (Say text))

-- `/announce TEXT`
abbrev pub announce : Option (List ℕ) → Result Parsed CommandFault
announce rest = do
  text ← argument rest
  Ok (Room (Announce text))

-- `/modnote TEXT`
abbrev pub modnote : Option (List ℕ) → Result Parsed CommandFault
modnote rest = do
  text ← argument rest
  Ok (Room (Modnote text))

-- `/warn USER, REASON`
abbrev pub warn : Option (List ℕ) → Result Parsed CommandFault
warn rest = do
  named ← user_and_reason rest
  Ok (Room (Warn named.0 named.1))

-- `/mute USER, REASON`
abbrev pub mute : Option (List ℕ) → Result Parsed CommandFault
mute rest = do
  named ← user_and_reason rest
  Ok (Room (Mute named.0 named.1))

-- `/unmute USER`
abbrev pub unmute : Option (List ℕ) → Result Parsed CommandFault
unmute rest = do
  user ← one_id rest
  Ok (Room (Unmute user))

-- `/ban USER, REASON`
abbrev pub ban : Option (List ℕ) → Result Parsed CommandFault
ban rest = do
  named ← user_and_reason rest
  Ok (Room (Ban named.0 named.1))

-- `/unban USER`
abbrev pub unban : Option (List ℕ) → Result Parsed CommandFault
unban rest = do
  user ← one_id rest
  Ok (Room (Unban user))

-- `/roompromote USER, SYMBOL`
abbrev pub promote : Option (List ℕ) → Result Parsed CommandFault
promote rest = do
  text ← argument rest
  user ← id_at 1 (two text).0
  group ← second (two text).1
  symbol ← symbol_at 2 group
  Ok (Room (Promote user symbol))

-- the symbol of a group, or `off`
abbrev pub level : List ℕ → Result (Option ℕ) CommandFault
level text = if bytes_eq text (codes "off") then Ok None else (symbol_at 1 text >>= λ symbol. Ok (Some symbol))

-- `/modchat SYMBOL` or `/modchat off`
abbrev pub modchat : Option (List ℕ) → Result Parsed CommandFault
modchat rest = do
  text ← argument rest
  symbol ← level text
  Ok (Room (Modchat symbol))

-- a choice and the number behind its last bar
abbrev pub numbered : List ℕ → Option ℕ → Result Parsed CommandFault
numbered choice None = Err (BadArgs 2)
numbered choice (Some rqid) = Ok (Room (Choose choice (Some rqid)))

-- a choice, and its parts round its last bar
abbrev pub chosen : List ℕ → Option (List ℕ × List ℕ) → Result Parsed CommandFault
chosen choice None = Ok (Room (Choose choice None))
chosen choice (Some parts) = numbered parts.0 (number_in parts.1)

-- `/choose CHOICE` or `/choose CHOICE|RQID`
abbrev pub choose : Option (List ℕ) → Result Parsed CommandFault
choose rest = do
  text ← argument rest
  chosen text (at_last characters.bar text)

-- `/undo`
abbrev pub undo : Option (List ℕ) → Result Parsed CommandFault
undo rest = do
  _ ← nothing rest
  Ok (Room Undo)

-- `/forfeit`
abbrev pub forfeit : Option (List ℕ) → Result Parsed CommandFault
forfeit rest = do
  _ ← nothing rest
  Ok (Room Forfeit)
