-- The command that a client's text stands for. A text has at most one.
use Rattle.std.specs.Prelude.{ℕ, Bool, true, false, List, codes, Option, Some, None, Result, Err, nat_lt}
use Rattle.std.specs.List.{list_any}
use Rattle.ps_base.specs.Cuts.{after_front}
use Rattle.ps_lines.specs.Parts.{at_first}
use Rattle.ps_lines.specs.Words.{word_of}
use Rattle.ps_lines.specs.RoomRows.{join, leave, say, announce, modnote, warn, mute, unmute, ban, unban, promote, modchat, choose}
use Rattle.ps_lines.specs.RoomRows.{undo, forfeit}
use Rattle.ps_lines.specs.HallRows.{trn, utm, search_for, cancel_search, challenge, cancel_challenge, reject, accept, whisper, block}
use Rattle.ps_lines.specs.HallRows.{unblock, rank}
use Rattle.ps_lines.specs.declared.command.CommandFault.{CommandFault}
use Rattle.ps_lines.specs.declared.command.CommandFault.TheVariants.{UnknownCommand, BadArgs}
use Rattle.ps_lines.specs.declared.command.Parsed.{Parsed}
use Rattle.ps_lines.specs.declared.word.Word.{Word}
use Rattle.ps_lines.specs.declared.word.Word.TheVariants.{Join, Leave, Announce, Modnote, Warn, Mute, Unmute, Ban, Unban, Promote}
use Rattle.ps_lines.specs.declared.word.Word.TheVariants.{Modchat, Choose, Undo, Forfeit, Name, Team, Search, CancelSearch, Challenge}
use Rattle.ps_lines.specs.declared.word.Word.TheVariants.{CancelChallenge, Reject, Accept, Whisper, Block, Unblock, Rank}
use Rattle.ps_base.specs.Characters as characters

-- the row of a word
abbrev pub row : Word → Option (List ℕ) → Result Parsed CommandFault
row Join rest = join rest
row Leave rest = leave rest
row Announce rest = announce rest
row Modnote rest = modnote rest
row Warn rest = warn rest
row Mute rest = mute rest
row Unmute rest = unmute rest
row Ban rest = ban rest
row Unban rest = unban rest
row Promote rest = promote rest
row Modchat rest = modchat rest
row Choose rest = choose rest
row Undo rest = undo rest
row Forfeit rest = forfeit rest
row Name rest = trn rest
row Team rest = utm rest
row Search rest = search_for rest
row CancelSearch rest = cancel_search rest
row Challenge rest = challenge rest
row CancelChallenge rest = cancel_challenge rest
row Reject rest = reject rest
row Accept rest = accept rest
row Whisper rest = whisper rest
row Block rest = block rest
row Unblock rest = unblock rest
row Rank rest = rank rest

-- a control character, below U+0020, stands in a text
abbrev pub has_control : List ℕ → Bool
has_control text = list_any (λ byte. nat_lt byte characters.space) text

-- a text has no control character, else its argument 0 is bad
abbrev pub clean : Bool → Result Parsed CommandFault → Result Parsed CommandFault
clean true read = Err (BadArgs 0)
clean false read = read

-- a line behind its slash, whose text has a control character or not: the word must be in a table
abbrev pub worded : Bool → Option Word → Option (List ℕ) → Result Parsed CommandFault
worded control None rest = Err UnknownCommand
worded control (Some word) rest = clean control (row word rest)

-- a line behind its slash, by the parts round its first space: without one it is all word
abbrev pub spaced : Bool → List ℕ → Option (List ℕ × List ℕ) → Result Parsed CommandFault
spaced control line None = worded control (word_of line) None
spaced control line (Some parts) = worded control (word_of parts.0) (Some parts.1)

-- a text, and what follows its slash if it begins with one
abbrev pub slashed : List ℕ → Option (List ℕ) → Result Parsed CommandFault
slashed text None = clean (has_control text) (say text)
slashed text (Some line) = spaced (has_control text) line (at_first characters.space line)

unfoldable pub command : List ℕ → Result Parsed CommandFault
command text = slashed text (after_front (codes "/") text)
