-- The rows of the hall table: the command of each word, from what follows the word. No text stands for Open, Quit,
-- Bad and Report.
use Rattle.std.specs.Prelude.{ℕ, List, codes, Option, Some, None, Result, Ok, Err, if◌then◌else◌}
use Rattle.std.specs.Str.{bytes_eq}
use Rattle.ps_lines.specs.Parts.{at_first}
use Rattle.ps_lines.specs.Faults.{◌>>=◌}
use Rattle.ps_lines.specs.Arguments.{nothing, argument, id_at, two, second, one_id, user_and_format}
use Rattle.ps_lines.specs.declared.command.CommandFault.{CommandFault}
use Rattle.ps_lines.specs.declared.command.CommandFault.TheVariants.{BadArgs}
use Rattle.ps_lines.specs.declared.command.Parsed.{Parsed}
use Rattle.ps_lines.specs.declared.command.Parsed.TheVariants.{Hall}
use Rattle.ps_lines.specs.declared.command.HallCmd.TheVariants.{Name, Team, Search, CancelSearch, Challenge, CancelChallenge, Reject}
use Rattle.ps_lines.specs.declared.command.HallCmd.TheVariants.{Accept, Whisper, Block, Unblock, Rank}
use Rattle.ps_base.specs.Characters as characters

-- the parts round a comma that may not be missing
abbrev pub comma : ℕ → Option (List ℕ × List ℕ) → Result (List ℕ × List ℕ) CommandFault
comma which None = Err (BadArgs which)
comma which (Some parts) = Ok parts

-- `/trn NAME,0,ASSERTION`: no space is dropped behind these commas
abbrev pub trn : Option (List ℕ) → Result Parsed CommandFault
trn rest = do
  text ← argument rest
  name ← comma 1 (at_first characters.comma text)
  zero ← comma 2 (at_first characters.comma name.1)
  if bytes_eq zero.0 (codes "0") then Ok (Hall (Name name.0 zero.1)) else Err (BadArgs 2)

-- `/utm TEAM`, `/utm null` and `/utm`
abbrev pub utm : Option (List ℕ) → Result Parsed CommandFault
utm None = Ok (Hall (Team None))
utm (Some text) = if bytes_eq text (codes "null") then Ok (Hall (Team None)) else Ok (Hall (Team (Some text)))

-- `/search FORMAT`
abbrev pub search_for : Option (List ℕ) → Result Parsed CommandFault
search_for rest = do
  format ← one_id rest
  Ok (Hall (Search format))

-- `/cancelsearch`
abbrev pub cancel_search : Option (List ℕ) → Result Parsed CommandFault
cancel_search rest = do
  _ ← nothing rest
  Ok (Hall CancelSearch)

-- `/challenge USER, FORMAT`
abbrev pub challenge : Option (List ℕ) → Result Parsed CommandFault
challenge rest = do
  named ← user_and_format rest
  Ok (Hall (Challenge named.0 named.1))

-- `/cancelchallenge`
abbrev pub cancel_challenge : Option (List ℕ) → Result Parsed CommandFault
cancel_challenge rest = do
  _ ← nothing rest
  Ok (Hall CancelChallenge)

-- `/reject USER`
abbrev pub reject : Option (List ℕ) → Result Parsed CommandFault
reject rest = do
  user ← one_id rest
  Ok (Hall (Reject user))

-- `/accept USER`
abbrev pub accept : Option (List ℕ) → Result Parsed CommandFault
accept rest = do
  user ← one_id rest
  Ok (Hall (Accept user))

-- `/pm USER, TEXT`
abbrev pub whisper : Option (List ℕ) → Result Parsed CommandFault
whisper rest = do
  text ← argument rest
  user ← id_at 1 (two text).0
  whispered ← second (two text).1
  Ok (Hall (Whisper user whispered))

-- `/block USER`
abbrev pub block : Option (List ℕ) → Result Parsed CommandFault
block rest = do
  user ← one_id rest
  Ok (Hall (Block user))

-- `/unblock USER`
abbrev pub unblock : Option (List ℕ) → Result Parsed CommandFault
unblock rest = do
  user ← one_id rest
  Ok (Hall (Unblock user))

-- `/rank USER, FORMAT`
abbrev pub rank : Option (List ℕ) → Result Parsed CommandFault
rank rest = do
  named ← user_and_format rest
  Ok (Hall (Rank named.0 named.1))
