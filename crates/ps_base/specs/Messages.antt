-- Messages to a connection: each is a list of lines, and is sent as one text.
use Rattle.std.specs.Prelude.{ℕ, List, [], ◌∷◌, ◌++◌, codes, map, Option, None, Some}
use Rattle.std.specs.List.{flat_map}
use Rattle.ps_base.specs.declared.msg.Msg.{Msg}
use Rattle.ps_base.specs.Characters as characters

-- a message, where it has lines
abbrev pub sent : List (List ℕ) → List (List (List ℕ))
sent [] = []
sent (line ∷ lines) = (line ∷ lines) ∷ []

abbrev pub msg_lines : Msg → List (List ℕ)
msg_lines msg = msg.lines

-- ---- the texts that a connection is sent

-- lines, each behind a newline
abbrev pub behind : List (List ℕ) → List ℕ
behind lines = flat_map (λ line. characters.newline ∷ line) lines

-- lines, parted by newlines
abbrev pub joined : List (List ℕ) → List ℕ
joined [] = []
joined (line ∷ lines) = line ++ behind lines

-- the lines of a message from a room, or from the hall: a room is named by a line before them
abbrev pub headed : Option (List ℕ) → List (List ℕ) → List (List ℕ)
headed None lines = lines
headed (Some id) lines = (codes ">" ++ id) ∷ lines

-- the text of a message
abbrev pub text_of : Option (List ℕ) → Msg → List ℕ
text_of room msg = joined (headed room msg.lines)

-- one text for each message
abbrev pub texts_of : Option (List ℕ) → List Msg → List (List ℕ)
texts_of room msgs = map (text_of room) msgs
