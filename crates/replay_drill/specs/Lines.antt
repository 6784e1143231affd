-- The lines of a drill's script, each with its newline.
use Rattle.std.specs.Prelude.{ℕ, Bool, true, false, is_some, List, [], ◌∷◌, ◌++◌, codes}
use Rattle.std.specs.Fmt.{decimal}
use Rattle.ps_group.specs.declared.group.Group.{Group}
use Rattle.ps_group.specs.Ranks.{rank_of}
use Rattle.ps_base.specs.Lists.{each_to}
use Rattle.ps_base.specs.Characters as characters

abbrev pub line : List ℕ → List ℕ
line text = text ++ characters.newline ∷ []

-- `>N TEXT`: connection N sends the text
abbrev pub sent_line : ℕ → List ℕ → List ℕ
sent_line conn text = codes ">" ++ decimal conn ++ codes " " ++ text ++ characters.newline ∷ []

-- ---- the head

-- the symbol `%`
abbrev pub has_percent : List Group → Bool
has_percent groups = is_some (rank_of characters.percent groups)

-- user u1 gets the group `%`, where there is such a group
abbrev pub group_line_if : Bool → List ℕ
group_line_if false = []
group_line_if true = line (codes "G % u1")

abbrev pub group_line : List Group → List ℕ
group_line groups = group_line_if (has_percent groups)

-- `+N`
abbrev pub open_line : ℕ → List ℕ
open_line conn = codes "+" ++ decimal conn ++ characters.newline ∷ []

-- connection N takes the name uN
abbrev pub name_line : ℕ → List ℕ
name_line conn = codes ">" ++ decimal conn ++ codes " |/trn u" ++ decimal conn ++ codes ",0," ++ characters.newline ∷ []

abbrev pub join_line : ℕ → List ℕ
join_line conn = sent_line conn (codes "|/join lobby")

-- eight users come, name themselves and join the lobby
abbrev pub head_lines : List Group → List ℕ
head_lines groups = group_line groups ++ each_to open_line 8 ++ each_to name_line 8 ++ each_to join_line 8

-- ---- the battle's lines

abbrev pub team_line : List ℕ → ℕ → List ℕ
team_line team conn = codes ">" ++ decimal conn ++ codes " |/utm " ++ team ++ characters.newline ∷ []

unfoldable pub challenge_line : List ℕ → List ℕ
challenge_line format = codes ">7 |/challenge u8, " ++ format ++ characters.newline ∷ []

abbrev pub accept_line : List ℕ
accept_line = line (codes ">8 |/accept u7")

-- connection N sends a text with the battle's id, which is the first of that format, between these parts
abbrev pub battle_line : List ℕ → ℕ → List ℕ → List ℕ → List ℕ
battle_line format conn before behind = codes ">" ++ decimal conn ++ codes " " ++ before ++ codes "battle-" ++ format ++ codes "-1"
    ++ behind ++ characters.newline ∷ []

abbrev pub join_battle_line : List ℕ → ℕ → List ℕ
join_battle_line format conn = battle_line format conn (codes "|/join ") []

-- both send the same team
unfoldable pub team_lines : List ℕ → List ℕ
team_lines team = team_line team 7 ++ team_line team 8

unfoldable pub join_battle_lines : List ℕ → List ℕ
join_battle_lines format = join_battle_line format 7 ++ join_battle_line format 8

-- then 7 challenges and 8 accepts, and both join the battle
abbrev pub start_lines : List ℕ → List ℕ → List ℕ
start_lines format team = team_lines team ++ challenge_line format ++ accept_line ++ join_battle_lines format

abbrev pub default_line : List ℕ → ℕ → List ℕ
default_line format conn = battle_line format conn [] (codes "|/choose default")

-- each side lets the battle choose for it
abbrev pub choose_lines : List ℕ → List ℕ
choose_lines format = default_line format 7 ++ default_line format 8

-- ---- a step's lines

-- `T K`: the moment is K
abbrev pub time_line : ℕ → List ℕ
time_line moment = codes "T " ++ decimal moment ++ characters.newline ∷ []

-- connection I sends words that end with the step's number to the lobby
abbrev pub lobby_line : ℕ → List ℕ → ℕ → List ℕ
lobby_line conn words step = codes ">" ++ decimal conn ++ codes " lobby|" ++ words ++ decimal step ++ characters.newline ∷ []

-- connection I says mK in the lobby
abbrev pub talk_line : ℕ → ℕ → List ℕ
talk_line conn step = lobby_line conn (codes "m") step

-- connection I whispers wK to uJ
abbrev pub whisper_line : ℕ → ℕ → ℕ → List ℕ
whisper_line conn to step = codes ">" ++ decimal conn ++ codes " |/pm u" ++ decimal to ++ codes ", w" ++ decimal step
    ++ characters.newline ∷ []

-- connection I leaves the note nK for the staff of the lobby
abbrev pub note_line : ℕ → ℕ → List ℕ
note_line conn step = lobby_line conn (codes "/modnote n") step
