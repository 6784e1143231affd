-- A summary looks at a secret only for whether it is empty.
use Rattle.std.proofs.Common.{◌≡◌, ◌∙◌, ℕ, List, [], ◌∷◌, ◌++◌, codes, map, refl, ap}
use Rattle.std.proofs.lemmas.List.{length-map}
use Rattle.ps_group.specs.declared.group.Group.{Group}
use Rattle.ps_group.specs.Ranks.{symbol_of}
use Rattle.ps_dex.specs.declared.item.Tables.{Tables}
use Rattle.rules_config.specs.declared.settings.Registered.{Registered}
use Rattle.rules_config.specs.declared.settings.Settings.{Settings}
use Rattle.file_help.specs.declared.page.Row.{Row}
use Rattle.file_help.specs.declared.page.Section.{Section}
use Rattle.program_show.specs.ConfigRows.{secret_word, symbol_text, user_text, user_row, setup_rows}
use Rattle.program_show.specs.DrillRows.{IsDrill}
use Rattle.program_show.specs.Summary.{starred, hidden, without_secrets, count_rows, whole, IsWhole}

same_word : (secret : List ℕ) → secret_word secret ≡ secret_word (starred secret)
same_word [] = refl
same_word (byte ∷ secret) = refl

row_by : List Group → Registered → List ℕ → Row
row_by groups u word = record { key = u.id; value = codes "group " ++ symbol_text (symbol_of u.rank groups) ++ word }

same_row : (groups : List Group) (u : Registered) → user_row groups u ≡ user_row groups (hidden u)
unfolding user_text row_by
same_row groups u = ap (row_by groups u) (same_word u.secret)

same_rows : (groups : List Group) (users : List Registered) → map (user_row groups) users ≡ map (user_row groups) (map hidden users)
same_rows groups [] = refl
same_rows groups (u ∷ users) = cc (same_row groups u, same_rows groups users)

same_whole : (dex : Tables) (s : Settings) (drill : List Row) → whole dex s drill ≡ whole dex (without_secrets s) drill
unfolding whole setup_rows count_rows
same_whole dex s drill = cc (same_rows s.groups s.users, length-map s.users hidden)

-- what is told of a configuration is told of the same one without its secrets
pub is_whole : (dex : Tables) (s : Settings) (drill : List Row) (sections : List Section)
    → IsDrill dex s drill → sections ≡ whole dex s drill → IsWhole dex (without_secrets s) sections
is_whole dex s drill sections drilled told = (drill, drilled, told ∙ same_whole dex s drill)
