-- What list of groups a value stands for.
use Rattle.std.specs.Prelude.{ℕ, ◌==◌, ◌||◌, Bool, true, false, not, List, [], ◌∷◌, length, codes, Option, Some, None}
use Rattle.std.specs.Prelude.{option_and_then, bytes_eq, Result, Ok, nat_le, nat_lt, if◌then◌else◌}
use Rattle.std.specs.List.{list_any, list_all}
use Rattle.std.specs.Str.{chars}
use Rattle.serde_json.specs.Data.{Data}
use Rattle.serde_json.specs.Find.{get, as_str}
use Rattle.ps_data.specs.declared.fault.DataKind.TheVariants.{Range, Unknown, Repeat}
use Rattle.ps_data.specs.declared.fault.Fault.{Fault}
use Rattle.ps_data.specs.Reading.{◌>>=◌, refuse, ensure, some_or, required, optional}
use Rattle.ps_data.specs.Forms.{object_in, text_in, array_in}
use Rattle.ps_data.specs.Lists.{each}
use Rattle.ps_data.specs.OwnIds.{own_id_in}
use Rattle.ps_group.specs.declared.group.Jurisdiction.{Jurisdiction}
use Rattle.ps_group.specs.declared.group.Permissions.{Permissions}
use Rattle.ps_group.specs.declared.group.Group.{Group}
use Rattle.ps_base.specs.Characters as characters

-- ---- symbol

-- one character, and no control character below the space
abbrev pub one_character : List ℕ → Option ℕ
one_character [] = None
one_character (char ∷ []) = if nat_le characters.space char then Some char else None
one_character (char ∷ next ∷ rest) = None

abbrev pub symbol_in : Data → Result ℕ Fault
symbol_in value = text_in value >>= λ text. some_or Range (one_character (chars text))

-- the last group's symbol is the space
abbrev pub may_stand : ℕ → List Data → Bool
may_stand symbol [] = symbol == characters.space
may_stand symbol (next ∷ after) = true

-- a group has the symbol
unfoldable pub has_symbol : ℕ → List Group → Bool
has_symbol symbol groups = list_any (λ group. group.symbol == symbol) groups

unfoldable pub own_symbol_in : List Group → List Data → Data → Result ℕ Fault
own_symbol_in before after value = do
  symbol ← symbol_in value
  _ ← ensure Range (may_stand symbol after)
  _ ← ensure Repeat (not (has_symbol symbol before))
  Ok symbol

-- ---- inherit

-- an object with this text at its `symbol`, whatever else it has
abbrev pub is_text : List ℕ → Option (List ℕ) → Bool
is_text text None = false
is_text text (Some other) = bytes_eq other text

unfoldable pub shows : List ℕ → Data → Bool
shows text value = is_text text (option_and_then as_str (get (codes "symbol") value))

-- a group that stands later in the list, by the text of its symbol as it stands. A text that isn't one character names at
-- most a group that is a fault itself, further on.
unfoldable pub lower_in : List Data → Data → Result (Option ℕ) Fault
lower_in after value = do
  text ← text_in value
  _ ← ensure Unknown (list_any (shows text) after)
  Ok (one_character (chars text))

-- only the last group may inherit none
unfoldable pub inherit_in : List Data → Data → Result (Option ℕ) Fault
inherit_in [] value = optional (codes "inherit") None (lower_in []) value
inherit_in (next ∷ after) value = required (codes "inherit") (lower_in (next ∷ after)) value

-- ---- permissions

-- u, s or a
abbrev pub is_letter : ℕ → Bool
is_letter byte = byte == characters.letter_u || byte == characters.letter_s || byte == characters.letter_a

abbrev pub jurisdiction_of : List ℕ → Jurisdiction
jurisdiction_of text = record {
  under = list_any (λ byte. byte == characters.letter_u) text;
  oneself = list_any (λ byte. byte == characters.letter_s) text;
  all = list_any (λ byte. byte == characters.letter_a) text;
}

unfoldable pub jurisdiction_in : Data → Result (Option Jurisdiction) Fault
jurisdiction_in value = do
  text ← text_in value
  _ ← ensure Range (list_all is_letter text)
  Ok (Some (jurisdiction_of text))

abbrev pub no_permissions : Permissions
no_permissions = record { announce = None; modnote = None; warn = None; mute = None; ban = None; modchat = None; promote = None }

unfoldable pub permissions_in : Data → Result Permissions Fault
permissions_in value = do
  _ ← object_in value
  announce ← optional (codes "announce") None jurisdiction_in value
  modnote ← optional (codes "modnote") None jurisdiction_in value
  warn ← optional (codes "warn") None jurisdiction_in value
  mute ← optional (codes "mute") None jurisdiction_in value
  ban ← optional (codes "ban") None jurisdiction_in value
  modchat ← optional (codes "modchat") None jurisdiction_in value
  promote ← optional (codes "promote") None jurisdiction_in value
  Ok (record { announce = announce; modnote = modnote; warn = warn; mute = mute; ban = ban; modchat = modchat; promote = promote })

-- ---- a group, and the list

unfoldable pub group_in : List Group → List Data → Data → Result Group Fault
group_in before after value = do
  _ ← object_in value
  symbol ← required (codes "symbol") (own_symbol_in before after) value
  id ← required (codes "id") (own_id_in (λ group. group.id) before) value
  name ← required (codes "name") text_in value
  inherit ← inherit_in after value
  permissions ← optional (codes "permissions") no_permissions permissions_in value
  Ok (record { symbol = symbol; id = id; name = name; inherit = inherit; permissions = permissions })

-- sixteen groups at most
abbrev pub group_in_sixteen : List Group → List Data → Data → Result Group Fault
group_in_sixteen before after value = if nat_lt (length before) 16 then group_in before after value else refuse Range

-- one group at least
unfoldable pub groups_in : Data → Result (List Group) Fault
groups_in value = do
  items ← array_in value
  _ ← ensure Range (nat_lt 0 (length items))
  each group_in_sixteen [] items
