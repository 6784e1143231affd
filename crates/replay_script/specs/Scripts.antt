-- A script: its lines, in order.
use Rattle.std.specs.Prelude.{◌≡◌, ℕ, zero, suc, ◌+◌, ◌-◌, Bool, true, false, ◌==◌, nat_lt, nat_le, List, [], ◌∷◌, ◌++◌, length}
use Rattle.std.specs.Prelude.{slice_get, slice_set, Option, Some, None, unwrap_or, if◌then◌else◌}
use Rattle.std.specs.List.{list_any}
use Rattle.std.specs.Str.{IsUtf8}
use Rattle.std.specs.Str.Lines.{lines}
use Rattle.ps_base.specs.Limits.{most_text}
use Rattle.replay_script.specs.declared.item.Item.{Item}
use Rattle.replay_script.specs.declared.item.Item.TheVariants.{Nothing, Moment, Group, Open, Send, Close}
use Rattle.replay_script.specs.declared.script.ScriptKind.{ScriptKind}
use Rattle.replay_script.specs.declared.script.ScriptKind.TheVariants as kinds
use Rattle.replay_script.specs.Controls.{has_control}
use Rattle.replay_script.specs.Items.{IsItem}

pub record IsLine (line : List ℕ) (meaning : Item) : Type 0 where
  pub utf8 : IsUtf8 line
  pub no_control : has_control line ≡ false
  pub item : IsItem line meaning

-- the symbols that groups have, the moment, and of each connection that opened, in order from 1, whether it is open still.
-- No line changes the symbols
pub record Seen : Type 0 where
  pub symbols : List ℕ
  pub moment : ℕ
  pub opened : List Bool

abbrev pub start : List ℕ → Seen
start symbols = record { symbols = symbols; moment = 0; opened = [] }

abbrev pub has_symbol : List ℕ → ℕ → Bool
has_symbol symbols symbol = list_any (λ other. other == symbol) symbols

abbrev pub is_open : List Bool → ℕ → Bool
is_open opened zero = false
is_open opened (suc index) = unwrap_or (slice_get opened index) false

abbrev pub closed_in : List Bool → ℕ → List Bool
closed_in opened conn = slice_set opened (conn - 1) false

-- the first of Order, Group, Many and Long that is wrong with a line of this item after these
abbrev pub fault_of : Seen → Item → Option ScriptKind
fault_of seen Nothing = None
fault_of seen (Moment moment) = if nat_lt moment seen.moment then Some kinds.Order else None
fault_of seen (Group symbol id) = if nat_lt 0 (length seen.opened) then Some kinds.Order else
    (if has_symbol seen.symbols symbol then None else Some kinds.Group)
fault_of seen (Open conn) = if conn == length seen.opened
    + 1 then (if nat_le conn 1024 then None else Some kinds.Many) else Some kinds.Order
fault_of seen (Send conn text) = if is_open seen.opened conn then (if nat_le (length text) most_text then None else Some kinds.Long)
    else Some
    kinds.Order
fault_of seen (Close conn) = if is_open seen.opened conn then None else Some kinds.Order

abbrev pub next : Seen → Item → Seen
next seen Nothing = seen
next seen (Moment moment) = record seen { moment = moment }
next seen (Group symbol id) = seen
next seen (Open conn) = record seen { opened = seen.opened ++ true ∷ [] }
next seen (Send conn text) = seen
next seen (Close conn) = record seen { opened = closed_in seen.opened conn }

abbrev pub seen_after : Seen → List Item → Seen
seen_after seen [] = seen
seen_after seen (item ∷ items) = seen_after (next seen item) items

-- the lines say these items, each in order
abbrev pub AreItems : Seen → List (List ℕ) → List Item → Type 0
AreItems seen [] [] = Unit {0}
AreItems seen [] (item ∷ items) = ⊥
AreItems seen (line ∷ rest) [] = ⊥
AreItems seen (line ∷ rest) (item ∷ items) = IsLine line item × (fault_of seen item ≡ None) × AreItems (next seen item) rest items

-- where groups have these symbols, the lines of these bytes say these items
abbrev pub IsScript : List ℕ → List ℕ → List Item → Type 0
IsScript symbols bytes items = AreItems (start symbols) (lines bytes) items

-- an item whose line is out of order, by the kind
abbrev pub Misplaced : Seen → List ℕ → ScriptKind → Type 0
Misplaced seen line kind = (item : Item) × IsLine line item × (fault_of seen item ≡ Some kind)

-- the first kind that is wrong with a line after these
abbrev pub IsFault : Seen → List ℕ → ScriptKind → Type 0
IsFault seen line kinds.Utf8 = IsUtf8 line → ⊥
IsFault seen line kinds.Control = IsUtf8 line × (has_control line ≡ true)
IsFault seen line kinds.Form = IsUtf8 line × (has_control line ≡ false) × ((item : Item) → IsItem line item → ⊥)
IsFault seen line kinds.Order = Misplaced seen line kinds.Order
IsFault seen line kinds.Group = Misplaced seen line kinds.Group
IsFault seen line kinds.Many = Misplaced seen line kinds.Many
IsFault seen line kinds.Long = Misplaced seen line kinds.Long

-- where groups have these symbols: the lines before this one, counted from 1, are a script, and with it they aren't
pub record IsFirstFault (symbols bytes : List ℕ) (line : ℕ) (kind : ScriptKind) : Type 0 where
  pub items : List Item
  pub before : List (List ℕ)
  pub text : List ℕ
  pub after : List (List ℕ)
  pub parts : lines bytes ≡ before ++ text ∷ after
  pub index : line ≡ length before + 1
  pub good : AreItems (start symbols) before items
  pub bad : IsFault (seen_after (start symbols) items) text kind
