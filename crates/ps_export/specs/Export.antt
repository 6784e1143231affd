-- Export texts: the packed text that their lines spell, or the first line that can't stand.
use Rattle.std.specs.Prelude.{◌≡◌, ℕ, ◌+◌, ◌<◌, ◌≤◌, ◌⊎◌, ◌||◌, List, codes, is_some, length, take, Option, Some, None, nat_lt}
use Rattle.std.specs.Prelude.{if◌then◌else◌}
use Rattle.std.specs.Str.{chars}
use Rattle.ps_base.specs.Cuts.{before_end}
use Rattle.ps_base.specs.Numbers.{counted}
use Rattle.ps_packed.specs.Packed.{is_nil, IsTeam}
use Rattle.ps_packed.specs.declared.set.Set.{Set}
use Rattle.ps_export.specs.declared.fault.ExportFault.{ExportFault}
use Rattle.ps_export.specs.declared.fault.ExportFault.TheVariants as faults
use Rattle.ps_export.specs.declared.sheet.Sheet.{Sheet}
use Rattle.ps_export.specs.Lines.{lines}
use Rattle.ps_export.specs.Sheets.{start, packed_of, with_lines}

-- the packed text of a sheet is the team's, set by set
pub record IsTeamOf (sheet : Sheet) (team : List Set) : Type 0 where
  pub packed : IsTeam (chars (packed_of sheet)) team
  pub count : length team ≡ sheet.sets

-- the team that a text spells, in at most 8,192 bytes
pub record IsExport (text : List ℕ) (team : List Set) : Type 0 where
  pub short : length text ≤ 8192
  pub sheet : Sheet
  pub spelled : with_lines start (lines text) ≡ Some sheet
  pub is : IsTeamOf sheet team

-- ---- faults

-- no set yet, or a team so far
abbrev pub SheetStands : Sheet → Type 0
SheetStands sheet = (sheet.sets ≡ 0) ⊎ ((team : List Set) × IsTeamOf sheet team)

abbrev pub SomeStands : Option Sheet → Type 0
SomeStands None = ⊥
SomeStands (Some sheet) = SheetStands sheet

-- the first line that doesn't end within the bytes that a text may have, one more than there are where all do
unfoldable pub limit_of : List ℕ → ℕ
limit_of text = if nat_lt 8192 (length text) then length (lines (take 8192 text)) else length (lines text) + 1

-- one more than the lines that a text has: nothing behind the last newline is no line
unfoldable pub past_end : List ℕ → ℕ
past_end text = if is_nil text || is_some (before_end (codes "\n") text) then length (lines text) else length (lines text) + 1

-- the first so many lines can stand
pub record LinesStand (text : List ℕ) (count : ℕ) : Type 0 where
  pub within : count < limit_of text
  pub stands : SomeStands (with_lines start (take count (lines text)))

-- the first line that can't stand, or one more than there are
pub record IsFirstFault (text : List ℕ) (line : ℕ) : Type 0 where
  pub before : (count : ℕ) → 0 < count → count < line → count ≤ length (lines text) → LinesStand text count
  pub here : (line ≤ length (lines text) × ¬ (LinesStand text line)) ⊎ (line ≡ past_end text)

-- no team, and this is why
pub record IsRefused (text : List ℕ) (line : ℕ) : Type 0 where
  pub none : (team : List Set) → ¬ (IsExport text team)
  pub first : (number : ℕ) × (line ≡ counted number) × IsFirstFault text number

abbrev pub Refuses : List ℕ → ExportFault → Type 0
Refuses text (faults.Fault line) = IsRefused text line
Refuses text faults.NoMemory = Unit {0}
