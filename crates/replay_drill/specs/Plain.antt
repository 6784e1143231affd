-- Texts of a drill's script that come from the data files: short, and without control characters.
use Rattle.std.specs.Prelude.{ℕ, ◌≤◌, All, List, length}
use Rattle.ps_dex.specs.declared.item.Tables.{Tables}
use Rattle.rules_config.specs.declared.settings.Settings.{Settings}
use Rattle.ps_base.specs.Characters as characters

-- at most so many bytes, each a character from U+0020 to U+007E
pub record IsPlain (most : ℕ) (text : List ℕ) : Type 0 where
  pub few : length text ≤ most
  pub plain : All (λ byte. (characters.space ≤ byte) × (byte ≤ characters.tilde)) text

-- the names of species and the ids of moves of a dex are
pub record HasPlainNames (dex : Tables) : Type 0 where
  pub species : All (λ entry. IsPlain 32 entry.name) dex.species
  pub moves : All (λ move. IsPlain 32 move.id) dex.moves

-- and so are the ids of the formats of a configuration, whose names have 32 characters of up to four bytes
abbrev pub HasPlainFormats : Settings → Type 0
HasPlainFormats config = All (λ format. IsPlain 128 format.id) config.formats.formats
