-- The seeds of battles.
use Rattle.std.specs.Prelude.{ℕ, ◌-◌, ◌==◌, List, [], ◌∷◌, ◌++◌, decimal, slice_get, slice_index, unwrap_or, Option, None, if◌then◌else◌}
use Rattle.std.specs.Int.{w64, from_be_bytes}
use Rattle.sha2.specs.Sha256.{sha256}
use Rattle.rules_config.specs.declared.settings.Settings.{Settings}
use Rattle.ps_base.specs.Characters as characters

-- the number that the first eight bytes spell, the big end first
unfoldable pub number_at_front : List ℕ → ℕ
number_at_front bytes = from_be_bytes w64
    (slice_index bytes 0 ∷ slice_index bytes 1 ∷ slice_index bytes 2 ∷ slice_index bytes 3 ∷ slice_index bytes 4
    ∷ slice_index bytes 5 ∷ slice_index bytes 6 ∷ slice_index bytes 7 ∷ [])

-- the seed, a colon and the number of the battle, both in decimal
abbrev pub signed_text : ℕ → ℕ → List ℕ
signed_text seed number = decimal seed ++ characters.colon ∷ decimal number

-- the front of the digest of that text
unfoldable pub drawn : ℕ → ℕ → ℕ
drawn seed number = number_at_front (sha256 (signed_text seed number))

-- the seed that a list has for a battle; battles count from 1
abbrev pub listed : List ℕ → ℕ → Option ℕ
listed seeds number = if number == 0 then None else slice_get seeds (number - 1)

-- the seed of a battle: that of the list where the list is long enough, else a drawn one
unfoldable pub seed_of : Settings → ℕ → ℕ
seed_of settings number = unwrap_or (listed settings.seeds number) (drawn settings.seed number)
