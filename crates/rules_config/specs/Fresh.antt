-- A nonce and a seed that nobody foresees, for a configuration whose file says none.
use Rattle.std.specs.Prelude.{◌≡◌, ◌⊎◌, if◌then◌else◌}
use Rattle.hex.specs.Hex.{encode_lower}
use Rattle.rules_config.specs.declared.settings.Settings.{Settings}
use Rattle.rules_config.specs.declared.fresh.Fresh.{Fresh}

-- The same settings, with the fresh nonce and seed in the place of those that the file doesn't say. The nonce is the lower hex of
-- its bytes.
abbrev pub with_fresh : Fresh → Settings → Settings
with_fresh fresh settings = record settings {
  nonce = if settings.gives_nonce then settings.nonce else encode_lower fresh.nonce;
  seed = if settings.gives_seed then settings.seed else fresh.seed;
}

-- these settings are what a file says, or that with a fresh nonce or seed where it says none
abbrev pub IsSaidOrFresh : Settings → Settings → Type 0
IsSaidOrFresh said settings = (settings ≡ said) ⊎ ((fresh : Fresh) × (settings ≡ with_fresh fresh said))
