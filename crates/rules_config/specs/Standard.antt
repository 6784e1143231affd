-- The configuration where no file is named.
use Rattle.std.specs.Prelude.{[], ◌∷◌, codes, false}
use Rattle.ps_group.specs.Defaults.{groups_with_bot}
use Rattle.ps_rules.specs.declared.version.Version.TheVariants.{Second}
use Rattle.ps_rules.specs.Resolve.{no_formats}
use Rattle.rules_config.specs.declared.settings.Settings.{Settings}
use Rattle.rules_config.specs.Rooms.{lobby}

-- the default of each key in version 2; `%` is the fourth of the default groups
abbrev pub standard : Settings
standard = record {
  groups = groups_with_bot;
  staff = 3;
  rooms = lobby ∷ [];
  users = [];
  formats = no_formats Second;
  nonce = codes "0";
  seed = 0;
  seeds = [];
  gives_nonce = false;
  gives_seed = false;
}
