-- What is in range in what a configuration says, as far as other calls rest on it.
use Rattle.std.specs.Prelude.{◌<◌, ◌≤◌, All, length}
use Rattle.rules_config.specs.declared.settings.Settings.{Settings}

pub record AreFit (settings : Settings) : Type 0 where
  pub staff : settings.staff < length settings.groups
  pub some_rooms : 1 ≤ length settings.rooms
  pub few_rooms : length settings.rooms ≤ 16
  pub users : All (λ user. user.rank < length settings.groups) settings.users
