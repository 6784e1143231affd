-- An object with the key `version` alone says the default of each other key.
use Rattle.std.proofs.Common.{◌≡◌, codes, Ok, refl}
use Rattle.std.specs.Str.{is_utf8, chars}
use Rattle.json.specs.Json.{value, members}
use Rattle.json.specs.Lex.{lex, punctuate}
use Rattle.json.specs.Text.{content}
use Rattle.json.specs.Word.{after_number, word}
use Rattle.fast_float.specs.Text.{scan}
use Rattle.serde_json.specs.Read.{number_of}
use lib.Utf8.{encode}
use Rattle.ps_dex.specs.Lookups.{no_tables}
use Rattle.ps_group.specs.Defaults.{groups_with_bot}
use Rattle.ps_rules.specs.Versions.{version_in}
use Rattle.ps_rules.specs.Reading.{said_in}
use Rattle.rules_config.specs.Users.{default_staff_in, staff_at}
use Rattle.rules_config.specs.Rooms.{rooms_at}
use Rattle.rules_config.specs.Reading.{config_in, config_of}
use Rattle.rules_config.specs.Standard.{standard}

pub standard_file : config_of no_tables (codes "{\"version\":2}") ≡ Ok standard
unfolding config_of config_in version_in groups_with_bot default_staff_in staff_at rooms_at said_in is_utf8 chars value members lex punctuate content after_number word number_of scan encode
standard_file = refl
