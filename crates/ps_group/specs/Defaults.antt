-- The groups where a configuration names none: those of its first form, and those of its second, which have a bot.
use Rattle.std.specs.Prelude.{List, [], ◌∷◌, ◌++◌, codes, Option, Some, None, true, false}
use Rattle.ps_group.specs.declared.group.Jurisdiction.{Jurisdiction}
use Rattle.ps_group.specs.declared.group.Group.{Group}
use Rattle.ps_group.specs.Reading.{no_permissions}
use Rattle.ps_base.specs.Characters as characters

-- `u`
abbrev pub under : Option Jurisdiction
under = Some (record { under = true; oneself = false; all = false })

-- `a`
abbrev pub all : Option Jurisdiction
all = Some (record { under = false; oneself = false; all = true })

-- `~`
abbrev pub admin : Group
admin = record {
  symbol = characters.tilde;
  id = codes "admin";
  name = codes "Administrator";
  inherit = Some characters.number_sign;
  permissions = record { announce = None; modnote = None; warn = all; mute = all; ban = all; modchat = None; promote = all };
}

-- `#`
abbrev pub owner : Group
owner = record {
  symbol = characters.number_sign;
  id = codes "owner";
  name = codes "Room Owner";
  inherit = Some characters.at_sign;
  permissions = record { announce = None; modnote = None; warn = None; mute = None; ban = None; modchat = None; promote = under };
}

-- `@`
abbrev pub moderator : Group
moderator = record {
  symbol = characters.at_sign;
  id = codes "mod";
  name = codes "Moderator";
  inherit = Some characters.percent;
  permissions = record { announce = all; modnote = None; warn = None; mute = None; ban = under; modchat = all; promote = None };
}

-- `%`
abbrev pub driver : Group
driver = record {
  symbol = characters.percent;
  id = codes "driver";
  name = codes "Driver";
  inherit = Some characters.plus;
  permissions = record { announce = None; modnote = all; warn = under; mute = under; ban = None; modchat = None; promote = None };
}

-- `*`
abbrev pub bot : Group
bot = record {
  symbol = characters.asterisk;
  id = codes "bot";
  name = codes "Bot";
  inherit = Some characters.plus;
  permissions = record { announce = all; modnote = None; warn = None; mute = None; ban = None; modchat = None; promote = None };
}

-- `+`
abbrev pub voice : Group
voice = record {
  symbol = characters.plus;
  id = codes "voice";
  name = codes "Voice";
  inherit = Some characters.space;
  permissions = no_permissions;
}

-- the space
abbrev pub user : Group
user = record { symbol = characters.space; id = codes "user"; name = codes "User"; inherit = None; permissions = no_permissions }

-- those down to `%`
abbrev pub staff_groups : List Group
staff_groups = admin ∷ owner ∷ moderator ∷ driver ∷ []

unfoldable pub default_groups : List Group
default_groups = staff_groups ++ voice ∷ user ∷ []

-- the same with the bot between `%` and `+`
unfoldable pub groups_with_bot : List Group
groups_with_bot = staff_groups ++ bot ∷ voice ∷ user ∷ []
