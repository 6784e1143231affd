-- What a rank may do, and over whom.
use Rattle.std.specs.Prelude.{ℕ, ◌+◌, ◌==◌, ◌&&◌, ◌||◌, Bool, false, List, [], ◌∷◌, drop, slice_get, Option, Some, None, if◌then◌else◌}
use Rattle.ps_group.specs.declared.group.Jurisdiction.{Jurisdiction}
use Rattle.ps_group.specs.declared.group.Permissions.{Permissions}
use Rattle.ps_group.specs.declared.group.Group.{Group}
use Rattle.ps_group.specs.declared.group.Perm.{Perm}
use Rattle.ps_group.specs.declared.group.Perm.TheVariants as perms
use Rattle.ps_group.specs.Ranks.{is_below, in_force}

-- a group's own permission
abbrev pub own : Perm → Permissions → Option Jurisdiction
own perms.Announce permissions = permissions.announce
own perms.Modnote permissions = permissions.modnote
own perms.Warn permissions = permissions.warn
own perms.Mute permissions = permissions.mute
own perms.Ban permissions = permissions.ban
own perms.Modchat permissions = permissions.modchat
own perms.Promote permissions = permissions.promote

-- A permission that is absent is that of the inherited group, and none at the end of the chain.
abbrev pub own_or : Option Jurisdiction → Option ℕ → (ℕ → Option Jurisdiction) → Option Jurisdiction
own_or (Some jurisdiction) inherit inherited = Some jurisdiction
own_or None None inherited = None
own_or None (Some symbol) inherited = inherited symbol

-- the permission of the group with the symbol, which inherits a group further down
abbrev pub granted_by : Perm → ℕ → List Group → Option Jurisdiction
granted_by perm symbol [] = None
granted_by perm symbol (group ∷ lower) = if group.symbol == symbol then own_or (own perm group.permissions) group.inherit
    (λ inherited. granted_by perm inherited lower) else granted_by perm symbol lower

-- the permission of a group above the lower ones
abbrev pub granted_above : Perm → Option Group → List Group → Option Jurisdiction
granted_above perm None lower = None
granted_above perm (Some group) lower = own_or (own perm group.permissions) group.inherit (λ inherited. granted_by perm inherited lower)

-- the permission of a rank
unfoldable pub granted : Perm → ℕ → List Group → Option Jurisdiction
granted perm rank groups = granted_above perm (slice_get groups rank) (drop (rank + 1) groups)

-- Without a target: where the permission's text isn't empty. With one: where it has `a`, or has `s` and the target is
-- the actor, or has `u` and the target's rank is lower.
abbrev pub reaches : Jurisdiction → ℕ → Option ℕ → Bool → Bool
reaches jurisdiction actor None is_self = jurisdiction.under || jurisdiction.oneself || jurisdiction.all
reaches jurisdiction actor (Some target) is_self = jurisdiction.all || (jurisdiction.oneself && is_self)
    || (jurisdiction.under && is_below target actor)

abbrev pub allows : Option Jurisdiction → ℕ → Option ℕ → Bool → Bool
allows None actor target is_self = false
allows (Some jurisdiction) actor target is_self = reaches jurisdiction actor target is_self

abbrev pub target_in_force : Option ℕ → List Group → Option ℕ
target_in_force None groups = None
target_in_force (Some rank) groups = Some (in_force rank groups)

abbrev pub can : List Group → ℕ → Option ℕ → Bool → Perm → Bool
can groups actor target is_self perm = allows (granted perm (in_force actor groups) groups) (in_force actor groups)
    (target_in_force target groups) is_self

-- whether the permission's text has `a`
abbrev pub has_all : Option Jurisdiction → Bool
has_all None = false
has_all (Some jurisdiction) = jurisdiction.all

abbrev pub reaches_all : List Group → ℕ → Perm → Bool
reaches_all groups actor perm = has_all (granted perm (in_force actor groups) groups)
