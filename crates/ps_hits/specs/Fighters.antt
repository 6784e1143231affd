-- A fighter's numbers as they count now.
use Rattle.std.specs.Prelude.{ℕ, Bool, true, false, Option, Some, None, List, ◌*◌, ◌/◌, ◌||◌, ◌==◌, max, slice_index, unwrap_or}
use Rattle.std.specs.Prelude.{if◌then◌else◌}
use Rattle.ps_calc.specs.Stages.{staged_of}
use Rattle.ps_mon.specs.declared.duel.Fighter.{Fighter}
use Rattle.ps_mon.specs.declared.record.Lock.{Lock}
use Rattle.ps_mon.specs.declared.record.LockKind.{LockKind}
use Rattle.ps_mon.specs.declared.record.LockKind.TheVariants.{Charge, Rage}
use Rattle.ps_mon.specs.declared.status.Status.{Status}
use Rattle.ps_mon.specs.declared.status.Status.TheVariants.{Par, Brn}

-- the types and the stats in force: Transform and Conversion change them
abbrev pub types_now : Fighter → List ℕ
types_now fighter = unwrap_or fighter.vol.types fighter.types

abbrev pub stats_now : Fighter → List ℕ
stats_now fighter = unwrap_or fighter.vol.stats fighter.stats

-- whether one of the types in force is that
abbrev pub is_of_type : Fighter → ℕ → Bool
is_of_type fighter kind = slice_index (types_now fighter) 0 == kind || slice_index (types_now fighter) 1 == kind

abbrev pub is_burnt : Status → Bool
is_burnt Brn = true
is_burnt other = false

abbrev pub is_paralysed : Status → Bool
is_paralysed Par = true
is_paralysed other = false

-- who is out of reach until its charged move strikes
abbrev pub is_away_by : LockKind → Bool
is_away_by (Charge away) = away
is_away_by other = false

abbrev pub is_away : Option Lock → Bool
is_away None = false
is_away (Some lock) = is_away_by lock.kind

abbrev pub is_rage : LockKind → Bool
is_rage Rage = true
is_rage other = false

-- a member rages while it has the lock of rage
abbrev pub rages : Option Lock → Bool
rages None = false
rages (Some lock) = is_rage lock.kind

-- Attack, or Special, of who strikes: staged, and Attack halved by Brn, at least 1
unfoldable pub attack_of : Fighter → Bool → ℕ
attack_of fighter special =
    if special then staged_of (slice_index (stats_now fighter) 2) fighter.vol.stages.spc
    else (let own = staged_of (slice_index (stats_now fighter) 0) fighter.vol.stages.atk in
    if is_burnt fighter.status then max 1 (own / 2) else own)

-- Defense, or Special, of who is struck: staged, and doubled by the screen against it
unfoldable pub defence_of : Fighter → Bool → ℕ
defence_of fighter special =
    if special then (let own = staged_of (slice_index (stats_now fighter) 2) fighter.vol.stages.spc in if fighter.vol.light then 2 *
    own else own)
    else (let own = staged_of (slice_index (stats_now fighter) 1) fighter.vol.stages.def in if fighter.vol.reflect then 2 * own else own)

-- the two at a critical hit: the member's own, whatever changed them
abbrev pub own_attack : Fighter → Bool → ℕ
own_attack fighter special = slice_index fighter.stats (if special then 2 else 0)

abbrev pub own_defence : Fighter → Bool → ℕ
own_defence fighter special = slice_index fighter.stats (if special then 2 else 1)

-- Speed: staged, quartered by Par, at least 1
unfoldable pub speed_of : Fighter → ℕ
speed_of fighter =
    let own = staged_of (slice_index (stats_now fighter) 3) fighter.vol.stages.spe in
    if is_paralysed fighter.status then max 1 (own / 4) else own
