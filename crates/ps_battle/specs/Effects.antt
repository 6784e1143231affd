-- What each kind of effect does, and which move it calls.
use Rattle.std.specs.Prelude.{ℕ, Option, None}
use Rattle.ps_mon.specs.declared.effect.Effect.{Effect}
use Rattle.ps_mon.specs.declared.effect.Effect.TheVariants as effects
use Rattle.ps_mon.specs.Facts.{Figures}
use Rattle.ps_hits.specs.Courses.{Course, played}
use Rattle.ps_hits.specs.Hits.{plain_row, explode_row}
use Rattle.ps_hits.specs.Amounts.{fixed_row, level_row, half_row, psywave_row, ohko_row}
use Rattle.ps_hits.specs.Shares.{drain_row, dreameater_row, recoil_row, crash_row}
use Rattle.ps_status.specs.Afflicting.{status_row}
use Rattle.ps_status.specs.Confusing.{confuse_row, flinch_row}
use Rattle.ps_status.specs.Boosting.{boost_row}
use Rattle.ps_status.specs.Clearing.{haze_row}
use Rattle.ps_status.specs.Healing.{heal_row, rest_row}
use Rattle.ps_volat.specs.Covering.{substitute_row, screen_row, mist_row, focus_row}
use Rattle.ps_volat.specs.Answering.{leechseed_row, counter_row, nothing_row}
use Rattle.ps_multi.specs.Several.{multi_row, double_row}
use Rattle.ps_multi.specs.Charging.{charge_row, recharge_row}
use Rattle.ps_multi.specs.Locking.{trap_row, thrash_row, bide_row, rage_row}
use Rattle.ps_copy.specs.Copies.{called, copied}

-- the kinds that aren't `copy`
abbrev pub IsOtherKind : Effect → Type 0
IsOtherKind (effects.Copy sub) = ⊥
IsOtherKind other = Unit {0}

-- what the move `mv`, of that kind, does where side `user` uses it with a slot, from 0
unfoldable pub effect : Effect → Figures → ℕ → ℕ → ℕ → Course → Course
effect effects.Plain facts mv slot user = played (plain_row facts mv) user
effect (effects.Fixed amount) facts mv slot user = played (fixed_row amount facts mv) user
effect effects.Level facts mv slot user = played (level_row facts mv) user
effect effects.Half facts mv slot user = played (half_row facts mv) user
effect effects.Psywave facts mv slot user = played (psywave_row facts mv) user
effect effects.Ohko facts mv slot user = played (ohko_row facts mv) user
effect (effects.Status status chance) facts mv slot user = played (status_row status chance facts mv) user
effect (effects.Confuse chance) facts mv slot user = played (confuse_row chance facts mv) user
effect (effects.Flinch chance) facts mv slot user = played (flinch_row chance facts mv) user
effect (effects.Boost who stat by chance) facts mv slot user = played
    (boost_row (record { who = who; stat = stat; by = by }) chance facts mv) user
effect effects.Drain facts mv slot user = played (drain_row facts mv) user
effect effects.DreamEater facts mv slot user = played (dreameater_row facts mv) user
effect (effects.Recoil by) facts mv slot user = played (recoil_row by facts mv) user
effect effects.Crash facts mv slot user = played (crash_row facts mv) user
effect effects.Explode facts mv slot user = played (explode_row facts mv) user
effect effects.Counter facts mv slot user = played (counter_row facts mv) user
effect effects.Substitute facts mv slot user = played substitute_row user
effect effects.LeechSeed facts mv slot user = played (leechseed_row facts mv) user
effect (effects.Screen which) facts mv slot user = played (screen_row which) user
effect effects.Mist facts mv slot user = played mist_row user
effect effects.Focus facts mv slot user = played focus_row user
effect effects.Haze facts mv slot user = played haze_row user
effect effects.Heal facts mv slot user = played heal_row user
effect effects.Rest facts mv slot user = played rest_row user
effect effects.Nothing facts mv slot user = played (nothing_row mv) user
effect effects.Multi facts mv slot user = played (multi_row facts mv) user
effect (effects.Double status chance) facts mv slot user = played (double_row status chance facts mv) user
effect (effects.Charge away) facts mv slot user = played (charge_row away facts mv) user
effect effects.Recharge facts mv slot user = played (recharge_row facts mv) user
effect effects.Trap facts mv slot user = played (trap_row facts mv) user
effect effects.Thrash facts mv slot user = played (thrash_row facts mv) user
effect effects.Bide facts mv slot user = played (bide_row mv) user
effect effects.Rage facts mv slot user = played (rage_row facts mv) user
effect (effects.Copy sub) facts mv slot user = copied sub facts mv slot user

-- the move that is used in the place of the move `mv`, of that kind: only Metronome and Mirror Move call one
unfoldable pub call : Effect → Figures → ℕ → ℕ → Course → Option ℕ
call (effects.Copy sub) facts mv user course = called sub facts mv user course
call other facts mv user course = None
