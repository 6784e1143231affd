-- What a move does, as its object says: `kind`, and then the fields of that kind in the order of the table.
use Rattle.std.specs.Prelude.{ℕ, ℤ, pos, negsuc, List, [], ◌∷◌, codes, Result, Ok, false, not, int_le, ◌&&◌}
use Rattle.serde_json.specs.Data.{Data}
use Rattle.ps_data.specs.declared.fault.DataKind.TheVariants.{Range}
use Rattle.ps_data.specs.declared.fault.Fault.{Fault}
use Rattle.ps_data.specs.Reading.{◌>>=◌, ensure, required, optional}
use Rattle.ps_data.specs.Forms.{object_in, boolean_in, number_in, integer_in}
use Rattle.ps_data.specs.Words.{word_in}
use Rattle.ps_mon.specs.declared.status.Status.{Status}
use Rattle.ps_mon.specs.declared.status.Status.TheVariants as statuses
use Rattle.ps_mon.specs.declared.effect.Stat.{Stat}
use Rattle.ps_mon.specs.declared.effect.Stat.TheVariants as stats
use Rattle.ps_mon.specs.declared.effect.Aim.{Aim}
use Rattle.ps_mon.specs.declared.effect.Aim.TheVariants as aims
use Rattle.ps_mon.specs.declared.effect.ScreenKind.{ScreenKind}
use Rattle.ps_mon.specs.declared.effect.ScreenKind.TheVariants as screens
use Rattle.ps_mon.specs.declared.effect.CopyKind.{CopyKind}
use Rattle.ps_mon.specs.declared.effect.CopyKind.TheVariants as copies
use Rattle.ps_mon.specs.declared.effect.Effect.{Effect}
use Rattle.ps_mon.specs.declared.effect.Effect.TheVariants as effects
use Rattle.ps_dex.specs.declared.kind.Kind.{Kind}
use Rattle.ps_dex.specs.declared.kind.Kind.TheVariants as kinds
use Rattle.ps_dex.specs.Kinds.{kind_words}

-- ---- words of a fixed set

unfoldable pub status_words : List (List ℕ × Status)
status_words =
    (codes "slp", statuses.Slp) ∷
    (codes "par", statuses.Par) ∷
    (codes "brn", statuses.Brn) ∷
    (codes "psn", statuses.Psn) ∷
    (codes "tox", statuses.Tox) ∷
    (codes "frz", statuses.Frz) ∷
    []

unfoldable pub aim_words : List (List ℕ × Aim)
aim_words = (codes "self", aims.User) ∷ (codes "foe", aims.Foe) ∷ []

unfoldable pub stat_words : List (List ℕ × Stat)
stat_words =
    (codes "atk", stats.Atk) ∷
    (codes "def", stats.Def) ∷
    (codes "spc", stats.Spc) ∷
    (codes "spe", stats.Spe) ∷
    (codes "acc", stats.Acc) ∷
    (codes "eva", stats.Eva) ∷
    []

unfoldable pub screen_words : List (List ℕ × ScreenKind)
screen_words = (codes "reflect", screens.Reflect) ∷ (codes "light", screens.Light) ∷ []

unfoldable pub copy_words : List (List ℕ × CopyKind)
copy_words =
    (codes "mimic", copies.Mimic) ∷
    (codes "transform", copies.Transform) ∷
    (codes "metronome", copies.Metronome) ∷
    (codes "mirrormove", copies.MirrorMove) ∷
    (codes "conversion", copies.Conversion) ∷
    (codes "disable", copies.Disable) ∷
    []

-- ---- the fields

-- out of 256
abbrev pub chance_in : Data → Result ℕ Fault
chance_in value = optional (codes "chance") 256 (number_in 0 256) value

unfoldable pub fixed_in : Data → Result Effect Fault
fixed_in value = do
  amount ← required (codes "amount") (number_in 1 713) value
  Ok (effects.Fixed amount)

unfoldable pub status_effect_in : Data → Result Effect Fault
status_effect_in value = do
  status ← required (codes "status") (word_in status_words) value
  chance ← chance_in value
  Ok (effects.Status status chance)

unfoldable pub confuse_in : Data → Result Effect Fault
confuse_in value = do
  chance ← chance_in value
  Ok (effects.Confuse chance)

unfoldable pub flinch_in : Data → Result Effect Fault
flinch_in value = do
  chance ← chance_in value
  Ok (effects.Flinch chance)

-- from -6 to 6, and not 0
unfoldable pub stages_in : Data → Result ℤ Fault
stages_in value = do
  by ← integer_in (negsuc 5) (pos 6) value
  _ ← ensure Range (not (int_le (pos 0) by && int_le by (pos 0)))
  Ok by

unfoldable pub boost_in : Data → Result Effect Fault
boost_in value = do
  who ← required (codes "who") (word_in aim_words) value
  stat ← required (codes "stat") (word_in stat_words) value
  by ← required (codes "by") stages_in value
  chance ← chance_in value
  Ok (effects.Boost who stat by chance)

unfoldable pub recoil_in : Data → Result Effect Fault
recoil_in value = do
  by ← required (codes "by") (number_in 1 255) value
  Ok (effects.Recoil by)

unfoldable pub double_in : Data → Result Effect Fault
double_in value = do
  status ← required (codes "status") (word_in status_words) value
  chance ← chance_in value
  Ok (effects.Double status chance)

unfoldable pub charge_in : Data → Result Effect Fault
charge_in value = do
  away ← optional (codes "away") false boolean_in value
  Ok (effects.Charge away)

unfoldable pub screen_in : Data → Result Effect Fault
screen_in value = do
  which ← required (codes "which") (word_in screen_words) value
  Ok (effects.Screen which)

unfoldable pub copy_in : Data → Result Effect Fault
copy_in value = do
  sub ← required (codes "sub") (word_in copy_words) value
  Ok (effects.Copy sub)

-- ---- the effect

abbrev pub effect_of : Kind → Data → Result Effect Fault
effect_of kinds.Plain value = Ok effects.Plain
effect_of kinds.Fixed value = fixed_in value
effect_of kinds.Level value = Ok effects.Level
effect_of kinds.Half value = Ok effects.Half
effect_of kinds.Psywave value = Ok effects.Psywave
effect_of kinds.Ohko value = Ok effects.Ohko
effect_of kinds.Status value = status_effect_in value
effect_of kinds.Confuse value = confuse_in value
effect_of kinds.Flinch value = flinch_in value
effect_of kinds.Boost value = boost_in value
effect_of kinds.Drain value = Ok effects.Drain
effect_of kinds.DreamEater value = Ok effects.DreamEater
effect_of kinds.Recoil value = recoil_in value
effect_of kinds.Crash value = Ok effects.Crash
effect_of kinds.Multi value = Ok effects.Multi
effect_of kinds.Double value = double_in value
effect_of kinds.Explode value = Ok effects.Explode
effect_of kinds.Charge value = charge_in value
effect_of kinds.Recharge value = Ok effects.Recharge
effect_of kinds.Trap value = Ok effects.Trap
effect_of kinds.Thrash value = Ok effects.Thrash
effect_of kinds.Bide value = Ok effects.Bide
effect_of kinds.Rage value = Ok effects.Rage
effect_of kinds.Counter value = Ok effects.Counter
effect_of kinds.Substitute value = Ok effects.Substitute
effect_of kinds.LeechSeed value = Ok effects.LeechSeed
effect_of kinds.Screen value = screen_in value
effect_of kinds.Mist value = Ok effects.Mist
effect_of kinds.Focus value = Ok effects.Focus
effect_of kinds.Haze value = Ok effects.Haze
effect_of kinds.Heal value = Ok effects.Heal
effect_of kinds.Rest value = Ok effects.Rest
effect_of kinds.Copy value = copy_in value
effect_of kinds.Nothing value = Ok effects.Nothing

unfoldable pub effect_in : Data → Result Effect Fault
effect_in value = do
  _ ← object_in value
  kind ← required (codes "kind") (word_in kind_words) value
  effect_of kind value
