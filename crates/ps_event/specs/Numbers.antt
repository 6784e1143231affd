-- The numbers that events write out: places, from 0, in the lists of what they name.
use Rattle.std.specs.Prelude.{ℕ}

-- what a loss of health is from
abbrev pub from_nothing : ℕ
from_nothing = 0

abbrev pub from_psn : ℕ
from_psn = 1

abbrev pub from_brn : ℕ
from_brn = 2

abbrev pub from_leech_seed : ℕ
from_leech_seed = 3

abbrev pub from_recoil : ℕ
from_recoil = 4

abbrev pub from_confusion : ℕ
from_confusion = 5

abbrev pub from_crash : ℕ
from_crash = 6

-- what starts, ends or does something; the last stands for the name of the event's move
abbrev pub effect_confusion : ℕ
effect_confusion = 0

abbrev pub effect_substitute : ℕ
effect_substitute = 1

abbrev pub effect_leech_seed : ℕ
effect_leech_seed = 2

abbrev pub effect_reflect : ℕ
effect_reflect = 3

abbrev pub effect_light_screen : ℕ
effect_light_screen = 4

abbrev pub effect_mist : ℕ
effect_mist = 5

abbrev pub effect_focus_energy : ℕ
effect_focus_energy = 6

abbrev pub effect_mimic : ℕ
effect_mimic = 7

abbrev pub effect_disable : ℕ
effect_disable = 8

abbrev pub effect_typechange : ℕ
effect_typechange = 9

abbrev pub effect_bide : ℕ
effect_bide = 10

abbrev pub effect_move : ℕ
effect_move = 11

-- why a member can't act
abbrev pub reason_slp : ℕ
reason_slp = 0

abbrev pub reason_frz : ℕ
reason_frz = 1

abbrev pub reason_partially_trapped : ℕ
reason_partially_trapped = 2

abbrev pub reason_flinch : ℕ
reason_flinch = 3

abbrev pub reason_recharge : ℕ
reason_recharge = 4

abbrev pub reason_disable : ℕ
reason_disable = 5

abbrev pub reason_par : ℕ
reason_par = 6

-- what has stages
abbrev pub stat_atk : ℕ
stat_atk = 0

abbrev pub stat_def : ℕ
stat_def = 1

abbrev pub stat_spc : ℕ
stat_spc = 2

abbrev pub stat_spe : ℕ
stat_spe = 3

abbrev pub stat_acc : ℕ
stat_acc = 4

abbrev pub stat_eva : ℕ
stat_eva = 5
