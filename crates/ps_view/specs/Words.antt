-- The words that the numbers of events stand for. A number past a list stands for the list's last word.
use Rattle.std.specs.Prelude.{ℕ, ◌==◌, List, codes, Option, Some, None, if◌then◌else◌}
use Rattle.ps_event.specs.Numbers.{from_nothing, from_psn, from_brn, from_leech_seed, from_recoil, from_confusion}
use Rattle.ps_event.specs.Numbers.{effect_confusion, effect_substitute, effect_leech_seed, effect_reflect, effect_light_screen}
use Rattle.ps_event.specs.Numbers.{effect_mist, effect_focus_energy, effect_mimic, effect_disable, effect_typechange, effect_bide}
use Rattle.ps_event.specs.Numbers.{reason_slp, reason_frz, reason_partially_trapped, reason_flinch, reason_recharge, reason_disable}
use Rattle.ps_event.specs.Numbers.{stat_atk, stat_def, stat_spc, stat_spe, stat_acc}
use Rattle.ps_event.specs.declared.side.Side.{Side}
use Rattle.ps_event.specs.declared.side.Side.TheVariants.{P1, P2}
use Rattle.ps_dex.specs.declared.item.Tables.{Tables}
use Rattle.ps_dex.specs.Lookups.{name_of_move}

abbrev pub side_word : Side → List ℕ
side_word P1 = codes "p1"
side_word P2 = codes "p2"

-- the clauses, in their order
unfoldable pub clause_word : ℕ → List ℕ
clause_word clause =
    if clause == 0 then codes "Species Clause" else (
    if clause == 1 then codes "Sleep Clause Mod" else (
    if clause == 2 then codes "Freeze Clause Mod" else (
    if clause == 3 then codes "OHKO Clause" else (
    if clause == 4 then codes "Evasion Moves Clause" else (
    if clause == 5 then codes "Nickname Clause" else (
    if clause == 6 then codes "Team Preview" else
    codes "HP Percentage Mod"))))))

-- the statuses, in their order; who is healthy has no word
unfoldable pub status_word : ℕ → List ℕ
status_word status =
    if status == 0 then codes "" else (
    if status == 1 then codes "slp" else (
    if status == 2 then codes "par" else (
    if status == 3 then codes "brn" else (
    if status == 4 then codes "psn" else (
    if status == 5 then codes "tox" else
    codes "frz")))))

unfoldable pub stat_word : ℕ → List ℕ
stat_word stat =
    if stat == stat_atk then codes "atk" else (
    if stat == stat_def then codes "def" else (
    if stat == stat_spc then codes "spc" else (
    if stat == stat_spe then codes "spe" else (
    if stat == stat_acc then codes "acc" else
    codes "eva"))))

-- why a member can't act
unfoldable pub reason_word : ℕ → List ℕ
reason_word reason =
    if reason == reason_slp then codes "slp" else (
    if reason == reason_frz then codes "frz" else (
    if reason == reason_partially_trapped then codes "partiallytrapped" else (
    if reason == reason_flinch then codes "flinch" else (
    if reason == reason_recharge then codes "recharge" else (
    if reason == reason_disable then codes "Disable" else
    codes "par")))))

-- what a loss of health is from, as it ends a line; a hit of a move isn't named
unfoldable pub from_end : ℕ → List ℕ
from_end from =
    if from == from_nothing then codes "" else (
    if from == from_psn then codes "|[from] psn" else (
    if from == from_brn then codes "|[from] brn" else (
    if from == from_leech_seed then codes "|[from] Leech Seed" else (
    if from == from_recoil then codes "|[from] Recoil" else (
    if from == from_confusion then codes "|[from] confusion" else
    codes "|[from] crash")))))

-- the name of a move, where there is one
abbrev pub move_word : Tables → Option ℕ → List ℕ
move_word dex None = codes ""
move_word dex (Some mv) = name_of_move mv dex.moves

-- what starts, ends or does something; the last is the name of the event's move
unfoldable pub effect_word : Tables → ℕ → Option ℕ → List ℕ
effect_word dex effect mv =
    if effect == effect_confusion then codes "confusion" else (
    if effect == effect_substitute then codes "Substitute" else (
    if effect == effect_leech_seed then codes "Leech Seed" else (
    if effect == effect_reflect then codes "Reflect" else (
    if effect == effect_light_screen then codes "Light Screen" else (
    if effect == effect_mist then codes "Mist" else (
    if effect == effect_focus_energy then codes "Focus Energy" else (
    if effect == effect_mimic then codes "Mimic" else (
    if effect == effect_disable then codes "Disable" else (
    if effect == effect_typechange then codes "typechange" else (
    if effect == effect_bide then codes "Bide" else
    move_word dex mv))))))))))
