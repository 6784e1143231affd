-- The script of a drill.
use Rattle.std.specs.Prelude.{ℕ, ◌-◌, List, ◌++◌, Option}
use Rattle.ps_dex.specs.declared.item.Tables.{Tables}
use Rattle.rules_config.specs.declared.settings.Settings.{Settings}
use Rattle.replay_drill.specs.Lines.{head_lines, time_line}
use Rattle.replay_drill.specs.Draws.{drawn_line, after_steps}
use Rattle.replay_drill.specs.declared.fight.Fight.{Fight}
use Rattle.replay_drill.specs.Fights.{fight_of, fight_start, fight_choices}
use Rattle.ps_base.specs.Lists.{each_to}

-- a step, the first of which is 1, of a drill whose draws begin with this state: the moment, what is drawn, and the battle's choices
abbrev pub step_lines : Option Fight → ℕ → ℕ → List ℕ
step_lines fight seed step = time_line step ++ drawn_line step (after_steps seed (step - 1)) ++ fight_choices fight

-- a drill of so many steps, whose draws begin with that number
unfoldable pub drill_text : Settings → Tables → ℕ → List ℕ
drill_text config dex steps =
    head_lines config.groups ++ fight_start (fight_of config dex) ++ each_to (step_lines (fight_of config dex) steps) steps
