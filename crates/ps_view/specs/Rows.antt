-- The rows of the table of lines, in its order.
use Rattle.std.specs.Prelude.{ℕ, Bool, List, ◌++◌, codes, Option, None}
use Rattle.std.specs.Fmt.{decimal}
use Rattle.ps_event.specs.declared.side.Side.{Side}
use Rattle.ps_event.specs.declared.event.Who.{Who}
use Rattle.ps_event.specs.declared.event.Health.{Health}
use Rattle.ps_dex.specs.declared.item.Tables.{Tables}
use Rattle.ps_dex.specs.Lookups.{name_of_move}
use Rattle.ps_view.specs.declared.names.Names.{Names}
use Rattle.ps_view.specs.Named.{player_of}
use Rattle.ps_view.specs.Words.{side_word, clause_word, status_word, reason_word, from_end, effect_word}
use Rattle.ps_view.specs.Parts.{position, details, condition, still_end, called_end, stages, named_end}

-- ---- what several rows tell

-- |WORD|POS
abbrev pub about : List ℕ → Names → Who → List ℕ
about word names who = codes "|" ++ word ++ codes "|" ++ position names who

-- |WORD|POS|TEXT
abbrev pub about_with : List ℕ → Names → Who → List ℕ → List ℕ
about_with word names who text = about word names who ++ codes "|" ++ text

-- ---- the opening

abbrev pub player_line : Names → Side → List ℕ
player_line names side = codes "|player|" ++ side_word side ++ codes "|" ++ player_of names side ++ codes "||"

abbrev pub team_size_line : Side → ℕ → List ℕ
team_size_line side count = codes "|teamsize|" ++ side_word side ++ codes "|" ++ decimal count

abbrev pub tier_line : Names → List ℕ
tier_line names = codes "|tier|" ++ names.format

abbrev pub rule_line : ℕ → List ℕ
rule_line clause = codes "|rule|" ++ clause_word clause

abbrev pub poke_line : Tables → Side → ℕ → ℕ → List ℕ
poke_line dex side species level = codes "|poke|" ++ side_word side ++ codes "|" ++ details dex species level ++ codes "|"

-- ---- the acts

abbrev pub switch_line : Bool → Names → Tables → Who → ℕ → ℕ → Health → List ℕ
switch_line exact names dex who species level health =
    about_with (codes "switch") names who (details dex species level ++ codes "|" ++ condition exact names.percent health)

abbrev pub move_line : Names → Tables → Who → ℕ → Who → Bool → Option ℕ → List ℕ
move_line names dex who mv target still from =
    about_with (codes "move") names who (name_of_move mv dex.moves ++ codes "|" ++ position names target ++ still_end still
    ++ called_end dex from)

abbrev pub cant_line : Names → Who → ℕ → List ℕ
cant_line names who reason = about_with (codes "cant") names who (reason_word reason)

abbrev pub damage_line : Bool → Names → Who → Health → ℕ → List ℕ
damage_line exact names who health from = about_with (codes "-damage") names who (condition exact names.percent health ++ from_end from)

abbrev pub heal_line : Bool → Names → Who → Health → List ℕ
heal_line exact names who health = about_with (codes "-heal") names who (condition exact names.percent health)

abbrev pub status_line : Names → Who → ℕ → List ℕ
status_line names who status = about_with (codes "-status") names who (status_word status)

abbrev pub cure_line : Names → Who → ℕ → List ℕ
cure_line names who status = about_with (codes "-curestatus") names who (status_word status)

abbrev pub boost_line : Names → Who → ℕ → ℕ → List ℕ
boost_line names who stat by = about_with (codes "-boost") names who (stages stat by)

abbrev pub unboost_line : Names → Who → ℕ → ℕ → List ℕ
unboost_line names who stat by = about_with (codes "-unboost") names who (stages stat by)

abbrev pub start_line : Names → Tables → Who → ℕ → Option ℕ → List ℕ
start_line names dex who effect mv = about_with (codes "-start") names who (effect_word dex effect mv ++ named_end dex effect mv)

abbrev pub end_line : Names → Tables → Who → ℕ → List ℕ
end_line names dex who effect = about_with (codes "-end") names who (effect_word dex effect None)

abbrev pub activate_line : Names → Tables → Who → ℕ → Option ℕ → List ℕ
activate_line names dex who effect mv = about_with (codes "-activate") names who (effect_word dex effect mv)

abbrev pub prepare_line : Names → Tables → Who → ℕ → List ℕ
prepare_line names dex who mv = about_with (codes "-prepare") names who (name_of_move mv dex.moves)

abbrev pub transform_line : Names → Who → Who → List ℕ
transform_line names who target = about_with (codes "-transform") names who (position names target)

abbrev pub hit_count_line : Names → Who → ℕ → List ℕ
hit_count_line names who hits = about_with (codes "-hitcount") names who (decimal hits)

-- ---- turns and the end

abbrev pub turn_line : ℕ → List ℕ
turn_line turn = codes "|turn|" ++ decimal turn

abbrev pub forfeit_line : Names → Side → List ℕ
forfeit_line names side = codes "|-message|" ++ player_of names side ++ codes " forfeited."

abbrev pub win_line : Names → Side → List ℕ
win_line names side = codes "|win|" ++ player_of names side
