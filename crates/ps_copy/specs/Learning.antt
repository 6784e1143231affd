-- What the user takes from the foe: a move, its whole form, or its types.
use Rattle.std.specs.Prelude.{ℕ, Option, Some, None, [], ◌∷◌, ◌++◌, ◌-◌}
use Rattle.ps_event.specs.declared.event.Event.TheVariants as events
use Rattle.ps_event.specs.Numbers as numbers
use Rattle.ps_mon.specs.declared.duel.Fighter.{Fighter}
use Rattle.ps_mon.specs.Facts.{Figures}
use Rattle.ps_mon.specs.Duels.{fighter_of}
use Rattle.ps_mon.specs.Moves.{move_of}
use Rattle.ps_mon.specs.Reading.{side_of}
use Rattle.ps_mon.specs.Slots.{slot_now}
use Rattle.ps_hits.specs.Scenes.{Play, ◌>>=◌, ◌>>◌, give, duel_now, tell, change, choose, draw}
use Rattle.ps_hits.specs.Told.{who_of}
use Rattle.ps_hits.specs.Fighters.{types_now, stats_now}
use Rattle.ps_hits.specs.Strikes.{accuracy_test}
use Rattle.ps_hits.specs.Courses.{Course, played}
use Rattle.ps_copy.specs.Answers.{answer_of}
use Rattle.ps_copy.specs.Changing.{with_slots, with_mimic, copied_from}

-- the accuracy test of Mimic, and where it hits the slot of the foe that is drawn
unfoldable pub mimic_row : Figures → ℕ → Play (Option ℕ)
mimic_row facts mv = do
  duel ← duel_now
  lands ← accuracy_test (move_of facts mv).accuracy
  choose lands
      (do
        from ← draw duel.slot_count
        give (Some from))
      (give None)

-- the user's slot takes the move that stands in a slot of the foe
unfoldable pub learned : ℕ → ℕ → ℕ → Course → Course
learned slot user from course =
    let mv = (slot_now (side_of course.battle (1 - user)) from).mv in
    let mine = side_of course.battle user in
    record {
      battle = with_slots course.battle user (with_mimic mine.vol.slots slot mv);
      told = course.told ++ events.VolStart (who_of (fighter_of user mine)) numbers.effect_mimic (Some mv) ∷ [];
    }

abbrev pub learned_from : ℕ → ℕ → Option ℕ → Course → Course
learned_from slot user None course = course
learned_from slot user (Some from) course = learned slot user from course

-- mimic: where it lands the used slot takes a move of the foe
unfoldable pub mimic_effect : Figures → ℕ → ℕ → ℕ → Course → Course
mimic_effect facts mv slot user course =
    learned_from slot user (answer_of (mimic_row facts mv) user course) (played (mimic_row facts mv) user course)

-- a fighter with the types, the stats and the stages of another one. Its health, level, base Speed and species stay
unfoldable pub in_form_of : Fighter → Fighter → Fighter
in_form_of foe fighter =
    record fighter { vol = record fighter.vol { types = Some (types_now foe); stats = Some (stats_now foe); stages = foe.vol.stages } }

unfoldable pub form_row : Play (Unit {0})
form_row = do
  duel ← duel_now
  change (λ duel. record duel { user = in_form_of duel.foe duel.user })
  tell (events.Transform (who_of duel.user) (who_of duel.foe))

-- transform: the foe's form, and then its slots, with no accuracy test
unfoldable pub transform_effect : ℕ → Course → Course
transform_effect user course =
    let formed = played form_row user course in
    record formed { battle = with_slots formed.battle user (copied_from (side_of formed.battle (1 - user))) }

-- conversion: the foe's types, with no accuracy test
unfoldable pub conversion_row : Play (Unit {0})
conversion_row = do
  duel ← duel_now
  change (λ duel. record duel { user = record duel.user { vol = record duel.user.vol { types = Some (types_now duel.foe) } } })
  tell (events.VolStart (who_of duel.user) numbers.effect_typechange None)
