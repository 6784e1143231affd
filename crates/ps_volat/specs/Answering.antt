-- What the foe gets: a seed, or its blow back; and a move that does nothing.
use Rattle.std.specs.Prelude.{ℕ, Bool, true, false, Option, Some, None, ◌*◌, ◌||◌}
use Rattle.ps_event.specs.declared.event.Event.TheVariants as events
use Rattle.ps_mon.specs.declared.duel.Fighter.{Fighter}
use Rattle.ps_mon.specs.Facts.{Figures}
use Rattle.ps_mon.specs.declared.record.Taken.{Taken}
use Rattle.ps_mon.specs.Moves.{move_of}
use Rattle.ps_hits.specs.Scenes.{Play, ◌>>=◌, ◌>>◌, give, duel_now, tell, change, choose}
use Rattle.ps_hits.specs.Told.{who_of}
use Rattle.ps_hits.specs.Fighters.{is_of_type}
use Rattle.ps_hits.specs.Strikes.{accuracy_test}
use Rattle.ps_hits.specs.Amounts.{deal_alone}
use Rattle.ps_event.specs.Numbers as numbers

abbrev pub seeded : Fighter → Fighter
seeded fighter = record fighter { vol = record fighter.vol { seeded = true } }

-- leechseed: the accuracy test, then Fail where the foe is seeded or has the move's type, else it is seeded
unfoldable pub leechseed_row : Figures → ℕ → Play (Unit {0})
leechseed_row facts mv = do
  lands ← accuracy_test (move_of facts mv).accuracy
  duel ← duel_now
  choose lands
      (choose (duel.foe.vol.seeded || is_of_type duel.foe (move_of facts mv).kind) (tell (events.Fail (who_of duel.user))) (do
        change (λ duel. record duel { foe = seeded duel.foe })
        tell (events.VolStart (who_of duel.foe) numbers.effect_leech_seed None)))
      (give tt)

-- twice the damage that the user took last in this turn, where a move of type `normal` or `fighting` did it
abbrev pub answer_to : Bool → ℕ → Option ℕ
answer_to true damage = Some (2 * damage)
answer_to false damage = None

abbrev pub answered : Figures → Option Taken → Option ℕ
answered facts None = None
answered facts (Some taken) = answer_to (move_of facts taken.mv).contact taken.damage

abbrev pub deal_answer : ℕ → Option ℕ → Play (Unit {0})
deal_answer mv None = do
  duel ← duel_now
  tell (events.Fail (who_of duel.user))
deal_answer mv (Some amount) = deal_alone mv amount

-- counter: that is dealt, whatever the types, with no accuracy test; else Fail
unfoldable pub counter_row : Figures → ℕ → Play (Unit {0})
counter_row facts mv = do
  duel ← duel_now
  deal_answer mv (answered facts duel.user.vol.taken)

-- nothing: Activate with the move's name
unfoldable pub nothing_row : ℕ → Play (Unit {0})
nothing_row mv = do
  duel ← duel_now
  tell (events.Activate (who_of duel.user) numbers.effect_move (Some mv))
