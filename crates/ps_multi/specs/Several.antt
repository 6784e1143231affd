-- Moves that hit several times.
use Rattle.std.specs.Prelude.{ℕ, zero, suc, ◌+◌, ◌-◌, ◌==◌, ◌||◌, Bool, false, [], ◌∷◌, slice_index}
use Rattle.ps_event.specs.declared.event.Event.TheVariants as events
use Rattle.ps_mon.specs.declared.duel.Duel.{Duel}
use Rattle.ps_mon.specs.declared.effect.Effect.{Effect}
use Rattle.ps_mon.specs.declared.effect.Effect.TheVariants as effects
use Rattle.ps_mon.specs.Facts.{Figures}
use Rattle.ps_mon.specs.declared.status.Status.{Status}
use Rattle.ps_mon.specs.Moves.{move_of}
use Rattle.ps_hits.specs.declared.strike.Dealt.{Dealt}
use Rattle.ps_hits.specs.declared.strike.Struck.{Struck}
use Rattle.ps_hits.specs.declared.strike.Struck.TheVariants.{NoEffect, Missed, Hit}
use Rattle.ps_hits.specs.Scenes.{Play, ◌>>=◌, ◌>>◌, give, duel_now, tell, choose, draw}
use Rattle.ps_hits.specs.Told.{who_of}
use Rattle.ps_hits.specs.Strikes.{deal, strike_with}
use Rattle.ps_status.specs.Seconds.{second}
use Rattle.ps_status.specs.Afflicting.{status_second}

-- how many hits, by a draw below 8
abbrev pub hits_by : ℕ → ℕ
hits_by drawn = slice_index (2 ∷ 2 ∷ 2 ∷ 3 ∷ 3 ∷ 3 ∷ 4 ∷ 5 ∷ []) drawn

-- no hit comes after one that ended the foe's substitute, and none where the foe has fainted
abbrev pub is_last : Dealt → Duel → Bool
is_last dealt duel = dealt.ended || duel.foe.hp == 0

-- after a hit up to so many others of the same damage; the answer is how many came
unfoldable pub further_hits : ℕ → ℕ → Dealt → Play ℕ
further_hits zero mv dealt = give 0
further_hits (suc left) mv dealt = do
  duel ← duel_now
  choose (is_last dealt duel) (give 0) do
    again ← deal mv dealt.damage
    more ← further_hits left mv again
    give (1 + more)

-- up to so many hits, of which the first has come, and then how many there were
unfoldable pub hits_in_all : ℕ → ℕ → Dealt → Play (Unit {0})
hits_in_all hits mv first = do
  more ← further_hits (hits - 1) mv first
  duel ← duel_now
  tell (events.HitCount (who_of duel.foe) (1 + more))

unfoldable pub multi_after : ℕ → Struck → Play (Unit {0})
multi_after mv NoEffect = give tt
multi_after mv Missed = give tt
multi_after mv (Hit dealt) = do
  drawn ← draw 8
  hits_in_all (hits_by drawn) mv dealt

-- multi: a strike; where it hit, two to five hits of its damage in all, by a draw that is made after the first whatever came of it
unfoldable pub multi_row : Figures → ℕ → Play (Unit {0})
multi_row facts mv = do
  struck ← strike_with facts mv false
  multi_after mv struck

unfoldable pub double_after : ℕ → Struck → Play (Unit {0})
double_after mv NoEffect = give tt
double_after mv Missed = give tt
double_after mv (Hit dealt) = hits_in_all 2 mv dealt

-- double: a strike; where it hit, two hits of its damage in all; then a status as its secondary
unfoldable pub double_row : Status → ℕ → Figures → ℕ → Play (Unit {0})
double_row status chance facts mv = do
  struck ← strike_with facts mv false
  double_after mv struck
  second chance struck (status_second status (move_of facts mv))

-- what the call does for a move of that kind; for another kind nothing
abbrev pub double_effect : Effect → Figures → ℕ → Play (Unit {0})
double_effect (effects.Double status chance) facts mv = double_row status chance facts mv
double_effect other facts mv = give tt
