-- What an effect does: it looks, draws, changes the duel and tells events, one step after another.
use Rattle.std.specs.Prelude.{ℕ, Bool, List, [], ◌∷◌, ◌++◌, true, false}
use Rattle.arrayvec.specs.ArrayVec.{ArrayVec}
use Rattle.ps_event.specs.declared.event.Event.{Event}
use Rattle.ps_mon.specs.declared.duel.Duel.{Duel}
use Rattle.ps_calc.specs.Draws.{after, drawn}

-- the duel, and the events told so far
pub record Scene : Type 0 where
  pub duel : Duel
  pub told : List Event

-- a play has an answer, and a scene after it
abbrev pub Play : Type 0 → Type 0
Play A = Scene → A × Scene

infixl 10 ◌>>=◌
abbrev pub ◌>>=◌ : {A B : Type 0} → Play A → (A → Play B) → Play B
one >>= next = λ now. next (one now).0 (one now).1

infixl 10 ◌>>◌
abbrev pub ◌>>◌ : {A B : Type 0} → Play A → Play B → Play B
one >> next = λ now. next (one now).1

-- nothing more, with this answer
abbrev pub give : {A : Type 0} → A → Play A
give answer = λ now. (answer, now)

-- the duel as it is now
abbrev pub duel_now : Play Duel
duel_now = λ now. (now.duel, now)

abbrev pub tell : Event → Play (Unit {0})
tell event = λ now. (tt, record now { told = now.told ++ event ∷ [] })

abbrev pub change : (Duel → Duel) → Play (Unit {0})
change edit = λ now. (tt, record now { duel = edit now.duel })

-- one of two ways to go on
abbrev pub choose : {A : Type 0} → Bool → Play A → Play A → Play A
choose true one other = one
choose false one other = other

-- a number below the bound, after one step of the random source
abbrev pub draw : ℕ → Play ℕ
draw bound = λ now. (drawn (after now.duel.rng) bound, record now { duel = record now.duel { rng = after now.duel.rng } })

-- the scene of a duel and its events
abbrev pub scene : Duel → ArrayVec Event → Scene
scene duel events = record { duel = duel; told = events.items }
