-- What is committed is legal, and what waits may.
use Rattle.std.proofs.Common.{◌≡◌, ◌<◌, ◌||◌, arith, not, ℕ, zero, suc, Bool, true, false, Option, Some, None, refl, if◌then◌else◌}
use Rattle.std.specs.Prelude.{IfSome, is_some}
use Rattle.ps_mon.specs.declared.record.Battle.{Battle}
use Rattle.ps_mon.specs.declared.choice.Choice.{Choice}
use Rattle.ps_mon.specs.Facts.{Figures}
use Rattle.ps_mon.specs.Choices.{is_asked, IsChoiceOf}
use Rattle.ps_mon.specs.Valid.{is_over}
use Rattle.battle_rounds.specs.declared.bout.Bout.{Bout}
use Rattle.battle_rounds.specs.Bouts.{CanWait, IsBout, with_waiting}
use Rattle.battle_rounds.specs.Rounds.{choice_or_pass}
use Rattle.battle_rounds.specs.Refusals.{refusal_of_forfeit}
use Rattle.ps_base.specs.declared.why.Why.TheVariants.{NotYourTurn}

unasked : (asked : Bool) → (not asked || false) ≡ true → asked ≡ false
unasked false e = refl
unasked true e = absurd (let wrong : false ≡ true = e in cc)

-- a side that is ready is committed with what waits, which is legal, or passes where it isn't asked
pub ready_choices : (b : Battle) (s : ℕ) (w : Option Choice) → IfSome w (CanWait b s) → (not (is_asked b.phase s) || is_some w) ≡ true → IsChoiceOf b s (choice_or_pass w)
ready_choices b s None p e = rw (unasked (is_asked b.phase s) e) refl
ready_choices b s (Some choice) p e = rw p.asked p.legal

-- a choice that may wait does
pub waits : (facts : Figures) (b : Bout) (s : ℕ) (choice : Choice) → IsBout facts b → CanWait b.battle s choice → s < 2 → IsBout facts (with_waiting s (Some choice) b)
waits facts b zero choice is can lt = record { valid = is.valid; fair = is.fair; first = can; second = is.second }
waits facts b (suc zero) choice is can lt = record { valid = is.valid; fair = is.fair; first = is.first; second = can }
waits facts b (suc (suc s)) choice is can lt = absurd (omega (arith, lt))

-- none waits
pub waits_not : (facts : Figures) (b : Bout) (s : ℕ) → IsBout facts b → IsBout facts (with_waiting s None b)
waits_not facts b zero is = record { valid = is.valid; fair = is.fair; first = no_choice; second = is.second } where
  no_choice : IfSome None (CanWait b.battle 0)
  no_choice = _
waits_not facts b (suc s) is = record { valid = is.valid; fair = is.fair; first = is.first; second = no_choice } where
  no_choice : IfSome None (CanWait b.battle 1)
  no_choice = _

-- who may give up does so in a battle that goes on
pub forfeits_going : (b : Bout) → refusal_of_forfeit b ≡ None → is_over b.battle.phase ≡ false
forfeits_going b e = by_phase (is_over b.battle.phase) e where
  by_phase : (over : Bool) → (if over then Some NotYourTurn else None) ≡ None → over ≡ false
  by_phase false e = refl
  by_phase true e = absurd (let wrong : Some NotYourTurn ≡ None = e in cc)
