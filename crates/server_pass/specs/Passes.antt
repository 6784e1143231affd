-- What a connection has of a place, whatever stands there.
use Rattle.std.specs.Prelude.{◌≡◌, ℕ, ◌≤◌, List, [], ◌∷◌, ◌++◌, All, Option}
use mathlib.Core.List.{IsPrefix}
use Rattle.ps_histlock.specs.Histories.{commands}
use Rattle.ps_histlock.specs.Seated.{TableId}
use Rattle.ps_histlock.specs.Locks.{OwnSigns}
use Rattle.ps_histlock.specs.declared.view.Entry.{Entry}
use Rattle.ps_histlock.specs.declared.view.View.{View}
use Rattle.ps_histlock.specs.Signs.{SignsAs}
use Rattle.ps_histlock.specs.Views.{IsAtRest}
use Rattle.server_pass.specs.Tellings.{Telling, IsTold, lines_of}
use Rattle.server_pass.specs.declared.pass.PlacePass.{PlacePass}

-- none is less than one before it
abbrev pub NeverFalls : List ℕ → Type 0
NeverFalls [] = Unit {0}
NeverFalls (number ∷ numbers) = All (λ (later : ℕ). number ≤ later) numbers × NeverFalls numbers

-- a call let the pass make more entries, and say as much
abbrev pub Adds : {O C : Type 0} → View O C → View O C → Type 0
Adds {O} {C} old new = (more : List (Entry C)) × (new.said ≡ old.said ++ more) × (new.mine ≡ old.mine ++ more)

-- the same origin, and it forgets nothing
pub record Grows {O C : Type 0} (old new : View O C) : Type 0 where
  pub origin : new.origin ≡ old.origin
  pub seen : IsPrefix old.seen new.seen
  pub adds : Adds old new

-- A pass of the lock with this name, of a place with this origin. No look shows less than one before it. All that it signs it signs by the
-- connection's number, and what it knows to be signed so is what it has said.
pub record IsPass {K O C X N I : Type 0} (origin_in : K → O) (stands : List C → K → Type 0) (signer : C → Option ℕ)
    (telling : Telling O C X) (conn : ℕ)
    (place : TableId × O) (pass : PlacePass (TableId × View O C) X N I) : Type 0 where
  pub lock : pass.pass.0 ≡ place.0
  pub origin : pass.pass.1.origin ≡ place.1
  pub rest : IsAtRest origin_in stands pass.pass.1
  pub looks : NeverFalls pass.pass.1.looks
  pub signs : SignsAs signer conn pass.pass.1.said
  pub own : OwnSigns signer pass.pass.1 pass.pass.1.known
  pub told : IsTold (telling.shows conn place.1) (telling.stands_at conn place.1) (commands pass.pass.1.seen) pass.cursor
      (telling.passed pass.cursor)
      (lines_of (pass.kept.items ++ pass.fresh.items)) pass.at
