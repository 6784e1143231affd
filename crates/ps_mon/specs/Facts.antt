-- What is known of moves and types, and when it is fair.
use Rattle.std.specs.Prelude.{◌≡◌, ◌≢◌, ◌⊎◌, ℕ, pos, negsuc, ◌<◌, ◌≤◌, ◌≤ℤ◌, Bool, false, List, [], All, length, slice_index}
use Rattle.std.specs.Prelude.{slice_index_or}
use Rattle.ps_mon.specs.declared.status.Status.TheVariants.{Healthy}
use Rattle.ps_mon.specs.declared.effect.Effect.{Effect}
use Rattle.ps_mon.specs.declared.effect.Effect.TheVariants as effects
use Rattle.ps_mon.specs.declared.facts.MoveData.{MoveData}
use Rattle.ps_mon.specs.declared.facts.Facts.{Facts}

-- ---- the figures that facts lend

pub record Figures : Type 0 where
  pub moves : List MoveData
  pub factors : List (List ℕ)
  pub struggle : MoveData

-- what the facts refer to; two facts with the same figures are the same to every definition
unfoldable pub figures : Facts → Figures
figures facts = record { moves = facts.moves.now; factors = facts.factors.now; struggle = facts.struggle.now }

-- ---- when they are fair

-- the built-in move: a strike of type 0 with power 50 and accuracy 100, half of what it dealt as recoil
abbrev pub struggle : Bool → Bool → MoveData
struggle special contact = record {
  kind = 0;
  special = special;
  contact = contact;
  power = 50;
  accuracy = 100;
  pp = 1;
  priority = pos 0;
  high = false;
  effect = effects.Recoil 2;
}

-- the fields of an effect are in their ranges: a chance is out of 256, and a status is one of the six that a move can give
abbrev pub IsFairEffect : Effect → Type 0
IsFairEffect (effects.Fixed amount) = (1 ≤ amount) × (amount ≤ 713)
IsFairEffect (effects.Status status chance) = (status ≢ Healthy) × (chance ≤ 256)
IsFairEffect (effects.Confuse chance) = chance ≤ 256
IsFairEffect (effects.Flinch chance) = chance ≤ 256
IsFairEffect (effects.Boost who stat by chance) = (negsuc 5 ≤ℤ by) × (by ≤ℤ pos 6) × (by ≢ pos 0) × (chance ≤ 256)
IsFairEffect (effects.Recoil by) = (1 ≤ by) × (by ≤ 255)
IsFairEffect (effects.Double status chance) = (status ≢ Healthy) × (chance ≤ 256)
IsFairEffect other = Unit {0}

-- the numbers of a move are in their ranges
pub record IsFairMove (move : MoveData) : Type 0 where
  pub kind : move.kind < 32
  pub power : move.power ≤ 255
  pub accuracy : move.accuracy ≤ 100
  pub pp_low : 1 ≤ move.pp
  pub pp_high : move.pp ≤ 64
  pub priority_low : negsuc 0 ≤ℤ move.priority
  pub priority_high : move.priority ≤ℤ pos 1
  pub effect : IsFairEffect move.effect

-- none, a half, one or two, in tenths
abbrev pub IsFactor : ℕ → Type 0
IsFactor tenths = (tenths ≡ 0) ⊎ (tenths ≡ 5) ⊎ (tenths ≡ 10) ⊎ (tenths ≡ 20)

-- the factor of a type on a type
abbrev pub factor_at : List (List ℕ) → ℕ → ℕ → ℕ
factor_at factors attack defend = slice_index (slice_index_or factors attack []) defend

-- The moves are at most 1,024 and in their ranges, the factors are factors, and Struggle is the built-in one.
pub record AreFair (facts : Figures) : Type 0 where
  pub few : length facts.moves ≤ 1024
  pub moves : All IsFairMove facts.moves
  pub factors : (attack defend : ℕ) → attack < 32 → defend < 32 → IsFactor (factor_at facts.factors attack defend)
  pub struggle : (special contact : Bool) × (facts.struggle ≡ struggle special contact)
