-- What lies behind a lock.
use Rattle.std.specs.Prelude.{◌≡◌, ◌<◌, ℕ, List, [], length, Option, MatchBool}
use Rattle.std.specs.Ordering.{nat_cmp}
use Rattle.std.specs.BTreeSet.{BTreeSet, contains}
use Rattle.ps_histlock.specs.declared.home.Home.{Home}
use Rattle.ps_histlock.specs.Histories.{signed}

module _ {C : Type 0} (signer : C → Option ℕ) where
  -- these are the names by which the commands are signed
  abbrev pub AreNames : List C → BTreeSet ℕ → Type 0
  AreNames log names = (name : ℕ) → MatchBool (contains nat_cmp names name) (0 < length (signed signer name log))
      (signed signer name log ≡ [])

-- the origin of the value
abbrev pub home_origin : {K O : Type 0} → (K → O) → Home K → O
home_origin origin home = origin home.kept

-- the value may stand for these commands, and the names are theirs
abbrev pub HomeStands : {K C : Type 0} → (List C → K → Type 0) → (C → Option ℕ) → List C → Home K → Type 0
HomeStands stands signer log home = stands log home.kept × AreNames signer log home.names
