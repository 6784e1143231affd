-- Who signs what a pass has said.
use Rattle.std.specs.Prelude.{◌≡◌, ◌<◌, ℕ, List, length, Option, Some}
use Rattle.ps_histlock.specs.declared.view.Entry.{Entry}
use Rattle.ps_histlock.specs.Histories.{commands, signed}

module _ {C : Type 0} (signer : C → Option ℕ) where
  -- all that was signed here is signed by this name
  abbrev pub SignsAs : ℕ → List (Entry C) → Type 0
  SignsAs name said = (other : ℕ) → 0 < length (signed signer other (commands said)) → other ≡ name

  -- something here is signed by this name
  abbrev pub Speaks : ℕ → List (Entry C) → Type 0
  Speaks name said = 0 < length (signed signer name (commands said))

  -- the command is signed by this name, or by nobody
  abbrev pub IsOf : ℕ → C → Type 0
  IsOf name cmd = (other : ℕ) → signer cmd ≡ Some other → other ≡ name
