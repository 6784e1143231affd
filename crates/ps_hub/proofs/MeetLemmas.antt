-- Passes that meet have one lock.
use Rattle.std.proofs.Common.{◌≡◌, ℕ, Some, sym, ap, ◌∙◌}
use Rattle.std.proofs.lemmas.Option.{same_Some}
use Rattle.ps_histlock.specs.Seated.{TableId}
use Rattle.ps_hub.specs.Hubs.{Hub, lock_of}

-- the pass of a place has the lock of that place
pub at_lock : (hub : Hub) (at number : ℕ) (own lock : TableId) → lock_of hub at ≡ Some own → at ≡ number → lock_of hub number ≡ Some lock → own ≡ lock
at_lock hub at number own lock is same found = same_Some own lock (sym is ∙ ap (λ (n : ℕ). lock_of hub n) same ∙ found)
