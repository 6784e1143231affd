-- What two passes of one place can be sure of that met.
use Rattle.std.specs.Prelude.{◌≡◌, ◌≢◌, ℕ, Option}
use mathlib.Core.List.{IsPrefix}
use Rattle.ps_histlock.specs.declared.view.View.{View}
use Rattle.ps_histlock.specs.Histories.{commands, entries_of, signed, AreOneList}
use Rattle.ps_histlock.specs.Locks.{OwnSigns}
use Rattle.ps_histlock.specs.Signs.{Speaks}

-- a pass that met another is as it was, but for what it knows, and what it may have counted
pub record IsAsItWas {O C : Type 0} (old new : View O C) : Type 0 where
  pub origin : new.origin ≡ old.origin
  pub number : new.number ≡ old.number
  pub seen : new.seen ≡ old.seen
  pub mine : new.mine ≡ old.mine
  pub said : new.said ≡ old.said
  pub looks : new.looks ≡ old.looks
  pub turns : new.turns ≡ old.turns
  pub earlier : new.earlier ≡ old.earlier
  pub met : new.met ≡ old.met

-- Two passes of one lock, before and after they met. Both know one and the same beginning of the one history. What each has seen
-- begins it, with the same numbers and commands; the entries in it with the number of either are those that it made, and those
-- that are signed by a name that it speaks for are those that it has said.
pub record Met {O C : Type 0} (signer : C → Option ℕ) (first first_after second second_after : View O C) : Type 0 where
  pub one : IsAsItWas first first_after
  pub other : IsAsItWas second second_after
  pub apart : first.number ≢ second.number
  pub known : second_after.known ≡ first_after.known
  pub knew : IsPrefix first.known first_after.known
  pub knew_other : IsPrefix second.known first_after.known
  pub lists : AreOneList first.seen second.seen
  pub own : first.mine ≡ entries_of first.number first_after.known
  pub own_other : second.mine ≡ entries_of second.number first_after.known
  pub signs : OwnSigns signer first first_after.known
  pub signs_other : OwnSigns signer second first_after.known

-- What the second has seen signed by a name that the first speaks for was said by the first, in that order, with nothing left
-- out before it.
abbrev pub IsHeardRightly : {O C : Type 0} → (C → Option ℕ) → View O C → View O C → Type 0
IsHeardRightly signer first second = (name : ℕ) → Speaks signer name first.said
    → IsPrefix (signed signer name (commands second.seen)) (signed signer name (commands first.said))
