-- A side of which nothing is hidden is equal in two battles that are alike.
use Rattle.std.proofs.Common.{◌≡◌, ℕ, Bool, true, false, List, ap, ◌∙◌, sym, inl, inr}
use Rattle.std.proofs.lemmas.List.{ext_get_or}
use Rattle.std.proofs.lemmas.Bool.Decides.{leb_tells}
use Rattle.ps_mon.specs.declared.record.SideState.{SideState}
use Rattle.ps_mon.specs.declared.record.Volatiles.{Volatiles}
use Rattle.ps_mon.specs.declared.team.Member.{Member}
use Rattle.ps_mon.specs.declared.team.MoveSlot.{MoveSlot}
use Rattle.ps_mon.specs.Reading.{no_member, no_slot}
use Rattle.battle_secrecy.specs.Alike.{AreShownAlike, AreMembersAlike, AreSidesAlikeUnsent}
use Rattle.battle_secrecy.proofs.SlotLemmas.{slots_shown}

shown_equal : (hides : ℕ → Bool) (moves : ℕ → ℕ) (m n : Member) → ((j : ℕ) → hides j ≡ false) → AreShownAlike hides moves m n → m ≡ n
shown_equal hides moves m n none w =
    let slots : m.slots ≡ n.slots = ext_get_or no_slot m.slots n.slots (w.four ∙ sym w.four_too) (λ j lt. slots_shown (hides j) (moves j) _ _ (none j) (w.slots j)) in
    ap (λ (x : Member). record x { slots = m.slots }) w.front ∙ ap (λ (s : List MoveSlot). record n { slots = s }) slots

member_equal : (hidden : Bool) (hides : ℕ → Bool) (moves : ℕ → ℕ) (m n : Member) → hidden ≡ false → ((j : ℕ) → hides j ≡ false) → AreMembersAlike hidden hides moves m n → m ≡ n
member_equal false hides moves m n shown none w = shown_equal hides moves m n none w
member_equal true hides moves m n shown none w = absurd cc

-- a side of which neither a member nor a slot is hidden
pub side_equal : (member : ℕ → Bool) (slot : ℕ → ℕ → Bool) (move : ℕ → ℕ → ℕ) (a b : SideState) → ((k : ℕ) → member k ≡ false) → ((k j : ℕ) → slot k j ≡ false) → AreSidesAlikeUnsent member slot move a b → a ≡ b
side_equal member slot move a b shown plain w =
    let members : a.members ≡ b.members = ext_get_or no_member a.members b.members w.long (λ k lt. elim (leb_tells a.count k) [
      | inl past ↦ w.rest k past.1
      | inr inside ↦ member_equal (member k) (slot k) (move k) _ _ (shown k) (plain k) (w.members k inside.1)
    ]) in
    let make : List Member → ℕ → List ℕ → Volatiles → SideState = λ members count order vol. record { members = members; count = count; order = order; vol = vol } in
    ap (λ (x : List Member). make x a.count a.order a.vol) members
    ∙ ap (λ (x : ℕ). make b.members x a.order a.vol) w.count
    ∙ ap (λ (x : List ℕ). make b.members b.count x a.vol) w.order
    ∙ ap (make b.members b.count b.order) w.vol
