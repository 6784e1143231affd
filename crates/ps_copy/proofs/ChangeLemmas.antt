-- Changed slots of an active member: what stays.
use Rattle.std.proofs.Common.{◌≡◌, ℕ, zero, suc, ◌<◌, ◌≤◌, ◌-◌, Bool, true, false, Option, Some, None, IfSome, [], ◌∷◌, nat_lt, length, get_or, arith, refl, ap, ◌∙◌, length-set}
use Rattle.std.proofs.lemmas.Bool.Decides.{nat_tests}
use Rattle.ps_mon.specs.declared.record.Battle.{Battle}
use Rattle.ps_mon.specs.declared.record.SideState.{SideState}
use Rattle.ps_mon.specs.declared.record.ChangedSlots.{ChangedSlots}
use Rattle.ps_mon.specs.declared.record.CopiedSlots.{CopiedSlots}
use Rattle.ps_mon.specs.declared.team.Member.{Member}
use Rattle.ps_mon.specs.declared.team.MoveSlot.{MoveSlot}
use Rattle.ps_mon.specs.Reading.{side_of, active_index, active_of, no_side, no_slot}
use Rattle.ps_mon.specs.Slots.{slot_count_now, slot_now, count_in_force}
use Rattle.ps_mon.specs.Valid.{IsSound, IsValid, IsSide, IsMember, IsCopied, AreChanged, StandBefore, has_standing}
use Rattle.ps_mon.specs.Known.{AreKnown, IsSideKnown, AreChangedKnown}
use Rattle.ps_mon.specs.Duels.{duel_of}
use Rattle.ps_mon.proofs.Lists.{at_one}
use Rattle.ps_mon.proofs.KeepLemmas.{slot-known}
use Rattle.ps_mon.proofs.PutLemmas.{before-kept}
use Rattle.ps_copy.specs.Changing.{with_changes, with_slots, copied_if, copied_at, copied_from}

changed-side : (a : SideState) (slots : ChangedSlots) → AreChanged slots → IsSide a → IsSide (with_changes a slots)
changed-side a slots fit v =
    let vol = v.vol in
    let shape = v.shape in
    record {
      shape = record { six = shape.six; six_order = shape.six_order; count = shape.count; count_high = shape.count_high; order = shape.order; once = shape.once };
      members = v.members;
      vol = record { stages = vol.stages; confusion = vol.confusion; substitute = vol.substitute; lock = vol.lock; disabled = vol.disabled; types = vol.types; stats = vol.stats; slots = fit; toxic = vol.toxic; taken = vol.taken };
    }

pub slots-sound : (b : Battle) (u : ℕ) (slots : ChangedSlots) → u < 2 → AreChanged slots → IsSound b → IsSound (with_slots b u slots)
unfolding with_slots
slots-sound b u slots lt fit v = record {
  two = simp length-set v.two;
  sides = λ s h. at_one (λ i (a : SideState). i < 2 → IsSide a) b.sides u (with_changes (side_of b u) slots) no_side (omega (arith, v.two))
      (λ i. changed-side _ slots fit (v.sides u i)) s (λ _. v.sides s) h;
  turn = v.turn;
  clauses = v.clauses;
}

pub slots-known : (moves : ℕ) (b : Battle) (u : ℕ) (slots : ChangedSlots) → u < 2 → IsSound b → AreChangedKnown moves slots → AreKnown moves b → AreKnown moves (with_slots b u slots)
unfolding with_slots
slots-known moves b u slots lt v named known = record {
  sides = λ s h. at_one (λ i (a : SideState). i < 2 → IsSideKnown moves a) b.sides u (with_changes (side_of b u) slots) no_side (omega (arith, v.two))
      (λ i. (let own = known.sides u i in record { members = own.members; vol = record { slots = named; lock = own.vol.lock; last = own.vol.last; taken = own.vol.taken } })) s (λ _. known.sides s) h;
}

same-standing : (a : SideState) (slots : ChangedSlots) → has_standing (with_changes a slots) ≡ has_standing a
unfolding has_standing
same-standing a slots = refl

pub slots-whole : (b : Battle) (u : ℕ) (slots : ChangedSlots) → u < 2 → AreChanged slots → IsValid b → IsValid (with_slots b u slots)
unfolding with_slots
slots-whole b u slots lt fit v =
    let inside : u < length b.sides = omega (arith, v.sound.two) in
    record {
      sound = slots-sound b u slots lt fit v.sound;
      standing = λ goes. (let old = v.standing goes in record {
        turn = old.turn;
        some = λ s h. at_one (λ i (a : SideState). i < 2 → has_standing a ≡ true) b.sides u (with_changes (side_of b u) slots) no_side inside
            (λ i. same-standing (side_of b u) slots ∙ old.some u i) s (λ _. old.some s) h;
        before = λ s h. at_one (λ i (a : SideState). i < 2 → StandBefore b.phase a) b.sides u (with_changes (side_of b u) slots) no_side inside
            (λ i. before-kept b.phase (side_of b u) (with_changes (side_of b u) slots) (λ all. all) (old.before u i)) s (λ _. old.before s) h;
        active = λ s h stays. at_one (λ i (a : SideState). 1 ≤ (active_of (side_of b i)).hp → 1 ≤ (active_of a).hp) b.sides u (with_changes (side_of b u) slots) no_side inside
            (λ up. up) s (λ _ up. up) (old.active s h stays);
      });
    }

in-range : (copied : Option CopiedSlots) (m : Member) → IfSome copied IsCopied → IsMember m → (1 ≤ count_in_force copied m) × (count_in_force copied m ≤ 4)
in-range None m c v = (v.slot_count, v.slot_count_high)
in-range (Some copied) m c v = (c.count, c.count_high)

-- how many slots are in force
pub count-range : (a : SideState) → IsSide a → (1 ≤ slot_count_now a) × (slot_count_now a ≤ 4)
unfolding slot_count_now
count-range a v = in-range a.vol.slots.copied (active_of a) v.vol.slots.copied (v.members (active_index a) (v.shape.order 0 v.shape.count))

pub duel-count : (b : Battle) (u : ℕ) → (duel_of b u).slot_count ≡ slot_count_now (side_of b (1 - u))
unfolding duel_of
duel-count b u = refl

copied-pp : (there : Bool) (slot : MoveSlot) → (copied_if there slot).pp ≤ (copied_if there slot).max_pp
copied-pp true slot = omega arith
copied-pp false slot = omega arith

-- what holds of four elements at their indices
four : {A : Type 0} (P : ℕ → A → Type 0) (x y z w d : A) → P 0 x → P 1 y → P 2 z → P 3 w → (j : ℕ) → j < 4 → P j (get_or (x ∷ y ∷ z ∷ w ∷ []) j d)
four P x y z w d px py pz pw zero h = px
four P x y z w d px py pz pw (suc zero) h = py
four P x y z w d px py pz pw (suc (suc zero)) h = pz
four P x y z w d px py pz pw (suc (suc (suc zero))) h = pw
four P x y z w d px py pz pw (suc (suc (suc (suc j)))) h = absurd (omega arith)

pub copied-fit : (a : SideState) → IsSide a → AreChanged (copied_from a)
unfolding copied_from copied_at
copied-fit a v =
    let range = count-range a v in
    let pp : (j : ℕ) → (copied_at a j).pp ≤ (copied_at a j).max_pp = λ j. copied-pp (nat_lt j (slot_count_now a)) (slot_now a j) in
    record {
      four = refl;
      copied = record {
        four = refl;
        count = range.0;
        count_high = range.1;
        pp = λ j h. four (λ _ (s : MoveSlot). s.pp ≤ s.max_pp) _ _ _ _ no_slot (pp 0) (pp 1) (pp 2) (pp 3) j (omega (arith, range.1));
      };
    }

copied-there : (a : SideState) (j : ℕ) → j < slot_count_now a → (copied_at a j).mv ≡ (slot_now a j).mv
unfolding copied_at
copied-there a j lt =
    let there : nat_lt j (slot_count_now a) ≡ true = grind (arith, nat_tests) in
    ap (λ b. (copied_if b (slot_now a j)).mv) there

no-mimic : (moves j : ℕ) → IfSome (get_or (None ∷ None ∷ None ∷ None ∷ []) j None) (λ mv. mv < moves)
no-mimic moves zero = tt
no-mimic moves (suc zero) = tt
no-mimic moves (suc (suc zero)) = tt
no-mimic moves (suc (suc (suc zero))) = tt
no-mimic moves (suc (suc (suc (suc j)))) = tt

pub copied-known : (moves : ℕ) (a : SideState) → IsSide a → IsSideKnown moves a → AreChangedKnown moves (copied_from a)
unfolding copied_from
copied-known moves a v known =
    let range = count-range a v in
    let mv : (j : ℕ) → j < slot_count_now a → (copied_at a j).mv < moves = λ j h. rw (copied-there a j h) (slot-known moves a j v.shape known h) in
    record {
      mimic = no-mimic moves;
      copied = λ j h. four (λ i (s : MoveSlot). i < slot_count_now a → s.mv < moves) _ _ _ _ no_slot (mv 0) (mv 1) (mv 2) (mv 3) j (omega (arith, range.1)) h;
    }
