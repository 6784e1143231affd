-- Passes that met are still passes of their place, and what each has heard of the other.
use Rattle.std.proofs.Common.{◌≡◌, ◌≢◌, ℕ, ◌<◌, List, [], ◌++◌, length, Option, refl, sym, ap, ◌∙◌, subst, inr, append-nil}
use mathlib.Core.List.{IsPrefix}
use Rattle.ps_base.specs.declared.msg.Msg.{Msg}
use Rattle.ps_histlock.specs.declared.view.Entry.{Entry}
use Rattle.ps_histlock.specs.declared.view.View.{View}
use Rattle.ps_histlock.specs.Histories.{commands, entries_of, signed, longer, AreOneList}
use Rattle.ps_histlock.specs.Locks.{OwnSigns}
use Rattle.ps_histlock.specs.Seated.{TableId}
use Rattle.ps_histlock.specs.Signs.{SignsAs}
use Rattle.ps_histlock.specs.Views.{compared, counted, knowing, IsAtRest}
use Rattle.ps_histlock.proofs.Lists.{prefix_self, signed_seen}
use Rattle.server_pass.specs.Tellings.{Telling, IsLawful}
use Rattle.server_pass.specs.Passes.{NeverFalls, Adds, Grows, IsPass}
use Rattle.server_pass.specs.Meetings.{IsAsItWas, Met, IsHeardRightly}
use Rattle.server_pass.specs.declared.pass.PlacePass.{PlacePass}
use Rattle.server_pass.proofs.PassLemmas.{stays}

module _ {O C : Type 0} where
  -- who is as it was has forgotten nothing and made nothing
  pub grows_met : (v w : View O C) → IsAsItWas v w → Grows v w
  grows_met v w same = record {
    origin = same.origin;
    seen = subst (IsPrefix v.seen) (sym same.seen) (prefix_self v.seen);
    adds = ([], same.said ∙ sym (append-nil v.said), same.mine ∙ sym (append-nil v.mine));
  }

  -- what begins what both know is signed by a name of the first as that one has said
  pub heard_rightly : (signer : C → Option ℕ) (v w : View O C) (known : List (Entry C)) → IsPrefix w.seen known → OwnSigns signer v known → IsHeardRightly signer v w
  heard_rightly signer v w known p own = λ c speaks. signed_seen signer c w.seen known v.said p (own c speaks)

module _ {O C : Type 0} where
  pub adds_met : (v w : View O C) → IsAsItWas v w → Adds v w
  adds_met v w same = (grows_met v w same).adds

  -- a comparison, or a count, and then a meeting
  as_it_was : (v u w : View O C) (known : List (Entry C)) → IsAsItWas v u → w ≡ knowing u known → IsAsItWas v w
  as_it_was v u w known same is = record {
    origin = ap (λ (x : View O C). x.origin) is ∙ same.origin;
    number = ap (λ (x : View O C). x.number) is ∙ same.number;
    seen = ap (λ (x : View O C). x.seen) is ∙ same.seen;
    mine = ap (λ (x : View O C). x.mine) is ∙ same.mine;
    said = ap (λ (x : View O C). x.said) is ∙ same.said;
    looks = ap (λ (x : View O C). x.looks) is ∙ same.looks;
    turns = ap (λ (x : View O C). x.turns) is ∙ same.turns;
    earlier = ap (λ (x : View O C). x.earlier) is ∙ same.earlier;
    met = ap (λ (x : View O C). x.met) is ∙ same.met;
  }

  was_compared : (v u : View O C) → u ≡ compared v → IsAsItWas v u
  was_compared v u is = subst (IsAsItWas v) (sym is) (record { origin = refl; number = refl; seen = refl; mine = refl; said = refl; looks = refl; turns = refl; earlier = refl; met = refl })

  was_counted : (v u : View O C) (n : ℕ) → u ≡ counted v n → IsAsItWas v u
  was_counted v u n is = subst (IsAsItWas v) (sym is) (record { origin = refl; number = refl; seen = refl; mine = refl; said = refl; looks = refl; turns = refl; earlier = refl; met = refl })

  -- two passes that were told apart, and then met
  pub they_met : (signer : C → Option ℕ) (v u v' w x w' : View O C) (n : ℕ) → u ≡ compared v → x ≡ counted w n → v.number ≢ w.number → v' ≡ knowing u (longer u.known x.known) → w' ≡ knowing x (longer u.known x.known)
      → IsPrefix u.known v'.known × IsPrefix x.known v'.known → AreOneList u.seen x.seen → (v'.mine ≡ entries_of v'.number v'.known) × (w'.mine ≡ entries_of w'.number v'.known) → OwnSigns signer v' v'.known × OwnSigns signer w' v'.known
      → Met signer v v' w w'
  they_met signer v u v' w x w' n apart_is count_is apart v_is w_is knew lists own signs =
      let one : IsAsItWas v v' = as_it_was v u v' (longer u.known x.known) (was_compared v u apart_is) v_is in
      let other : IsAsItWas w w' = as_it_was w x w' (longer u.known x.known) (was_counted w x n count_is) w_is in
      record {
        one = one;
        other = other;
        apart = apart;
        known = ap (λ (y : View O C). y.known) w_is ∙ sym (ap (λ (y : View O C). y.known) v_is);
        knew = subst (λ (l : List (Entry C)). IsPrefix l v'.known) (ap (λ (y : View O C). y.known) apart_is) knew.0;
        knew_other = subst (λ (l : List (Entry C)). IsPrefix l v'.known) (ap (λ (y : View O C). y.known) count_is) knew.1;
        lists = subst (λ (l : List (Entry C)). AreOneList l w.seen) (ap (λ (y : View O C). y.seen) apart_is) (subst (λ (l : List (Entry C)). AreOneList u.seen l) (ap (λ (y : View O C). y.seen) count_is) lists);
        own = sym one.mine ∙ own.0 ∙ ap (λ (m : ℕ). entries_of m v'.known) one.number;
        own_other = sym other.mine ∙ own.1 ∙ ap (λ (m : ℕ). entries_of m v'.known) other.number;
        signs = subst (λ (l : List (Entry C)). (c : ℕ) → 0 < length (signed signer c (commands l)) → signed signer c (commands v'.known) ≡ signed signer c (commands l)) one.said signs.0;
        signs_other = subst (λ (l : List (Entry C)). (c : ℕ) → 0 < length (signed signer c (commands l)) → signed signer c (commands v'.known) ≡ signed signer c (commands l)) other.said signs.1;
      }

  -- the same of passes, each with the name of its lock
  pub passes_met : (signer : C → Option ℕ) (p a p' q b q' : TableId × View O C) → a ≡ (p.0, compared p.1) → (n : ℕ) × (b ≡ (q.0, counted q.1 n)) → p.1.number ≢ q.1.number → p' ≡ (a.0, knowing a.1 (longer a.1.known b.1.known)) → q' ≡ (b.0, knowing b.1 (longer a.1.known b.1.known))
      → IsPrefix a.1.known p'.1.known × IsPrefix b.1.known p'.1.known → AreOneList a.1.seen b.1.seen → (p'.1.mine ≡ entries_of p'.1.number p'.1.known) × (q'.1.mine ≡ entries_of q'.1.number p'.1.known) → OwnSigns signer p'.1 p'.1.known × OwnSigns signer q'.1 p'.1.known
      → Met signer p.1 p'.1 q.1 q'.1
  passes_met signer p a p' q b q' apart_is count_is apart p_is q_is knew lists own signs =
      they_met signer p.1 a.1 p'.1 q.1 b.1 q'.1 count_is.0 (ap (λ (s : TableId × View O C). s.1) apart_is) (ap (λ (s : TableId × View O C). s.1) count_is.1) apart (ap (λ (s : TableId × View O C). s.1) p_is) (ap (λ (s : TableId × View O C). s.1) q_is) knew lists own signs

  -- what both know is what the second knows
  pub signs_known : (signer : C → Option ℕ) (v v' w w' : View O C) → Met signer v v' w w' → OwnSigns signer w' v'.known → OwnSigns signer w' w'.known
  signs_known signer v v' w w' m signs = subst (λ (l : List (Entry C)). OwnSigns signer w' l) (sym m.known) signs

  pub both_heard : (signer : C → Option ℕ) (v v' w w' : View O C) → Met signer v v' w w' → IsPrefix v'.seen v'.known × IsPrefix w'.seen w'.known → IsHeardRightly signer v w × IsHeardRightly signer w v
  both_heard signer v v' w w' m begin = (
    heard_rightly signer v w v'.known (subst (λ (l : List (Entry C)). IsPrefix l v'.known) m.other.seen (subst (λ (l : List (Entry C)). IsPrefix w'.seen l) m.known begin.1)) m.signs,
    heard_rightly signer w v v'.known (subst (λ (l : List (Entry C)). IsPrefix l v'.known) m.one.seen begin.0) m.signs_other,
  )

module _ {K O C X N I : Type 0} (origin_in : K → O) (stands : List C → K → Type 0) (signer : C → Option ℕ)
    (pulls : O → List C → X → List Msg → X → Type 0) (t : Telling O C X) (law : IsLawful pulls t) where
  pub met : (conn : ℕ) (place : TableId × O) (h k : PlacePass (TableId × View O C) X N I) → k ≡ record h { pass = k.pass } → k.pass.0 ≡ h.pass.0
      → IsAsItWas h.pass.1 k.pass.1 → IsAtRest origin_in stands k.pass.1 → OwnSigns signer k.pass.1 k.pass.1.known
      → IsPass origin_in stands signer t conn place h → IsPass origin_in stands signer t conn place k
  met conn place h k is lock same rest own p =
      stays origin_in stands signer pulls t law conn place h k lock (ap (λ (q : PlacePass (TableId × View O C) X N I). q.at) is) rest
      (subst NeverFalls (sym same.looks) p.looks) (subst (SignsAs signer conn) (sym same.said) p.signs) own (grows_met h.pass.1 k.pass.1 same)
      (inr (ap (λ (q : PlacePass (TableId × View O C) X N I). q.cursor) is, ap (λ (q : PlacePass (TableId × View O C) X N I). q.kept.items ++ q.fresh.items) is)) p
