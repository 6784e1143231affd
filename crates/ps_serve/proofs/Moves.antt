-- What a turn leaves of a pass, for a session.
use Rattle.std.proofs.Common.{◌≡◌, ◌≢◌, ℕ, zero, suc, ◌+◌, ◌%◌, List, [], ◌∷◌, ◌++◌, refl, sym, ap, ◌∙◌, subst, ⊎_elim, append-nil, Some, None}
use mathlib.Core.List.{IsPrefix}
use Rattle.ps_histlock.specs.declared.view.Entry.{Entry}
use Rattle.ps_histlock.specs.declared.view.View.{View}
use Rattle.ps_histlock.specs.Histories.{commands, entry}
use Rattle.ps_histlock.specs.Views.{after_meeting, Extends}
use Rattle.ps_histlock.specs.Turns.{turned, Turns, IsBusy}
use Rattle.ps_histlock.proofs.Lists.{prefix_self, prefix_more, prefix_trans}
use Rattle.ps_histlock.proofs.TurnLemmas.{commands_more}
use Rattle.server_pass.specs.Turns.{TurnsAtLast, ReadsOn, Rereads, TurnsInTheEnd}

module _ {O C : Type 0} where
  -- It forgets nothing, and these commands more are its own.
  pub record Moves (v : View O C) (more : List C) (w : View O C) : Type 0 where
    pub number : w.number ≡ v.number
    pub looks : w.looks ≡ v.looks
    pub seen : IsPrefix v.seen w.seen
    pub mine : commands w.mine ≡ commands v.mine ++ more

  pub stays : (v w : View O C) → w ≡ v → Moves v [] w
  stays v w e = subst (λ (u : View O C). Moves v [] u) (sym e) record { number = refl; looks = refl; seen = prefix_self v.seen; mine = sym (append-nil (commands v.mine)) }

  -- a try in vain changes what was met, and nothing else
  pub record IsSameView (v w : View O C) : Type 0 where
    pub number : w.number ≡ v.number
    pub looks : w.looks ≡ v.looks
    pub seen : w.seen ≡ v.seen
    pub mine : w.mine ≡ v.mine
    pub turns : w.turns ≡ v.turns

  pub busy_same : (v w : View O C) (word : ℕ) → IsBusy v word w → IsSameView v w
  busy_same v w word busy = ⊎_elim
      (λ (b : (word % 2 ≡ 1) × (w ≡ after_meeting v word)). subst (IsSameView v) (sym b.1) record { number = refl; looks = refl; seen = refl; mine = refl; turns = refl })
      (λ (b : (first : ℕ) × (first ≢ word) × (w ≡ after_meeting (after_meeting v first) word)). subst (IsSameView v) (sym b.2) record { number = refl; looks = refl; seen = refl; mine = refl; turns = refl })
      busy

  pub same_moves : (v w : View O C) → IsSameView v w → Moves v [] w
  same_moves v w s = record { number = s.number; looks = s.looks; seen = subst (IsPrefix v.seen) (sym s.seen) (prefix_self v.seen); mine = ap (λ (l : List (Entry C)). commands l) s.mine ∙ sym (append-nil (commands v.mine)) }

  pub turned_moves : (v : View O C) (log : List (Entry C)) (w : View O C) → Extends v log → w ≡ turned v log None → Moves v [] w
  turned_moves v log w found e = subst (λ (u : View O C). Moves v [] u) (sym e) record { number = refl; looks = refl; seen = found.0; mine = sym (append-nil (commands v.mine)) }

  pub entered_moves : (v : View O C) (log : List (Entry C)) (c : C) (w : View O C) → Extends v log → w ≡ turned v log (Some c) → Moves v (c ∷ []) w
  entered_moves v log c w found e = subst (λ (u : View O C). Moves v (c ∷ []) u) (sym e) record { number = refl; looks = refl; seen = prefix_more v.seen log (entry v.number c ∷ []) found.0; mine = commands_more v.mine v.number c }

  pub turns_move : (v w : View O C) → Turns v None w → Moves v [] w
  turns_move v w t = turned_moves v t.0 w t.1 t.2

  pub enters_move : (v : View O C) (c : C) (w : View O C) → Turns v (Some c) w → Moves v (c ∷ []) w
  enters_move v c w t = entered_moves v t.0 c w t.1 t.2

  -- the same of a pass that had met further words before
  met_moves : (v : View O C) (words : List ℕ) (more : List C) (w : View O C) → Moves (record v { met = v.met ++ words }) more w → Moves v more w
  met_moves v words more w m = record { number = m.number; looks = m.looks; seen = m.seen; mine = m.mine }

  pub last_turns_move : (v w : View O C) → TurnsAtLast v None w → Moves v [] w
  last_turns_move v w t = met_moves v t.0 [] w (turns_move (record v { met = v.met ++ t.0 }) w t.1)

  pub last_enters_move : (v : View O C) (c : C) (w : View O C) → TurnsAtLast v (Some c) w → Moves v (c ∷ []) w
  last_enters_move v c w t = met_moves v t.0 (c ∷ []) w (enters_move (record v { met = v.met ++ t.0 }) c w t.1)

  -- ---- turns one behind the other

  pub moves_then : (v u : View O C) (more : List C) (w : View O C) → Moves v [] u → Moves u more w → Moves v more w
  moves_then v u more w a b = record {
    number = b.number ∙ a.number;
    looks = b.looks ∙ a.looks;
    seen = prefix_trans v.seen u.seen w.seen a.seen b.seen;
    mine = b.mine ∙ ap (λ (l : List C). l ++ more) (a.mine ∙ append-nil (commands v.mine));
  }

  reads_on_move : (turns : ℕ) (v w : View O C) → ReadsOn turns v w → Moves v [] w
  reads_on_move zero v w same = stays v w same
  reads_on_move (suc turns) v w r = moves_then v r.0 [] w (reads_on_move turns v r.0 r.1) (last_turns_move r.0 w r.2)

  pub rereads_move : (v w : View O C) → Rereads v w → Moves v [] w
  rereads_move v w r = reads_on_move r.0 v w r.1

  pub in_the_end_moves : (v : View O C) (c : C) (w : View O C) → TurnsInTheEnd v c w → Moves v (c ∷ []) w
  in_the_end_moves v c w t = moves_then v t.0 (c ∷ []) w (rereads_move v t.0 t.1) (last_enters_move t.0 c w t.2)

  -- ---- the count of turns

  pub one_turn : (v w : View O C) → Turns v None w → w.turns ≡ v.turns + 1
  one_turn v w t = ap (λ (u : View O C). u.turns) t.2

  pub one_turn_at_last : (v : View O C) (c : C) (w : View O C) → TurnsAtLast v (Some c) w → w.turns ≡ v.turns + 1
  one_turn_at_last v c w t = ap (λ (u : View O C). u.turns) t.1.2

  -- ---- what the turn found

  -- the history that it found, with the pass's own entries, and its entry behind that
  pub entered_seen : (v : View O C) (log : List (Entry C)) (c : C) (w : View O C) → w ≡ turned v log (Some c) → w.seen ≡ log ++ entry v.number c ∷ []
  entered_seen v log c w e = ap (λ (u : View O C). u.seen) e

  pub turned_seen : (v w : View O C) (t : Turns v None w) → w.seen ≡ t.0
  turned_seen v w t = ap (λ (u : View O C). u.seen) t.2
