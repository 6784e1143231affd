-- What was handed out and what is kept, when a pass sees more, pulls more and hands out.
use Rattle.std.proofs.Common.{◌≡◌, ◌≢◌, ◌⊎◌, ℕ, zero, suc, ◌%◌, ◌≤◌, List, [], ◌∷◌, ◌++◌, length, take, drop, Option, Some, None}
use Rattle.std.proofs.Common.{Result, Ok, Err, refl, sym, ap, ◌∙◌, subst, inl, inr, ⊎_elim, arith, append_assoc}
use Rattle.std.proofs.lemmas.List.{take-append-le, take-append-drop, length-append, length-take-le, length-map, map-append, append-nil}
use Rattle.std.specs.Prelude.{All, IfSome}
use Rattle.ps_base.specs.declared.msg.Msg.{Msg}
use Rattle.ps_base.specs.Messages.{msg_lines}
use Rattle.ps_histlock.specs.declared.view.Entry.{Entry}
use Rattle.ps_histlock.specs.declared.view.View.{View}
use Rattle.ps_histlock.specs.Histories.{commands, entry}
use Rattle.ps_histlock.specs.Views.{after_meeting, after_look, Extends}
use Rattle.ps_histlock.specs.declared.turn.Unread.{Unread}
use Rattle.ps_histlock.specs.declared.turn.Unread.TheVariants as unread
use Rattle.ps_histlock.specs.Turns.{turned, Turns, IsBusy}
use Rattle.ps_histlock.specs.Signs.{SignsAs, IsOf}
use Rattle.ps_histlock.proofs.Lists.{prefix_self, prefix_more, prefix_trans}
use Rattle.ps_histlock.proofs.TurnLemmas.{commands-append}
use Rattle.ps_histlock.proofs.SignLemmas.{signs_more}
use Rattle.std.proofs.lemmas.List.Elements.{All-append}
use Rattle.server_pass.specs.Tellings.{lines_of, IsTold, GoesOn}
use Rattle.server_pass.specs.Passes.{Adds, NeverFalls, Grows}
use Rattle.server_pass.specs.Catches.{HandsOut}
use Rattle.server_pass.specs.Turns.{TurnsAtLast, ReadsOn, Rereads, PullsMore, Reads, ReadsAtLast, Takes, TakesAtLast}
use Rattle.server_pass.specs.declared.turn_end.Back.{Back}
use Rattle.server_pass.specs.declared.turn_end.TurnEnd.{TurnEnd}
use Rattle.server_pass.specs.declared.turn_end.TurnEnd.TheVariants.{Done, Busy, OwnLimit, NameTaken, NoMemory}

module _ {C X : Type 0} (shows : List C → List (List (List ℕ)) → Type 0) (stands_at : List C → X → Type 0) where
  pub told_new : (x : X) → stands_at [] x → shows [] [] → IsTold shows stands_at [] x 0 [] 0
  told_new x at none = record { within = omega arith; handed_out = omega arith; cursor = at; before = []; shown_before = none; shown = none }

  -- the history went on
  pub told_more : (cmds later : List C) (x : X) (passed : ℕ) (kept : List (List (List ℕ))) (at : ℕ) → IsTold shows stands_at cmds x passed kept at → IsTold shows stands_at (cmds ++ later) x passed kept at
  told_more cmds later x passed kept at t =
      let within : passed ≤ length cmds = t.within in
      let handed_out : at ≤ passed = t.handed_out in
      let same : take passed (cmds ++ later) ≡ take passed cmds = take-append-le passed cmds later within in
      let first : take at (cmds ++ later) ≡ take at cmds = take-append-le at cmds later (omega arith) in
      record {
        within = omega (arith, length-append cmds later);
        handed_out = handed_out;
        cursor = subst (λ (l : List C). stands_at l x) (sym same) t.cursor;
        before = t.before;
        shown_before = subst (λ (l : List C). shows l t.before) (sym first) t.shown_before;
        shown = subst (λ (l : List C). shows l (t.before ++ kept)) (sym same) t.shown;
      }

  -- all that is kept was handed out
  pub told_out : (cmds : List C) (x : X) (passed : ℕ) (kept : List (List (List ℕ))) (at : ℕ) → IsTold shows stands_at cmds x passed kept at → IsTold shows stands_at cmds x passed [] passed
  told_out cmds x passed kept at t = record {
    within = t.within;
    handed_out = omega arith;
    cursor = t.cursor;
    before = t.before ++ kept;
    shown_before = t.shown;
    shown = subst (λ (ms : List (List (List ℕ))). shows (take passed cmds) ms) (sym (append-nil (t.before ++ kept))) t.shown;
  }

  module _ (pulls : List C → X → List Msg → X → Type 0) (passed : X → ℕ) where
    -- messages were pulled of the history as it went on
    pub told_pulled : GoesOn shows stands_at pulls passed → (cmds later : List C) (x y : X) (n : ℕ) (kept : List (List (List ℕ))) (at : ℕ) (msgs : List Msg) → IsTold shows stands_at cmds x n kept at → pulls (cmds ++ later) x msgs y
        → IsTold shows stands_at (cmds ++ later) y (passed y) (kept ++ lines_of msgs) at
    told_pulled law cmds later x y n kept at msgs t p =
        let within : n ≤ length cmds = t.within in
        let handed_out : at ≤ n = t.handed_out in
        let parts : take n cmds ++ (drop n cmds ++ later) ≡ cmds ++ later = sym (append_assoc (take n cmds) (drop n cmds) later) ∙ ap (λ (l : List C). l ++ later) (take-append-drop n cmds) in
        let first : take at (cmds ++ later) ≡ take at cmds = take-append-le at cmds later (omega arith) in
        let size : length (take n cmds) ≡ n = length-take-le n cmds within in
        let on = law (take n cmds) (drop n cmds ++ later) x y (t.before ++ kept) msgs t.cursor t.shown (subst (λ (l : List C). pulls l x msgs y) (sym parts) p) in
        let above : length (take n cmds) ≤ passed y = on.0 in
        let below : passed y ≤ length (cmds ++ later) = subst (λ (l : List C). passed y ≤ length l) parts on.1 in
        record {
          within = below;
          handed_out = omega (arith, size);
          cursor = subst (λ (l : List C). stands_at (take (passed y) l) y) parts on.3;
          before = t.before;
          shown_before = subst (λ (l : List C). shows l t.before) (sym first) t.shown_before;
          shown = subst (λ (ms : List (List (List ℕ))). shows (take (passed y) (cmds ++ later)) ms) (append_assoc t.before kept (lines_of msgs)) (subst (λ (l : List C). shows (take (passed y) l) ((t.before ++ kept) ++ lines_of msgs)) parts on.2);
        }

-- ---- what a turn leaves of a view

-- what a turn without an entry, after tries in vain, does to a view
abbrev pub DidRead : {O C T E : Type 0} → View O C → Result T E → View O C → Type 0
DidRead v (Ok done) w = TurnsAtLast v None w
DidRead v (Err e) w = (w ≡ v) ⊎ TurnsAtLast v None w

module _ {O C : Type 0} where
  pub adds_on : (v u w : View O C) → Adds v u → Adds u w → Adds v w
  adds_on v u w a b = (
    a.0 ++ b.0,
    b.1 ∙ ap (λ (l : List (Entry C)). l ++ b.0) a.1 ∙ append_assoc v.said a.0 b.0,
    b.2 ∙ ap (λ (l : List (Entry C)). l ++ b.0) a.2 ∙ append_assoc v.mine a.0 b.0,
  )

  pub grows_self : (v : View O C) → Grows v v
  grows_self v = record { origin = refl; seen = prefix_self v.seen; adds = ([], sym (append-nil v.said), sym (append-nil v.mine)) }

  pub grows_on : (v u w : View O C) → Grows v u → Grows u w → Grows v w
  grows_on v u w g h = record {
    origin = h.origin ∙ g.origin;
    seen = prefix_trans v.seen u.seen w.seen g.seen h.seen;
    adds = adds_on v u w g.adds h.adds;
  }

  pub grows_looked : (v : View O C) (n : ℕ) → Grows v (after_look v n)
  grows_looked v n = record { origin = refl; seen = prefix_self v.seen; adds = ([], sym (append-nil v.said), sym (append-nil v.mine)) }

  turned_grows : (v : View O C) (log : List (Entry C)) (cmd : Option C) → Extends v log → Grows v (turned v log cmd)
  turned_grows v log None found = record { origin = refl; seen = found.0; adds = ([], sym (append-nil v.said), sym (append-nil v.mine)) }
  turned_grows v log (Some c) found = record { origin = refl; seen = prefix_more v.seen log (entry v.number c ∷ []) found.0; adds = (entry v.number c ∷ [], refl, refl) }

  busy_grows : (v w : View O C) (word : ℕ) → IsBusy v word w → Grows v w
  busy_grows v w word busy =
      ⊎_elim
      (λ (b : (word % 2 ≡ 1) × (w ≡ after_meeting v word)). subst (Grows v) (sym b.1) (record { origin = refl; seen = prefix_self v.seen; adds = ([], sym (append-nil v.said), sym (append-nil v.mine)) }))
      (λ (b : (first : ℕ) × (first ≢ word) × (w ≡ after_meeting (after_meeting v first) word)). subst (Grows v) (sym b.2) (record { origin = refl; seen = prefix_self v.seen; adds = ([], sym (append-nil v.said), sym (append-nil v.mine)) }))
      busy

  pub turns_grow : (v : View O C) (cmd : Option C) (w : View O C) → Turns v cmd w → Grows v w
  turns_grow v cmd w t = subst (Grows v) (sym t.2) (turned_grows v t.0 cmd t.1)

  of_tries : (v w : View O C) (words : List ℕ) → Grows (record v { met = v.met ++ words }) w → Grows v w
  of_tries v w words g = record { origin = g.origin; seen = g.seen; adds = g.adds }

  pub turns_grow_at_last : (v : View O C) (cmd : Option C) (w : View O C) → TurnsAtLast v cmd w → Grows v w
  turns_grow_at_last v cmd w t = of_tries v w t.0 (turns_grow (record v { met = v.met ++ t.0 }) cmd w t.1)

  reads_on_grow : (turns : ℕ) (v w : View O C) → ReadsOn turns v w → Grows v w
  reads_on_grow zero v w same = subst (Grows v) (sym same) (grows_self v)
  reads_on_grow (suc turns) v w r = grows_on v r.0 w (reads_on_grow turns v r.0 r.1) (turns_grow_at_last r.0 None w r.2)

  pub rereads_grow : (v w : View O C) → Rereads v w → Grows v w
  rereads_grow v w r = reads_on_grow r.0 v w r.1

  -- one turn more, if there was one
  pub rereads_more : {T E : Type 0} (v u w : View O C) (result : Result T E) → Rereads v u → DidRead u result w → Rereads v w
  rereads_more v u w (Ok done) r t = (suc r.0, (u, r.1, t))
  rereads_more v u w (Err e) r t = ⊎_elim (λ (same : w ≡ u). subst (Rereads v) (sym same) r) (λ (one : TurnsAtLast u None w). (suc r.0, (u, r.1, one))) t

  pub rereads_none : (v : View O C) → Rereads v v
  rereads_none v = (0, refl)

  -- one more try in vain
  pub rereads_tried : (v u w : View O C) → Rereads v u → (w ≡ u) ⊎ TurnsAtLast u None w → Rereads v w
  rereads_tried v u w r t = rereads_more {T = Unit {0}} {E = Unit {0}} v u w (Err tt) r t

  same_or_grows : (v w : View O C) → (w ≡ v) ⊎ Turns v None w → Grows v w
  same_or_grows v w is = ⊎_elim (λ (e : w ≡ v). subst (Grows v) (sym e) (grows_self v)) (λ (t : Turns v None w). turns_grow v None w t) is

  -- more commands
  pub commands_grow : (v w : View O C) → Grows v w → (later : List C) × (commands v.seen ++ later ≡ commands w.seen)
  commands_grow v w g = (commands g.seen.0, sym (commands-append v.seen g.seen.0) ∙ ap (λ (l : List (Entry C)). commands l) g.seen.1)

module _ {O C X : Type 0} (pulls : O → List C → X → List Msg → X → Type 0) where
  -- Either messages were pulled of all that the pass sees now and put behind those that are kept, or none
  abbrev pub PullsOrNot : View O C → X → List Msg → View O C → X → List Msg → Type 0
  PullsOrNot v x kept w y more = ((msgs : List Msg) × pulls v.origin (commands w.seen) x msgs y × (more ≡ kept ++ msgs)) ⊎ ((y ≡ x) × (more ≡ kept))

  -- what was handed out and what is kept, after a turn
  module _ (shows : List C → List (List (List ℕ)) → Type 0) (stands_at : List C → X → Type 0) (passed : X → ℕ) where
    pub told_after : (o : O) → GoesOn shows stands_at (pulls o) passed → (v : View O C) (x : X) (kept : List Msg) (w : View O C) (y : X) (more : List Msg) (at : ℕ)
        → v.origin ≡ o → IsTold shows stands_at (commands v.seen) x (passed x) (lines_of kept) at → Grows v w → PullsOrNot v x kept w y more
        → IsTold shows stands_at (commands w.seen) y (passed y) (lines_of more) at
    told_after o law v x kept w y more at origin t g (inl p) =
        let later = commands_grow v w g in
        let pulled : pulls o (commands v.seen ++ later.0) x p.0 y = subst (λ (l : List C). pulls o l x p.0 y) (sym later.1) (subst (λ (a : O). pulls a (commands w.seen) x p.0 y) origin p.1) in
        let after : IsTold shows stands_at (commands v.seen ++ later.0) y (passed y) (lines_of kept ++ lines_of p.0) at = told_pulled shows stands_at (pulls o) passed law (commands v.seen) later.0 x y (passed x) (lines_of kept) at p.0 t pulled in
        let here : IsTold shows stands_at (commands w.seen) y (passed y) (lines_of kept ++ lines_of p.0) at = subst (λ (l : List C). IsTold shows stands_at l y (passed y) (lines_of kept ++ lines_of p.0) at) later.1 after in
        let lines : lines_of kept ++ lines_of p.0 ≡ lines_of more = sym (map-append msg_lines kept p.0) ∙ ap (λ (ms : List Msg). lines_of ms) (sym p.2) in
        subst (λ (ls : List (List (List ℕ))). IsTold shows stands_at (commands w.seen) y (passed y) ls at) lines here
    told_after o law v x kept w y more at origin t g (inr p) =
        let later = commands_grow v w g in
        let after : IsTold shows stands_at (commands v.seen ++ later.0) x (passed x) (lines_of kept) at = told_more shows stands_at (commands v.seen) later.0 x (passed x) (lines_of kept) at t in
        let here : IsTold shows stands_at (commands w.seen) x (passed x) (lines_of kept) at = subst (λ (l : List C). IsTold shows stands_at l x (passed x) (lines_of kept) at) later.1 after in
        subst (λ (z : X). IsTold shows stands_at (commands w.seen) z (passed z) (lines_of more) at) (sym p.0) (subst (λ (ms : List Msg). IsTold shows stands_at (commands w.seen) x (passed x) (lines_of ms) at) (sym p.1) here)

-- what was pulled was pulled in another way, too
pub pulls_map : {O C X : Type 0} (pulls also : O → List C → X → List Msg → X → Type 0) (v : View O C) (x : X) (kept : List Msg) (w : View O C) (y : X) (more : List Msg)
    → ((o : O) (cmds : List C) (msgs : List Msg) → pulls o cmds x msgs y → also o cmds x msgs y) → PullsOrNot pulls v x kept w y more → PullsOrNot also v x kept w y more
pulls_map pulls also v x kept w y more change (inl p) = inl (p.0, change v.origin (commands w.seen) p.0 p.1, p.2)
pulls_map pulls also v x kept w y more change (inr p) = inr p

-- ---- handing out

pub length-commands : {C : Type 0} (l : List (Entry C)) → length (commands l) ≡ length l
length-commands {C} l = length-map l (λ (e : Entry C). e.cmd)

module _ {O C X : Type 0} (shows : List C → List (List (List ℕ)) → Type 0) (stands_at : List C → X → Type 0) (passed : X → ℕ) where
  pub told_handed : (v w : View O C) (x y : X) (kept more : List Msg) (at now : ℕ) → w ≡ v → y ≡ x → more ≡ [] → now ≡ passed y → IsTold shows stands_at (commands v.seen) x (passed x) (lines_of kept) at
      → IsTold shows stands_at (commands w.seen) y (passed y) (lines_of more) now
  told_handed v w x y kept more at now same_view same_cursor none end t =
      let out : IsTold shows stands_at (commands v.seen) x (passed x) [] (passed x) = told_out shows stands_at (commands v.seen) x (passed x) (lines_of kept) at t in
      let here : IsTold shows stands_at (commands w.seen) x (passed x) [] (passed x) = subst (λ (u : View O C). IsTold shows stands_at (commands u.seen) x (passed x) [] (passed x)) (sym same_view) out in
      let moved : IsTold shows stands_at (commands w.seen) y (passed y) [] (passed y) = subst (λ (z : X). IsTold shows stands_at (commands w.seen) z (passed z) [] (passed z)) (sym same_cursor) here in
      let empty : IsTold shows stands_at (commands w.seen) y (passed y) (lines_of more) (passed y) = subst (λ (ms : List Msg). IsTold shows stands_at (commands w.seen) y (passed y) (lines_of ms) (passed y)) (sym none) moved in
      subst (λ (n : ℕ). IsTold shows stands_at (commands w.seen) y (passed y) (lines_of more) n) (sym end) empty

  -- what is kept past the place up to which messages were handed out
  pub hands_out : (v w : View O C) (x y : X) (kept more : List Msg) (at now : ℕ) → IsTold shows stands_at (commands v.seen) x (passed x) (lines_of kept) at → Grows v w → IsTold shows stands_at (commands w.seen) y (passed y) (lines_of more) at
      → now ≡ passed y → HandsOut shows (commands v.seen) at more (commands w.seen) now
  hands_out v w x y kept more at now t g u end =
      let later = commands_grow v w g in
      let within : passed x ≤ length (commands v.seen) = t.within in
      let handed_out : at ≤ passed x = t.handed_out in
      let first : take at (commands w.seen) ≡ take at (commands v.seen) = ap (take at) (sym later.1) ∙ take-append-le at (commands v.seen) later.0 (omega arith) in
      record {
        before = u.before;
        shown_before = subst (λ (l : List C). shows l u.before) first u.shown_before;
        on = subst (λ (n : ℕ). at ≤ n) (sym end) u.handed_out;
        within = subst (λ (n : ℕ). n ≤ length (commands w.seen)) (sym end) u.within;
        shown = subst (λ (n : ℕ). shows (take n (commands w.seen)) (u.before ++ lines_of more)) (sym end) u.shown;
      }

-- ---- what a turn lets its pass say

-- It looks no more often. It makes no entry, or that of the command, and says so.
pub record Says {O C : Type 0} (v : View O C) (cmd : Option C) (w : View O C) : Type 0 where
  pub looks : w.looks ≡ v.looks
  pub made : ((w.said ≡ v.said) × (w.mine ≡ v.mine)) ⊎ ((c : C) × (cmd ≡ Some c) × (w.said ≡ v.said ++ entry v.number c ∷ []) × (w.mine ≡ v.mine ++ entry v.number c ∷ []))

module _ {O C : Type 0} where
  silent : (v w : View O C) (cmd : Option C) → w.looks ≡ v.looks → w.said ≡ v.said → w.mine ≡ v.mine → Says v cmd w
  silent v w cmd looks said mine = record { looks = looks; made = inl (said, mine) }

  same_says : (v w : View O C) (cmd : Option C) → w ≡ v → Says v cmd w
  same_says v w cmd is = silent v w cmd (ap (λ (u : View O C). u.looks) is) (ap (λ (u : View O C). u.said) is) (ap (λ (u : View O C). u.mine) is)

  turned_says : (v : View O C) (log : List (Entry C)) (cmd : Option C) → Says v cmd (turned v log cmd)
  turned_says v log None = silent v (turned v log None) None refl refl refl
  turned_says v log (Some c) = record { looks = refl; made = inr (c, refl, refl, refl) }

  turns_say : (v : View O C) (cmd : Option C) (w : View O C) → Turns v cmd w → Says v cmd w
  turns_say v cmd w t = subst (Says v cmd) (sym t.2) (turned_says v t.0 cmd)

  -- a turn without an entry
  turns_silent : (v w : View O C) (cmd : Option C) → Turns v None w → Says v cmd w
  turns_silent v w cmd t = silent v w cmd (ap (λ (u : View O C). u.looks) t.2) (ap (λ (u : View O C). u.said) t.2) (ap (λ (u : View O C). u.mine) t.2)

  busy_silent : (v w : View O C) (word : ℕ) (cmd : Option C) → IsBusy v word w → Says v cmd w
  busy_silent v w word cmd busy =
      ⊎_elim
      (λ (b : (word % 2 ≡ 1) × (w ≡ after_meeting v word)). silent v w cmd (ap (λ (u : View O C). u.looks) b.1) (ap (λ (u : View O C). u.said) b.1) (ap (λ (u : View O C). u.mine) b.1))
      (λ (b : (first : ℕ) × (first ≢ word) × (w ≡ after_meeting (after_meeting v first) word)). silent v w cmd (ap (λ (u : View O C). u.looks) b.2) (ap (λ (u : View O C). u.said) b.2) (ap (λ (u : View O C). u.mine) b.2))
      busy

  of_more_tries : (v w : View O C) (cmd : Option C) (words : List ℕ) → Says (record v { met = v.met ++ words }) cmd w → Says v cmd w
  of_more_tries v w cmd words t = record { looks = t.looks; made = t.made }

-- ---- what a turn leaves, whatever it gave

module _ {O C X : Type 0} (pulls : O → List C → X → List Msg → X → Type 0) where
  pub record Leaves (v : View O C) (x : X) (kept : List Msg) (cmd : Option C) (w : View O C) (y : X) (more : List Msg) : Type 0 where
    pub grows : Grows v w
    pub pulled : PullsOrNot pulls v x kept w y more
    pub says : Says v cmd w

  turn_leaves : (v : View O C) (x : X) (kept : List Msg) (cmd : Option C) (w : View O C) (y : X) (more : List Msg)
      → Turns v cmd w → PullsOrNot pulls v x kept w y more → Leaves v x kept cmd w y more
  turn_leaves v x kept cmd w y more t pulled = record { grows = turns_grow v cmd w t; pulled = pulled; says = turns_say v cmd w t }

  -- a turn without an entry
  silent_leaves : (v : View O C) (x : X) (kept : List Msg) (cmd : Option C) (w : View O C) (y : X) (more : List Msg)
      → Turns v None w → PullsOrNot pulls v x kept w y more → Leaves v x kept cmd w y more
  silent_leaves v x kept cmd w y more t pulled = record { grows = turns_grow v None w t; pulled = pulled; says = turns_silent v w cmd t }

  -- no turn
  same_leaves : (v : View O C) (x : X) (kept : List Msg) (cmd : Option C) (w : View O C) (y : X) (more : List Msg)
      → w ≡ v → PullsOrNot pulls v x kept w y more → Leaves v x kept cmd w y more
  same_leaves v x kept cmd w y more e pulled =
      record { grows = subst (Grows v) (sym e) (grows_self v); pulled = pulled; says = same_says v w cmd e }

  busy_leaves : (v : View O C) (x : X) (kept : List Msg) (cmd : Option C) (word : ℕ) (w : View O C) (y : X) (more : List Msg)
      → IsBusy v word w → PullsOrNot pulls v x kept w y more → Leaves v x kept cmd w y more
  busy_leaves v x kept cmd word w y more busy pulled =
      record { grows = busy_grows v w word busy; pulled = pulled; says = busy_silent v w word cmd busy }

  -- what is left after tries in vain
  tries_leave : (v : View O C) (x : X) (kept : List Msg) (cmd : Option C) (w : View O C) (y : X) (more : List Msg) (words : List ℕ)
      → Leaves (record v { met = v.met ++ words }) x kept cmd w y more → Leaves v x kept cmd w y more
  tries_leave v x kept cmd w y more words l =
      record { grows = of_tries v w words l.grows; pulled = l.pulled; says = of_more_tries v w cmd words l.says }

  silent_leaves_at_last : (v : View O C) (x : X) (kept : List Msg) (cmd : Option C) (w : View O C) (y : X) (more : List Msg)
      → TurnsAtLast v None w → PullsOrNot pulls v x kept w y more → Leaves v x kept cmd w y more
  silent_leaves_at_last v x kept cmd w y more t pulled =
      tries_leave v x kept cmd w y more t.0 (silent_leaves (record v { met = v.met ++ t.0 }) x kept cmd w y more t.1 pulled)

  turn_leaves_at_last : (v : View O C) (x : X) (kept : List Msg) (cmd : Option C) (w : View O C) (y : X) (more : List Msg)
      → TurnsAtLast v cmd w → PullsOrNot pulls v x kept w y more → Leaves v x kept cmd w y more
  turn_leaves_at_last v x kept cmd w y more t pulled =
      tries_leave v x kept cmd w y more t.0 (turn_leaves (record v { met = v.met ++ t.0 }) x kept cmd w y more t.1 pulled)

  pub reads_leave : {T : Type 0} (v : View O C) (x : X) (kept : List Msg) (r : Result T Unread) (w : View O C) (y : X) (more : List Msg)
      → Reads pulls v x kept r w y more → Leaves v x kept None w y more
  reads_leave v x kept (Ok done) w y more told = turn_leaves v x kept None w y more told.0 (inl told.1)
  reads_leave v x kept (Err (unread.Busy word)) w y more told = busy_leaves v x kept None word w y more told.0 (inr (told.1, told.2))
  reads_leave v x kept (Err unread.NoMemory) w y more told = ⊎_elim
      (λ (e : w ≡ v). same_leaves v x kept None w y more e (inr (told.1, told.2)))
      (λ (t : Turns v None w). turn_leaves v x kept None w y more t (inr (told.1, told.2)))
      told.0

  pub reads_leave_at_last : {T E : Type 0} (v : View O C) (x : X) (kept : List Msg) (result : Result T E) (w : View O C) (y : X)
      (more : List Msg) → ReadsAtLast pulls v x kept result w y more → Leaves v x kept None w y more
  reads_leave_at_last v x kept (Ok done) w y more told = turn_leaves_at_last v x kept None w y more told.0 (inl told.1)
  reads_leave_at_last v x kept (Err error) w y more told = ⊎_elim
      (λ (e : w ≡ v). same_leaves v x kept None w y more e (inr (told.1, told.2)))
      (λ (t : TurnsAtLast v None w). turn_leaves_at_last v x kept None w y more t (inr (told.1, told.2)))
      told.0

module _ {O C U X : Type 0} (answers : O → List C → C → U → Type 0) (pulls : O → List C → X → List Msg → X → Type 0) where
  pub takes_leave : {L : Type 0} (v : View O C) (x : X) (kept : List Msg) (c : C) (t : TurnEnd U (Back C) L) (w : View O C) (y : X) (more : List Msg)
      → Takes answers pulls v x kept c t w y more → Leaves pulls v x kept (Some c) w y more
  takes_leave v x kept c (Done out) w y more told = turn_leaves pulls v x kept (Some c) w y more (told.0, told.1, told.2) told.4
  takes_leave v x kept c (Busy back) w y more told = busy_leaves pulls v x kept (Some c) back.word w y more told.0 (inr (told.2, told.3))
  takes_leave v x kept c (OwnLimit reason) w y more told = same_leaves pulls v x kept (Some c) w y more told.1 (inr (told.2, told.3))
  takes_leave v x kept c NameTaken w y more told = silent_leaves pulls v x kept (Some c) w y more told.0 (inr (told.1, told.2))
  takes_leave v x kept c NoMemory w y more told = ⊎_elim
      (λ (e : w ≡ v). same_leaves pulls v x kept (Some c) w y more e (inr (told.0.0, told.1)))
      (λ (t : Turns v None w). silent_leaves pulls v x kept (Some c) w y more t (inr (told.0.0, told.1)))
      told.0.1

  pub takes_leave_at_last : {T B L : Type 0} (v : View O C) (x : X) (kept : List Msg) (c : C) (t : TurnEnd T B L) (w : View O C) (y : X) (more : List Msg)
      → TakesAtLast answers pulls v x kept c t w y more → Leaves pulls v x kept (Some c) w y more
  takes_leave_at_last v x kept c (Done out) w y more told = turn_leaves_at_last pulls v x kept (Some c) w y more told.0 told.1
  takes_leave_at_last v x kept c (Busy back) w y more told = absurd told
  takes_leave_at_last v x kept c (OwnLimit reason) w y more told = absurd told
  takes_leave_at_last v x kept c NameTaken w y more told =
      silent_leaves_at_last pulls v x kept (Some c) w y more told.0 (inr (told.1, told.2))
  takes_leave_at_last v x kept c NoMemory w y more told = ⊎_elim
      (λ (e : w ≡ v). same_leaves pulls v x kept (Some c) w y more e (inr (told.0.0, told.1)))
      (λ (t : TurnsAtLast v None w). silent_leaves_at_last pulls v x kept (Some c) w y more t (inr (told.0.0, told.1)))
      told.0.1

  -- a turn with a command, and with a bound that is set for it alone
  pub takes_map : {T B L : Type 0} (more_pulls : O → List C → X → List Msg → X → Type 0) (v : View O C) (x z : X) (kept : List Msg) (c : C) (t : TurnEnd T B L)
      (w : View O C) (y u : X) (more : List Msg)
      → ((o : O) (cmds : List C) (msgs : List Msg) → pulls o cmds z msgs y → more_pulls o cmds x msgs u) → (y ≡ z → u ≡ x)
      → TakesAtLast answers pulls v z kept c t w y more → TakesAtLast answers more_pulls v x kept c t w u more
  takes_map more_pulls v x z kept c (Done out) w y u more pulled still told = (
    told.0,
    ⊎_elim
        (λ (m : PullsMore pulls v.origin (commands w.seen) z kept y more). inl (m.0, pulled v.origin (commands w.seen) m.0 m.1, m.2))
        (λ (none : (y ≡ z) × (more ≡ kept)). inr (still none.0, none.1))
        told.1,
  )
  takes_map more_pulls v x z kept c (Busy back) w y u more pulled still told = told
  takes_map more_pulls v x z kept c (OwnLimit reason) w y u more pulled still told = told
  takes_map more_pulls v x z kept c NameTaken w y u more pulled still told = (told.0, still told.1, told.2)
  takes_map more_pulls v x z kept c NoMemory w y u more pulled still told = ((still told.0.0, told.0.1), told.1)

module _ {O C : Type 0} where
  -- all that it has said is signed as before
  pub signs_after : (signer : C → Option ℕ) (conn : ℕ) (v w : View O C) (cmd : Option C) → IfSome cmd (IsOf signer conn) → Says v cmd w → SignsAs signer conn v.said → SignsAs signer conn w.said
  signs_after signer conn v w cmd of s alone = ⊎_elim
      (λ (same : (w.said ≡ v.said) × (w.mine ≡ v.mine)). subst (SignsAs signer conn) (sym same.0) alone)
      (λ (one : (c : C) × (cmd ≡ Some c) × (w.said ≡ v.said ++ entry v.number c ∷ []) × (w.mine ≡ v.mine ++ entry v.number c ∷ [])).
      subst (SignsAs signer conn) (sym one.2) (signs_more signer conn v.number v.said one.0 (subst (λ (o : Option C). IfSome o (IsOf signer conn)) one.1 of) alone))
      s.made

  -- who has said what it has made goes on so
  pub said_after : (v w : View O C) (cmd : Option C) → Says v cmd w → v.said ≡ v.mine → w.said ≡ w.mine
  said_after v w cmd s same = ⊎_elim
      (λ (e : (w.said ≡ v.said) × (w.mine ≡ v.mine)). e.0 ∙ same ∙ sym e.1)
      (λ (one : (c : C) × (cmd ≡ Some c) × (w.said ≡ v.said ++ entry v.number c ∷ []) × (w.mine ≡ v.mine ++ entry v.number c ∷ [])). one.2 ∙ ap (λ (l : List (Entry C)). l ++ entry v.number one.0 ∷ []) same ∙ sym one.3)
      s.made

one_of_all : (x n : ℕ) → x ≤ n → All (λ (m : ℕ). x ≤ m) (n ∷ [])
one_of_all x n le zero d within = le
one_of_all x n le (suc i) d within = absurd (omega arith)

all_and_last : (x : ℕ) (xs : List ℕ) (n : ℕ) → All (λ (m : ℕ). x ≤ m) xs → x ≤ n → All (λ (m : ℕ). x ≤ m) (xs ++ n ∷ [])
all_and_last x xs n all le = All-append (λ (m : ℕ). x ≤ m) xs (n ∷ []) all (one_of_all x n le)

-- a look that shows no less than those before
pub never_falls : (xs : List ℕ) (n : ℕ) → NeverFalls xs → All (λ (m : ℕ). m ≤ n) xs → NeverFalls (xs ++ n ∷ [])
never_falls [] n up le = (λ i d within. absurd (omega arith), tt)
never_falls (x ∷ xs) n up le = (all_and_last x xs n up.0 (le 0 n (omega arith)), never_falls xs n up.1 (λ i d within. le (suc i) d (omega arith)))
