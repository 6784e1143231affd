-- What an order to the hall leaves of a session.
use Rattle.std.proofs.Common.{◌≡◌, ◌⊎◌, ℕ, List, [], ◌∷◌, ◌++◌, length, refl, sym, ap, ◌∙◌, subst, inl, ⊎_elim, Option, Some, None, Ok, Err, append_assoc}
use Rattle.std.proofs.lemmas.List.{length-map}
use mathlib.Core.List.{IsPrefix}
use Rattle.ps_base.specs.declared.badge.Badge.{Badge}
use Rattle.ps_base.specs.declared.hall_why.HallWhy.{HallWhy}
use Rattle.ps_lines.specs.declared.command.BadWhy.TheVariants.{NoSuchRoom}
use Rattle.ps_lines.specs.declared.command.HallCmd.{HallCmd}
use Rattle.ps_lines.specs.declared.command.HallCmd.TheVariants.{Bad}
use Rattle.ps_lines.specs.declared.order.Order.TheVariants.{Hall}
use Rattle.rules_start.specs.declared.start.Start.{Start}
use Rattle.ps_room.specs.declared.outcome.Ending.{Ending}
use Rattle.ps_hall.specs.declared.entry.HallEntry.{HallEntry}
use Rattle.ps_hall.specs.Records.{Record as HallRecord}
use Rattle.ps_hall.specs.Halls.{verdict, out_by}
use Rattle.ps_histlock.specs.declared.view.Entry.{Entry}
use Rattle.ps_histlock.specs.Histories.{commands, entry, entries_of}
use Rattle.ps_histlock.specs.Turns.{turned, Turns}
use Rattle.ps_histlock.specs.declared.lock.TheConstants.{OWN_LIMIT}
use Rattle.server_places.specs.Halls.{HallAnswers, hall_after}
use Rattle.ps_hub.specs.Hubs.{Hub, root_of}
use Rattle.server_pass.specs.Turns.{FallsShort}
use Rattle.ps_hub.specs.Calls.{hall_entry, badge_after, HallOrdered, HallGoes}
use Rattle.ps_hub.specs.declared.out.HubFault.TheVariants as hub_faults
use Rattle.ps_hub.specs.declared.out.HubOut.{HubOut}
use Rattle.ps_hub.specs.Passes.{HallPass}
use Rattle.ps_hub.specs.declared.passes.Passes.{Passes}
use Rattle.ps_serve.specs.declared.obey.Unmade.{Unmade}
use Rattle.ps_serve.specs.declared.obey.Unmade.TheVariants as unmade
use Rattle.ps_serve.specs.Acts.{Act, hall_of, hall_entries}
use Rattle.ps_serve.specs.Sendings.{Sending}
use Rattle.ps_serve.specs.Sittings.{HallGave}
use Rattle.ps_serve.specs.Obeys.{OrdersAtLast, Unmakes, report}
use Rattle.ps_serve.proofs.Prefixes.{prefix_same}
use Rattle.ps_serve.proofs.Actions.{hall_more}
use Rattle.ps_serve.proofs.Moves.{Moves, stays, turns_move, entered_moves, entered_seen}
use Rattle.ps_serve.proofs.Halls.{IsHall, IsHallKin}
use Rattle.ps_serve.proofs.Tries.{one_hall, InHall, hall_goes, hall_tries}

module _ (hub : Hub) (conn open_at : ℕ) (acts : List Act) (ss : List Sending) (was : HallPass) (old : Passes) where
  abbrev pub IsInHall : Passes → Type 0
  IsInHall new = InHall hub conn open_at (length acts) ss (hall_entries conn acts) was old new

  -- the entry was made, and gave this
  pub record HallDone (cmd : HallCmd) (moment : ℕ) (badge : Option Badge) (start : Option Start) (new : Passes) : Type 0 where
    pub conn_is : new.conn ≡ conn
    pub rooms : new.rooms.items ≡ old.rooms.items
    pub badge_is : new.badge ≡ badge_after old.badge badge
    pub hall_pass : HallPass
    pub hall : new.hall ≡ Some hall_pass
    pub kin : IsHallKin was hall_pass
    pub is : IsHall hub conn open_at (hall_entries conn acts ++ hall_entry conn moment cmd ∷ []) (length acts) ss hall_pass
    pub gave : HallGave hub conn acts moment cmd badge start hall_pass

  pub hall_done : (cmd : HallCmd) (moment : ℕ) (begin mid new : Passes) (out : HubOut) (start : Option Start) → out.start ≡ start → IsInHall mid → HallOrdered hub cmd moment mid out new → HallDone cmd moment out.badge start new
  hall_done cmd moment begin mid new out start starts b o =
      let ee : hall_entry mid.conn moment cmd ≡ hall_entry conn moment cmd = ap (λ (c : ℕ). hall_entry c moment cmd) b.conn_is in
      let here : o.goes.behind.pass.1 ≡ turned o.goes.before.pass.1 o.log (Some (hall_entry conn moment cmd)) = subst (λ (e : HallEntry). o.goes.behind.pass.1 ≡ turned o.goes.before.pass.1 o.log (Some e)) ee o.goes.done.1 in
      let m : Moves o.goes.before.pass.1 (hall_entry conn moment cmd ∷ []) o.goes.behind.pass.1 = entered_moves o.goes.before.pass.1 o.log (hall_entry conn moment cmd) o.goes.behind.pass.1 o.goes.done.0 here in
      let g = hall_goes hub conn open_at (length acts) ss (hall_entries conn acts) was old (hall_entry conn moment cmd ∷ []) mid new o.goes m b in
      let same : b.hall_pass ≡ o.goes.before = one_hall b.hall_pass o.goes.before (sym b.hall ∙ o.goes.was) in
      let own : commands o.goes.before.pass.1.mine ≡ hall_entries conn acts = subst (λ (h : HallPass). commands h.pass.1.mine ≡ hall_entries conn acts) same b.is.entries in
      record {
        conn_is = o.goes.conn ∙ b.conn_is;
        rooms = o.goes.rooms ∙ b.rooms;
        badge_is = o.badge ∙ ap (λ (x : Option Badge). badge_after x o.gave.badge) b.badge ∙ ap (λ (x : Option Badge). badge_after old.badge x) (sym o.badge_out);
        hall_pass = o.goes.behind;
        hall = g.0;
        kin = g.1;
        is = g.2;
        gave = record {
          before = o.log;
          out = o.gave;
          there = prefix_same _ _ (ap (λ (n : ℕ). o.log ++ entry n (hall_entry conn moment cmd) ∷ []) m.number ∙ sym (entered_seen o.goes.before.pass.1 o.log (hall_entry conn moment cmd) o.goes.behind.pass.1 here));
          own = ap (λ (n : ℕ). length (entries_of n o.log)) m.number ∙ ap length (sym o.goes.done.0.2) ∙ sym (length-map o.goes.before.pass.1.mine (λ (e : Entry HallEntry). e.cmd)) ∙ ap length own;
          answer = subst (λ (e : HallEntry). HallAnswers (root_of hub) (commands o.log) e o.gave) ee o.answer;
          badge_is = o.badge_out;
          start_is = sym starts ∙ o.start;
        };
      }

  -- it wasn't, or memory ran out for what it tells
  pub record HallBroken (cmd : HallCmd) (moment : ℕ) (new : Passes) : Type 0 where
    pub conn_is : new.conn ≡ conn
    pub rooms : new.rooms.items ≡ old.rooms.items
    pub badge_is : new.badge ≡ old.badge
    pub hall_pass : HallPass
    pub hall : new.hall ≡ Some hall_pass
    pub kin : IsHallKin was hall_pass
    pub more : List HallEntry
    pub part : (more ≡ []) ⊎ (more ≡ hall_entry conn moment cmd ∷ [])
    pub is : IsHall hub conn open_at (hall_entries conn acts ++ more) (length acts) ss hall_pass

  broken_by : {does : HallPass → HallPass → Type 0} → (cmd : HallCmd) (moment : ℕ) (mid new : Passes) (more : List HallEntry) → (more ≡ []) ⊎ (more ≡ hall_entry conn moment cmd ∷ []) → (goes : HallGoes does mid new) → new.badge ≡ mid.badge → Moves goes.before.pass.1 more goes.behind.pass.1 → IsInHall mid → HallBroken cmd moment new
  broken_by cmd moment mid new more part goes badge m b =
      let g = hall_goes hub conn open_at (length acts) ss (hall_entries conn acts) was old more mid new goes m b in
      record {
        conn_is = goes.conn ∙ b.conn_is;
        rooms = goes.rooms ∙ b.rooms;
        badge_is = badge ∙ b.badge;
        hall_pass = goes.behind;
        hall = g.0;
        kin = g.1;
        more = more;
        part = part;
        is = g.2;
      }

  no_memory : (cmd : HallCmd) (moment : ℕ) (mid new : Passes) → new.badge ≡ mid.badge → HallGoes (λ (h k : HallPass). FallsShort h.pass.1 h.cursor k.pass.1 k.cursor) mid new → IsInHall mid → HallBroken cmd moment new
  no_memory cmd moment mid new badge goes b = ⊎_elim
      (λ (e : goes.behind.pass.1 ≡ goes.before.pass.1). broken_by cmd moment mid new [] (inl refl) goes badge (stays goes.before.pass.1 goes.behind.pass.1 e) b)
      (λ (t : Turns goes.before.pass.1 None goes.behind.pass.1). broken_by cmd moment mid new [] (inl refl) goes badge (turns_move goes.before.pass.1 goes.behind.pass.1 t) b)
      goes.done.1

  own_limit : (cmd : HallCmd) (moment : ℕ) (mid new : Passes) → new.badge ≡ mid.badge → HallGoes (λ (h k : HallPass). (length h.pass.1.mine ≡ OWN_LIMIT) × (k.pass ≡ h.pass)) mid new → IsInHall mid → HallBroken cmd moment new
  own_limit cmd moment mid new badge goes b = broken_by cmd moment mid new [] (inl refl) goes badge (stays goes.before.pass.1 goes.behind.pass.1 (ap (λ (p : _ × _). p.1) goes.done.1)) b

  -- ---- with the tries in vain before

  pub hall_made : (cmd : HallCmd) (moment : ℕ) (begin new : Passes) (out : HubOut) (start : Option Start) → out.start ≡ start → IsInHall begin → OrdersAtLast hub (Hall cmd) moment begin (Ok out) new → HallDone cmd moment out.badge start new
  hall_made cmd moment begin new out start starts b t = hall_done cmd moment begin t.1 new out start starts (hall_tries hub conn open_at (length acts) ss (hall_entries conn acts) was old cmd moment t.0 begin t.1 t.2 b) t.3

  pub hall_unmade : (cmd : HallCmd) (moment : ℕ) (begin : Passes) (why : Unmade) (new : Passes) → IsInHall begin → Unmakes hub (Hall cmd) moment begin why new → HallBroken cmd moment new
  hall_unmade cmd moment begin unmade.NoSuchRoom new b t = absurd t.3
  hall_unmade cmd moment begin unmade.NoMemory new b t = ⊎_elim
      (λ (n : OrdersAtLast hub (Hall cmd) moment begin (Err hub_faults.NoMemory) new). no_memory cmd moment n.1 new n.3.0 n.3.1 (hall_tries hub conn open_at (length acts) ss (hall_entries conn acts) was old cmd moment n.0 begin n.1 n.2 b))
      (λ (n : (room : Option (List ℕ)) × OrdersAtLast hub (Hall cmd) moment begin (Err (hub_faults.OwnLimit room)) new). own_limit cmd moment n.1.1 new n.1.3.1 n.1.3.2 (hall_tries hub conn open_at (length acts) ss (hall_entries conn acts) was old cmd moment n.1.0 begin n.1.1 n.1.2 b))
      t

  -- the entries of all acts but the last, and perhaps of that
  pub high_of : (cmd : HallCmd) (moment : ℕ) (a : Act) (more : List HallEntry) → hall_of conn a ≡ hall_entry conn moment cmd ∷ [] → (more ≡ []) ⊎ (more ≡ hall_entry conn moment cmd ∷ []) → IsPrefix (hall_entries conn acts ++ more) (hall_entries conn (acts ++ a ∷ []))
  high_of cmd moment a more is part =
      let all : hall_entries conn (acts ++ a ∷ []) ≡ hall_entries conn acts ++ hall_entry conn moment cmd ∷ [] = hall_more conn acts a ∙ ap (λ l. hall_entries conn acts ++ l) is in
      subst (IsPrefix (hall_entries conn acts ++ more)) (sym all) (⊎_elim
      (λ (none : more ≡ []). let r : IsPrefix (hall_entries conn acts ++ more) (hall_entries conn acts ++ hall_entry conn moment cmd ∷ []) = (hall_entry conn moment cmd ∷ [], append_assoc (hall_entries conn acts) more (hall_entry conn moment cmd ∷ []) ∙ ap (λ (l : List HallEntry). hall_entries conn acts ++ (l ++ hall_entry conn moment cmd ∷ [])) none) in r)
      (λ (one : more ≡ hall_entry conn moment cmd ∷ []). prefix_same _ _ (ap (λ (l : List HallEntry). hall_entries conn acts ++ l) one))
      part)

  -- ---- a Report and a Bad give no badge

  report_badge : (ending : Ending) (v : Option HallWhy) (h : HallRecord) (c : ℕ) → (out_by v h c (report ending)).badge ≡ None
  report_badge ending None h c = refl
  report_badge ending (Some why) h c = refl

  bad_badge : (v : Option HallWhy) (h : HallRecord) (c : ℕ) → (out_by v h c (Bad NoSuchRoom)).badge ≡ None
  bad_badge None h c = refl
  bad_badge (Some why) h c = refl

  pub report_keeps : (ending : Ending) (moment : ℕ) (badge : Option Badge) (start : Option Start) (new : Passes) → HallDone (report ending) moment badge start new → new.badge ≡ old.badge
  report_keeps ending moment badge start new d =
      let none : badge ≡ None = d.gave.badge_is ∙ ap (λ o. o.badge) d.gave.answer.is ∙ report_badge ending (verdict (hall_after (root_of hub) (commands d.gave.before)) (hall_entry conn moment (report ending))) (hall_after (root_of hub) (commands d.gave.before)) conn in
      d.badge_is ∙ ap (λ (x : Option Badge). badge_after old.badge x) none

  pub bad_keeps : (moment : ℕ) (badge : Option Badge) (start : Option Start) (new : Passes) → HallDone (Bad NoSuchRoom) moment badge start new → new.badge ≡ old.badge
  bad_keeps moment badge start new d =
      let none : badge ≡ None = d.gave.badge_is ∙ ap (λ o. o.badge) d.gave.answer.is ∙ bad_badge (verdict (hall_after (root_of hub) (commands d.gave.before)) (hall_entry conn moment (Bad NoSuchRoom))) (hall_after (root_of hub) (commands d.gave.before)) conn in
      d.badge_is ∙ ap (λ (x : Option Badge). badge_after old.badge x) none
