-- What hearing a text promises, from what its steps did.
use Rattle.std.proofs.Common.{◌≡◌, ◌⊎◌, ℕ, Bool, true, false, if◌then◌else◌, List, length, refl, sym, ap, ◌∙◌, subst, ⊎_elim, Option, Some, None, Ok, Err, is_some, true≢false}
use Rattle.std.specs.Prelude.{IsSome}
use Rattle.std.proofs.lemmas.Option.{none-some}
use Rattle.ps_base.specs.declared.badge.Badge.{Badge}
use Rattle.ps_lines.specs.declared.command.BadWhy.TheVariants.{NoSuchRoom}
use Rattle.ps_lines.specs.declared.command.Command.{Command}
use Rattle.ps_lines.specs.declared.command.HallCmd.{HallCmd}
use Rattle.ps_lines.specs.declared.command.HallCmd.TheVariants.{Bad}
use Rattle.ps_lines.specs.declared.order.Order.{Order}
use Rattle.ps_lines.specs.declared.order.Order.TheVariants.{Hall, Room}
use Rattle.rules_start.specs.declared.start.Start.{Start}
use Rattle.ps_room.specs.declared.outcome.Ending.{Ending}
use Rattle.ps_outside.specs.Clocks.{IsNow, after_now}
use Rattle.ps_session.specs.Sessions.{Record, is_full, counted}
use Rattle.ps_session.specs.Routes.{taken, place_of, after_no_room}
use Rattle.ps_hub.specs.Hubs.{Hub}
use Rattle.ps_hub.specs.Passes.{AreOf}
use Rattle.ps_hub.specs.Calls.{NeedsBadge, Held, EntersAt, EnterFails, RoomFails}
use Rattle.ps_hub.specs.declared.out.EnterFault.TheVariants as enter_faults
use Rattle.ps_hub.specs.declared.out.HubFault.TheVariants as hub_faults
use Rattle.ps_hub.specs.declared.out.HubOut.{HubOut}
use Rattle.ps_hub.specs.declared.passes.Passes.{Passes}
use Rattle.ps_session.specs.declared.session.TakeFault.{TakeFault}
use Rattle.ps_session.specs.declared.session.TakeFault.TheVariants as take_faults
use Rattle.ps_serve.specs.declared.obey.Unmade.TheVariants as unmade
use Rattle.ps_serve.specs.Acts.{Made, in_hall, in_room, nowhere, Act, heard, with_given}
use Rattle.ps_serve.specs.Sendings.{Sending}
use Rattle.ps_serve.specs.Sittings.{Sits, IsUpToDate}
use Rattle.ps_serve.specs.Steps.{Hours, Hears}
use Rattle.ps_serve.specs.Obeys.{TriesInVain, OrdersAtLast, Unmakes, report, Follows, TellsNowhereIf, TellsNowhere, Obeys}
use Rattle.ps_serve.proofs.Tries.{between_start, room_tries, enters}
use Rattle.ps_serve.proofs.Reached.{Reaches, sits_next}
use Rattle.ps_serve.proofs.HallTurns.{hall_made, report_keeps, bad_keeps}
use Rattle.ps_serve.proofs.HallOrders.{in_hall_start, hall_reaches, begins_reach}
use Rattle.ps_serve.proofs.RoomOrders.{AtRoom, hall_from, reach_quiet, reach_hall, room_done, FindsNone, finds_none}

-- no answer is one
not_stop : {P : Type 0} → (stop : TakeFault) → None ≡ Some stop → P
not_stop stop e = absurd (true≢false (sym (ap is_some e)))

-- an uncounted text leaves the badge
badge_if : (b : Bool) (r with_one : Record) → with_one.badge ≡ r.badge → (if b then r else with_one).badge ≡ r.badge
badge_if true r with_one e = refl
badge_if false r with_one e = e

module _ (hub : Hub) (conn open_at : ℕ) (acts : List Act) (ss : List Sending) (r : Record) (old : Passes) (s : Sits hub conn open_at acts (length acts) ss r old) where
  -- where the text became an act: the act, and what the session is then
  pub record Goes (bytes : List ℕ) (moment : ℕ) (after : Record) (new : Passes) : Type 0 where
    pub made : Made
    pub reach : Reaches hub conn open_at acts ss r old s (heard bytes moment made) after new

  -- ---- the way to an order's own entry

  pub at_room : (id : List ℕ) (cmd : Command) (moment tries : ℕ) (mid : Passes) → TriesInVain hub (Room id cmd) moment tries old mid → AtRoom hub conn open_at acts ss r old s id mid
  at_room id cmd moment tries mid t = room_tries hub conn acts ss (IsUpToDate old) old id cmd moment tries old mid t (between_start hub conn open_at acts ss r old id s)

  pub none_found : (bytes : List ℕ) (moment : ℕ) (id : List ℕ) (cmd : Command) (mid : Passes) → OrdersAtLast hub (Room id cmd) moment old (Err hub_faults.NoSuchRoom) mid → FindsNone hub conn open_at acts ss r old s bytes moment id cmd mid
  none_found bytes moment id cmd mid t = finds_none hub conn open_at acts ss r old s bytes moment id cmd t.1 mid (at_room id cmd moment t.0 t.1 t.2)
      (⊎_elim
      (λ (n : EnterFails hub id t.1 enter_faults.NoSuchRoom mid). n)
      (λ (n : (here : Passes) × EntersAt hub id (Held id) t.1 here × RoomFails hub id cmd moment here hub_faults.NoSuchRoom mid). absurd n.2)
      t.3)

  pub no_badge_lost : (id : List ℕ) (after : Record) → after ≡ after_no_room (counted (Some id) r) → after.badge ≡ r.badge
  no_badge_lost id after e = ap (λ (x : Record). x.badge) e ∙ badge_if (is_full None (counted (Some id) r)) (counted (Some id) r) _ refl

  -- ---- a text that became an act

  module _ (bytes : List ℕ) (moment : ℕ) (after : Record) (new : Passes) (are : AreOf hub new) where
    hall_follows : (cmd : HallCmd) (out : HubOut) (mid : Passes) → taken r bytes ≡ Ok (Hall cmd) → OrdersAtLast hub (Hall cmd) moment old (Ok out) mid → after ≡ with_given out.badge (counted None r)
        → (start : Option Start) (ended : Option Ending) → out.start ≡ start → out.ended ≡ ended → Follows hub moment start ended mid None new → Goes bytes moment after new
    hall_follows cmd out mid take t session (Some start) ended e1 e2 f = record {
      made = in_hall cmd out.badge (Some start);
      reach = begins_reach hub conn open_at acts ss r old s bytes moment cmd out.badge start mid new take are (hall_made hub conn open_at acts ss s.hall_pass old cmd moment old mid out (Some start) e1 (in_hall_start hub conn open_at acts ss r old s) t) after session f;
    }
    hall_follows cmd out mid take t session None (Some ending) e1 e2 f = absurd (none-some ending (sym t.3.ended ∙ e2))
    hall_follows cmd out mid take t session None None e1 e2 f = record {
      made = in_hall cmd out.badge None;
      reach = subst (Reaches hub conn open_at acts ss r old s (heard bytes moment (in_hall cmd out.badge None)) after) (sym f.1)
          (hall_reaches hub conn open_at acts ss r old s bytes moment cmd out.badge after mid take (subst (AreOf hub) f.1 are) session (hall_made hub conn open_at acts ss s.hall_pass old cmd moment old mid out None e1 (in_hall_start hub conn open_at acts ss r old s) t));
    }

    room_follows : (id : List ℕ) (cmd : Command) (out : HubOut) (mid : Passes) → taken r bytes ≡ Ok (Room id cmd) → IsSome old.badge → OrdersAtLast hub (Room id cmd) moment old (Ok out) mid → after ≡ with_given out.badge (counted (Some id) r)
        → (start : Option Start) (ended : Option Ending) → out.start ≡ start → out.ended ≡ ended → Follows hub moment start ended mid None new → Goes bytes moment after new
    room_follows id cmd out mid take has t session (Some start) ended e1 e2 f = absurd (none-some start (sym t.3.2.start ∙ e1))
    room_follows id cmd out mid take has t session None None e1 e2 f =
        let b = enters hub conn acts ss (IsUpToDate old) old id t.1 t.3.0 t.3.1 (at_room id cmd moment t.0 t.1 t.2) in
        let d = room_done hub conn open_at acts ss r old s bytes moment id cmd None t.3.0 mid out e2 b t.3.2 in
        let counts : after ≡ counted (Some id) r = session ∙ ap (λ (x : Option Badge). with_given x (counted (Some id) r)) t.3.2.no_badge in
        record {
          made = in_room t.3.2.goes.before.number id cmd t.3.2.badge None;
          reach = subst (Reaches hub conn open_at acts ss r old s (heard bytes moment (in_room t.3.2.goes.before.number id cmd t.3.2.badge None)) after) (sym f.1)
              (reach_quiet hub conn open_at acts ss r old s (heard bytes moment (in_room t.3.2.goes.before.number id cmd t.3.2.badge None)) after mid has (take, sym (b.badge ∙ s.badge_is) ∙ t.3.2.badge_is) (subst (AreOf hub) f.1 are) refl counts (ap (λ (x : Record). x.badge) counts) d);
        }
    room_follows id cmd out mid take has t session None (Some ending) e1 e2 f =
        let b = enters hub conn acts ss (IsUpToDate old) old id t.1 t.3.0 t.3.1 (at_room id cmd moment t.0 t.1 t.2) in
        let d = room_done hub conn open_at acts ss r old s bytes moment id cmd (Some ending) t.3.0 mid out e2 b t.3.2 in
        let counts : after ≡ counted (Some id) r = session ∙ ap (λ (x : Option Badge). with_given x (counted (Some id) r)) t.3.2.no_badge in
        let told = hall_made hub conn open_at acts ss s.hall_pass mid (report ending) moment mid new f.0 f.0.start refl (hall_from hub conn open_at acts ss r old s (heard bytes moment (in_room t.3.2.goes.before.number id cmd t.3.2.badge (Some ending))) mid d) f.1 in
        record {
          made = in_room t.3.2.goes.before.number id cmd t.3.2.badge (Some ending);
          reach = reach_hall hub conn open_at acts ss r old s (heard bytes moment (in_room t.3.2.goes.before.number id cmd t.3.2.badge (Some ending))) (report ending) moment f.0.badge f.0.start after mid new has (take, sym (b.badge ∙ s.badge_is) ∙ t.3.2.badge_is) are refl counts (ap (λ (x : Record). x.badge) counts) d
              (report_keeps hub conn open_at acts ss s.hall_pass mid ending moment f.0.badge f.0.start new told) told;
        }

    nowhere_follows : (id : List ℕ) (cmd : Command) (mid : Passes) → taken r bytes ≡ Ok (Room id cmd) → IsSome old.badge → OrdersAtLast hub (Room id cmd) moment old (Err hub_faults.NoSuchRoom) mid → after ≡ after_no_room (counted (Some id) r)
        → (full : Bool) → is_full None (counted (Some id) r) ≡ full → TellsNowhereIf full hub moment mid None new → Goes bytes moment after new
    nowhere_follows id cmd mid take has t session true e f = not_stop (take_faults.Limit None) f.0
    nowhere_follows id cmd mid take has t session false e f =
        let d = none_found bytes moment id cmd mid t in
        let told = hall_made hub conn open_at acts ss s.hall_pass mid (Bad NoSuchRoom) moment mid new f.0 f.0.start refl (hall_from hub conn open_at acts ss r old s (heard bytes moment (nowhere d.asked id cmd)) mid d.reach) f.1 in
        record {
          made = nowhere d.asked id cmd;
          reach = reach_hall hub conn open_at acts ss r old s (heard bytes moment (nowhere d.asked id cmd)) (Bad NoSuchRoom) moment f.0.badge f.0.start after mid new has (take, e) are refl session (no_badge_lost id after session) d.reach
              (bad_keeps hub conn open_at acts ss s.hall_pass mid moment f.0.badge f.0.start new told) told;
        }

    goes : (order : Order) → taken r bytes ≡ Ok order → NeedsBadge order old → Obeys hub order moment (counted (place_of order) r) old None after new → Goes bytes moment after new
    goes (Hall cmd) take needs o = ⊎_elim
        (λ (d : (out : HubOut) × (mid : Passes) × OrdersAtLast hub (Hall cmd) moment old (Ok out) mid × (after ≡ with_given out.badge (counted None r)) × Follows hub moment out.start out.ended mid None new). hall_follows cmd d.0 d.1 take d.2 d.3 d.0.start d.0.ended refl refl d.4)
        (λ (rest : ((mid : Passes) × OrdersAtLast hub (Hall cmd) moment old (Err hub_faults.NoSuchRoom) mid × (after ≡ after_no_room (counted None r)) × TellsNowhere hub moment (counted None r) mid None new) ⊎ ((None ≡ Some take_faults.NoMemory) × Unmakes hub (Hall cmd) moment old unmade.NoMemory new)). ⊎_elim
        (λ (d : (mid : Passes) × OrdersAtLast hub (Hall cmd) moment old (Err hub_faults.NoSuchRoom) mid × (after ≡ after_no_room (counted None r)) × TellsNowhere hub moment (counted None r) mid None new). absurd d.1.3)
        (λ (d : (None ≡ Some take_faults.NoMemory) × Unmakes hub (Hall cmd) moment old unmade.NoMemory new). not_stop take_faults.NoMemory d.0)
        rest)
        o
    goes (Room id cmd) take needs o = ⊎_elim
        (λ (d : (out : HubOut) × (mid : Passes) × OrdersAtLast hub (Room id cmd) moment old (Ok out) mid × (after ≡ with_given out.badge (counted (Some id) r)) × Follows hub moment out.start out.ended mid None new). room_follows id cmd d.0 d.1 take needs d.2 d.3 d.0.start d.0.ended refl refl d.4)
        (λ (rest : ((mid : Passes) × OrdersAtLast hub (Room id cmd) moment old (Err hub_faults.NoSuchRoom) mid × (after ≡ after_no_room (counted (Some id) r)) × TellsNowhere hub moment (counted (Some id) r) mid None new) ⊎ ((None ≡ Some take_faults.NoMemory) × Unmakes hub (Room id cmd) moment old unmade.NoMemory new)). ⊎_elim
        (λ (d : (mid : Passes) × OrdersAtLast hub (Room id cmd) moment old (Err hub_faults.NoSuchRoom) mid × (after ≡ after_no_room (counted (Some id) r)) × TellsNowhere hub moment (counted (Some id) r) mid None new). nowhere_follows id cmd d.0 take needs d.1 d.2 (is_full None (counted (Some id) r)) refl d.3)
        (λ (d : (None ≡ Some take_faults.NoMemory) × Unmakes hub (Room id cmd) moment old unmade.NoMemory new). not_stop take_faults.NoMemory d.0)
        rest)
        o

    pub heard_of : (hours now : Hours) → IsNow hours moment → now ≡ after_now hours → (order : Order) → taken r bytes ≡ Ok order → NeedsBadge order old → Obeys hub order moment (counted (place_of order) r) old None after new → Hears hub conn open_at acts ss bytes hours now after new
    heard_of hours now told later order take needs o =
        let g = goes order take needs o in
        record { moment = moment; made = g.made; asked = (told, later); sits = sits_next hub conn open_at acts ss r old s (heard bytes moment g.made) after new g.reach }
