-- What hearing a text promises where it ends the session.
use Rattle.std.proofs.Common.{◌≡◌, ◌⊎◌, ℕ, Bool, true, false, List, [], ◌∷◌, ◌++◌, length, refl, sym, ap, ◌∙◌, subst, inl, inr, ⊎_elim, All, append-nil, Option, Some, None, Ok, Err, is_some, true≢false}
use Rattle.std.specs.Prelude.{IsSome}
use Rattle.std.proofs.lemmas.List.Elements.{All-weaker}
use Rattle.std.proofs.lemmas.Option.{none-some}
use Rattle.ps_lines.specs.declared.command.BadWhy.TheVariants.{NoSuchRoom}
use Rattle.ps_lines.specs.declared.command.Command.{Command}
use Rattle.ps_lines.specs.declared.command.HallCmd.{HallCmd}
use Rattle.ps_lines.specs.declared.command.HallCmd.TheVariants.{Bad}
use Rattle.ps_lines.specs.declared.order.Order.{Order}
use Rattle.ps_lines.specs.declared.order.Order.TheVariants.{Hall, Room}
use Rattle.rules_start.specs.declared.start.Start.{Start}
use Rattle.ps_room.specs.declared.outcome.Ending.{Ending}
use Rattle.ps_histlock.proofs.Lists.{prefix_self}
use Rattle.ps_outside.specs.Clocks.{IsNow, after_now}
use Rattle.ps_session.specs.Sessions.{Record, is_full, counted}
use Rattle.ps_session.specs.Routes.{taken, place_of, after_no_room}
use Rattle.ps_hub.specs.Hubs.{Hub}
use Rattle.ps_hub.specs.Passes.{RoomPass, AreOf, IsAsBefore}
use Rattle.ps_hub.specs.Calls.{NeedsBadge, Held, EntersAt, EnterFails, RoomFails, EntryFails, BeginsAt, BeginsNothing}
use Rattle.ps_hub.specs.declared.out.EnterFault.TheVariants as enter_faults
use Rattle.ps_hub.specs.declared.out.HubFault.TheVariants as hub_faults
use Rattle.ps_hub.specs.declared.out.HubOut.{HubOut}
use Rattle.ps_hub.specs.declared.passes.Passes.{Passes}
use Rattle.ps_hub.proofs.CallLemmas.{some_value}
use Rattle.ps_session.specs.declared.session.TakeFault.{TakeFault}
use Rattle.ps_session.specs.declared.session.TakeFault.TheVariants as take_faults
use Rattle.ps_serve.specs.declared.obey.Unmade.TheVariants as unmade
use Rattle.ps_serve.specs.Acts.{Made, in_hall, in_room, nowhere, Act, heard, order_in, IsAct, with_given, hall_entries}
use Rattle.ps_serve.specs.Sendings.{Sending}
use Rattle.ps_serve.specs.Sittings.{IsNowhere, AreApart, Sits, IsUpToDate, PlaceLeft}
use Rattle.ps_serve.specs.Steps.{Hours, StopsFull, StopsShort, Stops}
use Rattle.ps_serve.specs.Obeys.{OrdersAtLast, Unmakes, report, Follows, TellsNowhereIf, TellsNowhere, Obeys}
use Rattle.ps_serve.proofs.PassLists.{Grows, grows_self}
use Rattle.ps_serve.proofs.Tries.{enters, hall_start, amid_start}
use Rattle.ps_serve.proofs.Places.{IsPlace, IsBattle}
use Rattle.ps_serve.proofs.Sides.{IsFull, left_before}
use Rattle.ps_serve.proofs.Reached.{Breaks, left_next, left_here, full_next}
use Rattle.ps_serve.proofs.HallTurns.{hall_made, hall_unmade}
use Rattle.ps_serve.proofs.HallOrders.{in_hall_start, hall_breaks, begins_break, begins_none}
use Rattle.ps_serve.proofs.RoomOrders.{hall_from, break_hall, room_done, entry_breaks, no_memory_breaks, own_limit_breaks}
use Rattle.ps_serve.proofs.Obeyed.{at_room, none_found, no_badge_lost}

one_stop : (a b : TakeFault) → Some a ≡ Some b → a ≡ b
one_stop a b e = ap (stop_or a) e
  where
    stop_or : TakeFault → Option TakeFault → TakeFault
    stop_or a None = a
    stop_or a (Some x) = x

never_none : {P : Type 0} → (stop : TakeFault) → Some stop ≡ None → P
never_none stop e = absurd (true≢false (ap is_some e))

module _ (hub : Hub) (conn open_at : ℕ) (acts : List Act) (ss : List Sending) (r : Record) (old : Passes) (s : Sits hub conn open_at acts (length acts) ss r old) (bytes : List ℕ) (hours now : Hours) where
  -- memory ran out for the text
  pub short_at_once : now ≡ hours → AreOf hub old → StopsShort hub conn open_at acts ss bytes r hours now old
  short_at_once same are = record {
    last = [];
    last_is = inl refl;
    moments = [];
    of_order = inl refl;
    asked = same;
    agree = inl refl;
    left = left_here hub conn open_at acts ss r old s old record {
      are = are;
      conn_is = s.conn_is;
      made = hall_entries conn acts;
      low = prefix_self (hall_entries conn acts);
      high = prefix_self (hall_entries conn acts);
      hall_pass = s.hall_pass;
      hall = s.hall;
      kin = record { number = refl; seen = prefix_self s.hall_pass.pass.1.seen };
      hall_is = hall_start hub conn open_at acts ss r old s;
      rooms = All-weaker (λ (k : RoomPass). IsPlace hub conn ss acts None (IsUpToDate old) k × IsBattle hub conn ss k) (PlaceLeft false hub conn acts acts ss) (λ k p. left_before hub conn ss acts None (IsUpToDate old) k p.0) old.rooms.items (amid_start hub conn open_at acts ss r old None s).places;
      apart = s.apart;
      grows = grows_self old.rooms.items;
      named = s.named;
      last = [];
      all_is = sym (append-nil acts);
      badge_is = s.badge_is;
      gave = tt;
    };
  }

  module _ (moment : ℕ) (told : IsNow hours moment) (later : now ≡ after_now hours) (new : Passes) (are : AreOf hub new) where
    -- for what became of it
    short_in : (made : Made) → (act : IsAct r (heard bytes moment made)) → Breaks hub conn open_at acts ss r old s (acts ++ heard bytes moment made ∷ []) new → StopsShort hub conn open_at acts ss bytes r hours now new
    short_in made act t = record {
      last = heard bytes moment made ∷ [];
      last_is = inr (moment, made, refl);
      moments = moment ∷ [];
      of_order = inr (order_in made, act.0, refl);
      asked = (told, later);
      agree = inr refl;
      left = left_next hub conn open_at acts ss r old s (heard bytes moment made) new act t;
    }

    -- before anything became of it
    short_before : (order : Order) → taken r bytes ≡ Ok order → Breaks hub conn open_at acts ss r old s acts new → StopsShort hub conn open_at acts ss bytes r hours now new
    short_before order take t = record {
      last = [];
      last_is = inl refl;
      moments = moment ∷ [];
      of_order = inr (order, take, refl);
      asked = (told, later);
      agree = inl refl;
      left = left_here hub conn open_at acts ss r old s new t;
    }

    abbrev Stopping : TakeFault → Type 0
    Stopping stop = Stops stop hub conn open_at acts ss bytes r old hours now new

    short_is : (stop : TakeFault) → stop ≡ take_faults.NoMemory → StopsShort hub conn open_at acts ss bytes r hours now new → Stopping stop
    short_is stop e t = subst (λ (x : TakeFault). Stops x hub conn open_at acts ss bytes r old hours now new) (sym e) t

    -- ---- orders to the hall

    hall_stops : (stop : TakeFault) (cmd : HallCmd) (out : HubOut) (mid : Passes) → taken r bytes ≡ Ok (Hall cmd) → OrdersAtLast hub (Hall cmd) moment old (Ok out) mid
        → (start : Option Start) (ended : Option Ending) → out.start ≡ start → out.ended ≡ ended → Follows hub moment start ended mid (Some stop) new → Stopping stop
    hall_stops stop cmd out mid take t (Some start) ended e1 e2 f =
        let d = hall_made hub conn open_at acts ss s.hall_pass old cmd moment old mid out (Some start) e1 (in_hall_start hub conn open_at acts ss r old s) t in
        short_is stop f.0 (⊎_elim
        (λ (same : IsAsBefore mid new). short_in (in_hall cmd out.badge (Some start)) (take, tt) (begins_none hub conn open_at acts ss r old s bytes moment cmd out.badge start mid new take are d same))
        (λ (b : BeginsAt hub start BeginsNothing mid new). short_in (in_hall cmd out.badge (Some start)) (take, tt) (begins_break hub conn open_at acts ss r old s bytes moment cmd out.badge start mid new take are d b))
        f.1)
    hall_stops stop cmd out mid take t None (Some ending) e1 e2 f = absurd (none-some ending (sym t.3.ended ∙ e2))
    hall_stops stop cmd out mid take t None None e1 e2 f = never_none stop f.0

    -- ---- orders to a room

    room_stops : (stop : TakeFault) (id : List ℕ) (cmd : Command) (out : HubOut) (mid : Passes) → taken r bytes ≡ Ok (Room id cmd) → IsSome old.badge → OrdersAtLast hub (Room id cmd) moment old (Ok out) mid
        → (start : Option Start) (ended : Option Ending) → out.start ≡ start → out.ended ≡ ended → Follows hub moment start ended mid (Some stop) new → Stopping stop
    room_stops stop id cmd out mid take has t (Some start) ended e1 e2 f = absurd (none-some start (sym t.3.2.start ∙ e1))
    room_stops stop id cmd out mid take has t None None e1 e2 f = never_none stop f.0
    room_stops stop id cmd out mid take has t None (Some ending) e1 e2 f =
        let b = enters hub conn acts ss (IsUpToDate old) old id t.1 t.3.0 t.3.1 (at_room hub conn open_at acts ss r old s id cmd moment t.0 t.1 t.2) in
        let d = room_done hub conn open_at acts ss r old s bytes moment id cmd (Some ending) t.3.0 mid out e2 b t.3.2 in
        let broke = hall_unmade hub conn open_at acts ss s.hall_pass mid (report ending) moment mid f.1.0 new (hall_from hub conn open_at acts ss r old s (heard bytes moment (in_room t.3.2.goes.before.number id cmd t.3.2.badge (Some ending))) mid d) f.1.1 in
        short_is stop f.0 (short_in (in_room t.3.2.goes.before.number id cmd t.3.2.badge (Some ending)) (take, sym (b.badge ∙ s.badge_is) ∙ t.3.2.badge_is)
        (break_hall hub conn open_at acts ss r old s (heard bytes moment (in_room t.3.2.goes.before.number id cmd t.3.2.badge (Some ending))) (report ending) moment mid new has are refl refl d broke))

    -- no such room, and the hall takes no text more, or memory ran out for the Bad
    nowhere_stops : (stop : TakeFault) (id : List ℕ) (cmd : Command) (mid : Passes) → taken r bytes ≡ Ok (Room id cmd) → IsSome old.badge → OrdersAtLast hub (Room id cmd) moment old (Err hub_faults.NoSuchRoom) mid
        → (full : Bool) → is_full None (counted (Some id) r) ≡ full → TellsNowhereIf full hub moment mid (Some stop) new → Stopping stop
    nowhere_stops stop id cmd mid take has t true e f =
        let d = none_found hub conn open_at acts ss r old s bytes moment id cmd mid t in
        let hall : new.hall ≡ old.hall = ap (λ (p : Passes). p.hall) f.1 ∙ d.reach.hall in
        let badge : new.badge ≡ old.badge = ap (λ (p : Passes). p.badge) f.1 ∙ d.reach.badge_is in
        let full : All (IsFull hub conn ss acts (IsUpToDate old)) new.rooms.items = subst (λ (p : Passes). All (IsFull hub conn ss acts (IsUpToDate old)) p.rooms.items) (sym f.1) d.full in
        let t : StopsFull hub conn open_at acts ss bytes r old hours now new = record {
          id = id;
          cmd = cmd;
          taken_is = take;
          full = e;
          place = d.asked;
          unfound = subst (λ (p : Passes). IsNowhere hub conn acts d.asked id p.rooms.items) (sym f.1) (d.reach.gave s.hall_pass);
          moment = moment;
          asked = (told, later);
          badge_is = badge;
          up = λ u. record { hall = λ h is. u.hall h (sym hall ∙ is); rooms = λ i x lt some. (full i x lt).1 u some };
          sits = full_next hub conn open_at acts ss r old s new are (ap (λ (p : Passes). p.conn) f.1 ∙ d.reach.conn_is) hall
              (λ i x lt. (full i x lt).0)
              (subst (λ (p : Passes). AreApart p.rooms.items) (sym f.1) d.reach.rooms.apart)
              (subst (λ (p : Passes). Grows old.rooms.items p.rooms.items) (sym f.1) d.reach.grows)
              (λ i x lt some. subst IsSome (sym badge) has)
              record { number = refl; seen = prefix_self s.hall_pass.pass.1.seen };
        } in
        subst (λ (x : TakeFault). Stops x hub conn open_at acts ss bytes r old hours now new) (sym (one_stop stop (take_faults.Limit None) f.0)) (inr (refl, t))
    nowhere_stops stop id cmd mid take has t false e f =
        let d = none_found hub conn open_at acts ss r old s bytes moment id cmd mid t in
        let broke = hall_unmade hub conn open_at acts ss s.hall_pass mid (Bad NoSuchRoom) moment mid f.1.0 new (hall_from hub conn open_at acts ss r old s (heard bytes moment (nowhere d.asked id cmd)) mid d.reach) f.1.1 in
        short_is stop f.0 (short_in (nowhere d.asked id cmd) (take, e) (break_hall hub conn open_at acts ss r old s (heard bytes moment (nowhere d.asked id cmd)) (Bad NoSuchRoom) moment mid new has are refl (no_badge_lost hub conn open_at acts ss r old s id (after_no_room (counted (Some id) r)) refl) d.reach broke))

    -- no entry
    room_fails : (id : List ℕ) (cmd : Command) → taken r bytes ≡ Ok (Room id cmd) → IsSome old.badge → Unmakes hub (Room id cmd) moment old unmade.NoMemory new → StopsShort hub conn open_at acts ss bytes r hours now new
    room_fails id cmd take has u =
        let badge = some_value old.badge has in
        let act : r.badge ≡ Some badge.0 = sym s.badge_is ∙ badge.1 in
        ⊎_elim
        (λ (t : OrdersAtLast hub (Room id cmd) moment old (Err hub_faults.NoMemory) new). ⊎_elim
        (λ (f : EnterFails hub id t.1 enter_faults.NoMemory new). short_before (Room id cmd) take (entry_breaks hub conn open_at acts ss r old s id t.1 new has are (at_room hub conn open_at acts ss r old s id cmd moment t.0 t.1 t.2) f))
        (λ (f : (here : Passes) × EntersAt hub id (Held id) t.1 here × RoomFails hub id cmd moment here hub_faults.NoMemory new).
        let b = no_memory_breaks hub conn open_at acts ss r old s bytes moment id cmd badge.0 f.0 new badge.1 are (enters hub conn acts ss (IsUpToDate old) old id t.1 f.0 f.1 (at_room hub conn open_at acts ss r old s id cmd moment t.0 t.1 t.2)) f.2 in
        short_in (in_room b.number id cmd badge.0 None) (take, act) b.breaks)
        t.3)
        (λ (o : (room : Option (List ℕ)) × OrdersAtLast hub (Room id cmd) moment old (Err (hub_faults.OwnLimit room)) new). ⊎_elim
        (λ (f : EntryFails hub id cmd o.1.1 (hub_faults.OwnLimit o.0) new). absurd f)
        (λ (f : (here : Passes) × EntersAt hub id (Held id) o.1.1 here × RoomFails hub id cmd moment here (hub_faults.OwnLimit o.0) new).
        let b = own_limit_breaks hub conn open_at acts ss r old s bytes moment id cmd badge.0 f.0 new o.0 badge.1 are (enters hub conn acts ss (IsUpToDate old) old id o.1.1 f.0 f.1 (at_room hub conn open_at acts ss r old s id cmd moment o.1.0 o.1.1 o.1.2)) f.2 in
        short_in (in_room b.number id cmd badge.0 None) (take, act) b.breaks)
        o.1.3)
        u

    -- ---- all of them

    pub stopped_of : (after : Record) (stop : TakeFault) (order : Order) → taken r bytes ≡ Ok order → NeedsBadge order old → Obeys hub order moment (counted (place_of order) r) old (Some stop) after new → Stops stop hub conn open_at acts ss bytes r old hours now new
    stopped_of after stop (Hall cmd) take needs o = ⊎_elim
        (λ (d : (out : HubOut) × (mid : Passes) × OrdersAtLast hub (Hall cmd) moment old (Ok out) mid × (after ≡ with_given out.badge (counted None r)) × Follows hub moment out.start out.ended mid (Some stop) new). hall_stops stop cmd d.0 d.1 take d.2 d.0.start d.0.ended refl refl d.4)
        (λ (rest : ((mid : Passes) × OrdersAtLast hub (Hall cmd) moment old (Err hub_faults.NoSuchRoom) mid × (after ≡ after_no_room (counted None r)) × TellsNowhere hub moment (counted None r) mid (Some stop) new) ⊎ ((Some stop ≡ Some take_faults.NoMemory) × Unmakes hub (Hall cmd) moment old unmade.NoMemory new)). ⊎_elim
        (λ (d : (mid : Passes) × OrdersAtLast hub (Hall cmd) moment old (Err hub_faults.NoSuchRoom) mid × (after ≡ after_no_room (counted None r)) × TellsNowhere hub moment (counted None r) mid (Some stop) new). absurd d.1.3)
        (λ (d : (Some stop ≡ Some take_faults.NoMemory) × Unmakes hub (Hall cmd) moment old unmade.NoMemory new).
        short_is stop (one_stop stop take_faults.NoMemory d.0) (short_in (in_hall cmd None None) (take, tt) (hall_breaks hub conn open_at acts ss r old s bytes moment cmd new are
        (hall_unmade hub conn open_at acts ss s.hall_pass old cmd moment old unmade.NoMemory new (in_hall_start hub conn open_at acts ss r old s) d.1))))
        rest)
        o
    stopped_of after stop (Room id cmd) take needs o = ⊎_elim
        (λ (d : (out : HubOut) × (mid : Passes) × OrdersAtLast hub (Room id cmd) moment old (Ok out) mid × (after ≡ with_given out.badge (counted (Some id) r)) × Follows hub moment out.start out.ended mid (Some stop) new). room_stops stop id cmd d.0 d.1 take needs d.2 d.0.start d.0.ended refl refl d.4)
        (λ (rest : ((mid : Passes) × OrdersAtLast hub (Room id cmd) moment old (Err hub_faults.NoSuchRoom) mid × (after ≡ after_no_room (counted (Some id) r)) × TellsNowhere hub moment (counted (Some id) r) mid (Some stop) new) ⊎ ((Some stop ≡ Some take_faults.NoMemory) × Unmakes hub (Room id cmd) moment old unmade.NoMemory new)). ⊎_elim
        (λ (d : (mid : Passes) × OrdersAtLast hub (Room id cmd) moment old (Err hub_faults.NoSuchRoom) mid × (after ≡ after_no_room (counted (Some id) r)) × TellsNowhere hub moment (counted (Some id) r) mid (Some stop) new). nowhere_stops stop id cmd d.0 take needs d.1 (is_full None (counted (Some id) r)) refl d.3)
        (λ (d : (Some stop ≡ Some take_faults.NoMemory) × Unmakes hub (Room id cmd) moment old unmade.NoMemory new). short_is stop (one_stop stop take_faults.NoMemory d.0) (room_fails id cmd take needs d.1))
        rest)
        o
