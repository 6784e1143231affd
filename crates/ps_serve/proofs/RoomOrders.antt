-- A text that became an order to a room.
use Rattle.std.proofs.Common.{◌≡◌, ◌≢◌, ◌⊎◌, ℕ, ◌+◌, ◌≤◌, false, List, [], ◌∷◌, ◌++◌, length, refl, sym, ap, ◌∙◌, subst, inl, inr, ⊎_elim, arith, All, Option, Some, None, append-nil, append_assoc, length-append}
use Rattle.std.specs.Prelude.{IsSome}
use Rattle.std.proofs.lemmas.List.{length-map}
use Rattle.std.proofs.lemmas.List.Elements.{All-nil, All-weaker}
use Rattle.std.proofs.lemmas.Option.{same_Some, none-some}
use mathlib.Core.List.{IsPrefix}
use Rattle.ps_base.specs.declared.badge.Badge.{Badge}
use Rattle.ps_lines.specs.declared.command.Command.{Command}
use Rattle.ps_lines.specs.declared.command.HallCmd.{HallCmd}
use Rattle.rules_start.specs.declared.start.Start.{Start}
use Rattle.ps_room.specs.declared.outcome.Ending.{Ending}
use Rattle.ps_histlock.specs.declared.view.Entry.{Entry}
use Rattle.ps_histlock.specs.Histories.{commands, entry, entries_of}
use Rattle.ps_histlock.specs.Turns.{turned, Turns}
use Rattle.ps_histlock.proofs.Lists.{prefix_self}
use Rattle.server_places.specs.declared.command.RoomCmd.{RoomCmd}
use Rattle.server_places.specs.declared.command.RoomCmd.TheVariants.{Play}
use Rattle.server_places.specs.Sites.{Tells}
use Rattle.server_places.specs.Rooms.{Answers}
use Rattle.ps_session.specs.Sessions.{Record}
use Rattle.ps_hub.specs.Hubs.{Hub, site_of}
use Rattle.ps_hub.specs.Names.{Names}
use Rattle.ps_hub.specs.Passes.{HallPass, RoomPass, AreOf, IsAsBefore}
use Rattle.ps_hub.specs.Calls.{hall_entry, room_entry, NamesNone, EntersAt, NotHeld, Unheld, Lacks, EnterFails, RoomOrdered, RoomGoes, RoomFails}
use Rattle.ps_hub.specs.declared.out.EnterFault.TheVariants as enter_faults
use Rattle.ps_hub.specs.declared.out.HubFault.TheVariants as hub_faults
use Rattle.ps_hub.specs.declared.out.HubOut.{HubOut}
use Rattle.ps_hub.specs.declared.passes.Passes.{Passes}
use Rattle.ps_hub.proofs.NameLemmas.{names_none as no_name}
use Rattle.ps_room.specs.Openings.{first_battle}
use Rattle.ps_serve.specs.Acts.{Act, heard, in_room, nowhere, after_act, IsAct, hall_of, hall_entries, room_of, room_cmds, since, begun_by}
use Rattle.ps_serve.specs.Sendings.{Sending}
use Rattle.ps_serve.specs.Sittings.{RoomSits, RoomGave, IsUnfound, IsOthers, Gave, IsBegun, Sits, PlaceLeft, IsUpToDate, AreApart, IsCaughtUp}
use Rattle.ps_serve.proofs.Prefixes.{prefix_front, prefix_same}
use Rattle.ps_serve.proofs.Names.{one_place}
use Rattle.ps_serve.proofs.PassLists.{IsBeside, new_all, has_new, new_apart, IsKin, kin_self, Grows, grows_trans, grows_beside}
use Rattle.ps_serve.proofs.Actions.{hall_more, cmds_more, cmds_here, joins_here, quiet_room, quiet_nowhere, quiet_asked}
use Rattle.ps_serve.proofs.Moves.{Moves, stays, turns_move, entered_moves, entered_seen, turned_seen, one_turn}
use Rattle.ps_serve.proofs.Places.{IsMoved, kin_moved, told_moved, IsPlace, IsBattle, HasPlace, AreSitting, sitting_at, sitting_on, place_on}
use Rattle.ps_serve.proofs.Halls.{IsHallKin, hall_as}
use Rattle.ps_serve.proofs.Tries.{Between, hall_start, InHall, beside_of, place_was}
use Rattle.ps_serve.proofs.Sides.{held_on, place_plays, place_asked, IsFull, place_full, place_full_asked, place_left, left_whole, left_before, left_moved}
use Rattle.ps_serve.proofs.Reached.{Reaches, Breaks}
use Rattle.ps_serve.proofs.HallTurns.{HallDone, HallBroken, high_of}

at_least_one : {A : Type 0} (xs : List A) → xs ≢ [] → 1 ≤ length xs
at_least_one [] ne = absurd (ne refl)
at_least_one (x ∷ xs) ne = omega arith

one_badge : (a b : Badge) → Some a ≡ Some b → a ≡ b
one_badge a b e = ap (badge_or a) e
  where
    badge_or : Badge → Option Badge → Badge
    badge_or a None = a
    badge_or a (Some b) = b

module _ (hub : Hub) (conn open_at : ℕ) (acts : List Act) (ss : List Sending) (r : Record) (old : Passes) (s : Sits hub conn open_at acts (length acts) ss r old) where
  -- What the rooms are after an act, with the hall as it was.
  pub record RoomsReach (a : Act) (new : Passes) : Type 0 where
    pub conn_is : new.conn ≡ conn
    pub badge_is : new.badge ≡ old.badge
    pub hall : new.hall ≡ old.hall
    pub rooms : AreSitting hub conn ss (acts ++ a ∷ []) (length acts) new.rooms.items
    pub grows : Grows old.rooms.items new.rooms.items
    pub gave : (h : HallPass) → Gave hub conn acts a h new.rooms.items
    pub begins_none : begun_by a ≡ []

  named_all : IsSome old.badge → (new : Passes) → new.badge ≡ old.badge → All (λ (k : RoomPass). IsSome k.id → IsSome new.badge) new.rooms.items
  named_all has new e = λ i d lt some. subst IsSome (sym e) has

  kin_here : IsHallKin s.hall_pass s.hall_pass
  kin_here = record { number = refl; seen = prefix_self s.hall_pass.pass.1.seen }

  -- the hall from there on
  pub hall_from : (a : Act) (mid : Passes) → RoomsReach a mid → InHall hub conn open_at (length acts) ss (hall_entries conn acts) s.hall_pass mid mid
  hall_from a mid t = record {
    conn_is = t.conn_is;
    badge = refl;
    rooms = refl;
    hall_pass = s.hall_pass;
    hall = t.hall ∙ s.hall;
    kin = record { number = refl; seen = prefix_self s.hall_pass.pass.1.seen };
    is = hall_start hub conn open_at acts ss r old s;
  }

  -- an act without an entry in the hall
  pub reach_quiet : (a : Act) (after : Record) (new : Passes) → IsSome old.badge → IsAct r a → AreOf hub new → hall_of conn a ≡ [] → after ≡ after_act r a → after.badge ≡ r.badge → RoomsReach a new → Reaches hub conn open_at acts ss r old s a after new
  reach_quiet a after new has act are none session badge t = record {
    act = act;
    are = are;
    conn_is = t.conn_is;
    session_is = session;
    badge_is = t.badge_is ∙ s.badge_is ∙ sym badge;
    hall_pass = s.hall_pass;
    hall = t.hall ∙ s.hall;
    kin = kin_here;
    hall_is = hall_as hub conn open_at (hall_entries conn acts) (hall_entries conn acts ++ hall_of conn a) (length acts) ss s.hall_pass (sym (append-nil (hall_entries conn acts)) ∙ ap (λ l. hall_entries conn acts ++ l) (sym none)) (hall_start hub conn open_at acts ss r old s);
    rooms = t.rooms;
    grows = t.grows;
    starts = subst (All (IsBegun new.rooms.items)) (sym t.begins_none) (All-nil (IsBegun new.rooms.items));
    named = named_all has new t.badge_is;
    gave = t.gave s.hall_pass;
  }

  -- an act with one
  pub reach_hall : (a : Act) (cmd : HallCmd) (moment : ℕ) (badge : Option Badge) (start : Option Start) (after : Record) (mid new : Passes) → IsSome old.badge → IsAct r a → AreOf hub new → hall_of conn a ≡ hall_entry conn moment cmd ∷ [] → after ≡ after_act r a → after.badge ≡ r.badge
      → RoomsReach a mid → new.badge ≡ mid.badge → HallDone hub conn open_at acts ss s.hall_pass mid cmd moment badge start new → Reaches hub conn open_at acts ss r old s a after new
  reach_hall a cmd moment badge start after mid new has act are is session same t keeps d = record {
    act = act;
    are = are;
    conn_is = d.conn_is;
    session_is = session;
    badge_is = keeps ∙ t.badge_is ∙ s.badge_is ∙ sym same;
    hall_pass = d.hall_pass;
    hall = d.hall;
    kin = d.kin;
    hall_is = hall_as hub conn open_at (hall_entries conn acts ++ hall_entry conn moment cmd ∷ []) (hall_entries conn acts ++ hall_of conn a) (length acts) ss d.hall_pass (ap (λ l. hall_entries conn acts ++ l) (sym is)) d.is;
    rooms = subst (AreSitting hub conn ss (acts ++ a ∷ []) (length acts)) (sym d.rooms) t.rooms;
    grows = subst (Grows old.rooms.items) (sym d.rooms) t.grows;
    starts = subst (All (IsBegun new.rooms.items)) (sym t.begins_none) (All-nil (IsBegun new.rooms.items));
    named = named_all has new (keeps ∙ t.badge_is);
    gave = subst (λ (l : List RoomPass). Gave hub conn acts a d.hall_pass l) (sym d.rooms) (t.gave d.hall_pass);
  }

  -- memory ran out for it
  pub break_hall : (a : Act) (cmd : HallCmd) (moment : ℕ) (mid new : Passes) → IsSome old.badge → AreOf hub new → hall_of conn a ≡ hall_entry conn moment cmd ∷ [] → (after_act r a).badge ≡ r.badge → RoomsReach a mid → HallBroken hub conn open_at acts ss s.hall_pass mid cmd moment new → Breaks hub conn open_at acts ss r old s (acts ++ a ∷ []) new
  break_hall a cmd moment mid new has are is same t d = record {
    are = are;
    conn_is = d.conn_is;
    made = hall_entries conn acts ++ d.more;
    low = prefix_front (hall_entries conn acts) d.more;
    high = high_of hub conn open_at acts ss s.hall_pass mid cmd moment a d.more is d.part;
    hall_pass = d.hall_pass;
    hall = d.hall;
    kin = d.kin;
    hall_is = d.is;
    rooms = subst (All (PlaceLeft false hub conn acts (acts ++ a ∷ []) ss)) (sym d.rooms) (All-weaker (HasPlace hub conn ss (acts ++ a ∷ []) (length acts)) (PlaceLeft false hub conn acts (acts ++ a ∷ []) ss) (λ k p. left_whole hub conn ss acts a k p) mid.rooms.items t.rooms.places);
    apart = subst AreApart (sym d.rooms) t.rooms.apart;
    grows = subst (Grows old.rooms.items) (sym d.rooms) t.grows;
    named = named_all has new (d.badge_is ∙ t.badge_is);
    last = a ∷ [];
    all_is = refl;
    badge_is = d.badge_is ∙ t.badge_is ∙ s.badge_is ∙ sym same;
    gave = (inl (subst (λ (l : List RoomPass). Gave hub conn acts a d.hall_pass l) (sym d.rooms) (t.gave d.hall_pass)), refl);
  }

  -- ---- the entry

  abbrev pub AtRoom : List ℕ → Passes → Type 0
  AtRoom id new = Between hub conn acts ss id (IsUpToDate old) old new

  -- what a change of the place of the order leaves of the others
  not_there : (id : List ℕ) (number : ℕ) → Names hub.config id number → (o : RoomPass) → o.number ≢ number → (other : List ℕ) → o.id ≡ Some other → Some id ≡ Some other → Names hub.config other o.number → ⊥
  not_there id number named o ne other e who names = ne (one_place hub.config id o.number number (subst (λ (x : List ℕ). Names hub.config x o.number) (sym (same_Some id other who)) names) named)

  grows_at : (id : List ℕ) (mid : Passes) (h k : RoomPass) (new : Passes) → (b : AtRoom id mid) → IsBeside hub conn mid.rooms.items h k new.rooms.items → IsKin h k → Grows old.rooms.items new.rooms.items
  grows_at id mid h k new b bes kin = grows_trans old.rooms.items mid.rooms.items new.rooms.items b.grows (grows_beside hub conn mid.rooms.items h k new.rooms.items bes kin)

  pub room_done : (bytes : List ℕ) (moment : ℕ) (id : List ℕ) (cmd : Command) (ended : Option Ending) (here new : Passes) (out : HubOut) → out.ended ≡ ended → AtRoom id here → (o : RoomOrdered hub id cmd moment here out new)
      → RoomsReach (heard bytes moment (in_room o.goes.before.number id cmd o.badge ended)) new
  room_done bytes moment id cmd ended here new out ends b o =
      let h : RoomPass = o.goes.before in
      let k : RoomPass = o.goes.behind in
      let ee : Play (room_entry here.conn o.badge moment cmd) ≡ Play (room_entry conn o.badge moment cmd) = ap (λ (c : ℕ). Play (room_entry c o.badge moment cmd)) b.conn_is in
      let is : o.goes.behind.pass.1 ≡ turned o.goes.before.pass.1 o.log (Some (Play (room_entry conn o.badge moment cmd))) = subst (λ (c : RoomCmd). o.goes.behind.pass.1 ≡ turned o.goes.before.pass.1 o.log (Some c)) ee o.goes.done.2 in
      let mv : Moves o.goes.before.pass.1 (Play (room_entry conn o.badge moment cmd) ∷ []) o.goes.behind.pass.1 = entered_moves o.goes.before.pass.1 o.log (Play (room_entry conn o.badge moment cmd)) o.goes.behind.pass.1 o.goes.done.1 is in
      let m : IsMoved o.goes.before (Play (room_entry conn o.badge moment cmd) ∷ []) o.goes.behind = record { place = o.goes.but.same_place; at = o.goes.at; moves = mv } in
      let bes = beside_of hub conn acts ss (IsUpToDate old) old id here o.goes.before o.goes.behind new b o.goes.but in
      let p = place_was hub conn acts ss (IsUpToDate old) old id here o.goes.before o.goes.behind new o.goes.but b in
      let gave : RoomGave hub conn acts moment o.goes.before.number id cmd o.badge ended o.goes.behind = record {
        place = o.goes.but.same_place;
        held = o.goes.held_on;
        before = o.log;
        out = o.gave;
        there = prefix_same _ _ (ap (λ (n : ℕ). o.log ++ entry n (Play (room_entry conn o.badge moment cmd)) ∷ []) mv.number ∙ sym (entered_seen o.goes.before.pass.1 o.log (Play (room_entry conn o.badge moment cmd)) o.goes.behind.pass.1 is));
        own = ap (λ (n : ℕ). length (entries_of n o.log)) mv.number ∙ ap length (sym o.goes.done.1.2) ∙ sym (length-map o.goes.before.pass.1.mine (λ (e : Entry RoomCmd). e.cmd)) ∙ ap length p.entries;
        answer = subst (λ (n : ℕ). Answers (site_of hub n) (commands o.log) (Play (room_entry conn o.badge moment cmd)) o.gave) (sym o.goes.done.0) (subst (λ (c : RoomCmd). Answers (site_of hub o.number) (commands o.log) c o.gave) ee o.answer);
        ended_is = sym ends ∙ o.ended;
      } in
      record {
        conn_is = o.goes.but.conn ∙ b.conn_is;
        badge_is = o.goes.but.badge ∙ b.badge;
        hall = o.goes.but.hall ∙ b.hall;
        rooms = sitting_at hub conn ss acts (Some id) (IsUpToDate old) (heard bytes moment (in_room o.goes.before.number id cmd o.badge ended)) here.rooms.items o.goes.before o.goes.behind new.rooms.items bes b.rooms
            (λ number ne. quiet_room conn number bytes moment o.goes.before.number id cmd o.badge ended (λ e. ne (sym e)))
            (λ x ne other e who names. not_there id o.goes.before.number o.goes.named x ne other e who names)
            (place_plays hub conn ss acts (IsUpToDate old) bytes moment id cmd o.badge ended o.goes.before o.goes.behind o.goes.held o.goes.held_on m p);
        grows = grows_at id here o.goes.before o.goes.behind new b bes (kin_moved o.goes.before (Play (room_entry conn o.badge moment cmd) ∷ []) o.goes.behind m (λ x e. o.goes.held_on ∙ sym o.goes.held ∙ e));
        gave = λ hall. (o.goes.behind, has_new hub conn here.rooms.items o.goes.before o.goes.behind new.rooms.items bes, gave);
        begins_none = refl;
      }

  -- ---- no such room

  pub record FindsNone (bytes : List ℕ) (moment : ℕ) (id : List ℕ) (cmd : Command) (new : Passes) : Type 0 where
    pub asked : Option ℕ
    pub reach : RoomsReach (heard bytes moment (nowhere asked id cmd)) new
    pub full : All (IsFull hub conn ss acts (IsUpToDate old)) new.rooms.items

  names_none : (bytes : List ℕ) (moment : ℕ) (id : List ℕ) (cmd : Command) (mid : Passes) → AtRoom id mid → NamesNone hub id → FindsNone bytes moment id cmd mid
  names_none bytes moment id cmd mid b none =
      let not : (o : RoomPass) (other : List ℕ) → o.id ≡ Some other → Some id ≡ Some other → Names hub.config other o.number → ⊥ = (λ o other e who names. no_name hub.config id none.0 none.1 o.number (subst (λ (x : List ℕ). Names hub.config x o.number) (sym (same_Some id other who)) names)) in
      record {
        asked = None;
        reach = record {
          conn_is = b.conn_is;
          badge_is = b.badge;
          hall = b.hall;
          rooms = sitting_on hub conn ss acts (Some id) (IsUpToDate old) (heard bytes moment (nowhere None id cmd)) mid.rooms.items b.rooms (λ number. quiet_nowhere conn number bytes moment id cmd) not;
          grows = b.grows;
          gave = λ hall. inl none;
          begins_none = refl;
        };
        full = All-weaker (λ (k : RoomPass). IsPlace hub conn ss acts (Some id) (IsUpToDate old) k × IsBattle hub conn ss k) (IsFull hub conn ss acts (IsUpToDate old)) (λ k p. place_full hub conn ss acts (Some id) (IsUpToDate old) k (not k) p.0) mid.rooms.items b.rooms.places;
      }

  -- the place is held by another id
  held_by_other : (bytes : List ℕ) (moment : ℕ) (id : List ℕ) (cmd : Command) (mid new : Passes) (other : List ℕ) → AtRoom id mid → (e : EntersAt hub id (NotHeld hub id) mid new) → e.before.id ≡ Some other → other ≢ id → e.behind ≡ e.before → FindsNone bytes moment id cmd new
  held_by_other bytes moment id cmd mid new other b e held differs same =
      let bes = beside_of hub conn acts ss (IsUpToDate old) old id mid e.before e.behind new b e.but in
      let p = place_was hub conn acts ss (IsUpToDate old) old id mid e.before e.behind new e.but b in
      let not : (x : List ℕ) → e.before.id ≡ Some x → Some id ≡ Some x → Names hub.config x e.before.number → ⊥ = (λ x is who names. differs (same_Some other id (sym held ∙ is ∙ sym who))) in
      let joined : since e.before.number acts ≢ [] = ⊎_elim
      (λ (j : (since e.before.number acts ≢ []) × (IsUpToDate old → IsCaughtUp e.before.pass.1 e.before.at)). j.0)
      (λ (j : (Some id ≡ Some other) × (since e.before.number acts ≡ [])). absurd (differs (same_Some other id (sym j.0))))
      (p.holding other held).1 in
      let others : IsOthers hub acts id e.before = record { named = e.named; battle = e.done.0; joined = at_least_one (since e.before.number acts) joined; other = other; held = held; differs = differs } in
      record {
        asked = None;
        reach = record {
          conn_is = e.but.conn ∙ b.conn_is;
          badge_is = e.but.badge ∙ b.badge;
          hall = e.but.hall ∙ b.hall;
          rooms = sitting_at hub conn ss acts (Some id) (IsUpToDate old) (heard bytes moment (nowhere None id cmd)) mid.rooms.items e.before e.behind new.rooms.items bes b.rooms
              (λ number ne. quiet_nowhere conn number bytes moment id cmd)
              (λ x ne y is who names. not_there id e.before.number e.named x ne y is who names)
              (subst (HasPlace hub conn ss (acts ++ heard bytes moment (nowhere None id cmd) ∷ []) (length acts)) (sym same)
              (place_on hub conn ss acts (Some id) (IsUpToDate old) (heard bytes moment (nowhere None id cmd)) e.before (quiet_nowhere conn e.before.number bytes moment id cmd) not (p, λ none. absurd (none-some other (sym none ∙ held)))));
          grows = grows_at id mid e.before e.behind new b bes (subst (IsKin e.before) (sym same) (kin_self e.before));
          gave = λ hall. inr (e.behind, has_new hub conn mid.rooms.items e.before e.behind new.rooms.items bes, subst (IsOthers hub acts id) (sym same) others);
          begins_none = refl;
        };
        full = new_all hub conn mid.rooms.items e.before e.behind new.rooms.items bes (λ (k : RoomPass). IsPlace hub conn ss acts (Some id) (IsUpToDate old) k × IsBattle hub conn ss k) (IsFull hub conn ss acts (IsUpToDate old)) b.rooms.places
            (λ k ne q. place_full hub conn ss acts (Some id) (IsUpToDate old) k (not_there id e.before.number e.named k ne) q.0)
            (subst (IsFull hub conn ss acts (IsUpToDate old)) (sym same) (place_full hub conn ss acts (Some id) (IsUpToDate old) e.before not p));
      }

  -- its pass took a turn in vain
  asked_in_vain : (bytes : List ℕ) (moment : ℕ) (id : List ℕ) (cmd : Command) (mid new : Passes) → AtRoom id mid → (e : EntersAt hub id (NotHeld hub id) mid new) → e.before.id ≡ None → e.behind.id ≡ None → e.behind.at ≡ e.before.at → Turns e.before.pass.1 None e.behind.pass.1 → Lacks hub id e.behind → FindsNone bytes moment id cmd new
  asked_in_vain bytes moment id cmd mid new b e was is at t lacks =
      let mv = turns_move e.before.pass.1 e.behind.pass.1 t in
      let m : IsMoved e.before [] e.behind = record { place = e.but.same_place; at = at; moves = mv } in
      let bes = beside_of hub conn acts ss (IsUpToDate old) old id mid e.before e.behind new b e.but in
      let p = place_was hub conn acts ss (IsUpToDate old) old id mid e.before e.behind new e.but b in
      let unfound : IsUnfound hub conn acts e.before.number id e.behind = record {
        place = e.but.same_place;
        named = e.named;
        battle = e.done.0;
        unjoined = (p.waiting was).joined;
        before = e.behind.pass.1.seen;
        there = prefix_self e.behind.pass.1.seen;
        own = ap (λ (n : ℕ). length (entries_of n e.behind.pass.1.seen)) mv.number ∙ ap (λ l. length (entries_of e.before.pass.1.number l)) (turned_seen e.before.pass.1 e.behind.pass.1 t) ∙ ap length (sym t.1.2) ∙ sym (length-map e.before.pass.1.mine (λ (x : Entry RoomCmd). x.cmd)) ∙ ap length p.entries;
        told = lacks.0;
        tells = subst (λ (n : ℕ). Tells (site_of hub n) (commands e.behind.pass.1.seen) lacks.0) e.but.same_place lacks.1;
        lacks = lacks.2;
      } in
      record {
        asked = Some e.before.number;
        reach = record {
          conn_is = e.but.conn ∙ b.conn_is;
          badge_is = e.but.badge ∙ b.badge;
          hall = e.but.hall ∙ b.hall;
          rooms = sitting_at hub conn ss acts (Some id) (IsUpToDate old) (heard bytes moment (nowhere (Some e.before.number) id cmd)) mid.rooms.items e.before e.behind new.rooms.items bes b.rooms
              (λ number ne. quiet_asked conn number bytes moment e.before.number id cmd (λ x. ne (sym x)))
              (λ x ne y some who names. not_there id e.before.number e.named x ne y some who names)
              (place_asked hub conn ss acts (Some id) (IsUpToDate old) bytes moment id cmd e.before e.behind e.done.0 was is m (one_turn e.before.pass.1 e.behind.pass.1 t) lacks p);
          grows = grows_at id mid e.before e.behind new b bes (kin_moved e.before [] e.behind m (λ x some. absurd (none-some x (sym was ∙ some))));
          gave = λ hall. (e.behind, has_new hub conn mid.rooms.items e.before e.behind new.rooms.items bes, unfound);
          begins_none = refl;
        };
        full = new_all hub conn mid.rooms.items e.before e.behind new.rooms.items bes (λ (k : RoomPass). IsPlace hub conn ss acts (Some id) (IsUpToDate old) k × IsBattle hub conn ss k) (IsFull hub conn ss acts (IsUpToDate old)) b.rooms.places
            (λ k ne q. place_full hub conn ss acts (Some id) (IsUpToDate old) k (not_there id e.before.number e.named k ne) q.0)
            (place_full_asked hub conn ss acts (Some id) (IsUpToDate old) e.before e.behind was is m p);
      }

  pub finds_none : (bytes : List ℕ) (moment : ℕ) (id : List ℕ) (cmd : Command) (mid new : Passes) → AtRoom id mid → EnterFails hub id mid enter_faults.NoSuchRoom new → FindsNone bytes moment id cmd new
  finds_none bytes moment id cmd mid new b f = ⊎_elim
      (λ (n : NamesNone hub id × (new ≡ mid)). subst (FindsNone bytes moment id cmd) (sym n.1) (names_none bytes moment id cmd mid b n.0))
      (λ (e : EntersAt hub id (NotHeld hub id) mid new). ⊎_elim
      (λ (d : (other : List ℕ) × (e.before.id ≡ Some other) × (other ≢ id) × (e.behind ≡ e.before)). held_by_other bytes moment id cmd mid new d.0 b e d.1 d.2 d.3)
      (λ (d : (e.before.id ≡ None) × (e.behind.id ≡ None) × (e.behind.at ≡ e.before.at) × Turns e.before.pass.1 None e.behind.pass.1 × Lacks hub id e.behind). asked_in_vain bytes moment id cmd mid new b e d.0 d.1 d.2 d.3 d.4)
      e.done.1)
      f

  -- ---- memory ran out

  -- before the place was held
  pub entry_breaks : (id : List ℕ) (mid new : Passes) → IsSome old.badge → AreOf hub new → AtRoom id mid → EnterFails hub id mid enter_faults.NoMemory new → Breaks hub conn open_at acts ss r old s acts new
  entry_breaks id mid new has are b f = ⊎_elim
      (λ (same : IsAsBefore mid new). let t : Breaks hub conn open_at acts ss r old s acts new = record {
        are = are;
        conn_is = ap (λ (p : Passes). p.conn) same.0 ∙ b.conn_is;
        made = hall_entries conn acts;
        low = prefix_self (hall_entries conn acts);
        high = prefix_self (hall_entries conn acts);
        hall_pass = s.hall_pass;
        hall = ap (λ (p : Passes). p.hall) same.0 ∙ b.hall ∙ s.hall;
        kin = kin_here;
        hall_is = hall_start hub conn open_at acts ss r old s;
        rooms = subst (All (PlaceLeft false hub conn acts acts ss)) (sym same.1) (All-weaker (λ (k : RoomPass). IsPlace hub conn ss acts (Some id) (IsUpToDate old) k × IsBattle hub conn ss k) (PlaceLeft false hub conn acts acts ss) (λ k p. left_before hub conn ss acts (Some id) (IsUpToDate old) k p.0) mid.rooms.items b.rooms.places);
        apart = subst AreApart (sym same.1) b.rooms.apart;
        grows = subst (Grows old.rooms.items) (sym same.1) b.grows;
        named = named_all has new (ap (λ (p : Passes). p.badge) same.0 ∙ b.badge);
        last = [];
        all_is = sym (append-nil acts);
        badge_is = ap (λ (p : Passes). p.badge) same.0 ∙ b.badge ∙ s.badge_is;
        gave = tt;
      } in t)
      (λ (e : EntersAt hub id Unheld mid new). unheld e (⊎_elim
      (λ (x : e.behind.pass.1 ≡ e.before.pass.1). stays e.before.pass.1 e.behind.pass.1 x)
      (λ (x : (first_battle ≤ e.before.number) × (e.before.id ≡ None) × Turns e.before.pass.1 None e.behind.pass.1). turns_move e.before.pass.1 e.behind.pass.1 x.2)
      e.done.3))
      f
    where
      unheld : (e : EntersAt hub id Unheld mid new) → Moves e.before.pass.1 [] e.behind.pass.1 → Breaks hub conn open_at acts ss r old s acts new
      unheld e mv =
          let m : IsMoved e.before [] e.behind = record { place = e.but.same_place; at = e.done.1; moves = mv } in
          let bes = beside_of hub conn acts ss (IsUpToDate old) old id mid e.before e.behind new b e.but in
          let p = place_was hub conn acts ss (IsUpToDate old) old id mid e.before e.behind new e.but b in
          record {
            are = are;
            conn_is = e.but.conn ∙ b.conn_is;
            made = hall_entries conn acts;
            low = prefix_self (hall_entries conn acts);
            high = prefix_self (hall_entries conn acts);
            hall_pass = s.hall_pass;
            hall = e.but.hall ∙ b.hall ∙ s.hall;
            kin = kin_here;
            hall_is = hall_start hub conn open_at acts ss r old s;
            rooms = new_all hub conn mid.rooms.items e.before e.behind new.rooms.items bes (λ (k : RoomPass). IsPlace hub conn ss acts (Some id) (IsUpToDate old) k × IsBattle hub conn ss k) (PlaceLeft false hub conn acts acts ss) b.rooms.places
                (λ k ne q. left_before hub conn ss acts (Some id) (IsUpToDate old) k q.0)
                (left_moved hub conn ss acts (Some id) (IsUpToDate old) e.before e.behind e.done.0 m p);
            apart = new_apart hub conn mid.rooms.items e.before e.behind new.rooms.items bes;
            grows = grows_at id mid e.before e.behind new b bes (kin_moved e.before [] e.behind m (λ x some. e.done.0 ∙ some));
            named = named_all has new (e.but.badge ∙ b.badge);
            last = [];
            all_is = sym (append-nil acts);
            badge_is = e.but.badge ∙ b.badge ∙ s.badge_is;
            gave = tt;
          }

  -- behind that: the entry is there, or it isn't
  goes_breaks : {does : RoomPass → RoomPass → Type 0} → (bytes : List ℕ) (moment : ℕ) (id : List ℕ) (cmd : Command) (badge : Badge) (here new : Passes) → IsSome old.badge → AreOf hub new → AtRoom id here → (g : RoomGoes hub id does here new) (more : List RoomCmd) → (more ≡ []) ⊎ (more ≡ Play (room_entry conn badge moment cmd) ∷ []) → Moves g.before.pass.1 more g.behind.pass.1
      → Breaks hub conn open_at acts ss r old s (acts ++ heard bytes moment (in_room g.before.number id cmd badge None) ∷ []) new
  goes_breaks bytes moment id cmd badge here new has are b g more part mv =
      let m : IsMoved g.before more g.behind = record { place = g.but.same_place; at = g.at; moves = mv } in
      let bes = beside_of hub conn acts ss (IsUpToDate old) old id here g.before g.behind new b g.but in
      let p = place_was hub conn acts ss (IsUpToDate old) old id here g.before g.behind new g.but b in
      let near : length (acts ++ heard bytes moment (in_room g.before.number id cmd badge None) ∷ []) ≡ length acts + 1 = length-append acts (heard bytes moment (in_room g.before.number id cmd badge None) ∷ []) in
      let made : commands g.behind.pass.1.mine ≡ room_cmds conn g.behind.number acts ++ more = mv.mine ∙ ap (λ l. l ++ more) p.entries ∙ ap (λ (n : ℕ). room_cmds conn n acts ++ more) (sym m.place) in
      let all : room_cmds conn g.behind.number (acts ++ heard bytes moment (in_room g.before.number id cmd badge None) ∷ []) ≡ room_cmds conn g.behind.number acts ++ Play (room_entry conn badge moment cmd) ∷ [] =
      cmds_more conn g.behind.number acts (heard bytes moment (in_room g.before.number id cmd badge None)) ∙ ap (λ l. room_cmds conn g.behind.number acts ++ l) (ap (λ (n : ℕ). room_of conn n (heard bytes moment (in_room g.before.number id cmd badge None))) m.place ∙ cmds_here conn g.before.number bytes moment id cmd badge None) in
      let high : IsPrefix (room_cmds conn g.behind.number acts ++ more) (room_cmds conn g.behind.number acts ++ Play (room_entry conn badge moment cmd) ∷ []) = ⊎_elim
      (λ (none : more ≡ []). let w : IsPrefix (room_cmds conn g.behind.number acts ++ more) (room_cmds conn g.behind.number acts ++ Play (room_entry conn badge moment cmd) ∷ []) = (Play (room_entry conn badge moment cmd) ∷ [], append_assoc (room_cmds conn g.behind.number acts) more (Play (room_entry conn badge moment cmd) ∷ []) ∙ ap (λ (l : List RoomCmd). room_cmds conn g.behind.number acts ++ (l ++ Play (room_entry conn badge moment cmd) ∷ [])) none) in w)
      (λ (one : more ≡ Play (room_entry conn badge moment cmd) ∷ []). prefix_same _ _ (ap (λ (l : List RoomCmd). room_cmds conn g.behind.number acts ++ l) one))
      part in
      let joined = held_on hub conn ss acts (IsUpToDate old) id (heard bytes moment (in_room g.before.number id cmd badge None)) g.before more g.behind g.held m (joins_here g.before.number bytes moment id cmd badge None) p in
      let left : PlaceLeft false hub conn acts (acts ++ heard bytes moment (in_room g.before.number id cmd badge None) ∷ []) ss g.behind = place_left hub conn ss acts (acts ++ heard bytes moment (in_room g.before.number id cmd badge None) ∷ []) (length acts) g.behind (omega arith)
      (subst (IsPrefix (room_cmds conn g.behind.number acts)) (sym made) (prefix_front (room_cmds conn g.behind.number acts) more))
      (subst (λ l. IsPrefix l (room_cmds conn g.behind.number (acts ++ heard bytes moment (in_room g.before.number id cmd badge None) ∷ []))) (sym made) (subst (IsPrefix (room_cmds conn g.behind.number acts ++ more)) (sym all) high))
      (told_moved hub conn ss g.before more g.behind m (g.held_on ∙ sym g.held) p.within p.told)
      (λ none. absurd (none-some id (sym none ∙ g.held_on)))
      (λ other e. subst (λ (x : List ℕ). RoomSits hub conn (acts ++ heard bytes moment (in_room g.before.number id cmd badge None) ∷ []) (length acts) ss x g.behind) (same_Some id other (sym g.held_on ∙ e)) joined.0) in
      record {
        are = are;
        conn_is = g.but.conn ∙ b.conn_is;
        made = hall_entries conn acts;
        low = prefix_self (hall_entries conn acts);
        high = prefix_same _ _ (sym (hall_same_on (g.before.number)));
        hall_pass = s.hall_pass;
        hall = g.but.hall ∙ b.hall ∙ s.hall;
        kin = kin_here;
        hall_is = hall_start hub conn open_at acts ss r old s;
        rooms = new_all hub conn here.rooms.items g.before g.behind new.rooms.items bes (λ (k : RoomPass). IsPlace hub conn ss acts (Some id) (IsUpToDate old) k × IsBattle hub conn ss k) (PlaceLeft false hub conn acts (acts ++ heard bytes moment (in_room g.before.number id cmd badge None) ∷ []) ss) b.rooms.places
            (λ k ne q. left_whole hub conn ss acts (heard bytes moment (in_room g.before.number id cmd badge None)) k (place_on hub conn ss acts (Some id) (IsUpToDate old) (heard bytes moment (in_room g.before.number id cmd badge None)) k (quiet_room conn k.number bytes moment g.before.number id cmd badge None (λ e. ne (sym e))) (not_there id g.before.number g.named k ne) q))
            left;
        apart = new_apart hub conn here.rooms.items g.before g.behind new.rooms.items bes;
        grows = grows_at id here g.before g.behind new b bes (kin_moved g.before more g.behind m (λ x e. g.held_on ∙ sym g.held ∙ e));
        named = named_all has new (g.but.badge ∙ b.badge);
        last = heard bytes moment (in_room g.before.number id cmd badge None) ∷ [];
        all_is = refl;
        badge_is = g.but.badge ∙ b.badge ∙ s.badge_is;
        gave = (inr (refl, (g.behind, has_new hub conn here.rooms.items g.before g.behind new.rooms.items bes, g.but.same_place, g.held_on)), refl);
      }
    where
      hall_same_on : (number : ℕ) → hall_entries conn (acts ++ heard bytes moment (in_room number id cmd badge None) ∷ []) ≡ hall_entries conn acts
      hall_same_on number = hall_more conn acts (heard bytes moment (in_room number id cmd badge None)) ∙ append-nil (hall_entries conn acts)

  -- the act that may be there in part
  pub record RoomBreaks (bytes : List ℕ) (moment : ℕ) (id : List ℕ) (cmd : Command) (badge : Badge) (new : Passes) : Type 0 where
    pub number : ℕ
    pub breaks : Breaks hub conn open_at acts ss r old s (acts ++ heard bytes moment (in_room number id cmd badge None) ∷ []) new

  pub no_memory_breaks : (bytes : List ℕ) (moment : ℕ) (id : List ℕ) (cmd : Command) (badge : Badge) (here new : Passes) → old.badge ≡ Some badge → AreOf hub new → AtRoom id here → RoomFails hub id cmd moment here hub_faults.NoMemory new → RoomBreaks bytes moment id cmd badge new
  no_memory_breaks bytes moment id cmd badge here new has are b (other, kept, g) = ⊎_elim
      (λ (e : g.behind.pass.1 ≡ g.before.pass.1). at [] (inl refl) (stays g.before.pass.1 g.behind.pass.1 e))
      (λ (t : Turns g.before.pass.1 None g.behind.pass.1). at [] (inl refl) (turns_move g.before.pass.1 g.behind.pass.1 t))
      g.done.1
    where
      at : (more : List RoomCmd) → (more ≡ []) ⊎ (more ≡ Play (room_entry conn badge moment cmd) ∷ []) → Moves g.before.pass.1 more g.behind.pass.1 → RoomBreaks bytes moment id cmd badge new
      at more part mv = record { number = g.before.number; breaks = goes_breaks bytes moment id cmd badge here new (subst IsSome (sym has) refl) are b g more part mv }

  pub own_limit_breaks : (bytes : List ℕ) (moment : ℕ) (id : List ℕ) (cmd : Command) (badge : Badge) (here new : Passes) (room : Option (List ℕ)) → old.badge ≡ Some badge → AreOf hub new → AtRoom id here → RoomFails hub id cmd moment here (hub_faults.OwnLimit room) new → RoomBreaks bytes moment id cmd badge new
  own_limit_breaks bytes moment id cmd badge here new room has are b g = record {
    number = g.1.before.number;
    breaks = goes_breaks bytes moment id cmd badge here new (subst IsSome (sym has) refl) are b g.1 [] (inl refl) (stays g.1.before.pass.1 g.1.behind.pass.1 (ap (λ (p : _ × _). p.1) g.1.done.1));
  }
