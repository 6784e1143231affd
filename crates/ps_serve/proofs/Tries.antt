-- The passes while an order is tried.
use Rattle.std.proofs.Common.{◌≡◌, ◌⊎◌, ℕ, zero, suc, ◌<◌, ◌≤◌, List, [], ◌++◌, length, refl, sym, ap, ◌∙◌, subst, ⊎_elim, arith, Option, Some, None, Err, append-nil}
use Rattle.std.proofs.lemmas.Option.{none-some}
use Rattle.ps_room.specs.Openings.{first_battle}
use Rattle.ps_lines.specs.declared.command.Command.{Command}
use Rattle.ps_lines.specs.declared.command.HallCmd.{HallCmd}
use Rattle.ps_lines.specs.declared.order.Order.{Order}
use Rattle.ps_lines.specs.declared.order.Order.TheVariants.{Hall, Room}
use Rattle.ps_hall.specs.declared.entry.HallEntry.{HallEntry}
use Rattle.ps_histlock.specs.Histories.{commands}
use Rattle.ps_histlock.specs.Turns.{Turns, IsBusy}
use Rattle.ps_session.specs.Sessions.{Record}
use Rattle.ps_hub.specs.Hubs.{Hub}
use Rattle.ps_hub.specs.Names.{Names}
use Rattle.ps_hub.specs.Passes.{HallPass, RoomPass, IsHallPass, IsRoomPass, ButFor}
use Rattle.ps_hub.specs.Calls.{Held, HeldUp, EntersAt, HallGoes, RoomFails, Orders}
use Rattle.ps_hub.specs.declared.out.HubFault.TheVariants as hub_faults
use Rattle.ps_hub.specs.declared.passes.Passes.{Passes}
use Rattle.ps_serve.specs.Acts.{Act, hall_entries}
use Rattle.ps_serve.specs.Sendings.{Sending}
use Rattle.ps_serve.specs.Sittings.{Sits, IsUpToDate}
use Rattle.ps_serve.specs.Obeys.{TriesInVain}
use Rattle.ps_serve.proofs.Names.{one_id}
use Rattle.ps_serve.proofs.PassLists.{IsBeside, beside, IsKin, kin_self, Grows, grows_self, grows_trans, grows_beside}
use Rattle.ps_serve.proofs.Moves.{Moves, stays, IsSameView, busy_same, same_moves, turns_move}
use Rattle.ps_serve.proofs.Places.{IsMoved, kin_moved, IsPlace, IsBattle, place_of, place_same, place_held, Amid, place_before, amid_step}
use Rattle.ps_serve.proofs.Halls.{IsHall, hall_moved, hall_as, IsHallKin, hall_kin_trans}

pub one_hall : (a b : HallPass) → Some a ≡ Some b → a ≡ b
one_hall a b e = ap (hall_or a) e
  where
    hall_or : HallPass → Option HallPass → HallPass
    hall_or a None = a
    hall_or a (Some h) = h

-- Passes between two tries of an order to a room: since `old` nothing was made at all, but a pass may have been made, or a place
-- held.
pub record Between (hub : Hub) (conn : ℕ) (acts : List Act) (ss : List Sending) (id : List ℕ) (up : Type 0) (old new : Passes) : Type 0 where
  pub conn_is : new.conn ≡ conn
  pub badge : new.badge ≡ old.badge
  pub hall : new.hall ≡ old.hall
  pub rooms : Amid hub conn ss acts (Some id) up new.rooms.items
  pub grows : Grows old.rooms.items new.rooms.items

-- what a session has of places
pub amid_start : (hub : Hub) (conn open_at : ℕ) (acts : List Act) (ss : List Sending) (session : Record) (passes : Passes) (who : Option (List ℕ)) → Sits hub conn open_at acts (length acts) ss session passes → Amid hub conn ss acts who (IsUpToDate passes) passes.rooms.items
amid_start hub conn open_at acts ss session passes who s = record {
  places = λ i d lt. place_of hub conn ss acts who (IsUpToDate passes) _ (s.rooms i d lt) (within _ (s.are.rooms i d lt)) (s.joined i d lt) (λ u. u.rooms i d lt);
  apart = s.apart;
  others = s.others;
}
  where
    within : (k : RoomPass) → IsRoomPass hub passes.conn k → k.at ≤ length (commands k.pass.1.seen)
    within k p = (let out : k.at ≤ k.cursor.passed = p.place.told.handed_out in let end : k.cursor.passed ≤ length (commands k.pass.1.seen) = p.place.told.within in omega arith)

-- and of the hall
pub hall_start : (hub : Hub) (conn open_at : ℕ) (acts : List Act) (ss : List Sending) (session : Record) (passes : Passes) (s : Sits hub conn open_at acts (length acts) ss session passes) → IsHall hub conn open_at (hall_entries conn acts) (length acts) ss s.hall_pass
hall_start hub conn open_at acts ss session passes s = record {
  entries = s.hall_sits.entries;
  count = s.hall_sits.count;
  looks = s.hall_sits.looks;
  told = s.hall_sits.sent;
  within = subst (λ (h : HallPass). h.at ≤ length (commands h.pass.1.seen)) (one_hall s.are.hall_pass s.hall_pass (sym s.are.hall ∙ s.hall)) (within s.are.hall_pass s.are.hall_is);
  opened = s.opened;
}
  where
    within : (h : HallPass) → IsHallPass hub passes.conn h → h.at ≤ length (commands h.pass.1.seen)
    within h p = (let out : h.at ≤ h.cursor.passed = p.told.handed_out in let end : h.cursor.passed ≤ length (commands h.pass.1.seen) = p.told.within in omega arith)

pub between_start : (hub : Hub) (conn open_at : ℕ) (acts : List Act) (ss : List Sending) (session : Record) (passes : Passes) (id : List ℕ) → Sits hub conn open_at acts (length acts) ss session passes → Between hub conn acts ss id (IsUpToDate passes) passes passes
between_start hub conn open_at acts ss session passes id s = record {
  conn_is = s.conn_is;
  badge = refl;
  hall = refl;
  rooms = amid_start hub conn open_at acts ss session passes (Some id) s;
  grows = grows_self passes.rooms.items;
}

-- ---- orders to the hall

-- Passes between two tries of an order to the hall: since `old` nothing was made. Some entries were made before.
pub record InHall (hub : Hub) (conn open_at : ℕ) (looked : ℕ) (ss : List Sending) (made : List HallEntry) (was : HallPass) (old new : Passes) : Type 0 where
  pub conn_is : new.conn ≡ conn
  pub badge : new.badge ≡ old.badge
  pub rooms : new.rooms.items ≡ old.rooms.items
  pub hall_pass : HallPass
  pub hall : new.hall ≡ Some hall_pass
  pub kin : IsHallKin was hall_pass
  pub is : IsHall hub conn open_at made looked ss hall_pass

module _ (hub : Hub) (conn open_at : ℕ) (looked : ℕ) (ss : List Sending) (made : List HallEntry) (was : HallPass) (old : Passes) where
  -- what a call leaves of the pass of the hall; with the entries that it made, or without
  pub hall_goes : {does : HallPass → HallPass → Type 0} → (more : List HallEntry) (mid new : Passes) → (goes : HallGoes does mid new) → Moves goes.before.pass.1 more goes.behind.pass.1 → InHall hub conn open_at looked ss made was old mid
      → (new.hall ≡ Some goes.behind) × IsHallKin was goes.behind × IsHall hub conn open_at (made ++ more) looked ss goes.behind
  hall_goes more mid new goes m b =
      let same : b.hall_pass ≡ goes.before = one_hall b.hall_pass goes.before (sym b.hall ∙ goes.was) in (
        goes.is,
        hall_kin_trans was goes.before goes.behind (subst (IsHallKin was) same b.kin) record { number = m.number; seen = m.seen },
        hall_moved hub conn open_at made looked ss goes.before more goes.behind goes.at m (subst (IsHall hub conn open_at made looked ss) same b.is),
      )

  hall_tried : (cmd : HallCmd) (moment : ℕ) (mid new : Passes) (word : ℕ) (back : Order) → Orders hub (Hall cmd) moment mid (Err (hub_faults.Busy word back)) new → InHall hub conn open_at looked ss made was old mid → InHall hub conn open_at looked ss made was old new
  hall_tried cmd moment mid new word back t b =
      let goes = t.2 in
      let g = hall_goes [] mid new goes (same_moves goes.before.pass.1 goes.behind.pass.1 (busy_same goes.before.pass.1 goes.behind.pass.1 word goes.done.0)) b in
      record {
        conn_is = goes.conn ∙ b.conn_is;
        badge = t.1 ∙ b.badge;
        rooms = goes.rooms ∙ b.rooms;
        hall_pass = goes.behind;
        hall = g.0;
        kin = g.1;
        is = hall_as hub conn open_at (made ++ []) made looked ss goes.behind (append-nil made) g.2;
      }

  pub hall_tries : (cmd : HallCmd) (moment tries : ℕ) (start new : Passes) → TriesInVain hub (Hall cmd) moment tries start new → InHall hub conn open_at looked ss made was old start → InHall hub conn open_at looked ss made was old new
  hall_tries cmd moment zero start new t b = subst (InHall hub conn open_at looked ss made was old) (sym t) b
  hall_tries cmd moment (suc n) start new t b = hall_tried cmd moment t.0 new t.2.0 t.2.1 t.2.2 (hall_tries cmd moment n start t.0 t.1 b)

-- ---- orders to a room

module _ (hub : Hub) (conn : ℕ) (acts : List Act) (ss : List Sending) (up : Type 0) (old : Passes) where
  abbrev pub Amidst : List ℕ → Passes → Type 0
  Amidst id new = Between hub conn acts ss id up old new

  pub beside_of : (id : List ℕ) (mid : Passes) (h k : RoomPass) (new : Passes) → Amidst id mid → ButFor hub mid h k new → IsBeside hub conn mid.rooms.items h k new.rooms.items
  beside_of id mid h k new b but = subst (λ (c : ℕ). IsBeside hub c mid.rooms.items h k new.rooms.items) b.conn_is (beside hub mid h k new b.rooms.apart but)

  -- a call changed one place, and nothing else
  pub but_one : (id : List ℕ) (mid : Passes) (h k : RoomPass) (new : Passes) → ButFor hub mid h k new → (b : Amidst id mid) → IsKin h k → IsPlace hub conn ss acts (Some id) up k × IsBattle hub conn ss k → Amidst id new
  but_one id mid h k new but b kin p =
      let r = beside_of id mid h k new b but in
      record {
        conn_is = but.conn ∙ b.conn_is;
        badge = but.badge ∙ b.badge;
        hall = but.hall ∙ b.hall;
        rooms = amid_step hub conn ss acts (Some id) up mid.rooms.items h k new.rooms.items r b.rooms p;
        grows = grows_trans old.rooms.items mid.rooms.items new.rooms.items b.grows (grows_beside hub conn mid.rooms.items h k new.rooms.items r kin);
      }

  pub place_was : (id : List ℕ) (mid : Passes) (h k : RoomPass) (new : Passes) → ButFor hub mid h k new → (b : Amidst id mid) → IsPlace hub conn ss acts (Some id) up h
  place_was id mid h k new but b = place_before hub conn ss acts (Some id) up mid.rooms.items h k new.rooms.items (beside_of id mid h k new b but) b.rooms

  -- the pass of a place met a word
  pub place_busy : (id : List ℕ) (mid : Passes) (h k : RoomPass) (new : Passes) (word : ℕ) → ButFor hub mid h k new → k.at ≡ h.at → k.id ≡ h.id → (k.id ≡ None → first_battle ≤ k.number) → IsBusy h.pass.1 word k.pass.1 → Amidst id mid → Amidst id new
  place_busy id mid h k new word but at keeps battle busy b =
      let v = busy_same h.pass.1 k.pass.1 word busy in
      let m : IsMoved h [] k = record { place = but.same_place; at = at; moves = same_moves h.pass.1 k.pass.1 v } in
      but_one id mid h k new but b (kin_moved h [] k m (λ other e. keeps ∙ e)) (place_same hub conn ss acts (Some id) up h k but.same_place at keeps v m (place_was id mid h k new but b), battle)

  -- the place of the order is held
  pub enters : (id : List ℕ) (mid new : Passes) → EntersAt hub id (Held id) mid new → Amidst id mid → Amidst id new
  enters id mid new e b = ⊎_elim
      (λ (d : (e.before.id ≡ Some id) × (e.behind ≡ e.before)). at_once d.0 d.1)
      (λ (rest : ((e.before.number < first_battle) × (e.behind ≡ record e.before { id = Some id })) ⊎ ((first_battle ≤ e.before.number) × (e.before.id ≡ None) × (e.behind.id ≡ Some id) × (e.behind.at ≡ e.before.at) × Turns e.before.pass.1 None e.behind.pass.1)). ⊎_elim
      (λ (d : (e.before.number < first_battle) × (e.behind ≡ record e.before { id = Some id })). chat e.before.id refl d.0 d.1)
      (λ (d : (first_battle ≤ e.before.number) × (e.before.id ≡ None) × (e.behind.id ≡ Some id) × (e.behind.at ≡ e.before.at) × Turns e.before.pass.1 None e.behind.pass.1). asks d.1 d.2 record { place = e.but.same_place; at = d.3; moves = turns_move e.before.pass.1 e.behind.pass.1 d.4 })
      rest)
      e.done
    where
      at_once : e.before.id ≡ Some id → e.behind ≡ e.before → Amidst id new
      at_once is same = but_one id mid e.before e.behind new e.but b (subst (IsKin e.before) (sym same) (kin_self e.before))
          (subst (IsPlace hub conn ss acts (Some id) up) (sym same) (place_was id mid e.before e.behind new e.but b), λ none. absurd (none-some id (sym none ∙ ap (λ (x : RoomPass). x.id) same ∙ is)))

      asks : e.before.id ≡ None → e.behind.id ≡ Some id → IsMoved e.before [] e.behind → Amidst id new
      asks none is m = but_one id mid e.before e.behind new e.but b (kin_moved e.before [] e.behind m (λ other some. absurd (none-some other (sym none ∙ some))))
          (place_held hub conn ss acts up id e.before e.behind none is (subst (λ (n : ℕ). Names hub.config id n) (sym e.but.same_place) e.named) m (place_was id mid e.before e.behind new e.but b), λ no_id. absurd (none-some id (sym no_id ∙ is)))

      chat : (o : Option (List ℕ)) → e.before.id ≡ o → e.before.number < first_battle → e.behind ≡ record e.before { id = Some id } → Amidst id new
      chat None none low is = asks none (ap (λ (x : RoomPass). x.id) is) record { place = e.but.same_place; at = ap (λ (x : RoomPass). x.at) is; moves = stays e.before.pass.1 e.behind.pass.1 (ap (λ (x : RoomPass). x.pass.1) is) }
      chat (Some other) some low is =
          let s = (place_was id mid e.before e.behind new e.but b).holding other some in
          let same : other ≡ id = one_id hub.config e.before.number other id low s.0.named e.named in
          let keeps : e.behind.id ≡ e.before.id = ap (λ (x : RoomPass). x.id) is ∙ ap (λ (x : List ℕ). Some x) (sym same) ∙ sym some in
          let at : e.behind.at ≡ e.before.at = ap (λ (x : RoomPass). x.at) is in
          let v : IsSameView e.before.pass.1 e.behind.pass.1 = record {
            number = ap (λ (x : RoomPass). x.pass.1.number) is;
            looks = ap (λ (x : RoomPass). x.pass.1.looks) is;
            seen = ap (λ (x : RoomPass). x.pass.1.seen) is;
            mine = ap (λ (x : RoomPass). x.pass.1.mine) is;
            turns = ap (λ (x : RoomPass). x.pass.1.turns) is;
          } in
          let m : IsMoved e.before [] e.behind = record { place = e.but.same_place; at = at; moves = same_moves e.before.pass.1 e.behind.pass.1 v } in
          but_one id mid e.before e.behind new e.but b (kin_moved e.before [] e.behind m (λ x y. keeps ∙ y))
          (place_same hub conn ss acts (Some id) up e.before e.behind e.but.same_place at keeps v m (place_was id mid e.before e.behind new e.but b), λ none. absurd (none-some other (sym (sym keeps ∙ none) ∙ some)))

  -- ---- tries

  room_tried : (id : List ℕ) (cmd : Command) (moment : ℕ) (mid new : Passes) (word : ℕ) (back : Order) → Orders hub (Room id cmd) moment mid (Err (hub_faults.Busy word back)) new → Amidst id mid → Amidst id new
  room_tried id cmd moment mid new word back t b = ⊎_elim
      (λ (n : (back ≡ Room id cmd) × EntersAt hub id (HeldUp word) mid new).
      let e = n.1 in
      place_busy id mid e.before e.behind new word e.but e.done.3 (e.done.2 ∙ sym e.done.1) (λ none. subst (λ (x : ℕ). first_battle ≤ x) (sym e.but.same_place) e.done.0) e.done.4 b)
      (λ (n : (here : Passes) × EntersAt hub id (Held id) mid here × RoomFails hub id cmd moment here (hub_faults.Busy word back) new).
      let g = n.2.1 in
      place_busy id n.0 g.before g.behind new word g.but g.at (g.held_on ∙ sym g.held) (λ none. absurd (none-some id (sym none ∙ g.held_on))) g.done.0 (enters id mid n.0 n.1 b))
      t

  pub room_tries : (id : List ℕ) (cmd : Command) (moment tries : ℕ) (start new : Passes) → TriesInVain hub (Room id cmd) moment tries start new → Amidst id start → Amidst id new
  room_tries id cmd moment zero start new t b = subst (Amidst id) (sym t) b
  room_tries id cmd moment (suc n) start new t b = room_tried id cmd moment t.0 new t.2.0 t.2.1 t.2.2 (room_tries id cmd moment n start t.0 t.1 b)
