-- A text that became an order to the hall.
use Rattle.std.proofs.Common.{◌≡◌, ◌≢◌, ◌⊎◌, ℕ, ◌+◌, ◌≤◌, false, List, [], ◌∷◌, ◌++◌, length, refl, sym, ap, ◌∙◌, subst, inl, inr, ⊎_elim, arith, All, Option, Some, None, Ok, is_some, true, eqb, true≢false, append_assoc, length-append}
use Rattle.std.specs.Prelude.{IsSome, IfSome}
use Rattle.std.proofs.lemmas.List.Elements.{All-nil, All-cons, All-weaker}
use Rattle.std.proofs.lemmas.Bool.Decides.{eqb_tells}
use Rattle.std.proofs.lemmas.Option.{none-some}
use mathlib.Core.List.{IsPrefix}
use Rattle.ps_base.specs.declared.badge.Badge.{Badge}
use Rattle.ps_lines.specs.declared.command.HallCmd.{HallCmd}
use Rattle.ps_lines.specs.declared.order.Order.TheVariants.{Hall}
use Rattle.rules_start.specs.declared.start.Start.{Start}
use Rattle.ps_histlock.specs.Histories.{commands}
use Rattle.ps_histlock.proofs.Lists.{prefix_self}
use Rattle.server_places.specs.declared.command.RoomCmd.{RoomCmd}
use Rattle.server_places.specs.declared.command.RoomCmd.TheVariants.{Begin}
use Rattle.ps_session.specs.Sessions.{Record, counted}
use Rattle.ps_session.specs.Routes.{taken}
use Rattle.ps_hub.specs.Hubs.{Hub}
use Rattle.ps_hub.specs.Passes.{RoomPass, AreOf, IsAsBefore}
use Rattle.server_pass.specs.Turns.{TurnsAtLast}
use Rattle.ps_hub.specs.Calls.{hall_entry, badge_after, BeginsAt, BeginsNothing}
use Rattle.ps_hub.specs.declared.passes.Passes.{Passes}
use Rattle.ps_serve.specs.Acts.{Act, heard, in_hall, with_given, room_cmds, hall_entries, since}
use Rattle.ps_serve.specs.Sendings.{Sending}
use Rattle.ps_serve.specs.Sittings.{AreApart, IsBegun, Sits, PlaceLeft, IsUpToDate, IsCaughtUp}
use Rattle.ps_serve.proofs.Prefixes.{prefix_front, prefix_same}
use Rattle.ps_serve.proofs.PassLists.{IsBeside, beside, new_all, before_is, has_new, new_apart, Grows, grows_self, grows_beside}
use Rattle.ps_serve.proofs.Actions.{IsQuietAt, cmds_more, quiet_hall, quiet_start, starts_here, room_on}
use Rattle.ps_serve.proofs.Moves.{stays, last_turns_move, last_enters_move, one_turn_at_last}
use Rattle.ps_serve.proofs.Places.{IsMoved, kin_moved, told_moved, sits_moved, IsPlace, IsBattle, Amid, place_before, HasPlace, sitting_at, sitting_on, place_on}
use Rattle.ps_serve.proofs.Tries.{amid_start, hall_start, InHall}
use Rattle.ps_serve.proofs.Sides.{place_begins, place_left, left_whole}
use Rattle.ps_serve.proofs.Reached.{Reaches, Breaks}
use Rattle.ps_serve.proofs.HallTurns.{HallDone, HallBroken, high_of}

badge_given : (b old : Option Badge) (r : Record) → old ≡ r.badge → badge_after old b ≡ (with_given b (counted None r)).badge
badge_given None old r e = e
badge_given (Some badge) old r e = refl

still_some : (b old : Option Badge) → IsSome old → IsSome (badge_after old b)
still_some None old some = some
still_some (Some badge) old some = refl

start_above : (o : Option Start) (start : Start) → Some start ≡ o → IfSome o (λ s. 1 ≤ s.number) → 1 ≤ start.number
start_above o start e above = (let r : IfSome (Some start) (λ s. 1 ≤ s.number) = subst (λ (x : Option Start). IfSome x (λ s. 1 ≤ s.number)) (sym e) above in r)

module _ (hub : Hub) (conn open_at : ℕ) (acts : List Act) (ss : List Sending) (r : Record) (old : Passes) (s : Sits hub conn open_at acts (length acts) ss r old) where
  pub in_hall_start : InHall hub conn open_at (length acts) ss (hall_entries conn acts) s.hall_pass old old
  in_hall_start = record {
    conn_is = s.conn_is;
    badge = refl;
    rooms = refl;
    hall_pass = s.hall_pass;
    hall = s.hall;
    kin = record { number = refl; seen = prefix_self s.hall_pass.pass.1.seen };
    is = hall_start hub conn open_at acts ss r old s;
  }

  amid : (rooms : List RoomPass) → rooms ≡ old.rooms.items → Amid hub conn ss acts None (IsUpToDate old) rooms
  amid rooms e = subst (Amid hub conn ss acts None (IsUpToDate old)) (sym e) (amid_start hub conn open_at acts ss r old None s)

  named_on : (b : Option Badge) (new : Passes) → new.badge ≡ badge_after old.badge b → All (λ (k : RoomPass). IsSome k.id → IsSome new.badge) old.rooms.items
  named_on b new e = λ i d lt some. subst IsSome (sym e) (still_some b old.badge (s.named i d lt some))

  -- an entry that starts nothing
  pub hall_reaches : (bytes : List ℕ) (moment : ℕ) (cmd : HallCmd) (badge : Option Badge) (after : Record) (new : Passes) → taken r bytes ≡ Ok (Hall cmd) → AreOf hub new → after ≡ with_given badge (counted None r)
      → HallDone hub conn open_at acts ss s.hall_pass old cmd moment badge None new → Reaches hub conn open_at acts ss r old s (heard bytes moment (in_hall cmd badge None)) after new
  hall_reaches bytes moment cmd badge after new take are session d = record {
    act = (take, tt);
    are = are;
    conn_is = d.conn_is;
    session_is = session;
    badge_is = d.badge_is ∙ badge_given badge old.badge r s.badge_is ∙ ap (λ (x : Record). x.badge) (sym session);
    hall_pass = d.hall_pass;
    hall = d.hall;
    kin = d.kin;
    hall_is = d.is;
    rooms = sitting_on hub conn ss acts None (IsUpToDate old) (heard bytes moment (in_hall cmd badge None)) new.rooms.items (amid new.rooms.items d.rooms) (λ number. quiet_hall conn number bytes moment cmd badge) (λ o id e not_one named. absurd (none-some id not_one));
    grows = subst (Grows old.rooms.items) (sym d.rooms) (grows_self old.rooms.items);
    starts = All-nil (IsBegun new.rooms.items);
    named = subst (All (λ (k : RoomPass). IsSome k.id → IsSome new.badge)) (sym d.rooms) (named_on badge new d.badge_is);
    gave = d.gave;
  }

  -- the rooms, where only the hall has to do with an act
  rooms_left : (bytes : List ℕ) (moment : ℕ) (cmd : HallCmd) (rooms : List RoomPass) → rooms ≡ old.rooms.items → All (PlaceLeft false hub conn acts (acts ++ heard bytes moment (in_hall cmd None None) ∷ []) ss) rooms
  rooms_left bytes moment cmd rooms e =
      let sit = sitting_on hub conn ss acts None (IsUpToDate old) (heard bytes moment (in_hall cmd None None)) rooms (amid rooms e) (λ number. quiet_hall conn number bytes moment cmd None) (λ o id is not_one named. absurd (none-some id not_one)) in
      All-weaker (HasPlace hub conn ss (acts ++ heard bytes moment (in_hall cmd None None) ∷ []) (length acts)) (PlaceLeft false hub conn acts (acts ++ heard bytes moment (in_hall cmd None None) ∷ []) ss) (λ k p. left_whole hub conn ss acts (heard bytes moment (in_hall cmd None None)) k p) rooms sit.places

  -- memory ran out for it
  pub hall_breaks : (bytes : List ℕ) (moment : ℕ) (cmd : HallCmd) (new : Passes) → AreOf hub new → HallBroken hub conn open_at acts ss s.hall_pass old cmd moment new → Breaks hub conn open_at acts ss r old s (acts ++ heard bytes moment (in_hall cmd None None) ∷ []) new
  hall_breaks bytes moment cmd new are d = record {
    are = are;
    conn_is = d.conn_is;
    made = hall_entries conn acts ++ d.more;
    low = prefix_front (hall_entries conn acts) d.more;
    high = high_of hub conn open_at acts ss s.hall_pass old cmd moment (heard bytes moment (in_hall cmd None None)) d.more refl d.part;
    hall_pass = d.hall_pass;
    hall = d.hall;
    kin = d.kin;
    hall_is = d.is;
    rooms = rooms_left bytes moment cmd new.rooms.items d.rooms;
    apart = subst AreApart (sym d.rooms) s.apart;
    grows = subst (Grows old.rooms.items) (sym d.rooms) (grows_self old.rooms.items);
    named = subst (All (λ (k : RoomPass). IsSome k.id → IsSome new.badge)) (sym d.rooms) (named_on None new d.badge_is);
    last = heard bytes moment (in_hall cmd None None) ∷ [];
    all_is = refl;
    badge_is = d.badge_is ∙ badge_given None old.badge r s.badge_is;
    gave = (inr (refl, refl), refl);
  }

  -- ---- the Begin of a battle

  module _ (bytes : List ℕ) (moment : ℕ) (cmd : HallCmd) (badge : Option Badge) (start : Start) (mid new : Passes) (take : taken r bytes ≡ Ok (Hall cmd)) (are : AreOf hub new) (d : HallDone hub conn open_at acts ss s.hall_pass old cmd moment badge (Some start) mid) where
    beside_begun : {does : RoomPass → RoomPass → Type 0} → (b : BeginsAt hub start does mid new) → IsBeside hub conn mid.rooms.items b.before b.behind new.rooms.items
    beside_begun b = subst (λ (c : ℕ). IsBeside hub c mid.rooms.items b.before b.behind new.rooms.items) d.conn_is (beside hub mid b.before b.behind new (subst AreApart (sym d.rooms) s.apart) b.but)

    place_begun : {does : RoomPass → RoomPass → Type 0} → (b : BeginsAt hub start does mid new) → IsPlace hub conn ss acts None (IsUpToDate old) b.before
    place_begun b = place_before hub conn ss acts None (IsUpToDate old) mid.rooms.items b.before b.behind new.rooms.items (beside_begun b) (amid mid.rooms.items d.rooms)

    grows_begun : {does : RoomPass → RoomPass → Type 0} → (b : BeginsAt hub start does mid new) (more : List RoomCmd) → IsMoved b.before more b.behind → Grows old.rooms.items new.rooms.items
    grows_begun b more m = subst (λ (l : List RoomPass). Grows l new.rooms.items) d.rooms (grows_beside hub conn mid.rooms.items b.before b.behind new.rooms.items (beside_begun b) (kin_moved b.before more b.behind m (λ id e. b.id ∙ e)))

    named_begun : {does : RoomPass → RoomPass → Type 0} → (b : BeginsAt hub start does mid new) → All (λ (k : RoomPass). IsSome k.id → IsSome new.badge) new.rooms.items
    named_begun b =
        let all : All (λ (k : RoomPass). IsSome k.id → IsSome mid.badge) mid.rooms.items = subst (All (λ (k : RoomPass). IsSome k.id → IsSome mid.badge)) (sym d.rooms) (named_on badge mid d.badge_is) in
        let first : IsSome b.before.id → IsSome mid.badge = before_is hub conn mid.rooms.items b.before b.behind new.rooms.items (beside_begun b) (λ (k : RoomPass). IsSome k.id → IsSome mid.badge) all (λ n lack some. absurd (true≢false (sym (sym (ap is_some n.id) ∙ some)))) in
        new_all hub conn mid.rooms.items b.before b.behind new.rooms.items (beside_begun b) (λ (k : RoomPass). IsSome k.id → IsSome mid.badge) (λ (k : RoomPass). IsSome k.id → IsSome new.badge) all (λ o ne p some. subst IsSome (sym b.but.badge) (p some)) (λ some. subst IsSome (sym b.but.badge) (first (subst IsSome b.id some)))

    quiet_begun : (number place : ℕ) → place ≡ 15 + start.number → number ≢ place → IsQuietAt conn number (heard bytes moment (in_hall cmd badge (Some start)))
    quiet_begun number place here ne = quiet_start conn number bytes moment cmd badge start (λ e. ne (sym e ∙ sym here))

    above : 1 ≤ start.number
    above = start_above d.gave.out.start start d.gave.start_is d.gave.answer.above

    moved_begun : (b : BeginsAt hub start (λ (h k : RoomPass). TurnsAtLast h.pass.1 (Some (Begin start)) k.pass.1) mid new) → IsMoved b.before (Begin start ∷ []) b.behind
    moved_begun b = record { place = b.but.same_place; at = b.at; moves = last_enters_move b.before.pass.1 (Begin start) b.behind.pass.1 b.done }

    pub begins_reach : (after : Record) → after ≡ with_given badge (counted None r) → BeginsAt hub start (λ (h k : RoomPass). TurnsAtLast h.pass.1 (Some (Begin start)) k.pass.1) mid new
        → Reaches hub conn open_at acts ss r old s (heard bytes moment (in_hall cmd badge (Some start))) after new
    begins_reach after session b = record {
      act = (take, tt);
      are = are;
      conn_is = b.but.conn ∙ d.conn_is;
      session_is = session;
      badge_is = b.but.badge ∙ d.badge_is ∙ badge_given badge old.badge r s.badge_is ∙ ap (λ (x : Record). x.badge) (sym session);
      hall_pass = d.hall_pass;
      hall = b.but.hall ∙ d.hall;
      kin = d.kin;
      hall_is = d.is;
      rooms = sitting_at hub conn ss acts None (IsUpToDate old) (heard bytes moment (in_hall cmd badge (Some start))) mid.rooms.items b.before b.behind new.rooms.items (beside_begun b) (amid mid.rooms.items d.rooms)
          (λ number ne. quiet_begun number b.before.number b.number ne)
          (λ o ne id e not_one named. absurd (none-some id not_one))
          (place_begins hub conn ss acts (IsUpToDate old) bytes moment cmd badge start b.before b.behind above b.number b.id (moved_begun b) (one_turn_at_last b.before.pass.1 (Begin start) b.behind.pass.1 b.done) (place_begun b));
      grows = grows_begun b (Begin start ∷ []) (moved_begun b);
      starts = All-cons (IsBegun new.rooms.items) start [] (b.behind, has_new hub conn mid.rooms.items b.before b.behind new.rooms.items (beside_begun b), b.but.same_place ∙ b.number) (All-nil (IsBegun new.rooms.items));
      named = named_begun b;
      gave = d.gave;
    }

    -- memory ran out for the Begin: it is there, or it isn't
    begun_left : (h k : RoomPass) → IsPlace hub conn ss acts None (IsUpToDate old) h → h.number ≡ 15 + start.number → k.id ≡ h.id → (more : List RoomCmd) → (more ≡ []) ⊎ (more ≡ Begin start ∷ []) → IsMoved h more k → PlaceLeft false hub conn acts (acts ++ heard bytes moment (in_hall cmd badge (Some start)) ∷ []) ss k
    begun_left h k p number same_id more part m =
        let near : length (acts ++ heard bytes moment (in_hall cmd badge (Some start)) ∷ []) ≡ length acts + 1 = length-append acts (heard bytes moment (in_hall cmd badge (Some start)) ∷ []) in
        let made : commands k.pass.1.mine ≡ room_cmds conn k.number acts ++ more = m.moves.mine ∙ ap (λ l. l ++ more) p.entries ∙ ap (λ (n : ℕ). room_cmds conn n acts ++ more) (sym m.place) in
        let all : room_cmds conn k.number (acts ++ heard bytes moment (in_hall cmd badge (Some start)) ∷ []) ≡ room_cmds conn k.number acts ++ Begin start ∷ [] =
        cmds_more conn k.number acts (heard bytes moment (in_hall cmd badge (Some start))) ∙ ap (λ l. room_cmds conn k.number acts ++ l) (starts_here conn bytes moment cmd badge start k.number (m.place ∙ number)).0 in
        let high : IsPrefix (room_cmds conn k.number acts ++ more) (room_cmds conn k.number acts ++ Begin start ∷ []) = ⊎_elim
        (λ (none : more ≡ []). let w : IsPrefix (room_cmds conn k.number acts ++ more) (room_cmds conn k.number acts ++ Begin start ∷ []) = (Begin start ∷ [], append_assoc (room_cmds conn k.number acts) more (Begin start ∷ []) ∙ ap (λ (l : List RoomCmd). room_cmds conn k.number acts ++ (l ++ Begin start ∷ [])) none) in w)
        (λ (one : more ≡ Begin start ∷ []). prefix_same _ _ (ap (λ (l : List RoomCmd). room_cmds conn k.number acts ++ l) one))
        part in
        place_left hub conn ss acts (acts ++ heard bytes moment (in_hall cmd badge (Some start)) ∷ []) (length acts) k (omega arith)
        (subst (IsPrefix (room_cmds conn k.number acts)) (sym made) (prefix_front (room_cmds conn k.number acts) more))
        (subst (λ l. IsPrefix l (room_cmds conn k.number (acts ++ heard bytes moment (in_hall cmd badge (Some start)) ∷ []))) (sym made) (subst (IsPrefix (room_cmds conn k.number acts ++ more)) (sym all) high))
        (told_moved hub conn ss h more k m same_id p.within p.told)
        (λ e. m.moves.looks ∙ (p.waiting (sym same_id ∙ e)).looks)
        (λ id e. (
        let q = p.holding id (sym same_id ∙ e) in
        let joined : since k.number acts ≢ [] = ⊎_elim
        (λ (j : (since h.number acts ≢ []) × (IsUpToDate old → IsCaughtUp h.pass.1 h.at)). (let w : since k.number acts ≢ [] = (λ bare. j.0 (ap (λ (n : ℕ). since n acts) (sym m.place) ∙ bare)) in w))
        (λ (j : (None ≡ Some id) × (since h.number acts ≡ [])). absurd (none-some id j.0))
        q.1 in
        room_on hub conn acts (heard bytes moment (in_hall cmd badge (Some start))) ss id k joined (sits_moved hub conn ss acts (length acts) id h more k m q.0)
        ))

    -- another place, at which nothing happened
    beside_left : (k : RoomPass) → 15 + start.number ≢ k.number → IsPlace hub conn ss acts None (IsUpToDate old) k × IsBattle hub conn ss k → PlaceLeft false hub conn acts (acts ++ heard bytes moment (in_hall cmd badge (Some start)) ∷ []) ss k
    beside_left k ne p = left_whole hub conn ss acts (heard bytes moment (in_hall cmd badge (Some start))) k (place_on hub conn ss acts None (IsUpToDate old) (heard bytes moment (in_hall cmd badge (Some start))) k (quiet_start conn k.number bytes moment cmd badge start ne) (λ id e not_one named. absurd (none-some id not_one)) p)

    -- the Begin isn't there at its place
    unbegun_left : (k : RoomPass) → IsPlace hub conn ss acts None (IsUpToDate old) k × IsBattle hub conn ss k → PlaceLeft false hub conn acts (acts ++ heard bytes moment (in_hall cmd badge (Some start)) ∷ []) ss k
    unbegun_left k p = ⊎_elim
        (λ (here : (eqb (15 + start.number) k.number ≡ true) × (15 + start.number ≡ k.number)). begun_left k k p.0 (sym here.1) refl [] (inl refl) record { place = refl; at = refl; moves = stays k.pass.1 k.pass.1 refl })
        (λ (other : (eqb (15 + start.number) k.number ≡ false) × (15 + start.number ≢ k.number)). beside_left k other.1 p)
        (eqb_tells (15 + start.number) k.number)

    begun_breaks : {does : RoomPass → RoomPass → Type 0} → (b : BeginsAt hub start does mid new) (more : List RoomCmd) → (more ≡ []) ⊎ (more ≡ Begin start ∷ []) → IsMoved b.before more b.behind → Breaks hub conn open_at acts ss r old s (acts ++ heard bytes moment (in_hall cmd badge (Some start)) ∷ []) new
    begun_breaks b more part m = record {
      are = are;
      conn_is = b.but.conn ∙ d.conn_is;
      made = hall_entries conn acts ++ hall_entry conn moment cmd ∷ [];
      low = prefix_front (hall_entries conn acts) (hall_entry conn moment cmd ∷ []);
      high = high_of hub conn open_at acts ss s.hall_pass old cmd moment (heard bytes moment (in_hall cmd badge (Some start))) (hall_entry conn moment cmd ∷ []) refl (inr refl);
      hall_pass = d.hall_pass;
      hall = b.but.hall ∙ d.hall;
      kin = d.kin;
      hall_is = d.is;
      rooms = new_all hub conn mid.rooms.items b.before b.behind new.rooms.items (beside_begun b) (λ (o : RoomPass). IsPlace hub conn ss acts None (IsUpToDate old) o × IsBattle hub conn ss o) (PlaceLeft false hub conn acts (acts ++ heard bytes moment (in_hall cmd badge (Some start)) ∷ []) ss) (amid mid.rooms.items d.rooms).places
          (λ o ne p. beside_left o (λ e. ne (sym e ∙ sym b.number)) p)
          (begun_left b.before b.behind (place_begun b) b.number b.id more part m);
      apart = new_apart hub conn mid.rooms.items b.before b.behind new.rooms.items (beside_begun b);
      grows = grows_begun b more m;
      named = named_begun b;
      last = heard bytes moment (in_hall cmd badge (Some start)) ∷ [];
      all_is = refl;
      badge_is = b.but.badge ∙ d.badge_is ∙ badge_given badge old.badge r s.badge_is;
      gave = (inl d.gave, refl);
    }

    pub begins_break : BeginsAt hub start BeginsNothing mid new → Breaks hub conn open_at acts ss r old s (acts ++ heard bytes moment (in_hall cmd badge (Some start)) ∷ []) new
    begins_break b = ⊎_elim
        (λ (e : b.behind.pass.1 ≡ b.before.pass.1). begun_breaks b [] (inl refl) record { place = b.but.same_place; at = b.at; moves = stays b.before.pass.1 b.behind.pass.1 e })
        (λ (t : TurnsAtLast b.before.pass.1 None b.behind.pass.1). begun_breaks b [] (inl refl) record { place = b.but.same_place; at = b.at; moves = last_turns_move b.before.pass.1 b.behind.pass.1 t })
        b.done.1

    -- there was none at all
    pub begins_none : IsAsBefore mid new → Breaks hub conn open_at acts ss r old s (acts ++ heard bytes moment (in_hall cmd badge (Some start)) ∷ []) new
    begins_none e =
        let rooms : new.rooms.items ≡ old.rooms.items = e.1 ∙ d.rooms in
        let badge_is : new.badge ≡ badge_after old.badge badge = ap (λ (p : Passes). p.badge) e.0 ∙ d.badge_is in
        record {
          are = are;
          conn_is = ap (λ (p : Passes). p.conn) e.0 ∙ d.conn_is;
          made = hall_entries conn acts ++ hall_entry conn moment cmd ∷ [];
          low = prefix_front (hall_entries conn acts) (hall_entry conn moment cmd ∷ []);
          high = high_of hub conn open_at acts ss s.hall_pass old cmd moment (heard bytes moment (in_hall cmd badge (Some start))) (hall_entry conn moment cmd ∷ []) refl (inr refl);
          hall_pass = d.hall_pass;
          hall = ap (λ (p : Passes). p.hall) e.0 ∙ d.hall;
          kin = d.kin;
          hall_is = d.is;
          rooms = All-weaker (λ (o : RoomPass). IsPlace hub conn ss acts None (IsUpToDate old) o × IsBattle hub conn ss o) (PlaceLeft false hub conn acts (acts ++ heard bytes moment (in_hall cmd badge (Some start)) ∷ []) ss) unbegun_left new.rooms.items (amid new.rooms.items rooms).places;
          apart = subst AreApart (sym rooms) s.apart;
          grows = subst (Grows old.rooms.items) (sym rooms) (grows_self old.rooms.items);
          named = subst (All (λ (k : RoomPass). IsSome k.id → IsSome new.badge)) (sym rooms) (named_on badge new badge_is);
          last = heard bytes moment (in_hall cmd badge (Some start)) ∷ [];
          all_is = refl;
          badge_is = badge_is ∙ badge_given badge old.badge r s.badge_is;
          gave = (inl d.gave, refl);
        }
