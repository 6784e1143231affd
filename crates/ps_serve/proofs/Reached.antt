-- From a session to the one after its next act, or to one that broke off in it.
use Rattle.std.proofs.Common.{◌≡◌, ℕ, ◌+◌, ◌-◌, ◌≤◌, false, List, [], ◌∷◌, ◌++◌, length, sym, ap, ◌∙◌, subst, arith, All, Some, None, append-nil, length-append}
use Rattle.std.specs.Prelude.{IsSome}
use Rattle.std.proofs.lemmas.List.Elements.{All-append, All-weaker}
use mathlib.Core.List.{IsPrefix}
use Rattle.ps_hall.specs.declared.entry.HallEntry.{HallEntry}
use Rattle.ps_histlock.specs.Histories.{commands}
use Rattle.ps_session.specs.Sessions.{Record, begun}
use Rattle.server_places.specs.Halls.{HallShows}
use Rattle.ps_hub.specs.Hubs.{Hub, root_of}
use Rattle.ps_hub.specs.Passes.{HallPass, RoomPass, AreOf}
use Rattle.ps_hub.specs.declared.passes.Passes.{Passes}
use Rattle.ps_serve.specs.Acts.{Act, after_act, after_acts, IsAct, AreActs, hall_of, hall_entries, begun_by, all_begun}
use Rattle.ps_serve.specs.Sendings.{Sending}
use Rattle.ps_serve.specs.Sittings.{AreApart, IsBegun, IsFrom, Gave, LastGave, Sits, AreAlmostAnswered, PlaceLeft, Left, PlaceFull, SitsFull}
use Rattle.ps_serve.proofs.Prefixes.{prefix_same}
use Rattle.ps_serve.proofs.PassLists.{Grows, begun_grows, from_grows}
use Rattle.ps_serve.proofs.Actions.{after_acts_more, after_acts-append, acts_more, hall_more, all_begun_more, given_more}
use Rattle.ps_serve.proofs.Places.{AreSitting}
use Rattle.ps_serve.proofs.Halls.{IsHall, IsHallKin, given_grows}

module _ (hub : Hub) (conn open_at : ℕ) (acts : List Act) (ss : List Sending) (r : Record) (old : Passes) (s : Sits hub conn open_at acts (length acts) ss r old) where
  -- What the passes and the session are after one act more.
  pub record Reaches (a : Act) (after : Record) (new : Passes) : Type 0 where
    pub act : IsAct r a
    pub are : AreOf hub new
    pub conn_is : new.conn ≡ conn
    pub session_is : after ≡ after_act r a
    pub badge_is : new.badge ≡ after.badge
    pub hall_pass : HallPass
    pub hall : new.hall ≡ Some hall_pass
    pub kin : IsHallKin s.hall_pass hall_pass
    pub hall_is : IsHall hub conn open_at (hall_entries conn acts ++ hall_of conn a) (length acts) ss hall_pass
    pub rooms : AreSitting hub conn ss (acts ++ a ∷ []) (length acts) new.rooms.items
    pub grows : Grows old.rooms.items new.rooms.items
    pub starts : All (IsBegun new.rooms.items) (begun_by a)
    pub named : All (λ (k : RoomPass). IsSome k.id → IsSome new.badge) new.rooms.items
    pub gave : Gave hub conn acts a hall_pass new.rooms.items

  way_on : (a : Act) → IsAct r a → AreActs (begun conn) (acts ++ a ∷ [])
  way_on a act = acts_more (begun conn) acts a s.way (subst (λ (x : Record). IsAct x a) s.session_is act)

  begun_on : (new : Passes) → Grows old.rooms.items new.rooms.items → All (IsBegun new.rooms.items) (all_begun acts)
  begun_on new g = All-weaker (IsBegun old.rooms.items) (IsBegun new.rooms.items) (λ x is. begun_grows old.rooms.items new.rooms.items g x is) (all_begun acts) s.begun

  pub sits_next : (a : Act) (after : Record) (new : Passes) → Reaches a after new → Sits hub conn open_at (acts ++ a ∷ []) (length acts) ss after new
  sits_next a after new t = record {
    are = t.are;
    conn_is = t.conn_is;
    way = way_on a t.act;
    session_is = t.session_is ∙ ap (λ (x : Record). after_act x a) s.session_is ∙ sym (after_acts_more (begun conn) acts a);
    badge_is = t.badge_is;
    hall_pass = t.hall_pass;
    hall = t.hall;
    hall_sits = record { entries = t.hall_is.entries ∙ sym (hall_more conn acts a); count = t.hall_is.count; looks = t.hall_is.looks; sent = t.hall_is.told };
    rooms = λ i d lt. (t.rooms.places i d lt).0;
    joined = λ i d lt. (t.rooms.places i d lt).1;
    others = t.rooms.others;
    apart = t.rooms.apart;
    begun = subst (All (IsBegun new.rooms.items)) (sym (all_begun_more acts a)) (All-append (IsBegun new.rooms.items) (all_begun acts) (begun_by a) (begun_on new t.grows) t.starts);
    named = t.named;
    gave = given_more hub conn [] acts a t.hall_pass new.rooms.items (given_grows hub conn [] acts s.hall_pass t.hall_pass old.rooms.items new.rooms.items t.kin t.grows s.gave) t.gave;
    from = All-weaker (IsFrom old.rooms.items) (IsFrom new.rooms.items) (λ x is. from_grows old.rooms.items new.rooms.items t.grows x is) ss s.from;
    opened = t.hall_is.opened;
    on_time = s.on_time;
  }

  -- What the passes are where it broke off, where `made` are the hall's entries.
  pub record Breaks (all : List Act) (new : Passes) : Type 0 where
    pub are : AreOf hub new
    pub conn_is : new.conn ≡ conn
    pub made : List HallEntry
    pub low : IsPrefix (hall_entries conn acts) made
    pub high : IsPrefix made (hall_entries conn all)
    pub hall_pass : HallPass
    pub hall : new.hall ≡ Some hall_pass
    pub kin : IsHallKin s.hall_pass hall_pass
    pub hall_is : IsHall hub conn open_at made (length acts) ss hall_pass
    pub rooms : All (PlaceLeft false hub conn acts all ss) new.rooms.items
    pub apart : AreApart new.rooms.items
    pub grows : Grows old.rooms.items new.rooms.items
    pub named : All (λ (k : RoomPass). IsSome k.id → IsSome new.badge) new.rooms.items
    -- the act that may be there in part
    pub last : List Act
    pub all_is : all ≡ acts ++ last
    pub badge_is : new.badge ≡ (after_acts r last).badge
    pub gave : LastGave hub conn acts last hall_pass new.rooms.items

  left_all : (all : List Act) → length all ≤ length acts + 1 → length acts ≤ length all → AreActs (begun conn) all → (new : Passes) → Breaks all new → Left false hub conn open_at acts all ss new
  left_all all most least way new t = record {
    are = t.are;
    conn_is = t.conn_is;
    way = way;
    hall_pass = t.hall_pass;
    hall = t.hall;
    hall_left = record {
      entries = (subst (IsPrefix (hall_entries conn acts)) (sym t.hall_is.entries) t.low, subst (λ l. IsPrefix l (hall_entries conn all)) (sym t.hall_is.entries) t.high);
      looks = looks;
      sent = (t.hall_is.told.0, t.hall_is.told.1, prefix_same _ _ t.hall_is.told.2);
    };
    rooms = t.rooms;
    apart = t.apart;
    gave = (t.last, t.all_is, given_grows hub conn [] acts s.hall_pass t.hall_pass old.rooms.items new.rooms.items t.kin t.grows s.gave, t.gave);
    badge_is = t.badge_is ∙ ap (λ (x : Record). (after_acts x t.last).badge) s.session_is ∙ sym (ap (λ (x : Record). x.badge) (after_acts-append (begun conn) acts t.last)) ∙ ap (λ (l : List Act). (after_acts (begun conn) l).badge) (sym t.all_is);
    begun = begun_on new t.grows;
    from = All-weaker (IsFrom old.rooms.items) (IsFrom new.rooms.items) (λ x is. from_grows old.rooms.items new.rooms.items t.grows x is) ss s.from;
    named = t.named;
    opened = t.hall_is.opened;
  }
    where
      looks : AreAlmostAnswered (HallShows conn (root_of hub)) (commands t.hall_pass.pass.1.seen) None None ss 1 (length all - 1) (length all) t.hall_pass.pass.1.looks
      looks =
          let count : length t.hall_pass.pass.1.looks ≡ length acts = t.hall_is.count in
          record { early = t.hall_pass.pass.1.looks; last = []; parts = sym (append-nil t.hall_pass.pass.1.looks); one = omega arith; enough = omega arith; few = omega arith; answered = t.hall_is.looks }

  pub left_next : (a : Act) (new : Passes) → IsAct r a → Breaks (acts ++ a ∷ []) new → Left false hub conn open_at acts (acts ++ a ∷ []) ss new
  left_next a new act t =
      let more : length (acts ++ a ∷ []) ≡ length acts + 1 = length-append acts (a ∷ []) in
      left_all (acts ++ a ∷ []) (omega arith) (omega arith) (way_on a act) new t

  pub left_here : (new : Passes) → Breaks acts new → Left false hub conn open_at acts (acts ++ []) ss new
  left_here new t = subst (λ (all : List Act). Left false hub conn open_at acts all ss new) (sym (append-nil acts)) (left_all acts (omega arith) (omega arith) s.way new t)

  pub full_next : (new : Passes) → AreOf hub new → new.conn ≡ conn → new.hall ≡ old.hall → All (PlaceFull hub conn acts ss) new.rooms.items → AreApart new.rooms.items → Grows old.rooms.items new.rooms.items → All (λ (k : RoomPass). IsSome k.id → IsSome new.badge) new.rooms.items
      → IsHallKin s.hall_pass s.hall_pass → SitsFull hub conn open_at acts ss new
  full_next new are conn_is hall rooms apart grows named kin = record {
    are = are;
    conn_is = conn_is;
    way = s.way;
    hall_pass = s.hall_pass;
    hall = hall ∙ s.hall;
    hall_sits = s.hall_sits;
    rooms = rooms;
    apart = apart;
    gave = given_grows hub conn [] acts s.hall_pass s.hall_pass old.rooms.items new.rooms.items kin grows s.gave;
    from = All-weaker (IsFrom old.rooms.items) (IsFrom new.rooms.items) (λ x is. from_grows old.rooms.items new.rooms.items grows x is) ss s.from;
    begun = begun_on new grows;
    named = named;
    opened = s.opened;
  }
