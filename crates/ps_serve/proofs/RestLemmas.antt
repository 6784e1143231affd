-- What a session has at its end, before its Quits.
use Rattle.std.proofs.Common.{◌≡◌, ◌⊎◌, ℕ, ◌+◌, ◌-◌, ◌<◌, ◌≤◌, Bool, true, false, List, [], ◌∷◌, ◌++◌, length, take, drop, get_or, Option, Some, None, refl, ap, sym, ◌∙◌, subst, inl, inr, ⊎_elim, arith}
use Rattle.std.specs.Prelude.{All, IsSome, IfSome}
use Rattle.std.proofs.lemmas.List.{append-nil, take-append-drop}
use Rattle.std.proofs.lemmas.List.Elements.{All-nil}
use Rattle.ps_histlock.specs.declared.view.Entry.{Entry}
use Rattle.ps_histlock.specs.declared.view.View.{View}
use Rattle.ps_histlock.specs.Histories.{commands, entries_of}
use Rattle.ps_histlock.proofs.Lists.{none_before}
use Rattle.ps_session.specs.Sessions.{Record, begun}
use Rattle.ps_outside.specs.Links.{Talk, LinkCounts}
use Rattle.server_places.specs.Rooms.{Shows}
use Rattle.server_places.specs.Halls.{HallShows}
use Rattle.ps_hub.specs.Hubs.{Hub, root_of, site_of}
use Rattle.ps_hub.specs.Names.{Names}
use Rattle.ps_hub.specs.Passes.{HallPass, RoomPass, AreOf, IsHallPass, IsRoomPass}
use Rattle.ps_hub.specs.declared.passes.Passes.{Passes}
use Rattle.ps_hub.proofs.PassListLemmas.{hall_of}
use Rattle.ps_serve.specs.declared.closed.End.{End}
use Rattle.ps_serve.specs.declared.closed.End.TheVariants as ends
use Rattle.ps_serve.specs.Acts.{Act, after_acts, AreActs, moments_of, hall_entries, room_cmds, since, all_begun}
use Rattle.ps_serve.specs.Sendings.{Sending, AreLooksAnswered}
use Rattle.ps_serve.specs.Sittings.{IsSent, HasOpen, HallSits, RoomSits, RoomWaits, SitsBy, PlaceSits, Sits, IsCaughtUp, IsUpToDate, AreGiven, AreApart, IsFrom, IsBegun, LooksLeft, PlaceLeft, Left, HeldFull, SitsFull}
use Rattle.ps_serve.specs.Steps.{Hours, Asked}
use Rattle.ps_serve.specs.Ends.{Account, is_short, is_broken, IsAccount, AllOrPart, HallGiven, RoomGivenBy, AreLooksSo, RoomLooksBy, IsSentSo, AreAnswers, IsAskedBy, IsAsked, AreSure, HasCause}
use Rattle.ps_serve.specs.Rests.{HallRests, RoomRests, HasExtraAt, Rests}
use Rattle.ps_serve.proofs.Prefixes.{prefix_same}
use Rattle.ps_serve.proofs.LookLemmas.{whole_part, all_answered}

-- ---- what was handed out

module _ {C : Type 0} where
  no_entries : (xs : List (Entry C)) → commands xs ≡ [] → xs ≡ []
  no_entries [] e = refl
  no_entries (x ∷ xs) e = absurd (let bad : x.cmd ∷ commands xs ≡ [] = e in cc)

  -- all own entries stand in what was handed out, or there are none
  pub handed_at : (number at : ℕ) (mine seen : List (Entry C)) (all : List C) → mine ≡ entries_of number seen → commands mine ≡ all → (all ≡ []) ⊎ (entries_of number (take at seen) ≡ mine) → commands (entries_of number (take at seen)) ≡ all
  handed_at number at mine seen all own e (inr there) = ap (λ (l : List (Entry C)). commands l) there ∙ e
  handed_at number at mine seen all own e (inl none) =
      let no : entries_of number seen ≡ [] = sym own ∙ no_entries mine (e ∙ none) in
      ap (λ (l : List (Entry C)). commands l) (none_before number (take at seen) seen (drop at seen, take-append-drop at seen) no) ∙ sym none

module _ {C : Type 0} (shows : List C → List (List (List ℕ)) → Type 0) where
  none_within : (at : ℕ) (looks : List ℕ) → length looks ≡ 0 → All (λ n. n ≤ at) looks
  none_within at [] e = All-nil (λ n. n ≤ at)
  none_within at (n ∷ looks) e = absurd (let bad : length (n ∷ looks) ≡ 0 = e in omega arith)

  pub looks_whole : (cmds : List C) (at : ℕ) (room : Option (List ℕ)) (place : Option ℕ) (ss : List Sending) (first count : ℕ) (looks : List ℕ) → length looks ≡ count → AreLooksAnswered shows cmds room place ss first looks → (count ≡ 0) ⊎ All (λ n. n ≤ at) looks → AreLooksSo shows false cmds at room place ss first count looks
  looks_whole cmds at room place ss first count looks e a (inl none) = (e, a, none_within at looks (e ∙ none))
  looks_whole cmds at room place ss first count looks e a (inr within) = (e, a, within)

  -- whatever holds of a whole session holds of one that broke off
  pub looks_so : (b : Bool) (cmds : List C) (at : ℕ) (room : Option (List ℕ)) (place : Option ℕ) (ss : List Sending) (first count : ℕ) (looks : List ℕ) → AreLooksSo shows false cmds at room place ss first count looks → AreLooksSo shows b cmds at room place ss first count looks
  looks_so false cmds at room place ss first count looks a = a
  looks_so true cmds at room place ss first count looks a =
      let e : length looks ≡ count = a.0 in
      all_answered shows cmds room place ss first (count - 1) count looks a.1 (omega arith) (omega arith)

  pub sent_so : (b : Bool) (cmds : List C) (at : ℕ) (room : Option (List ℕ)) (place : Option ℕ) (ss : List Sending) → IsSent shows cmds at room place ss → IsSentSo shows b cmds at room place ss
  sent_so false cmds at room place ss s = s
  sent_so true cmds at room place ss s = whole_part shows cmds at room place ss s

pub part_so : {C : Type 0} (s : Bool) (made all : List C) → made ≡ all → AllOrPart s made all
part_so false made all e = e
part_so true made all e = prefix_same made all e

-- ---- the hall

-- all was handed out that the looks showed, or nothing was made yet
abbrev pub IsAtEnd : {O C : Type 0} → List Act → View O C → ℕ → Type 0
IsAtEnd acts v at = (acts ≡ []) ⊎ IsCaughtUp v at

pub hall_whole : (hub : Hub) (conn : ℕ) (t : Account) (h : HallPass) → IsHallPass hub conn h → HallSits hub conn t.acts (length t.acts) t.sendings h → IsAtEnd t.acts h.pass.1 h.at → HallRests false false hub conn t h
hall_whole hub conn t h is s end = record {
  entries = s.entries;
  given = handed_at h.pass.1.number h.at h.pass.1.mine h.pass.1.seen (hall_entries conn t.acts) is.rest.2 s.entries (⊎_elim (λ (e : t.acts ≡ []). inl (ap (hall_entries conn) e)) (λ (u : IsCaughtUp h.pass.1 h.at). inr u.own) end);
  looks = looks_whole (HallShows conn (root_of hub)) (commands h.pass.1.seen) h.at None None t.sendings 1 (length t.acts) h.pass.1.looks s.count s.looks
      (⊎_elim (λ (e : t.acts ≡ []). inl (ap length e)) (λ (u : IsCaughtUp h.pass.1 h.at). inr u.looks) end);
  sent = s.sent;
}

pub hall_so : (b s : Bool) (hub : Hub) (conn : ℕ) (t : Account) (h : HallPass) → HallRests false false hub conn t h → HallRests b s hub conn t h
hall_so b s hub conn t h r = record {
  entries = part_so s (commands h.pass.1.mine) (hall_entries conn t.acts) r.entries;
  given = given_so b r.given;
  looks = looks_so (HallShows conn (root_of hub)) b (commands h.pass.1.seen) h.at None None t.sendings 1 (length t.acts) h.pass.1.looks r.looks;
  sent = sent_so (HallShows conn (root_of hub)) b (commands h.pass.1.seen) h.at None None t.sendings r.sent;
} where
  given_so : (b : Bool) → HallGiven false conn t h → HallGiven b conn t h
  given_so true g = tt
  given_so false g = g

-- ---- rooms

room_given : (id : Option (List ℕ)) (b : Bool) (conn : ℕ) (t : Account) (k : RoomPass) → (IsSome id → commands (entries_of k.pass.1.number (take k.at k.pass.1.seen)) ≡ room_cmds conn k.number t.acts) → RoomGivenBy id b conn t k
room_given None b conn t k e = tt
room_given (Some id) true conn t k e = tt
room_given (Some id) false conn t k e = e refl

room_looks_so : (id : Option (List ℕ)) (b : Bool) (hub : Hub) (conn : ℕ) (t : Account) (k : RoomPass) → RoomLooksBy id false hub conn t k → RoomLooksBy id b hub conn t k
room_looks_so None b hub conn t k a = a
room_looks_so (Some id) b hub conn t k a = looks_so (Shows conn (site_of hub k.number)) b (commands k.pass.1.seen) k.at (Some id) (Some k.number) t.sendings (length t.acts - length (since k.number t.acts) + 1) (length (since k.number t.acts)) k.pass.1.looks a

given_still : (id : Option (List ℕ)) (b : Bool) (conn : ℕ) (t : Account) (k : RoomPass) → RoomGivenBy id false conn t k → RoomGivenBy id b conn t k
given_still None b conn t k g = tt
given_still (Some id) true conn t k g = tt
given_still (Some id) false conn t k g = g

pub room_so : (b s : Bool) (hub : Hub) (conn : ℕ) (t : Account) (k : RoomPass) → RoomRests false false hub conn t k → RoomRests b s hub conn t k
room_so b s hub conn t k r = record {
  entries = part_so s (commands k.pass.1.mine) (room_cmds conn k.number t.acts) r.entries;
  given = given_still k.id b conn t k r.given;
  looks = room_looks_so k.id b hub conn t k r.looks;
  sent = sent_so (Shows conn (site_of hub k.number)) b (commands k.pass.1.seen) k.at k.id (Some k.number) t.sendings r.sent;
  named = r.named;
}

held_looks : (hub : Hub) (conn : ℕ) (t : Account) (id : List ℕ) (k : RoomPass) → RoomSits hub conn t.acts (length t.acts) t.sendings id k → IsAtEnd t.acts k.pass.1 k.at → RoomLooksBy (Some id) false hub conn t k
held_looks hub conn t id k s end =
    let counted : length k.pass.1.looks + (length t.acts - length t.acts) ≡ length (since k.number t.acts) = s.count in
    looks_whole (Shows conn (site_of hub k.number)) (commands k.pass.1.seen) k.at (Some id) (Some k.number) t.sendings (length t.acts - length (since k.number t.acts) + 1) (length (since k.number t.acts)) k.pass.1.looks (omega arith) s.looks
    (⊎_elim (λ (e : t.acts ≡ []). inl (ap (λ (l : List Act). length (since k.number l)) e)) (λ (u : IsCaughtUp k.pass.1 k.at). inr u.looks) end)

-- what is known of the looks of a place: those of a room that is held, or that there are none
abbrev pub HeldOrNone : Option (List ℕ) → Hub → ℕ → Account → RoomPass → Type 0
HeldOrNone (Some id) hub conn t k = RoomSits hub conn t.acts (length t.acts) t.sendings id k
HeldOrNone None hub conn t k = k.pass.1.looks ≡ []

by_looks : (id : Option (List ℕ)) (hub : Hub) (conn : ℕ) (t : Account) (k : RoomPass) → HeldOrNone id hub conn t k → (IsSome id → IsAtEnd t.acts k.pass.1 k.at) → RoomLooksBy id false hub conn t k
by_looks None hub conn t k s end = s
by_looks (Some id) hub conn t k s end = held_looks hub conn t id k s (end refl)

by_name : (id : Option (List ℕ)) (hub : Hub) (conn : ℕ) (t : Account) (k : RoomPass) → HeldOrNone id hub conn t k → IfSome id (λ i. Names hub.config i k.number)
by_name None hub conn t k s = tt
by_name (Some id) hub conn t k s = s.named

pub room_whole : (hub : Hub) (conn : ℕ) (t : Account) (k : RoomPass) → IsRoomPass hub conn k → commands k.pass.1.mine ≡ room_cmds conn k.number t.acts → IsSent (Shows conn (site_of hub k.number)) (commands k.pass.1.seen) k.at k.id (Some k.number) t.sendings → HeldOrNone k.id hub conn t k → (IsSome k.id → IsAtEnd t.acts k.pass.1 k.at) → RoomRests false false hub conn t k
room_whole hub conn t k is made sent s end = record {
  entries = made;
  given = room_given k.id false conn t k (λ held. handed_at k.pass.1.number k.at k.pass.1.mine k.pass.1.seen (room_cmds conn k.number t.acts) is.place.rest.2 made (⊎_elim (λ (e : t.acts ≡ []). inl (ap (room_cmds conn k.number) e)) (λ (u : IsCaughtUp k.pass.1 k.at). inr u.own) (end held)));
  looks = by_looks k.id hub conn t k s end;
  sent = sent;
  named = by_name k.id hub conn t k s;
}

by_sits : (id : Option (List ℕ)) (hub : Hub) (conn : ℕ) (t : Account) (k : RoomPass) → SitsBy id hub conn t.acts (length t.acts) t.sendings k → HeldOrNone id hub conn t k
by_sits None hub conn t k s = s.looks
by_sits (Some id) hub conn t k s = s

by_full : (id : Option (List ℕ)) (hub : Hub) (conn : ℕ) (t : Account) (k : RoomPass) → HeldFull id hub conn t.acts t.sendings k → HeldOrNone id hub conn t k
by_full None hub conn t k s = s
by_full (Some id) hub conn t k s = s

-- ---- all of it, where nothing broke off

pub record Whole (hub : Hub) (conn : ℕ) (t : Account) (passes : Passes) : Type 0 where
  pub are : AreOf hub passes
  pub conn_is : passes.conn ≡ conn
  pub way : AreActs (begun conn) t.acts
  pub hall_pass : HallPass
  pub hall : passes.hall ≡ Some hall_pass
  pub hall_rests : HallRests false false hub conn t hall_pass
  pub rooms : All (RoomRests false false hub conn t) passes.rooms.items
  pub apart : AreApart passes.rooms.items
  pub from : All (IsFrom passes.rooms.items) t.sendings
  pub named : All (λ (k : RoomPass). IsSome k.id → IsSome passes.badge) passes.rooms.items
  pub badge : passes.badge ≡ (after_acts (begun conn) t.acts).badge
  pub gave : AreGiven hub conn [] t.acts hall_pass passes.rooms.items
  pub begun_all : All (IsBegun passes.rooms.items) (all_begun t.acts)
  pub opened : HasOpen conn t.opened hall_pass

-- what is known of a session that is up to date, or has done nothing yet
abbrev pub IsUp : List Act → Passes → Type 0
IsUp acts passes = (acts ≡ []) ⊎ IsUpToDate passes

hall_end : (acts : List Act) (passes : Passes) (h : HallPass) → passes.hall ≡ Some h → IsUp acts passes → IsAtEnd acts h.pass.1 h.at
hall_end acts passes h is (inl e) = inl e
hall_end acts passes h is (inr up) = inr (up.hall h is)

room_end : (acts : List Act) (passes : Passes) (i : ℕ) (d : RoomPass) → i < length passes.rooms.items → IsUp acts passes → IsSome (get_or passes.rooms.items i d).id → IsAtEnd acts (get_or passes.rooms.items i d).pass.1 (get_or passes.rooms.items i d).at
room_end acts passes i d lt (inl e) held = inl e
room_end acts passes i d lt (inr up) held = inr (up.rooms i d lt held)

pub whole_sits : (hub : Hub) (conn : ℕ) (t : Account) (session : Record) (passes : Passes) → Sits hub conn t.opened t.acts (length t.acts) t.sendings session passes → IsUp t.acts passes → Whole hub conn t passes
whole_sits hub conn t session passes s up = record {
  are = s.are;
  conn_is = s.conn_is;
  way = s.way;
  hall_pass = s.hall_pass;
  hall = s.hall;
  hall_rests = hall_whole hub conn t s.hall_pass (subst (λ (n : ℕ). IsHallPass hub n s.hall_pass) s.conn_is (hall_of hub passes s.hall_pass s.are s.hall)) s.hall_sits (hall_end t.acts passes s.hall_pass s.hall up);
  rooms = λ i d lt. room_whole hub conn t (get_or passes.rooms.items i d) (subst (λ (n : ℕ). IsRoomPass hub n (get_or passes.rooms.items i d)) s.conn_is (s.are.rooms i d lt)) (s.rooms i d lt).0 (s.rooms i d lt).1 (by_sits (get_or passes.rooms.items i d).id hub conn t (get_or passes.rooms.items i d) (s.rooms i d lt).2) (room_end t.acts passes i d lt up);
  apart = s.apart;
  from = s.from;
  named = s.named;
  badge = s.badge_is ∙ ap (λ (r : Record). r.badge) s.session_is;
  gave = s.gave;
  begun_all = s.begun;
  opened = s.opened;
}

pub whole_full : (hub : Hub) (conn : ℕ) (t : Account) (passes : Passes) → SitsFull hub conn t.opened t.acts t.sendings passes → IsUp t.acts passes → passes.badge ≡ (after_acts (begun conn) t.acts).badge → Whole hub conn t passes
whole_full hub conn t passes s up badge = record {
  are = s.are;
  conn_is = s.conn_is;
  way = s.way;
  hall_pass = s.hall_pass;
  hall = s.hall;
  hall_rests = hall_whole hub conn t s.hall_pass (subst (λ (n : ℕ). IsHallPass hub n s.hall_pass) s.conn_is (hall_of hub passes s.hall_pass s.are s.hall)) s.hall_sits (hall_end t.acts passes s.hall_pass s.hall up);
  rooms = λ i d lt. room_whole hub conn t (get_or passes.rooms.items i d) (subst (λ (n : ℕ). IsRoomPass hub n (get_or passes.rooms.items i d)) s.conn_is (s.are.rooms i d lt)) (s.rooms i d lt).0 (s.rooms i d lt).1 (by_full (get_or passes.rooms.items i d).id hub conn t (get_or passes.rooms.items i d) (s.rooms i d lt).2) (room_end t.acts passes i d lt up);
  apart = s.apart;
  from = s.from;
  named = s.named;
  badge = badge;
  gave = s.gave;
  begun_all = s.begun;
  opened = s.opened;
}

-- ---- the rest of a whole session, at any end

pub answers_so : (s : Bool) (hub : Hub) (conn : ℕ) (t : Account) (rooms : List RoomPass) (h : HallPass) → AreGiven hub conn [] t.acts h rooms → AreAnswers s hub conn t rooms h
answers_so true hub conn t rooms h g = (t.acts, ([], sym (append-nil t.acts), g, tt))
answers_so false hub conn t rooms h g = g

sure_so : (s : Bool) (acts : List Act) → AreSure s acts acts
sure_so true acts = ([], sym (append-nil acts), omega arith)
sure_so false acts = refl

pub rests_whole : (end : End) (hub : Hub) (conn : ℕ) (t : Account) (passes : Passes) (talk0 talk : Option Talk) (counts0 counts : LinkCounts) (hours0 hours : Hours)
    → Whole hub conn t passes → IsAccount conn t talk0 talk → HasCause end hub conn t passes.rooms.items talk counts0 counts → HasExtraAt end conn t → All (IsAsked end hub t) passes.rooms.items → Asked hours0 (moments_of t.acts ++ t.extra) hours → Rests end hub conn t passes talk0 talk counts0 counts hours0 hours
rests_whole end hub conn t passes talk0 talk counts0 counts hours0 hours w told cause extra asked asked_for = record {
  are = w.are;
  conn_is = w.conn_is;
  told = told;
  hall_pass = w.hall_pass;
  hall = w.hall;
  hall_rests = hall_so (is_broken end) (is_short end) hub conn t w.hall_pass w.hall_rests;
  rooms = λ i d lt. room_so (is_broken end) (is_short end) hub conn t (get_or passes.rooms.items i d) (w.rooms i d lt);
  asked = asked;
  apart = w.apart;
  from = w.from;
  named = w.named;
  badge = w.badge;
  gave = answers_so (is_short end) hub conn t passes.rooms.items w.hall_pass w.gave;
  sure = t.acts;
  are_sure = sure_so (is_short end) t.acts;
  begun = w.begun_all;
  early = λ i d lt. prefix_same (room_cmds conn (get_or passes.rooms.items i d).number t.acts) (commands (get_or passes.rooms.items i d).pass.1.mine) (sym (w.rooms i d lt).entries);
  opened = w.opened;
  cause = cause;
  extra = extra;
  asked_for = asked_for;
}

-- ---- what is asked of the places that aren't held

waits_of : (id : Option (List ℕ)) (hub : Hub) (conn : ℕ) (t : Account) (k : RoomPass) → SitsBy id hub conn t.acts (length t.acts) t.sendings k → IsAskedBy id hub t k
waits_of None hub conn t k s = s
waits_of (Some id) hub conn t k s = tt

pub asked_so : (end : End) (hub : Hub) (t : Account) (k : RoomPass) → IsAskedBy k.id hub t k → IsAsked end hub t k
asked_so ends.NoMemory hub t k a = tt
asked_so ends.Taken hub t k a = tt
asked_so (ends.OwnLimit room) hub t k a = tt
asked_so ends.Closed hub t k a = a
asked_so ends.LinkFault hub t k a = a
asked_so (ends.BadText bytes) hub t k a = a

pub asked_sits : (end : End) (hub : Hub) (conn : ℕ) (t : Account) (rooms : List RoomPass) → All (PlaceSits hub conn t.acts (length t.acts) t.sendings) rooms → All (IsAsked end hub t) rooms
asked_sits end hub conn t rooms all i d lt = asked_so end hub t (get_or rooms i d) (waits_of (get_or rooms i d).id hub conn t (get_or rooms i d) (all i d lt).2)

-- ---- a session that broke off

-- its link failed
left_looks : (id : Option (List ℕ)) (hub : Hub) (conn : ℕ) (t : Account) (k : RoomPass) → LooksLeft id hub conn t.acts t.sendings k → RoomLooksBy id true hub conn t k
left_looks None hub conn t k l = l
left_looks (Some id) hub conn t k l = l.1

left_name : (id : Option (List ℕ)) (hub : Hub) (conn : ℕ) (t : Account) (k : RoomPass) → LooksLeft id hub conn t.acts t.sendings k → IfSome id (λ i. Names hub.config i k.number)
left_name None hub conn t k l = tt
left_name (Some id) hub conn t k l = l.0

pub given_broken : (id : Option (List ℕ)) (conn : ℕ) (t : Account) (k : RoomPass) → RoomGivenBy id true conn t k
given_broken None conn t k = tt
given_broken (Some id) conn t k = tt

room_failed : (hub : Hub) (conn : ℕ) (early : List Act) (t : Account) (k : RoomPass) → PlaceLeft true hub conn early t.acts t.sendings k → RoomRests true false hub conn t k
room_failed hub conn early t k l = record { entries = l.entries; given = given_broken k.id conn t k; looks = left_looks k.id hub conn t k l.looks; sent = l.sent; named = left_name k.id hub conn t k l.looks }

room_short : (hub : Hub) (conn : ℕ) (early : List Act) (t : Account) (k : RoomPass) → PlaceLeft false hub conn early t.acts t.sendings k → RoomRests true true hub conn t k
room_short hub conn early t k l = record { entries = l.entries.1; given = given_broken k.id conn t k; looks = left_looks k.id hub conn t k l.looks; sent = l.sent; named = left_name k.id hub conn t k l.looks }

waits_left : (id : Option (List ℕ)) (hub : Hub) (t : Account) (k : RoomPass) → (id ≡ None → RoomWaits hub t.acts k) → IsAskedBy id hub t k
waits_left None hub t k w = w refl
waits_left (Some id) hub t k w = tt

pub rests_failed : (hub : Hub) (conn : ℕ) (early : List Act) (t : Account) (passes : Passes) (talk0 talk : Option Talk) (counts0 counts : LinkCounts) (hours0 hours : Hours)
    → Left true hub conn t.opened early t.acts t.sendings passes → IsAccount conn t talk0 talk → HasCause ends.LinkFault hub conn t passes.rooms.items talk counts0 counts → HasExtraAt ends.LinkFault conn t → Asked hours0 (moments_of t.acts ++ t.extra) hours → Rests ends.LinkFault hub conn t passes talk0 talk counts0 counts hours0 hours
rests_failed hub conn early t passes talk0 talk counts0 counts hours0 hours l told cause extra asked_for = record {
  are = l.are;
  conn_is = l.conn_is;
  told = told;
  hall_pass = l.hall_pass;
  hall = l.hall;
  hall_rests = record { entries = l.hall_left.entries; given = tt; looks = l.hall_left.looks; sent = l.hall_left.sent };
  rooms = λ i d lt. room_failed hub conn early t (get_or passes.rooms.items i d) (l.rooms i d lt);
  asked = λ i d lt. waits_left (get_or passes.rooms.items i d).id hub t (get_or passes.rooms.items i d) ((l.rooms i d lt).waits refl);
  apart = l.apart;
  from = l.from;
  named = l.named;
  badge = l.badge_is;
  gave = l.gave;
  sure = t.acts;
  are_sure = refl;
  begun = l.begun;
  early = λ i d lt. prefix_same (room_cmds conn (get_or passes.rooms.items i d).number t.acts) (commands (get_or passes.rooms.items i d).pass.1.mine) (sym (l.rooms i d lt).entries);
  opened = l.opened;
  cause = cause;
  extra = extra;
  asked_for = asked_for;
}

-- memory ran out
pub rests_short : (hub : Hub) (conn : ℕ) (early last : List Act) (t : Account) (passes : Passes) (talk0 talk : Option Talk) (counts0 counts : LinkCounts) (hours0 hours : Hours)
    → Left false hub conn t.opened early t.acts t.sendings passes → t.acts ≡ early ++ last → length last ≤ 1 → IsAccount conn t talk0 talk → HasCause ends.NoMemory hub conn t passes.rooms.items talk counts0 counts → HasExtraAt ends.NoMemory conn t → Asked hours0 (moments_of t.acts ++ t.extra) hours → Rests ends.NoMemory hub conn t passes talk0 talk counts0 counts hours0 hours
rests_short hub conn early last t passes talk0 talk counts0 counts hours0 hours l parts one told cause extra asked_for = record {
  are = l.are;
  conn_is = l.conn_is;
  told = told;
  hall_pass = l.hall_pass;
  hall = l.hall;
  hall_rests = record { entries = l.hall_left.entries.1; given = tt; looks = l.hall_left.looks; sent = l.hall_left.sent };
  rooms = λ i d lt. room_short hub conn early t (get_or passes.rooms.items i d) (l.rooms i d lt);
  asked = λ i d lt. tt;
  apart = l.apart;
  from = l.from;
  named = l.named;
  badge = l.badge_is;
  gave = (early, l.gave);
  sure = early;
  are_sure = (last, parts, one);
  begun = l.begun;
  early = λ i d lt. (l.rooms i d lt).entries.0;
  opened = l.opened;
  cause = cause;
  extra = extra;
  asked_for = asked_for;
}
