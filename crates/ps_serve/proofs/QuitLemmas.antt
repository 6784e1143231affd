-- What the Quits at the end of a session leave of its passes.
use Rattle.std.proofs.Common.{◌≡◌, ◌⊎◌, ℕ, ◌+◌, ◌-◌, ◌≤◌, Bool, true, false, List, [], ◌∷◌, ◌++◌, length, take, Option, Some, None, refl, ap, sym, ◌∙◌, subst, inl, inr, arith}
use Rattle.std.specs.Prelude.{All, IsSome, IfSome}
use Rattle.std.specs.List.{AllZip}
use Rattle.std.proofs.lemmas.List.{append-nil, length-map}
use Rattle.std.proofs.lemmas.List.Elements.{All-head, All-tail}
use mathlib.Core.List.{IsPrefix}
use Rattle.ps_base.specs.declared.badge.Badge.{Badge}
use Rattle.ps_lines.specs.declared.command.Command.TheVariants as room_commands
use Rattle.ps_lines.specs.declared.command.HallCmd.TheVariants as hall_commands
use Rattle.ps_hall.specs.declared.entry.HallEntry.{HallEntry}
use Rattle.ps_histlock.specs.declared.view.Entry.{Entry}
use Rattle.ps_histlock.specs.declared.view.View.{View}
use Rattle.ps_histlock.specs.Histories.{commands, entries_of}
use Rattle.ps_histlock.proofs.Lists.{prefix_self}
use Rattle.server_places.specs.declared.command.RoomCmd.{RoomCmd}
use Rattle.server_places.specs.declared.command.RoomCmd.TheVariants.{Play}
use Rattle.server_places.specs.Rooms.{Shows}
use Rattle.server_places.specs.Halls.{HallShows}
use Rattle.ps_hub.specs.Hubs.{Hub, root_of, site_of}
use Rattle.ps_hub.specs.Names.{Names}
use Rattle.ps_hub.specs.Passes.{HallPass, RoomPass, IsHallPass, IsRoomPass}
use Rattle.ps_hub.specs.Calls.{hall_entry, room_entry, QuitsHall, QuitsHallAtMost, QuitsBy, QuitsRoom, QuitsRoomAtMost}
use Rattle.ps_hub.proofs.CallLemmas.{some_value}
use Rattle.ps_serve.specs.declared.closed.End.{End}
use Rattle.ps_serve.specs.Acts.{hall_entries, room_cmds, since}
use Rattle.ps_serve.specs.Sendings.{Sending}
use Rattle.ps_serve.specs.Ends.{Account, AllOrPart, AllThenQuit, hall_quit, room_quit, HallMade, RoomMadeBy, RoomMade, HallGiven, RoomGivenBy, RoomGiven, AreLooksSo, HallLooks, RoomLooksBy, RoomLooks, IsSentSo, HallSent, RoomSent, IsAskedBy, IsAsked}
use Rattle.ps_serve.specs.Rests.{HallRests, RoomRests}
use Rattle.ps_serve.proofs.Prefixes.{prefix_commands, take_prefix, looks_grow, sent_grows}
use Rattle.ps_serve.proofs.Halls.{IsHallKin}
use Rattle.ps_serve.proofs.Goings.{Goes, stays as is_still}
use Rattle.ps_serve.proofs.Moves.{Moves, rereads_move, in_the_end_moves}
use Rattle.ps_serve.proofs.RestLemmas.{asked_so}

-- ---- what was sent and looked at stays

module _ {C : Type 0} (shows : List C → List (List (List ℕ)) → Type 0) where
  looks_on : (b : Bool) (cmds more : List C) (at : ℕ) (room : Option (List ℕ)) (place : Option ℕ) (ss : List Sending) (first count : ℕ) (looks : List ℕ) → IsPrefix cmds more → AreLooksSo shows b cmds at room place ss first count looks → AreLooksSo shows b more at room place ss first count looks
  looks_on false cmds more at room place ss first count looks grows a = (a.0, looks_grow shows cmds more room place ss first looks grows a.1, a.2)
  looks_on true cmds more at room place ss first count looks grows a = record { early = a.early; last = a.last; parts = a.parts; one = a.one; enough = a.enough; few = a.few; answered = looks_grow shows cmds more room place ss first a.early grows a.answered }

  sent_on : (b : Bool) (cmds more : List C) (at : ℕ) (room : Option (List ℕ)) (place : Option ℕ) (ss : List Sending) → IsPrefix cmds more → at ≤ length cmds → IsSentSo shows b cmds at room place ss → IsSentSo shows b more at room place ss
  sent_on false cmds more at room place ss grows le s = sent_grows shows cmds more at room place ss le grows s
  sent_on true cmds more at room place ss grows le s = (s.0, subst (λ (xs : List C). shows xs s.0) (sym (take_prefix at cmds more le grows)) s.1, s.2)

-- ---- the Quit behind the entries

pub then_quit : {C : Type 0} (s : Bool) (was now all quit : List C) → AllOrPart s was all → now ≡ was ++ quit → AllThenQuit s now all quit
then_quit false was now all quit made is = is ∙ ap (λ l. l ++ quit) made
then_quit true was now all quit made is = (was, made, inr is)

pub at_most_quit : {C : Type 0} (was now all quit : List C) → AllOrPart true was all → (now ≡ was) ⊎ (now ≡ was ++ quit) → AllThenQuit true now all quit
at_most_quit was now all quit made is = (was, made, is)

cmds_same : {O C : Type 0} (v w : View O C) → Moves v [] w → commands w.mine ≡ commands v.mine
cmds_same v w m = m.mine ∙ append-nil (commands v.mine)

-- ---- the hall

-- it made these entries more, and handed out nothing
pub record HallWent (h k : HallPass) (more : List HallEntry) : Type 0 where
  pub went : Moves h.pass.1 more k.pass.1
  pub at : k.at ≡ h.at

pub quits_hall : (conn moment : ℕ) (h k : HallPass) → QuitsHall conn moment h k → HallWent h k (hall_quit conn moment)
quits_hall conn moment h k q = record { went = in_the_end_moves h.pass.1 (hall_entry conn moment hall_commands.Quit) k.pass.1 q.0; at = q.1 }

-- with the Quit, or without
abbrev pub HallWentAtMost : ℕ → ℕ → HallPass → HallPass → Type 0
HallWentAtMost conn moment h k = HallWent h k [] ⊎ HallWent h k (hall_quit conn moment)

pub quits_hall_at_most : (conn moment : ℕ) (h k : HallPass) → QuitsHallAtMost conn moment h k → HallWentAtMost conn moment h k
quits_hall_at_most conn moment h k (inl q) = inr (quits_hall conn moment h k q)
quits_hall_at_most conn moment h k (inr (at, cursor, read)) = inl (record { went = rereads_move h.pass.1 k.pass.1 read; at = at })

pub hall_grew : (h k : HallPass) (more : List HallEntry) → HallWent h k more → IsHallKin h k
hall_grew h k more w = record { number = w.went.number; seen = w.went.seen }

pub hall_within : (hub : Hub) (conn : ℕ) (h : HallPass) → IsHallPass hub conn h → h.at ≤ length h.pass.1.seen
hall_within hub conn h is =
    let out : h.at ≤ h.cursor.passed = is.told.handed_out in
    let there : h.cursor.passed ≤ length (commands h.pass.1.seen) = is.told.within in
    let long = length-map h.pass.1.seen (λ (x : Entry HallEntry). x.cmd) in
    omega arith

hall_given_on : (b : Bool) (conn : ℕ) (t : Account) (h k : HallPass) (more : List HallEntry) → HallWent h k more → h.at ≤ length h.pass.1.seen → HallGiven b conn t h → HallGiven b conn t k
hall_given_on true conn t h k more w le g = tt
hall_given_on false conn t h k more w le g =
    ap (λ (n : ℕ). commands (entries_of n (take k.at k.pass.1.seen))) w.went.number
    ∙ ap (λ (n : ℕ). commands (entries_of h.pass.1.number (take n k.pass.1.seen))) w.at
    ∙ ap (λ (l : List (Entry HallEntry)). commands (entries_of h.pass.1.number l)) (take_prefix h.at h.pass.1.seen k.pass.1.seen le w.went.seen)
    ∙ g

-- what was sent, shown and handed out of the hall
pub record HallKeeps (broken : Bool) (hub : Hub) (conn : ℕ) (t : Account) (k : HallPass) : Type 0 where
  pub given : HallGiven broken conn t k
  pub looks : HallLooks broken hub conn t k
  pub sent : HallSent broken hub conn t k

pub hall_keeps : (b s : Bool) (hub : Hub) (conn : ℕ) (t : Account) (h k : HallPass) (more : List HallEntry) → HallWent h k more → h.at ≤ length h.pass.1.seen → HallRests b s hub conn t h → HallKeeps b hub conn t k
hall_keeps b s hub conn t h k more w le r =
    let cmds = commands h.pass.1.seen in
    let now = commands k.pass.1.seen in
    let grows : IsPrefix cmds now = prefix_commands h.pass.1.seen k.pass.1.seen w.went.seen in
    let long = length-map h.pass.1.seen (λ (x : Entry HallEntry). x.cmd) in
    let within : h.at ≤ length cmds = omega arith in
    record {
      given = hall_given_on b conn t h k more w le r.given;
      looks = subst (λ (n : ℕ). AreLooksSo (HallShows conn (root_of hub)) b now n None None t.sendings 1 (length t.acts) k.pass.1.looks) (sym w.at)
          (subst (λ (l : List ℕ). AreLooksSo (HallShows conn (root_of hub)) b now h.at None None t.sendings 1 (length t.acts) l) (sym w.went.looks) (looks_on (HallShows conn (root_of hub)) b cmds now h.at None None t.sendings 1 (length t.acts) h.pass.1.looks grows r.looks));
      sent = subst (λ (n : ℕ). IsSentSo (HallShows conn (root_of hub)) b now n None None t.sendings) (sym w.at) (sent_on (HallShows conn (root_of hub)) b cmds now h.at None None t.sendings grows within r.sent);
    }

pub hall_made : (s : Bool) (conn : ℕ) (t : Account) (h k : HallPass) → HallWent h k (hall_quit conn t.left) → AllOrPart s (commands h.pass.1.mine) (hall_entries conn t.acts) → HallMade s conn t k
hall_made s conn t h k w made = then_quit s (commands h.pass.1.mine) (commands k.pass.1.mine) (hall_entries conn t.acts) (hall_quit conn t.left) made w.went.mine

pub hall_made_at_most : (conn : ℕ) (t : Account) (h k : HallPass) → HallWentAtMost conn t.left h k → AllOrPart true (commands h.pass.1.mine) (hall_entries conn t.acts) → HallMade true conn t k
hall_made_at_most conn t h k (inl w) made = at_most_quit (commands h.pass.1.mine) (commands k.pass.1.mine) (hall_entries conn t.acts) (hall_quit conn t.left) made (inl (cmds_same h.pass.1 k.pass.1 w.went))
hall_made_at_most conn t h k (inr w) made = hall_made true conn t h k w made

-- ---- rooms

-- it made these entries more, handed out nothing, and is held as it was
pub record RoomWent (h k : RoomPass) (more : List RoomCmd) : Type 0 where
  pub went : Moves h.pass.1 more k.pass.1
  pub at : k.at ≡ h.at
  pub place : k.number ≡ h.number
  pub id : k.id ≡ h.id

pub room_goes : (h k : RoomPass) (more : List RoomCmd) → RoomWent h k more → Goes h k
room_goes h k more w = record { grew = record { place = w.place; id = λ id e. w.id ∙ e; number = w.went.number; seen = w.went.seen }; id = w.id }

pub room_within : (hub : Hub) (conn : ℕ) (k : RoomPass) → IsRoomPass hub conn k → k.at ≤ length k.pass.1.seen
room_within hub conn k is =
    let out : k.at ≤ k.cursor.passed = is.place.told.handed_out in
    let there : k.cursor.passed ≤ length (commands k.pass.1.seen) = is.place.told.within in
    let long = length-map k.pass.1.seen (λ (x : Entry RoomCmd). x.cmd) in
    omega arith

-- the looks and the texts of a place by its number, and the place up to which was handed out
abbrev LooksAt : List ℕ → Bool → Hub → ℕ → Account → ℕ → ℕ → List RoomCmd → List ℕ → Type 0
LooksAt id b hub conn t n at cmds looks = AreLooksSo (Shows conn (site_of hub n)) b cmds at (Some id) (Some n) t.sendings (length t.acts - length (since n t.acts) + 1) (length (since n t.acts)) looks

abbrev SentAt : Option (List ℕ) → Bool → Hub → ℕ → Account → ℕ → ℕ → List RoomCmd → Type 0
SentAt id b hub conn t n at cmds = IsSentSo (Shows conn (site_of hub n)) b cmds at id (Some n) t.sendings

room_looks_on : (id : Option (List ℕ)) (b : Bool) (hub : Hub) (conn : ℕ) (t : Account) (h k : RoomPass) (more : List RoomCmd) → RoomWent h k more → RoomLooksBy id b hub conn t h → RoomLooksBy id b hub conn t k
room_looks_on None b hub conn t h k more w l = w.went.looks ∙ l
room_looks_on (Some id) b hub conn t h k more w l =
    let now = commands k.pass.1.seen in
    let grows : IsPrefix (commands h.pass.1.seen) now = prefix_commands h.pass.1.seen k.pass.1.seen w.went.seen in
    subst (λ (n : ℕ). LooksAt id b hub conn t n k.at now k.pass.1.looks) (sym w.place)
    (subst (λ (n : ℕ). LooksAt id b hub conn t h.number n now k.pass.1.looks) (sym w.at)
    (subst (λ (l : List ℕ). LooksAt id b hub conn t h.number h.at now l) (sym w.went.looks)
    (looks_on (Shows conn (site_of hub h.number)) b (commands h.pass.1.seen) now h.at (Some id) (Some h.number) t.sendings (length t.acts - length (since h.number t.acts) + 1) (length (since h.number t.acts)) h.pass.1.looks grows l)))

room_given_on : (id : Option (List ℕ)) (b : Bool) (conn : ℕ) (t : Account) (h k : RoomPass) (more : List RoomCmd) → RoomWent h k more → h.at ≤ length h.pass.1.seen → RoomGivenBy id b conn t h → RoomGivenBy id b conn t k
room_given_on None b conn t h k more w le g = tt
room_given_on (Some id) true conn t h k more w le g = tt
room_given_on (Some id) false conn t h k more w le g =
    ap (λ (n : ℕ). commands (entries_of n (take k.at k.pass.1.seen))) w.went.number
    ∙ ap (λ (n : ℕ). commands (entries_of h.pass.1.number (take n k.pass.1.seen))) w.at
    ∙ ap (λ (l : List (Entry RoomCmd)). commands (entries_of h.pass.1.number l)) (take_prefix h.at h.pass.1.seen k.pass.1.seen le w.went.seen)
    ∙ g
    ∙ ap (λ (n : ℕ). room_cmds conn n t.acts) (sym w.place)

pub record RoomKeeps (broken : Bool) (hub : Hub) (conn : ℕ) (t : Account) (k : RoomPass) : Type 0 where
  pub given : RoomGiven broken conn t k
  pub looks : RoomLooks broken hub conn t k
  pub sent : RoomSent broken hub conn t k
  pub named : IfSome k.id (λ id. Names hub.config id k.number)

room_keeps : (b s : Bool) (hub : Hub) (conn : ℕ) (t : Account) (h k : RoomPass) (more : List RoomCmd) → RoomWent h k more → h.at ≤ length h.pass.1.seen → RoomRests b s hub conn t h → RoomKeeps b hub conn t k
room_keeps b s hub conn t h k more w le r =
    let cmds = commands h.pass.1.seen in
    let now = commands k.pass.1.seen in
    let grows : IsPrefix cmds now = prefix_commands h.pass.1.seen k.pass.1.seen w.went.seen in
    let long = length-map h.pass.1.seen (λ (x : Entry RoomCmd). x.cmd) in
    let within : h.at ≤ length cmds = omega arith in
    record {
      given = subst (λ (i : Option (List ℕ)). RoomGivenBy i b conn t k) (sym w.id) (room_given_on h.id b conn t h k more w le r.given);
      looks = subst (λ (i : Option (List ℕ)). RoomLooksBy i b hub conn t k) (sym w.id) (room_looks_on h.id b hub conn t h k more w r.looks);
      sent = subst (λ (i : Option (List ℕ)). SentAt i b hub conn t k.number k.at now) (sym w.id)
          (subst (λ (n : ℕ). SentAt h.id b hub conn t n k.at now) (sym w.place)
          (subst (λ (n : ℕ). SentAt h.id b hub conn t h.number n now) (sym w.at)
          (sent_on (Shows conn (site_of hub h.number)) b cmds now h.at h.id (Some h.number) t.sendings grows within r.sent)));
      named = subst (λ (i : Option (List ℕ)). IfSome i (λ id. Names hub.config id k.number)) (sym w.id) (subst (λ (n : ℕ). IfSome h.id (λ id. Names hub.config id n)) (sym w.place) r.named);
    }

-- what the Quits leave of the pass of a place
pub record RoomQuit (broken short : Bool) (hub : Hub) (conn : ℕ) (badge : Option Badge) (t : Account) (h k : RoomPass) : Type 0 where
  pub goes : Goes h k
  pub keeps : RoomKeeps broken hub conn t k
  pub made : RoomMade short conn badge t k
  pub more : IsPrefix (commands h.pass.1.mine) (commands k.pass.1.mine)

quit_nothing : (b s : Bool) (hub : Hub) (conn : ℕ) (badge : Option Badge) (t : Account) (h : RoomPass) → h.id ≡ None → RoomRests b s hub conn t h → RoomQuit b s hub conn badge t h h
quit_nothing b s hub conn badge t h free r = record {
  goes = is_still h;
  keeps = record { given = r.given; looks = r.looks; sent = r.sent; named = r.named };
  made = subst (λ (i : Option (List ℕ)). RoomMadeBy i s conn badge t h) (sym free) r.entries;
  more = prefix_self (commands h.pass.1.mine);
}

quit_went : (b s : Bool) (hub : Hub) (conn : ℕ) (badge : Option Badge) (kept : Badge) (id : List ℕ) (t : Account) (h k : RoomPass) → h.id ≡ Some id → badge ≡ Some kept → RoomWent h k (room_quit conn kept t.left) → h.at ≤ length h.pass.1.seen → RoomRests b s hub conn t h → RoomQuit b s hub conn badge t h k
quit_went b s hub conn badge kept id t h k held is w le r =
    let now : commands k.pass.1.mine ≡ commands h.pass.1.mine ++ room_quit conn kept t.left = w.went.mine in
    record {
      goes = room_goes h k (room_quit conn kept t.left) w;
      keeps = room_keeps b s hub conn t h k (room_quit conn kept t.left) w le r;
      made = subst (λ (i : Option (List ℕ)). RoomMadeBy i s conn badge t k) (sym (w.id ∙ held))
          (kept, is, subst (λ (n : ℕ). AllThenQuit s (commands k.pass.1.mine) (room_cmds conn n t.acts) (room_quit conn kept t.left)) (sym w.place) (then_quit s (commands h.pass.1.mine) (commands k.pass.1.mine) (room_cmds conn h.number t.acts) (room_quit conn kept t.left) r.entries now));
      more = (room_quit conn kept t.left, sym now);
    }

by_quit : (id : Option (List ℕ)) (b s : Bool) (hub : Hub) (conn : ℕ) (badge : Option Badge) (t : Account) (h k : RoomPass) → h.id ≡ id → QuitsBy id badge conn t.left h k → h.at ≤ length h.pass.1.seen → RoomRests b s hub conn t h → RoomQuit b s hub conn badge t h k
by_quit None b s hub conn badge t h k free q le r = subst (λ (x : RoomPass). RoomQuit b s hub conn badge t h x) (sym q) (quit_nothing b s hub conn badge t h free r)
by_quit (Some id) b s hub conn badge t h k held q le r =
    quit_went b s hub conn badge q.0 id t h k held q.1 (record { went = in_the_end_moves h.pass.1 (Play (room_entry conn q.0 t.left room_commands.Quit)) k.pass.1 q.2; at = q.3; place = q.4; id = q.5 }) le r

pub quits_room : (b s : Bool) (hub : Hub) (conn : ℕ) (badge : Option Badge) (t : Account) (h k : RoomPass) → QuitsRoom badge conn t.left h k → h.at ≤ length h.pass.1.seen → RoomRests b s hub conn t h → RoomQuit b s hub conn badge t h k
quits_room b s hub conn badge t h k q le r = by_quit h.id b s hub conn badge t h k refl q le r

-- ---- if out of memory

without_quit : (id : Option (List ℕ)) (conn : ℕ) (badge : Option Badge) (t : Account) (k : RoomPass) → (IsSome id → IsSome badge) → IsPrefix (commands k.pass.1.mine) (room_cmds conn k.number t.acts) → RoomMadeBy id true conn badge t k
without_quit None conn badge t k named made = made
without_quit (Some id) conn badge t k named made = let b = some_value badge (named refl) in (b.0, b.1, (commands k.pass.1.mine, made, inl refl))

quit_missing : (b : Bool) (hub : Hub) (conn : ℕ) (badge : Option Badge) (t : Account) (h k : RoomPass) → RoomWent h k [] → h.at ≤ length h.pass.1.seen → (IsSome h.id → IsSome badge) → RoomRests b true hub conn t h → RoomQuit b true hub conn badge t h k
quit_missing b hub conn badge t h k w le named r =
    let now : commands k.pass.1.mine ≡ commands h.pass.1.mine = cmds_same h.pass.1 k.pass.1 w.went in
    record {
      goes = room_goes h k [] w;
      keeps = room_keeps b true hub conn t h k [] w le r;
      made = subst (λ (i : Option (List ℕ)). RoomMadeBy i true conn badge t k) (sym w.id) (without_quit h.id conn badge t k named (subst (λ (l : List RoomCmd). IsPrefix l (room_cmds conn k.number t.acts)) (sym now) (subst (λ (n : ℕ). IsPrefix (commands h.pass.1.mine) (room_cmds conn n t.acts)) (sym w.place) r.entries)));
      more = subst (λ (l : List RoomCmd). IsPrefix (commands h.pass.1.mine) l) (sym now) (prefix_self (commands h.pass.1.mine));
    }

pub quits_room_at_most : (b : Bool) (hub : Hub) (conn : ℕ) (badge : Option Badge) (t : Account) (h k : RoomPass) → QuitsRoomAtMost badge conn t.left h k → h.at ≤ length h.pass.1.seen → (IsSome h.id → IsSome badge) → RoomRests b true hub conn t h → RoomQuit b true hub conn badge t h k
quits_room_at_most b hub conn badge t h k (inl q) le named r = quits_room b true hub conn badge t h k q le r
quits_room_at_most b hub conn badge t h k (inr (is, place, id, at, cursor, read)) le named r = quit_missing b hub conn badge t h k (record { went = rereads_move h.pass.1 k.pass.1 read; at = at; place = place; id = id }) le named r

-- ---- rows

pub zip_more : (R S : RoomPass → RoomPass → Type 0) (P : RoomPass → Type 0) → ((h k : RoomPass) → P h → R h k → S h k) → (old new : List RoomPass) → All P old → AllZip R old new → AllZip S old new
zip_more R S P step [] [] all z = tt
zip_more R S P step [] (k ∷ ks) all z = absurd z
zip_more R S P step (h ∷ hs) [] all z = absurd z
zip_more R S P step (h ∷ hs) (k ∷ ks) all z = (step h k (All-head P h hs all) z.0, zip_more R S P step hs ks (All-tail P h hs all) z.1)

-- ---- what was asked of a place that isn't held

pub asked_quit : (end : End) (hub : Hub) (conn moment : ℕ) (badge : Option Badge) (t : Account) (h k : RoomPass) → QuitsRoom badge conn moment h k → IsAsked end hub t h → IsAsked end hub t k
asked_quit end hub conn moment badge t h k q a = by_asked end (h.id) refl q a where
  by_asked : (end : End) (id : Option (List ℕ)) → h.id ≡ id → QuitsBy id badge conn moment h k → IsAsked end hub t h → IsAsked end hub t k
  by_asked end None e q a = subst (IsAsked end hub t) (sym q) a
  by_asked end (Some id) e q a = asked_so end hub t k (subst (λ (i : Option (List ℕ)). IsAskedBy i hub t k) (sym (q.5 ∙ e)) tt)
