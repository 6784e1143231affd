-- A session whose number was taken, and whose the number is.
use Rattle.std.proofs.Common.{◌≡◌, ℕ, List, Bool, true, false, Option, Some, None, IsSome, refl, sym, ap, ◌∙◌, subst}
use Rattle.std.proofs.lemmas.List.Elements.{All-nil}
use Rattle.std.specs.Prelude.{All, IfSome}
use Rattle.ps_hall.specs.declared.entry.HallEntry.{HallEntry}
use Rattle.ps_histlock.specs.declared.view.Entry.{Entry}
use Rattle.ps_histlock.specs.Histories.{commands, signed}
use Rattle.ps_histlock.specs.Signs.{Speaks}
use Rattle.server_places.specs.Sites.{room_signer}
use Rattle.server_places.specs.Halls.{hall_signer}
use Rattle.ps_outside.specs.Links.{Talk, LinkCounts}
use Rattle.ps_hub.specs.Hubs.{Hub}
use Rattle.ps_hub.specs.Passes.{HallPass, RoomPass, AreOf, IsRoomPass}
use Rattle.ps_hub.specs.declared.passes.Passes.{Passes}
use Rattle.ps_hub.proofs.PassListLemmas.{hall_of, said_of, speaks_of}
use Rattle.ps_serve.specs.declared.closed.End.TheVariants as ends
use Rattle.ps_serve.specs.Steps.{Hours}
use Rattle.ps_serve.specs.declared.closed.End.{End}
use Rattle.ps_serve.specs.Ends.{Account, is_short, IsOpen, TellsMoments, Served}
use Rattle.ps_serve.specs.Names.{IfTaken, HallName, RoomName, HasOwnNumber}
use Rattle.ps_serve.specs.Rests.{HasExtraAt}

moments_too : (conn : ℕ) (t : Account) (hall : Option HallPass) (old new : Hours) → TellsMoments ends.NoMemory conn t hall old new → TellsMoments ends.Taken conn t hall old new
moments_too conn t None old new m = m
moments_too conn t (Some h) old new m = m

-- what holds of a session that ran out of memory holds of one whose number was taken
pub served_taken : (hub : Hub) (conn : ℕ) (passes : Passes) (old_talk talk : Option Talk) (old_counts counts : LinkCounts) (old_hours hours : Hours)
    → (t : Account) × Served ends.NoMemory hub conn t passes old_talk talk old_counts counts old_hours hours → (t : Account) × Served ends.Taken hub conn t passes old_talk talk old_counts counts old_hours hours
served_taken hub conn passes old_talk talk old_counts counts old_hours hours (t, s) = (
  t,
  record {
    told = s.told;
    sent = record { hall = s.sent.hall; rooms = s.sent.rooms };
    labels = s.labels;
    entries = record { hall = s.entries.hall; hall_given = s.entries.hall_given; rooms = s.entries.rooms; rooms_given = s.entries.rooms_given; badge = s.entries.badge };
    answers = record { made = s.answers.made; rightly = s.answers.rightly; asked = s.answers.asked };
    opened = s.opened;
    moments = moments_too conn t passes.hall old_hours hours s.moments;
    looks = record { hall = s.looks.hall; rooms = s.looks.rooms; fresh = s.looks.fresh };
    of = s.of;
    history = s.history;
    begin = record { sure = s.begin.sure; are_sure = s.begin.are_sure; begun = s.begin.begun; own = s.begin.own };
    worlds = record { hall = s.worlds.hall; rooms = s.worlds.rooms };
    cause = record { counts = tt; inbox = tt; text = s.cause.text };
    complete = λ old is within sound. tt;
  },
)

-- before its Quits no session ends so
pub not_taken : (end : End) (conn : ℕ) (t : Account) (P : Type 0) → HasExtraAt end conn t → IfTaken end P
not_taken ends.Closed conn t P extra = tt
not_taken ends.LinkFault conn t P extra = tt
not_taken (ends.OwnLimit room) conn t P extra = tt
not_taken (ends.BadText bytes) conn t P extra = tt
not_taken ends.Taken conn t P extra = absurd extra
not_taken ends.NoMemory conn t P extra = tt

-- ---- whose the number is

hall_name : (hub : Hub) (passes : Passes) (h : HallPass) (are : AreOf hub passes) → passes.hall ≡ Some h → HallName passes.conn h
hall_name hub passes h are is =
    let p = hall_of hub passes h are is in
    let said = said_of hub passes h are is in
    (are.opened, are.is_open, p.own passes.conn (speaks_of hub passes h are is) ∙ ap (λ (l : List (Entry HallEntry)). signed hall_signer passes.conn (commands l)) said)

room_name : (hub : Hub) (conn : ℕ) (k : RoomPass) → IsRoomPass hub conn k → RoomName conn k
room_name hub conn k p = λ speaks. p.place.own conn (subst (λ l. Speaks room_signer conn l) (sym p.said) speaks) ∙ ap (λ l. signed room_signer conn (commands l)) p.said

at_hall : (P : HallPass → Type 0) (hall : Option HallPass) → ((h : HallPass) → hall ≡ Some h → P h) → IfSome hall P
at_hall P None each = tt
at_hall P (Some h) each = each h refl

-- of passes that hold the hall, or hold nothing
pub own_names : (hub : Hub) (conn : ℕ) (passes : Passes) → passes.conn ≡ conn → (IsSome passes.hall → AreOf hub passes) → All (λ (k : RoomPass). IsRoomPass hub conn k) passes.rooms.items → HasOwnNumber conn passes
own_names hub conn passes same of rooms = record {
  hall = at_hall (HallName conn) passes.hall (λ h is. subst (λ (c : ℕ). HallName c h) same (hall_name hub passes h (of (subst IsSome (sym is) refl)) is));
  rooms = λ i d lt. room_name hub conn _ (rooms i d lt);
}

-- the rooms of a session are of the hub, and there are none where the hall isn't held
pub rooms_are : (hub : Hub) (conn : ℕ) (t : Account) (passes : Passes) (hall : Option HallPass) → passes.hall ≡ hall → (IsSome passes.hall → AreOf hub passes) → (short : Bool) → IsOpen short conn t passes hall → All (IsRoomPass hub passes.conn) passes.rooms.items
rooms_are hub conn t passes (Some h) is of short open_so = (of (subst IsSome (sym is) refl)).rooms
rooms_are hub conn t passes None is of true open_so = subst (All (IsRoomPass hub passes.conn)) (sym open_so.0) (All-nil (IsRoomPass hub passes.conn))
rooms_are hub conn t passes None is of false open_so = absurd open_so

pub own_names_of : (end : End) (hub : Hub) (conn : ℕ) (t : Account) (passes : Passes) (old_talk talk : Option Talk) (old_counts counts : LinkCounts) (old_hours hours : Hours) → Served end hub conn t passes old_talk talk old_counts counts old_hours hours → HasOwnNumber conn passes
own_names_of end hub conn t passes old_talk talk old_counts counts old_hours hours s =
    let rooms = rooms_are hub conn t passes passes.hall refl s.of.of (is_short end) s.opened in
    own_names hub conn passes s.history.conn_is s.of.of (subst (λ (c : ℕ). All (IsRoomPass hub c) passes.rooms.items) s.history.conn_is rooms)
