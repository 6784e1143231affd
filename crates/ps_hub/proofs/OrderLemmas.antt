-- Orders, from what a turn does to one pass.
use Rattle.std.proofs.Common.{◌≡◌, ℕ, List, ◌∷◌, ◌++◌, Some, None, Result, Ok, Err, refl, sym, ap, ◌∙◌, subst, inl, inr}
use Rattle.std.specs.Prelude.{slice_get, slice_set, All}
use Rattle.ps_base.specs.declared.badge.Badge.{Badge}
use Rattle.ps_lines.specs.declared.command.Command.{Command}
use Rattle.ps_lines.specs.declared.command.HallCmd.{HallCmd}
use Rattle.ps_lines.specs.declared.order.Order.TheVariants.{Room}
use Rattle.ps_lines.specs.declared.command.HallCmd.TheVariants.{Open}
use Rattle.ps_hall.specs.declared.entry.HallEntry.{HallEntry}
use Rattle.ps_hall.specs.declared.outcome.HallOut.{HallOut}
use Rattle.ps_histlock.specs.Histories.{commands}
use Rattle.ps_histlock.specs.declared.view.Entry.{Entry as Made}
use Rattle.server_places.specs.declared.site.Root.{Root}
use Rattle.server_places.specs.Halls.{HallAnswers}
use Rattle.ps_hub.specs.Hubs.{Hub, site_of}
use Rattle.ps_hub.specs.Names.{Names}
use Rattle.server_pass.specs.Passes.{Adds}
use Rattle.ps_hub.specs.Passes.{HallPass, RoomPass, IsHallPass, IsRoomPass, numbers, IsRising, AreOf}
use Rattle.ps_hub.specs.Calls.{hall_entry, room_entry, badge_after, Held, EntersAt, EnterFails, not_entered, HallGoes, HallOrdered}
use Rattle.ps_hub.specs.Calls.{HallFails, HallTakes, RoomGoes, RoomTakes, Orders}
use Rattle.ps_hub.specs.declared.out.EnterFault.{EnterFault}
use Rattle.ps_hub.specs.declared.out.EnterFault.TheVariants as enter_faults
use Rattle.ps_hub.specs.declared.out.HubFault.{HubFault}
use Rattle.ps_hub.specs.declared.out.HubFault.TheVariants.{OwnLimit, Taken, NoSuchRoom, Busy, NoMemory}
use Rattle.ps_hub.specs.declared.out.HubOut.{HubOut}
use Rattle.ps_hub.specs.declared.passes.Passes.{Passes}
use Rattle.ps_hub.proofs.PassListLemmas.{but_at, said_of}

-- ---- the hall

-- the pass of the hall became another of the hub
pub are_hall : (hub : Hub) (old new : Passes) (h k : HallPass) → AreOf hub old → old.hall ≡ Some h → new.hall ≡ Some k → IsHallPass hub old.conn k → Adds h.pass.1 k.pass.1 → new.rooms.items ≡ old.rooms.items → new.conn ≡ old.conn → AreOf hub new
are_hall hub old new h k are was is here adds pass_lists conn = record {
  hall_pass = k;
  hall = is;
  hall_is = subst (λ (c : ℕ). IsHallPass hub c k) (sym conn) here;
  opened = are.opened;
  is_open = subst (λ (c : ℕ). (moment : ℕ) × (are.opened.cmd ≡ record { conn = c; moment = moment; cmd = Open })) (sym conn) are.is_open;
  said = adds.1 ∙ ap (λ (l : List (Made HallEntry)). l ++ adds.0) (said_of hub old h are was) ∙ ap (λ (l : List (Made HallEntry)). are.opened ∷ l) (sym adds.2);
  rooms = subst (λ (c : ℕ). All (IsRoomPass hub c) new.rooms.items) (sym conn) (subst (All (IsRoomPass hub old.conn)) (sym pass_lists) are.rooms);
  rising = subst (λ (l : List RoomPass). IsRising (numbers l)) (sym pass_lists) are.rising;
}

hall_goes : (does : HallPass → HallPass → Type 0) (old new : Passes) (h k : HallPass) → old.hall ≡ Some h → new.hall ≡ Some k → k.at ≡ h.at → new.rooms.items ≡ old.rooms.items → new.conn ≡ old.conn → does h k → HallGoes does old new
hall_goes does old new h k was is at pass_lists conn done = record { before = h; behind = k; was = was; is = is; at = at; done = done; rooms = pass_lists; conn = conn }

pub hall_ordered : (hub : Hub) (cmd : HallCmd) (moment : ℕ) (old new : Passes) (h k : HallPass) (gave : HallOut) (out : HubOut) → IsHallPass hub old.conn h → old.hall ≡ Some h → new.hall ≡ Some k → k.at ≡ h.at → new.rooms.items ≡ old.rooms.items → new.conn ≡ old.conn
    → new.badge ≡ badge_after old.badge gave.badge → out ≡ record { badge = gave.badge; start = gave.start; ended = None; verdict = None } → HallTakes (hall_entry old.conn moment cmd) h (Ok gave) k → HallOrdered hub cmd moment old out new
hall_ordered hub cmd moment old new h k gave out p was is at pass_lists conn badge made t = record {
  log = t.0;
  gave = gave;
  goes = hall_goes _ old new h k was is at pass_lists conn (t.1, t.2, t.4);
  answer = subst (λ (r : Root). HallAnswers r (commands t.0) (hall_entry old.conn moment cmd) gave) p.origin t.3;
  badge_out = ap (λ (o : HubOut). o.badge) made;
  start = ap (λ (o : HubOut). o.start) made;
  ended = ap (λ (o : HubOut). o.ended) made;
  verdict = ap (λ (o : HubOut). o.verdict) made;
  badge = badge;
}

pub hall_failed : (hub : Hub) (cmd : HallCmd) (moment : ℕ) (old new : Passes) (h k : HallPass) (fault : HubFault) → IsHallPass hub old.conn h → old.hall ≡ Some h → new.hall ≡ Some k → k.at ≡ h.at → new.rooms.items ≡ old.rooms.items → new.conn ≡ old.conn → new.badge ≡ old.badge
    → HallTakes (hall_entry old.conn moment cmd) h (Err fault) k → HallFails hub cmd moment old fault new
hall_failed hub cmd moment old new h k (OwnLimit room) p was is at pass_lists conn badge t = (t.0, badge, hall_goes _ old new h k was is at pass_lists conn (t.1, t.2))
hall_failed hub cmd moment old new h k Taken p was is at pass_lists conn badge t = absurd t
hall_failed hub cmd moment old new h k NoSuchRoom p was is at pass_lists conn badge t = absurd t
hall_failed hub cmd moment old new h k (Busy word order) p was is at pass_lists conn badge t = (t.0, badge, hall_goes _ old new h k was is at pass_lists conn (t.1, t.2))
hall_failed hub cmd moment old new h k NoMemory p was is at pass_lists conn badge t =
    (badge, hall_goes _ old new h k was is at pass_lists conn t)

-- out of memory before the turn
pub hall_untried : (hub : Hub) (cmd : HallCmd) (moment : ℕ) (old : Passes) → AreOf hub old → HallFails hub cmd moment old NoMemory old
hall_untried hub cmd moment old are = (refl, hall_goes _ old old are.hall_pass are.hall_pass are.hall are.hall refl refl refl (refl, inl refl))

-- ---- a room

-- its place isn't held
pub room_not_entered : (hub : Hub) (id : List ℕ) (cmd : Command) (moment : ℕ) (old : Passes) (fault : EnterFault) (new : Passes)
    → EnterFails hub id old fault new → Orders hub (Room id cmd) moment old (Err (not_entered fault id cmd)) new
room_not_entered hub id cmd moment old enter_faults.NoSuchRoom new fails = inl fails
room_not_entered hub id cmd moment old (enter_faults.Busy word) new fails = inl (refl, fails)
room_not_entered hub id cmd moment old enter_faults.NoMemory new fails = inl fails

room_goes : (hub : Hub) (id : List ℕ) (does : RoomPass → RoomPass → Type 0) (pass_index : ℕ) (old : Passes) (h k : RoomPass) (new : Passes) → slice_get old.rooms.items pass_index ≡ Some h → Names hub.config id h.number → h.id ≡ Some id
    → new ≡ record old { rooms = new.rooms } → new.rooms.items ≡ slice_set old.rooms.items pass_index k → (k.at ≡ h.at) × (k.number ≡ h.number) × (k.id ≡ h.id) → does h k → RoomGoes hub id does old new
room_goes hub id does pass_index old h k new there named held rest pass_list same done =
    record { before = h; behind = k; named = named; held = held; held_on = same.2 ∙ held; at = same.0; but = but_at hub pass_index old h k new there rest pass_list same.1; done = done }

pub room_orders : (hub : Hub) (id : List ℕ) (cmd : Command) (moment : ℕ) (start mid : Passes) (pass_index : ℕ) (h k : RoomPass) (new : Passes) (badge : Badge) (result : Result HubOut HubFault) → EntersAt hub id (Held id) start mid
    → slice_get mid.rooms.items pass_index ≡ Some h → Names hub.config id h.number → h.id ≡ Some id → new ≡ record mid { rooms = new.rooms } → new.rooms.items ≡ slice_set mid.rooms.items pass_index k → (k.at ≡ h.at) × (k.number ≡ h.number) × (k.id ≡ h.id)
    → mid.badge ≡ Some badge → RoomTakes (site_of hub h.number) id (room_entry mid.conn badge moment cmd) h result k → Orders hub (Room id cmd) moment start result new
room_orders hub id cmd moment start mid pass_index h k new badge (Ok out) entered there named held rest pass_list same is t = (
  mid,
  entered,
  record {
    badge = badge;
    badge_is = is;
    number = h.number;
    log = t.0;
    gave = t.1;
    goes = room_goes hub id _ pass_index mid h k new there named held rest pass_list same (refl, t.2, t.3, t.6);
    answer = t.4;
    no_badge = ap (λ (o : HubOut). o.badge) t.5;
    start = ap (λ (o : HubOut). o.start) t.5;
    ended = ap (λ (o : HubOut). o.ended) t.5;
    verdict = ap (λ (o : HubOut). o.verdict) t.5;
  },
)
room_orders hub id cmd moment start mid pass_index h k new badge (Err (OwnLimit room)) entered there named held rest pass_list same is t =
    inr (mid, entered, (t.0, room_goes hub id _ pass_index mid h k new there named held rest pass_list same (t.1, t.2)))
room_orders hub id cmd moment start mid pass_index h k new badge (Err Taken) entered there named held rest pass_list same is t =
    inr (mid, entered, (badge, is, room_goes hub id _ pass_index mid h k new there named held rest pass_list same t))
room_orders hub id cmd moment start mid pass_index h k new badge (Err NoSuchRoom) entered there named held rest pass_list same is t = absurd t
room_orders hub id cmd moment start mid pass_index h k new badge (Err (Busy word order)) entered there named held rest pass_list same is t =
    inr (mid, entered, (t.0, room_goes hub id _ pass_index mid h k new there named held rest pass_list same (t.1, t.2)))
room_orders hub id cmd moment start mid pass_index h k new badge (Err NoMemory) entered there named held rest pass_list same is t =
    inr (mid, entered, (badge, is, room_goes hub id _ pass_index mid h k new there named held rest pass_list same t))
