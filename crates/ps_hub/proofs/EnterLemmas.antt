-- Entering a place, from what happens to its pass.
use Rattle.std.proofs.Common.{◌≡◌, ℕ, ◌<◌, ◌≤◌, List, Some, Err, sym, ap, ◌∙◌, subst, inl, inr}
use Rattle.std.specs.Prelude.{slice_set}
use Rattle.ps_hub.specs.Hubs.{Hub}
use Rattle.ps_hub.specs.Names.{Names}
use Rattle.ps_hub.specs.Passes.{RoomPass, IsRoomPass, AreOf, Keeps}
use Rattle.ps_base.specs.declared.msg.Msg.{Msg}
use Rattle.ps_histlock.specs.Histories.{commands}
use Rattle.server_places.specs.Rooms.{Pulls}
use Rattle.ps_hub.specs.Calls.{Held, NotHeld, HeldUp, Unheld, Holds, EntersAt, EnterFails}
use Rattle.ps_hub.specs.declared.out.EnterFault.{EnterFault}
use Rattle.ps_hub.specs.declared.out.EnterFault.TheVariants.{NoSuchRoom, Busy, NoMemory}
use Rattle.ps_hub.specs.declared.passes.Passes.{Passes}
use Rattle.ps_hub.proofs.PassLemmas.{room_held, room_told, chat_held}
use Rattle.ps_hub.proofs.PassListLemmas.{are_set, are_kept, kept_pass, kept_at, kept_then}

-- ---- at one pass

-- the room that the turn found has the id
pub found_of : (hub : Hub) (conn : ℕ) (h m k : RoomPass) (id : List ℕ) (msgs : List Msg) → 16 ≤ h.number → m.number ≡ h.number
    → Pulls h.pass.1.origin (commands m.pass.1.seen) h.cursor msgs m.cursor → m.cursor.id ≡ Some id → k ≡ record m { id = Some id }
    → IsRoomPass hub conn h → IsRoomPass hub conn m → IsRoomPass hub conn k
found_of hub conn h m k id msgs high number pulled found is p q =
    let room = room_told hub conn h m msgs high number pulled p q in
    room_held hub conn m k id is (room.0, room.1, room.2 ∙ found) q

-- a chat room is held at once
pub chat_of : (hub : Hub) (conn : ℕ) (h k : RoomPass) (id : List ℕ) → Names hub.config id h.number → h.number < 16 → k ≡ record h { id = Some id } → IsRoomPass hub conn h → IsRoomPass hub conn k
chat_of hub conn h k id names low is p = room_held hub conn h k id is (chat_held hub h id names low) p

-- a place that is held is held by the id
pub held_id : (id : List ℕ) (h k : RoomPass) → Held id h k → k.id ≡ Some id
held_id id h k (inl same) = ap (λ (q : RoomPass). q.id) same.1 ∙ same.0
held_id id h k (inr (inl chat)) = ap (λ (q : RoomPass). q.id) chat.1
held_id id h k (inr (inr turn)) = turn.2

-- ---- at the list

pub entered : (hub : Hub) (id : List ℕ) (number pass_index : ℕ) (does : RoomPass → RoomPass → Type 0) (old : Passes) (h : RoomPass) (mid : Passes) (k : RoomPass) (new : Passes) → Names hub.config id number → Keeps hub number pass_index old h mid
    → new ≡ record mid { rooms = new.rooms } → new.rooms.items ≡ slice_set mid.rooms.items pass_index k → k.number ≡ h.number → does h k → EntersAt hub id does old new
entered hub id number pass_index does old h mid k new names keeps rest pass_list same done =
    record { before = h; behind = k; named = subst (λ (n : ℕ). Names hub.config id n) (sym keeps.number_is) names; but = kept_then hub number pass_index old h mid k new keeps rest pass_list same; done = done }

pub entered_fault : (hub : Hub) (id : List ℕ) (number pass_index : ℕ) (fault : EnterFault) (old : Passes) (h : RoomPass) (mid : Passes) (k : RoomPass) (new : Passes) → Names hub.config id number → Keeps hub number pass_index old h mid
    → new ≡ record mid { rooms = new.rooms } → new.rooms.items ≡ slice_set mid.rooms.items pass_index k → k.number ≡ h.number → Holds {T = ℕ} hub id h (Err fault) k → EnterFails hub id old fault new
entered_fault hub id number pass_index NoSuchRoom old h mid k new names keeps rest pass_list same done = inr (entered hub id number pass_index (NotHeld hub id) old h mid k new names keeps rest pass_list same done)
entered_fault hub id number pass_index (Busy word) old h mid k new names keeps rest pass_list same done = entered hub id number pass_index (HeldUp word) old h mid k new names keeps rest pass_list same done
entered_fault hub id number pass_index NoMemory old h mid k new names keeps rest pass_list same done = inr (entered hub id number pass_index Unheld old h mid k new names keeps rest pass_list same done)

-- the passes are the hub's still
pub entered_are : (hub : Hub) (number pass_index : ℕ) (old : Passes) (h : RoomPass) (mid : Passes) (k : RoomPass) (new : Passes) → AreOf hub old → Keeps hub number pass_index old h mid
    → new ≡ record mid { rooms = new.rooms } → new.rooms.items ≡ slice_set mid.rooms.items pass_index k → k.number ≡ h.number → ((conn : ℕ) → IsRoomPass hub conn h → IsRoomPass hub conn k) → AreOf hub new
entered_are hub number pass_index old h mid k new are keeps rest pass_list same on =
    let conn : mid.conn ≡ old.conn = ap (λ (p : Passes). p.conn) keeps.rest in
    are_set hub mid new pass_index h k (are_kept hub number pass_index old h mid are keeps) (kept_at hub number pass_index old h mid keeps) same rest pass_list (on mid.conn (subst (λ (c : ℕ). IsRoomPass hub c h) (sym conn) (kept_pass hub number pass_index old h mid are keeps)))
