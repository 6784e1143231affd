-- The other calls, from what happens to one pass.
use Rattle.std.proofs.Common.{◌≡◌, ◌⊎◌, ℕ, ◌+◌, List, [], ◌∷◌, Option, Some, None, Result, Ok, Err, refl, sym, ap, ◌∙◌, subst, inl, inr, ⊎_elim, Vec, Global}
use Rattle.std.specs.Prelude.{slice_get, slice_set, IsSome, IfOk, OnOk, OnErr}
use Rattle.std.specs.List.{AllZip}
use Rattle.std.proofs.lemmas.Bool.{false≢true}
use Rattle.std.proofs.lemmas.Option.{same_Some}
use Rattle.ps_base.specs.declared.badge.Badge.{Badge}
use Rattle.ps_base.specs.declared.msg.Msg.{Msg}
use Rattle.ps_lines.specs.declared.command.Command.TheVariants as room_commands
use Rattle.rules_start.specs.declared.start.Start.{Start}
use Rattle.ps_histlock.specs.declared.view.View.{View}
use Rattle.ps_histlock.specs.Histories.{commands, signed}
use Rattle.ps_histlock.specs.Seated.{TableId}
use Rattle.ps_histlock.specs.Locks.{IsNameTaken}
use Rattle.ps_histlock.specs.Signs.{Speaks}
use Rattle.server_places.specs.declared.command.RoomCmd.{RoomCmd}
use Rattle.server_places.specs.declared.command.RoomCmd.TheVariants.{Begin, Play}
use Rattle.server_places.specs.declared.site.Site.{Site}
use Rattle.server_places.specs.declared.site.Root.{Root}
use Rattle.server_places.specs.Sites.{room_signer}
use Rattle.server_places.specs.Tellings.{hall_telling, room_telling}
use Rattle.server_places.specs.Halls.{HallStands, root_in, hall_signer}
use Rattle.server_places.specs.Rooms.{Stands, site_in}
use Rattle.ps_hub.specs.Hubs.{Hub, root_of, site_of}
use Rattle.ps_hub.specs.Passes.{HallPass, RoomPass, IsHallPass, IsRoomPass, numbers, Keeps}
use Rattle.server_pass.specs.Turns.{TurnsAtLast, Rereads, TurnsInTheEnd}
use Rattle.server_pass.specs.Catches.{LooksAtMost, Caught as CaughtAt, Handed as HandedAt}
use Rattle.server_pass.specs.Passes.{IsPass}
use Rattle.ps_hub.specs.Calls.{room_entry, BeginsAt, BeginsNothing, Starts, HallOnly, CatchesUpHall, CatchesUp, HandsOnHall, HandsOn, LooksHall, LooksRoom, Counts, QuitsBy, QuitsRoom, StaysInRoom, QuitsRoomAtMost, QuitsHall, StaysInHall, QuitsHallAtMost, QuitsWith, IsShutOut, IsShutOutAmong}
use Rattle.ps_hub.specs.declared.out.QuitFault.{QuitFault}
use Rattle.ps_hub.specs.declared.out.QuitFault.TheVariants as quit_faults
use Rattle.ps_hub.specs.declared.passes.Passes.{Passes}
use Rattle.ps_hub.proofs.PassListLemmas.{kept_then}

-- ---- the begin of a battle

begun : (hub : Hub) (start : Start) (number pass_index : ℕ) (does : RoomPass → RoomPass → Type 0) (old : Passes) (h : RoomPass) (mid : Passes) (k : RoomPass) (new : Passes) → number ≡ 15 + start.number → Keeps hub number pass_index old h mid
    → new ≡ record mid { rooms = new.rooms } → new.rooms.items ≡ slice_set mid.rooms.items pass_index k → (k.at ≡ h.at) × (k.number ≡ h.number) × (k.id ≡ h.id) → does h k → BeginsAt hub start does old new
begun hub start number pass_index does old h mid k new is keeps rest pass_list same done =
    record { before = h; behind = k; number = keeps.number_is ∙ is; id = same.2; at = same.0; but = kept_then hub number pass_index old h mid k new keeps rest pass_list same.1; done = done }

pub started : {T E : Type 0} (hub : Hub) (start : Start) (number pass_index : ℕ) (old : Passes) (h : RoomPass) (mid : Passes) (k : RoomPass) (new : Passes) (result : Result T E) → number ≡ 15 + start.number → Keeps hub number pass_index old h mid
    → new ≡ record mid { rooms = new.rooms } → new.rooms.items ≡ slice_set mid.rooms.items pass_index k → (k.at ≡ h.at) × (k.number ≡ h.number) × (k.id ≡ h.id)
    → OnOk result (TurnsAtLast h.pass.1 (Some (Begin start)) k.pass.1) → OnErr result (BeginsNothing h k) → Starts hub start old result new
started hub start number pass_index old h mid k new (Ok done) is keeps rest pass_list same ok err = begun hub start number pass_index _ old h mid k new is keeps rest pass_list same ok
started hub start number pass_index old h mid k new (Err e) is keeps rest pass_list same ok err = inr (begun hub start number pass_index BeginsNothing old h mid k new is keeps rest pass_list same err)

-- ---- catching up

pub caught_hall : {E : Type 0} (hub : Hub) (old new : Passes) (h k : HallPass) (result : Result (Vec Msg Global) E) → IsHallPass hub old.conn h → old.hall ≡ Some h → new.hall ≡ Some k → new.rooms.items ≡ old.rooms.items → new.conn ≡ old.conn → new.badge ≡ old.badge
    → IfOk result (λ msgs. (conn : ℕ) (place : TableId × Root)
    → IsPass root_in HallStands hall_signer hall_telling conn place h → CaughtAt hall_telling conn place.1 msgs.items h k) → OnErr result (LooksAtMost h.pass.1 k.pass.1 × (k.at ≡ h.at)) → CatchesUpHall hub old result new
caught_hall hub old new h k (Ok msgs) p was is pass_lists conn badge ok err = record { before = h; behind = k; was = was; is = is; done = ok old.conn (hub.hall, root_of hub) p; rooms = pass_lists; conn = conn; badge = badge }
caught_hall hub old new h k (Err e) p was is pass_lists conn badge ok err = record { before = h; behind = k; was = was; is = is; done = err; rooms = pass_lists; conn = conn; badge = badge }

pub caught_room : {E : Type 0} (hub : Hub) (pass_index : ℕ) (old new : Passes) (h k : RoomPass) (result : Result (Vec Msg Global) E) → IsRoomPass hub old.conn h → slice_get old.rooms.items pass_index ≡ Some h → new ≡ record old { rooms = new.rooms } → new.rooms.items ≡ slice_set old.rooms.items pass_index k
    → (k.number ≡ h.number) × (k.id ≡ h.id) → IfOk result (λ msgs. (conn : ℕ) (place : TableId × Site)
    → IsPass site_in Stands room_signer room_telling conn place h → CaughtAt room_telling conn place.1 msgs.items h k) → OnErr result (LooksAtMost h.pass.1 k.pass.1 × (k.at ≡ h.at)) → CatchesUp hub pass_index old result new
caught_room hub pass_index old new h k (Ok msgs) p was rest pass_list same ok err =
    record { before = h; behind = k; was = was; rooms = pass_list; number = same.0; id = same.1; done = ok old.conn (h.pass.0, site_of hub h.number) p.place; conn = ap (λ (q : Passes). q.conn) rest; badge = ap (λ (q : Passes). q.badge) rest; hall = ap (λ (q : Passes). q.hall) rest }
caught_room hub pass_index old new h k (Err e) p was rest pass_list same ok err =
    record { before = h; behind = k; was = was; rooms = pass_list; number = same.0; id = same.1; done = err; conn = ap (λ (q : Passes). q.conn) rest; badge = ap (λ (q : Passes). q.badge) rest; hall = ap (λ (q : Passes). q.hall) rest }

-- ---- handing on

pub handed_hall : {E : Type 0} (hub : Hub) (old new : Passes) (h k : HallPass) (result : Result (Vec Msg Global) E) → IsHallPass hub old.conn h → old.hall ≡ Some h → new.hall ≡ Some k → new.rooms.items ≡ old.rooms.items → new.conn ≡ old.conn → new.badge ≡ old.badge
    → IfOk result (λ msgs. (conn : ℕ) (place : TableId × Root)
    → IsPass root_in HallStands hall_signer hall_telling conn place h → HandedAt hall_telling conn place.1 msgs.items h k) → OnErr result (Rereads h.pass.1 k.pass.1 × (k.at ≡ h.at)) → HandsOnHall hub old result new
handed_hall hub old new h k (Ok msgs) p was is pass_lists conn badge ok err = record { before = h; behind = k; was = was; is = is; done = ok old.conn (hub.hall, root_of hub) p; rooms = pass_lists; conn = conn; badge = badge }
handed_hall hub old new h k (Err e) p was is pass_lists conn badge ok err = record { before = h; behind = k; was = was; is = is; done = err; rooms = pass_lists; conn = conn; badge = badge }

pub handed_room : {E : Type 0} (hub : Hub) (pass_index : ℕ) (old new : Passes) (h k : RoomPass) (result : Result (Vec Msg Global) E) → IsRoomPass hub old.conn h → slice_get old.rooms.items pass_index ≡ Some h → new ≡ record old { rooms = new.rooms } → new.rooms.items ≡ slice_set old.rooms.items pass_index k
    → (k.number ≡ h.number) × (k.id ≡ h.id) → IfOk result (λ msgs. (conn : ℕ) (place : TableId × Site)
    → IsPass site_in Stands room_signer room_telling conn place h → HandedAt room_telling conn place.1 msgs.items h k) → OnErr result (Rereads h.pass.1 k.pass.1 × (k.at ≡ h.at)) → HandsOn hub pass_index old result new
handed_room hub pass_index old new h k (Ok msgs) p was rest pass_list same ok err =
    record { before = h; behind = k; was = was; rooms = pass_list; number = same.0; id = same.1; done = ok old.conn (h.pass.0, site_of hub h.number) p.place; conn = ap (λ (q : Passes). q.conn) rest; badge = ap (λ (q : Passes). q.badge) rest; hall = ap (λ (q : Passes). q.hall) rest }
handed_room hub pass_index old new h k (Err e) p was rest pass_list same ok err =
    record { before = h; behind = k; was = was; rooms = pass_list; number = same.0; id = same.1; done = err; conn = ap (λ (q : Passes). q.conn) rest; badge = ap (λ (q : Passes). q.badge) rest; hall = ap (λ (q : Passes). q.hall) rest }

-- ---- counting

pub counted_hall : (old new : Passes) (h k : HallPass) (n : ℕ) → old.hall ≡ Some h → new.hall ≡ Some k → new.rooms.items ≡ old.rooms.items → new.conn ≡ old.conn → new.badge ≡ old.badge → LooksHall n h k → (room : Option (List ℕ)) → room ≡ None → Counts room old n new
counted_hall old new h k n was is pass_lists conn badge done room none = subst (λ (o : Option (List ℕ)). Counts o old n new) (sym none) (record { before = h; behind = k; was = was; is = is; done = done; rooms = pass_lists; conn = conn; badge = badge })

pub counted_room : (pass_index : ℕ) (old new : Passes) (h k : RoomPass) (n : ℕ) (id : List ℕ) (there : (held : RoomPass) × (slice_get old.rooms.items pass_index ≡ Some held) × (held.id ≡ Some id)) → slice_get old.rooms.items pass_index ≡ Some h → new ≡ record old { rooms = new.rooms } → new.rooms.items ≡ slice_set old.rooms.items pass_index k → LooksRoom n h k → (room : Option (List ℕ)) → room ≡ Some id → Counts room old n new
counted_room pass_index old new h k n id there was rest pass_list done room some = subst (λ (o : Option (List ℕ)). Counts o old n new) (sym some) (
  pass_index,
  there.0,
  there.1,
  there.2,
  record { before = h; behind = k; was = was; rooms = pass_list; number = ap (λ (q : RoomPass). q.number) done.1; id = ap (λ (q : RoomPass). q.id) done.1; done = done; conn = ap (λ (q : Passes). q.conn) rest; badge = ap (λ (q : Passes). q.badge) rest; hall = ap (λ (q : Passes). q.hall) rest },
)

-- ---- the end of a connection

pub hall_only : (does : HallPass → HallPass → Type 0) (old new : Passes) (h k : HallPass) → old.hall ≡ Some h → new.hall ≡ Some k → new.rooms.items ≡ old.rooms.items → new.conn ≡ old.conn → new.badge ≡ old.badge → does h k → HallOnly does old new
hall_only does old new h k was is pass_lists conn badge done = record { before = h; behind = k; was = was; is = is; done = done; rooms = pass_lists; conn = conn; badge = badge }

-- where a room is held
pub quits_by : (badge : Option Badge) (conn moment : ℕ) (h k : RoomPass) (id : List ℕ) (b : Badge) → h.id ≡ Some id → badge ≡ Some b
    → TurnsInTheEnd h.pass.1 (Play (room_entry conn b moment room_commands.Quit)) k.pass.1 → (k.at ≡ h.at) × (k.number ≡ h.number) × (k.id ≡ h.id)
    → QuitsRoom badge conn moment h k
quits_by badge conn moment h k id b held is turns same = subst (λ (i : Option (List ℕ)). QuitsBy i badge conn moment h k) (sym held) (b, is, turns, same.0, same.1, same.2)

-- its place is shut: an entry stands there under the number
pub shut_out : (conn moment : ℕ) (b : Badge) (h k : RoomPass) → TurnsAtLast h.pass.1 None k.pass.1
    → IsNameTaken room_signer h.pass.1.said k.pass.1.seen (Play (room_entry conn b moment room_commands.Quit)) → IsShutOut conn k quit_faults.Taken
shut_out conn moment b h k turns taken =
    let same : conn ≡ taken.0 = same_Some conn taken.0 taken.1 in (
      ap (λ (u : View Site RoomCmd). signed room_signer conn (commands u.said)) turns.1.2 ∙ subst
          (λ (c : ℕ). signed room_signer c (commands h.pass.1.said) ≡ []) (sym same) taken.2,
      subst (λ (c : ℕ). Speaks room_signer c k.pass.1.seen) (sym same) taken.3,
    )

pub shut_out_among : (conn : ℕ) (rooms : List RoomPass) (i : ℕ) (k : RoomPass) (fault : QuitFault) → slice_get rooms i ≡ Some k → IsShutOut conn k fault → IsShutOutAmong conn rooms fault
shut_out_among conn rooms i k quit_faults.Taken there out = (i, k, there, out)
shut_out_among conn rooms i k quit_faults.NoMemory there out = tt

-- the Quit in the hall, if the call says so; and at the most that
pub hall_quits : {T E : Type 0} (conn moment : ℕ) (old new : Passes) (h k : HallPass) (result : Result T E) → old.hall ≡ Some h → new.hall ≡ Some k → new.rooms.items ≡ old.rooms.items → new.conn ≡ old.conn → new.badge ≡ old.badge → OnOk result (QuitsHall conn moment h k)
    → OnOk result (HallOnly (QuitsHall conn moment) old new)
hall_quits conn moment old new h k (Ok done) was is rooms same badge ok = hall_only (QuitsHall conn moment) old new h k was is rooms same badge ok
hall_quits conn moment old new h k (Err e) was is rooms same badge ok = tt

pub hall_quits_at_most : {T E : Type 0} (conn moment : ℕ) (old new : Passes) (h k : HallPass) (result : Result T E) → old.hall ≡ Some h → new.hall ≡ Some k → new.rooms.items ≡ old.rooms.items → new.conn ≡ old.conn → new.badge ≡ old.badge → OnOk result (QuitsHall conn moment h k)
    → OnErr result (StaysInHall h k) → HallOnly (QuitsHallAtMost conn moment) old new
hall_quits_at_most conn moment old new h k (Ok done) was is rooms same badge ok err = hall_only (QuitsHallAtMost conn moment) old new h k was is rooms same badge (inl ok)
hall_quits_at_most conn moment old new h k (Err e) was is rooms same badge ok err = hall_only (QuitsHallAtMost conn moment) old new h k was is rooms same badge (inr err)

-- the Quits in the rooms, and that in the hall, each as this tells
pub quits_with : (room : RoomPass → RoomPass → Type 0) (hall : HallPass → HallPass → Type 0) (old mid new : Passes) → mid ≡ record old { rooms = mid.rooms } → AllZip room old.rooms.items mid.rooms.items → HallOnly hall mid new → QuitsWith room hall old new
quits_with room hall old mid new rest rooms done = record {
  rooms = subst (λ (l : List RoomPass). AllZip room old.rooms.items l) (sym done.rooms) rooms;
  before = done.before;
  behind = done.behind;
  was = sym (ap (λ (p : Passes). p.hall) rest) ∙ done.was;
  is = done.is;
  done = done.done;
  conn = done.conn ∙ ap (λ (p : Passes). p.conn) rest;
  badge = done.badge ∙ ap (λ (p : Passes). p.badge) rest;
}

quit_number : (badge : Option Badge) (conn moment : ℕ) (h k : RoomPass) (id : Option (List ℕ)) → QuitsBy id badge conn moment h k → k.number ≡ h.number
quit_number badge conn moment h k None q = ap (λ (p : RoomPass). p.number) q
quit_number badge conn moment h k (Some id) q = q.4

-- the list has the same places after Quits
pub quit_numbers : (badge : Option Badge) (conn moment : ℕ) (old new : List RoomPass) → AllZip (QuitsRoomAtMost badge conn moment) old new → numbers new ≡ numbers old
quit_numbers badge conn moment [] [] all = refl
quit_numbers badge conn moment [] (k ∷ ks) all = absurd all
quit_numbers badge conn moment (h ∷ hs) [] all = absurd all
quit_numbers badge conn moment (h ∷ hs) (k ∷ ks) all =
    let same : k.number ≡ h.number = ⊎_elim (λ (q : QuitsRoom badge conn moment h k). quit_number badge conn moment h k h.id q) (λ (q : StaysInRoom h k). q.1) all.0 in
    ap (λ (n : ℕ). n ∷ numbers ks) same ∙ ap (λ (l : List ℕ). h.number ∷ l) (quit_numbers badge conn moment hs ks all.1)

pub some_value : {A : Type 0} (o : Option A) → IsSome o → (x : A) × (o ≡ Some x)
some_value None is = absurd (false≢true is)
some_value (Some x) is = (x, refl)
