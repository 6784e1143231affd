-- Whose the number of a connection is.
use Rattle.std.specs.Prelude.{◌≡◌, ◌⊎◌, ℕ, ◌∷◌, All, IfSome, Option, Some}
use Rattle.ps_lines.specs.declared.command.HallCmd.TheVariants.{Open}
use Rattle.ps_hall.specs.declared.entry.HallEntry.{HallEntry}
use Rattle.ps_histlock.specs.declared.view.Entry.{Entry}
use Rattle.ps_histlock.specs.Histories.{commands, signed}
use Rattle.ps_histlock.specs.Signs.{Speaks}
use Rattle.ps_histlock.specs.Views.{HasLooked}
use Rattle.ps_histlock.specs.declared.view.View.{View}
use Rattle.server_places.specs.Sites.{room_signer}
use Rattle.server_places.specs.Halls.{hall_signer}
use Rattle.ps_hub.specs.Hubs.{Hub}
use Rattle.server_pass.specs.Passes.{NeverFalls}
use Rattle.ps_hub.specs.Passes.{HallPass, RoomPass}
use Rattle.ps_hub.specs.Calls.{hall_entry, IsStranger, IsShutOutAmong}
use Rattle.ps_hub.specs.declared.out.QuitFault.TheVariants as quit_faults
use Rattle.ps_hub.specs.declared.passes.Passes.{Passes}
use Rattle.ps_serve.specs.declared.closed.End.{End}
use Rattle.ps_serve.specs.declared.closed.End.TheVariants as ends

-- this, if the number was taken
abbrev pub IfTaken : End → Type 0 → Type 0
IfTaken ends.Taken P = P
IfTaken other P = Unit {0}

-- Under the number of the connection stands an entry in the hall, which the pass that was to make its Open met; or one in a room,
-- which its pass there hasn't made.
abbrev pub IsNumberInUse : Hub → ℕ → Passes → Option HallPass → Type 0
IsNumberInUse hub conn passes refused = ((hall : HallPass) × (refused ≡ Some hall) × IsStranger hub conn hall)
    ⊎ IsShutOutAmong conn passes.rooms.items quit_faults.Taken

-- Of all that the pass knows of the hall, what stands under the number of the connection is its Open and its own entries, in order.
abbrev pub HallName : ℕ → HallPass → Type 0
HallName conn hall = (opened : Entry HallEntry) × ((moment : ℕ) × (opened.cmd ≡ hall_entry conn moment Open))
    × (signed hall_signer conn (commands hall.pass.1.known) ≡ signed hall_signer conn (commands (opened ∷ hall.pass.1.mine)))

-- the same of a room where it has made an entry
abbrev pub RoomName : ℕ → RoomPass → Type 0
RoomName conn room = Speaks room_signer conn room.pass.1.mine
    → signed room_signer conn (commands room.pass.1.known) ≡ signed room_signer conn (commands room.pass.1.mine)

-- nobody else has spoken under the number of the connection
pub record HasOwnNumber (conn : ℕ) (passes : Passes) : Type 0 where
  pub hall : IfSome passes.hall (HallName conn)
  pub rooms : All (RoomName conn) passes.rooms.items

-- no look of a pass shows less than one before it, or than what the pass knew then
abbrev pub LooksFreshly : {O C : Type 0} → View O C → Type 0
LooksFreshly view = NeverFalls view.looks × HasLooked view

pub record AreLooksFresh (passes : Passes) : Type 0 where
  pub hall : IfSome passes.hall (λ hall_pass. LooksFreshly hall_pass.pass.1)
  pub rooms : All (λ (room : RoomPass). LooksFreshly room.pass.1) passes.rooms.items
