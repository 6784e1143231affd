-- What the steps of obeying a text do to the passes, for the code alone.
use Rattle.std.specs.Prelude.{◌≡◌, ◌⊎◌, ℕ, zero, suc, ◌≤◌, Bool, true, false, List, Option, Some, None, Result, Ok, Err}
use Rattle.ps_lines.specs.declared.command.BadWhy.TheVariants.{NoSuchRoom}
use Rattle.ps_lines.specs.declared.command.HallCmd.{HallCmd}
use Rattle.ps_lines.specs.declared.command.HallCmd.TheVariants.{Report}
use Rattle.ps_lines.specs.declared.order.Order.{Order}
use Rattle.ps_lines.specs.declared.order.Order.TheVariants.{Hall, Room}
use Rattle.rules_start.specs.declared.start.Start.{Start}
use Rattle.rules_start.specs.Fits.{IsFit}
use Rattle.ps_base.specs.Limits.{most_battles}
use Rattle.ps_room.specs.declared.outcome.Ending.{Ending}
use Rattle.ps_session.specs.Sessions.{Record, is_full}
use Rattle.ps_session.specs.Routes.{bad_order, after_no_room}
use Rattle.ps_hub.specs.Hubs.{Hub}
use Rattle.ps_hub.specs.Calls.{Orders, Starts}
use Rattle.ps_hub.specs.declared.out.HubFault.{HubFault}
use Rattle.ps_hub.specs.declared.out.HubFault.TheVariants as hub_faults
use Rattle.ps_hub.specs.declared.out.HubOut.{HubOut}
use Rattle.ps_hub.specs.declared.passes.Passes.{Passes}
use Rattle.ps_session.specs.declared.session.TakeFault.{TakeFault}
use Rattle.ps_session.specs.declared.session.TakeFault.TheVariants as take_faults
use Rattle.ps_serve.specs.declared.obey.Unmade.{Unmade}
use Rattle.ps_serve.specs.declared.obey.Unmade.TheVariants as unmade
use Rattle.ps_serve.specs.Acts.{with_given}

-- ---- one order, again and again until nobody else has the turn

-- an order that somebody else's turns held up so many times
abbrev pub TriesInVain : Hub → Order → ℕ → ℕ → Passes → Passes → Type 0
TriesInVain hub order moment zero old new = new ≡ old
TriesInVain hub order moment (suc tries) old new = (mid : Passes) × TriesInVain hub order moment tries old mid
    × ((word : ℕ) × (back : Order) × Orders hub order moment mid (Err (hub_faults.Busy word back)) new)

abbrev pub OrdersAtLast : Hub → Order → ℕ → Passes → Result HubOut HubFault → Passes → Type 0
OrdersAtLast hub order moment old answer new = (tries : ℕ) × (mid : Passes) × TriesInVain hub order moment tries old mid
    × Orders hub order moment mid answer new

abbrev pub Unmakes : Hub → Order → ℕ → Passes → Unmade → Passes → Type 0
Unmakes hub order moment old unmade.NoSuchRoom new = OrdersAtLast hub order moment old (Err hub_faults.NoSuchRoom) new
Unmakes hub order moment old unmade.NoMemory new = OrdersAtLast hub order moment old (Err hub_faults.NoMemory) new
    ⊎ ((room : Option (List ℕ)) × OrdersAtLast hub order moment old (Err (hub_faults.OwnLimit room)) new)

abbrev pub Makes : Hub → Order → ℕ → Passes → Result HubOut Unmade → Passes → Type 0
Makes hub order moment old (Ok out) new = OrdersAtLast hub order moment old (Ok out) new
Makes hub order moment old (Err why) new = Unmakes hub order moment old why new

-- an order whose answer doesn't matter
abbrev pub MakesOnly : Hub → Order → ℕ → Passes → Option TakeFault → Passes → Type 0
MakesOnly hub order moment old None new = (out : HubOut) × Makes hub order moment old (Ok out) new
MakesOnly hub order moment old (Some stop) new = (stop ≡ take_faults.NoMemory) × ((why : Unmade) × Makes hub order moment old (Err why) new)

-- ---- what follows from an entry

-- a battle that may begin at a hub
abbrev pub MayStart : Hub → Start → Type 0
MayStart hub start = (1 ≤ start.number) × (start.number ≤ most_battles) × IsFit start hub.config hub.dex

abbrev pub Begins : Hub → Start → Passes → Option TakeFault → Passes → Type 0
Begins hub start old None new = Starts {T = Unit {0}} {E = Unit {0}} hub start old (Ok tt) new
Begins hub start old (Some stop) new = (stop ≡ take_faults.NoMemory) × Starts {T = Unit {0}} {E = Unit {0}} hub start old (Err tt) new

abbrev pub report : Ending → HallCmd
report ending = Report ending.number ending.winner

abbrev pub Follows : Hub → ℕ → Option Start → Option Ending → Passes → Option TakeFault → Passes → Type 0
Follows hub moment (Some start) ended old stop new = Begins hub start old stop new
Follows hub moment None (Some ending) old stop new = MakesOnly hub (Hall (report ending)) moment old stop new
Follows hub moment None None old stop new = (stop ≡ None) × (new ≡ old)

-- ---- no such room

abbrev pub TellsNowhereIf : Bool → Hub → ℕ → Passes → Option TakeFault → Passes → Type 0
TellsNowhereIf true hub moment old stop new = (stop ≡ Some (take_faults.Limit None)) × (new ≡ old)
TellsNowhereIf false hub moment old stop new = MakesOnly hub (bad_order NoSuchRoom) moment old stop new

-- the hall's Bad, where the hall takes a text more
abbrev pub TellsNowhere : Hub → ℕ → Record → Passes → Option TakeFault → Passes → Type 0
TellsNowhere hub moment session old stop new = TellsNowhereIf (is_full None session) hub moment old stop new

-- ---- all of an order

-- the session and the passes before, and after it
abbrev pub Obeys : Hub → Order → ℕ → Record → Passes → Option TakeFault → Record → Passes → Type 0
Obeys hub order moment session old stop after new =
    ((out : HubOut) × (mid : Passes) × Makes hub order moment old (Ok out) mid × (after ≡ with_given out.badge session)
    × Follows hub moment out.start out.ended mid stop new)
    ⊎ ((mid : Passes) × Makes hub order moment old (Err unmade.NoSuchRoom) mid × (after ≡ after_no_room session)
    × TellsNowhere hub moment session mid stop new)
    ⊎ ((stop ≡ Some take_faults.NoMemory) × Makes hub order moment old (Err unmade.NoMemory) new)

-- the order is for the room of the text that was counted last, if it is for a room
abbrev pub IsLast : Order → Record → Type 0
IsLast (Hall cmd) session = Unit {0}
IsLast (Room id cmd) session = session.last ≡ Some id
