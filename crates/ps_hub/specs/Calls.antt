-- What the calls of a hub do.
use Rattle.std.specs.Prelude.{◌≡◌, ◌≢◌, ◌⊎◌, ℕ, ◌<◌, ◌≤◌, List, [], length, slice_get, slice_set, All, IsSome, Option, Some, None}
use Rattle.std.specs.Prelude.{Result, Ok, Err}
use Rattle.std.specs.List.{AllZip}
use Rattle.std.specs.declared.vec.Vec.{Vec}
use Rattle.std.specs.declared.alloc.Global.{Global}
use Rattle.ps_base.specs.declared.badge.Badge.{Badge}
use Rattle.ps_base.specs.declared.msg.Msg.{Msg}
use Rattle.ps_lines.specs.declared.command.Command.{Command}
use Rattle.ps_lines.specs.declared.command.Command.TheVariants as room_commands
use Rattle.ps_lines.specs.declared.command.HallCmd.{HallCmd}
use Rattle.ps_lines.specs.declared.command.HallCmd.TheVariants as hall_commands
use Rattle.ps_lines.specs.declared.order.Order.{Order}
use Rattle.ps_lines.specs.declared.order.Order.TheVariants.{Hall, Room}
use Rattle.rules_start.specs.declared.start.Start.{Start}
use Rattle.ps_hall.specs.declared.entry.HallEntry.{HallEntry}
use Rattle.ps_hall.specs.declared.outcome.HallOut.{HallOut}
use Rattle.ps_room.specs.declared.entry.Entry.{Entry}
use Rattle.ps_room.specs.declared.outcome.RoomOut.{RoomOut}
use Rattle.ps_room.specs.declared.outcome.Verdict.{Verdict}
pub use Rattle.ps_room.specs.Logs.{entry_of as room_entry}
use Rattle.ps_room.specs.Openings.{first_battle, room_of_battle}
use Rattle.ps_room.specs.Stories.{Story}
use Rattle.ps_room.specs.Logs.{ended_in}
use Rattle.ps_histlock.specs.declared.view.Entry.{Entry as Made}
use Rattle.ps_histlock.specs.declared.view.View.{View}
use Rattle.ps_histlock.specs.declared.lock.TheConstants.{OWN_LIMIT}
use Rattle.ps_histlock.specs.Histories.{commands, signed}
use Rattle.ps_histlock.specs.Views.{after_look, newcomer, heir_of, with_number, Extends}
use Rattle.ps_histlock.specs.Locks.{IsNameTaken}
use Rattle.ps_histlock.specs.Signs.{Speaks}
use Rattle.ps_histlock.specs.Turns.{turned, Turns, IsBusy}
use Rattle.server_places.specs.declared.command.RoomCmd.{RoomCmd}
use Rattle.server_places.specs.declared.command.RoomCmd.TheVariants.{Begin, Play}
use Rattle.ps_users.specs.Refusals.{read_of}
use Rattle.server_places.specs.declared.site.Root.{Root}
use Rattle.server_places.specs.declared.site.Site.{Site}
use Rattle.server_places.specs.Sites.{Tells, id_told, room_signer}
use Rattle.server_places.specs.Rooms.{Answers}
use Rattle.server_places.specs.Halls.{HallAnswers, hall_signer}
use Rattle.ps_hub.specs.declared.out.AdmitFault.{AdmitFault}
use Rattle.ps_hub.specs.declared.out.AdmitFault.TheVariants as admit_faults
use Rattle.ps_hub.specs.declared.out.QuitFault.{QuitFault}
use Rattle.ps_hub.specs.declared.out.QuitFault.TheVariants as quit_faults
use Rattle.ps_hub.specs.declared.out.EnterFault.{EnterFault}
use Rattle.ps_hub.specs.declared.out.EnterFault.TheVariants as enter_faults
use Rattle.ps_hub.specs.declared.out.HubFault.{HubFault}
use Rattle.ps_hub.specs.declared.out.HubFault.TheVariants as hub_faults
use Rattle.ps_hub.specs.declared.out.HubOut.{HubOut}
use Rattle.ps_hub.specs.declared.passes.Passes.{Passes}
use Rattle.ps_hub.specs.Hubs.{Hub, root_of, site_of}
use Rattle.ps_hub.specs.Names.{IsNoChat, IsBattleId, Names}
use Rattle.server_pass.specs.Catches.{IsFresh, LooksAtMost, Caught as CaughtAt, Handed as HandedAt}
use Rattle.server_pass.specs.Turns.{TurnsAtLast, Rereads, TurnsInTheEnd, FallsShort, FallsShortAtLast}
use Rattle.server_places.specs.Tellings.{hall_telling, room_telling}
use Rattle.ps_hub.specs.Passes.{HallPass, RoomPass, IsHallPass, IsAsBefore, ButFor}

-- ---- entries

abbrev pub hall_entry : ℕ → ℕ → HallCmd → HallEntry
hall_entry conn moment cmd = record { conn = conn; moment = moment; cmd = cmd }

-- the badge that a connection has after an entry that gave this one, or none
abbrev pub badge_after : Option Badge → Option Badge → Option Badge
badge_after old None = old
badge_after old (Some badge) = Some badge

-- ---- entering

-- the room of the place, as far as the pass has seen its history, is missing or has another id
abbrev pub Lacks : Hub → List ℕ → RoomPass → Type 0
Lacks hub id pass = (told : Option Story) × Tells (site_of hub pass.number) (commands pass.pass.1.seen) told × (id_told told ≢ Some id)

-- A place is held by an id: it was already, and nothing changed; or it is a chat room's, and nothing else changed; or it is a
-- battle's, which was free, and its pass took a turn, which found the room with that id.
abbrev pub Held : List ℕ → RoomPass → RoomPass → Type 0
Held id before behind = ((before.id ≡ Some id) × (behind ≡ before))
    ⊎ ((before.number < first_battle) × (behind ≡ record before { id = Some id }))
    ⊎ ((first_battle ≤ before.number) × (before.id ≡ None) × (behind.id ≡ Some id) × (behind.at ≡ before.at)
    × Turns before.pass.1 None behind.pass.1)

-- It isn't, since no such room is there: it is held by another id, and nothing changed; or its pass took a turn, which found no
-- room with that id. Never of a chat room.
abbrev pub NotHeld : Hub → List ℕ → RoomPass → RoomPass → Type 0
NotHeld hub id before behind = (first_battle ≤ before.number)
    × (((other : List ℕ) × (before.id ≡ Some other) × (other ≢ id) × (behind ≡ before))
    ⊎ ((before.id ≡ None) × (behind.id ≡ None) × (behind.at ≡ before.at) × Turns before.pass.1 None behind.pass.1 × Lacks hub id behind))

-- somebody else had the turn. Never of a chat room.
abbrev pub HeldUp : ℕ → RoomPass → RoomPass → Type 0
HeldUp word before behind = (first_battle ≤ before.number) × (before.id ≡ None) × (behind.id ≡ None) × (behind.at ≡ before.at)
    × IsBusy before.pass.1 word behind.pass.1

-- Out of memory: at the most the pass took a turn without an entry, and that only at the place of a battle which isn't
-- held. No message was pulled, so the cursor stands where it stood.
abbrev pub Unheld : RoomPass → RoomPass → Type 0
Unheld before behind = (behind.id ≡ before.id) × (behind.at ≡ before.at) × (behind.cursor ≡ before.cursor)
    × ((behind.pass.1 ≡ before.pass.1) ⊎ ((first_battle ≤ before.number) × (before.id ≡ None) × Turns before.pass.1 None behind.pass.1))

-- what a call that enters does to the pass of the place that the id names
pub record EntersAt (hub : Hub) (id : List ℕ) (does : RoomPass → RoomPass → Type 0) (old new : Passes) : Type 0 where
  pub before : RoomPass
  pub behind : RoomPass
  pub named : Names hub.config id before.number
  pub but : ButFor hub old before behind new
  pub done : does before behind

-- the id names no place: no chat room of the configuration has it, and it is no `battle-FORMAT-n` with n from 1 to 65,536
abbrev pub NamesNone : Hub → List ℕ → Type 0
NamesNone hub id = IsNoChat hub.config id × ((number : ℕ) → IsBattleId id number → ⊥)

abbrev pub EnterFails : Hub → List ℕ → Passes → EnterFault → Passes → Type 0
EnterFails hub id old enter_faults.NoSuchRoom new = (NamesNone hub id × (new ≡ old)) ⊎ EntersAt hub id (NotHeld hub id) old new
EnterFails hub id old (enter_faults.Busy word) new = EntersAt hub id (HeldUp word) old new
EnterFails hub id old enter_faults.NoMemory new = IsAsBefore old new ⊎ EntersAt hub id Unheld old new

-- what asking for a room by an id does to the pass of the place that it names
abbrev pub Holds : {T : Type 0} → Hub → List ℕ → RoomPass → Result T EnterFault → RoomPass → Type 0
Holds hub id before (Ok done) behind = Held id before behind
Holds hub id before (Err enter_faults.NoSuchRoom) behind = NotHeld hub id before behind
Holds hub id before (Err (enter_faults.Busy word)) behind = HeldUp word before behind
Holds hub id before (Err enter_faults.NoMemory) behind = Unheld before behind

abbrev pub Enters : {T : Type 0} → Hub → List ℕ → Passes → Result T EnterFault → Passes → Type 0
Enters hub id old (Ok done) new = EntersAt hub id (Held id) old new
Enters hub id old (Err fault) new = EnterFails hub id old fault new

-- ---- orders to the hall

-- what a call does to the pass of the hall; all else stays, but for the badge
pub record HallGoes (does : HallPass → HallPass → Type 0) (old new : Passes) : Type 0 where
  pub before : HallPass
  pub behind : HallPass
  pub was : old.hall ≡ Some before
  pub is : new.hall ≡ Some behind
  pub at : behind.at ≡ before.at
  pub done : does before behind
  pub rooms : new.rooms.items ≡ old.rooms.items
  pub conn : new.conn ≡ old.conn

-- one entry of the hall by the connection's pass, what it gave, and the badge that is kept
pub record HallOrdered (hub : Hub) (cmd : HallCmd) (moment : ℕ) (old : Passes) (out : HubOut) (new : Passes) : Type 0 where
  pub log : List (Made HallEntry)
  pub gave : HallOut
  pub goes : HallGoes (λ before behind. Extends before.pass.1 log
      × (behind.pass.1 ≡ turned before.pass.1 log (Some (hall_entry old.conn moment cmd)))
      × (length before.pass.1.mine ≢ OWN_LIMIT)) old new
  pub answer : HallAnswers (root_of hub) (commands log) (hall_entry old.conn moment cmd) gave
  pub badge_out : out.badge ≡ gave.badge
  pub start : out.start ≡ gave.start
  pub ended : out.ended ≡ None
  pub verdict : out.verdict ≡ None
  pub badge : new.badge ≡ badge_after old.badge gave.badge

-- the badge is as before
abbrev pub HallFails : Hub → HallCmd → ℕ → Passes → HubFault → Passes → Type 0
HallFails hub cmd moment old (hub_faults.OwnLimit room) new = (room ≡ None) × (new.badge ≡ old.badge)
    × HallGoes (λ before behind. (length before.pass.1.mine ≡ OWN_LIMIT) × (behind.pass ≡ before.pass)) old new
HallFails hub cmd moment old hub_faults.Taken new = ⊥
HallFails hub cmd moment old hub_faults.NoSuchRoom new = ⊥
HallFails hub cmd moment old (hub_faults.Busy word order) new = (order ≡ Hall cmd) × (new.badge ≡ old.badge)
    × HallGoes (λ before behind. IsBusy before.pass.1 word behind.pass.1 × (length before.pass.1.mine ≢ OWN_LIMIT)) old new
HallFails hub cmd moment old hub_faults.NoMemory new = (new.badge ≡ old.badge)
    × HallGoes (λ before behind. FallsShort before.pass.1 before.cursor behind.pass.1 behind.cursor) old new

-- what a turn with this entry does to the pass of the hall
abbrev pub HallTakes : HallEntry → HallPass → Result HallOut HubFault → HallPass → Type 0
HallTakes entry before (Ok gave) behind = (log : List (Made HallEntry)) × Extends before.pass.1 log
    × (behind.pass.1 ≡ turned before.pass.1 log (Some entry))
    × HallAnswers before.pass.1.origin (commands log) entry gave × (length before.pass.1.mine ≢ OWN_LIMIT)
HallTakes entry before (Err (hub_faults.OwnLimit room)) behind = (room ≡ None) × (length before.pass.1.mine ≡ OWN_LIMIT)
    × (behind.pass ≡ before.pass)
HallTakes entry before (Err hub_faults.Taken) behind = ⊥
HallTakes entry before (Err hub_faults.NoSuchRoom) behind = ⊥
HallTakes entry before (Err (hub_faults.Busy word order)) behind = (order ≡ Hall entry.cmd) × IsBusy before.pass.1 word behind.pass.1
    × (length before.pass.1.mine ≢ OWN_LIMIT)
HallTakes entry before (Err hub_faults.NoMemory) behind = FallsShort before.pass.1 before.cursor behind.pass.1 behind.cursor

-- the name that a command asks for, if it asks for one
abbrev pub name_asked : HallCmd → Option (List ℕ)
name_asked (hall_commands.Name name assertion) = read_of name
name_asked other = None

-- ---- orders to a room

-- what came of an entry, if the place has a room
abbrev pub verdict_in : Option RoomOut → Option Verdict
verdict_in None = None
verdict_in (Some out) = Some out.verdict

-- what an entry of a room gave
abbrev pub room_gave : Option RoomOut → HubOut
room_gave gave = record { badge = None; start = None; ended = ended_in gave; verdict = verdict_in gave }

-- what a call does to the pass of a place that is held by an id
pub record RoomGoes (hub : Hub) (id : List ℕ) (does : RoomPass → RoomPass → Type 0) (old new : Passes) : Type 0 where
  pub before : RoomPass
  pub behind : RoomPass
  pub named : Names hub.config id before.number
  pub held : before.id ≡ Some id
  pub held_on : behind.id ≡ Some id
  pub at : behind.at ≡ before.at
  pub but : ButFor hub old before behind new
  pub done : does before behind

-- one entry of the room by the connection's pass, with the badge that is kept, and what it gave
pub record RoomOrdered (hub : Hub) (id : List ℕ) (cmd : Command) (moment : ℕ) (old : Passes) (out : HubOut) (new : Passes) : Type 0 where
  pub badge : Badge
  pub badge_is : old.badge ≡ Some badge
  pub number : ℕ
  pub log : List (Made RoomCmd)
  pub gave : Option RoomOut
  pub goes : RoomGoes hub id (λ before behind. (before.number ≡ number) × Extends before.pass.1 log
      × (behind.pass.1 ≡ turned before.pass.1 log (Some (Play (room_entry old.conn badge moment cmd))))
      × (length before.pass.1.mine ≢ OWN_LIMIT)) old new
  pub answer : Answers (site_of hub number) (commands log) (Play (room_entry old.conn badge moment cmd)) gave
  pub no_badge : out.badge ≡ None
  pub start : out.start ≡ None
  pub ended : out.ended ≡ ended_in gave
  pub verdict : out.verdict ≡ verdict_in gave

-- a turn that made no entry, since one stands that is signed as the command is, and the pass has signed none so
abbrev pub IsKeptOut : RoomCmd → RoomPass → RoomPass → Type 0
IsKeptOut cmd before behind = Turns before.pass.1 None behind.pass.1 × (behind.cursor ≡ before.cursor)
    × IsNameTaken room_signer before.pass.1.said behind.pass.1.seen cmd

-- what a turn with this entry does to the pass of a place that is held by this id
abbrev pub RoomTakes : Site → List ℕ → Entry → RoomPass → Result HubOut HubFault → RoomPass → Type 0
RoomTakes site id entry before (Ok out) behind =
    (log : List (Made RoomCmd)) × (gave : Option RoomOut) × Extends before.pass.1 log
    × (behind.pass.1 ≡ turned before.pass.1 log (Some (Play entry)))
    × Answers site (commands log) (Play entry) gave × (out ≡ room_gave gave) × (length before.pass.1.mine ≢ OWN_LIMIT)
RoomTakes site id entry before (Err (hub_faults.OwnLimit room)) behind = (room ≡ Some id) × (length before.pass.1.mine ≡ OWN_LIMIT)
    × (behind.pass ≡ before.pass)
RoomTakes site id entry before (Err hub_faults.Taken) behind = IsKeptOut (Play entry) before behind
RoomTakes site id entry before (Err hub_faults.NoSuchRoom) behind = ⊥
RoomTakes site id entry before (Err (hub_faults.Busy word order)) behind = (order ≡ Room id entry.cmd)
    × IsBusy before.pass.1 word behind.pass.1
    × (length before.pass.1.mine ≢ OWN_LIMIT)
RoomTakes site id entry before (Err hub_faults.NoMemory) behind = FallsShort before.pass.1 before.cursor behind.pass.1 behind.cursor

-- after the place is held
abbrev pub RoomFails : Hub → List ℕ → Command → ℕ → Passes → HubFault → Passes → Type 0
RoomFails hub id cmd moment old (hub_faults.OwnLimit room) new = (room ≡ Some id)
    × RoomGoes hub id (λ before behind. (length before.pass.1.mine ≡ OWN_LIMIT) × (behind.pass ≡ before.pass)) old new
RoomFails hub id cmd moment old hub_faults.Taken new =
    (badge : Badge) × (old.badge ≡ Some badge) × RoomGoes hub id (IsKeptOut (Play (room_entry old.conn badge moment cmd))) old new
RoomFails hub id cmd moment old hub_faults.NoSuchRoom new = ⊥
RoomFails hub id cmd moment old (hub_faults.Busy word order) new = (order ≡ Room id cmd)
    × RoomGoes hub id (λ before behind. IsBusy before.pass.1 word behind.pass.1 × (length before.pass.1.mine ≢ OWN_LIMIT)) old new
RoomFails hub id cmd moment old hub_faults.NoMemory new =
    (badge : Badge) × (old.badge ≡ Some badge)
    × RoomGoes hub id (λ before behind. FallsShort before.pass.1 before.cursor behind.pass.1 behind.cursor) old new

-- while the place isn't held
abbrev pub EntryFails : Hub → List ℕ → Command → Passes → HubFault → Passes → Type 0
EntryFails hub id cmd old (hub_faults.OwnLimit room) new = ⊥
EntryFails hub id cmd old hub_faults.Taken new = ⊥
EntryFails hub id cmd old hub_faults.NoSuchRoom new = EnterFails hub id old enter_faults.NoSuchRoom new
EntryFails hub id cmd old (hub_faults.Busy word order) new = (order ≡ Room id cmd) × EnterFails hub id old (enter_faults.Busy word) new
EntryFails hub id cmd old hub_faults.NoMemory new = EnterFails hub id old enter_faults.NoMemory new

-- why an order made no entry, by why its place isn't held
abbrev pub not_entered : EnterFault → List ℕ → Command → HubFault
not_entered enter_faults.NoSuchRoom id cmd = hub_faults.NoSuchRoom
not_entered (enter_faults.Busy word) id cmd = hub_faults.Busy word (Room id cmd)
not_entered enter_faults.NoMemory id cmd = hub_faults.NoMemory

-- What an order does: to a room it enters the place first, as `enter`, which changes nothing where the place is held by that id.
abbrev pub Orders : Hub → Order → ℕ → Passes → Result HubOut HubFault → Passes → Type 0
Orders hub (Hall cmd) moment old (Ok out) new = HallOrdered hub cmd moment old out new
Orders hub (Hall cmd) moment old (Err fault) new = HallFails hub cmd moment old fault new
Orders hub (Room id cmd) moment old (Ok out) new = (mid : Passes) × EntersAt hub id (Held id) old mid
    × RoomOrdered hub id cmd moment mid out new
Orders hub (Room id cmd) moment old (Err fault) new = EntryFails hub id cmd old fault new
    ⊎ ((mid : Passes) × EntersAt hub id (Held id) old mid × RoomFails hub id cmd moment mid fault new)

-- ---- the begin of a battle

-- the place of a battle, by a pass of it that is kept or made
pub record BeginsAt (hub : Hub) (start : Start) (does : RoomPass → RoomPass → Type 0) (old new : Passes) : Type 0 where
  pub before : RoomPass
  pub behind : RoomPass
  pub number : before.number ≡ room_of_battle start.number
  pub id : behind.id ≡ before.id
  pub at : behind.at ≡ before.at
  pub but : ButFor hub old before behind new
  pub done : does before behind

-- no Begin, if out of memory, or the pass had made as many entries as it may
abbrev pub BeginsNothing : RoomPass → RoomPass → Type 0
BeginsNothing before behind = FallsShortAtLast before.pass.1 before.cursor behind.pass.1 behind.cursor

abbrev pub Starts : {T E : Type 0} → Hub → Start → Passes → Result T E → Passes → Type 0
Starts hub start old (Ok done) new = BeginsAt hub start
    (λ before behind. TurnsAtLast before.pass.1 (Some (Begin start)) behind.pass.1) old new
Starts hub start old (Err fault) new = IsAsBefore old new ⊎ BeginsAt hub start BeginsNothing old new

-- ---- the begin of a connection

-- A new pass of the hall, the opener, made the Open by one turn, and nothing else. The connection's pass is its heir: it has seen
-- as much, has made no entry, and speaks for what the opener has signed.
pub record Admits (hub : Hub) (conn moment : ℕ) (new : Passes) : Type 0 where
  pub pass : HallPass
  pub hall : new.hall ≡ Some pass
  pub by : ℕ
  pub opener : View Root HallEntry
  pub opened : TurnsAtLast (newcomer (root_of hub) by) (Some (hall_entry conn moment hall_commands.Open)) opener
  pub number : ℕ
  pub split : pass.pass.1 ≡ with_number (heir_of opener) number
  pub at : pass.at ≡ 0
  pub rooms : new.rooms.items ≡ []
  pub badge : new.badge ≡ None
  pub conn_is : new.conn ≡ conn

-- an entry stands in the hall under the number of the connection, and the pass that met it has said nothing under it
pub record IsStranger (hub : Hub) (conn : ℕ) (pass : HallPass) : Type 0 where
  pub of : IsHallPass hub conn pass
  pub silent : signed hall_signer conn (commands pass.pass.1.said) ≡ []
  pub stands : Speaks hall_signer conn pass.pass.1.seen

abbrev pub IsRefused : Hub → ℕ → AdmitFault → Type 0
IsRefused hub conn (admit_faults.Taken opener) = IsStranger hub conn opener
IsRefused hub conn admit_faults.NoMemory = Unit {0}

-- what an order needs: one to a room a badge
abbrev pub NeedsBadge : Order → Passes → Type 0
NeedsBadge (Hall cmd) passes = Unit {0}
NeedsBadge (Room id cmd) passes = IsSome passes.badge

-- ---- catching up

abbrev pub HallCaught : Hub → ℕ → List Msg → HallPass → HallPass → Type 0
HallCaught hub conn msgs before behind = CaughtAt hall_telling conn (root_of hub) msgs before behind

abbrev pub HallHanded : Hub → ℕ → List Msg → HallPass → HallPass → Type 0
HallHanded hub conn msgs before behind = HandedAt hall_telling conn (root_of hub) msgs before behind

-- what a call does to the pass of the hall, and to nothing else
pub record HallOnly (does : HallPass → HallPass → Type 0) (old new : Passes) : Type 0 where
  pub before : HallPass
  pub behind : HallPass
  pub was : old.hall ≡ Some before
  pub is : new.hall ≡ Some behind
  pub done : does before behind
  pub rooms : new.rooms.items ≡ old.rooms.items
  pub conn : new.conn ≡ old.conn
  pub badge : new.badge ≡ old.badge

abbrev pub CatchesUpHall : {E : Type 0} → Hub → Passes → Result (Vec Msg Global) E → Passes → Type 0
CatchesUpHall hub old (Ok msgs) new = HallOnly (HallCaught hub old.conn msgs.items) old new
CatchesUpHall hub old (Err fault) new = HallOnly (λ before behind. LooksAtMost before.pass.1 behind.pass.1 × (behind.at ≡ before.at))
    old new

-- if out of memory, nothing was handed out
abbrev pub HandsOnHall : {E : Type 0} → Hub → Passes → Result (Vec Msg Global) E → Passes → Type 0
HandsOnHall hub old (Ok msgs) new = HallOnly (HallHanded hub old.conn msgs.items) old new
HandsOnHall hub old (Err fault) new = HallOnly (λ before behind. Rereads before.pass.1 behind.pass.1 × (behind.at ≡ before.at)) old new

abbrev pub Caught : Hub → ℕ → List Msg → RoomPass → RoomPass → Type 0
Caught hub conn msgs before behind = CaughtAt room_telling conn (site_of hub before.number) msgs before behind

abbrev pub Handed : Hub → ℕ → List Msg → RoomPass → RoomPass → Type 0
Handed hub conn msgs before behind = HandedAt room_telling conn (site_of hub before.number) msgs before behind

-- what a call does to the pass that stands at an index of the list, and to nothing else
pub record RoomOnly (pass_index : ℕ) (does : RoomPass → RoomPass → Type 0) (old new : Passes) : Type 0 where
  pub before : RoomPass
  pub behind : RoomPass
  pub was : slice_get old.rooms.items pass_index ≡ Some before
  pub rooms : new.rooms.items ≡ slice_set old.rooms.items pass_index behind
  pub number : behind.number ≡ before.number
  pub id : behind.id ≡ before.id
  pub done : does before behind
  pub conn : new.conn ≡ old.conn
  pub badge : new.badge ≡ old.badge
  pub hall : new.hall ≡ old.hall

abbrev pub CatchesUp : {E : Type 0} → Hub → ℕ → Passes → Result (Vec Msg Global) E → Passes → Type 0
CatchesUp hub pass_index old (Ok msgs) new = RoomOnly pass_index (Caught hub old.conn msgs.items) old new
CatchesUp hub pass_index old (Err fault) new = RoomOnly pass_index
    (λ before behind. LooksAtMost before.pass.1 behind.pass.1 × (behind.at ≡ before.at)) old new

abbrev pub HandsOn : {E : Type 0} → Hub → ℕ → Passes → Result (Vec Msg Global) E → Passes → Type 0
HandsOn hub pass_index old (Ok msgs) new = RoomOnly pass_index (Handed hub old.conn msgs.items) old new
HandsOn hub pass_index old (Err fault) new = RoomOnly pass_index
    (λ before behind. Rereads before.pass.1 behind.pass.1 × (behind.at ≡ before.at)) old new

-- the hall, or a room that is held by this id
abbrev pub IsHeldBy : Option (List ℕ) → Passes → Type 0
IsHeldBy None passes = Unit {0}
IsHeldBy (Some id) passes = (pass_index : ℕ) × (pass : RoomPass) × (slice_get passes.rooms.items pass_index ≡ Some pass)
    × (pass.id ≡ Some id)

abbrev pub Catches : {E : Type 0} → Hub → Option (List ℕ) → Passes → Result (Vec Msg Global) E → Passes → Type 0
Catches hub None old result new = CatchesUpHall hub old result new
Catches hub (Some id) old result new =
    (pass_index : ℕ) × (pass : RoomPass) × (slice_get old.rooms.items pass_index ≡ Some pass) × (pass.id ≡ Some id)
    × CatchesUp hub pass_index old result new

-- ---- counting

-- a look alone
abbrev pub LooksHall : ℕ → HallPass → HallPass → Type 0
LooksHall shown before behind = (length before.pass.1.seen ≤ shown)
    × (behind ≡ record before { pass = (before.pass.0, after_look before.pass.1 shown) }) × IsFresh before.pass.1 shown

abbrev pub LooksRoom : ℕ → RoomPass → RoomPass → Type 0
LooksRoom shown before behind = (length before.pass.1.seen ≤ shown)
    × (behind ≡ record before { pass = (before.pass.0, after_look before.pass.1 shown) }) × IsFresh before.pass.1 shown

abbrev pub Counts : Option (List ℕ) → Passes → ℕ → Passes → Type 0
Counts None old count new = HallOnly (LooksHall count) old new
Counts (Some id) old count new =
    (pass_index : ℕ) × (pass : RoomPass) × (slice_get old.rooms.items pass_index ≡ Some pass) × (pass.id ≡ Some id)
    × RoomOnly pass_index (LooksRoom count) old new

-- ---- the end of a connection

-- the entries of the end can be made: a badge is kept where a room is held
abbrev pub MayQuit : Passes → Type 0
MayQuit passes = All (λ (pass : RoomPass). IsSome pass.id → IsSome passes.badge) passes.rooms.items

-- An entry stands in the room under the number of the connection, and its pass, as far as it has said anything, hasn't made it
abbrev pub IsShutOut : ℕ → RoomPass → QuitFault → Type 0
IsShutOut conn pass quit_faults.Taken = (signed room_signer conn (commands pass.pass.1.said) ≡ [])
    × Speaks room_signer conn pass.pass.1.seen
IsShutOut conn pass quit_faults.NoMemory = Unit {0}

-- so it is in one of the rooms
abbrev pub IsShutOutAmong : ℕ → List RoomPass → QuitFault → Type 0
IsShutOutAmong conn rooms quit_faults.Taken = (pass_index : ℕ) × (pass : RoomPass) × (slice_get rooms pass_index ≡ Some pass)
    × IsShutOut conn pass quit_faults.Taken
IsShutOutAmong conn rooms quit_faults.NoMemory = Unit {0}

-- the Quit in the hall
abbrev pub QuitsHall : ℕ → ℕ → HallPass → HallPass → Type 0
QuitsHall conn moment before behind = TurnsInTheEnd before.pass.1 (hall_entry conn moment hall_commands.Quit) behind.pass.1
    × (behind.at ≡ before.at)

-- the Quit in a room, where it is held
abbrev pub QuitsBy : Option (List ℕ) → Option Badge → ℕ → ℕ → RoomPass → RoomPass → Type 0
QuitsBy None badge conn moment before behind = behind ≡ before
QuitsBy (Some id) badge conn moment before behind =
    (kept_badge : Badge) × (badge ≡ Some kept_badge)
    × TurnsInTheEnd before.pass.1 (Play (room_entry conn kept_badge moment room_commands.Quit)) behind.pass.1
    × (behind.at ≡ before.at) × (behind.number ≡ before.number) × (behind.id ≡ before.id)

abbrev pub QuitsRoom : Option Badge → ℕ → ℕ → RoomPass → RoomPass → Type 0
QuitsRoom badge conn moment before behind = QuitsBy before.id badge conn moment before behind

-- No Quit in a room that is held, if out of memory, or the pass had made as many entries as it may: turns without an entry, if any, which
-- pulled nothing.
abbrev pub StaysInRoom : RoomPass → RoomPass → Type 0
StaysInRoom before behind = IsSome before.id × (behind.number ≡ before.number) × (behind.id ≡ before.id) × (behind.at ≡ before.at)
    × (behind.cursor ≡ before.cursor) × Rereads before.pass.1 behind.pass.1

-- the same in the hall
abbrev pub StaysInHall : HallPass → HallPass → Type 0
StaysInHall before behind = (behind.at ≡ before.at) × (behind.cursor ≡ before.cursor) × Rereads before.pass.1 behind.pass.1

-- the Quit, or none
abbrev pub QuitsRoomAtMost : Option Badge → ℕ → ℕ → RoomPass → RoomPass → Type 0
QuitsRoomAtMost badge conn moment before behind = QuitsRoom badge conn moment before behind ⊎ StaysInRoom before behind

abbrev pub QuitsHallAtMost : ℕ → ℕ → HallPass → HallPass → Type 0
QuitsHallAtMost conn moment before behind = QuitsHall conn moment before behind ⊎ StaysInHall before behind

pub record QuitsWith (room : RoomPass → RoomPass → Type 0) (hall : HallPass → HallPass → Type 0) (old new : Passes) : Type 0 where
  pub rooms : AllZip room old.rooms.items new.rooms.items
  pub before : HallPass
  pub behind : HallPass
  pub was : old.hall ≡ Some before
  pub is : new.hall ≡ Some behind
  pub done : hall before behind
  pub conn : new.conn ≡ old.conn
  pub badge : new.badge ≡ old.badge

abbrev pub Quits : {T E : Type 0} → ℕ → Passes → Result T E → Passes → Type 0
Quits moment old (Ok done) new = QuitsWith (QuitsRoom old.badge old.conn moment) (QuitsHall old.conn moment) old new
Quits moment old (Err fault) new = QuitsWith (QuitsRoomAtMost old.badge old.conn moment) (QuitsHallAtMost old.conn moment) old new
