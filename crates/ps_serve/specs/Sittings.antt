-- What a session has kept since its begin: its passes agree with what it did and with what it sent.
use Rattle.std.specs.Prelude.{◌≡◌, ◌≢◌, ◌⊎◌, ℕ, ◌+◌, ◌-◌, ◌≤◌, List, [], ◌∷◌, ◌++◌, length, take, All, Contains, IsSome, Bool, true}
use Rattle.std.specs.Prelude.{false, Option, Some, None}
use mathlib.Core.List.{IsPrefix}
use Rattle.ps_base.specs.declared.badge.Badge.{Badge}
use Rattle.ps_lines.specs.declared.command.Command.{Command}
use Rattle.ps_lines.specs.declared.command.HallCmd.{HallCmd}
use Rattle.ps_lines.specs.declared.command.HallCmd.TheVariants.{Open}
use Rattle.rules_start.specs.declared.start.Start.{Start}
use Rattle.ps_hall.specs.declared.entry.HallEntry.{HallEntry}
use Rattle.ps_hall.specs.declared.outcome.HallOut.{HallOut}
use Rattle.ps_room.specs.declared.outcome.Ending.{Ending}
use Rattle.ps_room.specs.declared.outcome.RoomOut.{RoomOut}
use Rattle.ps_histlock.specs.declared.view.Entry.{Entry}
use Rattle.ps_histlock.specs.declared.view.View.{View}
use Rattle.ps_histlock.specs.Histories.{commands, entry, entries_of}
use Rattle.ps_session.specs.Sessions.{Record, begun}
use Rattle.ps_room.specs.Openings.{first_battle, room_of_battle}
use Rattle.ps_room.specs.Stories.{Story}
use Rattle.ps_room.specs.Logs.{ended_in}
use Rattle.server_places.specs.declared.command.RoomCmd.{RoomCmd}
use Rattle.server_places.specs.declared.command.RoomCmd.TheVariants.{Play}
use Rattle.server_places.specs.Rooms.{Answers, Shows}
use Rattle.server_places.specs.Halls.{HallAnswers, HallShows}
use Rattle.ps_hub.specs.Hubs.{Hub, root_of, site_of}
use Rattle.ps_hub.specs.Names.{Names}
use Rattle.ps_hub.specs.Passes.{HallPass, RoomPass, AreOf}
use Rattle.server_places.specs.Sites.{Tells, id_told}
use Rattle.ps_hub.specs.Calls.{hall_entry, room_entry, Lacks, NamesNone}
use Rattle.ps_hub.specs.declared.passes.Passes.{Passes}
use Rattle.ps_serve.specs.Acts.{Made, in_hall, in_room, nowhere, Act, quiet, heard, after_acts, AreActs, hall_entries, room_cmds}
use Rattle.ps_serve.specs.Acts.{since, asked, begins, all_begun}
use Rattle.ps_serve.specs.Sendings.{Sending, texts_from, message_texts, AreLooksAnswered}

-- ---- what was sent of what a pass has seen

-- All messages of the first `at` entries that the pass has seen were sent from the place, and nothing else was.
module _ {C : Type 0} (shows : List C → List (List (List ℕ)) → Type 0) where
  abbrev pub IsSent : List C → ℕ → Option (List ℕ) → Option ℕ → List Sending → Type 0
  IsSent cmds at room place ss = (view : List (List (List ℕ))) × shows (take at cmds) view × (texts_from place ss ≡ message_texts room view)

-- ---- the hall

-- The pass of the hall, where the acts made entries and the first `looked` of them had their look: it has made the entries of
-- the acts, each look was answered, and what was handed out was sent.
pub record HallSits (hub : Hub) (conn : ℕ) (acts : List Act) (looked : ℕ) (ss : List Sending) (hall : HallPass) : Type 0 where
  pub entries : commands hall.pass.1.mine ≡ hall_entries conn acts
  pub count : length hall.pass.1.looks ≡ looked
  pub looks : AreLooksAnswered (HallShows conn (root_of hub)) (commands hall.pass.1.seen) None None ss 1 hall.pass.1.looks
  pub sent : IsSent (HallShows conn (root_of hub)) (commands hall.pass.1.seen) hall.at None None ss

-- The Open stands in what the pass of the hall has seen. It is an entry of another pass, which had none before it.
pub record HasOpen (conn open_at : ℕ) (hall : HallPass) : Type 0 where
  pub before : List (Entry HallEntry)
  pub opener : ℕ
  pub there : IsPrefix (before ++ entry opener (hall_entry conn open_at Open) ∷ []) hall.pass.1.seen
  pub alone : entries_of opener before ≡ []
  pub other : opener ≢ hall.pass.1.number

-- ---- rooms

-- A place that is held: the room is joined since the first act that made an entry in it, and was looked at since then.
pub record RoomSits (hub : Hub) (conn : ℕ) (acts : List Act) (looked : ℕ) (ss : List Sending) (id : List ℕ) (room : RoomPass) : Type 0 where
  pub count : length room.pass.1.looks + (length acts - looked) ≡ length (since room.number acts)
  pub looks : AreLooksAnswered (Shows conn (site_of hub room.number)) (commands room.pass.1.seen) (Some id) (Some room.number) ss
      (length acts - length (since room.number acts) + 1) room.pass.1.looks
  pub named : Names hub.config id room.number

-- the last of some ids that were asked isn't that of the room of the place, as far as its pass has seen
abbrev pub LastLacks : Hub → RoomPass → List (List ℕ) → Type 0
LastLacks hub room [] = Unit {0}
LastLacks hub room (id ∷ []) = Lacks hub id room
LastLacks hub room (id ∷ other ∷ ids) = LastLacks hub room (other ∷ ids)

-- A place that isn't held: its pass took one turn for each text that asked for it in vain, and one for each battle that was begun
-- there; and where none was begun, the last that was asked for isn't there.
pub record RoomWaits (hub : Hub) (acts : List Act) (room : RoomPass) : Type 0 where
  pub battle : first_battle ≤ room.number
  pub turns : room.pass.1.turns ≡ length (asked room.number acts) + length (begins room.number acts)
  pub lacks : begins room.number acts ≡ [] → LastLacks hub room (asked room.number acts)
  pub looks : room.pass.1.looks ≡ []
  pub joined : since room.number acts ≡ []
  -- nothing was handed out
  pub at : room.at ≡ 0

abbrev pub SitsBy : Option (List ℕ) → Hub → ℕ → List Act → ℕ → List Sending → RoomPass → Type 0
SitsBy (Some id) hub conn acts looked ss room = RoomSits hub conn acts looked ss id room
SitsBy None hub conn acts looked ss room = RoomWaits hub acts room

-- the id that stands before what is sent from a place
abbrev pub PlaceSits : Hub → ℕ → List Act → ℕ → List Sending → RoomPass → Type 0
PlaceSits hub conn acts looked ss room = (commands room.pass.1.mine ≡ room_cmds conn room.number acts)
    × IsSent (Shows conn (site_of hub room.number)) (commands room.pass.1.seen) room.at room.id (Some room.number) ss
    × SitsBy room.id hub conn acts looked ss room

-- ---- what the entries gave

-- What the hall answered to an entry. It stands in the history that the pass has seen, behind those that the acts `done` made.
pub record HallGave (hub : Hub) (conn : ℕ) (done : List Act) (moment : ℕ) (cmd : HallCmd) (badge : Option Badge)
    (start : Option Start) (hall : HallPass) : Type 0 where
  pub before : List (Entry HallEntry)
  pub out : HallOut
  pub there : IsPrefix (before ++ entry hall.pass.1.number (hall_entry conn moment cmd) ∷ []) hall.pass.1.seen
  pub own : length (entries_of hall.pass.1.number before) ≡ length (hall_entries conn done)
  pub answer : HallAnswers (root_of hub) (commands before) (hall_entry conn moment cmd) out
  pub badge_is : badge ≡ out.badge
  pub start_is : start ≡ out.start

-- what a room answered
pub record RoomGave (hub : Hub) (conn : ℕ) (done : List Act) (moment number : ℕ) (id : List ℕ) (cmd : Command) (badge : Badge)
    (ended : Option Ending) (room : RoomPass) : Type 0 where
  pub place : room.number ≡ number
  pub held : room.id ≡ Some id
  pub before : List (Entry RoomCmd)
  pub out : Option RoomOut
  pub there : IsPrefix (before ++ entry room.pass.1.number (Play (room_entry conn badge moment cmd)) ∷ []) room.pass.1.seen
  pub own : length (entries_of room.pass.1.number before) ≡ length (room_cmds conn number done)
  pub answer : Answers (site_of hub number) (commands before) (Play (room_entry conn badge moment cmd)) out
  pub ended_is : ended ≡ ended_in out

-- A turn of the place found no room with the id that was asked, in a history that had what the acts `done` made; and the place
-- wasn't joined.
pub record IsUnfound (hub : Hub) (conn : ℕ) (done : List Act) (number : ℕ) (id : List ℕ) (room : RoomPass) : Type 0 where
  pub place : room.number ≡ number
  pub named : Names hub.config id number
  pub battle : first_battle ≤ number
  pub unjoined : since number done ≡ []
  pub before : List (Entry RoomCmd)
  pub there : IsPrefix before room.pass.1.seen
  pub own : length (entries_of room.pass.1.number before) ≡ length (room_cmds conn number done)
  pub told : Option Story
  pub tells : Tells (site_of hub number) (commands before) told
  pub lacks : id_told told ≢ Some id

-- The place of a battle that the id names was joined by another id.
pub record IsOthers (hub : Hub) (done : List Act) (id : List ℕ) (room : RoomPass) : Type 0 where
  pub named : Names hub.config id room.number
  pub battle : first_battle ≤ room.number
  pub joined : 1 ≤ length (since room.number done)
  pub other : List ℕ
  pub held : room.id ≡ Some other
  pub differs : other ≢ id

-- no such room: the id names no place, or the place is that of a battle and is held by another id, or its pass took a turn
abbrev pub IsNowhere : Hub → ℕ → List Act → Option ℕ → List ℕ → List RoomPass → Type 0
IsNowhere hub conn done None id rooms = NamesNone hub id ⊎ ((room : RoomPass) × Contains rooms room × IsOthers hub done id room)
IsNowhere hub conn done (Some number) id rooms = (room : RoomPass) × Contains rooms room × IsUnfound hub conn done number id room

-- what an act made is what its place answered
abbrev pub GaveMade : Hub → ℕ → List Act → ℕ → Made → HallPass → List RoomPass → Type 0
GaveMade hub conn done moment (in_hall cmd badge start) hall rooms = HallGave hub conn done moment cmd badge start hall
GaveMade hub conn done moment (in_room number id cmd badge ended) hall rooms = (room : RoomPass) × Contains rooms room
    × RoomGave hub conn done moment number id cmd badge ended room
GaveMade hub conn done moment (nowhere asked id cmd) hall rooms = IsNowhere hub conn done asked id rooms

-- the same of an act, behind those `done`
abbrev pub Gave : Hub → ℕ → List Act → Act → HallPass → List RoomPass → Type 0
Gave hub conn done quiet hall rooms = Unit {0}
Gave hub conn done (heard bytes moment made) hall rooms = GaveMade hub conn done moment made hall rooms

-- the same of acts, one behind the other
abbrev pub AreGiven : Hub → ℕ → List Act → List Act → HallPass → List RoomPass → Type 0
AreGiven hub conn done [] hall rooms = Unit {0}
AreGiven hub conn done (act ∷ rest) hall rooms = Gave hub conn done act hall rooms × AreGiven hub conn (done ++ act ∷ []) rest hall rooms

-- An act that was going on when memory ran out says of no answer. An entry of a room stands at the place that is held by the
-- id of its text.
abbrev pub SaysNothing : Act → List RoomPass → Type 0
SaysNothing quiet rooms = Unit {0}
SaysNothing (heard bytes moment (in_hall cmd badge start)) rooms = (badge ≡ None) × (start ≡ None)
SaysNothing (heard bytes moment (in_room number id cmd badge ended)) rooms = (ended ≡ None)
    × ((room : RoomPass) × Contains rooms room × (room.number ≡ number) × (room.id ≡ Some id))
SaysNothing (heard bytes moment (nowhere asked id cmd)) rooms = ⊥

-- the last act, if there is one, is so given too, or says of no answer
abbrev pub LastGave : Hub → ℕ → List Act → List Act → HallPass → List RoomPass → Type 0
LastGave hub conn sure [] hall rooms = Unit {0}
LastGave hub conn sure (act ∷ rest) hall rooms = (Gave hub conn sure act hall rooms ⊎ SaysNothing act rooms) × (rest ≡ [])

-- What the acts that are sure made is what their places answered; one more at the most stands behind them, and is so given too, or
-- says of no answer.
abbrev pub AreAlmostGiven : Hub → ℕ → List Act → List Act → HallPass → List RoomPass → Type 0
AreAlmostGiven hub conn sure acts hall rooms = (last : List Act) × (acts ≡ sure ++ last) × AreGiven hub conn [] sure hall rooms
    × LastGave hub conn sure last hall rooms

-- a text was sent from the hall, or from a room that is held
abbrev pub IsFromBy : Option ℕ → List RoomPass → Type 0
IsFromBy None rooms = Unit {0}
IsFromBy (Some number) rooms = (room : RoomPass) × Contains rooms room × (room.number ≡ number) × IsSome room.id

abbrev pub IsFrom : List RoomPass → Sending → Type 0
IsFrom rooms sending = IsFromBy sending.place rooms

-- a battle that the acts began has a pass kept at its place
abbrev pub IsBegun : List RoomPass → Start → Type 0
IsBegun rooms start = (room : RoomPass) × Contains rooms room × (room.number ≡ room_of_battle start.number)

-- ---- the session

-- no two passes are of one place
abbrev pub AreApart : List RoomPass → Type 0
AreApart [] = Unit {0}
AreApart (room ∷ rooms) = All (λ (other : RoomPass). other.number ≢ room.number) rooms × AreApart rooms

-- A place at which the acts did nothing, and from which nothing was sent
pub record IsUntouched (conn number : ℕ) (acts : List Act) (ss : List Sending) : Type 0 where
  pub no_cmds : room_cmds conn number acts ≡ []
  pub not_joined : since number acts ≡ []
  pub not_asked : asked number acts ≡ []
  pub not_begun : begins number acts ≡ []
  pub not_sent : texts_from (Some number) ss ≡ []

-- A session between two answers of its link, or while it looks at its places: `acts` made their entries, and the places have had
-- the looks of the first `looked` of them. Its Open was made at the moment `open_at`.
pub record Sits (hub : Hub) (conn open_at : ℕ) (acts : List Act) (looked : ℕ) (ss : List Sending) (session : Record)
    (passes : Passes) : Type 0 where
  pub are : AreOf hub passes
  pub conn_is : passes.conn ≡ conn
  pub way : AreActs (begun conn) acts
  pub session_is : session ≡ after_acts (begun conn) acts
  pub badge_is : passes.badge ≡ session.badge
  pub hall_pass : HallPass
  pub hall : passes.hall ≡ Some hall_pass
  pub hall_sits : HallSits hub conn acts looked ss hall_pass
  pub rooms : All (PlaceSits hub conn acts looked ss) passes.rooms.items
  -- a place that is held has an entry, and where no pass is kept nothing was done
  pub joined : All (λ (room : RoomPass). IsSome room.id → since room.number acts ≢ []) passes.rooms.items
  pub others : (number : ℕ) → All (λ (room : RoomPass). room.number ≢ number) passes.rooms.items → IsUntouched conn number acts ss
  pub apart : AreApart passes.rooms.items
  pub begun : All (IsBegun passes.rooms.items) (all_begun acts)
  pub named : All (λ room. IsSome room.id → IsSome passes.badge) passes.rooms.items
  pub gave : AreGiven hub conn [] acts hall_pass passes.rooms.items
  pub from : All (IsFrom passes.rooms.items) ss
  pub opened : HasOpen conn open_at hall_pass
  pub on_time : All (λ (sending : Sending). sending.after ≤ looked) ss

-- Of what a pass sees all was handed out that its looks showed, and all that it made itself: it stands among the first `at` entries.
pub record IsCaughtUp {O C : Type 0} (view : View O C) (at : ℕ) : Type 0 where
  pub looks : All (λ (shown : ℕ). shown ≤ at) view.looks
  pub own : entries_of view.number (take at view.seen) ≡ view.mine

-- so it is of the hall and of each room that is held
pub record IsUpToDate (passes : Passes) : Type 0 where
  pub hall : (hall_pass : HallPass) → passes.hall ≡ Some hall_pass → IsCaughtUp hall_pass.pass.1 hall_pass.at
  pub rooms : All (λ room. IsSome room.id → IsCaughtUp room.pass.1 room.at) passes.rooms.items

-- ---- a session that broke off

-- all of a list, or a part between two prefixes of it
abbrev pub IsAs : {A : Type 0} → Bool → List A → List A → List A → Type 0
IsAs true early xs all = xs ≡ all
IsAs false early xs all = IsPrefix early xs × IsPrefix xs all

-- the acts that are there whole
abbrev pub sure_acts : Bool → List Act → List Act → List Act
sure_acts true early acts = acts
sure_acts false early acts = early

-- The looks of a place, of which at most the last wasn't answered: there are those of at least `sure` answers and of at most `acts`.
module _ {C : Type 0} (shows : List C → List (List (List ℕ)) → Type 0) where
  pub record AreAlmostAnswered (cmds : List C) (room : Option (List ℕ)) (place : Option ℕ) (ss : List Sending) (first sure most : ℕ)
      (looks : List ℕ) : Type 0 where
    pub early : List ℕ
    pub last : List ℕ
    pub parts : looks ≡ early ++ last
    pub one : length last ≤ 1
    pub enough : sure ≤ length early
    pub few : length looks ≤ most
    pub answered : AreLooksAnswered shows cmds room place ss first early

  -- what was sent from a place is a prefix of the view over what was handed out
  abbrev pub IsPartSent : List C → ℕ → Option (List ℕ) → Option ℕ → List Sending → Type 0
  IsPartSent cmds at room place ss = (view : List (List (List ℕ))) × shows (take at cmds) view
      × IsPrefix (texts_from place ss) (message_texts room view)

pub record HallLeft (whole : Bool) (hub : Hub) (conn : ℕ) (early acts : List Act) (ss : List Sending) (hall : HallPass) : Type 0 where
  pub entries : IsAs whole (hall_entries conn early) (commands hall.pass.1.mine) (hall_entries conn acts)
  pub looks : AreAlmostAnswered (HallShows conn (root_of hub)) (commands hall.pass.1.seen) None None ss 1 (length acts - 1) (length acts)
      hall.pass.1.looks
  pub sent : IsPartSent (HallShows conn (root_of hub)) (commands hall.pass.1.seen) hall.at None None ss

abbrev pub LooksLeft : Option (List ℕ) → Hub → ℕ → List Act → List Sending → RoomPass → Type 0
LooksLeft None hub conn acts ss room = room.pass.1.looks ≡ []
LooksLeft (Some id) hub conn acts ss room = Names hub.config id room.number
    × AreAlmostAnswered (Shows conn (site_of hub room.number)) (commands room.pass.1.seen) (Some id) (Some room.number) ss
    (length acts - length (since room.number acts) + 1) (length (since room.number acts) - 1) (length (since room.number acts))
    room.pass.1.looks

pub record PlaceLeft (whole : Bool) (hub : Hub) (conn : ℕ) (early acts : List Act) (ss : List Sending) (room : RoomPass) : Type 0 where
  pub entries : IsAs whole (room_cmds conn room.number early) (commands room.pass.1.mine) (room_cmds conn room.number acts)
  pub looks : LooksLeft room.id hub conn acts ss room
  pub sent : IsPartSent (Shows conn (site_of hub room.number)) (commands room.pass.1.seen) room.at room.id (Some room.number) ss
  -- a place that isn't held waits as ever, where all entries are there
  pub waits : whole ≡ true → room.id ≡ None → RoomWaits hub acts room

-- all acts are given, or almost all
abbrev pub AreGivenSo : Bool → Hub → ℕ → List Act → List Act → HallPass → List RoomPass → Type 0
AreGivenSo true hub conn early acts hall rooms = AreGiven hub conn [] acts hall rooms
AreGivenSo false hub conn early acts hall rooms = AreAlmostGiven hub conn early acts hall rooms

-- What a session leaves that broke off, where its link failed (`whole`) or memory ran out: the acts, of which all but the
-- `early` ones may be there in part.
pub record Left (whole : Bool) (hub : Hub) (conn open_at : ℕ) (early acts : List Act) (ss : List Sending) (passes : Passes) : Type 0 where
  pub are : AreOf hub passes
  pub conn_is : passes.conn ≡ conn
  pub way : AreActs (begun conn) acts
  pub hall_pass : HallPass
  pub hall : passes.hall ≡ Some hall_pass
  pub hall_left : HallLeft whole hub conn early acts ss hall_pass
  pub rooms : All (PlaceLeft whole hub conn early acts ss) passes.rooms.items
  pub apart : AreApart passes.rooms.items
  pub gave : AreGivenSo whole hub conn early acts hall_pass passes.rooms.items
  pub badge_is : passes.badge ≡ (after_acts (begun conn) acts).badge
  pub begun : All (IsBegun passes.rooms.items) (all_begun (sure_acts whole early acts))
  pub from : All (IsFrom passes.rooms.items) ss
  pub named : All (λ room. IsSome room.id → IsSome passes.badge) passes.rooms.items
  pub opened : HasOpen conn open_at hall_pass

-- What a session leaves that ends with a text which the hall takes no more in the place of one for a room: the passes of places may
-- have taken a turn more for it.
abbrev pub HeldFull : Option (List ℕ) → Hub → ℕ → List Act → List Sending → RoomPass → Type 0
HeldFull (Some id) hub conn acts ss room = RoomSits hub conn acts (length acts) ss id room
HeldFull None hub conn acts ss room = room.pass.1.looks ≡ []

abbrev pub PlaceFull : Hub → ℕ → List Act → List Sending → RoomPass → Type 0
PlaceFull hub conn acts ss room = (commands room.pass.1.mine ≡ room_cmds conn room.number acts)
    × IsSent (Shows conn (site_of hub room.number)) (commands room.pass.1.seen) room.at room.id (Some room.number) ss
    × HeldFull room.id hub conn acts ss room

pub record SitsFull (hub : Hub) (conn open_at : ℕ) (acts : List Act) (ss : List Sending) (passes : Passes) : Type 0 where
  pub are : AreOf hub passes
  pub conn_is : passes.conn ≡ conn
  pub way : AreActs (begun conn) acts
  pub hall_pass : HallPass
  pub hall : passes.hall ≡ Some hall_pass
  pub hall_sits : HallSits hub conn acts (length acts) ss hall_pass
  pub rooms : All (PlaceFull hub conn acts ss) passes.rooms.items
  pub apart : AreApart passes.rooms.items
  pub gave : AreGiven hub conn [] acts hall_pass passes.rooms.items
  pub from : All (IsFrom passes.rooms.items) ss
  pub begun : All (IsBegun passes.rooms.items) (all_begun acts)
  pub named : All (λ room. IsSome room.id → IsSome passes.badge) passes.rooms.items
  pub opened : HasOpen conn open_at hall_pass
