-- What a session promises at its end.
use Rattle.std.specs.Prelude.{◌≡◌, ◌≢◌, ◌⊎◌, ℕ, ◌+◌, ◌-◌, ◌≤◌, Bool, true, false, List, [], ◌∷◌, ◌++◌, length, take, map, All}
use Rattle.std.specs.Prelude.{Contains, IsSome, Option, Some, None, Ok, Err, IfSome}
use Rattle.std.specs.List.{filter_map}
use mathlib.Core.List.{IsPrefix}
use Rattle.ps_base.specs.declared.badge.Badge.{Badge}
use Rattle.ps_lines.specs.Clients.{client}
use Rattle.ps_lines.specs.declared.client.ClientFault.TheVariants as client_faults
use Rattle.ps_lines.specs.declared.command.Command.{Command}
use Rattle.ps_lines.specs.declared.command.Command.TheVariants as room_commands
use Rattle.ps_lines.specs.declared.command.HallCmd.TheVariants as hall_commands
use Rattle.ps_lines.specs.declared.order.Order.{Order}
use Rattle.ps_lines.specs.declared.order.Order.TheVariants.{Room}
use Rattle.rules_start.specs.declared.start.Start.{Start}
use Rattle.ps_hall.specs.declared.entry.HallEntry.{HallEntry}
use Rattle.ps_histlock.specs.Histories.{commands, entries_of}
use Rattle.ps_histlock.specs.Seated.{TableId}
use Rattle.ps_histlock.specs.declared.view.View.{View}
use Rattle.ps_session.specs.declared.session.TheConstants.{MOST_TEXTS}
use Rattle.ps_session.specs.Sessions.{begun, is_full, counted}
use Rattle.ps_session.specs.Routes.{taken}
use Rattle.ps_base.specs.Messages.{behind}
use Rattle.ps_session.specs.declared.session.TakeFault.TheVariants as take_faults
use Rattle.ps_outside.specs.Causes.{Rose}
use Rattle.ps_outside.specs.Links.{Talk, LinkCounts}
use Rattle.ps_outside.specs.declared.link.Arrival.{Arrival}
use Rattle.ps_outside.specs.declared.link.Arrival.TheVariants as arrivals
use Rattle.ps_laws.specs.Same.{AreSame}
use Rattle.ps_room.specs.declared.entry.Entry.{Entry}
use Rattle.ps_room.specs.Openings.{room_of_battle}
use Rattle.ps_laws.specs.HallSame.{AreHallsSame}
use Rattle.ps_laws.specs.HallRatings.{IsHallWhole}
use Rattle.ps_room.specs.Stories.{Story, story, view_of}
use Rattle.ps_laws.specs.HallStories.{HallStory, hall_story, hall_view_of}
use Rattle.server_places.specs.declared.command.RoomCmd.{RoomCmd}
use Rattle.server_places.specs.declared.command.RoomCmd.TheVariants.{Begin, Play}
use Rattle.server_places.specs.Sites.{battle_at, Tells}
use Rattle.server_places.specs.Rooms.{Shows, IsAtRestInRoom}
use Rattle.server_places.specs.Halls.{HallShows, IsAtRestInHall}
use Rattle.std.specs.FinMap.{empty}
use Rattle.ps_hub.specs.Hubs.{Hub, root_of, site_of, lock_of}
use Rattle.ps_hub.specs.Names.{IsNoChat, Names}
use Rattle.ps_hub.specs.Passes.{HallPass, RoomPass, AreOf}
use Rattle.ps_hub.specs.Calls.{hall_entry, room_entry}
use Rattle.ps_hub.specs.declared.passes.Passes.{Passes}
use Rattle.ps_serve.specs.declared.closed.End.{End}
use Rattle.ps_serve.specs.declared.closed.End.TheVariants as ends
use Rattle.ps_serve.specs.Acts.{nowhere, Act, heard, after_acts, AreActs, arrival_of, moments_of, hall_entries, room_cmds, since}
use Rattle.ps_serve.specs.Acts.{begins, all_begun}
use Rattle.ps_serve.specs.Sendings.{Sending, sent_text, texts_from, message_texts, AreLooksAnswered}
use Rattle.ps_serve.specs.Sittings.{IsSent, HasOpen, IsPartSent, AreAlmostAnswered, IsNowhere, AreGiven, AreAlmostGiven, RoomWaits}
use Rattle.ps_serve.specs.Sittings.{AreApart}
use Rattle.ps_serve.specs.Steps.{Hours, Asked}
use Rattle.ps_serve.specs.Names.{AreLooksFresh}
use Rattle.ps_base.specs.Characters as characters

-- What a session did and sent: of each answer of the link, in order, what came of it; what was sent; the text that ended the
-- session and became nothing, if there was one; and the moments of its Open, of such a text, if one was asked for it, and of its
-- Quits.
pub record Account : Type 0 where
  pub acts : List Act
  pub sendings : List Sending
  pub rest : List (List ℕ)
  pub opened : ℕ
  pub extra : List ℕ
  pub left : ℕ

-- memory ran out, or the number was taken
abbrev pub is_short : End → Bool
is_short ends.NoMemory = true
is_short ends.Taken = true
is_short other = false

-- or the link failed: what was going on broke off
abbrev pub is_broken : End → Bool
is_broken ends.LinkFault = true
is_broken ends.NoMemory = true
is_broken ends.Taken = true
is_broken other = false

-- ---- the link

abbrev pub text_item : List ℕ → Arrival
text_item bytes = arrivals.Text bytes

-- where the link tells its talk: the acts are what it gave, in order and each once, and the sendings what it was sent
pub record IsTalk (account : Account) (old new : Talk) : Type 0 where
  pub given : old.inbox ≡ map arrival_of account.acts ++ (map text_item account.rest ++ new.inbox)
  pub answers : new.answers ≡ old.answers + (length account.acts + length account.rest)
  pub sent : new.sent ≡ old.sent ++ map (sent_text old.answers) account.sendings

abbrev pub AreOfLink : Account → Option Talk → Option Talk → Type 0
AreOfLink account None None = Unit {0}
AreOfLink account (Some old) (Some new) = IsTalk account old new
AreOfLink account old new = ⊥

-- each text became what the way of texts makes of it
abbrev pub AreOfWay : ℕ → Account → Type 0
AreOfWay conn account = AreActs (begun conn) account.acts

-- the session of a connection over a link
abbrev pub IsAccount : ℕ → Account → Option Talk → Option Talk → Type 0
IsAccount conn account old new = AreOfLink account old new × AreOfWay conn account

-- of some account of the connection and what its link says, this holds
abbrev pub SomeAccount : ℕ → Option Talk → Option Talk → (Account → Type 0) → Type 0
SomeAccount conn before after Says = (account : Account) × IsAccount conn account before after × Says account

-- ---- sent is the view

-- The texts that were sent from a place are the whole view over the entries that were handed out; where the session broke off, a
-- prefix of it.
module _ {C : Type 0} (shows : List C → List (List (List ℕ)) → Type 0) where
  abbrev pub IsSentSo : Bool → List C → ℕ → Option (List ℕ) → Option ℕ → List Sending → Type 0
  IsSentSo true cmds at room place ss = IsPartSent shows cmds at room place ss
  IsSentSo false cmds at room place ss = IsSent shows cmds at room place ss

abbrev pub HallSent : Bool → Hub → ℕ → Account → HallPass → Type 0
HallSent broken hub conn account hall = IsSentSo (HallShows conn (root_of hub)) broken (commands hall.pass.1.seen) hall.at None None
    account.sendings

abbrev pub RoomSent : Bool → Hub → ℕ → Account → RoomPass → Type 0
RoomSent broken hub conn account room = IsSentSo (Shows conn (site_of hub room.number)) broken (commands room.pass.1.seen) room.at
    room.id (Some room.number)
    account.sendings

pub record SentIsView (end : End) (hub : Hub) (conn : ℕ) (account : Account) (passes : Passes) : Type 0 where
  pub hall : IfSome passes.hall (HallSent (is_broken end) hub conn account)
  pub rooms : All (RoomSent (is_broken end) hub conn account) passes.rooms.items

-- ---- labels

-- A text that was sent from a room begins with `>`, the id by which the room is held, and its lines, each behind a newline.
pub record IsOfRoom (hub : Hub) (rooms : List RoomPass) (number : ℕ) (text : List ℕ) : Type 0 where
  pub pass : RoomPass
  pub there : Contains rooms pass
  pub place : pass.number ≡ number
  pub id : List ℕ
  pub held : pass.id ≡ Some id
  pub named : Names hub.config id number
  pub lines : List (List ℕ)
  pub text_is : text ≡ (characters.greater_than ∷ id) ++ behind lines

-- one that was sent from the hall begins with `|`
abbrev pub IsOfHall : List ℕ → Type 0
IsOfHall text = (rest : List ℕ) × (text ≡ characters.bar ∷ rest)

abbrev pub IsLabelledBy : Option ℕ → Hub → List RoomPass → List ℕ → Type 0
IsLabelledBy None hub rooms text = IsOfHall text
IsLabelledBy (Some number) hub rooms text = IsOfRoom hub rooms number text

abbrev pub IsLabelled : Hub → List RoomPass → Sending → Type 0
IsLabelled hub rooms sending = IsLabelledBy sending.place hub rooms sending.text

-- ---- entries of the texts

abbrev pub hall_quit : ℕ → ℕ → List HallEntry
hall_quit conn moment = hall_entry conn moment hall_commands.Quit ∷ []

abbrev pub room_quit : ℕ → Badge → ℕ → List RoomCmd
room_quit conn badge moment = Play (room_entry conn badge moment room_commands.Quit) ∷ []

-- All entries, and then the Quit; if out of memory, a prefix of the entries, with a Quit behind it or without.
abbrev pub AllThenQuit : {C : Type 0} → Bool → List C → List C → List C → Type 0
AllThenQuit {C} true made all quit = (part : List C) × IsPrefix part all × ((made ≡ part) ⊎ (made ≡ part ++ quit))
AllThenQuit {C} false made all quit = made ≡ all ++ quit

abbrev pub AllOrPart : {C : Type 0} → Bool → List C → List C → Type 0
AllOrPart true made all = IsPrefix made all
AllOrPart false made all = made ≡ all

-- The pass of the hall has made the entries of the texts, in order and each once, and then one Quit.
abbrev pub HallMade : Bool → ℕ → Account → HallPass → Type 0
HallMade short conn account hall = AllThenQuit short (commands hall.pass.1.mine) (hall_entries conn account.acts)
    (hall_quit conn account.left)

-- so has the pass of a place that is held, the Quit with the badge that is kept; at one that isn't there are Begins alone
abbrev pub RoomMadeBy : Option (List ℕ) → Bool → ℕ → Option Badge → Account → RoomPass → Type 0
RoomMadeBy None short conn badge account room = AllOrPart short (commands room.pass.1.mine) (room_cmds conn room.number account.acts)
RoomMadeBy (Some id) short conn badge account room = (kept : Badge) × (badge ≡ Some kept)
    × AllThenQuit short (commands room.pass.1.mine) (room_cmds conn room.number account.acts) (room_quit conn kept account.left)

abbrev pub RoomMade : Bool → ℕ → Option Badge → Account → RoomPass → Type 0
RoomMade short conn badge account room = RoomMadeBy room.id short conn badge account room

-- all but the Quit stand among what was handed out
abbrev pub HallGiven : Bool → ℕ → Account → HallPass → Type 0
HallGiven true conn account hall = Unit {0}
HallGiven false conn account hall = commands (entries_of hall.pass.1.number (take hall.at hall.pass.1.seen))
    ≡ hall_entries conn account.acts

abbrev pub RoomGivenBy : Option (List ℕ) → Bool → ℕ → Account → RoomPass → Type 0
RoomGivenBy (Some id) false conn account room = commands (entries_of room.pass.1.number (take room.at room.pass.1.seen))
    ≡ room_cmds conn room.number account.acts
RoomGivenBy id broken conn account room = Unit {0}

abbrev pub RoomGiven : Bool → ℕ → Account → RoomPass → Type 0
RoomGiven broken conn account room = RoomGivenBy room.id broken conn account room

pub record EntriesAreMade (end : End) (conn : ℕ) (account : Account) (passes : Passes) : Type 0 where
  pub hall : IfSome passes.hall (HallMade (is_short end) conn account)
  pub hall_given : IfSome passes.hall (HallGiven (is_broken end) conn account)
  pub rooms : All (RoomMade (is_short end) conn passes.badge account) passes.rooms.items
  pub rooms_given : All (RoomGiven (is_broken end) conn account) passes.rooms.items
  -- the badge that is kept is that of the connection's own Name
  pub badge : passes.badge ≡ (after_acts (begun conn) account.acts).badge

-- ---- answers

-- What each act made is what its place answered: the badge of the connection's own Name, the battle that an entry started, the end
-- of a battle, and that no such room was there. If memory ran out the last act may say of no answer.
abbrev pub AreAnswers : Bool → Hub → ℕ → Account → List RoomPass → HallPass → Type 0
AreAnswers true hub conn account rooms hall = (sure : List Act) × AreAlmostGiven hub conn sure account.acts hall rooms
AreAnswers false hub conn account rooms hall = AreGiven hub conn [] account.acts hall rooms

-- A place that isn't held took one turn for each text that asked for it in vain, and one for each battle that was begun there.
abbrev pub IsAskedBy : Option (List ℕ) → Hub → Account → RoomPass → Type 0
IsAskedBy None hub account room = RoomWaits hub account.acts room
IsAskedBy (Some id) hub account room = Unit {0}

abbrev pub IsAsked : End → Hub → Account → RoomPass → Type 0
IsAsked ends.NoMemory hub account pass = Unit {0}
IsAsked ends.Taken hub account pass = Unit {0}
IsAsked (ends.OwnLimit room) hub account pass = Unit {0}
IsAsked end hub account pass = IsAskedBy pass.id hub account pass

-- A text with this id, behind the acts `done`, rightly became Bad(NoSuchRoom): no chat room has the id; no place that is held by it
-- was joined before; and it isn't that of a battle which the session had begun, where it was that Begin that opened the place's room.
pub record IsRightlyNowhere (hub : Hub) (done : List Act) (id : List ℕ) (rooms : List RoomPass) : Type 0 where
  pub no_chat : IsNoChat hub.config id
  pub not_held : All (λ (room : RoomPass). room.id ≡ Some id → since room.number done ≡ []) rooms
  pub not_own : All (λ (room : RoomPass). (start : Start) (history : List Entry) → Contains (begins room.number done) start
      → Tells (site_of hub room.number) (commands room.pass.1.seen) (Some (story (battle_at (site_of hub room.number) start) history))
      → (battle_at (site_of hub room.number) start).id ≢ id) rooms

abbrev pub IsRightly : Hub → List Act → Act → List RoomPass → Type 0
IsRightly hub done (heard bytes moment (nowhere asked id cmd)) rooms = IsRightlyNowhere hub done id rooms
IsRightly hub done act rooms = Unit {0}

-- so did each of these acts that is such a text
abbrev pub AreRightly : Hub → List Act → List Act → List RoomPass → Type 0
AreRightly hub done [] rooms = Unit {0}
AreRightly hub done (act ∷ rest) rooms = IsRightly hub done act rooms × AreRightly hub (done ++ act ∷ []) rest rooms

pub record AnswersAreKept (end : End) (hub : Hub) (conn : ℕ) (account : Account) (passes : Passes) : Type 0 where
  pub made : IfSome passes.hall (AreAnswers (is_short end) hub conn account passes.rooms.items)
  pub rightly : AreRightly hub [] account.acts passes.rooms.items
  pub asked : All (IsAsked end hub account) passes.rooms.items

-- The hall is held, and the Open stands in it. If memory ran out for the Open, nothing is held, and nothing came of the link.
abbrev pub IsOpen : Bool → ℕ → Account → Passes → Option HallPass → Type 0
IsOpen short conn account passes (Some hall) = HasOpen conn account.opened hall
IsOpen true conn account passes None = (passes.rooms.items ≡ []) × (account.acts ≡ []) × (account.rest ≡ []) × (account.sendings ≡ [])
IsOpen false conn account passes None = ⊥

-- ---- moments

-- the clock told one moment for the Open, one for each text that became an order, and one for the Quits
abbrev pub moments_in : Account → List ℕ
moments_in account = account.opened ∷ (moments_of account.acts ++ (account.extra ++ account.left ∷ []))

-- a text that is no act has a moment only where it was taken for an order
abbrev pub HasExtra : ℕ → Account → Type 0
HasExtra conn account = (account.extra ≡ []) ⊎ ((bytes : List ℕ) × (order : Order) × (account.rest ≡ bytes ∷ [])
    × (taken (after_acts (begun conn) account.acts) bytes ≡ Ok order) × (length account.extra ≡ 1))

-- if out of memory, also for the Open alone, if that wasn't made
abbrev pub TellsMoments : End → ℕ → Account → Option HallPass → Hours → Hours → Type 0
TellsMoments ends.NoMemory conn account None old new = Asked old (account.opened ∷ []) new
TellsMoments ends.NoMemory conn account (Some hall) old new = HasExtra conn account × Asked old (moments_in account) new
TellsMoments ends.Taken conn account None old new = Asked old (account.opened ∷ []) new
TellsMoments ends.Taken conn account (Some hall) old new = HasExtra conn account × Asked old (moments_in account) new
TellsMoments (ends.OwnLimit room) conn account hall old new = HasExtra conn account × Asked old (moments_in account) new
TellsMoments end conn account hall old new = (account.extra ≡ []) × Asked old (moments_in account) new

-- ---- looks are answered

-- There is a look for each of so many answers, in order, each was answered before the link answered again, and all that they showed
-- was handed out; where the session broke off, the last may be missing, or not answered.
module _ {C : Type 0} (shows : List C → List (List (List ℕ)) → Type 0) where
  abbrev pub AreLooksSo : Bool → List C → ℕ → Option (List ℕ) → Option ℕ → List Sending → ℕ → ℕ → List ℕ → Type 0
  AreLooksSo true cmds at room place ss first count looks = AreAlmostAnswered shows cmds room place ss first (count - 1) count looks
  AreLooksSo false cmds at room place ss first count looks = (length looks ≡ count)
      × AreLooksAnswered shows cmds room place ss first looks × All (λ look. look ≤ at) looks

abbrev pub HallLooks : Bool → Hub → ℕ → Account → HallPass → Type 0
HallLooks broken hub conn account hall = AreLooksSo (HallShows conn (root_of hub)) broken (commands hall.pass.1.seen) hall.at None
    None account.sendings 1
    (length account.acts) hall.pass.1.looks

-- a place that isn't held has no look
abbrev pub RoomLooksBy : Option (List ℕ) → Bool → Hub → ℕ → Account → RoomPass → Type 0
RoomLooksBy None broken hub conn account room = room.pass.1.looks ≡ []
RoomLooksBy (Some id) broken hub conn account room = AreLooksSo (Shows conn (site_of hub room.number)) broken
    (commands room.pass.1.seen) room.at
    (Some id) (Some room.number) account.sendings (length account.acts - length (since room.number account.acts) + 1)
    (length (since room.number account.acts))
    room.pass.1.looks

abbrev pub RoomLooks : Bool → Hub → ℕ → Account → RoomPass → Type 0
RoomLooks broken hub conn account room = RoomLooksBy room.id broken hub conn account room

pub record LooksAreAnswered (end : End) (hub : Hub) (conn : ℕ) (account : Account) (passes : Passes) : Type 0 where
  pub hall : IfSome passes.hall (HallLooks (is_broken end) hub conn account)
  pub rooms : All (RoomLooks (is_broken end) hub conn account) passes.rooms.items
  pub fresh : AreLooksFresh passes

-- ---- of the hub

-- the passes come from this hub, where the hall is held
abbrev pub ComeFrom : Hub → Passes → Type 0
ComeFrom hub passes = IsSome passes.hall → AreOf hub passes

-- so they do, and each id by which a place is held names it
pub record AreOfHub (hub : Hub) (passes : Passes) : Type 0 where
  pub of : ComeFrom hub passes
  pub named : All (λ (room : RoomPass). IfSome room.id (λ id. Names hub.config id room.number)) passes.rooms.items

-- ---- one history

-- A pass of this lock, at rest: its own entries are all that stand with its number in the history that it has seen. That is a list
-- that a value of the place stands for, if it took a turn, begins with what it had seen before each, and was behind no look at the
-- last one.
pub record IsOfLock {O C : Type 0} (IsResting : View O C → Type 0) (lock : TableId) (origin : O) (pass : TableId × View O C) : Type 0 where
  pub lock_is : pass.0 ≡ lock
  pub origin_is : pass.1.origin ≡ origin
  pub at_rest : IsResting pass.1

abbrev pub IsHallOf : Hub → HallPass → Type 0
IsHallOf hub hall = IsOfLock IsAtRestInHall hub.hall (root_of hub) hall.pass

abbrev pub IsRoomOf : Hub → RoomPass → Type 0
IsRoomOf hub room = (lock : TableId) × (lock_of hub room.number ≡ Some lock)
    × IsOfLock IsAtRestInRoom lock (site_of hub room.number) room.pass

pub record OneHistory (hub : Hub) (conn : ℕ) (passes : Passes) : Type 0 where
  pub conn_is : passes.conn ≡ conn
  pub hall : IfSome passes.hall (IsHallOf hub)
  pub rooms : All (IsRoomOf hub) passes.rooms.items
  pub apart : AreApart passes.rooms.items

-- ---- one begin

abbrev pub start_in : RoomCmd → Option Start
start_in (Begin start) = Some start
start_in (Play entry) = None

-- the battles that these commands begin
abbrev pub starts_in : List RoomCmd → List Start
starts_in cmds = filter_map start_in cmds

-- the pass that is kept at its place has the Begin of this battle, once and no other
pub record IsBegunBy (rooms : List RoomPass) (start : Start) : Type 0 where
  pub pass : RoomPass
  pub there : Contains rooms pass
  pub place : pass.number ≡ room_of_battle start.number
  pub begin : starts_in (commands pass.pass.1.mine) ≡ start ∷ []

-- all acts; if out of memory, all, or all but the last
abbrev pub AreSure : Bool → List Act → List Act → Type 0
AreSure true sure acts = (last : List Act) × (acts ≡ sure ++ last) × (length last ≤ 1)
AreSure false sure acts = sure ≡ acts

-- it was started by an entry of the connection, and has the number of the place
pub record IsOwnStart (account : Account) (number : ℕ) (start : Start) : Type 0 where
  pub started : Contains (all_begun account.acts) start
  pub place : number ≡ room_of_battle start.number

-- Each battle that an entry of the connection started was begun, once, and no pass has another Begin. If memory ran out, the
-- last Begin may be missing.
pub record OneBegin (end : End) (account : Account) (rooms : List RoomPass) : Type 0 where
  pub sure : List Act
  pub are_sure : AreSure (is_short end) sure account.acts
  pub begun : All (IsBegunBy rooms) (all_begun sure)
  pub own : All (λ (room : RoomPass). All (IsOwnStart account room.number) (starts_in (commands room.pass.1.mine))) rooms

-- ---- the hall's battles

-- the hall with all entries that a pass saw
abbrev pub hall_seen : Hub → HallPass → HallStory
hall_seen hub hall = hall_story (record { config = hub.config; dex = hub.dex; ranks = empty }) (commands hall.pass.1.seen)

-- in it each match started its battle, and the ladder of each format is made of all won reports of rated battles
abbrev pub HallLosesNothing : Hub → HallPass → Type 0
HallLosesNothing hub hall = IsHallWhole (hall_seen hub hall)

-- ---- two worlds

abbrev pub IsTextsOf : Bool → Option (List ℕ) → Option ℕ → List Sending → List (List (List ℕ)) → Type 0
IsTextsOf true room place ss view = IsPrefix (texts_from place ss) (message_texts room view)
IsTextsOf false room place ss view = texts_from place ss ≡ message_texts room view

-- the world of the hall after the entries that were handed out
abbrev pub hall_world : Hub → HallPass → HallStory
hall_world hub hall = hall_story (record { config = hub.config; dex = hub.dex; ranks = empty }) (take hall.at (commands hall.pass.1.seen))

-- what was sent from a place is the view over every world that is the same to the connection
abbrev pub HallElsewhere : Bool → Hub → ℕ → Account → HallPass → Type 0
HallElsewhere broken hub conn account hall = (other : HallStory) → AreHallsSame conn (hall_world hub hall) other
    → IsTextsOf broken None None account.sendings (hall_view_of conn other)

abbrev pub RoomElsewhere : Bool → Hub → ℕ → Account → RoomPass → Type 0
RoomElsewhere broken hub conn account room = (one other : Story)
    → Tells (site_of hub room.number) (take room.at (commands room.pass.1.seen)) (Some one)
    → AreSame conn one other → IsTextsOf broken room.id (Some room.number) account.sendings (view_of conn other)

pub record TwoWorlds (end : End) (hub : Hub) (conn : ℕ) (account : Account) (passes : Passes) : Type 0 where
  pub hall : IfSome passes.hall (HallElsewhere (is_broken end) hub conn account)
  pub rooms : All (RoomElsewhere (is_broken end) hub conn account) passes.rooms.items

-- ---- the ends

-- Closed only where the link's count of End rose, and LinkFault only where its count of faults rose; no other end but out of memory
-- raises any of both
abbrev pub HasCountCause : End → LinkCounts → LinkCounts → Type 0
HasCountCause ends.Closed old new = Rose old.ends new.ends × (new.faults ≡ old.faults)
HasCountCause ends.LinkFault old new = Rose old.faults new.faults × (new.ends ≡ old.ends)
HasCountCause ends.NoMemory old new = Unit {0}
HasCountCause ends.Taken old new = Unit {0}
HasCountCause other old new = (new.faults ≡ old.faults) × (new.ends ≡ old.ends)

-- where it is told, Closed only at an empty inbox
abbrev pub HasEmptyInbox : End → Option Talk → Type 0
HasEmptyInbox ends.Closed (Some talk) = talk.inbox ≡ []
HasEmptyInbox end talk = Unit {0}

-- A text more than its place takes, where the place is that of the order, or the hall since no such room was there.
abbrev pub IsTooMany : Option (List ℕ) → Hub → ℕ → Account → List RoomPass → List ℕ → Type 0
IsTooMany room hub conn account rooms bytes =
    ((taken (after_acts (begun conn) account.acts) bytes ≡ Err (take_faults.Limit room)) × (account.extra ≡ []))
    ⊎ ((room ≡ None) × (id : List ℕ) × (cmd : Command) × (asked : Option ℕ)
    × (taken (after_acts (begun conn) account.acts) bytes ≡ Ok (Room id cmd))
    × (is_full None (counted (Some id) (after_acts (begun conn) account.acts)) ≡ true) × IsNowhere hub conn account.acts asked id rooms
    × (length account.extra ≡ 1))

-- BadText and OwnLimit only by the text that came last, and what it is taken for after the acts; at the other ends but out of memory
-- each text that came is an act.
abbrev pub HasTextCause : End → Hub → ℕ → Account → List RoomPass → Type 0
HasTextCause (ends.BadText bytes) hub conn account rooms = (account.rest ≡ bytes.items ∷ [])
    × (taken (after_acts (begun conn) account.acts) bytes.items ≡ Err take_faults.BadText)
HasTextCause (ends.OwnLimit room) hub conn account rooms = (bytes : List ℕ) × (account.rest ≡ bytes ∷ [])
    × IsTooMany room hub conn account rooms bytes
HasTextCause ends.NoMemory hub conn account rooms = length account.rest ≤ 1
HasTextCause ends.Taken hub conn account rooms = length account.rest ≤ 1
HasTextCause end hub conn account rooms = account.rest ≡ []

pub record HasCause (end : End) (hub : Hub) (conn : ℕ) (account : Account) (rooms : List RoomPass) (talk : Option Talk)
    (old new : LinkCounts) : Type 0 where
  pub counts : HasCountCause end old new
  pub inbox : HasEmptyInbox end talk
  pub text : HasTextCause end hub conn account rooms

-- ---- completeness

abbrev pub text_in : Arrival → Option (List ℕ)
text_in (arrivals.Text bytes) = Some bytes
text_in arrivals.Quiet = None

-- the texts that a link holds
abbrev pub texts_in : List Arrival → List (List ℕ)
texts_in inbox = filter_map text_in inbox

-- a text of at most 8,192 bytes of UTF-8
abbrev pub IsReadable : List ℕ → Type 0
IsReadable bytes = (client bytes ≢ Err client_faults.NotUtf8) × ((size : ℕ) → client bytes ≢ Err (client_faults.Long size))

-- the client ended the session, or its number was taken, or memory ran out
abbrev pub EndsWell : End → Type 0
EndsWell ends.Closed = Unit {0}
EndsWell ends.NoMemory = Unit {0}
EndsWell ends.Taken = Unit {0}
EndsWell other = ⊥

-- The texts are within the limits: each that the link holds can be read, and the one that came last, if it is no act, wasn't one
-- more than its place takes. The limit is a place's: where the acts before it went counts, and not how many there were in all.
pub record IsWithin (hub : Hub) (conn : ℕ) (account : Account) (rooms : List RoomPass) (inbox : List Arrival) : Type 0 where
  pub readable : All IsReadable (texts_in inbox)
  pub few : All (λ (bytes : List ℕ). (room : Option (List ℕ)) → IsTooMany room hub conn account rooms bytes → ⊥) account.rest

-- where the link tells its talk, holds texts within the limits, and doesn't fail
abbrev pub EndsWellWithin : End → Hub → ℕ → Account → List RoomPass → Option Talk → LinkCounts → LinkCounts → Type 0
EndsWellWithin end hub conn account rooms told old new = (talk : Talk) → told ≡ Some talk → IsWithin hub conn account rooms talk.inbox
    → (Rose old.faults new.faults → ⊥) → EndsWell end

-- so few texts in all that whatever becomes of them no place is given too many, and each can be read
pub record AreFew (inbox : List Arrival) : Type 0 where
  pub readable : All IsReadable (texts_in inbox)
  pub few : length (texts_in inbox) ≤ MOST_TEXTS

-- ---- all of it

pub record Served (end : End) (hub : Hub) (conn : ℕ) (account : Account) (passes : Passes) (old_talk talk : Option Talk)
    (old_counts counts : LinkCounts) (old_hours hours : Hours) : Type 0 where
  pub told : IsAccount conn account old_talk talk
  pub sent : SentIsView end hub conn account passes
  pub labels : All (IsLabelled hub passes.rooms.items) account.sendings
  pub entries : EntriesAreMade end conn account passes
  pub answers : AnswersAreKept end hub conn account passes
  pub opened : IsOpen (is_short end) conn account passes passes.hall
  pub moments : TellsMoments end conn account passes.hall old_hours hours
  pub looks : LooksAreAnswered end hub conn account passes
  pub of : AreOfHub hub passes
  pub history : OneHistory hub conn passes
  pub begin : OneBegin end account passes.rooms.items
  pub worlds : TwoWorlds end hub conn account passes
  pub cause : HasCause end hub conn account passes.rooms.items talk old_counts counts
  pub complete : EndsWellWithin end hub conn account passes.rooms.items old_talk old_counts counts
