-- What telling makes of the place of a room and of the hall.
use Rattle.std.proofs.Common.{◌≡◌, ℕ, ◌+◌, ◌-◌, ◌≤◌, Bool, true, false, List, [], ◌∷◌, ◌++◌, length, take, Option, Some, None, ap, sym, ◌∙◌, subst, arith}
use Rattle.std.specs.Prelude.{All, IsSome}
use Rattle.std.proofs.lemmas.Grind.{flat_map-append}
use Rattle.std.proofs.lemmas.Bool.{false≢true}
use Rattle.ps_base.specs.declared.msg.Msg.{Msg}
use mathlib.Core.List.{IsPrefix}
use Rattle.ps_hall.specs.declared.entry.HallEntry.{HallEntry}
use Rattle.ps_histlock.specs.declared.view.Entry.{Entry}
use Rattle.ps_histlock.specs.Histories.{commands, entries_of}
use Rattle.ps_histlock.specs.Views.{after_look}
use Rattle.ps_histlock.proofs.Lists.{prefix_self}
use Rattle.ps_base.specs.Messages.{texts_of}
use Rattle.server_places.specs.declared.command.RoomCmd.{RoomCmd}
use Rattle.server_places.specs.declared.site.Root.{Root}
use Rattle.server_places.specs.declared.site.Site.{Site}
use Rattle.server_places.specs.Sites.{view_told}
use Rattle.server_places.specs.Rooms.{Shows}
use Rattle.server_places.specs.Halls.{HallShows}
use Rattle.server_places.specs.StoryLaws.{one_story}
use Rattle.ps_hub.specs.Hubs.{Hub, root_of, site_of}
use Rattle.ps_hub.specs.Passes.{HallPass, RoomPass, IsHallPass, IsRoomPass}
use Rattle.ps_hub.specs.Calls.{LooksHall, HallHanded}
use Rattle.ps_serve.specs.Acts.{Act, since, hall_of, hall_entries, room_of, room_cmds}
use Rattle.ps_serve.specs.Sendings.{Sending, texts_from}
use Rattle.ps_serve.specs.Sittings.{IsSent, IsCaughtUp, IsPartSent, HallSits, RoomWaits, SitsBy, PlaceSits, IsAs, HallLeft, LooksLeft, PlaceLeft}
use Rattle.ps_serve.specs.Tellings.{LooksAndTells, RoomTells}
use Rattle.ps_serve.proofs.ActLemmas.{acts_length, since_within}
use Rattle.ps_serve.proofs.Prefixes.{prefix_same, prefix_front, prefix_commands}
use Rattle.ps_serve.proofs.LookLemmas.{Looked, looked, caught_up, one_look_more, IsOne, handed, sent_more, part_sent, sent_apart, whole_part, looks_stay, looks_more, all_answered, almost_answered}
use Rattle.ps_serve.proofs.Goings.{Goes}
use Rattle.ps_serve.proofs.Halls.{IsHallKin}

-- ---- one view of a history

pub hall_one : (conn : ℕ) (r : Root) → IsOne (HallShows conn r)
hall_one conn r cmds one two a b = a ∙ sym b

pub room_one : (conn : ℕ) (site : Site) → IsOne (Shows conn site)
room_one conn site cmds one two a b = a.2 ∙ ap (view_told conn) (one_story site cmds a.0 b.0 a.1 b.1) ∙ sym b.2

-- ---- a pass that had a look

pub hall_grew : (h k : HallPass) (n : ℕ) → Looked h.pass.1 k.pass.1 n → IsHallKin h k
hall_grew h k n l = record { number = l.number; seen = l.grows }

pub room_goes : (h k : RoomPass) (n : ℕ) → Looked h.pass.1 k.pass.1 n → k.number ≡ h.number → k.id ≡ h.id → Goes h k
room_goes h k n l place id = record { grew = record { place = place; id = λ x e. id ∙ e; number = l.number; seen = l.grows }; id = id }

-- ---- the hall, all told

-- a look at the hall, and messages that were handed out for it
abbrev pub HallTells : Hub → ℕ → ℕ → List Msg → HallPass → HallPass → Type 0
HallTells hub conn shown msgs h k = LooksAndTells (HallShows conn (root_of hub)) shown h.pass.1 h.at msgs k.pass.1 k.at

pub hall_tells : (hub : Hub) (conn : ℕ) (acts : List Act) (m shown : ℕ) (ss news : List Sending) (h k : HallPass) (msgs : List Msg) → HallSits hub conn acts m ss h → HallTells hub conn shown msgs h k → shown ≤ k.at → texts_from None news ≡ texts_of None msgs → All (λ (s : Sending). s.after ≤ m + 1) (ss ++ news)
    → HallSits hub conn acts (m + 1) (ss ++ news) k
hall_tells hub conn acts m shown ss news h k msgs sits told answered from time =
    let l : Looked h.pass.1 k.pass.1 shown = looked h.pass.1 k.pass.1 shown told.read in
    let now = sent_more (HallShows conn (root_of hub)) (commands h.pass.1.seen) h.at None None ss news msgs (commands k.pass.1.seen) k.at (handed (HallShows conn (root_of hub)) (hall_one conn (root_of hub)) (commands h.pass.1.seen) h.at None None ss msgs (commands k.pass.1.seen) k.at sits.sent told.out) from in
    record {
      entries = ap (λ (es : List (Entry HallEntry)). commands es) l.mine ∙ sits.entries;
      count = one_look_more h.pass.1 k.pass.1 shown l ∙ ap (λ (n : ℕ). n + 1) sits.count;
      looks = looks_more (HallShows conn (root_of hub)) (commands h.pass.1.seen) (commands k.pass.1.seen) k.at None None ss news 1 (m + 1) h.pass.1.looks shown k.pass.1.looks (prefix_commands h.pass.1.seen k.pass.1.seen l.grows) sits.looks (omega (arith, sits.count)) now told.out.within answered time l.looks;
      sent = now;
    }

-- texts of rooms
pub hall_sits_on : (hub : Hub) (conn : ℕ) (acts : List Act) (m : ℕ) (ss news : List Sending) (h : HallPass) → HallSits hub conn acts m ss h → texts_from None news ≡ [] → HallSits hub conn acts m (ss ++ news) h
hall_sits_on hub conn acts m ss news h sits others = record {
  entries = sits.entries;
  count = sits.count;
  looks = looks_stay (HallShows conn (root_of hub)) (commands h.pass.1.seen) (commands h.pass.1.seen) None None ss news 1 h.pass.1.looks (prefix_self (commands h.pass.1.seen)) sits.looks;
  sent = sent_apart (HallShows conn (root_of hub)) (commands h.pass.1.seen) h.at None None ss news sits.sent others;
}

pub hall_up : (hub : Hub) (conn shown : ℕ) (h k : HallPass) (msgs : List Msg) → HallTells hub conn shown msgs h k → shown ≤ k.at → h.pass.1.mine ≡ entries_of h.pass.1.number h.pass.1.seen → IsHallPass hub conn k → IsCaughtUp k.pass.1 k.at
hall_up hub conn shown h k msgs told answered own is = caught_up h.pass.1 k.pass.1 shown k.at (looked h.pass.1 k.pass.1 shown told.read) told.fresh told.seen answered own is.rest.2

-- what a pass made stands in what it has seen
pub hall_own : (hub : Hub) (conn shown : ℕ) (h j : HallPass) → LooksHall shown h j → IsHallPass hub conn j → h.pass.1.mine ≡ entries_of h.pass.1.number h.pass.1.seen
hall_own hub conn shown h j l is = subst (λ (x : HallPass). x.pass.1.mine ≡ entries_of x.pass.1.number x.pass.1.seen) l.1 is.rest.2

-- a look alone
pub hall_looks : (h k : HallPass) (shown : ℕ) → LooksHall shown h k → Looked h.pass.1 k.pass.1 shown
hall_looks h k shown l = looked h.pass.1 k.pass.1 shown (0, ap (λ (x : HallPass). x.pass.1) l.1)

-- what was handed out since that
pub hall_told : (hub : Hub) (conn shown : ℕ) (h j k : HallPass) (msgs : List Msg) → LooksHall shown h j → HallHanded hub conn msgs j k → HallTells hub conn shown msgs h k
hall_told hub conn shown h j k msgs l told =
    let handed : HallHanded hub conn msgs (record h { pass = (h.pass.0, after_look h.pass.1 shown) }) k = subst (λ (x : HallPass). HallHanded hub conn msgs x k) l.1 told in
    record { seen = l.0; fresh = l.2; read = handed.0; out = handed.1 }

-- ---- a place, all told

-- the pass with the number and the id that it had before
abbrev pub as_was : RoomPass → RoomPass → RoomPass
as_was h k = record k { number = h.number; id = h.id }

pub as_is : (h k : RoomPass) → k.number ≡ h.number → k.id ≡ h.id → as_was h k ≡ k
as_is h k number id = λ i. record k { number = sym number i; id = sym id i }

held_tells : (hub : Hub) (conn : ℕ) (acts : List Act) (m : ℕ) (ss news : List Sending) (h k : RoomPass) (n : ℕ) (id : Option (List ℕ)) → IsSome id → SitsBy id hub conn acts m ss h → Looked h.pass.1 k.pass.1 n → IsSent (Shows conn (site_of hub h.number)) (commands k.pass.1.seen) k.at id (Some h.number) (ss ++ news)
    → k.at ≤ length (commands k.pass.1.seen) → n ≤ k.at → All (λ (s : Sending). s.after ≤ m + 1) (ss ++ news) → m + 1 ≡ length acts → SitsBy id hub conn acts (m + 1) (ss ++ news) (as_was h k)
held_tells hub conn acts m ss news h k n None held sits l now within answered time last = absurd (false≢true held)
held_tells hub conn acts m ss news h k n (Some id) held sits l now within answered time last =
    let more = one_look_more h.pass.1 k.pass.1 n l in
    let short = since_within h.number acts in
    let before = sits.count in
    record {
      count = omega arith;
      looks = looks_more (Shows conn (site_of hub h.number)) (commands h.pass.1.seen) (commands k.pass.1.seen) k.at (Some id) (Some h.number) ss news (length acts - length (since h.number acts) + 1) (m + 1) h.pass.1.looks n k.pass.1.looks (prefix_commands h.pass.1.seen k.pass.1.seen l.grows) sits.looks (omega arith) now within answered time l.looks;
      named = sits.named;
    }

pub place_tells : (hub : Hub) (conn : ℕ) (acts : List Act) (m shown : ℕ) (ss news : List Sending) (h k : RoomPass) (msgs : List Msg) → PlaceSits hub conn acts m ss h → IsSome h.id → RoomTells hub conn shown msgs h k → shown ≤ k.at → k.number ≡ h.number → k.id ≡ h.id
    → texts_from (Some h.number) news ≡ texts_of h.id msgs → All (λ (s : Sending). s.after ≤ m + 1) (ss ++ news) → m + 1 ≡ length acts → PlaceSits hub conn acts (m + 1) (ss ++ news) k
place_tells hub conn acts m shown ss news h k msgs sits held told answered number id from time last =
    let l : Looked h.pass.1 k.pass.1 shown = looked h.pass.1 k.pass.1 shown told.read in
    let now = sent_more (Shows conn (site_of hub h.number)) (commands h.pass.1.seen) h.at h.id (Some h.number) ss news msgs (commands k.pass.1.seen) k.at (handed (Shows conn (site_of hub h.number)) (room_one conn (site_of hub h.number)) (commands h.pass.1.seen) h.at h.id (Some h.number) ss msgs (commands k.pass.1.seen) k.at sits.1 told.out) from in
    subst (PlaceSits hub conn acts (m + 1) (ss ++ news)) (as_is h k number id)
    (ap (λ (es : List (Entry RoomCmd)). commands es) l.mine ∙ sits.0, now, held_tells hub conn acts m ss news h k shown h.id held sits.2 l now told.out.within answered time last)

pub place_up : (hub : Hub) (conn shown : ℕ) (h k : RoomPass) (msgs : List Msg) → RoomTells hub conn shown msgs h k → shown ≤ k.at → IsRoomPass hub conn h → IsRoomPass hub conn k → IsCaughtUp k.pass.1 k.at
place_up hub conn shown h k msgs told answered was is = caught_up h.pass.1 k.pass.1 shown k.at (looked h.pass.1 k.pass.1 shown told.read) told.fresh told.seen answered was.place.rest.2 is.place.rest.2

-- ---- a place from which nothing was sent now

sits_apart : (hub : Hub) (conn : ℕ) (acts : List Act) (looked : ℕ) (ss news : List Sending) (k : RoomPass) (id : Option (List ℕ)) → SitsBy id hub conn acts looked ss k → SitsBy id hub conn acts looked (ss ++ news) k
sits_apart hub conn acts looked ss news k None sits = sits
sits_apart hub conn acts looked ss news k (Some id) sits = record {
  count = sits.count;
  looks = looks_stay (Shows conn (site_of hub k.number)) (commands k.pass.1.seen) (commands k.pass.1.seen) (Some id) (Some k.number) ss news (length acts - length (since k.number acts) + 1) k.pass.1.looks (prefix_self (commands k.pass.1.seen)) sits.looks;
  named = sits.named;
}

pub place_apart : (hub : Hub) (conn : ℕ) (acts : List Act) (looked : ℕ) (ss news : List Sending) (k : RoomPass) → PlaceSits hub conn acts looked ss k → texts_from (Some k.number) news ≡ [] → PlaceSits hub conn acts looked (ss ++ news) k
place_apart hub conn acts looked ss news k sits others = (sits.0, sent_apart (Shows conn (site_of hub k.number)) (commands k.pass.1.seen) k.at k.id (Some k.number) ss news sits.1 others, sits_apart hub conn acts looked ss news k k.id sits.2)

free_by : (hub : Hub) (conn : ℕ) (acts : List Act) (looked other : ℕ) (ss : List Sending) (k : RoomPass) (id : Option (List ℕ)) → id ≡ None → SitsBy id hub conn acts looked ss k → SitsBy id hub conn acts other ss k
free_by hub conn acts looked other ss k None e sits = sits
free_by hub conn acts looked other ss k (Some id) e sits = absurd (let bad : Some id ≡ None = e in cc)

-- a place that isn't held has no looks
pub place_free : (hub : Hub) (conn : ℕ) (acts : List Act) (looked other : ℕ) (ss : List Sending) (k : RoomPass) → k.id ≡ None → PlaceSits hub conn acts looked ss k → PlaceSits hub conn acts other ss k
place_free hub conn acts looked other ss k e sits = (sits.0, sits.1, free_by hub conn acts looked other ss k k.id e sits.2)

-- ---- a session that breaks off while it tells

as_all : {A : Type 0} (whole : Bool) (early xs all : List A) → IsPrefix early all → xs ≡ all → IsAs whole early xs all
as_all true early xs all p e = e
as_all false early xs all p e = (subst (λ (ys : List _). IsPrefix early ys) (sym e) p, prefix_same xs all e)

hall_early : (conn : ℕ) (acts : List Act) (a : Act) → IsPrefix (hall_entries conn acts) (hall_entries conn (acts ++ a ∷ []))
hall_early conn acts a = subst (IsPrefix (hall_entries conn acts)) (sym (flat_map-append (hall_of conn) acts (a ∷ []))) (prefix_front (hall_entries conn acts) (hall_entries conn (a ∷ [])))

room_early : (conn number : ℕ) (acts : List Act) (a : Act) → IsPrefix (room_cmds conn number acts) (room_cmds conn number (acts ++ a ∷ []))
room_early conn number acts a = subst (IsPrefix (room_cmds conn number acts)) (sym (flat_map-append (room_of conn number) acts (a ∷ []))) (prefix_front (room_cmds conn number acts) (room_cmds conn number (a ∷ [])))

-- where the last look wasn't answered
pub hall_left_late : (whole : Bool) (hub : Hub) (conn : ℕ) (acts : List Act) (a : Act) (ss news : List Sending) (h k : HallPass) (n : ℕ) → HallSits hub conn (acts ++ a ∷ []) (length acts) ss h → Looked h.pass.1 k.pass.1 n → IsPartSent (HallShows conn (root_of hub)) (commands k.pass.1.seen) k.at None None (ss ++ news)
    → HallLeft whole hub conn acts (acts ++ a ∷ []) (ss ++ news) k
hall_left_late whole hub conn acts a ss news h k n sits l part =
    let more = acts_length acts a in
    let count = sits.count in
    record {
      entries = as_all whole (hall_entries conn acts) (commands k.pass.1.mine) (hall_entries conn (acts ++ a ∷ [])) (hall_early conn acts a) (ap (λ (es : List (Entry HallEntry)). commands es) l.mine ∙ sits.entries);
      looks = almost_answered (HallShows conn (root_of hub)) (commands k.pass.1.seen) None None (ss ++ news) 1 (length (acts ++ a ∷ []) - 1) (length (acts ++ a ∷ [])) h.pass.1.looks n k.pass.1.looks (looks_stay (HallShows conn (root_of hub)) (commands h.pass.1.seen) (commands k.pass.1.seen) None None ss news 1 h.pass.1.looks (prefix_commands h.pass.1.seen k.pass.1.seen l.grows) sits.looks) l.looks (omega arith) (omega arith);
      sent = part;
    }

looks_left : (hub : Hub) (conn : ℕ) (acts : List Act) (looked : ℕ) (ss : List Sending) (k : RoomPass) (id : Option (List ℕ)) → length acts ≤ looked + 1 → SitsBy id hub conn acts looked ss k → LooksLeft id hub conn acts ss k
looks_left hub conn acts looked ss k None le sits = sits.looks
looks_left hub conn acts looked ss k (Some id) le sits =
    let count = sits.count in
    (sits.named, all_answered (Shows conn (site_of hub k.number)) (commands k.pass.1.seen) (Some id) (Some k.number) ss (length acts - length (since k.number acts) + 1) (length (since k.number acts) - 1) (length (since k.number acts)) k.pass.1.looks sits.looks (omega arith) (omega arith))

waits_left : (hub : Hub) (conn : ℕ) (acts : List Act) (looked : ℕ) (ss : List Sending) (k : RoomPass) (id : Option (List ℕ)) → id ≡ None → SitsBy id hub conn acts looked ss k → RoomWaits hub acts k
waits_left hub conn acts looked ss k None e sits = sits
waits_left hub conn acts looked ss k (Some id) e sits = absurd (let bad : Some id ≡ None = e in cc)

pub place_left : (whole : Bool) (hub : Hub) (conn : ℕ) (acts : List Act) (a : Act) (looked : ℕ) (ss : List Sending) (k : RoomPass) → length acts ≤ looked → PlaceSits hub conn (acts ++ a ∷ []) looked ss k → PlaceLeft whole hub conn acts (acts ++ a ∷ []) ss k
place_left whole hub conn acts a looked ss k le sits = record {
  entries = as_all whole (room_cmds conn k.number acts) (commands k.pass.1.mine) (room_cmds conn k.number (acts ++ a ∷ [])) (room_early conn k.number acts a) sits.0;
  looks = looks_left hub conn (acts ++ a ∷ []) looked ss k k.id (omega (arith, acts_length acts a)) sits.2;
  sent = whole_part (Shows conn (site_of hub k.number)) (commands k.pass.1.seen) k.at k.id (Some k.number) ss sits.1;
  waits = λ w e. waits_left hub conn (acts ++ a ∷ []) looked ss k k.id e sits.2;
}

looks_left_late : (hub : Hub) (conn : ℕ) (acts : List Act) (m : ℕ) (ss news : List Sending) (h k : RoomPass) (n : ℕ) (id : Option (List ℕ)) → IsSome id → m + 1 ≡ length acts → SitsBy id hub conn acts m ss h → Looked h.pass.1 k.pass.1 n → LooksLeft id hub conn acts (ss ++ news) (as_was h k)
looks_left_late hub conn acts m ss news h k n None held last sits l = absurd (false≢true held)
looks_left_late hub conn acts m ss news h k n (Some id) held last sits l =
    let count = sits.count in (
      sits.named,
      almost_answered (Shows conn (site_of hub h.number)) (commands k.pass.1.seen) (Some id) (Some h.number) (ss ++ news) (length acts - length (since h.number acts) + 1) (length (since h.number acts) - 1) (length (since h.number acts)) h.pass.1.looks n k.pass.1.looks (looks_stay (Shows conn (site_of hub h.number)) (commands h.pass.1.seen) (commands k.pass.1.seen) (Some id) (Some h.number) ss news (length acts - length (since h.number acts) + 1) h.pass.1.looks (prefix_commands h.pass.1.seen k.pass.1.seen l.grows) sits.looks) l.looks (omega arith) (omega arith),
    )

pub never_free : (id : Option (List ℕ)) → IsSome id → id ≡ None → ⊥
never_free None held e = absurd (false≢true held)
never_free (Some id) held e = let bad : Some id ≡ None = e in cc

pub place_left_late : (whole : Bool) (hub : Hub) (conn : ℕ) (acts : List Act) (a : Act) (ss news : List Sending) (h k : RoomPass) (n : ℕ) → PlaceSits hub conn (acts ++ a ∷ []) (length acts) ss h → IsSome h.id → Looked h.pass.1 k.pass.1 n → k.number ≡ h.number → k.id ≡ h.id
    → IsPartSent (Shows conn (site_of hub h.number)) (commands k.pass.1.seen) k.at h.id (Some h.number) (ss ++ news) → PlaceLeft whole hub conn acts (acts ++ a ∷ []) (ss ++ news) k
place_left_late whole hub conn acts a ss news h k n sits held l number id part =
    subst (PlaceLeft whole hub conn acts (acts ++ a ∷ []) (ss ++ news)) (as_is h k number id) (record {
      entries = as_all whole (room_cmds conn h.number acts) (commands k.pass.1.mine) (room_cmds conn h.number (acts ++ a ∷ [])) (room_early conn h.number acts a) (ap (λ (es : List (Entry RoomCmd)). commands es) l.mine ∙ sits.0);
      looks = looks_left_late hub conn (acts ++ a ∷ []) (length acts) ss news h k n h.id held (sym (acts_length acts a)) sits.2 l;
      sent = part;
      waits = λ w e. absurd (never_free h.id held e);
    })

-- ---- what was sent in part

pub hall_part : (hub : Hub) (conn : ℕ) (acts : List Act) (m shown : ℕ) (ss news : List Sending) (h k : HallPass) (msgs : List Msg) (count : ℕ) → HallSits hub conn acts m ss h → HallTells hub conn shown msgs h k → texts_from None news ≡ take count (texts_of None msgs) → IsPartSent (HallShows conn (root_of hub)) (commands k.pass.1.seen) k.at None None (ss ++ news)
hall_part hub conn acts m shown ss news h k msgs count sits told from = part_sent (HallShows conn (root_of hub)) (commands h.pass.1.seen) h.at None None ss news msgs (commands k.pass.1.seen) k.at count (handed (HallShows conn (root_of hub)) (hall_one conn (root_of hub)) (commands h.pass.1.seen) h.at None None ss msgs (commands k.pass.1.seen) k.at sits.sent told.out) from

-- the hall was looked at, and has told nothing yet
pub hall_waits : (hub : Hub) (conn : ℕ) (acts : List Act) (m shown : ℕ) (ss news : List Sending) (h k : HallPass) → HallSits hub conn acts m ss h → LooksHall shown h k → texts_from None news ≡ [] → IsPartSent (HallShows conn (root_of hub)) (commands k.pass.1.seen) k.at None None (ss ++ news)
hall_waits hub conn acts m shown ss news h k sits l from =
    subst (λ (x : HallPass). IsPartSent (HallShows conn (root_of hub)) (commands x.pass.1.seen) x.at None None (ss ++ news)) (sym l.1)
    (whole_part (HallShows conn (root_of hub)) (commands h.pass.1.seen) h.at None None (ss ++ news) (sent_apart (HallShows conn (root_of hub)) (commands h.pass.1.seen) h.at None None ss news sits.sent from))

pub place_part : (hub : Hub) (conn : ℕ) (acts : List Act) (m shown : ℕ) (ss news : List Sending) (h k : RoomPass) (msgs : List Msg) (count : ℕ) → PlaceSits hub conn acts m ss h → RoomTells hub conn shown msgs h k → texts_from (Some h.number) news ≡ take count (texts_of h.id msgs) → IsPartSent (Shows conn (site_of hub h.number)) (commands k.pass.1.seen) k.at h.id (Some h.number) (ss ++ news)
place_part hub conn acts m shown ss news h k msgs count sits told from = part_sent (Shows conn (site_of hub h.number)) (commands h.pass.1.seen) h.at h.id (Some h.number) ss news msgs (commands k.pass.1.seen) k.at count (handed (Shows conn (site_of hub h.number)) (room_one conn (site_of hub h.number)) (commands h.pass.1.seen) h.at h.id (Some h.number) ss msgs (commands k.pass.1.seen) k.at sits.1 told.out) from
