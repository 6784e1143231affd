-- A Quiet: nothing was made, and all that is held is to be looked at.
use Rattle.std.proofs.Common.{◌≡◌, ◌≢◌, ℕ, ◌+◌, ◌-◌, ◌≤◌, List, [], ◌∷◌, ◌++◌, length, get_or, Option, Some, None, refl, ap, sym, ◌∙◌, subst, arith}
use Rattle.std.specs.Prelude.{All, IsSome}
use Rattle.std.proofs.lemmas.List.{append-nil, length-append}
use Rattle.rules_start.specs.declared.start.Start.{Start}
use Rattle.ps_histlock.specs.Histories.{commands}
use Rattle.ps_session.specs.Sessions.{Record, begun}
use Rattle.server_places.specs.Rooms.{Shows}
use Rattle.ps_hub.specs.Hubs.{Hub, site_of}
use Rattle.ps_hub.specs.Passes.{HallPass, RoomPass}
use Rattle.ps_hub.specs.declared.passes.Passes.{Passes}
use Rattle.ps_serve.specs.Acts.{Act, quiet, hall_entries, room_cmds, since, asked, begins, all_begun}
use Rattle.ps_serve.specs.Sendings.{Sending, AreLooksAnswered}
use Rattle.ps_serve.specs.Sittings.{HallSits, RoomSits, RoomWaits, LastLacks, SitsBy, PlaceSits, IsUntouched, IsBegun, Sits}
use Rattle.ps_serve.proofs.Actions.{after_acts_more, acts_more, hall_more, cmds_more, asked_more, begins_more, all_begun_more, since_more, since_away, given_more}
use Rattle.ps_serve.proofs.ActLemmas.{acts_length, since_within}

hall_same : (conn : ℕ) (acts : List Act) → hall_entries conn (acts ++ quiet ∷ []) ≡ hall_entries conn acts
hall_same conn acts = hall_more conn acts quiet ∙ append-nil (hall_entries conn acts)

room_same : (conn number : ℕ) (acts : List Act) → room_cmds conn number (acts ++ quiet ∷ []) ≡ room_cmds conn number acts
room_same conn number acts = cmds_more conn number acts quiet ∙ append-nil (room_cmds conn number acts)

asked_same : (number : ℕ) (acts : List Act) → asked number (acts ++ quiet ∷ []) ≡ asked number acts
asked_same number acts = asked_more number acts quiet ∙ append-nil (asked number acts)

begins_same : (number : ℕ) (acts : List Act) → begins number (acts ++ quiet ∷ []) ≡ begins number acts
begins_same number acts = begins_more number acts quiet ∙ append-nil (begins number acts)

begun_same : (acts : List Act) → all_begun (acts ++ quiet ∷ []) ≡ all_begun acts
begun_same acts = all_begun_more acts quiet ∙ append-nil (all_begun acts)

hall_quiet : (hub : Hub) (conn : ℕ) (acts : List Act) (looked : ℕ) (ss : List Sending) (h : HallPass) → HallSits hub conn acts looked ss h → HallSits hub conn (acts ++ quiet ∷ []) looked ss h
hall_quiet hub conn acts looked ss h s = record { entries = s.entries ∙ sym (hall_same conn acts); count = s.count; looks = s.looks; sent = s.sent }

-- each Quiet counts for a room that is joined
room_quiet : (hub : Hub) (conn : ℕ) (acts : List Act) (ss : List Sending) (id : List ℕ) (k : RoomPass) → since k.number acts ≢ [] → RoomSits hub conn acts (length acts) ss id k → RoomSits hub conn (acts ++ quiet ∷ []) (length acts) ss id k
room_quiet hub conn acts ss id k joined s =
    let now : length (since k.number (acts ++ quiet ∷ [])) ≡ length (since k.number acts) + 1 = ap length (since_more k.number acts quiet joined) ∙ length-append (since k.number acts) (quiet ∷ []) in
    let long : length (acts ++ quiet ∷ []) ≡ length acts + 1 = acts_length acts quiet in
    let was : length k.pass.1.looks + (length acts - length acts) ≡ length (since k.number acts) = s.count in
    let within : length (since k.number acts) ≤ length acts = since_within k.number acts in
    let first : length acts - length (since k.number acts) + 1 ≡ length (acts ++ quiet ∷ []) - length (since k.number (acts ++ quiet ∷ [])) + 1 = omega arith in
    record {
      count = omega arith;
      looks = subst (λ (n : ℕ). AreLooksAnswered (Shows conn (site_of hub k.number)) (commands k.pass.1.seen) (Some id) (Some k.number) ss n k.pass.1.looks) first s.looks;
      named = s.named;
    }

wait_quiet : (hub : Hub) (acts : List Act) (k : RoomPass) → RoomWaits hub acts k → RoomWaits hub (acts ++ quiet ∷ []) k
wait_quiet hub acts k w = record {
  battle = w.battle;
  turns = w.turns ∙ ap (λ (ids : List (List ℕ)). length ids + length (begins k.number acts)) (sym (asked_same k.number acts)) ∙ ap (λ (starts : List Start). length (asked k.number (acts ++ quiet ∷ [])) + length starts) (sym (begins_same k.number acts));
  lacks = λ e. subst (LastLacks hub k) (sym (asked_same k.number acts)) (w.lacks (sym (begins_same k.number acts) ∙ e));
  looks = w.looks;
  joined = since_away k.number acts quiet refl w.joined;
  at = w.at;
}

by_quiet : (id : Option (List ℕ)) (hub : Hub) (conn : ℕ) (acts : List Act) (ss : List Sending) (k : RoomPass) → (IsSome id → since k.number acts ≢ []) → SitsBy id hub conn acts (length acts) ss k → SitsBy id hub conn (acts ++ quiet ∷ []) (length acts) ss k
by_quiet None hub conn acts ss k joined s = wait_quiet hub acts k s
by_quiet (Some id) hub conn acts ss k joined s = room_quiet hub conn acts ss id k (joined refl) s

place_quiet : (hub : Hub) (conn : ℕ) (acts : List Act) (ss : List Sending) (k : RoomPass) → (IsSome k.id → since k.number acts ≢ []) → PlaceSits hub conn acts (length acts) ss k → PlaceSits hub conn (acts ++ quiet ∷ []) (length acts) ss k
place_quiet hub conn acts ss k joined s = (s.0 ∙ sym (room_same conn k.number acts), s.1, by_quiet k.id hub conn acts ss k joined s.2)

still_joined : (number : ℕ) (acts : List Act) → since number acts ≢ [] → since number (acts ++ quiet ∷ []) ≢ []
still_joined number acts joined e =
    let now : length (since number (acts ++ quiet ∷ [])) ≡ length (since number acts) + 1 = ap length (since_more number acts quiet joined) ∙ length-append (since number acts) (quiet ∷ []) in
    let none : length (since number (acts ++ quiet ∷ [])) ≡ 0 = ap length e in
    omega arith

untouched_quiet : (conn number : ℕ) (acts : List Act) (ss : List Sending) → IsUntouched conn number acts ss → IsUntouched conn number (acts ++ quiet ∷ []) ss
untouched_quiet conn number acts ss u = record {
  no_cmds = room_same conn number acts ∙ u.no_cmds;
  not_joined = since_away number acts quiet refl u.not_joined;
  not_asked = asked_same number acts ∙ u.not_asked;
  not_begun = begins_same number acts ∙ u.not_begun;
  not_sent = u.not_sent;
}

-- a session that heard a Quiet
pub quiet_sits : (hub : Hub) (conn open_at : ℕ) (acts : List Act) (ss : List Sending) (session : Record) (passes : Passes) → Sits hub conn open_at acts (length acts) ss session passes → Sits hub conn open_at (acts ++ quiet ∷ []) (length acts) ss session passes
quiet_sits hub conn open_at acts ss session passes s = record {
  are = s.are;
  conn_is = s.conn_is;
  way = acts_more (begun conn) acts quiet s.way tt;
  session_is = s.session_is ∙ sym (after_acts_more (begun conn) acts quiet);
  badge_is = s.badge_is;
  hall_pass = s.hall_pass;
  hall = s.hall;
  hall_sits = hall_quiet hub conn acts (length acts) ss s.hall_pass s.hall_sits;
  rooms = λ i d lt. place_quiet hub conn acts ss (get_or passes.rooms.items i d) (s.joined i d lt) (s.rooms i d lt);
  joined = λ i d lt held. still_joined (get_or passes.rooms.items i d).number acts (s.joined i d lt held);
  others = λ number none. untouched_quiet conn number acts ss (s.others number none);
  apart = s.apart;
  begun = subst (All (IsBegun passes.rooms.items)) (sym (begun_same acts)) s.begun;
  named = s.named;
  gave = given_more hub conn [] acts quiet s.hall_pass passes.rooms.items s.gave tt;
  from = s.from;
  opened = s.opened;
  on_time = s.on_time;
}
