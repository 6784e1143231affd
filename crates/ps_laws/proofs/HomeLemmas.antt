-- A connection's member is one of its users, at any time.
use Rattle.std.proofs.Common.{◌≡◌, ℕ, Bool, true, false, List, [], ◌∷◌, ◌++◌, Option, Some, None, map, refl, ap, ◌∙◌, sym, subst}
use Rattle.std.specs.List.{filter}
use Rattle.std.specs.Prelude.{◌==◌, not}
use Rattle.std.specs.Str.{bytes_eq}
use Rattle.ps_base.specs.Ids.{id_of}
use Rattle.ps_base.specs.declared.badge.Badge.{Badge}
use Rattle.ps_base.specs.declared.why.Why.{Why}
use Rattle.ps_lines.specs.declared.command.Command.{Command}
use Rattle.ps_lines.specs.declared.command.Command.TheVariants.{Join, Leave, Quit, Say, Announce, Modnote, Warn, Mute, Unmute, Ban, Unban, Promote, Modchat, Choose, Undo, Forfeit}
use Rattle.ps_group.specs.declared.group.Group.{Group}
use Rattle.ps_group.specs.Ranks.{rank_of}
use Rattle.ps_base.specs.ById.{ById}
use Rattle.ps_chat.specs.declared.present.Present.{Present}
use Rattle.ps_chat.specs.Lookups.{member, kept}
use Rattle.ps_chat.specs.Records.{Member, Record as ChatRecord, Opening as ChatOpening}
use Rattle.ps_chat.specs.Rooms.{present, presents, room_of}
use Rattle.ps_chat.specs.Changes.{record_after, with_rank}
use Rattle.ps_chat.specs.Verdicts.{verdict as chat_verdict}
use Rattle.ps_chat.proofs.StepLemmas.{joins_new}
use Rattle.ps_room.specs.declared.entry.Entry.{Entry}
use Rattle.ps_room.specs.Records.{Record, presents_of}
use Rattle.ps_room.specs.Rooms.{verdict, after, sender_of, is_join}
use Rattle.ps_room.proofs.AnswerLemmas.{after_allowed, after_refused, chat_allows}
use Rattle.ps_laws.specs.Users.{badge_of, user_of}
use Rattle.ps_laws.proofs.UserLemmas.{IsHome}
use Rattle.ps_laws.specs.HallLow.{is_user}

-- each member of the connection is one of the users
abbrev pub AreHome : ℕ → List (List ℕ) → List Member → Type 0
AreHome conn ids [] = Unit {0}
AreHome conn ids (m ∷ ms) = ((m.conn == conn) ≡ true → is_user ids (id_of m.badge.name) ≡ true) × AreHome conn ids ms

home_push : (conn : ℕ) (ids : List (List ℕ)) (ms : List Member) (m : Member) → AreHome conn ids ms → ((m.conn == conn) ≡ true → is_user ids (id_of m.badge.name) ≡ true) → AreHome conn ids (ms ++ m ∷ [])
home_push conn ids [] m h by = (by, tt)
home_push conn ids (x ∷ ms) m h by = (h.0, home_push conn ids ms m h.1 by)

home_filter : (conn : ℕ) (ids : List (List ℕ)) (test : Member → Bool) (ms : List Member) → AreHome conn ids ms → AreHome conn ids (filter test ms)
home_filter conn ids test [] h = tt
home_filter conn ids test (m ∷ ms) h = by (test m) refl (home_filter conn ids test ms h.1)
  where
    by : (b : Bool) → test m ≡ b → AreHome conn ids (filter test ms) → AreHome conn ids (filter test (m ∷ ms))
    by true t more = rw t (h.0, more)
    by false t more = rw t more

home_ranked : (conn : ℕ) (ids : List (List ℕ)) (chat : ChatRecord) (id : List ℕ) (rank : Option ℕ) → AreHome conn ids chat.members → AreHome conn ids (with_rank chat id rank).members
home_ranked conn ids chat id None h = h
home_ranked conn ids chat id (Some rank) h = h

-- who joins as the connection is one of the users
JoinsHome : ℕ → List (List ℕ) → ℕ → Badge → Command → Type 0
JoinsHome conn ids from badge (Join room) = (from == conn) ≡ true → is_user ids (id_of badge.name) ≡ true
JoinsHome conn ids from badge other = Unit {0}

home_record : (conn : ℕ) (ids : List (List ℕ)) (groups : List Group) (chat : ChatRecord) (from : ℕ) (badge : Badge) (moment : ℕ) (cmd : Command) → AreHome conn ids chat.members → JoinsHome conn ids from badge cmd → AreHome conn ids (record_after groups chat from badge moment cmd).members
unfolding JoinsHome
home_record conn ids groups chat from badge moment (Join room) h by = home_push conn ids chat.members (record { conn = from; badge = kept groups badge }) h by
home_record conn ids groups chat from badge moment Leave h by = home_filter conn ids (λ m. not (m.conn == from)) chat.members h
home_record conn ids groups chat from badge moment Quit h by = home_filter conn ids (λ m. not (m.conn == from)) chat.members h
home_record conn ids groups chat from badge moment (Say text) h by = h
home_record conn ids groups chat from badge moment (Announce text) h by = h
home_record conn ids groups chat from badge moment (Modnote text) h by = h
home_record conn ids groups chat from badge moment (Warn id reason) h by = h
home_record conn ids groups chat from badge moment (Mute id reason) h by = h
home_record conn ids groups chat from badge moment (Unmute id) h by = h
home_record conn ids groups chat from badge moment (Ban id reason) h by = home_filter conn ids (λ m. not (bytes_eq (id_of m.badge.name) id)) chat.members h
home_record conn ids groups chat from badge moment (Unban id) h by = h
home_record conn ids groups chat from badge moment (Promote id symbol) h by = home_ranked conn ids chat id (rank_of symbol groups) h
home_record conn ids groups chat from badge moment (Modchat symbol) h by = h
home_record conn ids groups chat from badge moment (Choose choice rqid) h by = h
home_record conn ids groups chat from badge moment Undo h by = h
home_record conn ids groups chat from badge moment Forfeit h by = h

-- ---- who joins wasn't a member

-- who makes an allowed Join has no member yet
joined_new : (o : ChatOpening) (chat : ChatRecord) (conn : ℕ) (badge : Badge) (moment : ℕ) (room : List ℕ) → chat_verdict o chat conn badge moment (Join room) ≡ None → member conn (presents o chat) ≡ None
unfolding chat_verdict
joined_new o chat conn badge moment room allowed = joins_new (room_of o chat) conn badge moment (Join room) allowed

pub join_is_new : (r : Record) (e : Entry) (room : List ℕ) → e.cmd ≡ Join room → verdict r e ≡ None → sender_of r e ≡ None
join_is_new r e room is v = joined_new r.opening r.chat e.conn e.badge e.moment room (ap (chat_verdict r.opening r.chat e.conn e.badge e.moment) (sym is) ∙ chat_allows r e v)

-- so its user is that of the badge that it brings
pub join_user : (r : Record) (e : Entry) (room : List ℕ) → e.cmd ≡ Join room → verdict r e ≡ None → user_of r e ≡ id_of e.badge.name
join_user r e room is v = ap (λ (me : Option Present). id_of (badge_of me e.badge).name) (join_is_new r e room is v)

joins_home_by : (conn : ℕ) (ids : List (List ℕ)) (r : Record) (e : Entry) (cmd : Command) → e.cmd ≡ cmd → verdict r e ≡ None → ((e.conn == conn) ≡ true → is_join e.cmd ≡ true → is_user ids (user_of r e) ≡ true) → JoinsHome conn ids e.conn e.badge cmd
unfolding JoinsHome
joins_home_by conn ids r e (Join room) is v user = λ own. sym (ap (is_user ids) (join_user r e room is v)) ∙ user own (ap is_join is)
joins_home_by conn ids r e other is v user = tt

home_by : (conn : ℕ) (ids : List (List ℕ)) (r : Record) (e : Entry) (v : Option Why) → verdict r e ≡ v → AreHome conn ids r.chat.members → ((e.conn == conn) ≡ true → is_join e.cmd ≡ true → is_user ids (user_of r e) ≡ true) → AreHome conn ids (after r e).chat.members
home_by conn ids r e (Some why) v h user = subst (λ (x : Record). AreHome conn ids x.chat.members) (sym (after_refused r e why v)) h
home_by conn ids r e None v h user = subst (λ (x : Record). AreHome conn ids x.chat.members) (sym (after_allowed r e v)) (home_record conn ids r.opening.groups r.chat e.conn e.badge e.moment e.cmd h (joins_home_by conn ids r e e.cmd refl v user))

-- each member of the connection stays one of the users, where the connection joins as one of them
pub home_after : (conn : ℕ) (ids : List (List ℕ)) (r : Record) (e : Entry) → AreHome conn ids r.chat.members → ((e.conn == conn) ≡ true → is_join e.cmd ≡ true → is_user ids (user_of r e) ≡ true) → AreHome conn ids (after r e).chat.members
home_after conn ids r e h user = home_by conn ids r e (verdict r e) refl h user

-- ---- the connection's member

found_home : (conn : ℕ) (ids : List (List ℕ)) (groups : List Group) (ranks : ById ℕ) (ms : List Member) → AreHome conn ids ms → IsHome ids (member conn (map (present groups ranks) ms))
found_home conn ids groups ranks [] h = tt
found_home conn ids groups ranks (m ∷ ms) h = by (m.conn == conn) refl (found_home conn ids groups ranks ms h.1)
  where
    by : (b : Bool) → (m.conn == conn) ≡ b → IsHome ids (member conn (map (present groups ranks) ms)) → IsHome ids (member conn (map (present groups ranks) (m ∷ ms)))
    by true own more = rw own (h.0 own)
    by false own more = rw own more

pub is_home : (conn : ℕ) (ids : List (List ℕ)) (r : Record) → AreHome conn ids r.chat.members → IsHome ids (member conn (presents_of r))
is_home conn ids r h = found_home conn ids r.opening.groups r.chat.ranks r.chat.members h
