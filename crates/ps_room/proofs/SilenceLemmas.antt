-- Who is sent nothing, and whose connections the members have.
use Rattle.std.proofs.Common.{◌≡◌, ℕ, ◌≤◌, ◌==◌, Bool, true, false, not, List, [], ◌∷◌, ◌++◌, map, Option, Some, None, refl, sym, ap, ◌∙◌, subst, arith}
use Rattle.std.specs.List.{filter, filter_map}
use Rattle.std.proofs.lemmas.List.Elements.{filter_map-append}
use Rattle.std.specs.Str.{bytes_eq}
use Rattle.ps_base.specs.Ids.{id_of}
use Rattle.ps_base.specs.declared.badge.Badge.{Badge}
use Rattle.ps_base.specs.declared.why.Why.{Why}
use Rattle.ps_group.specs.Ranks.{rank_of}
use Rattle.ps_group.specs.declared.group.Group.{Group}
use Rattle.ps_lines.specs.declared.command.Command.{Command}
use Rattle.ps_lines.specs.declared.command.Command.TheVariants.{Join, Leave, Quit, Say, Announce, Modnote, Warn, Mute, Unmute, Ban, Unban, Promote, Modchat, Choose, Undo, Forfeit}
use Rattle.ps_chat.specs.Records.{Member, Record as ChatRecord}
use Rattle.ps_chat.specs.Lookups.{member, kept}
use Rattle.ps_chat.specs.Lines.{Line}
use Rattle.ps_chat.specs.Rooms.{present, room_of}
use Rattle.ps_chat.specs.Told.{lines, joiner, told as chat_told}
use Rattle.ps_chat.specs.Changes.{record_after, with_rank}
use Rattle.ps_chat.specs.declared.present.Present.{Present}
use Rattle.ps_chat.specs.declared.room.Room.{Room}
use Rattle.ps_chat.proofs.ToldLemmas.{of_told}
use Rattle.ps_room.specs.declared.entry.Entry.{Entry}
use Rattle.ps_event.specs.declared.audience.Audience.{Audience}
use Rattle.ps_event.specs.declared.audience.Audience.TheVariants as audiences
use Rattle.ps_event.specs.declared.event.Event.{Event}
use Rattle.ps_event.specs.declared.event.Event.TheVariants as events
use Rattle.ps_event.specs.Table.{audience_of}
use Rattle.ps_view.specs.declared.role.Role.TheVariants.{Outside}
use Rattle.ps_view.specs.Roles.{has_role}
use Rattle.ps_view.specs.Lines.{is_request, line_of}
use Rattle.battle_rounds.specs.declared.bout.Bout.{Bout}
use Rattle.battle_rounds.specs.Casts.{Cast, event_text}
use Rattle.battle_rounds.specs.Fights.{Fight, requests}
use Rattle.battle_rounds.specs.Rounds.{Outcome}
use Rattle.ps_room.specs.Records.{Record, presents_of, cast_in}
use Rattle.ps_room.specs.Rooms.{verdict, sender_of, told, after, role_in, message, shown_events, seen_text, seen_texts, events_by, lines_by, outcome_by, chat_lines}
use Rattle.ps_room.proofs.AnswerLemmas.{after_allowed, after_refused, silent_line}

-- ---- who is no member sees no line of a row

no_row : (conn : ℕ) (r : Room) (me : Option Present) (new : Present) (moment : ℕ) (cmd : Command) → seen_texts conn Outside (chat_told r me new moment cmd) ≡ []
no_row conn r = of_told (λ ls. seen_texts conn Outside ls ≡ []) refl (λ text. refl) (λ text. refl) (λ staff text. refl) r

-- ---- who is no member is shown no event, and asked nothing

unheard : (a : Audience) → has_role a Outside ≡ false
unheard audiences.All = refl
unheard (audiences.Split side) = refl
unheard (audiences.Side side) = refl
unheard (audiences.Rank lowest) = refl
unheard (audiences.One other) = refl

unshown : (c : Cast) (event : Event) → event_text c Outside event ≡ None
unfolding line_of
unshown c event = rw (unheard (audience_of event)) refl

none_of : {X Y : Type 0} (f : X → Option Y) (xs : List X) → ((x : X) → f x ≡ None) → filter_map f xs ≡ []
none_of f [] h = refl
none_of f (x ∷ xs) h = rw (h x) (none_of f xs h)

pub no_events : (cast : Option Cast) (told : List Event) → shown_events cast Outside told ≡ []
no_events None told = refl
no_events (Some c) told = none_of (event_text c Outside) told (unshown c)

no_request_by : (conn : ℕ) (c : Cast) (b : Bout) (event : Event) (rest : List Event) (ask : Bool) → is_request event ≡ ask → seen_texts conn Outside (requests c b rest) ≡ [] → seen_texts conn Outside (requests c b (event ∷ rest)) ≡ []
no_request_by conn c b (events.Request side) rest ask e more = more
no_request_by conn c b event rest ask e more = more

no_requests : (conn : ℕ) (c : Cast) (b : Bout) (told : List Event) → seen_texts conn Outside (requests c b told) ≡ []
no_requests conn c b [] = refl
no_requests conn c b (event ∷ rest) = no_request_by conn c b event rest (is_request event) refl (no_requests conn c b rest)

no_lines : (conn : ℕ) (battle : Option Fight) (me : Option Present) (cmd : Command) (ls : List Line) → seen_texts conn Outside ls ≡ [] → seen_texts conn Outside (lines_by battle me cmd ls) ≡ []
no_lines conn None me cmd ls none = none
no_lines conn (Some f) me cmd ls none =
    let after : Outcome = outcome_by f me cmd in
    filter_map-append (seen_text conn Outside) ls (requests f.cast after.bout after.told) ∙ rw (none, no_requests conn f.cast after.bout after.told) refl

outside_by : (conn : ℕ) (r : Record) (e : Entry) (v : Option Why) → verdict r e ≡ v → (conn == e.conn) ≡ false → member conn (presents_of r) ≡ None → message conn r e ≡ []
unfolding told lines role_in
outside_by conn r e (Some why) v other out = silent_line r e why conn v other
outside_by conn r e None v other out =
    let row : seen_texts conn Outside (chat_lines r e) ≡ [] = no_row conn (room_of r.opening r.chat) (member e.conn (presents_of r)) (joiner (room_of r.opening r.chat) e.conn e.badge) e.moment e.cmd in
    rw (v, other, out, no_events (cast_in r.battle) (events_by r.battle (sender_of r e) e.cmd), no_lines conn r.battle (sender_of r e) e.cmd (chat_lines r e) row) refl

-- who is no member and isn't the sender is sent nothing
pub outside_silent : (conn : ℕ) (r : Record) (e : Entry) → (conn == e.conn) ≡ false → member conn (presents_of r) ≡ None → message conn r e ≡ []
outside_silent conn r e other out = outside_by conn r e (verdict r e) refl other out

-- ---- the members' connections

-- a number from 1 to n
abbrev pub IsUpTo : ℕ → ℕ → Type 0
IsUpTo n conn = (1 ≤ conn) × (conn ≤ n)

abbrev pub AreUpTo : ℕ → List Member → Type 0
AreUpTo n [] = Unit {0}
AreUpTo n (m ∷ ms) = IsUpTo n m.conn × AreUpTo n ms

-- each member's connection is one of the first n
abbrev pub Housed : ℕ → Record → Type 0
Housed n r = AreUpTo n r.chat.members

up_to_more : (n k : ℕ) (ms : List Member) → n ≤ k → AreUpTo n ms → AreUpTo k ms
up_to_more n k [] le h = tt
up_to_more n k (m ∷ ms) le h = ((h.0.0, omega (arith, h.0.1)), up_to_more n k ms le h.1)

pub housed_more : (n k : ℕ) (r : Record) → n ≤ k → Housed n r → Housed k r
housed_more n k r le h = up_to_more n k r.chat.members le h

up_to_push : (n : ℕ) (ms : List Member) (m : Member) → AreUpTo n ms → IsUpTo n m.conn → AreUpTo n (ms ++ m ∷ [])
up_to_push n [] m h by = (by, tt)
up_to_push n (x ∷ ms) m h by = (h.0, up_to_push n ms m h.1 by)

up_to_filter : (n : ℕ) (test : Member → Bool) (ms : List Member) → AreUpTo n ms → AreUpTo n (filter test ms)
up_to_filter n test [] h = tt
up_to_filter n test (m ∷ ms) h = by (test m) refl (up_to_filter n test ms h.1)
  where
    by : (b : Bool) → test m ≡ b → AreUpTo n (filter test ms) → AreUpTo n (filter test (m ∷ ms))
    by true t more = rw t (h.0, more)
    by false t more = rw t more

ranked_up_to : (n : ℕ) (chat : ChatRecord) (id : List ℕ) (rank : Option ℕ) → AreUpTo n chat.members → AreUpTo n (with_rank chat id rank).members
ranked_up_to n chat id None h = h
ranked_up_to n chat id (Some rank) h = h

up_to_after : (n : ℕ) (groups : List Group) (chat : ChatRecord) (conn : ℕ) (badge : Badge) (moment : ℕ) (cmd : Command) → AreUpTo n chat.members → IsUpTo n conn → AreUpTo n (record_after groups chat conn badge moment cmd).members
up_to_after n groups chat conn badge moment (Join room) h by = up_to_push n chat.members (record { conn = conn; badge = kept groups badge }) h by
up_to_after n groups chat conn badge moment Leave h by = up_to_filter n (λ m. not (m.conn == conn)) chat.members h
up_to_after n groups chat conn badge moment Quit h by = up_to_filter n (λ m. not (m.conn == conn)) chat.members h
up_to_after n groups chat conn badge moment (Say text) h by = h
up_to_after n groups chat conn badge moment (Announce text) h by = h
up_to_after n groups chat conn badge moment (Modnote text) h by = h
up_to_after n groups chat conn badge moment (Warn id reason) h by = h
up_to_after n groups chat conn badge moment (Mute id reason) h by = h
up_to_after n groups chat conn badge moment (Unmute id) h by = h
up_to_after n groups chat conn badge moment (Ban id reason) h by = up_to_filter n (λ m. not (bytes_eq (id_of m.badge.name) id)) chat.members h
up_to_after n groups chat conn badge moment (Unban id) h by = h
up_to_after n groups chat conn badge moment (Promote id symbol) h by = ranked_up_to n chat id (rank_of symbol groups) h
up_to_after n groups chat conn badge moment (Modchat symbol) h by = h
up_to_after n groups chat conn badge moment (Choose choice rqid) h by = h
up_to_after n groups chat conn badge moment Undo h by = h
up_to_after n groups chat conn badge moment Forfeit h by = h

housed_by : (n : ℕ) (r : Record) (e : Entry) (v : Option Why) → verdict r e ≡ v → Housed n r → IsUpTo n e.conn → Housed n (after r e)
housed_by n r e (Some why) v h by = subst (Housed n) (sym (after_refused r e why v)) h
housed_by n r e None v h by = subst (Housed n) (sym (after_allowed r e v)) (up_to_after n r.opening.groups r.chat e.conn e.badge e.moment e.cmd h by)

pub housed_after : (n : ℕ) (r : Record) (e : Entry) → Housed n r → IsUpTo n e.conn → Housed n (after r e)
housed_after n r e h by = housed_by n r e (verdict r e) refl h by

none_up_to : (n conn : ℕ) (f : Member → Present) (same : (m : Member) → (f m).conn ≡ m.conn) (ms : List Member) → AreUpTo n ms → ((k : ℕ) → IsUpTo n k → (k == conn) ≡ false) → member conn (map f ms) ≡ None
none_up_to n conn f same [] h out = refl
none_up_to n conn f same (m ∷ ms) h out = rw (ap (λ k. k == conn) (same m) ∙ out m.conn h.0) (none_up_to n conn f same ms h.1 out)

-- a connection that is none of the first n is no member
pub not_housed : (n conn : ℕ) (r : Record) → Housed n r → ((k : ℕ) → IsUpTo n k → (k == conn) ≡ false) → member conn (presents_of r) ≡ None
not_housed n conn r h out = none_up_to n conn (present r.opening.groups r.chat.ranks) (λ m. refl) r.chat.members h out
