-- What the log has of a history, and what who joins is shown of it.
use Rattle.std.proofs.Common.{◌≡◌, ℕ, ◌-◌, ◌==◌, Bool, true, false, cond, List, [], ◌∷◌, ◌++◌, length, map, take, drop, Option, Some, None, refl, sym, ap, ◌∙◌, subst}
use Rattle.std.specs.Option.{option_map, option_to_list}
use Rattle.std.specs.List.{filter, filter_map}
use Rattle.std.proofs.lemmas.List.{append-nil, map-append, length-map, drop-map}
use Rattle.std.proofs.lemmas.List.Elements.{filter-append, filter_map-append}
use Rattle.std.proofs.lemmas.Grind.{flat_map-append}
use Rattle.std.proofs.Math.Seq.{take-length}
use Rattle.ps_base.specs.declared.why.Why.{Why}
use Rattle.rules_start.specs.declared.start.Start.{Start}
use Rattle.ps_event.specs.declared.audience.Audience.TheVariants as audiences
use Rattle.ps_event.specs.declared.event.Event.{Event}
use Rattle.ps_event.specs.Table.{is_logged}
use Rattle.ps_chat.specs.Lines.{Line}
use Rattle.ps_chat.specs.Lookups.{member}
use Rattle.ps_chat.specs.Rooms.{room_of}
use Rattle.ps_chat.specs.Told.{lines, joiner}
use Rattle.ps_chat.specs.declared.present.Present.{Present}
use Rattle.ps_view.specs.declared.role.Role.{Role}
use Rattle.ps_view.specs.Roles.{has_role}
use Rattle.battle_rounds.specs.Casts.{Cast, player_or_spectator, side_with_id}
use Rattle.battle_rounds.specs.Fights.{Fight, requests}
use Rattle.battle_rounds.specs.Rounds.{Outcome}
use Rattle.ps_base.specs.Ids.{id_of}
use Rattle.ps_splitlog.specs.declared.backlog.BacklogSize.TheVariants.{Last}
use Rattle.ps_splitlog.specs.declared.stored.Stored.{Stored}
use Rattle.ps_splitlog.specs.declared.stored.Stored.TheVariants.{Same}
use Rattle.ps_splitlog.specs.declared.entry.LogEntry.{LogEntry}
use Rattle.ps_splitlog.specs.Lines.{stored_of_event, stored_of_line, is_logged_line, shown_if, shown_lines}
use Rattle.ps_splitlog.specs.Entries as log
use Rattle.ps_splitlog.specs.Entries.{logged_in, size_of_keep, keep_of_size, last_of}
use Rattle.ps_room.specs.declared.entry.Entry.{Entry}
use Rattle.ps_room.specs.Openings.{Opening, cast_with, bout_with}
use Rattle.ps_room.specs.Tolds as logs
use Rattle.ps_room.specs.Tolds.{Logged}
use Rattle.ps_room.specs.Records.{Record, opened, presents_of, cast_in, logged_events}
use Rattle.ps_room.specs.Roles.{role_of_member}
use Rattle.ps_room.specs.Rooms.{verdict, sender_of, told, after, allowed_events, allowed_lines, chat_lines, events_by, lines_by, outcome_by, refused_line, logged_lines, logged_of, is_join, joiner_of, joined, joined_if, joined_or, shown_events, shown_item, shown_items, backlog_items, seen_texts, message, role}
use Rattle.ps_room.specs.Logs.{stored_in, backlog_size, join_of, kept_of, opened_log}
use Rattle.ps_room.proofs.AnswerLemmas.{after_allowed, after_refused}
use Rattle.ps_room.proofs.StoredLemmas.{stored_shown, stored_logged, row_logged, logs-append, requests_logged, events_logged, Logs, shown_of}
use Rattle.ps_splitlog.proofs.EventLemmas.{events_are_shown}
use Rattle.ps_room.proofs.CastLemmas.{cast_by}

-- ---- what is logged is in the log

abbrev AreTexts : List Logged → Type 0
AreTexts items = (texts : List (List ℕ)) × (items ≡ map logs.Text texts)

-- The log's logged lines are what the record has logged; of a room without a battle that is texts alone.
pub record IsLogOf (r : Record) (entries : List LogEntry) : Type 0 where
  pub lines_are : log.logged_lines entries ≡ filter_map (stored_logged (cast_in r.battle)) r.logged
  pub texts : cast_in r.battle ≡ None → AreTexts r.logged

-- the lines of an entry that is allowed
chat_logged : (cast : Option Cast) (r : Record) (e : Entry) → Logs cast (chat_lines r e)
unfolding lines
chat_logged cast r e = row_logged cast (room_of r.opening r.chat) (member e.conn (presents_of r)) (joiner (room_of r.opening r.chat) e.conn e.badge) e.moment e.cmd

lines_logged : (cast : Option Cast) (battle : Option Fight) (r : Record) (e : Entry) → Logs cast (lines_by battle (sender_of r e) e.cmd (chat_lines r e))
lines_logged cast None r e = chat_logged cast r e
lines_logged cast (Some f) r e =
    let after : Outcome = outcome_by f (sender_of r e) e.cmd in
    logs-append cast (chat_lines r e) (requests f.cast after.bout after.told) (chat_logged cast r e) (requests_logged cast f.cast after.bout after.told)

-- a room without a battle shows no event in its backlog
no_events : (told : List Event) → filter_map (stored_logged None) (logged_events told) ≡ []
no_events [] = refl
no_events (event ∷ rest) = by (is_logged event) refl (no_events rest)
  where
    by : (b : Bool) → is_logged event ≡ b → filter_map (stored_logged None) (logged_events rest) ≡ [] → filter_map (stored_logged None) (logged_events (event ∷ rest)) ≡ []
    by true is more = rw is more
    by false is more = rw is more

-- what is logged of events and lines
pub both_logged : (cast : Option Cast) (told : List Event) (ls : List Line) → Logs cast ls → filter is_logged_line (stored_in cast told ls) ≡ filter_map (stored_logged cast) (logged_of told ls)
both_logged None told ls is =
    is
    ∙ sym (ap (λ xs. xs ++ filter_map (stored_logged None) (logged_lines ls)) (no_events told))
    ∙ sym (filter_map-append (stored_logged None) (logged_events told) (logged_lines ls))
both_logged (Some c) told ls is =
    filter-append is_logged_line (filter_map (stored_of_event c.names c.dex) told) (map stored_of_line ls)
    ∙ ap (λ xs. xs ++ filter is_logged_line (map stored_of_line ls)) (events_logged c told)
    ∙ ap (λ xs. filter_map (stored_logged (Some c)) (logged_events told) ++ xs) is
    ∙ sym (filter_map-append (stored_logged (Some c)) (logged_events told) (logged_lines ls))

-- ---- of a room without a battle that is texts alone

texts_of_lines : (ls : List Line) → AreTexts (logged_lines ls)
texts_of_lines [] = ([], refl)
texts_of_lines (l ∷ ls) = by l.logged refl (texts_of_lines ls)
  where
    by : (b : Bool) → l.logged ≡ b → AreTexts (logged_lines ls) → AreTexts (logged_lines (l ∷ ls))
    by true is more = (l.text ∷ more.0, rw is (ap (λ xs. logs.Text l.text ∷ xs) more.1))
    by false is more = (more.0, rw is more.1)

texts_more : (xs ys : List Logged) → AreTexts xs → AreTexts ys → AreTexts (xs ++ ys)
texts_more xs ys one two = (one.0 ++ two.0, ap (λ zs. zs ++ ys) one.1 ∙ ap (λ zs. map logs.Text one.0 ++ zs) two.1 ∙ sym (map-append logs.Text one.0 two.0))

-- ---- it stays so

entry_logged_by : (r : Record) (e : Entry) (v : Option Why) → verdict r e ≡ v → filter_map (stored_logged (cast_in r.battle)) (after r e).logged ≡ filter_map (stored_logged (cast_in r.battle)) r.logged ++ logged_in (kept_of r e)
unfolding told
entry_logged_by r e (Some why) v =
    ap (λ (x : Record). filter_map (stored_logged (cast_in r.battle)) x.logged) (after_refused r e why v)
    ∙ sym (append-nil (filter_map (stored_logged (cast_in r.battle)) r.logged))
    ∙ ap (λ ls. filter_map (stored_logged (cast_in r.battle)) r.logged ++ ls) (sym (rw v (both_logged (cast_in r.battle) [] (refused_line e.conn why ∷ []) refl)))
entry_logged_by r e None v =
    ap (λ (x : Record). filter_map (stored_logged (cast_in r.battle)) x.logged) (after_allowed r e v)
    ∙ filter_map-append (stored_logged (cast_in r.battle)) r.logged (logged_of (allowed_events r e) (allowed_lines r e))
    ∙ ap (λ ls. filter_map (stored_logged (cast_in r.battle)) r.logged ++ ls) (sym (rw v (both_logged (cast_in r.battle) (allowed_events r e) (allowed_lines r e) (lines_logged (cast_in r.battle) r.battle r e))))

texts_by : (r : Record) (e : Entry) (v : Option Why) → verdict r e ≡ v → cast_in r.battle ≡ None → AreTexts r.logged → AreTexts (after r e).logged
texts_by r e (Some why) v none is = subst AreTexts (sym (ap (λ (x : Record). x.logged) (after_refused r e why v))) is
texts_by r e None v none is = subst AreTexts (sym (ap (λ (x : Record). x.logged) (after_allowed r e v))) (texts_more r.logged (logged_of (allowed_events r e) (allowed_lines r e)) is (of_entry r.battle none))
  where
    of_entry : (battle : Option Fight) → cast_in battle ≡ None → AreTexts (logged_of (events_by battle (sender_of r e) e.cmd) (lines_by battle (sender_of r e) e.cmd (chat_lines r e)))
    of_entry None none = texts_of_lines (chat_lines r e)
    of_entry (Some f) none = absurd (let wrong : Some f.cast ≡ None = none in cc)

pub log_after : (r : Record) (e : Entry) (entries : List LogEntry) → IsLogOf r entries → IsLogOf (after r e) (entries ++ kept_of r e ∷ [])
log_after r e entries is = record {
  lines_are =
      flat_map-append logged_in entries (kept_of r e ∷ [])
      ∙ ap (λ ls. log.logged_lines entries ++ ls) (append-nil (logged_in (kept_of r e)))
      ∙ ap (λ ls. ls ++ logged_in (kept_of r e)) is.lines_are
      ∙ sym (entry_logged_by r e (verdict r e) refl)
      ∙ ap (λ (cast : Option Cast). filter_map (stored_logged cast) (after r e).logged) (sym (cast_by r e (verdict r e) refl));
  texts = λ none. let before : cast_in r.battle ≡ None = sym (cast_by r e (verdict r e) refl) ∙ none in texts_by r e (verdict r e) refl before (is.texts before);
}

-- at the opening
opened_by : (o : Opening) (b : Option Start) → o.battle ≡ b → IsLogOf (opened o) (opened_log o.config o.dex b)
opened_by o None is = record {
  lines_are = rw is refl;
  texts = λ none. ([], rw is refl);
}
opened_by o (Some s) is =
    let c : Cast = cast_with o.config o.dex s in
    let told : List Event = (bout_with o.config s).told in
    record {
      lines_are = rw is (append-nil (filter is_logged_line (stored_in (Some c) told [])) ∙ both_logged (Some c) told [] refl ∙ ap (filter_map (stored_logged (Some c))) (append-nil (logged_events told)));
      texts = λ none. absurd (let wrong : Some c ≡ None = (rw is at none) in cc);
    }

pub opened_is : (o : Opening) → IsLogOf (opened o) (opened_log o.config o.dex o.battle)
opened_is o = opened_by o o.battle refl

-- ---- what who joins is shown of it

-- a member is shown a line of the chat that was logged
item_shown : (conn : ℕ) (role : Role) (cast : Option Cast) → has_role audiences.All role ≡ true → (item : Logged) → shown_if conn role (stored_logged cast item) ≡ shown_item cast role item
item_shown conn role cast inside (logs.Text text) = rw inside refl
item_shown conn role None inside (logs.Event event) = refl
item_shown conn role (Some c) inside (logs.Event event) = events_are_shown conn role c.names c.dex event

items_shown : (conn : ℕ) (role : Role) (cast : Option Cast) → has_role audiences.All role ≡ true → (items : List Logged) → shown_lines conn role (filter_map (stored_logged cast) items) ≡ shown_items cast role items
items_shown conn role cast inside items = shown_of conn role (stored_logged cast) (shown_item cast role) (item_shown conn role cast inside) items

side_inside : (side : Option ℕ) (rank : ℕ) → has_role audiences.All (player_or_spectator side rank) ≡ true
side_inside None rank = refl
side_inside (Some s) rank = refl

member_inside : (cast : Option Cast) (p : Present) → has_role audiences.All (role_of_member cast p) ≡ true
member_inside None p = refl
member_inside (Some c) p = side_inside (side_with_id c.names (id_of p.badge.name)) p.rank

-- the last hundred texts
hundred : (items : List Logged) → AreTexts items → last_of (Last 100) (filter_map (stored_logged None) items) ≡ filter_map (stored_logged None) (drop (length items - 100) items)
hundred items is = rw is.1 (
    ap (λ ls. drop (length ls - 100) ls) (all_texts is.0)
    ∙ ap (λ n. drop (n - 100) (map as_stored is.0)) (length-map is.0 as_stored ∙ sym (length-map is.0 logs.Text))
    ∙ drop-map as_stored (length (map logs.Text is.0) - 100) is.0
    ∙ sym (all_texts (drop (length (map logs.Text is.0) - 100) is.0))
    ∙ ap (filter_map (stored_logged None)) (sym (drop-map logs.Text (length (map logs.Text is.0) - 100) is.0)))
  where
    as_stored : List ℕ → Stored
    as_stored text = Same audiences.All true text

    all_texts : (texts : List (List ℕ)) → filter_map (stored_logged None) (map logs.Text texts) ≡ map as_stored texts
    all_texts [] = refl
    all_texts (text ∷ texts) = ap (λ ls. as_stored text ∷ ls) (all_texts texts)

last_are : (cast : Option Cast) (items : List Logged) → (cast ≡ None → AreTexts items) → last_of (backlog_size cast) (filter_map (stored_logged cast) items) ≡ filter_map (stored_logged cast) (backlog_items cast items)
last_are None items texts = hundred items (texts refl)
last_are (Some c) items texts = refl

-- a joiner's `keep` stands for the size that it was made of
pub size_is : (cast : Option Cast) → size_of_keep (keep_of_size (backlog_size cast)) ≡ backlog_size cast
size_is None = refl
size_is (Some c) = refl

backlog_shown : (conn : ℕ) (role : Role) (r : Record) (entries : List LogEntry) → IsLogOf r entries → has_role audiences.All role ≡ true
    → shown_lines conn role (last_of (size_of_keep (keep_of_size (backlog_size (cast_in r.battle)))) (log.logged_lines entries)) ≡ shown_items (cast_in r.battle) role (backlog_items (cast_in r.battle) (take (length r.logged) r.logged))
backlog_shown conn role r entries is inside =
    ap (λ size. shown_lines conn role (last_of size (log.logged_lines entries))) (size_is (cast_in r.battle))
    ∙ ap (λ ls. shown_lines conn role (last_of (backlog_size (cast_in r.battle)) ls)) is.lines_are
    ∙ ap (shown_lines conn role) (last_are (cast_in r.battle) r.logged is.texts)
    ∙ items_shown conn role (cast_in r.battle) inside (backlog_items (cast_in r.battle) r.logged)
    ∙ ap (λ items. shown_items (cast_in r.battle) role (backlog_items (cast_in r.battle) items)) (sym (take-length r.logged))

-- ---- the message of an entry

join_shown : (conn : ℕ) (r : Record) (e : Entry) (entries : List LogEntry) (texts : List (List ℕ)) (mine join : Bool) → IsLogOf r entries
    → log.joined_or conn (cond mine (option_map (join_of (cast_in r.battle)) (joined_if join r e)) None) (log.logged_lines entries) texts ≡ joined_or (cond mine (joined_if join r e) None) (cast_in r.battle) r.logged texts
join_shown conn r e entries texts true true is =
    ap (λ backlog. (joined r e).head ++ backlog ++ option_to_list (joined r e).request) (backlog_shown conn (joined r e).role r entries is (member_inside (cast_in r.battle) (joiner_of r e)))
join_shown conn r e entries texts true false is = refl
join_shown conn r e entries texts false join is = refl

not_joined : (conn : ℕ) (cast : Option Cast) (before : List Stored) (items : List Logged) (texts : List (List ℕ)) (mine : Bool) → log.joined_or conn (cond mine None None) before texts ≡ joined_or (cond mine None None) cast items texts
not_joined conn cast before items texts true = refl
not_joined conn cast before items texts false = refl

message_by : (conn : ℕ) (r : Record) (e : Entry) (entries : List LogEntry) (v : Option Why) → verdict r e ≡ v → IsLogOf r entries → log.message_of conn (role conn r) (log.logged_lines entries) (kept_of r e) ≡ message conn r e
unfolding told
message_by conn r e entries (Some why) v is =
    rw v (ap (log.joined_or conn (cond (conn == e.conn) None None) (log.logged_lines entries)) (stored_shown conn (role conn r) (cast_in r.battle) [] (refused_line e.conn why ∷ []))
    ∙ not_joined conn (cast_in r.battle) (log.logged_lines entries) r.logged (shown_events (cast_in r.battle) (role conn r) [] ++ seen_texts conn (role conn r) (refused_line e.conn why ∷ [])) (conn == e.conn))
message_by conn r e entries None v is =
    rw v (ap (log.joined_or conn (cond (conn == e.conn) (option_map (join_of (cast_in r.battle)) (joined_if (is_join e.cmd) r e)) None) (log.logged_lines entries)) (stored_shown conn (role conn r) (cast_in r.battle) (allowed_events r e) (allowed_lines r e))
    ∙ join_shown conn r e entries (shown_events (cast_in r.battle) (role conn r) (allowed_events r e) ++ seen_texts conn (role conn r) (allowed_lines r e)) (conn == e.conn) (is_join e.cmd) is)

-- what a connection is sent at an entry is what the log says
pub message_is : (conn : ℕ) (r : Record) (e : Entry) (entries : List LogEntry) → IsLogOf r entries → log.message_of conn (role conn r) (log.logged_lines entries) (kept_of r e) ≡ message conn r e
message_is conn r e entries is = message_by conn r e entries (verdict r e) refl is
