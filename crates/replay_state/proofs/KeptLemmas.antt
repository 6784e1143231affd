-- What a replay keeps of a room.
use Rattle.std.proofs.Common.{◌≡◌, ℕ, ◌==◌, Bool, true, false, cond, List, [], ◌∷◌, ◌++◌, Option, Some, None, Result, Ok, Err, OnErr, refl, sym, ap, ◌∙◌, append_assoc}
use Rattle.std.specs.Prelude.{nat_lt}
use Rattle.std.specs.Option.{option_map}
use Rattle.std.proofs.lemmas.Grind.{flat_map-append}
use Rattle.std.proofs.lemmas.List.{append-nil}
use Rattle.std.proofs.lemmas.Option.{same_Some}
use Rattle.battle_rounds.specs.Casts.{Cast}
use Rattle.ps_splitlog.specs.declared.backlog.BacklogSize.{BacklogSize}
use Rattle.ps_splitlog.specs.declared.backlog.BacklogSize.TheVariants.{All, Last}
use Rattle.ps_splitlog.specs.declared.entry.LogEntry.{LogEntry}
use Rattle.ps_splitlog.specs.declared.entry.Joined.{Joined as LogJoined}
use Rattle.ps_splitlog.specs.declared.stored.Stored.{Stored}
use Rattle.ps_splitlog.specs.Entries.{logged_in, logged_lines, size_of_keep, keep_of_size, last_of, message_of}
use Rattle.ps_splitlog.specs.Shorts.{Short, with_entry, taken_back, gone_of, forgotten, lines_of, fewer, IsFew}
use Rattle.ps_splitlog.proofs.ShortLemmas.{last_again, few_message}
use Rattle.ps_splitlog.proofs.IndexLemmas.{front}
use Rattle.ps_room.specs.declared.entry.Entry.{Entry}
use Rattle.ps_room.specs.Openings.{Opening}
use Rattle.ps_room.specs.Tolds.{Joined}
use Rattle.ps_room.specs.Records.{Record, cast_in}
use Rattle.ps_room.specs.Rooms.{verdict, told, role}
use Rattle.ps_room.specs.Logs.{Seen, backlog_size, join_of, record_in, given, kept_of, unlogged, opened_log, seen_opened, seen_after, state_after}
use Rattle.ps_room.proofs.CastLemmas.{cast_by}
use Rattle.ps_room.proofs.LogLemmas.{size_is}
use Rattle.replay_state.specs.Kepts.{Kept, kept, kept_opened, kept_after}
use Rattle.replay_state.specs.Houses.{next_message}

-- one entry more
pub kept_more : (s : Seen) (e : Entry) → kept (seen_after s e) ≡ kept_after (kept s) e
kept_more s e =
    let h : LogEntry = kept_of (record_in s) e in
    let m : BacklogSize = backlog_size (cast_in s.battle) in
    ap (λ n. record { room = unlogged (seen_after s e); most = n; backlog = last_of n (logged_lines (s.log ++ h ∷ [])) }) (ap backlog_size (cast_by (record_in s) e (verdict (record_in s) e) refl))
    ∙ ap (λ (ls : List Stored). record { room = unlogged (seen_after s e); most = m; backlog = ls }) (
    ap (last_of m) (flat_map-append logged_in s.log (h ∷ []) ∙ ap (λ (ls : List Stored). logged_lines s.log ++ ls) (append-nil (logged_in h)))
    ∙ sym (last_again m (logged_lines s.log) (logged_in h)))

-- ---- who joins is sent no more lines than are kept

fewer_same : (size : BacklogSize) → fewer size size ≡ size
fewer_same All = refl
fewer_same (Last m) = by (nat_lt m m)
  where
    by : (less : Bool) → Last (cond less m m) ≡ Last m
    by true = refl
    by false = refl

few_of_cast : (cast : Option Cast) → fewer (size_of_keep (keep_of_size (backlog_size cast))) (backlog_size cast) ≡ size_of_keep (keep_of_size (backlog_size cast))
few_of_cast cast = rw (size_is cast) (fewer_same (backlog_size cast))

few_by : (cast : Option Cast) (mine : Bool) (o : Option Joined) (j : LogJoined) → cond mine (option_map (join_of cast) o) None ≡ Some j → fewer (size_of_keep j.keep) (backlog_size cast) ≡ size_of_keep j.keep
few_by cast true (Some x) j is = rw (sym (same_Some (join_of cast x) j is)) (few_of_cast cast)
few_by cast true None j is = absurd cc
few_by cast false o j is = absurd cc

given_few : (r : Record) (e : Entry) → IsFew (backlog_size (cast_in r.battle)) (given r e)
given_few r e conn j is = few_by (cast_in r.battle) (conn == e.conn) (told r e).joined j is

-- so it is sent what it is sent of the room with its log
pub message_kept : (conn : ℕ) (s : Seen) (e : Entry) → next_message conn (kept s) (given (record_in s) e) ≡ message_of conn (role conn (record_in s)) (logged_lines s.log) (given (record_in s) e)
unfolding next_message
message_kept conn s e = few_message conn (role conn (record_in s)) (backlog_size (cast_in s.battle)) (logged_lines s.log) (given (record_in s) e) (given_few (record_in s) e)

-- ---- the code's log

lines_gone : (most : BacklogSize) (backlog : List Stored) (gone : ℕ) (hs : List LogEntry) → lines_of (gone_of most backlog gone hs) ≡ last_of most (backlog ++ logged_lines hs)
lines_gone most backlog gone [] = refl
lines_gone most backlog gone (h ∷ hs) =
    last_again most (backlog ++ logged_in h) (logged_lines hs)
    ∙ ap (last_of most) (append_assoc backlog (logged_in h) (logged_lines hs))

most_gone : (most : BacklogSize) (backlog : List Stored) (gone : ℕ) (hs : List LogEntry) → (gone_of most backlog gone hs).most ≡ most
most_gone most backlog gone [] = refl
most_gone most backlog gone (h ∷ hs) = refl

-- with this log
abbrev pub kept_with : Seen → Short → Kept
kept_with room log = record { room = room; most = log.most; backlog = lines_of log }

lines_pushed : (s : Short) (h : LogEntry) → lines_of (with_entry h s) ≡ last_of s.most (lines_of s ++ logged_in h)
lines_pushed s h =
    ap (λ (ls : List Stored). last_of s.most (s.backlog ++ ls)) (flat_map-append logged_in s.kept (h ∷ []) ∙ ap (λ (ls : List Stored). logged_lines s.kept ++ ls) (append-nil (logged_in h)))
    ∙ ap (last_of s.most) (sym (append_assoc s.backlog (logged_lines s.kept) (logged_in h)))
    ∙ sym (last_again s.most (s.backlog ++ logged_lines s.kept) (logged_in h))

-- a room with this log at its opening
pub kept_new : (o : Opening) (state : Seen) (log : Short) (most : BacklogSize) (first : List LogEntry) → state ≡ unlogged (seen_opened o) → most ≡ backlog_size (cast_in state.battle) → first ≡ opened_log o.config o.dex o.battle
    → log.most ≡ most → lines_of log ≡ last_of most (logged_lines first) → kept_with state log ≡ kept_opened o
kept_new o state log most first s m f is lines =
    let size : BacklogSize = backlog_size (cast_in (seen_opened o).battle) in
    let same : most ≡ size = m ∙ ap (λ (x : Seen). backlog_size (cast_in x.battle)) s in
    ap (λ (x : Seen). kept_with x log) s
    ∙ ap (λ n. record { room = unlogged (seen_opened o); most = n; backlog = lines_of log }) (is ∙ same)
    ∙ ap (λ (ls : List Stored). record { room = unlogged (seen_opened o); most = size; backlog = ls }) (
    lines
    ∙ ap (λ n. last_of n (logged_lines first)) same
    ∙ ap (λ (hs : List LogEntry). last_of size (logged_lines hs)) f)

-- a call that failed leaves what is so in any case
pub at_fault : {X E P : Type 0} (r : Result X E) → P → OnErr r P
at_fault (Ok v) p = tt
at_fault (Err e) p = p

-- what is forgotten is nothing to what is kept,
pub kept_same : (room : Seen) (old new : Short) → new ≡ forgotten old → kept_with room new ≡ kept_with room old
kept_same room old new is =
    ap (kept_with room) is
    ∙ ap (λ n. record { room = room; most = n; backlog = lines_of (forgotten old) }) (most_gone old.most old.backlog old.gone old.kept)
    ∙ ap (λ (ls : List Stored). record { room = room; most = old.most; backlog = ls }) (lines_gone old.most old.backlog old.gone old.kept)

-- nor is an entry that is taken back
pub backlog_items : (room : Seen) (old gone more new : Short) (h : LogEntry) → gone ≡ forgotten old → more ≡ with_entry h gone → new ≡ taken_back more → kept_with room new ≡ kept_with room old
backlog_items room old gone more new h g m is =
    ap (kept_with room) (is ∙ ap taken_back m)
    ∙ ap (λ (hs : List LogEntry). record { room = room; most = gone.most; backlog = last_of gone.most (gone.backlog ++ logged_lines hs) }) (front gone.kept h)
    ∙ kept_same room old gone g

-- and an entry that is put behind the others is as the next one
pub kept_next : (room state : Seen) (old gone more : Short) (e : Entry) (h : LogEntry) → gone ≡ forgotten old → more ≡ with_entry h gone → h ≡ given (record_in room) e → state ≡ state_after room e
    → kept_with state more ≡ kept_after (kept_with room old) e
kept_next room state old gone more e h g m is went =
    let given_entry : LogEntry = given (record_in room) e in
    ap (λ (s : Seen). kept_with s more) went
    ∙ ap (kept_with (state_after room e)) (m ∙ ap (λ (x : LogEntry). with_entry x gone) is)
    ∙ ap (λ (ls : List Stored). record { room = state_after room e; most = gone.most; backlog = ls }) (lines_pushed gone given_entry)
    ∙ ap (λ (k : Kept). record { room = state_after room e; most = k.most; backlog = last_of k.most (k.backlog ++ logged_in given_entry) }) (kept_same room old gone g)
