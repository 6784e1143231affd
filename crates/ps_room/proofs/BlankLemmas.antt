-- A record without what was logged: a room makes the same of an entry, and tells the same of it.
use Rattle.std.proofs.Common.{◌≡◌, ℕ, Bool, true, false, List, [], ◌∷◌, ◌++◌, map, Option, Some, None, refl, ap, ◌∙◌}
use Rattle.ps_base.specs.declared.why.Why.{Why}
use Rattle.ps_room.specs.declared.entry.Entry.{Entry}
use Rattle.ps_splitlog.specs.declared.entry.LogEntry.{LogEntry}
use Rattle.battle_rounds.specs.Casts.{Cast}
use Rattle.ps_room.specs.Records.{Record, cast_in}
use Rattle.ps_room.specs.Rooms.{verdict, told, told_by, joined_if, is_join, allowed_events, allowed_lines, after, after_by}
use Rattle.ps_room.specs.Logs.{Seen, seen_after, touched, touched_if, change_to, log_entry_with, join_of, stored_in, kept_of, given, out_by, out_of}
use Rattle.ps_view.specs.declared.role.Role.{Role}
use Rattle.std.specs.Option.{option_map}

-- a record without what was logged
abbrev pub blank : Record → Record
blank r = record r { logged = [] }

-- a room with this record and this log
abbrev pub seen_with : ℕ → List ℕ → Record → List LogEntry → Seen
seen_with number id r log = record { no = number; id = id; opening = r.opening; chat = r.chat; battle = r.battle; log = log }

pub blank_verdict : (r : Record) (e : Entry) → verdict (blank r) e ≡ verdict r e
unfolding verdict
blank_verdict r e = refl

blank_out_by : (r : Record) (e : Entry) (v : Option Why) → out_by v (blank r) e ≡ out_by v r e
blank_out_by r e (Some why) = refl
blank_out_by r e None = refl

pub blank_out : (r : Record) (e : Entry) → out_of (blank r) e ≡ out_of r e
unfolding out_of verdict
blank_out r e = blank_out_by r e (verdict r e)

blank_after_by : (r : Record) (e : Entry) (v : Option Why) → blank (after_by v (blank r) e) ≡ blank (after_by v r e)
blank_after_by r e (Some why) = refl
blank_after_by r e None = refl

pub blank_after : (r : Record) (e : Entry) → blank (after (blank r) e) ≡ blank (after r e)
unfolding after verdict
blank_after r e = blank_after_by r e (verdict r e)

-- ---- what is kept

blank_joined : (cast : Option Cast) (r : Record) (e : Entry) (join : Bool) → option_map (join_of cast) (joined_if join (blank r) e) ≡ option_map (join_of cast) (joined_if join r e)
blank_joined cast r e true = refl
blank_joined cast r e false = refl

blank_log_entry_by : (r : Record) (e : Entry) (roles : List (ℕ × Role)) (v : Option Why) → log_entry_with (cast_in r.battle) e.conn (told_by v (blank r) e) roles ≡ log_entry_with (cast_in r.battle) e.conn (told_by v r e) roles
blank_log_entry_by r e roles (Some why) = refl
blank_log_entry_by r e roles None = ap (λ join. record { conn = e.conn; lines = stored_in (cast_in r.battle) (allowed_events r e) (allowed_lines r e); join = join; roles = roles }) (blank_joined (cast_in r.battle) r e (is_join e.cmd))

blank_log_entry : (r : Record) (e : Entry) (roles : List (ℕ × Role)) → log_entry_with (cast_in r.battle) e.conn (told (blank r) e) roles ≡ log_entry_with (cast_in r.battle) e.conn (told r e) roles
unfolding told verdict
blank_log_entry r e roles = blank_log_entry_by r e roles (verdict r e)

pub blank_given : (r : Record) (e : Entry) → given (blank r) e ≡ given r e
blank_given r e = blank_log_entry r e []

blank_touched_by : (r : Record) (e : Entry) (v : Option Why) → touched_if v (blank r) e ≡ touched_if v r e
blank_touched_by r e (Some why) = refl
blank_touched_by r e None = refl

blank_touched : (r : Record) (e : Entry) → touched (blank r) e ≡ touched r e
unfolding verdict
blank_touched r e = blank_touched_by r e (verdict r e)

-- the roles after an entry, too
blank_changes : (r : Record) (e : Entry) → map (change_to (after (blank r) e)) (touched (blank r) e) ≡ map (change_to (after r e)) (touched r e)
blank_changes r e =
    ap (map (change_to (after (blank r) e))) (blank_touched r e)
    ∙ ap (λ (x : Record). map (change_to x) (touched r e)) (blank_after r e)

pub blank_kept : (r : Record) (e : Entry) → kept_of (blank r) e ≡ kept_of r e
blank_kept r e =
    ap (log_entry_with (cast_in r.battle) e.conn (told (blank r) e)) (blank_changes r e)
    ∙ blank_log_entry r e (map (change_to (after r e)) (touched r e))

-- ---- a room after an entry

pub seen_step : (number : ℕ) (id : List ℕ) (r : Record) (log : List LogEntry) (e : Entry) → seen_after (seen_with number id r log) e ≡ seen_with number id (after r e) (log ++ kept_of r e ∷ [])
seen_step number id r log e =
    ap (λ (x : Record). record { no = number; id = id; opening = x.opening; chat = x.chat; battle = x.battle; log = log ++ kept_of (blank r) e ∷ [] }) (blank_after r e)
    ∙ ap (λ (h : LogEntry). seen_with number id (after r e) (log ++ h ∷ [])) (blank_kept r e)
