-- What a room keeps of an entry.
use Rattle.std.proofs.Common.{◌≡◌, ℕ, ◌+◌, ◌<◌, List, [], ◌∷◌, ◌++◌, length, map, take, drop, get_or, set, Option, Some, None, refl, sym, ap, ◌∙◌, subst, add-one}
use Rattle.ps_base.specs.declared.why.Why.{Why}
use Rattle.ps_chat.proofs.FindLemmas.{changed, unchanged}
use Rattle.ps_chat.specs.Steps.{Seen as ChatSeen}
use Rattle.ps_chat.specs.Changes.{record_after}
use Rattle.ps_chat.specs.Lookups.{member}
use Rattle.ps_chat.specs.Rooms.{presents}
use Rattle.ps_chat.specs.declared.present.Present.{Present}
use Rattle.ps_splitlog.specs.declared.entry.Joined.{Joined}
use Rattle.ps_view.specs.declared.role.Role.{Role}
use Rattle.battle_rounds.specs.Casts.{Cast}
use Rattle.ps_lines.specs.declared.command.Command.{Command}
use Rattle.ps_event.specs.declared.event.Event.{Event}
use Rattle.battle_rounds.specs.declared.bout.Bout.{Bout}
use Rattle.battle_rounds.specs.declared.decision.Decision.{Decision}
use Rattle.battle_rounds.specs.Rounds.{Outcome, ended}
use Rattle.battle_rounds.specs.Fights.{Fight, requests}
use Rattle.ps_chat.specs.Lines.{Line}
use Rattle.ps_splitlog.specs.Lines.{stored_of_line}
use Rattle.ps_splitlog.specs.declared.entry.LogEntry.{LogEntry}
use Rattle.ps_room.specs.declared.entry.Entry.{Entry}
use Rattle.ps_room.specs.Records.{Record, presents_of, cast_in}
use Rattle.ps_room.specs.Rooms.{verdict, sender_of, chat_lines, told, refused_line, events_by, lines_by, IsDecided, CanDecideIn, events_from, lines_from, battle_from, with_bout, CanGoOn, IsIdle, allowed_events, allowed_lines, is_join, applied, battle_after}
use Rattle.ps_room.specs.Logs.{Seen, record_in, with_log, seen_after, state_after, change_in, change_to, changed_conn, touched_by, stored_in, join_if, given, kept_of, ending_of, ending_by, ending_from, out_of, Goes, MakesNone}
use Rattle.ps_room.specs.declared.outcome.Ending.{Ending}
use Rattle.ps_room.specs.declared.outcome.Verdict.TheVariants.{Applied}
use Rattle.ps_room.proofs.AnswerLemmas.{after_allowed, after_refused, out_allowed}

-- ---- lists

-- the next item of a list is changed by f
pub set_next : {A : Type 0} (f : A → A) (xs ys : List A) (i : ℕ) (d v : A) → i < length xs → ys ≡ map f (take i xs) ++ drop i xs → v ≡ f (get_or ys i d) → set ys i v ≡ map f (take (i + 1) xs) ++ drop (i + 1) xs
set_next f xs ys i d v lt so is =
    let item : get_or ys i d ≡ get_or xs i d = ap (λ zs. get_or zs i d) so ∙ unchanged f xs i d lt in
    rw (add-one, so) (ap (set (map f (take i xs) ++ drop i xs) i) (is ∙ ap f item) ∙ changed f xs i d lt)

map_twice : {A B C : Type 0} (f : A → B) (g : B → C) (xs : List A) → map (λ x. g (f x)) xs ≡ map g (map f xs)
map_twice f g [] = refl
map_twice f g (x ∷ xs) = ap (λ ys. g (f x) ∷ ys) (map_twice f g xs)

-- ---- entries

-- an entry with the roles that it gives
abbrev pub with_roles : LogEntry → List (ℕ × Role) → LogEntry
with_roles h roles = record h { roles = roles }

plain_stored : (cast : Option Cast) (ls : List Line) → map stored_of_line ls ≡ stored_in cast [] ls
plain_stored None ls = refl
plain_stored (Some c) ls = refl

-- what a refused entry gives
pub given_refused : (r : Record) (e : Entry) (why : Why) → verdict r e ≡ Some why → record { conn = e.conn; lines = map stored_of_line (refused_line e.conn why ∷ []); join = None; roles = [] } ≡ given r e
unfolding told
given_refused r e why v = rw (v, plain_stored (cast_in r.battle) (refused_line e.conn why ∷ [])) refl

-- and an allowed one
pub given_allowed : (r : Record) (e : Entry) → verdict r e ≡ None → record { conn = e.conn; lines = stored_in (cast_in r.battle) (allowed_events r e) (allowed_lines r e); join = join_if (is_join e.cmd) r e; roles = [] } ≡ given r e
unfolding told
given_allowed r e v = rw v refl

-- ---- by the parts of a room, and by what the command comes to at the battle

pub can_decide : (battle : Option Fight) (me : Option Present) (cmd : Command) (d : Decision) → IsDecided battle me cmd d → CanDecideIn battle d
can_decide None me cmd d is = tt
can_decide (Some f) me cmd d is = is.0

events_same : (battle : Option Fight) (me : Option Present) (cmd : Command) (d : Decision) → IsDecided battle me cmd d → events_from battle d ≡ events_by battle me cmd
events_same None me cmd d is = refl
events_same (Some f) me cmd d is = ap (λ (o : Outcome). o.told) is.1

lines_same : (battle : Option Fight) (me : Option Present) (cmd : Command) (d : Decision) (ls : List Line) → IsDecided battle me cmd d → lines_from battle d ls ≡ lines_by battle me cmd ls
lines_same None me cmd d ls is = refl
lines_same (Some f) me cmd d ls is = ap (λ (o : Outcome). ls ++ requests f.cast o.bout o.told) is.1

ending_same : (battle : Option Fight) (me : Option Present) (cmd : Command) (d : Decision) → IsDecided battle me cmd d → ending_from battle d ≡ ending_by battle me cmd
ending_same None me cmd d is = refl
ending_same (Some f) me cmd d is = ap (λ (o : Outcome). ending_of f.number (ended f.bout.battle.phase o.bout.battle.phase)) is.1

battle_same : (battle : Option Fight) (me : Option Present) (cmd : Command) (d : Decision) → IsDecided battle me cmd d → battle_from battle d ≡ battle_after battle me cmd
battle_same None me cmd d is = refl
battle_same (Some f) me cmd d is = ap (λ (o : Outcome). Some (record f { bout = o.bout })) is.1

-- what an allowed entry gives
pub given_by_parts : (s : Seen) (e : Entry) (battle : Option Fight) (d : Decision) (ls : List Line) (join : Option Joined) → verdict (record_in s) e ≡ None
    → battle ≡ s.battle → IsDecided s.battle (sender_of (record_in s) e) e.cmd d → ls ≡ chat_lines (record_in s) e → join ≡ join_if (is_join e.cmd) (record_in s) e
    → record { conn = e.conn; lines = stored_in (cast_in battle) (events_from battle d) (lines_from battle d ls); join = join; roles = [] } ≡ given (record_in s) e
given_by_parts s e battle d ls join v b is l j =
    let me : Option Present = sender_of (record_in s) e in
    rw (b, l, j) (
    ap (λ (events : List Event). record { conn = e.conn; lines = stored_in (cast_in s.battle) events (lines_from s.battle d (chat_lines (record_in s) e)); join = join_if (is_join e.cmd) (record_in s) e; roles = [] }) (events_same s.battle me e.cmd d is)
    ∙ ap (λ (lines : List Line). record { conn = e.conn; lines = stored_in (cast_in s.battle) (events_by s.battle me e.cmd) lines; join = join_if (is_join e.cmd) (record_in s) e; roles = [] }) (lines_same s.battle me e.cmd d (chat_lines (record_in s) e) is)
    ∙ given_allowed (record_in s) e v
    )

-- and its answer
pub out_by_parts : (s : Seen) (e : Entry) (battle : Option Fight) (d : Decision) → verdict (record_in s) e ≡ None
    → battle ≡ s.battle → IsDecided s.battle (sender_of (record_in s) e) e.cmd d
    → record { verdict = Applied; ended = ending_from battle d } ≡ out_of (record_in s) e
out_by_parts s e battle d v b is =
    ap (λ (x : Option Fight). record { verdict = Applied; ended = ending_from x d }) b
    ∙ ap (λ (end : Option Ending). record { verdict = Applied; ended = end }) (ending_same s.battle (sender_of (record_in s) e) e.cmd d is)
    ∙ out_allowed (record_in s) e v

-- and how its battle goes on
pub goes_by_parts : (s : Seen) (e : Entry) (battle : Option Fight) (d : Decision) (next : Option Bout)
    → battle ≡ s.battle → IsDecided s.battle (sender_of (record_in s) e) e.cmd d → with_bout battle next ≡ battle_from battle d → CanGoOn battle next
    → Goes s e next
goes_by_parts s e battle d next b is made on = record {
  after = λ v. ap (λ (x : Option Fight). with_bout x next) (sym b) ∙ made ∙ ap (λ (x : Option Fight). battle_from x d) b ∙ battle_same s.battle (sender_of (record_in s) e) e.cmd d is;
  bout = λ v. subst (λ (x : Option Fight). CanGoOn x next) b on;
}

idle_none : (battle : Option Fight) → IsIdle battle None
idle_none None = refl
idle_none (Some f) = tt

-- no rounds are none, whatever the entry is
pub still_none : (s : Seen) (e : Entry) → MakesNone s e None
still_none s e = record { refused = λ why v. refl; idle = idle_none s.battle }

-- an allowed entry in a room without a battle makes none
pub none_by_parts : (s : Seen) (e : Entry) (battle : Option Fight) (next : Option Bout) → verdict (record_in s) e ≡ None → battle ≡ s.battle → IsIdle battle next → MakesNone s e next
none_by_parts s e battle next v b plain = record {
  refused = λ why x. absurd (let wrong : None ≡ Some why = sym v ∙ x in cc);
  idle = subst (λ (x : Option Fight). IsIdle x next) b plain;
}

-- a refused entry changes nothing, and no role
pub state_refused : (s : Seen) (e : Entry) (why : Why) → verdict (record_in s) e ≡ Some why → s ≡ state_after s e
state_refused s e why v = ap (λ (x : Record). record { no = s.no; id = s.id; opening = x.opening; chat = x.chat; battle = x.battle; log = s.log }) (sym (after_refused (record_in s) e why v))

pub roles_refused : (r : Record) (e : Entry) (why : Why) → verdict r e ≡ Some why → [] ≡ (kept_of r e).roles
roles_refused r e why v = rw v refl

-- a room with these parts
abbrev pub room_with : ℕ → List ℕ → ChatSeen → Option Fight → List LogEntry → Seen
room_with number id chat battle log = record { no = number; id = id; opening = chat.opening; chat = chat.state; battle = battle; log = log }

abbrev pub chat_after : ChatSeen → Entry → ChatSeen
chat_after chat e = record chat { state = record_after chat.opening.groups chat.state e.conn e.badge e.moment e.cmd }

-- the parts of a room after an entry that is allowed
pub state_applied : (number : ℕ) (id : List ℕ) (old new : ChatSeen) (battle next : Option Fight) (e : Entry)
    → verdict (record_in (room_with number id old battle [])) e ≡ None
    → new ≡ chat_after old e
    → next ≡ battle_after battle (member e.conn (presents old.opening old.state)) e.cmd
    → room_with number id new next [] ≡ state_after (room_with number id old battle []) e
state_applied number id old new battle next e v moved went =
    let r : Record = record_in (room_with number id old battle []) in
    ap (λ (chat : ChatSeen). room_with number id chat next []) moved
    ∙ ap (λ (b : Option Fight). room_with number id (chat_after old e) b []) went
    ∙ ap (λ (x : Record). record { no = number; id = id; opening = x.opening; chat = x.chat; battle = x.battle; log = [] }) (sym (after_allowed r e v))

-- and the roles that it gives
pub roles_applied : (number : ℕ) (id : List ℕ) (old new : ChatSeen) (battle next : Option Fight) (e : Entry) (unset changes : List (ℕ × Role))
    → verdict (record_in (room_with number id old battle [])) e ≡ None
    → new ≡ chat_after old e
    → next ≡ battle_after battle (member e.conn (presents old.opening old.state)) e.cmd
    → map changed_conn unset ≡ touched_by e.cmd (presents old.opening old.state) e.conn
    → changes ≡ map (λ c. change_in (cast_in next) new.opening new.state (changed_conn c)) unset
    → changes ≡ (kept_of (record_in (room_with number id old battle [])) e).roles
roles_applied number id old new battle next e unset changes v moved went touch these =
    these
    ∙ ap (λ (chat : ChatSeen). map (λ c. change_in (cast_in next) chat.opening chat.state (changed_conn c)) unset) moved
    ∙ ap (λ (b : Option Fight). map (λ c. change_in (cast_in b) old.opening (chat_after old e).state (changed_conn c)) unset) went
    ∙ map_twice changed_conn (change_to (applied r e)) unset
    ∙ ap (map (change_to (applied r e))) touch
    ∙ roles
  where
    r : Record
    r = record_in (room_with number id old battle [])

    roles : map (change_to (applied r e)) (touched_by e.cmd (presents_of r) e.conn) ≡ (kept_of r e).roles
    roles = rw v (ap (λ (x : Record). map (change_to x) (touched_by e.cmd (presents_of r) e.conn)) (sym (after_allowed r e v)))

-- ---- a room with its log

-- what an entry gives, with the roles that hold after it, is what the log has of it
pub logged_so : (s : Seen) (log : List LogEntry) (e : Entry) (h : LogEntry) (roles : List (ℕ × Role)) (state : Seen) → h ≡ given (record_in s) e → roles ≡ (kept_of (record_in s) e).roles → state ≡ state_after s e
    → with_log (log ++ record h { roles = roles } ∷ []) state ≡ seen_after (with_log log s) e
logged_so s log e h roles state is these went =
    ap (λ (x : LogEntry). with_log (log ++ record x { roles = roles } ∷ []) state) is
    ∙ ap (λ (x : List (ℕ × Role)). with_log (log ++ record (given (record_in s) e) { roles = x } ∷ []) state) these
    ∙ ap (with_log (log ++ kept_of (record_in s) e ∷ [])) went

-- a log is nothing to how a battle goes on
pub goes_unlogged : (s : Seen) (log : List LogEntry) (e : Entry) (b : Option Bout) → Goes s e b → Goes (with_log log s) e b
goes_unlogged s log e b goes = record { after = goes.after; bout = goes.bout }

pub goes_apart : (s : Seen) (log : List LogEntry) (e : Entry) (b : Option Bout) → Goes (with_log log s) e b → Goes s e b
goes_apart s log e b goes = record { after = goes.after; bout = goes.bout }

pub none_unlogged : (s : Seen) (log : List LogEntry) (e : Entry) (b : Option Bout) → MakesNone s e b → MakesNone (with_log log s) e b
none_unlogged s log e b makes = record { refused = makes.refused; idle = makes.idle }
