-- A staff note that a connection doesn't see may as well be missing, and so may a whisper of others.
use Rattle.std.proofs.Common.{◌≡◌, ℕ, ◌==◌, true, false, cond, List, [], ◌∷◌, ◌++◌, Option, Some, None, refl, sym, ap, subst, ◌∙◌}
use Rattle.std.proofs.lemmas.Bool.{or_parts}
use Rattle.std.proofs.lemmas.Cmp.{nat_eq_equiv}
use Rattle.ps_base.specs.declared.badge.Badge.{Badge}
use Rattle.ps_base.specs.declared.why.Why.{Why}
use Rattle.ps_base.specs.declared.hall_why.HallWhy.{HallWhy}
use Rattle.ps_lines.specs.declared.command.Command.{Command}
use Rattle.ps_lines.specs.declared.command.Command.TheVariants.{Modnote}
use Rattle.ps_lines.specs.declared.command.HallCmd.{HallCmd}
use Rattle.ps_lines.specs.declared.command.HallCmd.TheVariants.{Whisper}
use Rattle.ps_room.specs.declared.entry.Entry.{Entry}
use Rattle.ps_room.specs.Records.{Record, opened}
use Rattle.ps_room.specs.Rooms.{verdict, after, run_record}
use Rattle.ps_room.specs.Stories.{story}
use Rattle.ps_room.specs.Unseen.{sees_notes}
use Rattle.ps_room.proofs.AnswerLemmas.{after_refused}
use Rattle.ps_room.proofs.UnseenLemmas.{note_unseen}
use Rattle.ps_hall.specs.declared.entry.HallEntry.{HallEntry}
use Rattle.ps_hall.specs.Records.{Record as Hall}
use Rattle.ps_hall.specs.Lookups.{badge_of}
use Rattle.ps_hall.specs.Steps.{applied, after_by as hall_after_by}
use Rattle.ps_hall.specs.Halls.{verdict as hall_verdict, after as hall_after, after_by as verdict_after_by, run_record as hall_run}
use Rattle.ps_laws.specs.Users.{user_of, users, users_from}
use Rattle.ps_laws.specs.Low.{items_of, items_of_others, low_from}
use Rattle.ps_laws.specs.Secrets.{is_note, IsUnseenNote, NotesMayBeMissing, NotesMayDiffer}
use Rattle.ps_laws.specs.HallStories.{hall_opened, hall_story}
use Rattle.ps_laws.specs.HallLow.{hall_users, hall_users_from, ids_taken, is_sender_user, is_user, items_by, items_of_allowed, items_of_others as hall_items_of_others, hall_items_of, hall_low_from}
use Rattle.ps_laws.specs.HallSecrets.{whispers_past, IsForeignWhisper, WhispersMayBeMissing, WhispersMayDiffer}
use Rattle.ps_laws.proofs.RoomLemmas.{views_are_equal}
use Rattle.ps_laws.proofs.UndoneLemmas.{idle_may_be_missing}
use Rattle.ps_laws.proofs.HallHistoryLemmas.{hall_views_are_equal, hall_unshown_may_be_missing}

-- ---- a note leaves the record as it was, and has no item

-- what an entry does where it stands
record IsNothing (conn : ℕ) (ids : List (List ℕ)) (r : Record) (e : Entry) : Type 0 where
  away : (e.conn == conn) ≡ false
  kept : after r e ≡ r
  none : items_of conn ids r e ≡ []

note_in : (cmd : Command) → is_note cmd ≡ true → (text : List ℕ) × (cmd ≡ Modnote text)
note_in (Modnote text) e = (text, refl)
note_in other e = absurd cc

note_by : (conn : ℕ) (ids : List (List ℕ)) (r : Record) (e : Entry) (text : List ℕ) (v : Option Why) → (e.conn == conn) ≡ false → e.cmd ≡ Modnote text → sees_notes conn r ≡ false → verdict r e ≡ v → (after r e ≡ r) × (items_of_others conn r e v ≡ [])
note_by conn ids r e text (Some why) away is out v = (after_refused r e why v, refl)
note_by conn ids r e text None away is out v = ((note_unseen conn r e text (nat_eq_equiv.symm conn e.conn ∙ away) is v out).unchanged, rw (is, out) refl)

note_nothing : (conn : ℕ) (ids : List (List ℕ)) (r : Record) (e : Entry) → IsUnseenNote conn ids r e → IsNothing conn ids r e
note_nothing conn ids r e n =
    let away = (or_parts (e.conn == conn) (is_user ids (user_of r e)) n.other).0 in
    let text = note_in e.cmd n.note in
    let done = note_by conn ids r e text.0 (verdict r e) away text.1 n.unseen refl in
    record {
      away = away;
      kept = done.0;
      none = rw n.other done.1;
    }

users_past : (conn : ℕ) (r : Record) (before : List Entry) (e : Entry) (later : List Entry) → (e.conn == conn) ≡ false → after (run_record r before) e ≡ run_record r before → users_from conn r (before ++ e ∷ later) ≡ users_from conn r (before ++ later)
users_past conn r [] e later away kept = rw (away, kept) refl
users_past conn r (x ∷ xs) e later away kept = ap (λ (ids : List (List ℕ)). cond (x.conn == conn) (user_of r x ∷ []) [] ++ ids) (users_past conn (after r x) xs e later away kept)

pub notes_may_be_missing : (conn : ℕ) → NotesMayBeMissing conn
notes_may_be_missing conn o before e later fit n =
    let r = run_record (opened o) before in
    let ids = users conn (story o (before ++ e ∷ later)) in
    let nothing = note_nothing conn ids r e n in
    let same : ids ≡ users conn (story o (before ++ later)) = users_past conn (opened o) before e later nothing.away nothing.kept in
    let none : low_from conn (users conn (story o (before ++ later))) r (e ∷ []) ≡ [] =
    subst (λ (us : List (List ℕ)). low_from conn us r (e ∷ []) ≡ []) same (rw nothing.none refl) in
    views_are_equal conn (story o (before ++ e ∷ later)) (story o (before ++ later)) (idle_may_be_missing conn o before (e ∷ []) later fit none nothing.kept)

pub notes_may_differ : (conn : ℕ) → NotesMayDiffer conn
notes_may_differ conn o before e f later fit n m = notes_may_be_missing conn o before e later fit n ∙ sym (notes_may_be_missing conn o before f later fit m)

-- ---- and so a whisper of others

record IsHallNothing (conn : ℕ) (ids : List (List ℕ)) (h : Hall) (e : HallEntry) : Type 0 where
  away : (e.conn == conn) ≡ false
  kept : hall_after h e ≡ h
  none : hall_items_of conn ids h e ≡ []

whisper_in : (ids : List (List ℕ)) (cmd : HallCmd) → whispers_past ids cmd → (user : List ℕ) × (text : List ℕ) × (cmd ≡ Whisper user text) × (is_user ids user ≡ false)
whisper_in ids (Whisper user text) past = (user, text, refl, past)
whisper_in ids other past = absurd past

whisper_badge : (h : Hall) (badge : Option Badge) (user text : List ℕ) → hall_after_by h badge (Whisper user text) ≡ h
whisper_badge h None user text = refl
whisper_badge h (Some b) user text = refl

whisper_applied : (h : Hall) (sender : ℕ) (user text : List ℕ) → applied h sender (Whisper user text) ≡ h
unfolding applied
whisper_applied h sender user text = whisper_badge h (badge_of h sender) user text

whisper_after : (h : Hall) (e : HallEntry) (user text : List ℕ) (v : Option HallWhy) → e.cmd ≡ Whisper user text → verdict_after_by v h e.conn e.cmd ≡ h
whisper_after h e user text (Some why) is = refl
whisper_after h e user text None is = ap (applied h e.conn) is ∙ whisper_applied h e.conn user text

whisper_items_by : (ids : List (List ℕ)) (h : Hall) (e : HallEntry) (user text : List ℕ) (badge : Option Badge) → is_user ids user ≡ false → items_by ids h e badge (Whisper user text) ≡ []
whisper_items_by ids h e user text None past = refl
whisper_items_by ids h e user text (Some b) past = rw past refl

whisper_items : (ids : List (List ℕ)) (h : Hall) (e : HallEntry) (user text : List ℕ) (v : Option HallWhy) → e.cmd ≡ Whisper user text → is_user ids user ≡ false → hall_items_of_others ids h e v ≡ []
whisper_items ids h e user text (Some why) is past = refl
whisper_items ids h e user text None is past = ap (items_of_allowed ids h e) is ∙ whisper_items_by ids h e user text (badge_of h e.conn) past

whisper_nothing : (conn : ℕ) (ids : List (List ℕ)) (h : Hall) (e : HallEntry) → IsForeignWhisper conn ids h e → IsHallNothing conn ids h e
whisper_nothing conn ids h e w =
    let said = whisper_in ids e.cmd w.target in
    record {
      away = (or_parts (e.conn == conn) (is_sender_user ids (badge_of h e.conn)) w.other).0;
      kept = whisper_after h e said.0 said.1 (hall_verdict h e) said.2;
      none = rw w.other (whisper_items ids h e said.0 said.1 (hall_verdict h e) said.2 said.3);
    }

hall_users_past : (conn : ℕ) (h : Hall) (before : List HallEntry) (e : HallEntry) (later : List HallEntry) → (e.conn == conn) ≡ false → hall_after (hall_run h before) e ≡ hall_run h before → hall_users_from conn h (before ++ e ∷ later) ≡ hall_users_from conn h (before ++ later)
hall_users_past conn h [] e later away kept = rw away (ap (λ (x : Hall). hall_users_from conn x later) kept)
hall_users_past conn h (x ∷ xs) e later away kept = ap (λ (ids : List (List ℕ)). ids_taken conn h x ++ ids) (hall_users_past conn (hall_after h x) xs e later away kept)

pub whispers_may_be_missing : (conn : ℕ) → WhispersMayBeMissing conn
whispers_may_be_missing conn o before e later w =
    let h = hall_run (hall_opened o) before in
    let ids = hall_users conn (hall_story o (before ++ e ∷ later)) in
    let nothing = whisper_nothing conn ids h e w in
    let same : ids ≡ hall_users conn (hall_story o (before ++ later)) = hall_users_past conn (hall_opened o) before e later nothing.away nothing.kept in
    hall_views_are_equal conn (hall_story o (before ++ e ∷ later)) (hall_story o (before ++ later)) (hall_unshown_may_be_missing conn o before e later (record {
      none = subst (λ (us : List (List ℕ)). hall_items_of conn us h e ≡ []) same nothing.none;
      later_same = ap (λ (x : Hall). hall_low_from conn (hall_users conn (hall_story o (before ++ later))) x later) nothing.kept;
    }))

pub whispers_may_differ : (conn : ℕ) → WhispersMayDiffer conn
whispers_may_differ conn o before e f later w v = whispers_may_be_missing conn o before e later w ∙ sym (whispers_may_be_missing conn o before f later v)
