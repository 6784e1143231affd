-- What a line brings about, and which entries are refused, doesn't look at what was logged.
use Rattle.std.proofs.Common.{◌≡◌, ℕ, suc, ◌-◌, Bool, true, false, cond, List, [], ◌∷◌, ◌++◌, map, Option, Some, None, refl, ap, ◌∙◌}
use Rattle.std.specs.Prelude.{slice_get, slice_set, nat_lt}
use Rattle.std.specs.Option.{option_map}
use Rattle.std.proofs.lemmas.Option.{slice_get-map}
use Rattle.ps_base.specs.declared.badge.Badge.{Badge}
use Rattle.ps_hall.specs.Lookups.{badge_of}
use Rattle.ps_room.specs.declared.entry.Entry.{Entry}
use Rattle.ps_room.specs.declared.outcome.Ending.{Ending}
use Rattle.ps_room.specs.declared.outcome.RoomOut.{RoomOut}
use Rattle.ps_room.proofs.BlankLemmas.{blank, blank_out}
use Rattle.replay_script.specs.declared.item.Item.{Item}
use Rattle.replay_script.specs.declared.item.Item.TheVariants.{Nothing, Moment, Group, Open, Send, Close}
use Rattle.ps_session.specs.Sessions.{Record as Session}
use Rattle.replay_state.specs.declared.place.Placed.{Placed}
use Rattle.replay_state.specs.declared.place.Placed.TheVariants.{Hall, Room}
use Rattle.replay_state.specs.declared.place.Happening.TheVariants as happening
use Rattle.ps_room.specs.Openings.{first_battle}
use Rattle.ps_room.specs.Logs.{ended_in}
use Rattle.replay_state.specs.Nows.{Standing, Now, room_at, record_at}
use Rattle.replay_state.specs.Entries.{quit_in, room_quits, named_quits, quits, hall_entry, ended, report_of, out_at, reports, entry_happenings, text_entry, text_session, session_of, is_open, end_by, end_sent, end_at, idle, sent_by, sent, closed, line_at, State, Line}
use Rattle.replay_state.specs.Counts.{is_refused, out_refuses}
use Rattle.replay_state.specs.Notes.{act_in, done_by}
use Rattle.ps_lines.specs.declared.command.HallCmd.TheVariants as hall_commands

-- rooms without what was logged
abbrev pub blank_standing : Standing → Standing
blank_standing s = record { id = s.id; state = blank s.state }

abbrev pub blank_now : Now → Now
blank_now n = record { hall = n.hall; chats = map blank_standing n.chats; battles = map blank_standing n.battles; numbers = n.numbers }

abbrev pub blank_state : State → State
blank_state s = record { moment = s.moment; now = blank_now s.now; sessions = s.sessions }

-- ---- quits

room_quits_same : (moment conn : ℕ) (badge : Badge) (number : ℕ) (rs : List Standing) → room_quits moment conn badge number (map blank_standing rs) ≡ room_quits moment conn badge number rs
room_quits_same moment conn badge number [] = refl
room_quits_same moment conn badge number (r ∷ rs) = ap (λ ps. quit_in moment conn badge number r ++ ps) (room_quits_same moment conn badge (suc number) rs)

named_quits_same : (moment : ℕ) (n : Now) (conn : ℕ) (badge : Option Badge) → named_quits moment (blank_now n) conn badge ≡ named_quits moment n conn badge
named_quits_same moment n conn None = refl
named_quits_same moment n conn (Some badge) =
    ap (λ ps. ps ++ room_quits moment conn badge first_battle (map blank_standing n.battles)) (room_quits_same moment conn badge 0 n.chats)
    ∙ ap (λ ps. room_quits moment conn badge 0 n.chats ++ ps) (room_quits_same moment conn badge first_battle n.battles)

quits_same : (moment : ℕ) (n : Now) (conn : ℕ) → quits moment (blank_now n) conn ≡ quits moment n conn
quits_same moment n conn = ap (λ ps. ps ++ hall_entry moment conn hall_commands.Quit ∷ []) (named_quits_same moment n conn (badge_of n.hall conn))

ended_same : (moment : ℕ) (n : Now) (conn : ℕ) → ended moment (blank_now n) conn ≡ ended moment n conn
ended_same moment n conn = ap (λ ps. map happening.Entry ps ++ happening.Ended conn ∷ []) (quits_same moment n conn)

-- ---- what comes of an entry in a room

found_by : (number : ℕ) (n : Now) (b : Bool) → cond b (slice_get (map blank_standing n.chats) number) (slice_get (map blank_standing n.battles) (number - first_battle)) ≡ option_map blank_standing (cond b (slice_get n.chats number) (slice_get n.battles (number - first_battle)))
found_by number n true = slice_get-map blank_standing n.chats number
found_by number n false = slice_get-map blank_standing n.battles (number - first_battle)

out_same : (e : Entry) (o : Option Standing) → out_at (option_map (λ (s : Standing). s.state) (option_map blank_standing o)) e ≡ out_at (option_map (λ (s : Standing). s.state) o) e
out_same e None = refl
out_same e (Some s) = ap (λ (out : RoomOut). Some out) (blank_out s.state e)

pub record_out : (number : ℕ) (n : Now) (e : Entry) → out_at (record_at number (blank_now n)) e ≡ out_at (record_at number n) e
record_out number n e =
    ap (λ (o : Option Standing). out_at (option_map (λ (s : Standing). s.state) o) e) (found_by number n (nat_lt number first_battle))
    ∙ out_same e (room_at number n)

reports_same : (moment : ℕ) (n : Now) (conn : ℕ) (p : Placed) → reports moment (blank_now n) conn p ≡ reports moment n conn p
reports_same moment n conn (Hall e) = refl
reports_same moment n conn (Room number e) = ap (λ (o : Option RoomOut). report_of moment conn (ended_in o)) (record_out number n e)

pub refused_same : (n : Now) (p : Placed) → is_refused (blank_now n) p ≡ is_refused n p
refused_same n (Hall e) = refl
refused_same n (Room number e) = ap out_refuses (record_out number n e)

-- ---- what an entry does

act_same : (e : Entry) (o : Option Standing) → act_in (option_map blank_standing o) e ≡ act_in o e
act_same e None = refl
act_same e (Some s) = refl

pub done_same : (n : Now) (p : Placed) → done_by (blank_now n) p ≡ done_by n p
done_same n (Hall e) = refl
done_same n (Room number e) = ap (λ (o : Option Standing). act_in o e) (found_by number n (nat_lt number first_battle)) ∙ act_same e (room_at number n)

-- ---- lines

happenings_same : (moment : ℕ) (n : Now) (conn : ℕ) (o : Option Placed) → entry_happenings moment (blank_now n) conn o ≡ entry_happenings moment n conn o
happenings_same moment n conn None = ended_same moment n conn
happenings_same moment n conn (Some p) = ap (λ xs. happening.Entry p ∷ xs) (reports_same moment n conn p)

sent_by_same : (s : State) (conn : ℕ) (text : List ℕ) (o : Option Session) → sent_by (blank_state s) conn text o ≡ sent_by s conn text o
sent_by_same s conn text None = refl
sent_by_same s conn text (Some session) = ap (λ xs. record { happenings = xs; sessions = slice_set s.sessions (conn - 1) (text_session s.moment s.now conn text session) }) (happenings_same s.moment s.now conn (text_entry s.moment s.now conn text session))

sent_same : (s : State) (conn : ℕ) (text : List ℕ) → sent (blank_state s) conn text ≡ sent s conn text
sent_same s conn text = ap (λ (l : Line). cond (is_open conn s.now) l (idle s.sessions)) (sent_by_same s conn text (session_of conn s.sessions))

closed_same : (s : State) (conn : ℕ) → closed (blank_state s) conn ≡ closed s conn
closed_same s conn = ap (λ ps. cond (is_open conn s.now) (record { happenings = map happening.Entry ps; sessions = s.sessions }) (idle s.sessions)) (quits_same s.moment s.now conn)

pub line_same : (s : State) (i : Item) → line_at (blank_state s) i ≡ line_at s i
line_same s Nothing = refl
line_same s (Moment n) = refl
line_same s (Group symbol id) = refl
line_same s (Open conn) = refl
line_same s (Send conn text) = sent_same s conn text
line_same s (Close conn) = closed_same s conn

-- ---- the end of a battle

end_by_same : (n : Now) (o : Option Placed) → end_by (blank_now n) o ≡ end_by n o
end_by_same n None = refl
end_by_same n (Some (Hall e)) = refl
end_by_same n (Some (Room number e)) = ap ended_in (record_out number n e)

end_sent_same : (s : State) (conn : ℕ) (text : List ℕ) (o : Option Session) → end_sent (blank_state s) conn text o ≡ end_sent s conn text o
end_sent_same s conn text None = refl
end_sent_same s conn text (Some session) = end_by_same s.now (text_entry s.moment s.now conn text session)

pub end_same : (s : State) (i : Item) → end_at (blank_state s) i ≡ end_at s i
end_same s Nothing = refl
end_same s (Moment n) = refl
end_same s (Group symbol id) = refl
end_same s (Open conn) = refl
end_same s (Send conn text) = ap (λ (end : Option Ending). cond (is_open conn s.now) end None) (end_sent_same s conn text (session_of conn s.sessions))
end_same s (Close conn) = refl
