-- Reading a piece of a log.
use Rattle.std.proofs.Common.{◌≡◌, ◌≤◌, ◌<◌, ℕ, ◌+◌, ◌-◌, min, List, [], ◌∷◌, ◌++◌, length, take, drop, get_or, Bool, true, false, ltb}
use Rattle.std.proofs.Common.{refl, sym, ap, subst, ◌∙◌, ◌⊎◌, inl, inr, arith}
use Rattle.std.specs.List.{list_any}
use Rattle.std.proofs.lemmas.Bool.{ltb-true, ltb-false}
use Rattle.std.proofs.lemmas.List.{length-append, length-take, take_more, take-take, take-append-drop, take_all, drop_all, drop_more, append-nil}
use Rattle.std.proofs.lemmas.List.Sums.{sum_by-append}
use Rattle.std.proofs.Math.Seq.{take-append_seam, drop-append_seam}
use Rattle.ps_view.specs.declared.role.Role.{Role}
use Rattle.ps_splitlog.specs.declared.entry.LogEntry.{LogEntry}
use Rattle.ps_splitlog.specs.declared.cursor.Cursor.{Cursor}
use Rattle.ps_splitlog.specs.Entries.{changed, first_message, message_at}
use Rattle.ps_splitlog.specs.Reads.{messages_of, role_past, cursor_past, read_past}
use Rattle.ps_splitlog.specs.Firsts.{is_named, IsUnnamed}
use Rattle.ps_splitlog.specs.Pieces.{most_messages, most_bytes, bytes_in, bytes_of, IsFull, without_last, HadRoomBeforeLast, fewest_left, IsOpen}
use Rattle.ps_splitlog.specs.Pieces.{IsWalked, ReadsOn}
use Rattle.ps_splitlog.proofs.ReadLemmas.{reads_compose}
use Rattle.ps_splitlog.proofs.FirstLemmas.{none_in_front, messages_behind, role_behind}
use Rattle.ps_base.specs.Messages.{sent}

-- ---- the entries in front of a place

in_front : (i : ℕ) (log : List LogEntry) → i ≤ length log → length (take i log) ≡ i
in_front i log le = length-take i log ∙ omega (arith, le)

-- ---- one entry more

pub one_more : (c : Cursor) (log : List LogEntry) (i : ℕ) (d : LogEntry) → c.at ≤ i → i < length log
    → read_past c (take (i + 1) log) ≡ read_past c (take i log) ++ sent (message_at c.conn (cursor_past c (take i log)).role log i)
one_more c log i d le lt =
    let before : List LogEntry = take i log in
    let h : LogEntry = get_or log i d in
    let role : Role = (cursor_past c before).role in
    let many : length before ≡ i = in_front i log (omega (arith, lt)) in
    ap (read_past c) (take_more log i d lt)
    ∙ (reads_compose c before (h ∷ []) (omega (arith, le, many))).messages
    ∙ ap (λ ms. read_past c before ++ ms)
    (ap (λ hs. messages_of c.conn role hs (drop (length before) (before ++ h ∷ []))) (take-append_seam before (h ∷ []))
    ∙ ap (messages_of c.conn role before) (drop-append_seam before (h ∷ []))
    ∙ append-nil _
    ∙ ap (λ hs. sent (first_message c.conn role before hs)) (sym (drop_more log i d lt)))

pub role_more : (c : Cursor) (log : List LogEntry) (i : ℕ) (d : LogEntry) → c.at ≤ i → i < length log
    → (cursor_past c (take (i + 1) log)).role ≡ changed c.conn (get_or log i d).roles (cursor_past c (take i log)).role
role_more c log i d le lt =
    let before : List LogEntry = take i log in
    let h : LogEntry = get_or log i d in
    let role : Role = (cursor_past c before).role in
    let many : length before ≡ i = in_front i log (omega (arith, lt)) in
    ap (λ hs. (cursor_past c hs).role) (take_more log i d lt)
    ∙ ap (λ (x : Cursor). x.role) (reads_compose c before (h ∷ []) (omega (arith, le, many))).end
    ∙ ap (role_past c.conn role) (drop-append_seam before (h ∷ []))

-- ---- what is walked

sent_bytes : (lines : List (List ℕ)) → bytes_of (sent lines) ≡ bytes_in lines
sent_bytes [] = refl
sent_bytes (line ∷ lines) = omega arith

more_bytes : (messages : List (List (List ℕ))) (lines : List (List ℕ))
    → bytes_of (messages ++ sent lines) ≡ bytes_of messages + bytes_in lines
more_bytes messages lines = sum_by-append bytes_in messages (sent lines) ∙ ap (λ n. bytes_of messages + n) (sent_bytes lines)

front_bytes : (n : ℕ) (messages : List (List (List ℕ))) → bytes_of (take n messages) ≤ bytes_of messages
front_bytes n messages =
    let parts : bytes_of (take n messages) + bytes_of (drop n messages) ≡ bytes_of messages =
    sym (sum_by-append bytes_in (take n messages) (drop n messages)) ∙ ap bytes_of (take-append-drop n messages) in
    omega (arith, parts)

-- what is not full is short with a further message
then_short : (messages : List (List (List ℕ))) (lines : List (List ℕ)) → IsOpen messages → HadRoomBeforeLast (messages ++ sent lines)
then_short messages [] o =
    let same : messages ++ [] ≡ messages = append-nil messages in
    subst HadRoomBeforeLast (sym same) (record {
      few = let few : length messages < most_messages = o.few in omega (arith, few);
      fits =
          let fits : bytes_of messages < most_bytes = o.fits in
          let less : bytes_of (without_last 1 messages) ≤ bytes_of messages = front_bytes (length messages - 1) messages in
          omega (arith, fits, less);
    })
then_short messages (line ∷ lines) o =
    let longer : length (messages ++ (line ∷ lines) ∷ []) ≡ length messages + 1 = length-append messages ((line ∷ lines) ∷ []) in
    let count : length (messages ++ (line ∷ lines) ∷ []) - 1 ≡ length messages = omega (arith, longer) in
    record {
      few = let few : length messages < most_messages = o.few in omega (arith, few, longer);
      fits =
          subst (λ ms. bytes_of ms < most_bytes)
          (sym (ap (λ n. take n (messages ++ (line ∷ lines) ∷ [])) count ∙ take-append_seam messages ((line ∷ lines) ∷ []))) o.fits;
    }

-- as far as this entry: the messages, what is left of the room for bytes, and the role
pub record IsWalking (c : Cursor) (log : List LogEntry) (most : ℕ) (messages : List (List (List ℕ))) (room : ℕ) (role : Role) (i : ℕ) : Type 0 where
  pub read : messages ≡ read_past c (take i log)
  pub stands : role ≡ (cursor_past c (take i log)).role
  pub room_is : room ≡ most_bytes - bytes_of messages
  pub short : HadRoomBeforeLast messages ⊎ (most ≤ length log - i)

pub walking_starts : (c : Cursor) (log : List LogEntry) (most : ℕ) → IsWalking c log most [] most_bytes c.role c.at
walking_starts c log most =
    let none : drop c.at (take c.at log) ≡ [] =
    let le : length (take c.at log) ≡ min c.at (length log) = length-take c.at log in
    drop_all c.at (take c.at log) (omega (arith, le)) in
    record {
      read = sym (ap (messages_of c.conn c.role (take c.at (take c.at log))) none);
      stands = sym (ap (role_past c.conn c.role) none);
      room_is = refl;
      short = inl (record { few = omega arith; fits = omega arith });
    }

pub next_walking : (c : Cursor) (log : List LogEntry) (most : ℕ) (messages more : List (List (List ℕ))) (room left : ℕ) (role next : Role) (i : ℕ)
    (d : LogEntry) → c.at ≤ i → i < length log → IsWalking c log most messages room role i
    → (most < length log - i) ⊎ IsOpen messages
    → more ≡ messages ++ sent (message_at c.conn role log i) → left ≡ room - bytes_in (message_at c.conn role log i)
    → next ≡ changed c.conn (get_or log i d).roles role
    → IsWalking c log most more left next (i + 1)
next_walking c log most messages more room left role next i d le lt w on is rest then = record {
  read =
      is ∙ ap (λ (r : Role). messages ++ sent (message_at c.conn r log i)) w.stands
      ∙ ap (λ ms. ms ++ sent (message_at c.conn (cursor_past c (take i log)).role log i)) w.read
      ∙ sym (one_more c log i d le lt);
  stands = then ∙ ap (changed c.conn (get_or log i d).roles) w.stands ∙ sym (role_more c log i d le lt);
  room_is =
      let lines : List (List ℕ) = message_at c.conn role log i in
      let bytes : bytes_of more ≡ bytes_of messages + bytes_in lines = ap bytes_of is ∙ more_bytes messages lines in
      let before : room ≡ most_bytes - bytes_of messages = w.room_is in
      omega (arith, rest, before, bytes);
  short = elim on [
    | inl many ↦ inr (omega (arith, many))
    | inr o ↦ inl (subst HadRoomBeforeLast (sym is) (then_short messages (message_at c.conn role log i) o))
  ];
}

-- ---- where it ends

-- where what is left is what is behind the place
pub all_left : (i left count : ℕ) → left ≡ count - i → (i ≡ count - left) ⊎ (count ≤ i × left ≡ 0)
all_left i left count is = by (ltb i count) refl
  where
    by : (b : Bool) → ltb i count ≡ b → (i ≡ count - left) ⊎ (count ≤ i × left ≡ 0)
    by true lt = let l : i < count = ltb-true i count lt in inl (omega (arith, l, is))
    by false ge = let l : count ≤ i = ltb-false i count ge in inr (l, omega (arith, l, is))

front_is : (i left : ℕ) (log : List LogEntry) → (i ≡ length log - left) ⊎ (length log ≤ i × left ≡ 0)
    → take i log ≡ without_last left log
front_is i left log (inl here) = ap (λ n. take n log) here
front_is i left log (inr past) =
    take_all i log past.0 ∙ sym (take_all (length log - left) log (let none : left ≡ 0 = past.1 in omega (arith, none)))

-- so many entries are left behind the place that it has come to
pub walked : (c : Cursor) (log : List LogEntry) (least most : ℕ) (messages : List (List (List ℕ))) (room left i at : ℕ) (role : Role)
    → IsWalking c log most messages room role i → (i ≡ length log - left) ⊎ (length log ≤ i × left ≡ 0) → at ≡ length log - left
    → left ≤ length log → left ≤ most → fewest_left least c log ≤ left → left ≤ length log - c.at → (left ≡ fewest_left least c log) ⊎ IsFull messages
    → IsWalked c log least most messages left (record { conn = c.conn; at = at; role = role })
walked c log least most messages room left i at role w here same le high low onward whole =
    let front : take i log ≡ without_last left log = front_is i left log here in
    let place : at ≡ length (without_last left log) = same ∙ sym (in_front (length log - left) log (omega arith)) in
    let stands : role ≡ role_past c.conn c.role (drop c.at (without_last left log)) = w.stands ∙ ap (λ hs. (cursor_past c hs).role) front in
    record {
      messages_are = w.read ∙ ap (read_past c) front;
      end = λ i. record { conn = c.conn; at = place i; role = stands i };
      high = high;
      low = low;
      onward = onward;
      short = elim w.short [
        | inl s ↦ inl s
        | inr many ↦ inr (most_left here many)
      ];
      whole = whole;
    }
  where
    most_left : (i ≡ length log - left) ⊎ (length log ≤ i × left ≡ 0) → most ≤ length log - i → left ≡ most
    most_left (inl is) many = omega (arith, is, many, le, high)
    most_left (inr past) many = let end : length log ≤ i = past.0 in let none : left ≡ 0 = past.1 in omega (arith, end, none, many)

-- ---- a cursor that reads the same

pub reads_on : (c : Cursor) (first least at : ℕ) (log : List LogEntry) → (first ≡ c.at) ⊎ IsUnnamed c.conn c.role c.at first log
    → at ≡ min first (length log - least) → c.at < at → ReadsOn c (record { conn = c.conn; at = at; role = c.role }) least log
reads_on c first least at log (inl here) is past = absurd (omega (arith, here, is, past))
reads_on c first least at log (inr u) is past = record {
  onward = omega (arith, past);
  within = omega (arith, is);
  messages = λ n most. messages_behind c.conn c.role c.at at (take n log) u.outside u.begins (none n most);
  end = λ n most. λ i. record {
    conn = c.conn;
    at = length (take n log);
    role = role_behind c.conn c.role c.at at (take n log) u.outside u.begins (none n most) i;
  };
}
  where
    none : (n : ℕ) → at ≤ n → list_any (is_named c.conn) (take at (take n log)) ≡ false
    none n most =
        ap (list_any (is_named c.conn)) (take-take at n log most ∙ sym (take-take at first log (omega (arith, is))))
        ∙ none_in_front (is_named c.conn) at (take first log) u.none
