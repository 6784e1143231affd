-- Who hears what an entry prints: all others are sent nothing at it.
use Rattle.std.proofs.Common.{◌≡◌, ℕ, zero, suc, ◌<◌, ◌≤◌, Bool, true, false, List, [], ◌∷◌, ◌++◌, ◌||◌, length, get_or, map, filter_map, codes, nat_lt, nat_le, if◌then◌else◌, ◌==◌, Option, None, Some, refl, sym, ap, subst, ◌∙◌, append_assoc, append-nil, arith, rules, inl, inr, lt-ltb, le-ltb, lt_irrefl, IsSorted, IsPermutation, nat_cmp}
use Rattle.std.specs.List.{list_any}
use Rattle.std.specs.List.Sorted.{IsNonDecreasing}
use Rattle.std.specs.Fmt.{decimal}
use Rattle.std.proofs.lemmas.Bool.{cases_Bool, cases_lt, eqb-false, eq-eqb, ne_eqb, le-leb, lt-leb, and_left, and_right, and_from, or_parts, or_left, or_right, false≢true}
use Rattle.std.proofs.lemmas.List.Sorted.{IsNonDecreasingBy-from_sort, list_any-IsPermutation}
use Rattle.ps_chat.specs.declared.present.Present.{Present}
use Rattle.ps_chat.specs.Lookups.{member}
use Rattle.ps_base.specs.Ids.{id_of}
use Rattle.ps_base.specs.Lists.{each_to}
use Rattle.battle_rounds.specs.Casts.{Cast, side_with_id, player_or_spectator}
use Rattle.ps_event.specs.declared.audience.Audience.{Audience}
use Rattle.ps_event.specs.declared.audience.Audience.TheVariants as audiences
use Rattle.ps_hall.specs.declared.notice.Notice.{Notice}
use Rattle.ps_hall.specs.Halls as halls
use Rattle.ps_base.specs.declared.why.Why.{Why}
use Rattle.ps_lines.specs.declared.command.Command.{Command}
use Rattle.ps_lines.specs.declared.command.Command.TheVariants.{Join, Leave, Quit, Say, Announce, Modnote, Warn, Mute, Unmute, Ban, Unban, Promote, Modchat, Choose, Undo, Forfeit}
use Rattle.ps_room.specs.declared.entry.Entry.{Entry}
use Rattle.ps_room.specs.Logs.{conn_of, record_in, touched_by, touched_if, change_to}
use Rattle.replay_state.specs.Kepts.{Kept, kept_after}
use Rattle.ps_room.proofs.RoleLemmas.{role_next}
use Rattle.ps_room.specs.Records.{Record, presents_of, cast_in}
use Rattle.ps_room.specs.Roles.{role_of, role_of_member}
use Rattle.ps_room.specs.Rooms.{role, role_in, after, verdict}
use Rattle.ps_splitlog.specs.declared.entry.LogEntry.{LogEntry}
use Rattle.ps_splitlog.specs.declared.entry.Joined.{Joined}
use Rattle.ps_splitlog.specs.declared.stored.Stored.{Stored}
use Rattle.ps_splitlog.specs.declared.stored.Stored.TheVariants.{Same, Split}
use Rattle.ps_splitlog.specs.Entries.{changed, join_for}
use Rattle.ps_splitlog.specs.Lines.{shown, shown_lines}
use Rattle.ps_splitlog.proofs.MessageLemmas.{plain_message}
use Rattle.ps_view.specs.declared.role.Role.{Role}
use Rattle.ps_view.specs.declared.role.Role.TheVariants.{Outside}
use Rattle.ps_view.specs.Roles.{is_member}
use Rattle.replay_state.specs.Houses.{own_conn, room_hearers, notice_hearers, next_message, text_for_all, common_of, common_line, common_unless, common_text}
use Rattle.replay_state.specs.Transcript.{HasNoNewline, line_behind, first_line, printed, with_id}
use Rattle.replay_state.specs.Tables.{each_of}
use Rattle.replay_state.proofs.PrintLemmas.{plain_line}
use Rattle.replay_state.specs.Heads.{head_text, head_of, each_headed, HasHeads, AreReady, changes_members, still_ready}
use Rattle.replay_state.specs.declared.heads.Head.{Head}

-- ---- numbers that are taken in order

-- f of each number behind `last`, up to n
abbrev each_past : (ℕ → List ℕ) → ℕ → ℕ → List ℕ
each_past f last zero = []
each_past f last (suc n) = each_past f last n ++ (if nat_lt last (suc n) then f (suc n) else [])

none_past : (f : ℕ → List ℕ) (last n : ℕ) → ((k : ℕ) → last < k → k ≤ n → f k ≡ []) → each_past f last n ≡ []
none_past f last zero silent = refl
none_past f last (suc n) silent =
    let before : each_past f last n ≡ [] = none_past f last n (λ k low high. silent k low (omega (arith, high))) in
    elim (cases_lt last (suc n)) [
      | inl low ↦ rw before (rw (lt-ltb last (suc n) low) (silent (suc n) low (omega arith)))
      | inr high ↦ rw before (rw (le-ltb last (suc n) high) refl)
    ]

-- the next that tells something
next_past : (f : ℕ → List ℕ) (last conn n : ℕ) → last < conn → conn ≤ n → ((k : ℕ) → last < k → k < conn → f k ≡ []) → each_past f last n ≡ f conn ++ each_past f conn n
next_past f last conn zero low high silent = absurd (lt_irrefl zero (omega (arith, low, high)))
next_past f last conn (suc n) low high silent =
    let one : nat_lt last (suc n) ≡ true = lt-ltb last (suc n) (omega (arith, low, high)) in
    elim (cases_lt n conn) [
      | inl top ↦
          let same : conn ≡ suc n = omega (arith, top, high) in
          let before : each_past f last n ≡ [] = none_past f last n (λ k l h. silent k l (omega (arith, h, top))) in
          let behind : each_past f conn n ≡ [] = none_past f conn n (λ k l h. absurd (lt_irrefl n (omega (arith, l, h, top)))) in
          let past : nat_lt conn (suc n) ≡ false = le-ltb conn (suc n) (omega (arith, top)) in
          rw before (rw one (rw behind (rw past (ap f (sym same) ∙ sym (append-nil (f conn))))))
      | inr within ↦
          let rest : each_past f last n ≡ f conn ++ each_past f conn n = next_past f last conn n low within silent in
          let two : nat_lt conn (suc n) ≡ true = lt-ltb conn (suc n) (omega (arith, within)) in
          rw rest (rw one (rw two (append_assoc (f conn) (each_past f conn n) (f (suc n)))))
    ]

all_past : (f : ℕ → List ℕ) (n : ℕ) → each_past f zero n ≡ each_to f n
all_past f zero = refl
all_past f (suc n) = rw (lt-ltb zero (suc n) (omega arith)) (ap (λ xs. xs ++ f (suc n)) (all_past f n))

-- whether a number is among these
abbrev is_among : ℕ → List ℕ → Bool
is_among k ns = list_any (λ n. n == k) ns

other_than : (k n : ℕ) (ns : List ℕ) → (n ≡ k → ⊥) → is_among k ns ≡ false → is_among k (n ∷ ns) ≡ false
other_than k n ns not rest = rw (ne_eqb n k not) rest

above : (k : ℕ) (ns : List ℕ) → ((i : ℕ) → i < length ns → k < get_or ns i 0) → is_among k ns ≡ false
above k [] high = refl
above k (n ∷ ns) high =
    let first : k < n = high zero (omega arith) in
    other_than k n ns (λ same. lt_irrefl k (omega (arith, first, same))) (above k ns (λ i within. high (suc i) (omega (arith, within))))

behind : (n : ℕ) (ns : List ℕ) → IsNonDecreasing (n ∷ ns) → IsNonDecreasing ns
behind n ns rise i j d low within = rise (suc i) (suc j) d (omega (arith, low)) (omega (arith, within))

below : (k n : ℕ) (ns : List ℕ) → IsNonDecreasing (n ∷ ns) → k < n → is_among k (n ∷ ns) ≡ false
below k n ns rise low = above k (n ∷ ns) (λ i within. let least : n ≤ get_or (n ∷ ns) i 0 = rise zero i 0 (omega arith) within in omega (arith, low, least))

each_is : (f : ℕ → List ℕ) (n last : ℕ) (conns : List ℕ) → IsNonDecreasing conns → ((k : ℕ) → last < k → k ≤ n → is_among k conns ≡ false → f k ≡ []) → each_of f n last conns ≡ each_past f last n
each_is f n last [] rise silent = sym (none_past f last n (λ k low high. silent k low high refl))
each_is f n last (conn ∷ conns) rise silent =
    let rest : IsNonDecreasing conns = behind conn conns rise in
    elim (cases_lt last conn) [
      | inl low ↦ elim (cases_lt n conn) [
        | inl far ↦ rw (and_right (nat_lt last conn) (nat_le conn n) (lt-leb conn n far))
            (each_is f n last conns rest (λ k l h out. silent k l h (other_than k conn conns (λ same. lt_irrefl n (omega (arith, same, far, h))) out)))
        | inr within ↦ rw (and_from (nat_lt last conn) (nat_le conn n) (lt-ltb last conn low) (le-leb conn n within))
            (ap (λ xs. f conn ++ xs) (each_is f n conn conns rest (λ k l h out. silent k (omega (arith, low, l)) h (other_than k conn conns (λ same. lt_irrefl k (omega (arith, same, l))) out)))
            ∙ sym (next_past f last conn n low within (λ k l h. silent k l (omega (arith, h, within)) (below k conn conns rise h))))
      ]
      | inr done ↦ rw (and_left (nat_lt last conn) (nat_le conn n) (le-ltb last conn done))
          (each_is f n last conns rest (λ k l h out. silent k l h (other_than k conn conns (λ same. lt_irrefl k (omega (arith, same, done, l))) out)))
    ]

-- where f tells nothing of all others, these are all
each_heard : (f : ℕ → List ℕ) (n : ℕ) (who conns : List ℕ) → IsPermutation who conns → IsSorted nat_cmp conns → ((k : ℕ) → is_among k who ≡ false → f k ≡ []) → each_of f n zero conns ≡ each_to f n
each_heard f n who conns same sorted silent =
    each_is f n zero conns (IsNonDecreasingBy-from_sort (λ x. x) conns sorted) (λ k low high out. silent k (list_any-IsPermutation (λ n. n == k) who conns same ∙ out))
    ∙ all_past f n

-- where it tells nothing of all that aren't among these
each_silent : (f : ℕ → List ℕ) (n : ℕ) (conns : List ℕ) → IsSorted nat_cmp conns → ((k : ℕ) → is_among k conns ≡ false → f k ≡ []) → each_of f n zero conns ≡ each_to f n
each_silent f n conns sorted silent =
    each_is f n zero conns (IsNonDecreasingBy-from_sort (λ x. x) conns sorted) (λ k low high out. silent k out) ∙ all_past f n

-- ---- who isn't among the hearers

-- who is none of several isn't the first, nor one of the others
not_first : (k n : ℕ) (ns : List ℕ) → is_among k (n ∷ ns) ≡ false → ((n == k) ≡ false) × (is_among k ns ≡ false)
not_first k n ns out = or_parts (n == k) (is_among k ns) out

-- and none of the parts of a list
not_left : (k : ℕ) (ns ms : List ℕ) → is_among k (ns ++ ms) ≡ false → is_among k ns ≡ false
not_left k [] ms out = refl
not_left k (n ∷ ns) ms out = let parts = not_first k n (ns ++ ms) out in rw parts.0 (not_left k ns ms parts.1)

not_right : (k : ℕ) (ns ms : List ℕ) → is_among k (ns ++ ms) ≡ false → is_among k ms ≡ false
not_right k [] ms out = out
not_right k (n ∷ ns) ms out = not_right k ns ms (not_first k n (ns ++ ms) out).1

-- who is no member
no_member : (k : ℕ) (ps : List Present) → is_among k (map conn_of ps) ≡ false → member k ps ≡ None
no_member k [] out = refl
no_member k (p ∷ ps) out = let parts = not_first k p.conn (map conn_of ps) out in rw parts.0 (no_member k ps parts.1)

outside : (k : ℕ) (s : Kept) → is_among k (map conn_of (presents_of (record_in s.room))) ≡ false → role k (record_in s.room) ≡ Outside
unfolding role_in
outside k s out = ap (role_of (cast_in s.room.battle)) (no_member k (presents_of (record_in s.room)) out)

-- is shown what it has of its own alone
not_shown : (k : ℕ) (l : Stored) (ls : List Stored) → is_among k (filter_map own_conn (l ∷ ls)) ≡ false → (shown k Outside l ≡ None) × (is_among k (filter_map own_conn ls) ≡ false)
not_shown k (Same (audiences.One conn) logged text) ls out =
    let parts = not_first k conn (filter_map own_conn ls) out in
    (rw (ne_eqb k conn (λ same. eqb-false conn k parts.0 (sym same))) refl, parts.1)
not_shown k (Same audiences.All logged text) ls out = (refl, out)
not_shown k (Same (audiences.Split side) logged text) ls out = (refl, out)
not_shown k (Same (audiences.Side side) logged text) ls out = (refl, out)
not_shown k (Same (audiences.Rank lowest) logged text) ls out = (refl, out)
not_shown k (Split side logged secret public) ls out = (refl, out)

none_shown : (k : ℕ) (ls : List Stored) → is_among k (filter_map own_conn ls) ≡ false → shown_lines k Outside ls ≡ []
none_shown k [] out = refl
none_shown k (l ∷ ls) out = let parts = not_shown k l ls out in rw parts.0 (none_shown k ls parts.1)

no_join : (k : ℕ) (h : LogEntry) → (h.conn == k) ≡ false → join_for k h ≡ None
no_join k h other = rw (ne_eqb k h.conn (λ same. eqb-false h.conn k other (sym same))) refl

no_message : (k : ℕ) (s : Kept) (h : LogEntry) → is_among k (room_hearers s h) ≡ false → next_message k s h ≡ []
unfolding next_message
no_message k s h out =
    let parts = not_first k h.conn (map conn_of (presents_of (record_in s.room)) ++ filter_map own_conn h.lines) out in
    let members = not_left k (map conn_of (presents_of (record_in s.room))) (filter_map own_conn h.lines) parts.1 in
    let own = not_right k (map conn_of (presents_of (record_in s.room))) (filter_map own_conn h.lines) parts.1 in
    plain_message k (role k (record_in s.room)) s.backlog h (no_join k h parts.0)
    ∙ ap (λ (r : Role). shown_lines k r h.lines) (outside k s members)
    ∙ none_shown k h.lines own

no_notice : (k : ℕ) (ns : List Notice) → is_among k (notice_hearers ns) ≡ false → halls.message_of k ns ≡ []
no_notice k [] out = refl
no_notice k (n ∷ ns) out = let parts = not_first k n.conn (notice_hearers ns) out in rw parts.0 (no_notice k ns parts.1)

-- ---- a line that is the same for each member

-- the first of several is among them
first_among : (k : ℕ) (ns : List ℕ) → is_among k (k ∷ ns) ≡ true
first_among k ns = or_left (k == k) (is_among k ns) (eq-eqb k k refl)

-- functions that tell these the same tell all of them the same
each_same : (f g : ℕ → List ℕ) (n last : ℕ) (conns : List ℕ) → ((k : ℕ) → is_among k conns ≡ true → f k ≡ g k) → each_of f n last conns ≡ each_of g n last conns
each_same f g n last [] same = refl
each_same f g n last (conn ∷ conns) same =
    let others : (k : ℕ) → is_among k conns ≡ true → f k ≡ g k = λ k there. same k (or_right (conn == k) (is_among k conns) there) in
    rw (same conn (first_among conn conns)) (rw (each_same f g n conn conns others) (rw (each_same f g n last conns others) refl))

by_side : (side : Option ℕ) (rank : ℕ) → is_member (player_or_spectator side rank) ≡ true
by_side None rank = refl
by_side (Some side) rank = refl

in_role : (cast : Option Cast) (p : Present) → is_member (role_of_member cast p) ≡ true
in_role None p = refl
in_role (Some c) p = by_side (side_with_id c.names (id_of p.badge.name)) p.rank

-- who is among the members is one
among_members : (k : ℕ) (cast : Option Cast) (ps : List Present) → is_among k (map conn_of ps) ≡ true → is_member (role_of cast (member k ps)) ≡ true
among_members k cast [] there = absurd (false≢true there)
among_members k cast (p ∷ ps) there = elim (cases_Bool (p.conn == k)) [
  | inl here ↦ rw here (in_role cast p)
  | inr other ↦ rw other (among_members k cast ps (sym (ap (λ (b : Bool). b || is_among k (map conn_of ps)) other) ∙ there))
]

inside : (k : ℕ) (s : Kept) → is_among k (map conn_of (presents_of (record_in s.room))) ≡ true → is_member (role k (record_in s.room)) ≡ true
unfolding role_in
inside k s there = among_members k (cast_in s.room.battle) (presents_of (record_in s.room)) there

-- the text for who is a member, and none for who isn't
abbrev for_member : Role → Option (List ℕ) → Option (List ℕ)
for_member r text = if is_member r then text else None

abbrev lines_for : Role → List ℕ → List (List ℕ)
lines_for r text = if is_member r then text ∷ [] else []

for_all_shown : (k : ℕ) (r : Role) (audience : Audience) (logged : Bool) (text t : List ℕ) → text_for_all audience text ≡ Some t → shown k r (Same audience logged text) ≡ for_member r (Some t)
for_all_shown k r audiences.All logged text t is = ap (for_member r) is
for_all_shown k r (audiences.Split side) logged text t is = absurd (let wrong : None ≡ Some t = is in cc)
for_all_shown k r (audiences.Side side) logged text t is = absurd (let wrong : None ≡ Some t = is in cc)
for_all_shown k r (audiences.Rank lowest) logged text t is = absurd (let wrong : None ≡ Some t = is in cc)
for_all_shown k r (audiences.One conn) logged text t is = absurd (let wrong : None ≡ Some t = is in cc)

one_shown : (k : ℕ) (r : Role) (l : Stored) (t : List ℕ) → common_of l ≡ Some t → shown k r l ≡ for_member r (Some t)
one_shown k r (Same audience logged text) t is = for_all_shown k r audience logged text t is
one_shown k r (Split side logged secret public) t is = absurd (let wrong : None ≡ Some t = is in cc)

only_shown : (k : ℕ) (r : Role) (l : Stored) (t : List ℕ) → shown k r l ≡ for_member r (Some t) → shown_lines k r (l ∷ []) ≡ lines_for r t
only_shown k r l t is = elim (cases_Bool (is_member r)) [
  | inl full ↦ rw is (rw full refl)
  | inr part ↦ rw is (rw part refl)
]

common_shown : (k : ℕ) (r : Role) (ls : List Stored) (t : List ℕ) → common_line ls ≡ Some t → shown_lines k r ls ≡ lines_for r t
common_shown k r [] t is = absurd (let wrong : None ≡ Some t = is in cc)
common_shown k r (l ∷ []) t is = only_shown k r l t (one_shown k r l t is)
common_shown k r (l ∷ m ∷ ls) t is = absurd (let wrong : None ≡ Some t = is in cc)

common_parts : (join : Option Joined) (ls : List Stored) (t : List ℕ) → common_unless join ls ≡ Some t → (join ≡ None) × (common_line ls ≡ Some t)
common_parts None ls t is = (refl, is)
common_parts (Some join) ls t is = absurd (let wrong : None ≡ Some t = is in cc)

nobody_joins : (b : Bool) (join : Option Joined) → join ≡ None → (if b then join else None) ≡ None
nobody_joins true join none = none
nobody_joins false join none = refl

common_message : (k : ℕ) (s : Kept) (h : LogEntry) (t : List ℕ) → common_text h ≡ Some t → next_message k s h ≡ lines_for (role k (record_in s.room)) t
unfolding next_message
common_message k s h t is =
    let parts = common_parts h.join h.lines t is in
    plain_message k (role k (record_in s.room)) s.backlog h (nobody_joins (k == h.conn) h.join parts.0)
    ∙ common_shown k (role k (record_in s.room)) h.lines t parts.1

-- ---- heads

head_flat : (d f a n b l : List ℕ) → ((d ++ f ++ a ++ n) ++ d ++ b) ++ (l ++ n) ≡ (d ++ f ++ a ++ n) ++ ((d ++ b ++ l ++ n) ++ [])
head_flat d f a n b l = search (rules, append_assoc, append-nil)

head_printed : (k : ℕ) (id line : List ℕ) → HasNoNewline line → head_text id k ++ (line ++ 10 ∷ []) ≡ printed k (with_id (Some id) (line ∷ []))
head_printed k id line plain =
    head_flat (decimal k) (codes "< ") (line_behind (decimal k) (codes ">" ++ id)) (10 ∷ []) (codes ". ") line
    ∙ ap (λ (end : List ℕ). first_line k (codes ">" ++ id) ++ ((decimal k ++ codes ". " ++ end ++ 10 ∷ []) ++ [])) (sym (plain_line (decimal k) line plain))

headed_is : (id end : List ℕ) (n last : ℕ) (conns : List ℕ) → each_headed end n last (map (head_of id) conns) ≡ each_of (λ conn. head_text id conn ++ end) n last conns
headed_is id end n last [] = refl
headed_is id end n last (conn ∷ conns) = rw (headed_is id end n conn conns) (rw (headed_is id end n last conns) refl)

no_lines : (k : ℕ) (id : List ℕ) (r : Role) (t : List ℕ) → is_member r ≡ false → printed k (with_id (Some id) (lines_for r t)) ≡ []
no_lines k id r t out = rw out refl

one_line : (k : ℕ) (id : List ℕ) (r : Role) (t : List ℕ) → HasNoNewline t → is_member r ≡ true → printed k (with_id (Some id) (lines_for r t)) ≡ head_text id k ++ (t ++ 10 ∷ [])
one_line k id r t plain full = rw full (sym (head_printed k id t plain))

-- what a line prints behind the heads of the members is what is printed for all
pub all_headed : (s : Kept) (h : LogEntry) (t : List ℕ) (count : ℕ) (heads : List Head) → common_text h ≡ Some t → HasNoNewline t → HasHeads s heads
    → each_headed (t ++ 10 ∷ []) count 0 heads ≡ each_to (λ conn. printed conn (with_id (Some s.room.id) (next_message conn s h))) count
all_headed s h t count heads is plain ready =
    let told : (k : ℕ) → printed k (with_id (Some s.room.id) (next_message k s h)) ≡ printed k (with_id (Some s.room.id) (lines_for (role k (record_in s.room)) t)) =
    λ k. ap (λ (ls : List (List ℕ)). printed k (with_id (Some s.room.id) ls)) (common_message k s h t is) in
    ap (each_headed (t ++ 10 ∷ []) count 0) ready.heads_are
    ∙ headed_is s.room.id (t ++ 10 ∷ []) count 0 ready.conns
    ∙ each_same (λ conn. head_text s.room.id conn ++ (t ++ 10 ∷ [])) (λ conn. printed conn (with_id (Some s.room.id) (next_message conn s h))) count 0 ready.conns
    (λ k there. sym (told k ∙ one_line k s.room.id (role k (record_in s.room)) t plain (sym (ready.members k) ∙ there)))
    ∙ each_silent (λ conn. printed conn (with_id (Some s.room.id) (next_message conn s h))) count ready.conns ready.sorted
    (λ k out. told k ∙ no_lines k s.room.id (role k (record_in s.room)) t (sym (ready.members k) ∙ out))

-- the heads of the members are ready,
pub made : (s : Kept) (heads : List Head) (conns : List ℕ) → heads ≡ map (head_of s.room.id) conns → IsPermutation (map conn_of (presents_of (record_in s.room))) conns → IsSorted nat_cmp conns → HasHeads s heads
made s heads conns are same sorted = record {
  conns = conns;
  heads_are = are;
  sorted = sorted;
  members = λ k. by k (is_among k (map conn_of (presents_of (record_in s.room)))) refl;
}
  where
    by : (k : ℕ) (b : Bool) → is_among k (map conn_of (presents_of (record_in s.room))) ≡ b → is_among k conns ≡ is_member (role k (record_in s.room))
    by k true there = sym (list_any-IsPermutation (λ n. n == k) (map conn_of (presents_of (record_in s.room))) conns same) ∙ there ∙ sym (inside k s there)
    by k false out = sym (list_any-IsPermutation (λ n. n == k) (map conn_of (presents_of (record_in s.room))) conns same) ∙ out ∙ sym (ap is_member (outside k s out))

-- and are so after an entry that changes no member
untouched_by_cmd : (cmd : Command) (ps : List Present) (conn : ℕ) → changes_members cmd ≡ false → touched_by cmd ps conn ≡ []
untouched_by_cmd (Join room) ps conn not = absurd cc
untouched_by_cmd Leave ps conn not = absurd cc
untouched_by_cmd Quit ps conn not = absurd cc
untouched_by_cmd (Ban id reason) ps conn not = absurd cc
untouched_by_cmd (Promote id symbol) ps conn not = absurd cc
untouched_by_cmd (Say text) ps conn not = refl
untouched_by_cmd (Announce text) ps conn not = refl
untouched_by_cmd (Modnote text) ps conn not = refl
untouched_by_cmd (Warn id reason) ps conn not = refl
untouched_by_cmd (Mute id reason) ps conn not = refl
untouched_by_cmd (Unmute id) ps conn not = refl
untouched_by_cmd (Unban id) ps conn not = refl
untouched_by_cmd (Modchat symbol) ps conn not = refl
untouched_by_cmd (Choose choice rqid) ps conn not = refl
untouched_by_cmd Undo ps conn not = refl
untouched_by_cmd Forfeit ps conn not = refl

untouched_if : (why : Option Why) (r : Record) (e : Entry) → changes_members e.cmd ≡ false → touched_if why r e ≡ []
untouched_if (Some why) r e not = refl
untouched_if None r e not = untouched_by_cmd e.cmd (presents_of r) e.conn not

still_role : (k : ℕ) (s : Kept) (e : Entry) → changes_members e.cmd ≡ false → role k (record_in s.room) ≡ role k (record_in (kept_after s e).room)
unfolding role_in
still_role k s e not =
    ap (λ (cs : List ℕ). changed k (map (change_to (after (record_in s.room) e)) cs) (role k (record_in s.room))) (sym (untouched_if (verdict (record_in s.room) e) (record_in s.room) e not))
    ∙ role_next k (record_in s.room) e

still_has : (s : Kept) (e : Entry) (heads : List Head) → changes_members e.cmd ≡ false → HasHeads s heads → HasHeads (kept_after s e) heads
still_has s e heads not ready = record {
  conns = ready.conns;
  heads_are = ready.heads_are;
  sorted = ready.sorted;
  members = λ k. ready.members k ∙ ap is_member (still_role k s e not);
}

still_by : (s : Kept) (e : Entry) (ready : Bool) (heads : List Head) (b : Bool) → changes_members e.cmd ≡ b → AreReady s ready heads → (if b then false else ready) ≡ true → HasHeads (kept_after s e) heads
still_by s e ready heads true is old now = absurd cc
still_by s e ready heads false is old now = still_has s e heads is (old.are now)

pub still : (s new : Kept) (e : Entry) (ready now : Bool) (heads : List Head) → new ≡ kept_after s e → now ≡ still_ready ready e.cmd → AreReady s ready heads → AreReady new now heads
still s new e ready now heads is said old = record {
  are = λ t. subst (λ (x : Kept). HasHeads x heads) (sym is) (still_by s e ready heads (changes_members e.cmd) refl old (sym said ∙ t));
}

-- ---- what is printed for them is what is printed for all

pub all_heard : (s : Kept) (h : LogEntry) (count : ℕ) (conns : List ℕ) → IsPermutation (room_hearers s h) conns → IsSorted nat_cmp conns
    → each_of (λ conn. printed conn (with_id (Some s.room.id) (next_message conn s h))) count 0 conns ≡ each_to (λ conn. printed conn (with_id (Some s.room.id) (next_message conn s h))) count
all_heard s h count conns same sorted =
    each_heard (λ conn. printed conn (with_id (Some s.room.id) (next_message conn s h))) count (room_hearers s h) conns same sorted
    (λ k out. ap (λ (ls : List (List ℕ)). printed k (with_id (Some s.room.id) ls)) (no_message k s h out))

pub all_told : (ns : List Notice) (count : ℕ) (conns : List ℕ) → IsPermutation (notice_hearers ns) conns → IsSorted nat_cmp conns
    → each_of (λ conn. printed conn (with_id None (halls.message_of conn ns))) count 0 conns ≡ each_to (λ conn. printed conn (with_id None (halls.message_of conn ns))) count
all_told ns count conns same sorted =
    each_heard (λ conn. printed conn (with_id None (halls.message_of conn ns))) count (notice_hearers ns) conns same sorted
    (λ k out. ap (λ (ls : List (List ℕ)). printed k (with_id None ls)) (no_notice k ns out))
