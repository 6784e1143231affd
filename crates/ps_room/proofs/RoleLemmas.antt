-- The roles after an entry: those that it doesn't name stay.
use Rattle.std.proofs.Common.{◌≡◌, ℕ, ◌==◌, Bool, true, false, not, cond, List, [], ◌∷◌, ◌++◌, find, map, Option, Some, None, refl, sym, ap, ◌∙◌, inl, inr}
use Rattle.std.specs.List.{filter}
use Rattle.std.specs.Str.{bytes_eq}
use Rattle.std.specs.Cmp.Lexicographic.{nat_list_cmp_total}
use Rattle.std.specs.FinMap.{insert, get-insert}
use Rattle.std.proofs.lemmas.Bool.Decides.{eqb_tells}
use Rattle.std.proofs.lemmas.Map.Text.{is_eq-slice_cmp}
use Rattle.std.proofs.lemmas.Bool.{not-false}
use Rattle.ps_base.specs.Ids.{id_of}
use Rattle.ps_base.specs.declared.badge.Badge.{Badge}
use Rattle.ps_base.specs.declared.why.Why.{Why}
use Rattle.ps_group.specs.Ranks.{rank_of}
use Rattle.ps_group.specs.declared.group.Group.{Group}
use Rattle.ps_lines.specs.declared.command.Command.{Command}
use Rattle.ps_lines.specs.declared.command.Command.TheVariants.{Join, Leave, Quit, Say, Announce, Modnote, Warn, Mute, Unmute, Ban, Unban, Promote, Modchat, Choose, Undo, Forfeit}
use Rattle.ps_base.specs.ById.{ById}
use Rattle.ps_chat.specs.Records.{Opening as ChatOpening, Record as ChatRecord, Member}
use Rattle.ps_chat.specs.Lookups.{has_id, member, kept}
use Rattle.ps_chat.specs.Changes.{record_after, with_rank}
use Rattle.ps_chat.specs.Rooms.{present, presents}
use Rattle.ps_chat.specs.declared.present.Present.{Present}
use Rattle.ps_room.specs.declared.entry.Entry.{Entry}
use Rattle.ps_view.specs.declared.role.Role.{Role}
use Rattle.battle_rounds.specs.Casts.{Cast}
use Rattle.ps_room.specs.Records.{Record, cast_in}
use Rattle.ps_room.specs.Roles.{role_of}
use Rattle.ps_room.specs.Rooms.{verdict, sender_of, after, role, role_in}
use Rattle.ps_splitlog.specs.Entries.{changed}
use Rattle.ps_room.specs.Logs.{conns_with, touched_by, touched, change_to}
use Rattle.ps_room.proofs.AnswerLemmas.{after_allowed, after_refused}
use Rattle.ps_room.proofs.CastLemmas.{cast_after}

-- whether a list of connections names one
abbrev names : ℕ → List ℕ → Bool
names conn [] = false
names conn (c ∷ cs) = cond (c == conn) true (names conn cs)

-- ---- the members that aren't named

abbrev at : ℕ → Present → Bool
at conn p = p.conn == conn

module _ (f : Member → Present) (conn : ℕ) where
  find_push : (ms : List Member) (m : Member) → ((f m).conn == conn) ≡ false → find (at conn) (map f (ms ++ m ∷ [])) ≡ find (at conn) (map f ms)
  find_push [] m other = rw other refl
  find_push (x ∷ ms) m other = ap (cond ((f x).conn == conn) (Some (f x))) (find_push ms m other)

  kept_by : (test : Member → Bool) (m : Member) (ms : List Member) (b : Bool) → test m ≡ b → (b ≡ false → ((f m).conn == conn) ≡ false) → find (at conn) (map f (filter test ms)) ≡ find (at conn) (map f ms)
      → find (at conn) (map f (filter test (m ∷ ms))) ≡ find (at conn) (map f (m ∷ ms))
  kept_by test m ms true t out more = rw t (ap (cond ((f m).conn == conn) (Some (f m))) more)
  kept_by test m ms false t out more = rw (t, out refl) more

-- who leaves is another
left_by : (m from conn : ℕ) (b : Bool) → not (m == from) ≡ b → (from == conn) ≡ false → b ≡ false → (m == conn) ≡ false
left_by m from conn true t other e = absurd cc
left_by m from conn false t other e = elim (eqb_tells m from) [ inl same ↦ ap (λ (x : ℕ). x == conn) same.1 ∙ other | inr apart ↦ absurd (let k : true ≡ false = (rw apart.0 at t) in cc) ]

find_left : (f : Member → Present) (same : (m : Member) → (f m).conn ≡ m.conn) (from conn : ℕ) (ms : List Member) → (from == conn) ≡ false → find (at conn) (map f (filter (λ m. not (m.conn == from)) ms)) ≡ find (at conn) (map f ms)
find_left f same from conn [] other = refl
find_left f same from conn (m ∷ ms) other =
    kept_by f conn (λ x. not (x.conn == from)) m ms (not (m.conn == from)) refl (λ e. ap (λ (x : ℕ). x == conn) (same m) ∙ left_by m.conn from conn (not (m.conn == from)) refl other e) (find_left f same from conn ms other)

-- ---- those with an id

first_not_named : (c conn : ℕ) (cs : List ℕ) → names conn (c ∷ cs) ≡ false → (c == conn) ≡ false
first_not_named c conn cs h = by (c == conn) h
  where
    by : (b : Bool) → cond b true (names conn cs) ≡ false → b ≡ false
    by true e = absurd cc
    by false e = refl

others_not_named : (c conn : ℕ) (cs : List ℕ) → names conn (c ∷ cs) ≡ false → names conn cs ≡ false
others_not_named c conn cs h = by (c == conn) h
  where
    by : (b : Bool) → cond b true (names conn cs) ≡ false → names conn cs ≡ false
    by true e = absurd cc
    by false e = e

-- a member that has the id is another, and so on among the others
with_id_by : (id : List ℕ) (conn : ℕ) (p : Present) (ps : List Present) (b : Bool) → has_id id p ≡ b → names conn (conns_with id (p ∷ ps)) ≡ false → (b ≡ true → (p.conn == conn) ≡ false)
with_id_by id conn p ps true t h = let k : names conn (p.conn ∷ conns_with id ps) ≡ false = (rw t at h) in λ e. first_not_named p.conn conn (conns_with id ps) k
with_id_by id conn p ps false t h = λ e. absurd cc

among_by : (id : List ℕ) (conn : ℕ) (p : Present) (ps : List Present) (b : Bool) → has_id id p ≡ b → names conn (conns_with id (p ∷ ps)) ≡ false → names conn (conns_with id ps) ≡ false
among_by id conn p ps true t h = let k : names conn (p.conn ∷ conns_with id ps) ≡ false = (rw t at h) in others_not_named p.conn conn (conns_with id ps) k
among_by id conn p ps false t h = rw t at h

find_banned : (groups : List Group) (ranks : ById ℕ) (id : List ℕ) (conn : ℕ) (ms : List Member) → names conn (conns_with id (map (present groups ranks) ms)) ≡ false
    → find (at conn) (map (present groups ranks) (filter (λ m. not (bytes_eq (id_of m.badge.name) id)) ms)) ≡ find (at conn) (map (present groups ranks) ms)
find_banned groups ranks id conn [] h = refl
find_banned groups ranks id conn (m ∷ ms) h =
    let p : Present = present groups ranks m in
    kept_by (present groups ranks) conn (λ x. not (bytes_eq (id_of x.badge.name) id)) m ms (not (has_id id p)) refl (λ e. with_id_by id conn p (map (present groups ranks) ms) (has_id id p) refl h (not-false (has_id id p) e))
    (find_banned groups ranks id conn ms (among_by id conn p (map (present groups ranks) ms) (has_id id p) refl h))

-- a room rank is that of its id alone
ranked_by : (groups : List Group) (ranks : ById ℕ) (id : List ℕ) (new conn : ℕ) (m : Member) (old now : List Present) (b : Bool) → bytes_eq (id_of m.badge.name) id ≡ b → (b ≡ true → (m.conn == conn) ≡ false)
    → find (at conn) now ≡ find (at conn) old
    → find (at conn) (present groups (insert ranks id new) m ∷ now) ≡ find (at conn) (present groups ranks m ∷ old)
ranked_by groups ranks id new conn m old now true t out more = rw (out refl) more
ranked_by groups ranks id new conn m old now false t out more =
    let same : present groups (insert ranks id new) m ≡ present groups ranks m = rw (get-insert nat_list_cmp_total ranks id new (id_of m.badge.name), is_eq-slice_cmp (id_of m.badge.name) id, t) refl in
    ap (λ (p : Present). cond (m.conn == conn) (Some p) (find (at conn) now)) same ∙ ap (cond (m.conn == conn) (Some (present groups ranks m))) more

find_ranked : (groups : List Group) (ranks : ById ℕ) (id : List ℕ) (new conn : ℕ) (ms : List Member) → names conn (conns_with id (map (present groups ranks) ms)) ≡ false
    → find (at conn) (map (present groups (insert ranks id new)) ms) ≡ find (at conn) (map (present groups ranks) ms)
find_ranked groups ranks id new conn [] h = refl
find_ranked groups ranks id new conn (m ∷ ms) h =
    let p : Present = present groups ranks m in
    ranked_by groups ranks id new conn m (map (present groups ranks) ms) (map (present groups (insert ranks id new)) ms) (has_id id p) refl (with_id_by id conn p (map (present groups ranks) ms) (has_id id p) refl h)
    (find_ranked groups ranks id new conn ms (among_by id conn p (map (present groups ranks) ms) (has_id id p) refl h))

find_promoted : (o : ChatOpening) (chat : ChatRecord) (id : List ℕ) (conn : ℕ) (rank : Option ℕ) → names conn (conns_with id (presents o chat)) ≡ false → member conn (presents o (with_rank chat id rank)) ≡ member conn (presents o chat)
find_promoted o chat id conn None h = refl
find_promoted o chat id conn (Some rank) h = find_ranked o.groups chat.ranks id rank conn chat.members h

-- ---- the member of a connection that an allowed entry doesn't name

unnamed : (o : ChatOpening) (chat : ChatRecord) (conn from : ℕ) (badge : Badge) (moment : ℕ) (cmd : Command) → names conn (touched_by cmd (presents o chat) from) ≡ false
    → member conn (presents o (record_after o.groups chat from badge moment cmd)) ≡ member conn (presents o chat)
unnamed o chat conn from badge moment (Join room) h = find_push (present o.groups chat.ranks) conn chat.members (record { conn = from; badge = kept o.groups badge }) (first_not_named from conn [] h)
unnamed o chat conn from badge moment Leave h = find_left (present o.groups chat.ranks) (λ m. refl) from conn chat.members (first_not_named from conn [] h)
unnamed o chat conn from badge moment Quit h = find_left (present o.groups chat.ranks) (λ m. refl) from conn chat.members (first_not_named from conn [] h)
unnamed o chat conn from badge moment (Say text) h = refl
unnamed o chat conn from badge moment (Announce text) h = refl
unnamed o chat conn from badge moment (Modnote text) h = refl
unnamed o chat conn from badge moment (Warn id reason) h = refl
unnamed o chat conn from badge moment (Mute id reason) h = refl
unnamed o chat conn from badge moment (Unmute id) h = refl
unnamed o chat conn from badge moment (Ban id reason) h = find_banned o.groups chat.ranks id conn chat.members h
unnamed o chat conn from badge moment (Unban id) h = refl
unnamed o chat conn from badge moment (Promote id symbol) h = find_promoted o chat id conn (rank_of symbol o.groups) h
unnamed o chat conn from badge moment (Modchat symbol) h = refl
unnamed o chat conn from badge moment (Choose choice rqid) h = refl
unnamed o chat conn from badge moment Undo h = refl
unnamed o chat conn from badge moment Forfeit h = refl

-- ---- the role after an entry

untouched_by : (conn : ℕ) (r : Record) (e : Entry) (v : Option Why) → verdict r e ≡ v → names conn (touched r e) ≡ false → role conn (after r e) ≡ role conn r
unfolding role_in
untouched_by conn r e (Some why) v h = ap (role conn) (after_refused r e why v)
untouched_by conn r e None v h =
    ap (role conn) (after_allowed r e v)
    ∙ ap (λ (cast : Option Cast). role_of cast (member conn (presents r.opening (record_after r.opening.groups r.chat e.conn e.badge e.moment e.cmd)))) (cast_after r.battle (sender_of r e) e.cmd)
    ∙ ap (role_of (cast_in r.battle)) (unnamed r.opening r.chat conn e.conn e.badge e.moment e.cmd (rw v at h))

-- what the changes give is the role that they were given
changed_by : (conn : ℕ) (r : Record) (old : Role) (cs : List ℕ) (b : Bool) → names conn cs ≡ b → changed conn (map (change_to r) cs) old ≡ cond b (role conn r) old
changed_by conn r old [] true n = absurd cc
changed_by conn r old [] false n = refl
changed_by conn r old (c ∷ cs) b n = step (c == conn) refl n (changed_by conn r old cs b)
  where
    step : (t : Bool) → (c == conn) ≡ t → cond t true (names conn cs) ≡ b → (names conn cs ≡ b → changed conn (map (change_to r) cs) old ≡ cond b (role conn r) old) → changed conn (map (change_to r) (c ∷ cs)) old ≡ cond b (role conn r) old
    step true t is more = rw (t, ← is) (elim (eqb_tells c conn) [ inl same ↦ ap (λ (k : ℕ). role k r) same.1 | inr other ↦ absurd (let k : false ≡ true = (rw other.0 at t) in cc) ])
    step false t is more = rw t (more is)

pub role_next : (conn : ℕ) (r : Record) (e : Entry) → changed conn (map (change_to (after r e)) (touched r e)) (role conn r) ≡ role conn (after r e)
role_next conn r e = by (names conn (touched r e)) refl
  where
    by : (b : Bool) → names conn (touched r e) ≡ b → changed conn (map (change_to (after r e)) (touched r e)) (role conn r) ≡ role conn (after r e)
    by true n = changed_by conn (after r e) (role conn r) (touched r e) true n
    by false n = changed_by conn (after r e) (role conn r) (touched r e) false n ∙ sym (untouched_by conn r e (verdict r e) refl n)
