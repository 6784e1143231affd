-- Histories of one world: a view is the view over the items of its history, which are fine and tell as whom the connection joins.
use Rattle.std.proofs.Common.{◌≡◌, ℕ, Bool, true, false, cond, ◌||◌, List, [], ◌∷◌, ◌++◌, Option, Some, None, option_to_list, append_assoc, refl, ap, ◌∙◌, sym, subst}
use Rattle.std.proofs.lemmas.Bool.{or_parts}
use Rattle.std.specs.Prelude.{◌==◌}
use Rattle.std.proofs.lemmas.Cmp.{nat_eq_equiv}
use Rattle.ps_base.specs.Ids.{id_of}
use Rattle.ps_base.specs.declared.why.Why.{Why}
use Rattle.ps_base.specs.Messages.{sent}
use Rattle.ps_lines.specs.declared.command.Command.{Command}
use Rattle.ps_lines.specs.declared.command.Command.TheVariants.{Join}
use Rattle.battle_rounds.specs.Fights.{Fight}
use Rattle.battle_secrecy.specs.Places.{Hidden}
use Rattle.ps_chat.specs.declared.present.Present.{Present}
use Rattle.ps_chat.specs.Records.{Record as ChatRecord, Opening as ChatOpening}
use Rattle.ps_room.specs.declared.entry.Entry.{Entry}
use Rattle.ps_room.specs.Records.{Record}
use Rattle.ps_room.specs.Rooms.{sender_of, verdict, after, battle_after, view, message, is_join, joiner_of}
use Rattle.ps_room.proofs.AnswerLemmas.{after_allowed, after_refused}
use Rattle.ps_laws.specs.Alike.{own_fight, own_part}
use Rattle.ps_laws.specs.Users.{user_of, users_from}
use Rattle.ps_laws.specs.Rounds.{Round, round_of, rounds_from}
use Rattle.ps_laws.specs.Low.{Item, items_of, is_own, low_from}
use Rattle.ps_laws.proofs.PartLemmas.{PlaysOwn, is_choice, verdict_free}
use Rattle.ps_laws.proofs.ItemLemmas.{item_after, items_after, items_view, item_message}
use Rattle.ps_laws.proofs.UserLemmas.{OwnsOf, own_of_member, own_of_sender, plays_own}
use Rattle.ps_laws.proofs.HomeLemmas.{AreHome, home_after, is_home, join_user}
use Rattle.ps_laws.proofs.WaitLemmas.{WaitsIn, waits_after_entry}
use Rattle.ps_laws.proofs.ShownLemmas.{AreUnshown}
use Rattle.ps_laws.proofs.FineLemmas.{AreFine, fine_more}
use Rattle.ps_laws.proofs.TwinLemmas.{IsEntryGood}
use Rattle.ps_laws.proofs.StepLemmas.{StandFor, own_entry}
use Rattle.ps_laws.proofs.OtherLemmas.{PlaysOther, other_entry}
use Rattle.ps_laws.proofs.ChatLemmas.{chat_over, JoinAsUsers, joins_more, own_joins, others_joins, items_chat, opening_after}
use Rattle.ps_laws.proofs.UserLists.{AreUsers}
use Rattle.ps_laws.specs.HallLow.{is_user}

-- ---- what holds of a world at any time

-- the own sides are those of the users, each member of the connection is one of them, and what waits may be committed
pub record IsSettled (conn : ℕ) (ids : List (List ℕ)) (own : ℕ → Bool) (r : Record) : Type 0 where
  pub owns : OwnsOf ids own r.battle
  pub home : AreHome conn ids r.chat.members
  pub waits : WaitsIn r.battle

pub battle_owns : (ids : List (List ℕ)) (own : ℕ → Bool) (fo : Option Fight) (me : Option Present) (cmd : Command) → OwnsOf ids own fo → OwnsOf ids own (battle_after fo me cmd)
battle_owns ids own None me cmd h = tt
battle_owns ids own (Some f) me cmd h = h

owns_by : (ids : List (List ℕ)) (own : ℕ → Bool) (r : Record) (e : Entry) (v : Option Why) → verdict r e ≡ v → OwnsOf ids own r.battle → OwnsOf ids own (after r e).battle
owns_by ids own r e (Some why) v h = subst (λ (x : Record). OwnsOf ids own x.battle) (sym (after_refused r e why v)) h
owns_by ids own r e None v h = subst (λ (x : Record). OwnsOf ids own x.battle) (sym (after_allowed r e v)) (battle_owns ids own r.battle (sender_of r e) e.cmd h)

pub settled_after : (conn : ℕ) (ids : List (List ℕ)) (own : ℕ → Bool) (r : Record) (e : Entry) → IsSettled conn ids own r → ((e.conn == conn) ≡ true → is_user ids (user_of r e) ≡ true) → IsSettled conn ids own (after r e)
settled_after conn ids own r e h user = record {
  owns = owns_by ids own r e (verdict r e) refl h.owns;
  home = home_after conn ids r e h.home (λ mine joins. user mine);
  waits = waits_after_entry r e h.waits;
}

-- ---- one entry

plays_of : (ids : List (List ℕ)) (own : ℕ → Bool) (r : Record) (e : Entry) (fo : Option Fight) → OwnsOf ids own fo → is_user ids (user_of r e) ≡ true → PlaysOwn own fo (sender_of r e)
plays_of ids own r e None owns user = tt
plays_of ids own r e (Some f) owns user = λ s side. own_of_sender ids own f r e s owns side ∙ user

plays_other_of : (ids : List (List ℕ)) (own : ℕ → Bool) (r : Record) (e : Entry) (fo : Option Fight) → OwnsOf ids own fo → is_user ids (user_of r e) ≡ false → PlaysOther own fo (sender_of r e)
plays_other_of ids own r e None owns user = tt
plays_other_of ids own r e (Some f) owns user = λ s side. own_of_sender ids own f r e s owns side ∙ user

part_plays : (own : ℕ → Bool) (fo : Option Fight) (me : Option Present) → PlaysOwn own fo me → PlaysOwn own (own_fight own fo) me
part_plays own None me h = tt
part_plays own (Some f) me h = h

joins_room : (cmd : Command) → is_join cmd ≡ true → (room : List ℕ) × (cmd ≡ Join room)
joins_room (Join room) e = (room, refl)
joins_room other e = absurd cc

joiner_plays : (ids : List (List ℕ)) (own : ℕ → Bool) (r : Record) (e : Entry) (fo : Option Fight) → OwnsOf ids own fo → is_user ids (id_of e.badge.name) ≡ true → PlaysOwn own fo (Some (joiner_of r e))
joiner_plays ids own r e None owns user = tt
joiner_plays ids own r e (Some f) owns user = λ s side. own_of_member ids own f (joiner_of r e) s owns side ∙ user

join_free : (cmd : Command) → is_join cmd ≡ true → is_choice cmd ≡ false
join_free (Join room) e = refl
join_free other e = absurd cc

own_good : (conn : ℕ) (ids : List (List ℕ)) (own : ℕ → Bool) (r : Record) (e : Entry) → OwnsOf ids own r.battle → is_user ids (user_of r e) ≡ true → IsEntryGood conn own (own_part own r) e
own_good conn ids own r e owns user = record {
  chooses = λ chooses. part_plays own r.battle (sender_of r e) (plays_of ids own r e r.battle owns user);
  joins = λ v mine joins.
      (let room = joins_room e.cmd joins in
      let allowed : verdict r e ≡ None = sym (verdict_free own r e (join_free e.cmd joins)) ∙ v in
      part_plays own r.battle (Some (joiner_of r e)) (joiner_plays ids own r e r.battle owns (sym (ap (is_user ids) (join_user r e room.0 room.1 allowed)) ∙ user)));
}

either_user : (mine user : Bool) → (mine || user) ≡ true → (mine ≡ true → user ≡ true) → user ≡ true
either_user true user e h = h refl
either_user false user e h = e

entry_by : (conn : ℕ) (ids : List (List ℕ)) (own : ℕ → Bool) (r : Record) (e : Entry) (mine : Bool) → is_own conn ids r e ≡ mine → IsSettled conn ids own r → ((e.conn == conn) ≡ true → is_user ids (user_of r e) ≡ true) → StandFor conn own r e (items_of conn ids r e)
entry_by conn ids own r e true is h user =
    let known : is_user ids (user_of r e) ≡ true = either_user (e.conn == conn) _ is user in
    rw is (own_entry conn own r e (plays_of ids own r e r.battle h.owns known) (own_good conn ids own r e h.owns known))
entry_by conn ids own r e false is h user =
    let n = or_parts (e.conn == conn) (is_user ids (user_of r e)) is in
    rw is (other_entry conn own r e (nat_eq_equiv.symm conn e.conn ∙ n.0) (plays_other_of ids own r e r.battle h.owns n.1) (λ s lt other. plays_own conn ids own r s h.owns (is_home conn ids r h.home) lt other))

-- the items of an entry stand for it
pub entry_stands : (conn : ℕ) (ids : List (List ℕ)) (own : ℕ → Bool) (r : Record) (e : Entry) → IsSettled conn ids own r → ((e.conn == conn) ≡ true → is_user ids (user_of r e) ≡ true) → StandFor conn own r e (items_of conn ids r e)
entry_stands conn ids own r e h user = entry_by conn ids own r e (is_own conn ids r e) refl h user

-- ---- histories

abbrev user_if : Bool → List ℕ → List (List ℕ)
user_if mine id = cond mine (id ∷ []) []

users_split : (ids : List (List ℕ)) (mine : Bool) (id : List ℕ) (more : List (List ℕ)) → AreUsers ids (user_if mine id ++ more) → (mine ≡ true → is_user ids id ≡ true) × AreUsers ids more
users_split ids true id more h = (λ e. h.0, h.1)
users_split ids false id more h = (λ e. absurd cc, h)

items_view_more : (conn : ℕ) (r : Record) (is js : List Item) → items_view conn r (is ++ js) ≡ items_view conn r is ++ items_view conn (items_after r is) js
items_view_more conn r [] js = refl
items_view_more conn r (i ∷ is) js =
    ap (λ (ms : List (List (List ℕ))). sent (item_message conn r i) ++ ms) (items_view_more conn (item_after r i) is js)
    ∙ sym (append_assoc (sent (item_message conn r i)) (items_view conn (item_after r i) is) _)

-- a view is the view over the items of its history
pub view_is : (conn : ℕ) (ids : List (List ℕ)) (own : ℕ → Bool) (r : Record) (es : List Entry) → IsSettled conn ids own r → AreUsers ids (users_from conn r es) → view conn r es ≡ items_view conn (own_part own r) (low_from conn ids r es)
view_is conn ids own r [] h users = refl
view_is conn ids own r (e ∷ es) h users =
    let u = users_split ids (e.conn == conn) (user_of r e) (users_from conn (after r e) es) users in
    let s = entry_stands conn ids own r e h u.0 in
    let more = view_is conn ids own (after r e) es (settled_after conn ids own r e h u.0) u.1 in
    ap (λ (ms : List (List (List ℕ))). sent (message conn r e) ++ ms) more
    ∙ ap (λ (ms : List (List (List ℕ))). ms ++ items_view conn (own_part own (after r e)) (low_from conn ids (after r e) es)) (sym s.view)
    ∙ ap (λ (x : Record). items_view conn (own_part own r) (items_of conn ids r e) ++ items_view conn x (low_from conn ids (after r e) es)) (sym s.after)
    ∙ sym (items_view_more conn (own_part own r) (items_of conn ids r e) (low_from conn ids (after r e) es))

pub unshown_split : (places : Hidden) (o : Option Round) (rs : List Round) → AreUnshown places (option_to_list o ++ rs) → AreUnshown places (option_to_list o) × AreUnshown places rs
unshown_split places None rs h = (tt, h)
unshown_split places (Some r) rs h = ((h.0, tt), h.1)

-- its items are fine where no round shows a hidden place
pub low_is_fine : (conn : ℕ) (ids : List (List ℕ)) (own : ℕ → Bool) (places : Hidden) (r : Record) (es : List Entry) → IsSettled conn ids own r → AreUsers ids (users_from conn r es) → AreUnshown places (rounds_from r es) → AreFine conn own places (own_part own r) (low_from conn ids r es)
low_is_fine conn ids own places r [] h users shown = tt
low_is_fine conn ids own places r (e ∷ es) h users shown =
    let u = users_split ids (e.conn == conn) (user_of r e) (users_from conn (after r e) es) users in
    let s = entry_stands conn ids own r e h u.0 in
    let rounds = unshown_split places (round_of r e) (rounds_from (after r e) es) shown in
    let more = low_is_fine conn ids own places (after r e) es (settled_after conn ids own r e h u.0) u.1 rounds.1 in
    fine_more conn own places (own_part own r) (items_of conn ids r e) (low_from conn ids (after r e) es) (s.fine places h.waits rounds.0)
    (subst (λ (x : Record). AreFine conn own places x (low_from conn ids (after r e) es)) (sym s.after) more)

entry_joins : (conn : ℕ) (ids : List (List ℕ)) (r : Record) (e : Entry) (mine : Bool) → is_own conn ids r e ≡ mine → ((e.conn == conn) ≡ true → is_user ids (user_of r e) ≡ true) → JoinAsUsers conn ids r.opening r.chat (items_of conn ids r e)
entry_joins conn ids r e true is user = rw is (own_joins conn ids r e user)
entry_joins conn ids r e false is user =
    let n = or_parts (e.conn == conn) (is_user ids (user_of r e)) is in
    rw is (others_joins conn ids r e (verdict r e) n.0)

-- and among its items only users join as the connection
pub low_joins : (conn : ℕ) (ids : List (List ℕ)) (own : ℕ → Bool) (r : Record) (es : List Entry) → IsSettled conn ids own r → AreUsers ids (users_from conn r es) → JoinAsUsers conn ids r.opening r.chat (low_from conn ids r es)
low_joins conn ids own r [] h users = tt
low_joins conn ids own r (e ∷ es) h users =
    let u = users_split ids (e.conn == conn) (user_of r e) (users_from conn (after r e) es) users in
    let s = entry_stands conn ids own r e h u.0 in
    let more = low_joins conn ids own (after r e) es (settled_after conn ids own r e h u.0) u.1 in
    let js = low_from conn ids (after r e) es in
    let chat : (after r e).chat ≡ chat_over r.opening r.chat (items_of conn ids r e) = ap (λ (x : Record). x.chat) (sym s.after) ∙ items_chat (own_part own r) (items_of conn ids r e) in
    joins_more conn ids r.opening r.chat (items_of conn ids r e) js (entry_joins conn ids r e (is_own conn ids r e) refl u.0)
    (subst (λ (c : ChatRecord). JoinAsUsers conn ids r.opening c js) chat (subst (λ (o : ChatOpening). JoinAsUsers conn ids o (after r e).chat js) (opening_after r e) more))
