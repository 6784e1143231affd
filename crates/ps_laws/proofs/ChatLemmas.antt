-- The chat of a room takes its way by itself, so the low history tells as whom a connection joins.
use Rattle.std.proofs.Common.{◌≡◌, ℕ, Bool, true, false, cond, List, [], ◌∷◌, ◌++◌, Option, Some, None, refl, ap, ◌∙◌, sym}
use Rattle.std.specs.Prelude.{◌==◌}
use Rattle.ps_base.specs.Ids.{id_of}
use Rattle.ps_base.specs.declared.why.Why.{Why}
use Rattle.ps_lines.specs.declared.command.Command.{Command}
use Rattle.ps_lines.specs.declared.command.Command.TheVariants.{Modnote, Choose, Undo, Forfeit}
use Rattle.ps_mon.specs.declared.choice.Choice.{Choice}
use Rattle.battle_rounds.specs.Fights.{Fight, refusal_in}
use Rattle.ps_chat.specs.Lookups.{member}
use Rattle.ps_chat.specs.Records.{Record as ChatRecord, Opening as ChatOpening}
use Rattle.ps_chat.specs.Rooms.{presents}
use Rattle.ps_chat.specs.Changes.{record_after}
use Rattle.ps_chat.specs.Verdicts.{verdict as chat_verdict}
use Rattle.ps_room.specs.declared.entry.Entry.{Entry}
use Rattle.ps_room.specs.Records.{Record}
use Rattle.ps_room.specs.Roles.{side_of_member}
use Rattle.ps_room.specs.Rooms.{sender_of, verdict, after, after_by, refusal_by_battle, or_else, is_join}
use Rattle.ps_room.specs.Unseen.{sees_notes}
use Rattle.ps_laws.specs.Users.{badge_of, user_of}
use Rattle.ps_laws.specs.Rounds.{Round, round_of}
use Rattle.ps_laws.specs.Low.{Item, whole, commit, commit_of, entry_kept, items_of_others, items_of_allowed, items_of_own}
use Rattle.ps_laws.specs.HallLow.{is_user}
use Rattle.ps_laws.proofs.PartLemmas.{is_choose}
use Rattle.ps_laws.proofs.ItemLemmas.{item_after, items_after, whole_after, commit_after, whole_is}
use Rattle.ps_laws.proofs.BadgeLemmas.{join_user_kept}

-- ---- the chat after an entry

abbrev pub chat_by : Option Why → ChatOpening → ChatRecord → Entry → ChatRecord
chat_by (Some why) o chat e = chat
chat_by None o chat e = record_after o.groups chat e.conn e.badge e.moment e.cmd

abbrev pub chat_next : ChatOpening → ChatRecord → Entry → ChatRecord
chat_next o chat e = chat_by (chat_verdict o chat e.conn e.badge e.moment e.cmd) o chat e

battle_quiet_by : (r : Record) (e : Entry) (cmd : Command) (side : Option ℕ) (f : Fight) (why : Why) → e.cmd ≡ cmd → refusal_in f.cast.dex f.bout side cmd ≡ Some why → record_after r.opening.groups r.chat e.conn e.badge e.moment cmd ≡ r.chat
battle_quiet_by r e (Choose choice rqid) side f why is refused = refl
battle_quiet_by r e Undo side f why is refused = refl
battle_quiet_by r e Forfeit side f why is refused = refl
battle_quiet_by r e cmd None f why is refused = absurd cc
battle_quiet_by r e cmd (Some s) f why is refused = absurd cc

battle_quiet : (r : Record) (e : Entry) (fo : Option Fight) (why : Why) → refusal_by_battle fo (sender_of r e) e.cmd ≡ Some why → record_after r.opening.groups r.chat e.conn e.badge e.moment e.cmd ≡ r.chat
battle_quiet r e None why refused = absurd cc
battle_quiet r e (Some f) why refused = battle_quiet_by r e e.cmd (side_of_member f.cast (sender_of r e)) f why refl refused

-- the chat after an entry depends on the chat and the entry alone
chat_of_both : (r : Record) (e : Entry) (cv bv : Option Why) → chat_verdict r.opening r.chat e.conn e.badge e.moment e.cmd ≡ cv → refusal_by_battle r.battle (sender_of r e) e.cmd ≡ bv → (after_by (or_else cv bv) r e).chat ≡ chat_by cv r.opening r.chat e
chat_of_both r e (Some why) bv c b = refl
chat_of_both r e None None c b = refl
chat_of_both r e None (Some why) c b = sym (battle_quiet r e r.battle why b)

pub chat_after_is : (r : Record) (e : Entry) → (after r e).chat ≡ chat_next r.opening r.chat e
unfolding after verdict
chat_after_is r e = chat_of_both r e _ _ refl refl

opening_by : (r : Record) (e : Entry) (v : Option Why) → (after_by v r e).opening ≡ r.opening
opening_by r e (Some why) = refl
opening_by r e None = refl

pub opening_after : (r : Record) (e : Entry) → (after r e).opening ≡ r.opening
unfolding after
opening_after r e = opening_by r e (verdict r e)

-- ---- the chat after an item

whole_choose_chat : (r : Record) (e : Entry) (v : Option Why) (choice : List ℕ) (rqid : Option ℕ) → (whole_after v r e (Choose choice rqid)).chat ≡ r.chat
whole_choose_chat r e (Some why) choice rqid = refl
whole_choose_chat r e None choice rqid = refl

whole_choose_opening : (r : Record) (e : Entry) (v : Option Why) (choice : List ℕ) (rqid : Option ℕ) → (whole_after v r e (Choose choice rqid)).opening ≡ r.opening
whole_choose_opening r e (Some why) choice rqid = refl
whole_choose_opening r e None choice rqid = refl

next_choose : (o : ChatOpening) (chat : ChatRecord) (e : Entry) (v : Option Why) (choice : List ℕ) (rqid : Option ℕ) → e.cmd ≡ Choose choice rqid → chat_by v o chat e ≡ chat
next_choose o chat e (Some why) choice rqid is = refl
next_choose o chat e None choice rqid is = rw is refl

whole_chat_by : (r : Record) (e : Entry) (cmd : Command) → e.cmd ≡ cmd → (item_after r (whole e)).chat ≡ chat_next r.opening r.chat e
whole_chat_by r e (Choose choice rqid) is =
    ap (λ (c : Command). (whole_after (verdict r e) r e c).chat) is
    ∙ whole_choose_chat r e (verdict r e) choice rqid
    ∙ sym (next_choose r.opening r.chat e (chat_verdict r.opening r.chat e.conn e.badge e.moment e.cmd) choice rqid is)
whole_chat_by r e cmd is = ap (λ (x : Record). x.chat) (whole_is r e (ap is_choose is)) ∙ chat_after_is r e

pub whole_chat : (r : Record) (e : Entry) → (item_after r (whole e)).chat ≡ chat_next r.opening r.chat e
whole_chat r e = whole_chat_by r e e.cmd refl

whole_opening_by : (r : Record) (e : Entry) (cmd : Command) → e.cmd ≡ cmd → (item_after r (whole e)).opening ≡ r.opening
whole_opening_by r e (Choose choice rqid) is =
    ap (λ (c : Command). (whole_after (verdict r e) r e c).opening) is ∙ whole_choose_opening r e (verdict r e) choice rqid
whole_opening_by r e cmd is = ap (λ (x : Record). x.opening) (whole_is r e (ap is_choose is)) ∙ opening_after r e

pub whole_opening : (r : Record) (e : Entry) → (item_after r (whole e)).opening ≡ r.opening
whole_opening r e = whole_opening_by r e e.cmd refl

commit_chat_by : (r : Record) (fo : Option Fight) (one two : Choice) → (commit_after r fo one two).chat ≡ r.chat
commit_chat_by r None one two = refl
commit_chat_by r (Some f) one two = refl

commit_opening_by : (r : Record) (fo : Option Fight) (one two : Choice) → (commit_after r fo one two).opening ≡ r.opening
commit_opening_by r None one two = refl
commit_opening_by r (Some f) one two = refl

pub commit_chat : (r : Record) (one two : Choice) → (item_after r (commit one two)).chat ≡ r.chat
commit_chat r one two = commit_chat_by r r.battle one two

pub commit_opening : (r : Record) (one two : Choice) → (item_after r (commit one two)).opening ≡ r.opening
commit_opening r one two = commit_opening_by r r.battle one two

-- ---- over items

abbrev pub chat_over : ChatOpening → ChatRecord → List Item → ChatRecord
chat_over o chat [] = chat
chat_over o chat (whole e ∷ is) = chat_over o (chat_next o chat e) is
chat_over o chat (commit one two ∷ is) = chat_over o chat is

pub items_chat : (r : Record) (is : List Item) → (items_after r is).chat ≡ chat_over r.opening r.chat is
items_chat r [] = refl
items_chat r (whole e ∷ is) =
    items_chat (item_after r (whole e)) is
    ∙ ap (λ (o : ChatOpening). chat_over o (item_after r (whole e)).chat is) (whole_opening r e)
    ∙ ap (λ (chat : ChatRecord). chat_over r.opening chat is) (whole_chat r e)
items_chat r (commit one two ∷ is) =
    items_chat (item_after r (commit one two)) is
    ∙ ap (λ (o : ChatOpening). chat_over o (item_after r (commit one two)).chat is) (commit_opening r one two)
    ∙ ap (λ (chat : ChatRecord). chat_over r.opening chat is) (commit_chat r one two)

-- ---- who joins

-- the id of who makes an entry
abbrev pub chat_user : ChatOpening → ChatRecord → Entry → List ℕ
chat_user o chat e = id_of (badge_of (member e.conn (presents o chat)) e.badge).name

-- as the connection only users join, among items
abbrev pub JoinAsUsers : ℕ → List (List ℕ) → ChatOpening → ChatRecord → List Item → Type 0
JoinAsUsers conn ids o chat [] = Unit {0}
JoinAsUsers conn ids o chat (whole e ∷ is) = ((e.conn == conn) ≡ true → is_join e.cmd ≡ true → is_user ids (chat_user o chat e) ≡ true) × JoinAsUsers conn ids o (chat_next o chat e) is
JoinAsUsers conn ids o chat (commit one two ∷ is) = JoinAsUsers conn ids o chat is

pub joins_more : (conn : ℕ) (ids : List (List ℕ)) (o : ChatOpening) (chat : ChatRecord) (is js : List Item) → JoinAsUsers conn ids o chat is → JoinAsUsers conn ids o (chat_over o chat is) js → JoinAsUsers conn ids o chat (is ++ js)
joins_more conn ids o chat [] js h more = more
joins_more conn ids o chat (whole e ∷ is) js h more = (h.0, joins_more conn ids o (chat_next o chat e) is js h.1 more)
joins_more conn ids o chat (commit one two ∷ is) js h more = joins_more conn ids o chat is js h more

round_joins : (conn : ℕ) (ids : List (List ℕ)) (o : ChatOpening) (chat : ChatRecord) (x : Option Round) → JoinAsUsers conn ids o chat (commit_of x)
round_joins conn ids o chat None = tt
round_joins conn ids o chat (Some r) = tt

-- an entry of an own user
pub own_joins : (conn : ℕ) (ids : List (List ℕ)) (r : Record) (e : Entry) → ((e.conn == conn) ≡ true → is_user ids (user_of r e) ≡ true) → JoinAsUsers conn ids r.opening r.chat (items_of_own r e)
own_joins conn ids r e user = (
  λ mine joins. ap (is_user ids) (join_user_kept r e joins) ∙ user mine,
  round_joins conn ids r.opening (chat_next r.opening r.chat (entry_kept r e)) (round_of r e),
)

-- an entry of another connection
away_joins : (conn : ℕ) (ids : List (List ℕ)) (r : Record) (e : Entry) → (e.conn == conn) ≡ false → JoinAsUsers conn ids r.opening r.chat (whole (entry_kept r e) ∷ [])
away_joins conn ids r e other = (λ mine joins. absurd (let wrong : true ≡ false = sym mine ∙ other in cc), tt)

note_joins : (conn : ℕ) (ids : List (List ℕ)) (r : Record) (e : Entry) (sees : Bool) → (e.conn == conn) ≡ false → JoinAsUsers conn ids r.opening r.chat (cond sees (whole (entry_kept r e) ∷ []) [])
note_joins conn ids r e true other = away_joins conn ids r e other
note_joins conn ids r e false other = tt

allowed_joins : (conn : ℕ) (ids : List (List ℕ)) (r : Record) (e : Entry) (cmd : Command) → (e.conn == conn) ≡ false → JoinAsUsers conn ids r.opening r.chat (items_of_allowed conn r e cmd)
allowed_joins conn ids r e (Choose choice rqid) other = round_joins conn ids r.opening r.chat (round_of r e)
allowed_joins conn ids r e Undo other = tt
allowed_joins conn ids r e (Modnote text) other = note_joins conn ids r e (sees_notes conn r) other
allowed_joins conn ids r e rest other = away_joins conn ids r e other

pub others_joins : (conn : ℕ) (ids : List (List ℕ)) (r : Record) (e : Entry) (v : Option Why) → (e.conn == conn) ≡ false → JoinAsUsers conn ids r.opening r.chat (items_of_others conn r e v)
others_joins conn ids r e (Some why) other = tt
others_joins conn ids r e None other = allowed_joins conn ids r e e.cmd other
