-- Two worlds: from records that are alike equal low histories give equal views.
use Rattle.std.proofs.Common.{◌≡◌, ℕ, Bool, List, [], ◌∷◌, ◌++◌, Option, Some, None, refl, ap, ◌∙◌, sym, subst}
use Rattle.ps_base.specs.declared.why.Why.{Why}
use Rattle.ps_base.specs.Messages.{sent}
use Rattle.ps_lines.specs.declared.command.Command.{Command}
use Rattle.ps_lines.specs.declared.command.Command.TheVariants.{Choose}
use Rattle.ps_mon.specs.declared.choice.Choice.{Choice}
use Rattle.battle_rounds.specs.Fights.{Fight}
use Rattle.battle_secrecy.specs.Places.{Hidden}
use Rattle.ps_chat.specs.declared.present.Present.{Present}
use Rattle.ps_chat.specs.Records.{Record as ChatRecord, Opening as ChatOpening}
use Rattle.ps_room.specs.declared.entry.Entry.{Entry}
use Rattle.ps_room.specs.Records.{Record}
use Rattle.ps_room.specs.Rooms.{sender_of, verdict}
use Rattle.ps_laws.specs.Alike.{AreAlike}
use Rattle.ps_laws.specs.Low.{Item, whole, commit}
use Rattle.ps_laws.proofs.ItemLemmas.{item_after, item_message, items_view, whole_after, commit_after, waiting_fight}
use Rattle.ps_laws.proofs.UserLemmas.{OwnsOf}
use Rattle.ps_laws.proofs.HomeLemmas.{AreHome, home_after, is_home}
use Rattle.ps_laws.proofs.FineLemmas.{AreFine, fine_is_good}
use Rattle.ps_laws.proofs.TwinSideLemmas.{IsOpen}
use Rattle.ps_laws.proofs.TwinLemmas.{item_alike}
use Rattle.ps_laws.proofs.ChatLemmas.{chat_next, JoinAsUsers, whole_chat, whole_opening, commit_chat, commit_opening, chat_after_is}
use Rattle.ps_laws.proofs.HistoryLemmas.{battle_owns}

-- ---- what an item keeps

waiting_owns : (ids : List (List ℕ)) (own : ℕ → Bool) (fo : Option Fight) (me : Option Present) (choice : List ℕ) (rqid : Option ℕ) → OwnsOf ids own fo → OwnsOf ids own (waiting_fight fo me choice rqid)
waiting_owns ids own None me choice rqid h = tt
waiting_owns ids own (Some f) me choice rqid h = h

whole_owns : (ids : List (List ℕ)) (own : ℕ → Bool) (r : Record) (e : Entry) (v : Option Why) (cmd : Command) → e.cmd ≡ cmd → OwnsOf ids own r.battle → OwnsOf ids own (whole_after v r e cmd).battle
whole_owns ids own r e (Some why) cmd is h = h
whole_owns ids own r e None (Choose choice rqid) is h = waiting_owns ids own r.battle (sender_of r e) choice rqid h
whole_owns ids own r e None rest is h = battle_owns ids own r.battle (sender_of r e) e.cmd h

commit_owns : (ids : List (List ℕ)) (own : ℕ → Bool) (r : Record) (fo : Option Fight) (one two : Choice) → fo ≡ r.battle → OwnsOf ids own fo → OwnsOf ids own (commit_after r fo one two).battle
commit_owns ids own r None one two is h = subst (OwnsOf ids own) is tt
commit_owns ids own r (Some f) one two is h = h

item_owns : (ids : List (List ℕ)) (own : ℕ → Bool) (r : Record) (i : Item) → OwnsOf ids own r.battle → OwnsOf ids own (item_after r i).battle
item_owns ids own r (whole e) h = whole_owns ids own r e (verdict r e) e.cmd refl h
item_owns ids own r (commit one two) h = commit_owns ids own r r.battle one two refl h

item_home : (conn : ℕ) (ids : List (List ℕ)) (r : Record) (i : Item) (is : List Item) → AreHome conn ids r.chat.members → JoinAsUsers conn ids r.opening r.chat (i ∷ is) → AreHome conn ids (item_after r i).chat.members × JoinAsUsers conn ids (item_after r i).opening (item_after r i).chat is
item_home conn ids r (whole e) is h joins =
    let home : AreHome conn ids (chat_next r.opening r.chat e).members = subst (λ (c : ChatRecord). AreHome conn ids c.members) (chat_after_is r e) (home_after conn ids r e h joins.0) in (
      subst (λ (c : ChatRecord). AreHome conn ids c.members) (sym (whole_chat r e)) home,
      subst (λ (o : ChatOpening). JoinAsUsers conn ids o (item_after r (whole e)).chat is) (sym (whole_opening r e))
          (subst (λ (c : ChatRecord). JoinAsUsers conn ids r.opening c is) (sym (whole_chat r e)) joins.1),
    )
item_home conn ids r (commit one two) is h joins = (
  subst (λ (c : ChatRecord). AreHome conn ids c.members) (sym (commit_chat r one two)) h,
  subst (λ (o : ChatOpening). JoinAsUsers conn ids o (item_after r (commit one two)).chat is) (sym (commit_opening r one two))
      (subst (λ (c : ChatRecord). JoinAsUsers conn ids r.opening c is) (sym (commit_chat r one two)) joins),
)

-- ---- items

-- from records that are alike equal items give equal views
pub views_alike : (conn : ℕ) (ids : List (List ℕ)) (own : ℕ → Bool) (places : Hidden) (one two : Record) (is : List Item) → OwnsOf ids own one.battle → AreHome conn ids one.chat.members → JoinAsUsers conn ids one.opening one.chat is → IsOpen own places → AreFine conn own places one is → AreAlike places one two → items_view conn one is ≡ items_view conn two is
views_alike conn ids own places one two [] owns home joins plain fine w = refl
views_alike conn ids own places one two (i ∷ is) owns home joins plain fine w =
    let step = item_alike conn ids own places one two i owns (is_home conn ids one home) plain (fine_is_good conn own places one two i w fine.0) w in
    let later = item_home conn ids one i is home joins in
    ap (λ (m : List (List ℕ)). sent m ++ items_view conn (item_after one i) is) step.equal
    ∙ ap (λ (ms : List (List (List ℕ))). sent (item_message conn two i) ++ ms) (views_alike conn ids own places (item_after one i) (item_after two i) is (item_owns ids own one i owns) later.0 later.1 plain fine.1 step.alike)
