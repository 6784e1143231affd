-- Entries that show nothing and leave nothing may as well be missing; so does a choice that is taken back at once.
use Rattle.std.proofs.Common.{◌≡◌, ◌⊎◌, ℕ, zero, suc, Bool, true, false, cond, List, [], ◌∷◌, ◌++◌, Option, Some, None, Result, Ok, Err, refl, ap, ◌∙◌, sym, inl, inr}
use Rattle.std.proofs.lemmas.Bool.{or_parts}
use Rattle.std.specs.Prelude.{◌==◌}
use Rattle.ps_base.specs.declared.why.Why.{Why}
use Rattle.ps_base.specs.declared.why.Why.TheVariants as whys
use Rattle.ps_lines.specs.declared.command.Command.TheVariants.{Choose, Undo}
use Rattle.ps_mon.specs.declared.choice.Choice.{Choice}
use Rattle.ps_mon.specs.declared.team.Member.{Member}
use Rattle.ps_mon.specs.declared.team.MoveSlot.{MoveSlot}
use Rattle.ps_mon.specs.Reading.{slot_of}
use Rattle.ps_mon.specs.Choices.{is_asked}
use Rattle.battle_rounds.specs.declared.bout.Bout.{Bout}
use Rattle.battle_rounds.specs.Bouts.{with_waiting, waiting}
use Rattle.battle_rounds.specs.Refusals.{chosen}
use Rattle.battle_rounds.specs.Fights.{Fight, refusal_in}
use Rattle.ps_dex.specs.declared.item.Tables.{Tables}
use Rattle.rules_start.specs.declared.start.Start.{Start}
use Rattle.battle_secrecy.specs.Places.{Hidden}
use Rattle.ps_chat.specs.Lookups.{member}
use Rattle.ps_room.specs.declared.entry.Entry.{Entry}
use Rattle.ps_room.specs.Records.{Record, presents_of, opened}
use Rattle.ps_room.specs.Roles.{side_of_member}
use Rattle.ps_room.specs.Rooms.{sender_of, verdict, after, run_record, refusal_by_battle}
use Rattle.ps_room.proofs.AnswerLemmas.{battle_allows}
use Rattle.ps_room.specs.Stories.{story}
use Rattle.ps_laws.specs.Users.{user_of, users_from, users}
use Rattle.ps_laws.specs.Rounds.{round_of}
use Rattle.ps_laws.specs.Hidden.{is_previewed, hidden_in_both, member_in}
use Rattle.ps_laws.specs.Low.{Item, whole, entry_kept, items_of, items_of_round, is_own, low_from}
use Rattle.ps_laws.specs.Same.{IsSlotSame, IsKindSame, IsMemberSame, IsNickSame, nick_in, AreBattlesSame, IdleMayBeMissing, UndoneLeavesNothing}
use Rattle.ps_laws.proofs.PartLemmas.{side_below}
use Rattle.ps_laws.proofs.ItemLemmas.{put_choice, waiting_in, waiting_fight, with_choice}
use Rattle.ps_laws.proofs.ChoiceLemmas.{Waits, Completes, choice_does}
use Rattle.ps_laws.proofs.StepLemmas.{waits_after, chat_choice_after, round_at}
use Rattle.ps_laws.proofs.OtherLemmas.{undo_after, chat_undo_after}

-- ---- openings are the same as themselves

pub slot_self : (hides : Bool) (x : MoveSlot) → IsSlotSame hides x x
slot_self true x = tt
slot_self false x = refl

kind_self : (preview : Bool) (m : Member) → IsKindSame preview m m
kind_self true m = record { species = refl; level = refl; types = refl; base_speed = refl }
kind_self false m = tt

pub member_self : (preview hidden : Bool) (hides : ℕ → Bool) (m : Member) → IsMemberSame preview hidden hides m m
member_self preview true hides m = kind_self preview m
member_self preview false hides m = record { front = refl; long = refl; slots = λ j. slot_self (hides j) (slot_of m j) }

pub nick_self : (hidden : Bool) (x : List ℕ) → IsNickSame hidden x x
nick_self true x = tt
nick_self false x = refl

pub battle_self : (preview : Bool) (places : Hidden) (bo : Option Start) → AreBattlesSame preview places bo bo
battle_self preview places None = tt
battle_self preview places (Some st) = record {
  number = refl;
  format = refl;
  players = refl;
  seed = refl;
  teams = λ s lt. record {
    count = refl;
    members = λ k below. member_self preview (places.member s k) (places.slot s k) (member_in st s k);
    long = refl;
    rest = λ k past. refl;
    nicks = λ k. nick_self (places.member s k) (nick_in st s k);
  };
}

-- ---- entries without items

-- they are of others
away_by : (conn : ℕ) (ids : List (List ℕ)) (r : Record) (e : Entry) (own : Bool) → is_own conn ids r e ≡ own → items_of conn ids r e ≡ [] → (e.conn == conn) ≡ false
away_by conn ids r e true own none = absurd (let some : whole (entry_kept r e) ∷ items_of_round r e ≡ [] = rw own at none in cc)
away_by conn ids r e false own none = (or_parts (e.conn == conn) _ own).0

no_items : (is js : List Item) → is ++ js ≡ [] → (is ≡ []) × (js ≡ [])
no_items [] js e = (refl, e)
no_items (i ∷ is) js e = absurd cc

idle_users : (conn : ℕ) (ids : List (List ℕ)) (r : Record) (es later : List Entry) → low_from conn ids r es ≡ [] → users_from conn r (es ++ later) ≡ users_from conn (run_record r es) later
idle_users conn ids r [] later none = refl
idle_users conn ids r (e ∷ es) later none =
    let n = no_items (items_of conn ids r e) (low_from conn ids (after r e) es) none in
    let away = away_by conn ids r e (is_own conn ids r e) refl n.0 in
    ap (λ (b : Bool). cond b (user_of r e ∷ []) [] ++ users_from conn (after r e) (es ++ later)) away ∙ idle_users conn ids (after r e) es later n.1

idle_low : (conn : ℕ) (ids : List (List ℕ)) (r : Record) (es later : List Entry) → low_from conn ids r es ≡ [] → low_from conn ids r (es ++ later) ≡ low_from conn ids (run_record r es) later
idle_low conn ids r [] later none = refl
idle_low conn ids r (e ∷ es) later none =
    let n = no_items (items_of conn ids r e) (low_from conn ids (after r e) es) none in
    ap (λ (is : List Item). is ++ low_from conn ids (after r e) (es ++ later)) n.0 ∙ idle_low conn ids (after r e) es later n.1

users_without : (conn : ℕ) (ids : List (List ℕ)) (r : Record) (before es later : List Entry) → low_from conn ids (run_record r before) es ≡ [] → run_record (run_record r before) es ≡ run_record r before → users_from conn r (before ++ (es ++ later)) ≡ users_from conn r (before ++ later)
users_without conn ids r [] es later none same = idle_users conn ids r es later none ∙ ap (λ (x : Record). users_from conn x later) same
users_without conn ids r (x ∷ xs) es later none same = ap (λ (us : List (List ℕ)). cond (x.conn == conn) (user_of r x ∷ []) [] ++ us) (users_without conn ids (after r x) xs es later none same)

low_without : (conn : ℕ) (ids : List (List ℕ)) (r : Record) (before es later : List Entry) → low_from conn ids (run_record r before) es ≡ [] → run_record (run_record r before) es ≡ run_record r before → low_from conn ids r (before ++ (es ++ later)) ≡ low_from conn ids r (before ++ later)
low_without conn ids r [] es later none same = idle_low conn ids r es later none ∙ ap (λ (x : Record). low_from conn ids x later) same
low_without conn ids r (x ∷ xs) es later none same = ap (λ (is : List Item). items_of conn ids r x ++ is) (low_without conn ids (after r x) xs es later none same)

pub idle_may_be_missing : IdleMayBeMissing
idle_may_be_missing conn o before es later fit none same =
    let ids = users conn (story o (before ++ later)) in
    record {
      first = fit;
      second = fit;
      histories =
          ap (λ (us : List (List ℕ)). low_from conn us (opened o) (before ++ (es ++ later))) (users_without conn ids (opened o) before es later none same)
          ∙ low_without conn ids (opened o) before es later none same;
      openings = record { no = refl; id = refl; title = refl; config = refl; dex = refl; battle = battle_self (is_previewed o.config o.battle) (hidden_in_both conn (story o (before ++ (es ++ later))) (story o (before ++ later))) o.battle };
    }

-- ---- a choice that is taken back

-- a side that may choose has no choice that waits
none_waits : (b : Bout) (s : ℕ) (dex : Tables) (text : List ℕ) (number : Option ℕ) (c : Choice) (asked : Bool) (w : Option Choice) → is_asked b.battle.phase s ≡ asked → waiting b s ≡ w → chosen b s dex text number ≡ Ok c → waiting b s ≡ None
unfolding chosen
none_waits b s dex text number c true None a w ok = w
none_waits b s dex text number c true (Some x) a w ok = absurd (let wrong : Err whys.AlreadyChosen ≡ Ok c = rw (a, w) at ok in cc)
none_waits b s dex text number c false w a is ok = absurd (let wrong : Err whys.NotYourTurn ≡ Ok c = rw a at ok in cc)

taken_back : (s : ℕ) (c : Choice) (b : Bout) → waiting b s ≡ None → with_waiting s None (with_waiting s (Some c) b) ≡ b
taken_back zero c b none = ap (λ (w : Option Choice). record b { first = w }) (sym none)
taken_back (suc s) c b none = ap (λ (w : Option Choice). record b { second = w }) (sym none)

back_to : (dex : Tables) (b : Bout) (s : ℕ) (choice : List ℕ) (rqid : Option ℕ) (x : Result Choice Why) → chosen b s dex choice rqid ≡ x → refusal_in dex b (Some s) (Choose choice rqid) ≡ None → with_waiting s None (put_choice s x b) ≡ b
back_to dex b s choice rqid (Ok c) is allowed = taken_back s c b (none_waits b s dex choice rqid c _ _ refl refl is)
back_to dex b s choice rqid (Err why) is allowed = absurd (let wrong : Some why ≡ None = rw is at allowed in cc)

same_sender : (r : Record) (e u : Entry) (choice : List ℕ) (rqid : Option ℕ) → u.conn ≡ e.conn → sender_of (with_choice r e choice rqid) u ≡ sender_of r e
same_sender r e u choice rqid same = ap (λ (conn : ℕ). member conn (presents_of r)) same

undone_side : (r : Record) (e u : Entry) (choice : List ℕ) (rqid : Option ℕ) (f : Fight) (side : Option ℕ) → u.cmd ≡ Undo → u.conn ≡ e.conn → r.battle ≡ Some f → side_of_member f.cast (sender_of r e) ≡ side → refusal_in f.cast.dex f.bout side (Choose choice rqid) ≡ None → verdict (with_choice r e choice rqid) u ≡ None → after (with_choice r e choice rqid) u ≡ r
undone_side r e u choice rqid f None is same b side allowed v = absurd cc
undone_side r e u choice rqid f (Some s) is same b side allowed v =
    let waits : Fight = record f { bout = put_choice s (chosen f.bout s f.cast.dex choice rqid) f.bout } in
    let battle : (with_choice r e choice rqid).battle ≡ Some waits = ap (λ (fo : Option Fight). waiting_fight fo (sender_of r e) choice rqid) b ∙ ap (λ (o : Option ℕ). Some (record f { bout = waiting_in f.cast.dex f.bout o choice rqid })) side in
    let plays : side_of_member waits.cast (sender_of (with_choice r e choice rqid) u) ≡ Some s = ap (side_of_member f.cast) (same_sender r e u choice rqid same) ∙ side in
    undo_after (with_choice r e choice rqid) u waits s is v battle plays
    ∙ ap (λ (x : Bout). record r { battle = Some (record f { bout = x }) }) (back_to f.cast.dex f.bout s choice rqid _ refl allowed)
    ∙ ap (λ (fo : Option Fight). record r { battle = fo }) (sym b)

undone_in : (r : Record) (e u : Entry) (choice : List ℕ) (rqid : Option ℕ) (fo : Option Fight) → e.cmd ≡ Choose choice rqid → u.cmd ≡ Undo → u.conn ≡ e.conn → verdict r e ≡ None → verdict (with_choice r e choice rqid) u ≡ None → r.battle ≡ fo → after (with_choice r e choice rqid) u ≡ r
undone_in r e u choice rqid None chooses is same v w b =
    let battle : (with_choice r e choice rqid).battle ≡ None = ap (λ (fo : Option Fight). waiting_fight fo (sender_of r e) choice rqid) b in
    chat_undo_after (with_choice r e choice rqid) u is w battle ∙ ap (λ (fo : Option Fight). record r { battle = fo }) (sym b)
undone_in r e u choice rqid (Some f) chooses is same v w b =
    let allowed : refusal_by_battle (Some f) (sender_of r e) (Choose choice rqid) ≡ None = ap (λ (fo : Option Fight). refusal_by_battle fo (sender_of r e) (Choose choice rqid)) (sym b) ∙ ap (refusal_by_battle r.battle (sender_of r e)) (sym chooses) ∙ battle_allows r e v in
    undone_side r e u choice rqid f (side_of_member f.cast (sender_of r e)) is same b refl allowed w

-- it waits, where it completes no round
waits_by : (r : Record) (e : Entry) (choice : List ℕ) (rqid : Option ℕ) (f : Fight) → e.cmd ≡ Choose choice rqid → verdict r e ≡ None → round_of r e ≡ None → r.battle ≡ Some f → Waits f (side_of_member f.cast (sender_of r e)) choice rqid ⊎ Completes f (side_of_member f.cast (sender_of r e)) choice rqid → after r e ≡ with_choice r e choice rqid
waits_by r e choice rqid f is v none b (inl w) = waits_after r e choice rqid f is v b w
waits_by r e choice rqid f is v none b (inr c) = absurd (let wrong : None ≡ Some _ = sym none ∙ round_at r e choice rqid f is v b ∙ c.round in cc)

-- what an allowed choice comes to in a battle
pub does_in : (r : Record) (e : Entry) (choice : List ℕ) (rqid : Option ℕ) (f : Fight) → e.cmd ≡ Choose choice rqid → verdict r e ≡ None → r.battle ≡ Some f → Waits f (side_of_member f.cast (sender_of r e)) choice rqid ⊎ Completes f (side_of_member f.cast (sender_of r e)) choice rqid
does_in r e choice rqid f is v b =
    let allowed : refusal_by_battle (Some f) (sender_of r e) (Choose choice rqid) ≡ None = ap (λ (fo : Option Fight). refusal_by_battle fo (sender_of r e) (Choose choice rqid)) (sym b) ∙ ap (refusal_by_battle r.battle (sender_of r e)) (sym is) ∙ battle_allows r e v in
    choice_does f (side_of_member f.cast (sender_of r e)) choice rqid (side_below f.cast (sender_of r e)) allowed

pub waits_in_room : (r : Record) (e : Entry) (choice : List ℕ) (rqid : Option ℕ) (fo : Option Fight) → e.cmd ≡ Choose choice rqid → verdict r e ≡ None → round_of r e ≡ None → r.battle ≡ fo → after r e ≡ with_choice r e choice rqid
waits_in_room r e choice rqid None is v none b = chat_choice_after r e choice rqid is v b
waits_in_room r e choice rqid (Some f) is v none b = waits_by r e choice rqid f is v none b (does_in r e choice rqid f is v b)

pub undone_leaves_nothing : UndoneLeavesNothing
undone_leaves_nothing r e u choice rqid chooses undoes same v none w =
    let waits : after r e ≡ with_choice r e choice rqid = waits_in_room r e choice rqid r.battle chooses v none refl in
    ap (λ (x : Record). after x u) waits
    ∙ undone_in r e u choice rqid r.battle chooses undoes same v (sym (ap (λ (x : Record). verdict x u) waits) ∙ w) refl
