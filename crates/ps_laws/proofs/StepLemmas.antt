-- One entry in one world: its items make of what a connection knows of the record what the entry makes of the record, and give the
-- connection what the entry gives it.
use Rattle.std.proofs.Common.{◌≡◌, ◌⊎◌, ℕ, Bool, true, false, List, [], ◌∷◌, ◌++◌, Option, Some, None, option_to_list, append-nil, refl, ap, ◌∙◌, sym, subst, inl, inr}
use Rattle.ps_base.specs.declared.why.Why.{Why}
use Rattle.ps_base.specs.Messages.{sent}
use Rattle.ps_lines.specs.declared.command.Command.{Command}
use Rattle.ps_lines.specs.declared.command.Command.TheVariants.{Choose}
use Rattle.ps_view.specs.declared.role.Role.{Role}
use Rattle.battle_rounds.specs.declared.bout.Bout.{Bout}
use Rattle.battle_rounds.specs.Rounds.{Outcome}
use Rattle.battle_rounds.specs.Fights.{Fight, outcome_in, requests}
use Rattle.ps_dex.specs.Figures.{figures_of}
use Rattle.ps_mon.specs.declared.choice.Choice.{Choice}
use Rattle.ps_chat.specs.declared.present.Present.{Present}
use Rattle.ps_chat.specs.Told.{lines}
use Rattle.ps_room.specs.declared.entry.Entry.{Entry}
use Rattle.ps_room.specs.Records.{Record, cast_in}
use Rattle.ps_room.specs.Roles.{side_of_member}
use Rattle.ps_room.specs.Rooms.{sender_of, verdict, told, after, message, role, refusal_by_battle, logged_of, shown_events, seen_texts, role_in, joiner_of}
use Rattle.ps_room.proofs.AnswerLemmas.{after_allowed, after_refused, battle_allows}
use Rattle.ps_laws.specs.Alike.{own_fight, own_part}
use Rattle.ps_laws.specs.Rounds.{Round, round_of_choices, round_of}
use Rattle.ps_laws.proofs.RoundParts.{round_of_member, round_if_allowed, round_in}
use Rattle.ps_laws.specs.Low.{Item, whole, commit, commit_of, entry_kept, items_of_round, items_of_own}
use Rattle.ps_laws.proofs.PartLemmas.{PlaysOwn, side_below, is_choose, verdict_own, after_own, message_own, role_own, cast_own}
use Rattle.ps_laws.proofs.ItemLemmas.{item_after, item_message, items_after, items_view, whole_after, whole_message, whole_is, whole_message_is, with_choice, waiting_fight, outcome_of_choices, commit_after, commit_message, choice_message}
use Rattle.ps_laws.proofs.ChoiceLemmas.{Waits, Completes, choice_does, fight_waiting_own, waiting_outcome, round_own}
use Rattle.battle_secrecy.specs.Places.{Hidden}
use Rattle.ps_laws.proofs.WaitLemmas.{WaitsIn}
use Rattle.ps_laws.proofs.ShownLemmas.{AreUnshown}
use Rattle.ps_laws.proofs.BadgeLemmas.{verdict_kept, join_kept, message_kept, after_kept, round_kept}
use Rattle.ps_laws.proofs.TwinLemmas.{IsEntryGood}
use Rattle.ps_laws.proofs.FineLemmas.{IsFineRound, AreFineChoices, AreFine, fine_with_choice, unshown_round}

-- The items of an entry stand for it. They are fine where what waits may be committed and the entry's round shows no hidden place.
pub record StandFor (conn : ℕ) (own : ℕ → Bool) (r : Record) (e : Entry) (items : List Item) : Type 0 where
  pub after : items_after (own_part own r) items ≡ own_part own (after r e)
  pub view : items_view conn (own_part own r) items ≡ sent (message conn r e)
  pub fine : (places : Hidden) → WaitsIn r.battle → AreUnshown places (option_to_list (round_of r e)) → AreFine conn own places (own_part own r) items

-- ---- no round but by a choice

round_none_side : (f : Fight) (side : Option ℕ) (cmd : Command) → is_choose cmd ≡ false → round_in f.cast.dex f.bout side cmd ≡ None
round_none_side f None cmd free = refl
round_none_side f (Some s) (Choose choice rqid) free = absurd cc
round_none_side f (Some s) other free = refl

round_none_in : (fo : Option Fight) (me : Option Present) (cmd : Command) → is_choose cmd ≡ false → round_of_member fo me cmd ≡ None
round_none_in None me cmd free = refl
round_none_in (Some f) me cmd free = round_none_side f (side_of_member f.cast me) cmd free

round_none_by : (r : Record) (e : Entry) (v : Option Why) (cmd : Command) → e.cmd ≡ cmd → is_choose cmd ≡ false → round_if_allowed v r e ≡ None
round_none_by r e (Some why) cmd is free = refl
round_none_by r e None (Choose choice rqid) is free = absurd cc
round_none_by r e None cmd is free = round_none_in r.battle (sender_of r e) e.cmd (ap is_choose is ∙ free)

pub round_none : (r : Record) (e : Entry) → is_choose e.cmd ≡ false → round_of r e ≡ None
round_none r e free = round_none_by r e (verdict r e) e.cmd refl free

-- ---- an entry that isn't a choice, whole

-- one item by itself
pub one_item : (conn : ℕ) (own : ℕ → Bool) (r : Record) (e : Entry) → IsEntryGood conn own (own_part own r) e → is_choose e.cmd ≡ false → verdict (own_part own r) e ≡ verdict r e → StandFor conn own r e (whole e ∷ [])
one_item conn own r e good free v = record {
  after = whole_is (own_part own r) e free ∙ after_own own r e free v;
  view =
      append-nil _
      ∙ ap sent (whole_message_is conn (own_part own r) e free ∙ message_own conn own r e free v);
  fine = λ places waits shown. (good, tt);
}

-- ---- an allowed choice

-- what an outcome makes of a record, and what is told of it
unfoldable pub made : Record → Fight → Outcome → Record
made r f o = record r { logged = r.logged ++ logged_of o.told (requests f.cast o.bout o.told); battle = Some (record f { bout = o.bout }) }

unfoldable pub said : ℕ → Role → Fight → Outcome → List (List ℕ)
said conn role f o = shown_events (Some f.cast) role o.told ++ seen_texts conn role (requests f.cast o.bout o.told)

pub after_choice : (r : Record) (e : Entry) (choice : List ℕ) (rqid : Option ℕ) (f : Fight) → e.cmd ≡ Choose choice rqid → verdict r e ≡ None → r.battle ≡ Some f → after r e ≡ made r f (outcome_in f.cast.dex f.bout (side_of_member f.cast (sender_of r e)) (Choose choice rqid))
unfolding lines made
after_choice r e choice rqid f is v b = after_allowed r e v ∙ rw (is, b) refl

message_choice : (conn : ℕ) (r : Record) (e : Entry) (choice : List ℕ) (rqid : Option ℕ) (f : Fight) → e.cmd ≡ Choose choice rqid → verdict r e ≡ None → r.battle ≡ Some f → message conn r e ≡ said conn (role conn r) f (outcome_in f.cast.dex f.bout (side_of_member f.cast (sender_of r e)) (Choose choice rqid))
unfolding lines said
message_choice conn r e choice rqid f is v b = choice_message conn r e choice rqid is v ∙ rw (is, b) refl

-- in a chat room nothing comes of it
pub chat_choice_after : (r : Record) (e : Entry) (choice : List ℕ) (rqid : Option ℕ) → e.cmd ≡ Choose choice rqid → verdict r e ≡ None → r.battle ≡ None → after r e ≡ with_choice r e choice rqid
unfolding lines
chat_choice_after r e choice rqid is v b = after_allowed r e v ∙ rw (is, b) (rw (append-nil r.logged) refl)

pub chat_choice_message : (conn : ℕ) (r : Record) (e : Entry) (choice : List ℕ) (rqid : Option ℕ) → e.cmd ≡ Choose choice rqid → verdict r e ≡ None → r.battle ≡ None → message conn r e ≡ []
unfolding lines
chat_choice_message conn r e choice rqid is v b = choice_message conn r e choice rqid is v ∙ rw (is, b) refl

pub chat_choice_round : (r : Record) (e : Entry) (choice : List ℕ) (rqid : Option ℕ) → e.cmd ≡ Choose choice rqid → verdict r e ≡ None → r.battle ≡ None → round_of r e ≡ None
chat_choice_round r e choice rqid is v b = ap (λ (x : Option Why). round_if_allowed x r e) v ∙ rw b refl

-- it waits
pub waits_after : (r : Record) (e : Entry) (choice : List ℕ) (rqid : Option ℕ) (f : Fight) → e.cmd ≡ Choose choice rqid → verdict r e ≡ None → r.battle ≡ Some f → Waits f (side_of_member f.cast (sender_of r e)) choice rqid → after r e ≡ with_choice r e choice rqid
unfolding made
waits_after r e choice rqid f is v b w = after_choice r e choice rqid f is v b ∙ ap (made r f) w.outcome ∙ rw (b, append-nil r.logged) refl

pub waits_message : (conn : ℕ) (r : Record) (e : Entry) (choice : List ℕ) (rqid : Option ℕ) (f : Fight) → e.cmd ≡ Choose choice rqid → verdict r e ≡ None → r.battle ≡ Some f → Waits f (side_of_member f.cast (sender_of r e)) choice rqid → message conn r e ≡ []
unfolding said
waits_message conn r e choice rqid f is v b w = message_choice conn r e choice rqid f is v b ∙ ap (said conn (role conn r) f) w.outcome

-- it completes a round
pub completes_after : (own : ℕ → Bool) (r : Record) (e : Entry) (choice : List ℕ) (rqid : Option ℕ) (f : Fight) → e.cmd ≡ Choose choice rqid → verdict r e ≡ None → r.battle ≡ Some f → (c : Completes f (side_of_member f.cast (sender_of r e)) choice rqid) → own_part own (after r e) ≡ commit_after r (Some f) c.one c.two
unfolding made
completes_after own r e choice rqid f is v b c =
    ap (own_part own) (after_choice r e choice rqid f is v b ∙ ap (made r f) c.outcome)
    ∙ ap (λ (x : Bout). record r { logged = r.logged ++ logged_of (outcome_of_choices f c.one c.two).told (requests f.cast (outcome_of_choices f c.one c.two).bout (outcome_of_choices f c.one c.two).told); battle = Some (record f { bout = x }) }) (round_own own f c.one c.two)

pub completes_message : (conn : ℕ) (r : Record) (e : Entry) (choice : List ℕ) (rqid : Option ℕ) (f : Fight) → e.cmd ≡ Choose choice rqid → verdict r e ≡ None → r.battle ≡ Some f → (c : Completes f (side_of_member f.cast (sender_of r e)) choice rqid) → message conn r e ≡ commit_message conn (role conn r) (Some f) c.one c.two
unfolding said
completes_message conn r e choice rqid f is v b c = message_choice conn r e choice rqid f is v b ∙ ap (said conn (role conn r) f) c.outcome

-- ---- an allowed choice of an own side

-- the items of an own entry, with its badge
abbrev pub entire : Record → Entry → List Item
entire r e = whole e ∷ items_of_round r e

whole_at : (own : ℕ → Bool) (r : Record) (e : Entry) (choice : List ℕ) (rqid : Option ℕ) → e.cmd ≡ Choose choice rqid → verdict r e ≡ None → PlaysOwn own r.battle (sender_of r e) → item_after (own_part own r) (whole e) ≡ own_part own (with_choice r e choice rqid)
whole_at own r e choice rqid is v plays =
    ap (λ (x : Option Why). whole_after x (own_part own r) e e.cmd) (verdict_own own r e plays ∙ v)
    ∙ ap (whole_after None (own_part own r) e) is
    ∙ ap (λ (fo : Option Fight). record r { battle = fo }) (fight_waiting_own own r.battle (sender_of r e) choice rqid plays)

whole_silent : (conn : ℕ) (own : ℕ → Bool) (r : Record) (e : Entry) (choice : List ℕ) (rqid : Option ℕ) → e.cmd ≡ Choose choice rqid → verdict r e ≡ None → PlaysOwn own r.battle (sender_of r e) → item_message conn (own_part own r) (whole e) ≡ []
whole_silent conn own r e choice rqid is v plays =
    ap (λ (x : Option Why). whole_message x conn (own_part own r) e e.cmd) (verdict_own own r e plays ∙ v)
    ∙ ap (whole_message None conn (own_part own r) e) is

pub round_at : (r : Record) (e : Entry) (choice : List ℕ) (rqid : Option ℕ) (f : Fight) → e.cmd ≡ Choose choice rqid → verdict r e ≡ None → r.battle ≡ Some f → round_of r e ≡ round_in f.cast.dex f.bout (side_of_member f.cast (sender_of r e)) (Choose choice rqid)
round_at r e choice rqid f is v b = ap (λ (x : Option Why). round_if_allowed x r e) v ∙ rw (b, is) refl

-- the round's item, at what a connection knows of the record while the choice waits
commit_with_choice : (own : ℕ → Bool) (r : Record) (e : Entry) (choice : List ℕ) (rqid : Option ℕ) (f : Fight) (c : Completes f (side_of_member f.cast (sender_of r e)) choice rqid) → r.battle ≡ Some f → item_after (own_part own (with_choice r e choice rqid)) (commit c.one c.two) ≡ commit_after r (Some f) c.one c.two
unfolding made
commit_with_choice own r e choice rqid f c b = rw b (ap (made r f) (waiting_outcome f (side_of_member f.cast (sender_of r e)) choice rqid c.one c.two))

cast_with_choice : (fo : Option Fight) (me : Option Present) (choice : List ℕ) (rqid : Option ℕ) → cast_in (waiting_fight fo me choice rqid) ≡ cast_in fo
cast_with_choice None me choice rqid = refl
cast_with_choice (Some f) me choice rqid = refl

role_with_choice : (conn : ℕ) (own : ℕ → Bool) (r : Record) (e : Entry) (choice : List ℕ) (rqid : Option ℕ) → role conn (own_part own (with_choice r e choice rqid)) ≡ role conn r
unfolding role_in
role_with_choice conn own r e choice rqid = role_own conn own (with_choice r e choice rqid) ∙ rw (cast_with_choice r.battle (sender_of r e) choice rqid) refl

said_of_with_choice : (conn : ℕ) (role : Role) (own : ℕ → Bool) (r : Record) (e : Entry) (choice : List ℕ) (rqid : Option ℕ) (f : Fight) (c : Completes f (side_of_member f.cast (sender_of r e)) choice rqid) → r.battle ≡ Some f → commit_message conn role (own_fight own (waiting_fight r.battle (sender_of r e) choice rqid)) c.one c.two ≡ commit_message conn role (Some f) c.one c.two
unfolding said
said_of_with_choice conn role own r e choice rqid f c b = rw b (ap (said conn role f) (waiting_outcome f (side_of_member f.cast (sender_of r e)) choice rqid c.one c.two))

said_with_choice : (conn : ℕ) (own : ℕ → Bool) (r : Record) (e : Entry) (choice : List ℕ) (rqid : Option ℕ) (f : Fight) (c : Completes f (side_of_member f.cast (sender_of r e)) choice rqid) → r.battle ≡ Some f → item_message conn (own_part own (with_choice r e choice rqid)) (commit c.one c.two) ≡ commit_message conn (role conn r) (Some f) c.one c.two
said_with_choice conn own r e choice rqid f c b =
    ap (λ (x : Role). commit_message conn x (own_fight own (waiting_fight r.battle (sender_of r e) choice rqid)) c.one c.two) (role_with_choice conn own r e choice rqid)
    ∙ said_of_with_choice conn (role conn r) own r e choice rqid f c b

-- a round is fine
pub round_fine : (places : Hidden) (r : Record) (e : Entry) (choice : List ℕ) (rqid : Option ℕ) (f : Fight) (c : Completes f (side_of_member f.cast (sender_of r e)) choice rqid) → r.battle ≡ Some f → round_of r e ≡ Some (round_of_choices (figures_of f.cast.dex) f.bout.battle c.one c.two) → WaitsIn r.battle → AreUnshown places (option_to_list (round_of r e)) → IsFineRound places f c.one c.two
round_fine places r e choice rqid f c b is waits shown = record {
  choices = c.choices (subst WaitsIn b waits);
  unshown = unshown_round places (round_of r e) _ is shown;
}

fine_completed : (own : ℕ → Bool) (places : Hidden) (r : Record) (e : Entry) (choice : List ℕ) (rqid : Option ℕ) (f : Fight) (c : Completes f (side_of_member f.cast (sender_of r e)) choice rqid) → r.battle ≡ Some f → round_of r e ≡ Some (round_of_choices (figures_of f.cast.dex) f.bout.battle c.one c.two) → WaitsIn r.battle → AreUnshown places (option_to_list (round_of r e)) → AreFineChoices places (own_fight own (waiting_fight r.battle (sender_of r e) choice rqid)) c.one c.two
fine_completed own places r e choice rqid f c b is waits shown =
    let fine = round_fine places r e choice rqid f c b is waits shown in
    rw b (fine_with_choice own places f (sender_of r e) choice rqid c.one c.two fine)

own_choice_by : (conn : ℕ) (own : ℕ → Bool) (r : Record) (e : Entry) (choice : List ℕ) (rqid : Option ℕ) (f : Fight) → e.cmd ≡ Choose choice rqid → verdict r e ≡ None → r.battle ≡ Some f → PlaysOwn own r.battle (sender_of r e) → IsEntryGood conn own (own_part own r) e → Waits f (side_of_member f.cast (sender_of r e)) choice rqid ⊎ Completes f (side_of_member f.cast (sender_of r e)) choice rqid → StandFor conn own r e (entire r e)
own_choice_by conn own r e choice rqid f is v b plays good (inl w) =
    let items : entire r e ≡ whole e ∷ [] = ap (λ (x : Option Round). whole e ∷ commit_of x) (round_at r e choice rqid f is v b ∙ w.round) in
    subst (StandFor conn own r e) (sym items) (record {
      after = whole_at own r e choice rqid is v plays ∙ ap (own_part own) (sym (waits_after r e choice rqid f is v b w));
      view = ap (λ (m : List (List ℕ)). sent m ++ []) (whole_silent conn own r e choice rqid is v plays) ∙ ap sent (sym (waits_message conn r e choice rqid f is v b w));
      fine = λ places waits shown. (good, tt);
    })
own_choice_by conn own r e choice rqid f is v b plays good (inr c) =
    let items : entire r e ≡ whole e ∷ commit c.one c.two ∷ [] = ap (λ (x : Option Round). whole e ∷ commit_of x) (round_at r e choice rqid f is v b ∙ c.round) in
    let whole_is_with_choice = whole_at own r e choice rqid is v plays in
    subst (StandFor conn own r e) (sym items) (record {
      after =
          ap (λ (x : Record). item_after x (commit c.one c.two)) whole_is_with_choice
          ∙ commit_with_choice own r e choice rqid f c b
          ∙ sym (completes_after own r e choice rqid f is v b c);
      view =
          ap (λ (m : List (List ℕ)). sent m ++ (sent (item_message conn (item_after (own_part own r) (whole e)) (commit c.one c.two)) ++ [])) (whole_silent conn own r e choice rqid is v plays)
          ∙ append-nil _
          ∙ ap sent (ap (λ (x : Record). item_message conn x (commit c.one c.two)) whole_is_with_choice ∙ said_with_choice conn own r e choice rqid f c b ∙ sym (completes_message conn r e choice rqid f is v b c));
      fine = λ places waits shown. (good, (subst (λ (x : Record). AreFineChoices places x.battle c.one c.two) (sym whole_is_with_choice) (fine_completed own places r e choice rqid f c b (round_at r e choice rqid f is v b ∙ c.round) waits shown), tt));
    })

-- ---- a choice of an own side, refused

refused_choice : (conn : ℕ) (own : ℕ → Bool) (r : Record) (e : Entry) (why : Why) → verdict r e ≡ Some why → PlaysOwn own r.battle (sender_of r e) → IsEntryGood conn own (own_part own r) e → StandFor conn own r e (entire r e)
unfolding told
refused_choice conn own r e why v plays good =
    let items : entire r e ≡ whole e ∷ [] = ap (λ (x : Option Why). whole e ∷ commit_of (round_if_allowed x r e)) v in
    let vo : verdict (own_part own r) e ≡ Some why = verdict_own own r e plays ∙ v in
    subst (StandFor conn own r e) (sym items) (record {
      after = ap (λ (x : Option Why). whole_after x (own_part own r) e e.cmd) vo ∙ ap (own_part own) (sym (after_refused r e why v));
      view = append-nil _ ∙ ap sent (ap (λ (x : Option Why). whole_message x conn (own_part own r) e e.cmd) vo ∙ rw (role_own conn own r, cast_own own r.battle, vo, v) refl);
      fine = λ places waits shown. (good, tt);
    })

-- ---- any entry of an own user

-- a choice in a chat room
chat_own_choice : (conn : ℕ) (own : ℕ → Bool) (r : Record) (e : Entry) (choice : List ℕ) (rqid : Option ℕ) → e.cmd ≡ Choose choice rqid → verdict r e ≡ None → r.battle ≡ None → PlaysOwn own r.battle (sender_of r e) → IsEntryGood conn own (own_part own r) e → StandFor conn own r e (entire r e)
chat_own_choice conn own r e choice rqid is v b plays good =
    let items : entire r e ≡ whole e ∷ [] = ap (λ (x : Option Round). whole e ∷ commit_of x) (chat_choice_round r e choice rqid is v b) in
    subst (StandFor conn own r e) (sym items) (record {
      after = whole_at own r e choice rqid is v plays ∙ ap (own_part own) (sym (chat_choice_after r e choice rqid is v b));
      view = ap (λ (m : List (List ℕ)). sent m ++ []) (whole_silent conn own r e choice rqid is v plays) ∙ ap sent (sym (chat_choice_message conn r e choice rqid is v b));
      fine = λ places waits shown. (good, tt);
    })

own_choice_in : (conn : ℕ) (own : ℕ → Bool) (r : Record) (e : Entry) (choice : List ℕ) (rqid : Option ℕ) (fo : Option Fight) → e.cmd ≡ Choose choice rqid → verdict r e ≡ None → r.battle ≡ fo → PlaysOwn own r.battle (sender_of r e) → IsEntryGood conn own (own_part own r) e → StandFor conn own r e (entire r e)
own_choice_in conn own r e choice rqid None is v b plays good = chat_own_choice conn own r e choice rqid is v b plays good
own_choice_in conn own r e choice rqid (Some f) is v b plays good =
    let allowed : refusal_by_battle (Some f) (sender_of r e) (Choose choice rqid) ≡ None = ap (λ (fo : Option Fight). refusal_by_battle fo (sender_of r e) (Choose choice rqid)) (sym b) ∙ ap (refusal_by_battle r.battle (sender_of r e)) (sym is) ∙ battle_allows r e v in
    own_choice_by conn own r e choice rqid f is v b plays good (choice_does f (side_of_member f.cast (sender_of r e)) choice rqid (side_below f.cast (sender_of r e)) allowed)

own_choice : (conn : ℕ) (own : ℕ → Bool) (r : Record) (e : Entry) (choice : List ℕ) (rqid : Option ℕ) (v : Option Why) → e.cmd ≡ Choose choice rqid → verdict r e ≡ v → PlaysOwn own r.battle (sender_of r e) → IsEntryGood conn own (own_part own r) e → StandFor conn own r e (entire r e)
own_choice conn own r e choice rqid None is v plays good = own_choice_in conn own r e choice rqid r.battle is v refl plays good
own_choice conn own r e choice rqid (Some why) is v plays good = refused_choice conn own r e why v plays good

own_by : (conn : ℕ) (own : ℕ → Bool) (r : Record) (e : Entry) (cmd : Command) → e.cmd ≡ cmd → PlaysOwn own r.battle (sender_of r e) → IsEntryGood conn own (own_part own r) e → StandFor conn own r e (entire r e)
own_by conn own r e (Choose choice rqid) is plays good = own_choice conn own r e choice rqid (verdict r e) is refl plays good
own_by conn own r e cmd is plays good =
    let free : is_choose e.cmd ≡ false = ap is_choose is in
    let items : entire r e ≡ whole e ∷ [] = ap (λ (x : Option Round). whole e ∷ commit_of x) (round_none r e free) in
    subst (StandFor conn own r e) (sym items) (one_item conn own r e good free (verdict_own own r e plays))

-- the items of an entry of an own user stand for it, with its badge
own_entire : (conn : ℕ) (own : ℕ → Bool) (r : Record) (e : Entry) → PlaysOwn own r.battle (sender_of r e) → IsEntryGood conn own (own_part own r) e → StandFor conn own r e (entire r e)
own_entire conn own r e plays good = own_by conn own r e e.cmd refl plays good

-- ---- without a badge that nothing looks at

-- what stands for an entry without it, stands for the entry
pub stands_kept : (conn : ℕ) (own : ℕ → Bool) (r : Record) (e : Entry) (items : List Item) → StandFor conn own r (entry_kept r e) items → StandFor conn own r e items
stands_kept conn own r e items s = record {
  after = s.after ∙ ap (own_part own) (after_kept r e);
  view = s.view ∙ ap sent (message_kept conn r e);
  fine = λ places waits shown. s.fine places waits (subst (λ (o : Option Round). AreUnshown places (option_to_list o)) (sym (round_kept r e)) shown);
}

good_kept : (conn : ℕ) (own : ℕ → Bool) (r : Record) (e : Entry) → IsEntryGood conn own r e → IsEntryGood conn own r (entry_kept r e)
good_kept conn own r e good = record {
  chooses = good.chooses;
  joins = λ v mine joins.
      (let allowed : verdict r e ≡ None = sym (verdict_kept r e) ∙ v in
      elim (join_kept r e e.cmd refl allowed) [
        | inl free ↦ absurd (let wrong : true ≡ false = sym joins ∙ free in cc)
        | inr same ↦ subst (λ (x : Entry). PlaysOwn own r.battle (Some (joiner_of r x))) (sym same) (good.joins allowed mine joins)
      ]);
}

-- the items of an entry of an own user stand for it
pub own_entry : (conn : ℕ) (own : ℕ → Bool) (r : Record) (e : Entry) → PlaysOwn own r.battle (sender_of r e) → IsEntryGood conn own (own_part own r) e → StandFor conn own r e (items_of_own r e)
own_entry conn own r e plays good =
    let f : Entry = entry_kept r e in
    stands_kept conn own r e (items_of_own r e)
    (subst (λ (o : Option Round). StandFor conn own r f (whole f ∷ commit_of o)) (round_kept r e) (own_entire conn own r f plays (good_kept conn own (own_part own r) e good)))

-- the round's item by itself, at what a connection knows of the record
said_of_own : (conn : ℕ) (role : Role) (own : ℕ → Bool) (fo : Option Fight) (f : Fight) (one two : Choice) → fo ≡ Some f → commit_message conn role (own_fight own fo) one two ≡ commit_message conn role (Some f) one two
said_of_own conn role own fo f one two b = rw b refl

pub commit_seen : (conn : ℕ) (own : ℕ → Bool) (r : Record) (f : Fight) (one two : Choice) → r.battle ≡ Some f → item_message conn (own_part own r) (commit one two) ≡ commit_message conn (role conn r) (Some f) one two
commit_seen conn own r f one two b = ap (λ (x : Role). commit_message conn x (own_fight own r.battle) one two) (role_own conn own r) ∙ said_of_own conn (role conn r) own r.battle f one two b
