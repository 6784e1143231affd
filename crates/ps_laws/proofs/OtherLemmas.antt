-- One entry of another in one world: without an item it leaves what a connection knows of the record as it was and gives the connection
-- nothing; with one the item stands for it.
use Rattle.std.proofs.Common.{◌≡◌, ◌⊎◌, ℕ, zero, suc, ◌<◌, Bool, true, false, ◌&&◌, List, [], ◌∷◌, Option, Some, None, append-nil, refl, ap, ◌∙◌, sym, subst, inl, inr, arith}
use Rattle.std.specs.Prelude.{◌==◌}
use Rattle.std.proofs.lemmas.Cmp.{nat_eq_equiv}
use Rattle.ps_base.specs.declared.why.Why.{Why}
use Rattle.ps_base.specs.Messages.{sent}
use Rattle.ps_lines.specs.declared.command.Command.{Command}
use Rattle.ps_lines.specs.declared.command.Command.TheVariants.{Choose, Undo, Modnote}
use Rattle.ps_view.specs.declared.role.Role.{Role}
use Rattle.ps_view.specs.declared.names.Names.{Names}
use Rattle.ps_view.specs.Lines.{line_of}
use Rattle.ps_view.specs.Roles.{is_player, has_role}
use Rattle.ps_event.specs.declared.audience.Audience.TheVariants as audiences
use Rattle.ps_event.specs.declared.event.Event.{Event}
use Rattle.ps_event.specs.declared.event.Event.TheVariants as events
use Rattle.ps_event.specs.declared.side.Side.{Side}
use Rattle.ps_hits.specs.Told.{side_name}
use Rattle.battle_rounds.specs.declared.bout.Bout.{Bout}
use Rattle.battle_rounds.specs.Bouts.{with_waiting}
use Rattle.battle_rounds.specs.Casts.{Cast, event_text}
use Rattle.battle_rounds.specs.Rounds.{undone}
use Rattle.battle_rounds.specs.Fights.{Fight, outcome_in, refusal_in}
use Rattle.ps_chat.specs.declared.present.Present.{Present}
use Rattle.ps_chat.specs.Told.{lines}
use Rattle.ps_room.specs.declared.entry.Entry.{Entry}
use Rattle.ps_room.specs.Tolds.{Logged}
use Rattle.ps_room.specs.Records.{Record}
use Rattle.ps_room.specs.Roles.{side_of_member}
use Rattle.ps_room.specs.Rooms.{sender_of, verdict, after, message, role, refusal_by_battle}
use Rattle.ps_room.specs.Unseen.{sees_notes}
use Rattle.ps_room.proofs.AnswerLemmas.{after_allowed, after_refused, silent_line, battle_allows}
use Rattle.ps_room.proofs.UnseenLemmas.{note_unseen}
use Rattle.ps_laws.specs.Alike.{own_bout, own_fight, own_part}
use Rattle.ps_laws.specs.Low.{whole, commit, commit_of, entry_kept, items_of_others, items_of_allowed, items_of_round, items_of_modnote}
use Rattle.ps_laws.proofs.PartLemmas.{side_below, is_choose, is_choice, verdict_free}
use Rattle.ps_laws.proofs.ItemLemmas.{waiting_fight, undo_message}
use Rattle.ps_laws.proofs.ChoiceLemmas.{Waits, Completes, choice_does, waiting_other}
use Rattle.battle_secrecy.specs.Places.{Hidden}
use Rattle.ps_mon.specs.declared.choice.Choice.{Choice}
use Rattle.ps_laws.proofs.TwinLemmas.{IsEntryGood}
use Rattle.ps_laws.proofs.FineLemmas.{IsFineRound, AreFineChoices}
use Rattle.ps_laws.proofs.StepLemmas.{round_fine, StandFor, one_item, stands_kept, made, said, round_at, waits_after, waits_message, completes_after, completes_message, chat_choice_after, chat_choice_message, chat_choice_round, commit_seen}

-- the sender plays no own side
abbrev pub PlaysOther : (ℕ → Bool) → Option Fight → Option Present → Type 0
PlaysOther own None me = Unit {0}
PlaysOther own (Some f) me = (s : ℕ) → side_of_member f.cast me ≡ Some s → own s ≡ false

-- ---- nothing

-- an entry that leaves what a connection knows of the record as it was, and gives it nothing
nothing : (conn : ℕ) (own : ℕ → Bool) (r : Record) (e : Entry) → own_part own (after r e) ≡ own_part own r → message conn r e ≡ [] → StandFor conn own r e []
nothing conn own r e kept silent = record { after = sym kept; view = ap sent (sym silent); fine = λ places waits shown. tt }

-- ---- a choice

pub fight_waiting_other : (own : ℕ → Bool) (f : Fight) (me : Option Present) (choice : List ℕ) (rqid : Option ℕ) → PlaysOther own (Some f) me → own_fight own (waiting_fight (Some f) me choice rqid) ≡ own_fight own (Some f)
fight_waiting_other own f me choice rqid other = ap (λ (b : Bout). Some (record f { bout = b })) (waiting_other own f (side_of_member f.cast me) choice rqid (side_below f.cast me) other)

fine_seen_in : (own : ℕ → Bool) (places : Hidden) (fo : Option Fight) (f : Fight) (one two : Choice) → fo ≡ Some f → IsFineRound places f one two → AreFineChoices places (own_fight own fo) one two
fine_seen_in own places fo f one two b h = rw b (record { choices = h.choices; unshown = h.unshown })

fine_seen : (own : ℕ → Bool) (places : Hidden) (r : Record) (f : Fight) (one two : Choice) → r.battle ≡ Some f → IsFineRound places f one two → AreFineChoices places (own_fight own r.battle) one two
fine_seen own places r f one two b h = fine_seen_in own places r.battle f one two b h

other_choice_by : (conn : ℕ) (own : ℕ → Bool) (r : Record) (e : Entry) (choice : List ℕ) (rqid : Option ℕ) (f : Fight) → e.cmd ≡ Choose choice rqid → verdict r e ≡ None → r.battle ≡ Some f → PlaysOther own (Some f) (sender_of r e) → Waits f (side_of_member f.cast (sender_of r e)) choice rqid ⊎ Completes f (side_of_member f.cast (sender_of r e)) choice rqid → StandFor conn own r e (items_of_round r e)
other_choice_by conn own r e choice rqid f is v b other (inl w) =
    let items : items_of_round r e ≡ [] = ap commit_of (round_at r e choice rqid f is v b ∙ w.round) in
    subst (StandFor conn own r e) (sym items) (nothing conn own r e
    (ap (own_part own) (waits_after r e choice rqid f is v b w) ∙ rw b (ap (λ (fo : Option Fight). record r { battle = fo }) (fight_waiting_other own f (sender_of r e) choice rqid other)))
    (waits_message conn r e choice rqid f is v b w))
other_choice_by conn own r e choice rqid f is v b other (inr c) =
    let items : items_of_round r e ≡ commit c.one c.two ∷ [] = ap commit_of (round_at r e choice rqid f is v b ∙ c.round) in
    subst (StandFor conn own r e) (sym items) (record {
      after = rw b refl ∙ sym (completes_after own r e choice rqid f is v b c);
      view = append-nil _ ∙ ap sent (commit_seen conn own r f c.one c.two b ∙ sym (completes_message conn r e choice rqid f is v b c));
      fine = λ places waits shown. (fine_seen own places r f c.one c.two b (round_fine places r e choice rqid f c b (round_at r e choice rqid f is v b ∙ c.round) waits shown), tt);
    })

other_choice : (conn : ℕ) (own : ℕ → Bool) (r : Record) (e : Entry) (choice : List ℕ) (rqid : Option ℕ) (fo : Option Fight) → e.cmd ≡ Choose choice rqid → verdict r e ≡ None → r.battle ≡ fo → PlaysOther own fo (sender_of r e) → StandFor conn own r e (items_of_round r e)
other_choice conn own r e choice rqid None is v b other =
    let items : items_of_round r e ≡ [] = ap commit_of (chat_choice_round r e choice rqid is v b) in
    subst (StandFor conn own r e) (sym items) (nothing conn own r e
    (ap (own_part own) (chat_choice_after r e choice rqid is v b) ∙ rw b refl)
    (chat_choice_message conn r e choice rqid is v b))
other_choice conn own r e choice rqid (Some f) is v b other =
    let allowed : refusal_by_battle (Some f) (sender_of r e) (Choose choice rqid) ≡ None = ap (λ (fo : Option Fight). refusal_by_battle fo (sender_of r e) (Choose choice rqid)) (sym b) ∙ ap (refusal_by_battle r.battle (sender_of r e)) (sym is) ∙ battle_allows r e v in
    other_choice_by conn own r e choice rqid f is v b other (choice_does f (side_of_member f.cast (sender_of r e)) choice rqid (side_below f.cast (sender_of r e)) allowed)

-- ---- an undo

no_request : (role : Role) (names : Names) (event : Event) (b : Bool) → (b && false) ≡ false
no_request role names event true = refl
no_request role names event false = refl

-- the request of a side is no event's line
request_unseen : (c : Cast) (role : Role) (side : Side) → event_text c role (events.Request side) ≡ None
unfolding line_of
request_unseen c role side = rw (no_request role c.names (events.Request side) (has_role (audiences.Side side) role)) refl

pub undone_other : (own : ℕ → Bool) (s : ℕ) (b : Bout) → s < 2 → own s ≡ false → own_bout own (with_waiting s None b) ≡ own_bout own b
undone_other own zero b lt other = rw other refl
undone_other own (suc zero) b lt other = rw other refl
undone_other own (suc (suc s)) b lt other = absurd (omega arith)

pub undo_after : (r : Record) (e : Entry) (f : Fight) (s : ℕ) → e.cmd ≡ Undo → verdict r e ≡ None → r.battle ≡ Some f → side_of_member f.cast (sender_of r e) ≡ Some s → after r e ≡ record r { battle = Some (record f { bout = with_waiting s None f.bout }) }
unfolding lines made
undo_after r e f s is v b side =
    let outcome : after r e ≡ made r f (outcome_in f.cast.dex f.bout (side_of_member f.cast (sender_of r e)) Undo) = after_allowed r e v ∙ rw (is, b) refl in
    outcome
    ∙ ap (λ (o : Option ℕ). made r f (outcome_in f.cast.dex f.bout o Undo)) side
    ∙ ap (λ (ls : List Logged). record r { logged = ls; battle = Some (record f { bout = with_waiting s None f.bout }) }) (append-nil r.logged)

undo_said : (conn : ℕ) (r : Record) (e : Entry) (f : Fight) → e.cmd ≡ Undo → verdict r e ≡ None → r.battle ≡ Some f → message conn r e ≡ said conn (role conn r) f (outcome_in f.cast.dex f.bout (side_of_member f.cast (sender_of r e)) Undo)
unfolding lines said
undo_said conn r e f is v b = undo_message conn r e is v ∙ rw (is, b) refl

-- a role that doesn't play the side is told nothing of it
unsaid : (conn : ℕ) (role : Role) (f : Fight) (s : ℕ) → is_player (side_name s) role ≡ false → said conn role f (undone s f.bout) ≡ []
unfolding said
unsaid conn role f s other = rw (request_unseen f.cast role (side_name s), other) refl

undo_silent : (conn : ℕ) (r : Record) (e : Entry) (f : Fight) (s : ℕ) → e.cmd ≡ Undo → verdict r e ≡ None → r.battle ≡ Some f → side_of_member f.cast (sender_of r e) ≡ Some s → is_player (side_name s) (role conn r) ≡ false → message conn r e ≡ []
undo_silent conn r e f s is v b side other =
    undo_said conn r e f is v b
    ∙ ap (λ (o : Option ℕ). said conn (role conn r) f (outcome_in f.cast.dex f.bout o Undo)) side
    ∙ unsaid conn (role conn r) f s other

-- a connection that plays no side but own ones
abbrev pub PlaysNoOther : ℕ → (ℕ → Bool) → Record → Type 0
PlaysNoOther conn own r = (s : ℕ) → s < 2 → own s ≡ false → is_player (side_name s) (role conn r) ≡ false

undo_of_side : (conn : ℕ) (own : ℕ → Bool) (r : Record) (e : Entry) (f : Fight) (side : Option ℕ) → e.cmd ≡ Undo → verdict r e ≡ None → r.battle ≡ Some f → side_of_member f.cast (sender_of r e) ≡ side → refusal_in f.cast.dex f.bout side Undo ≡ None → ((s : ℕ) → side ≡ Some s → s < 2) → ((s : ℕ) → side ≡ Some s → own s ≡ false) → PlaysNoOther conn own r → StandFor conn own r e []
undo_of_side conn own r e f None is v b side allowed below other plays = absurd cc
undo_of_side conn own r e f (Some s) is v b side allowed below other plays =
    let lt = below s refl in
    let foreign = other s refl in
    nothing conn own r e
    (ap (own_part own) (undo_after r e f s is v b side) ∙ rw b (ap (λ (x : Bout). record r { battle = Some (record f { bout = x }) }) (undone_other own s f.bout lt foreign)))
    (undo_silent conn r e f s is v b side (plays s lt foreign))

pub chat_undo_after : (r : Record) (e : Entry) → e.cmd ≡ Undo → verdict r e ≡ None → r.battle ≡ None → after r e ≡ record r { battle = None }
unfolding lines
chat_undo_after r e is v b = after_allowed r e v ∙ rw (is, b) (rw (append-nil r.logged) refl)

chat_undo_silent : (conn : ℕ) (r : Record) (e : Entry) → e.cmd ≡ Undo → verdict r e ≡ None → r.battle ≡ None → message conn r e ≡ []
unfolding lines
chat_undo_silent conn r e is v b = undo_message conn r e is v ∙ rw (is, b) refl

other_undo : (conn : ℕ) (own : ℕ → Bool) (r : Record) (e : Entry) (fo : Option Fight) → e.cmd ≡ Undo → verdict r e ≡ None → r.battle ≡ fo → PlaysOther own fo (sender_of r e) → PlaysNoOther conn own r → StandFor conn own r e []
other_undo conn own r e None is v b other plays = nothing conn own r e (ap (own_part own) (chat_undo_after r e is v b) ∙ rw b refl) (chat_undo_silent conn r e is v b)
other_undo conn own r e (Some f) is v b other plays =
    let allowed : refusal_by_battle (Some f) (sender_of r e) Undo ≡ None = ap (λ (fo : Option Fight). refusal_by_battle fo (sender_of r e) Undo) (sym b) ∙ ap (refusal_by_battle r.battle (sender_of r e)) (sym is) ∙ battle_allows r e v in
    undo_of_side conn own r e f (side_of_member f.cast (sender_of r e)) is v b refl allowed (side_below f.cast (sender_of r e)) other plays

-- ---- any entry of another

-- an entry that isn't a choice, of another
other_good : (conn : ℕ) (own : ℕ → Bool) (r : Record) (e : Entry) → (conn == e.conn) ≡ false → is_choose e.cmd ≡ false → IsEntryGood conn own (own_part own r) e
other_good conn own r e away free = record {
  chooses = λ chooses. absurd (let wrong : true ≡ false = sym chooses ∙ free in cc);
  joins = λ v mine joins. absurd (let wrong : true ≡ false = sym (nat_eq_equiv.symm conn e.conn ∙ mine) ∙ away in cc);
}

-- an entry that stands for itself, without a badge that nothing looks at
one_kept : (conn : ℕ) (own : ℕ → Bool) (r : Record) (e : Entry) → (conn == e.conn) ≡ false → is_choose e.cmd ≡ false → is_choice e.cmd ≡ false → StandFor conn own r e (whole (entry_kept r e) ∷ [])
one_kept conn own r e away free plain =
    let f : Entry = entry_kept r e in
    stands_kept conn own r e (whole f ∷ []) (one_item conn own r f (other_good conn own r f away free) free (verdict_free own r f plain))

of_modnote : (conn : ℕ) (own : ℕ → Bool) (r : Record) (e : Entry) (text : List ℕ) (sees : Bool) → e.cmd ≡ Modnote text → verdict r e ≡ None → (conn == e.conn) ≡ false → sees_notes conn r ≡ sees → StandFor conn own r e (items_of_modnote conn r e)
of_modnote conn own r e text true is v away seen = rw seen (one_kept conn own r e away (ap is_choose is) (ap is_choice is))
of_modnote conn own r e text false is v away seen =
    let u = note_unseen conn r e text away is v seen in
    rw seen (nothing conn own r e (ap (own_part own) u.unchanged) u.silent)

of_allowed : (conn : ℕ) (own : ℕ → Bool) (r : Record) (e : Entry) (cmd : Command) → e.cmd ≡ cmd → verdict r e ≡ None → (conn == e.conn) ≡ false → PlaysOther own r.battle (sender_of r e) → PlaysNoOther conn own r → StandFor conn own r e (items_of_allowed conn r e cmd)
of_allowed conn own r e (Choose choice rqid) is v away other plays = other_choice conn own r e choice rqid r.battle is v refl other
of_allowed conn own r e Undo is v away other plays = other_undo conn own r e r.battle is v refl other plays
of_allowed conn own r e (Modnote text) is v away other plays = of_modnote conn own r e text (sees_notes conn r) is v away refl
of_allowed conn own r e rest is v away other plays = one_kept conn own r e away (ap is_choose is) (ap is_choice is)

of_others : (conn : ℕ) (own : ℕ → Bool) (r : Record) (e : Entry) (v : Option Why) → verdict r e ≡ v → (conn == e.conn) ≡ false → PlaysOther own r.battle (sender_of r e) → PlaysNoOther conn own r → StandFor conn own r e (items_of_others conn r e v)
of_others conn own r e (Some why) v away other plays = nothing conn own r e (ap (own_part own) (after_refused r e why v)) (silent_line r e why conn v away)
of_others conn own r e None v away other plays = of_allowed conn own r e e.cmd refl v away other plays

-- the items of an entry of another stand for it
pub other_entry : (conn : ℕ) (own : ℕ → Bool) (r : Record) (e : Entry) → (conn == e.conn) ≡ false → PlaysOther own r.battle (sender_of r e) → PlaysNoOther conn own r → StandFor conn own r e (items_of_others conn r e (verdict r e))
other_entry conn own r e away other plays = of_others conn own r e (verdict r e) refl away other plays
