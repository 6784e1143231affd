-- A choice that waits and that no round has: the room goes on as if another one waited, or none.
use Rattle.std.proofs.Common.{◌≡◌, ◌≢◌, ◌⊎◌, ℕ, zero, suc, ◌<◌, Bool, true, false, cond, ◌&&◌, ◌||◌, List, [], ◌∷◌, ◌++◌, Option, Some, None, Result, Ok, Err, is_some, not, refl, ap, ap₂, ◌∙◌, sym, subst, inl, inr, arith}
use Rattle.std.proofs.lemmas.Bool.{eq-eqb, ne_eqb}
use Rattle.std.proofs.lemmas.Bool.Decides.{eqb_tells}
use Rattle.std.specs.Prelude.{◌==◌}
use Rattle.ps_base.specs.Ids.{id_of}
use Rattle.ps_base.specs.declared.badge.Badge.{Badge}
use Rattle.ps_base.specs.declared.why.Why.{Why}
use Rattle.ps_base.specs.declared.why.Why.TheVariants as whys
use Rattle.ps_lines.specs.declared.command.Command.{Command}
use Rattle.ps_lines.specs.declared.command.Command.TheVariants.{Choose, Undo, Forfeit}
use Rattle.ps_mon.specs.declared.choice.Choice.{Choice}
use Rattle.ps_mon.specs.Choices.{is_asked}
use Rattle.ps_dex.specs.Figures.{figures_of}
use Rattle.battle_rounds.specs.declared.bout.Bout.{Bout}
use Rattle.battle_rounds.specs.Bouts.{waiting, with_waiting}
use Rattle.battle_rounds.specs.Refusals.{chosen}
use Rattle.battle_rounds.specs.Rounds.{is_ready, gave_up}
use Rattle.battle_rounds.specs.Fights.{Fight, outcome_in, refusal_in}
use Rattle.ps_chat.specs.Lookups.{member}
use Rattle.ps_chat.specs.declared.present.Present.{Present}
use Rattle.ps_chat.specs.Verdicts.{verdict as chat_verdict}
use Rattle.ps_room.specs.declared.entry.Entry.{Entry}
use Rattle.ps_room.specs.Records.{Record, presents_of, opened}
use Rattle.ps_room.specs.Roles.{side_of_member}
use Rattle.ps_room.specs.Rooms.{sender_of, verdict, or_else, after, battle_after, run_record, refusal_by_battle}
use Rattle.ps_room.specs.Stories.{story}
use Rattle.ps_room.proofs.AnswerLemmas.{after_allowed, after_refused, battle_allows, chat_allows}
use Rattle.ps_laws.specs.Alike.{if_own, own_bout, own_fight, own_part}
use Rattle.ps_laws.specs.Users.{badge_of, user_of, users_from, users}
use Rattle.ps_laws.specs.Rounds.{Round, round_of}
use Rattle.ps_laws.proofs.RoundParts.{round_if_allowed, round_in, round_by, completed_if}
use Rattle.ps_laws.specs.Low.{Item, whole, commit_of, entry_kept, is_own, items_of_own, items_of_others, items_of_allowed, items_of, low_from}
use Rattle.ps_laws.specs.Secrets.{is_choose, side_in, waits_in, IsNeverPlayed, IsUnplayed, ChoicesMayBeMissing, ChoicesMayDiffer}
use Rattle.ps_laws.specs.HallLow.{is_user}
use Rattle.ps_laws.proofs.PartLemmas.{PlaysOwn, side_below, is_choice, verdict_own, verdict_free}
use Rattle.ps_laws.proofs.ItemLemmas.{put_choice, waiting_in, waiting_fight}
use Rattle.ps_laws.proofs.StepLemmas.{round_none, round_at, chat_choice_round}
use Rattle.ps_laws.proofs.OtherLemmas.{PlaysOther, fight_waiting_other, undone_other, undo_after}
use Rattle.ps_laws.proofs.UndoneLemmas.{waits_in_room}
use Rattle.ps_laws.proofs.FirstLemmas.{choose_in, free_after, free_items, part_user, part_own, part_kept, other_items, away, no_user, later_same}

-- ---- a room without what waits of one side

-- all sides but one
abbrev hide : ℕ → ℕ → Bool
hide s t = not (t == s)

hidden_is : (s : ℕ) → hide s s ≡ false
hidden_is s = ap not (eq-eqb s s refl)

shown_is : (s t : ℕ) → t ≢ s → hide s t ≡ true
shown_is s t ne = ap not (ne_eqb t s ne)

waits_none : (o : Option Choice) → is_some o ≡ false → None ≡ o
waits_none None e = refl
waits_none (Some c) e = absurd cc

bout_whole : (s : ℕ) (b : Bout) → s < 2 → is_some (waiting b s) ≡ false → own_bout (hide s) b ≡ b
bout_whole zero b lt none = ap (λ (w : Option Choice). record b { first = w }) (waits_none b.first none)
bout_whole (suc zero) b lt none = ap (λ (w : Option Choice). record b { second = w }) (waits_none b.second none)
bout_whole (suc (suc s)) b lt none = absurd (omega arith)

fight_whole : (s : ℕ) (fo : Option Fight) → s < 2 → waits_in fo s ≡ false → own_fight (hide s) fo ≡ fo
fight_whole s None lt none = refl
fight_whole s (Some f) lt none = ap (λ (b : Bout). Some (record f { bout = b })) (bout_whole s f.bout lt none)

-- where nothing waits of the side, it is the room
part_whole : (s : ℕ) (r : Record) → s < 2 → waits_in r.battle s ≡ false → own_part (hide s) r ≡ r
part_whole s r lt none = ap (λ (fo : Option Fight). record r { battle = fo }) (fight_whole s r.battle lt none)

abbrev ready_in : Option Fight → ℕ → Bool
ready_in None t = true
ready_in (Some f) t = is_ready f.bout t

bout_ready : (own : ℕ → Bool) (b : Bout) (t : ℕ) → t < 2 → own t ≡ true → is_ready (own_bout own b) t ≡ is_ready b t
bout_ready own b zero lt mine = ap (λ (w : Option Choice). not (is_asked b.battle.phase 0) || is_some w) (ap (λ (x : Bool). if_own x b.first) mine)
bout_ready own b (suc zero) lt mine = ap (λ (w : Option Choice). not (is_asked b.battle.phase 1) || is_some w) (ap (λ (x : Bool). if_own x b.second) mine)
bout_ready own b (suc (suc t)) lt mine = absurd (omega arith)

ready_part : (own : ℕ → Bool) (fo : Option Fight) (t : ℕ) → t < 2 → own t ≡ true → ready_in (own_fight own fo) t ≡ ready_in fo t
ready_part own None t lt mine = refl
ready_part own (Some f) t lt mine = bout_ready own f.bout t lt mine

side_part : (own : ℕ → Bool) (fo : Option Fight) (me : Option Present) → side_in (own_fight own fo) me ≡ side_in fo me
side_part own None me = refl
side_part own (Some f) me = refl

-- ---- two rooms apart

-- They are equal but for what waits of one side. Where nothing waits of it in the first, nothing does in the second; else the other side isn't
-- ready, so nobody else completes a round by a choice of that side.
record AreApart (s : ℕ) (r q : Record) : Type 0 where
  parts : own_part (hide s) r ≡ own_part (hide s) q
  gone : waits_in r.battle s ≡ false → waits_in q.battle s ≡ false
  lone : waits_in r.battle s ≡ true → (t : ℕ) → t < 2 → t ≢ s → ready_in r.battle t ≡ false

side_same : (s : ℕ) (r q : Record) (e : Entry) → own_part (hide s) r ≡ own_part (hide s) q → side_in r.battle (sender_of r e) ≡ side_in q.battle (sender_of q e)
side_same s r q e same =
    sym (side_part (hide s) r.battle (sender_of r e))
    ∙ ap (λ (x : Record). side_in x.battle (sender_of x e)) same
    ∙ side_part (hide s) q.battle (sender_of q e)

ready_same : (s t : ℕ) (r q : Record) → t < 2 → t ≢ s → own_part (hide s) r ≡ own_part (hide s) q → ready_in r.battle t ≡ ready_in q.battle t
ready_same s t r q lt ne same =
    sym (ready_part (hide s) r.battle t lt (shown_is s t ne))
    ∙ ap (λ (x : Record). ready_in x.battle t) same
    ∙ ready_part (hide s) q.battle t lt (shown_is s t ne)

-- ---- who plays the side, and who doesn't

plays_it : (s : ℕ) (fo : Option Fight) (me : Option Present) → side_in fo me ≡ Some s → PlaysOther (hide s) fo me
plays_it s None me side = tt
plays_it s (Some f) me side = λ t is. (let same : t ≡ s = some_same t s (sym is ∙ side) in ap (hide s) same ∙ hidden_is s) where
  some_same : (t s : ℕ) → Some t ≡ Some s → t ≡ s
  some_same t s e = cc

plays_not : (s : ℕ) (fo : Option Fight) (me : Option Present) → ((t : ℕ) → side_in fo me ≡ Some t → t ≢ s) → PlaysOwn (hide s) fo me
plays_not s None me out = tt
plays_not s (Some f) me out = λ t is. shown_is s t (out t is)

abbrev IsOut : ℕ → Option ℕ → Type 0
IsOut s o = (t : ℕ) → o ≡ Some t → t ≢ s

which_side : (s : ℕ) (o : Option ℕ) → (o ≡ Some s) ⊎ IsOut s o
which_side s None = inr (λ t is. absurd cc)
which_side s (Some t) = elim (eqb_tells t s) [
  | inl same ↦ inl (ap Some same.1)
  | inr ne ↦ inr (λ u is e. ne.1 (let same : t ≡ u = cc in same ∙ e))
]

-- ---- commands that neither choose nor take back

-- whether an entry ends the battle: an allowed Forfeit
abbrev quits : Option Why → Option ℕ → Command → Bool
quits None (Some t) Forfeit = true
quits v side cmd = false

quit_waits : (t : ℕ) (b : Bout) (s : ℕ) → is_some (waiting (gave_up t b).bout s) ≡ false
unfolding gave_up
quit_waits t b zero = refl
quit_waits t b (suc s) = refl

quit_fight : (f : Fight) (side : Option ℕ) (cmd : Command) (s : ℕ) → quits None side cmd ≡ true → is_some (waiting (outcome_in f.cast.dex f.bout side cmd).bout s) ≡ false
quit_fight f None cmd s e = absurd cc
quit_fight f (Some t) Forfeit s e = quit_waits t f.bout s
quit_fight f (Some t) cmd s e = absurd cc

quit_battle : (fo : Option Fight) (me : Option Present) (cmd : Command) (s : ℕ) → quits None (side_in fo me) cmd ≡ true → waits_in (battle_after fo me cmd) s ≡ false
quit_battle None me cmd s e = refl
quit_battle (Some f) me cmd s e = quit_fight f (side_of_member f.cast me) cmd s e

stay_fight : (f : Fight) (side : Option ℕ) (cmd : Command) → is_choice cmd ≡ false → quits None side cmd ≡ false → (outcome_in f.cast.dex f.bout side cmd).bout ≡ f.bout
stay_fight f None cmd free e = refl
stay_fight f (Some t) (Choose choice rqid) free e = absurd cc
stay_fight f (Some t) Undo free e = absurd cc
stay_fight f (Some t) Forfeit free e = absurd cc
stay_fight f (Some t) cmd free e = refl

stay_battle : (fo : Option Fight) (me : Option Present) (cmd : Command) → is_choice cmd ≡ false → quits None (side_in fo me) cmd ≡ false → battle_after fo me cmd ≡ fo
stay_battle None me cmd free e = refl
stay_battle (Some f) me cmd free e = ap (λ (b : Bout). Some (record f { bout = b })) (stay_fight f (side_of_member f.cast me) cmd free e)

stays : (r : Record) (e : Entry) (v : Option Why) → verdict r e ≡ v → is_choice e.cmd ≡ false → quits v (side_in r.battle (sender_of r e)) e.cmd ≡ false → (after r e).battle ≡ r.battle
stays r e (Some why) v free stay = ap (λ (x : Record). x.battle) (after_refused r e why v)
stays r e None v free stay = ap (λ (x : Record). x.battle) (after_allowed r e v) ∙ stay_battle r.battle (sender_of r e) e.cmd free stay

quit_all : (r : Record) (e : Entry) (v : Option Why) (s : ℕ) → verdict r e ≡ v → quits v (side_in r.battle (sender_of r e)) e.cmd ≡ true → waits_in (after r e).battle s ≡ false
quit_all r e (Some why) s v quit = absurd cc
quit_all r e None s v quit = ap (λ (x : Record). waits_in x.battle s) (after_allowed r e v) ∙ quit_battle r.battle (sender_of r e) e.cmd s quit

-- what two rooms apart are after an entry that shows the same in both
record AreStillApart (conn : ℕ) (ids : List (List ℕ)) (s : ℕ) (r q : Record) (e : Entry) : Type 0 where
  apart : AreApart s (after r e) (after q e)
  items : items_of conn ids r e ≡ items_of conn ids q e

free_verdict : (s : ℕ) (r q : Record) (e : Entry) → is_choice e.cmd ≡ false → own_part (hide s) r ≡ own_part (hide s) q → verdict r e ≡ verdict q e
free_verdict s r q e free same = sym (verdict_free (hide s) r e free) ∙ ap (λ (x : Record). verdict x e) same ∙ verdict_free (hide s) q e free

free_apart : (s : ℕ) (r q : Record) (e : Entry) (quit : Bool) → is_choice e.cmd ≡ false → AreApart s r q → quits (verdict r e) (side_in r.battle (sender_of r e)) e.cmd ≡ quit → AreApart s (after r e) (after q e)
free_apart s r q e true free a quit =
    let quit_too : quits (verdict q e) (side_in q.battle (sender_of q e)) e.cmd ≡ true =
    sym (ap₂ (λ (v : Option Why) (side : Option ℕ). quits v side e.cmd) (free_verdict s r q e free a.parts) (side_same s r q e a.parts)) ∙ quit in
    let none = quit_all r e (verdict r e) s refl quit in
    record {
      parts = free_after (hide s) r q e free a.parts;
      gone = λ was. quit_all q e (verdict q e) s refl quit_too;
      lone = λ waits. absurd (let wrong : true ≡ false = sym waits ∙ none in cc);
    }
free_apart s r q e false free a quit =
    let quit_too : quits (verdict q e) (side_in q.battle (sender_of q e)) e.cmd ≡ false =
    sym (ap₂ (λ (v : Option Why) (side : Option ℕ). quits v side e.cmd) (free_verdict s r q e free a.parts) (side_same s r q e a.parts)) ∙ quit in
    let kept = stays r e (verdict r e) refl free quit in
    let kept_too = stays q e (verdict q e) refl free quit_too in
    record {
      parts = free_after (hide s) r q e free a.parts;
      gone = λ was. ap (λ (fo : Option Fight). waits_in fo s) kept_too ∙ a.gone (sym (ap (λ (fo : Option Fight). waits_in fo s) kept) ∙ was);
      lone = λ waits t lt ne. ap (λ (fo : Option Fight). ready_in fo t) kept ∙ a.lone (sym (ap (λ (fo : Option Fight). waits_in fo s) kept) ∙ waits) t lt ne;
    }

free_still : (conn : ℕ) (ids : List (List ℕ)) (s : ℕ) (r q : Record) (e : Entry) → is_choice e.cmd ≡ false → AreApart s r q → AreStillApart conn ids s r q e
free_still conn ids s r q e free a = record {
  apart = free_apart s r q e (quits (verdict r e) (side_in r.battle (sender_of r e)) e.cmd) free a refl;
  items = free_items conn ids (hide s) r q e free a.parts;
}

-- ---- choices, and those taken back

-- what they have as items, where they complete no round
wish_others : (conn : ℕ) (r : Record) (e : Entry) (v : Option Why) (cmd : Command) → e.cmd ≡ cmd → is_choice cmd ≡ true → round_of r e ≡ None → items_of_others conn r e v ≡ []
wish_others conn r e (Some why) cmd is wish none = refl
wish_others conn r e None (Choose choice rqid) is wish none = ap (items_of_allowed conn r e) is ∙ ap commit_of none
wish_others conn r e None Undo is wish none = ap (items_of_allowed conn r e) is
wish_others conn r e None cmd is wish none = absurd cc

wish_by : (conn : ℕ) (ids : List (List ℕ)) (r : Record) (e : Entry) (own : Bool) → is_choice e.cmd ≡ true → round_of r e ≡ None → cond own (items_of_own r e) (items_of_others conn r e (verdict r e)) ≡ cond own (whole (entry_kept r e) ∷ []) []
wish_by conn ids r e true wish none = ap (λ (o : Option Round). whole (entry_kept r e) ∷ commit_of o) none
wish_by conn ids r e false wish none = wish_others conn r e (verdict r e) e.cmd refl wish none

wish_items : (conn : ℕ) (ids : List (List ℕ)) (s : ℕ) (r q : Record) (e : Entry) → is_choice e.cmd ≡ true → own_part (hide s) r ≡ own_part (hide s) q → round_of r e ≡ None → round_of q e ≡ None → items_of conn ids r e ≡ items_of conn ids q e
wish_items conn ids s r q e wish same none none_too =
    wish_by conn ids r e (is_own conn ids r e) wish none
    ∙ ap (λ (own : Bool). cond own (whole (entry_kept r e) ∷ []) []) (part_own conn ids (hide s) r q e same)
    ∙ ap (λ (x : Entry). cond (is_own conn ids q e) (whole x ∷ []) []) (part_kept (hide s) r q e same)
    ∙ sym (wish_by conn ids q e (is_own conn ids q e) wish none_too)

-- ---- of another side: refused

taken_waits : (w : Option Choice) → cond (is_some w) None (Some whys.NothingChosen) ≡ None → is_some w ≡ true
taken_waits None e = absurd cc
taken_waits (Some c) e = refl

ready_waits : (b : Bout) (t : ℕ) → is_some (waiting b t) ≡ true → is_ready b t ≡ true
ready_waits b zero e = either (not (is_asked b.battle.phase 0)) (is_some b.first) e where
  either : (x y : Bool) → y ≡ true → (x || y) ≡ true
  either true y e = refl
  either false y e = e
ready_waits b (suc t) e = either (not (is_asked b.battle.phase (suc t))) (is_some b.second) e where
  either : (x y : Bool) → y ≡ true → (x || y) ≡ true
  either true y e = refl
  either false y e = e

both_ready : (b : Bout) (s t : ℕ) (c : Choice) → s < 2 → t < 2 → t ≢ s → is_some (waiting b s) ≡ true → (is_ready (with_waiting t (Some c) b) 0 && is_ready (with_waiting t (Some c) b) 1) ≡ true
both_ready b zero zero c lt below ne waits = absurd (ne refl)
both_ready b zero (suc zero) c lt below ne waits = ap₂ (λ (x y : Bool). x && y) (ready_waits (with_waiting 1 (Some c) b) 0 waits) (ready_waits (with_waiting 1 (Some c) b) 1 refl)
both_ready b (suc zero) zero c lt below ne waits = ap₂ (λ (x y : Bool). x && y) (ready_waits (with_waiting 0 (Some c) b) 0 refl) (ready_waits (with_waiting 0 (Some c) b) 1 waits)
both_ready b (suc zero) (suc zero) c lt below ne waits = absurd (ne refl)
both_ready b s (suc (suc t)) c lt below ne waits = absurd (omega arith)
both_ready b (suc (suc s)) t c lt below ne waits = absurd (omega arith)

no_wait_side : (f : Fight) (s t : ℕ) (choice : List ℕ) (rqid : Option ℕ) (x : Result Choice Why) → chosen f.bout t f.cast.dex choice rqid ≡ x → s < 2 → t < 2 → t ≢ s → is_some (waiting f.bout s) ≡ true
    → refusal_in f.cast.dex f.bout (Some t) (Choose choice rqid) ≡ None → round_by f.cast.dex f.bout t x ≡ None → ⊥
no_wait_side f s t choice rqid (Err why) is lt below ne waits allowed none = absurd (let wrong : Some why ≡ None = rw is at allowed in cc)
no_wait_side f s t choice rqid (Ok c) is lt below ne waits allowed none =
    let ready = both_ready f.bout s t c lt below ne waits in
    absurd (let wrong : completed_if true (figures_of f.cast.dex) (with_waiting t (Some c) f.bout) ≡ None = rw ready at none in cc)

blocked_fight : (r : Record) (e : Entry) (f : Fight) (s : ℕ) (side : Option ℕ) (cmd : Command) → s < 2 → side_of_member f.cast (sender_of r e) ≡ side → e.cmd ≡ cmd → is_choice cmd ≡ true → r.battle ≡ Some f → verdict r e ≡ None → round_of r e ≡ None
    → is_some (waiting f.bout s) ≡ true → ((t : ℕ) → t < 2 → t ≢ s → is_ready f.bout t ≡ false) → IsOut s side → refusal_in f.cast.dex f.bout side cmd ≡ None → ⊥
blocked_fight r e f s None (Choose choice rqid) lt plays is wish b v none waits lone out allowed = absurd cc
blocked_fight r e f s None Undo lt plays is wish b v none waits lone out allowed = absurd cc
blocked_fight r e f s None cmd lt plays is wish b v none waits lone out allowed = absurd cc
blocked_fight r e f s (Some t) Undo lt plays is wish b v none waits lone out allowed =
    let below = side_below f.cast (sender_of r e) t plays in
    absurd (let wrong : true ≡ false = sym (ready_waits f.bout t (taken_waits (waiting f.bout t) allowed)) ∙ lone t below (out t refl) in cc)
blocked_fight r e f s (Some t) (Choose choice rqid) lt plays is wish b v none waits lone out allowed =
    let below = side_below f.cast (sender_of r e) t plays in
    no_wait_side f s t choice rqid (chosen f.bout t f.cast.dex choice rqid) refl lt below (out t refl) waits allowed
    (sym (round_at r e choice rqid f is v b ∙ ap (λ (x : Option ℕ). round_in f.cast.dex f.bout x (Choose choice rqid)) plays) ∙ none)
blocked_fight r e f s (Some t) cmd lt plays is wish b v none waits lone out allowed = absurd cc

blocked_in : (r : Record) (e : Entry) (s : ℕ) (fo : Option Fight) → s < 2 → r.battle ≡ fo → is_choice e.cmd ≡ true → verdict r e ≡ None → round_of r e ≡ None → waits_in fo s ≡ true → ((t : ℕ) → t < 2 → t ≢ s → ready_in fo t ≡ false) → IsOut s (side_in fo (sender_of r e)) → ⊥
blocked_in r e s None lt b wish v none waits lone out = absurd cc
blocked_in r e s (Some f) lt b wish v none waits lone out =
    blocked_fight r e f s (side_of_member f.cast (sender_of r e)) e.cmd lt refl refl wish b v none waits lone out
    (ap (λ (fo : Option Fight). refusal_by_battle fo (sender_of r e) e.cmd) (sym b) ∙ battle_allows r e v)

refused_apart : (s : ℕ) (r q : Record) (e : Entry) (why : Why) → verdict r e ≡ Some why → verdict q e ≡ Some why → AreApart s r q → AreApart s (after r e) (after q e)
refused_apart s r q e why v v_too a =
    subst (λ (x : Record). AreApart s x (after q e)) (sym (after_refused r e why v)) (subst (AreApart s r) (sym (after_refused q e why v_too)) a)

out_still : (conn : ℕ) (ids : List (List ℕ)) (s : ℕ) (r q : Record) (e : Entry) (v : Option Why) → s < 2 → is_choice e.cmd ≡ true → verdict r e ≡ v → AreApart s r q → waits_in r.battle s ≡ true → round_of r e ≡ None → IsOut s (side_in r.battle (sender_of r e)) → AreStillApart conn ids s r q e
out_still conn ids s r q e None lt wish v a waits none out = absurd (blocked_in r e s r.battle lt refl wish v none waits (a.lone waits) out)
out_still conn ids s r q e (Some why) lt wish v a waits none out =
    let same : verdict r e ≡ verdict q e =
    sym (verdict_own (hide s) r e (plays_not s r.battle (sender_of r e) out))
    ∙ ap (λ (x : Record). verdict x e) a.parts
    ∙ verdict_own (hide s) q e (plays_not s q.battle (sender_of q e) (λ t is. out t (side_same s r q e a.parts ∙ is))) in
    let v_too : verdict q e ≡ Some why = sym same ∙ v in
    record {
      apart = refused_apart s r q e why v v_too a;
      items = wish_items conn ids s r q e wish a.parts none (ap (λ (x : Option Why). round_if_allowed x q e) v_too);
    }

-- ---- of the side itself: a choice

not_ready : (b : Bout) (s : ℕ) (c : Choice) → s < 2 → ((t : ℕ) → t < 2 → t ≢ s → is_ready b t ≡ false) → (is_ready (with_waiting s (Some c) b) 0 && is_ready (with_waiting s (Some c) b) 1) ≡ false
not_ready b zero c lt lone = ap (λ (x : Bool). is_ready (with_waiting 0 (Some c) b) 0 && x) (lone 1 (omega arith) (λ e. absurd cc)) ∙ last (is_ready (with_waiting 0 (Some c) b) 0) where
  last : (x : Bool) → (x && false) ≡ false
  last true = refl
  last false = refl
not_ready b (suc zero) c lt lone = ap (λ (x : Bool). x && is_ready (with_waiting 1 (Some c) b) 1) (lone 0 (omega arith) (λ e. absurd cc))
not_ready b (suc (suc s)) c lt lone = absurd (omega arith)

lone_result : (f : Fight) (s : ℕ) (x : Result Choice Why) → s < 2 → ((t : ℕ) → t < 2 → t ≢ s → is_ready f.bout t ≡ false) → round_by f.cast.dex f.bout s x ≡ None
lone_result f s (Err why) lt lone = refl
lone_result f s (Ok c) lt lone = ap (λ (ready : Bool). completed_if ready (figures_of f.cast.dex) (with_waiting s (Some c) f.bout)) (not_ready f.bout s c lt lone)

lone_in : (r : Record) (e : Entry) (s : ℕ) (choice : List ℕ) (rqid : Option ℕ) (fo : Option Fight) → s < 2 → e.cmd ≡ Choose choice rqid → verdict r e ≡ None → r.battle ≡ fo → side_in fo (sender_of r e) ≡ Some s → ((t : ℕ) → t < 2 → t ≢ s → ready_in fo t ≡ false) → round_of r e ≡ None
lone_in r e s choice rqid None lt is v b side lone = chat_choice_round r e choice rqid is v b
lone_in r e s choice rqid (Some f) lt is v b side lone =
    round_at r e choice rqid f is v b
    ∙ ap (λ (x : Option ℕ). round_in f.cast.dex f.bout x (Choose choice rqid)) side
    ∙ lone_result f s (chosen f.bout s f.cast.dex choice rqid) lt lone

-- it completes no round, since the other side isn't ready
lone_round : (r : Record) (e : Entry) (s : ℕ) (choice : List ℕ) (rqid : Option ℕ) (v : Option Why) → s < 2 → e.cmd ≡ Choose choice rqid → verdict r e ≡ v → side_in r.battle (sender_of r e) ≡ Some s → ((t : ℕ) → t < 2 → t ≢ s → ready_in r.battle t ≡ false) → round_of r e ≡ None
lone_round r e s choice rqid (Some why) lt is v side lone = ap (λ (x : Option Why). round_if_allowed x r e) v
lone_round r e s choice rqid None lt is v side lone = lone_in r e s choice rqid r.battle lt is v refl side lone

fight_kept : (own : ℕ → Bool) (fo : Option Fight) (me : Option Present) (choice : List ℕ) (rqid : Option ℕ) → PlaysOther own fo me → own_fight own (waiting_fight fo me choice rqid) ≡ own_fight own fo
fight_kept own None me choice rqid other = refl
fight_kept own (Some f) me choice rqid other = fight_waiting_other own f me choice rqid other

-- a choice of the side leaves the room but for what waits of it
side_waits : (r : Record) (e : Entry) (s : ℕ) (choice : List ℕ) (rqid : Option ℕ) (v : Option Why) → e.cmd ≡ Choose choice rqid → verdict r e ≡ v → round_of r e ≡ None → side_in r.battle (sender_of r e) ≡ Some s → own_part (hide s) (after r e) ≡ own_part (hide s) r
side_waits r e s choice rqid (Some why) is v none side = ap (own_part (hide s)) (after_refused r e why v)
side_waits r e s choice rqid None is v none side =
    ap (own_part (hide s)) (waits_in_room r e choice rqid r.battle is v none refl)
    ∙ ap (λ (fo : Option Fight). record r { battle = fo }) (fight_kept (hide s) r.battle (sender_of r e) choice rqid (plays_it s r.battle (sender_of r e) side))

put_waits : (b : Bout) (s t : ℕ) (x : Result Choice Why) → is_some (waiting b s) ≡ true → is_some (waiting (put_choice t x b) s) ≡ true
put_waits b s t (Err why) waits = waits
put_waits b zero zero (Ok c) waits = refl
put_waits b zero (suc t) (Ok c) waits = waits
put_waits b (suc s) zero (Ok c) waits = waits
put_waits b (suc s) (suc t) (Ok c) waits = refl

waiting_waits : (f : Fight) (s : ℕ) (side : Option ℕ) (choice : List ℕ) (rqid : Option ℕ) → is_some (waiting f.bout s) ≡ true → is_some (waiting (waiting_in f.cast.dex f.bout side choice rqid) s) ≡ true
waiting_waits f s None choice rqid waits = waits
waiting_waits f s (Some t) choice rqid waits = put_waits f.bout s t (chosen f.bout t f.cast.dex choice rqid) waits

fight_waits : (fo : Option Fight) (me : Option Present) (s : ℕ) (choice : List ℕ) (rqid : Option ℕ) → waits_in fo s ≡ true → waits_in (waiting_fight fo me choice rqid) s ≡ true
fight_waits None me s choice rqid waits = waits
fight_waits (Some f) me s choice rqid waits = waiting_waits f s (side_of_member f.cast me) choice rqid waits

-- and what waited of it waits on
waits_on : (r : Record) (e : Entry) (s : ℕ) (choice : List ℕ) (rqid : Option ℕ) (v : Option Why) → e.cmd ≡ Choose choice rqid → verdict r e ≡ v → round_of r e ≡ None → waits_in r.battle s ≡ true → waits_in (after r e).battle s ≡ true
waits_on r e s choice rqid (Some why) is v none waits = ap (λ (x : Record). waits_in x.battle s) (after_refused r e why v) ∙ waits
waits_on r e s choice rqid None is v none waits = ap (λ (x : Record). waits_in x.battle s) (waits_in_room r e choice rqid r.battle is v none refl) ∙ fight_waits r.battle (sender_of r e) s choice rqid waits

choose_still : (conn : ℕ) (ids : List (List ℕ)) (s : ℕ) (r q : Record) (e : Entry) (choice : List ℕ) (rqid : Option ℕ) → s < 2 → e.cmd ≡ Choose choice rqid → AreApart s r q → waits_in r.battle s ≡ true → round_of r e ≡ None → side_in r.battle (sender_of r e) ≡ Some s → AreStillApart conn ids s r q e
choose_still conn ids s r q e choice rqid lt is a waits none side =
    let side_too : side_in q.battle (sender_of q e) ≡ Some s = sym (side_same s r q e a.parts) ∙ side in
    let lone_too : (t : ℕ) → t < 2 → t ≢ s → ready_in q.battle t ≡ false = λ t below ne. sym (ready_same s t r q below ne a.parts) ∙ a.lone waits t below ne in
    let none_too = lone_round q e s choice rqid (verdict q e) lt is refl side_too lone_too in
    let kept = side_waits r e s choice rqid (verdict r e) is refl none side in
    let kept_too = side_waits q e s choice rqid (verdict q e) is refl none_too side_too in
    let on = waits_on r e s choice rqid (verdict r e) is refl none waits in
    record {
      apart = record {
        parts = kept ∙ a.parts ∙ sym kept_too;
        gone = λ was. absurd (let wrong : true ≡ false = sym on ∙ was in cc);
        lone = λ still t below ne. ready_same s t (after r e) r below ne kept ∙ a.lone waits t below ne;
      };
      items = wish_items conn ids s r q e (ap is_choice is) a.parts none none_too;
    }

-- ---- of the side itself: taken back

undone_kept : (r : Record) (e : Entry) (s : ℕ) (fo : Option Fight) → s < 2 → e.cmd ≡ Undo → verdict r e ≡ None → r.battle ≡ fo → side_in fo (sender_of r e) ≡ Some s → (own_part (hide s) (after r e) ≡ own_part (hide s) r) × (waits_in (after r e).battle s ≡ false)
undone_kept r e s None lt is v b side = absurd cc
undone_kept r e s (Some f) lt is v b side =
    let done = undo_after r e f s is v b side in (
      ap (own_part (hide s)) done
          ∙ ap (λ (x : Bout). record r { battle = Some (record f { bout = x }) }) (undone_other (hide s) s f.bout lt (hidden_is s))
          ∙ ap (λ (fo : Option Fight). record r { battle = own_fight (hide s) fo }) (sym b),
      ap (λ (x : Record). waits_in x.battle s) done ∙ cleared s f.bout,
    ) where
      cleared : (s : ℕ) (b : Bout) → is_some (waiting (with_waiting s None b) s) ≡ false
      cleared zero b = refl
      cleared (suc s) b = refl

undo_part : (r : Record) (e : Entry) (s : ℕ) (v : Option Why) → s < 2 → e.cmd ≡ Undo → verdict r e ≡ v → side_in r.battle (sender_of r e) ≡ Some s → own_part (hide s) (after r e) ≡ own_part (hide s) r
undo_part r e s (Some why) lt is v side = ap (own_part (hide s)) (after_refused r e why v)
undo_part r e s None lt is v side = (undone_kept r e s r.battle lt is v refl side).0

-- who has nothing that waits is refused, and nobody else but by the chat
undo_free : (fo : Option Fight) (me : Option Present) (s : ℕ) → side_in fo me ≡ Some s → waits_in fo s ≡ true → refusal_by_battle fo me Undo ≡ None
undo_free None me s side waits = absurd cc
undo_free (Some f) me s side waits = ap (λ (x : Option ℕ). refusal_in f.cast.dex f.bout x Undo) side ∙ ap (λ (b : Bool). cond b None (Some whys.NothingChosen)) waits

undo_refused : (r : Record) (e : Entry) (s : ℕ) (why : Why) (waits : Bool) → e.cmd ≡ Undo → verdict r e ≡ Some why → chat_verdict r.opening r.chat e.conn e.badge e.moment e.cmd ≡ None → side_in r.battle (sender_of r e) ≡ Some s → waits_in r.battle s ≡ waits → waits ≡ false
unfolding verdict
undo_refused r e s why false is v chat side w = refl
undo_refused r e s why true is v chat side w =
    let allowed : verdict r e ≡ None =
    ap (λ (x : Option Why). or_else x (refusal_by_battle r.battle (sender_of r e) e.cmd)) chat
    ∙ ap (refusal_by_battle r.battle (sender_of r e)) is ∙ undo_free r.battle (sender_of r e) s side w in
    absurd (let wrong : Some why ≡ None = sym v ∙ allowed in cc)

undo_gone : (q : Record) (e : Entry) (s : ℕ) (v : Option Why) → s < 2 → e.cmd ≡ Undo → verdict q e ≡ v → chat_verdict q.opening q.chat e.conn e.badge e.moment e.cmd ≡ None → side_in q.battle (sender_of q e) ≡ Some s → waits_in (after q e).battle s ≡ false
undo_gone q e s (Some why) lt is v chat side = ap (λ (x : Record). waits_in x.battle s) (after_refused q e why v) ∙ undo_refused q e s why (waits_in q.battle s) is v chat side refl
undo_gone q e s None lt is v chat side = (undone_kept q e s q.battle lt is v refl side).1

undo_still_by : (s : ℕ) (r q : Record) (e : Entry) (v : Option Why) → s < 2 → e.cmd ≡ Undo → verdict r e ≡ v → AreApart s r q → waits_in r.battle s ≡ true → side_in r.battle (sender_of r e) ≡ Some s → side_in q.battle (sender_of q e) ≡ Some s → AreApart s (after r e) (after q e)
undo_still_by s r q e (Some why) lt is v a waits side side_too =
    let kept = after_refused r e why v in
    subst (λ (x : Record). AreApart s x (after q e)) (sym kept) (record {
      parts = a.parts ∙ sym (undo_part q e s (verdict q e) lt is refl side_too);
      gone = λ was. absurd (let wrong : true ≡ false = sym waits ∙ was in cc);
      lone = a.lone;
    })
undo_still_by s r q e None lt is v a waits side side_too =
    let done = undone_kept r e s r.battle lt is v refl side in
    let chat : chat_verdict q.opening q.chat e.conn e.badge e.moment e.cmd ≡ None = sym (ap (λ (x : Record). chat_verdict x.opening x.chat e.conn e.badge e.moment e.cmd) a.parts) ∙ chat_allows r e v in
    record {
      parts = done.0 ∙ a.parts ∙ sym (undo_part q e s (verdict q e) lt is refl side_too);
      gone = λ was. undo_gone q e s (verdict q e) lt is refl chat side_too;
      lone = λ still. absurd (let wrong : true ≡ false = sym still ∙ done.1 in cc);
    }

undo_still : (conn : ℕ) (ids : List (List ℕ)) (s : ℕ) (r q : Record) (e : Entry) → s < 2 → e.cmd ≡ Undo → AreApart s r q → waits_in r.battle s ≡ true → side_in r.battle (sender_of r e) ≡ Some s → AreStillApart conn ids s r q e
undo_still conn ids s r q e lt is a waits side = record {
  apart = undo_still_by s r q e (verdict r e) lt is refl a waits side (sym (side_same s r q e a.parts) ∙ side);
  items = wish_items conn ids s r q e (ap is_choice is) a.parts (round_none r e (ap is_choose is)) (round_none q e (ap is_choose is));
}

-- ---- any entry while the choice waits

of_side : (conn : ℕ) (ids : List (List ℕ)) (s : ℕ) (r q : Record) (e : Entry) (cmd : Command) → s < 2 → e.cmd ≡ cmd → AreApart s r q → waits_in r.battle s ≡ true → round_of r e ≡ None → side_in r.battle (sender_of r e) ≡ Some s → AreStillApart conn ids s r q e
of_side conn ids s r q e (Choose choice rqid) lt is a waits none side = choose_still conn ids s r q e choice rqid lt is a waits none side
of_side conn ids s r q e Undo lt is a waits none side = undo_still conn ids s r q e lt is a waits side
of_side conn ids s r q e cmd lt is a waits none side = free_still conn ids s r q e (ap is_choice is) a

of_out : (conn : ℕ) (ids : List (List ℕ)) (s : ℕ) (r q : Record) (e : Entry) (wish : Bool) → s < 2 → is_choice e.cmd ≡ wish → AreApart s r q → waits_in r.battle s ≡ true → round_of r e ≡ None → IsOut s (side_in r.battle (sender_of r e)) → AreStillApart conn ids s r q e
of_out conn ids s r q e true lt is a waits none out = out_still conn ids s r q e (verdict r e) lt is refl a waits none out
of_out conn ids s r q e false lt is a waits none out = free_still conn ids s r q e is a

still_apart : (conn : ℕ) (ids : List (List ℕ)) (s : ℕ) (r q : Record) (e : Entry) → s < 2 → AreApart s r q → waits_in r.battle s ≡ true → round_of r e ≡ None → AreStillApart conn ids s r q e
still_apart conn ids s r q e lt a waits none = elim (which_side s (side_in r.battle (sender_of r e))) [
  | inl side ↦ of_side conn ids s r q e e.cmd lt refl a waits none side
  | inr out ↦ of_out conn ids s r q e (is_choice e.cmd) lt refl a waits none out
]

-- ---- histories

equal_rooms : (s : ℕ) (r q : Record) → s < 2 → AreApart s r q → waits_in r.battle s ≡ false → r ≡ q
equal_rooms s r q lt a none = sym (part_whole s r lt none) ∙ a.parts ∙ part_whole s q lt (a.gone none)

abbrev GoSame : ℕ → List (List ℕ) → Record → Record → List Entry → Type 0
GoSame conn ids r q es = (low_from conn ids r es ≡ low_from conn ids q es) × (users_from conn r es ≡ users_from conn q es)

-- the next entry, and then the rest
go_step : (conn : ℕ) (ids : List (List ℕ)) (s : ℕ) (r q : Record) (e : Entry) (es : List Entry) (waits : Bool) → s < 2 → waits_in r.battle s ≡ waits → AreApart s r q → IsNeverPlayed s r (e ∷ es)
    → (AreApart s (after r e) (after q e) → IsNeverPlayed s (after r e) es → GoSame conn ids (after r e) (after q e) es) → GoSame conn ids r q (e ∷ es)
go_step conn ids s r q e es false lt w a never rest =
    let same = equal_rooms s r q lt a w in
    (ap (λ (x : Record). low_from conn ids x (e ∷ es)) same, ap (λ (x : Record). users_from conn x (e ∷ es)) same)
go_step conn ids s r q e es true lt w a never rest =
    let step = never w in
    let still = still_apart conn ids s r q e lt a w step.0 in
    let more = rest still.apart step.1 in (
      ap₂ (λ (xs ys : List Item). xs ++ ys) still.items more.0,
      ap₂ (λ (id : List ℕ) (us : List (List ℕ)). cond (e.conn == conn) (id ∷ []) [] ++ us) (part_user (hide s) r q e a.parts) more.1,
    )

go_same : (conn : ℕ) (ids : List (List ℕ)) (s : ℕ) (r q : Record) (es : List Entry) → s < 2 → AreApart s r q → IsNeverPlayed s r es → GoSame conn ids r q es
go_same conn ids s r q [] lt a never = (refl, refl)
go_same conn ids s r q (e ∷ es) lt a never = go_step conn ids s r q e es (waits_in r.battle s) lt refl a never (λ still more. go_same conn ids s (after r e) (after q e) es lt still more)

-- ---- the choice itself

either_false : (b : Bout) (s t : ℕ) (ready : Bool) → s < 2 → t < 2 → t ≢ s → is_ready b s ≡ true → is_ready b t ≡ ready → (f : Fight) → completed_if (is_ready b 0 && is_ready b 1) (figures_of f.cast.dex) b ≡ None → ready ≡ false
either_false b s t false lt below ne mine is f none = refl
either_false b zero zero true lt below ne mine is f none = absurd (ne refl)
either_false b zero (suc zero) true lt below ne mine is f none = absurd (let wrong : completed_if true (figures_of f.cast.dex) b ≡ None = rw (mine, is) at none in cc)
either_false b (suc zero) zero true lt below ne mine is f none = absurd (let wrong : completed_if true (figures_of f.cast.dex) b ≡ None = rw (mine, is) at none in cc)
either_false b (suc zero) (suc zero) true lt below ne mine is f none = absurd (ne refl)
either_false b s (suc (suc t)) true lt below ne mine is f none = absurd (omega arith)
either_false b (suc (suc s)) t true lt below ne mine is f none = absurd (omega arith)

put_there : (s : ℕ) (c : Choice) (b : Bout) → is_some (waiting (with_waiting s (Some c) b) s) ≡ true
put_there zero c b = refl
put_there (suc s) c b = refl

-- it waits, and the other side isn't ready
record IsAlone (b : Bout) (s : ℕ) : Type 0 where
  waits : is_some (waiting b s) ≡ true
  lone : (t : ℕ) → t < 2 → t ≢ s → is_ready b t ≡ false

alone_by : (f : Fight) (s : ℕ) (choice : List ℕ) (rqid : Option ℕ) (x : Result Choice Why) → chosen f.bout s f.cast.dex choice rqid ≡ x → s < 2 → refusal_in f.cast.dex f.bout (Some s) (Choose choice rqid) ≡ None → round_by f.cast.dex f.bout s x ≡ None → IsAlone (put_choice s x f.bout) s
alone_by f s choice rqid (Err why) is lt allowed none = absurd (let wrong : Some why ≡ None = rw is at allowed in cc)
alone_by f s choice rqid (Ok c) is lt allowed none =
    let b = with_waiting s (Some c) f.bout in
    let mine = put_there s c f.bout in
    record {
      waits = mine;
      lone = λ t below ne. either_false b s t (is_ready b t) lt below ne (ready_waits b s mine) refl f none;
    }

first_alone : (r : Record) (e : Entry) (s : ℕ) (choice : List ℕ) (rqid : Option ℕ) (f : Fight) → s < 2 → e.cmd ≡ Choose choice rqid → verdict r e ≡ None → r.battle ≡ Some f → side_of_member f.cast (sender_of r e) ≡ Some s → round_of r e ≡ None
    → IsAlone (waiting_in f.cast.dex f.bout (Some s) choice rqid) s
first_alone r e s choice rqid f lt is v b side none =
    let allowed : refusal_in f.cast.dex f.bout (Some s) (Choose choice rqid) ≡ None =
    sym (ap (λ (x : Option ℕ). refusal_in f.cast.dex f.bout x (Choose choice rqid)) side)
    ∙ ap (λ (fo : Option Fight). refusal_by_battle fo (sender_of r e) (Choose choice rqid)) (sym b) ∙ ap (refusal_by_battle r.battle (sender_of r e)) (sym is) ∙ battle_allows r e v in
    let round : round_by f.cast.dex f.bout s (chosen f.bout s f.cast.dex choice rqid) ≡ None =
    sym (round_at r e choice rqid f is v b ∙ ap (λ (x : Option ℕ). round_in f.cast.dex f.bout x (Choose choice rqid)) side) ∙ none in
    alone_by f s choice rqid (chosen f.bout s f.cast.dex choice rqid) refl lt allowed round

record IsAloneIn (r : Record) (s : ℕ) : Type 0 where
  waits : waits_in r.battle s ≡ true
  lone : (t : ℕ) → t < 2 → t ≢ s → ready_in r.battle t ≡ false

alone_in : (r : Record) (e : Entry) (s : ℕ) (choice : List ℕ) (rqid : Option ℕ) (fo : Option Fight) → s < 2 → e.cmd ≡ Choose choice rqid → verdict r e ≡ None → r.battle ≡ fo → side_in fo (sender_of r e) ≡ Some s → round_of r e ≡ None → IsAloneIn (after r e) s
alone_in r e s choice rqid None lt is v b side none = absurd cc
alone_in r e s choice rqid (Some f) lt is v b side none =
    let alone = first_alone r e s choice rqid f lt is v b side none in
    let battle : (after r e).battle ≡ Some (record f { bout = waiting_in f.cast.dex f.bout (Some s) choice rqid }) =
    ap (λ (x : Record). x.battle) (waits_in_room r e choice rqid r.battle is v none refl)
    ∙ ap (λ (fo : Option Fight). waiting_fight fo (sender_of r e) choice rqid) b
    ∙ ap (λ (x : Option ℕ). Some (record f { bout = waiting_in f.cast.dex f.bout x choice rqid })) side in
    record {
      waits = ap (λ (fo : Option Fight). waits_in fo s) battle ∙ alone.waits;
      lone = λ t below ne. ap (λ (fo : Option Fight). ready_in fo t) battle ∙ alone.lone t below ne;
    }

side_lt : (fo : Option Fight) (me : Option Present) (s : ℕ) → side_in fo me ≡ Some s → s < 2
side_lt None me s side = absurd cc
side_lt (Some f) me s side = side_below f.cast me s side

-- the room after such a choice, apart from one that is equal but for what waits
apart_from : (conn : ℕ) (ids : List (List ℕ)) (r q : Record) (s : ℕ) (e : Entry) (later : List Entry) → IsUnplayed conn ids r s e later → own_part (hide s) q ≡ own_part (hide s) r → AreApart s (after r e) q
apart_from conn ids r q s e later u same =
    let c = choose_in e.cmd u.chooses in
    let lt = side_lt r.battle (sender_of r e) s u.side in
    let alone = alone_in r e s c.0 c.1 r.battle lt c.2 u.allowed refl u.side u.waits in
    record {
      parts = side_waits r e s c.0 c.1 (verdict r e) c.2 refl u.waits u.side ∙ sym same;
      gone = λ was. absurd (let wrong : true ≡ false = sym alone.waits ∙ was in cc);
      lone = λ waits. alone.lone;
    }

pub choices_may_be_missing : (conn : ℕ) → ChoicesMayBeMissing conn
choices_may_be_missing conn o before s e later fit u =
    let r = run_record (opened o) before in
    let ids = users conn (story o (before ++ e ∷ later)) in
    let lt = side_lt r.battle (sender_of r e) s u.side in
    let go = go_same conn ids s (after r e) r later lt (apart_from conn ids r r s e later u refl) u.never in
    later_same conn o before (e ∷ later) later fit
    (ap (λ (us : List (List ℕ)). us ++ users_from conn (after r e) later) (no_user conn r e (away conn ids r e u.other)) ∙ go.1)
    (ap (λ (is : List Item). is ++ low_from conn ids (after r e) later) (other_items conn ids r e u.chooses u.other ∙ ap commit_of u.waits) ∙ go.0)

same_sender : (r : Record) (e f : Entry) (me : Option Present) → me ≡ sender_of r e → f.conn ≡ e.conn → sender_of r f ≡ me
same_sender r e f me is same = ap (λ (conn : ℕ). member conn (presents_of r)) same ∙ sym is

-- a member that plays is who it is, whatever badge its entries bring
member_user : (fo : Option Fight) (me : Option Present) (s : ℕ) (one two : Badge) → side_in fo me ≡ Some s → badge_of me one ≡ badge_of me two
member_user None me s one two side = absurd cc
member_user (Some f) None s one two side = absurd cc
member_user (Some f) (Some p) s one two side = refl

pub choices_may_differ : (conn : ℕ) → ChoicesMayDiffer conn
choices_may_differ conn o before s e f later fit u same chooses none =
    let r = run_record (opened o) before in
    let ids = users conn (story o (before ++ e ∷ later)) in
    let lt = side_lt r.battle (sender_of r e) s u.side in
    let sender : sender_of r f ≡ sender_of r e = same_sender r e f (sender_of r e) refl same in
    let side : side_in r.battle (sender_of r f) ≡ Some s = ap (side_in r.battle) sender ∙ u.side in
    let user : user_of r f ≡ user_of r e =
    ap (λ (me : Option Present). id_of (badge_of me f.badge).name) sender
    ∙ ap (λ (b : Badge). id_of b.name) (member_user r.battle (sender_of r e) s f.badge e.badge u.side) in
    let other : is_own conn ids r f ≡ false = ap₂ (λ (c : ℕ) (id : List ℕ). c == conn || is_user ids id) same user ∙ u.other in
    let c = choose_in f.cmd chooses in
    let go = go_same conn ids s (after r e) (after r f) later lt (apart_from conn ids r (after r f) s e later u (side_waits r f s c.0 c.1 (verdict r f) c.2 refl none side)) u.never in
    later_same conn o before (e ∷ later) (f ∷ later) fit
    (ap (λ (us : List (List ℕ)). us ++ users_from conn (after r e) later) (no_user conn r e (away conn ids r e u.other)) ∙ go.1
    ∙ sym (ap (λ (us : List (List ℕ)). us ++ users_from conn (after r f) later) (no_user conn r f (away conn ids r f other))))
    (ap (λ (is : List Item). is ++ low_from conn ids (after r e) later) (other_items conn ids r e u.chooses u.other ∙ ap commit_of u.waits) ∙ go.0
    ∙ sym (ap (λ (is : List Item). is ++ low_from conn ids (after r f) later) (other_items conn ids r f chooses other ∙ ap commit_of none)))
