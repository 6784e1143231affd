-- A room without the choices that wait on other sides: what an entry gives and makes of it is the same.
use Rattle.std.proofs.Common.{◌≡◌, ℕ, zero, suc, ◌<◌, Bool, true, false, cond, List, ◌++◌, Option, Some, None, refl, ap, ◌∙◌, arith}
use Rattle.std.specs.Prelude.{is_some}
use Rattle.ps_base.specs.declared.why.Why.{Why}
use Rattle.ps_base.specs.declared.why.Why.TheVariants as whys
use Rattle.ps_lines.specs.declared.command.Command.{Command}
use Rattle.ps_lines.specs.declared.command.Command.TheVariants.{Choose, Undo, Forfeit}
use Rattle.ps_mon.specs.declared.choice.Choice.{Choice}
use Rattle.ps_mon.specs.Valid.{is_over}
use Rattle.ps_dex.specs.declared.item.Tables.{Tables}
use Rattle.ps_event.specs.declared.event.Event.{Event}
use Rattle.ps_event.specs.Sides.{side_number}
use Rattle.ps_event.specs.declared.side.Side.{Side}
use Rattle.ps_event.specs.declared.side.Side.TheVariants.{P1, P2}
use Rattle.battle_rounds.specs.declared.bout.Bout.{Bout}
use Rattle.battle_rounds.specs.Bouts.{waiting, with_waiting}
use Rattle.battle_rounds.specs.Casts.{Cast, plays}
use Rattle.battle_rounds.specs.Refusals.{chosen, refused}
use Rattle.battle_rounds.specs.Rounds.{gave_up, Outcome}
use Rattle.battle_rounds.specs.Asked.{request_line}
use Rattle.battle_rounds.specs.Fights.{Fight, outcome_in, refusal_in, requests, request_unless, open_request}
use Rattle.ps_chat.specs.declared.present.Present.{Present}
use Rattle.ps_room.specs.declared.entry.Entry.{Entry}
use Rattle.ps_chat.specs.Lines.{Line}
use Rattle.ps_room.specs.Records.{Record, cast_in}
use Rattle.ps_room.specs.Roles.{side_of_member}
use Rattle.ps_room.specs.Rooms.{sender_of, refusal_by_battle, or_else, verdict, events_by, lines_by, battle_after, chat_lines, request_for, joined, joined_if, is_join, told, told_by, after, after_by, applied, message, role, role_in, joiner_of}
pub use Rattle.ps_laws.specs.Secrets.{is_choose}
use Rattle.ps_laws.specs.Alike.{if_own, own_bout, own_fight, own_part}

-- ---- sides

side_below_by : (s : ℕ) (one two : Bool) → cond one (Some 0) (cond two (Some 1) None) ≡ Some s → s < 2
side_below_by s true two e = let same : 0 ≡ s = cc in omega arith
side_below_by s false true e = let same : 1 ≡ s = cc in omega arith
side_below_by s false false e = absurd cc

-- there are two
pub side_below : (cast : Cast) (me : Option Present) (s : ℕ) → side_of_member cast me ≡ Some s → s < 2
side_below cast None s e = absurd cc
side_below cast (Some p) s e = side_below_by s _ _ e

pub side_below_two : (side : Side) → side_number side < 2
side_below_two P1 = omega arith
side_below_two P2 = omega arith

waiting_by : (s : ℕ) (own : ℕ → Bool) (b : Bout) → s < 2 → own s ≡ true → waiting (own_bout own b) s ≡ waiting b s
waiting_by zero own b lt mine = rw mine refl
waiting_by (suc zero) own b lt mine = rw mine refl
waiting_by (suc (suc s)) own b lt mine = absurd (omega arith)

-- ---- refusals

-- the member plays an own side, or none
abbrev pub PlaysOwn : (ℕ → Bool) → Option Fight → Option Present → Type 0
PlaysOwn own None me = Unit {0}
PlaysOwn own (Some f) me = (s : ℕ) → side_of_member f.cast me ≡ Some s → own s ≡ true

pub chosen_own : (own : ℕ → Bool) (b : Bout) (s : ℕ) (dex : Tables) (text : List ℕ) (number : Option ℕ) → s < 2 → own s ≡ true → chosen (own_bout own b) s dex text number ≡ chosen b s dex text number
unfolding chosen
chosen_own own b s dex text number lt mine = rw (waiting_by s own b lt mine) refl

side_refusal_own : (own : ℕ → Bool) (f : Fight) (side : Option ℕ) (cmd : Command) → ((s : ℕ) → side ≡ Some s → s < 2) → ((s : ℕ) → side ≡ Some s → own s ≡ true) → refusal_in f.cast.dex (own_bout own f.bout) side cmd ≡ refusal_in f.cast.dex f.bout side cmd
side_refusal_own own f None cmd below mine = refl
side_refusal_own own f (Some s) (Choose choice rqid) below mine = ap refused (chosen_own own f.bout s f.cast.dex choice rqid (below s refl) (mine s refl))
side_refusal_own own f (Some s) Undo below mine = ap (λ (w : Option Choice). cond (is_some w) None (Some whys.NothingChosen)) (waiting_by s own f.bout (below s refl) (mine s refl))
side_refusal_own own f (Some s) other below mine = refl

-- a choice or an undo of an own side, and every other command, is refused alike
refusal_own : (own : ℕ → Bool) (fo : Option Fight) (me : Option Present) (cmd : Command) → PlaysOwn own fo me → refusal_by_battle (own_fight own fo) me cmd ≡ refusal_by_battle fo me cmd
refusal_own own None me cmd plays = refl
refusal_own own (Some f) me cmd plays = side_refusal_own own f (side_of_member f.cast me) cmd (side_below f.cast me) plays

-- whether a command is a choice, or takes one back
abbrev pub is_choice : Command → Bool
is_choice (Choose choice rqid) = true
is_choice Undo = true
is_choice other = false

side_refusal_free : (own : ℕ → Bool) (f : Fight) (side : Option ℕ) (cmd : Command) → is_choice cmd ≡ false → refusal_in f.cast.dex (own_bout own f.bout) side cmd ≡ refusal_in f.cast.dex f.bout side cmd
side_refusal_free own f None cmd free = refl
side_refusal_free own f (Some s) (Choose choice rqid) free = absurd cc
side_refusal_free own f (Some s) Undo free = absurd cc
side_refusal_free own f (Some s) other free = refl

refusal_free : (own : ℕ → Bool) (fo : Option Fight) (me : Option Present) (cmd : Command) → is_choice cmd ≡ false → refusal_by_battle (own_fight own fo) me cmd ≡ refusal_by_battle fo me cmd
refusal_free own None me cmd free = refl
refusal_free own (Some f) me cmd free = side_refusal_free own f (side_of_member f.cast me) cmd free

pub verdict_own : (own : ℕ → Bool) (r : Record) (e : Entry) → PlaysOwn own r.battle (sender_of r e) → verdict (own_part own r) e ≡ verdict r e
unfolding verdict
verdict_own own r e plays = ap (or_else _) (refusal_own own r.battle (sender_of r e) e.cmd plays)

pub verdict_free : (own : ℕ → Bool) (r : Record) (e : Entry) → is_choice e.cmd ≡ false → verdict (own_part own r) e ≡ verdict r e
unfolding verdict
verdict_free own r e free = ap (or_else _) (refusal_free own r.battle (sender_of r e) e.cmd free)

-- ---- what is told and made of it, but for choices

pub if_none : (own : Bool) → if_own own None ≡ None
if_none true = refl
if_none false = refl

undone_own : (own : ℕ → Bool) (s : ℕ) (b : Bout) → with_waiting s None (own_bout own b) ≡ own_bout own (with_waiting s None b)
undone_own own zero b = rw (if_none (own 0)) refl
undone_own own (suc s) b = rw (if_none (own 1)) refl

gave_up_own : (own : ℕ → Bool) (s : ℕ) (b : Bout) → (gave_up s (own_bout own b)).bout ≡ own_bout own (gave_up s b).bout
unfolding gave_up
gave_up_own own s b = rw (if_none (own 0), if_none (own 1)) refl

gave_up_told : (own : ℕ → Bool) (s : ℕ) (b : Bout) → gave_up s (own_bout own b) ≡ gave_up s b
unfolding gave_up
gave_up_told own s b = refl

side_bout_own : (own : ℕ → Bool) (dex : Tables) (b : Bout) (side : Option ℕ) (cmd : Command) → is_choose cmd ≡ false → (outcome_in dex (own_bout own b) side cmd).bout ≡ own_bout own (outcome_in dex b side cmd).bout
side_bout_own own dex b None cmd free = refl
side_bout_own own dex b (Some s) (Choose choice rqid) free = absurd cc
side_bout_own own dex b (Some s) Undo free = undone_own own s b
side_bout_own own dex b (Some s) Forfeit free = gave_up_own own s b
side_bout_own own dex b (Some s) other free = refl

side_told_own : (own : ℕ → Bool) (dex : Tables) (b : Bout) (side : Option ℕ) (cmd : Command) → is_choose cmd ≡ false → (outcome_in dex (own_bout own b) side cmd).told ≡ (outcome_in dex b side cmd).told
side_told_own own dex b None cmd free = refl
side_told_own own dex b (Some s) (Choose choice rqid) free = absurd cc
side_told_own own dex b (Some s) Undo free = refl
side_told_own own dex b (Some s) Forfeit free = ap (λ (o : Outcome). o.told) (gave_up_told own s b)
side_told_own own dex b (Some s) other free = refl

requests_own : (own : ℕ → Bool) (c : Cast) (b : Bout) (events : List Event) → requests c (own_bout own b) events ≡ requests c b events
unfolding request_line
requests_own own c b events = refl

events_own : (own : ℕ → Bool) (fo : Option Fight) (me : Option Present) (cmd : Command) → is_choose cmd ≡ false → events_by (own_fight own fo) me cmd ≡ events_by fo me cmd
events_own own None me cmd free = refl
events_own own (Some f) me cmd free = side_told_own own f.cast.dex f.bout (side_of_member f.cast me) cmd free

lines_own : (own : ℕ → Bool) (fo : Option Fight) (me : Option Present) (cmd : Command) (ls : List Line) → is_choose cmd ≡ false → lines_by (own_fight own fo) me cmd ls ≡ lines_by fo me cmd ls
lines_own own None me cmd ls free = refl
lines_own own (Some f) me cmd ls free =
    let side = side_of_member f.cast me in
    let told = side_told_own own f.cast.dex f.bout side cmd free in
    let bout = side_bout_own own f.cast.dex f.bout side cmd free in
    ap (λ (events : List Event). ls ++ requests f.cast (outcome_in f.cast.dex (own_bout own f.bout) side cmd).bout events) told
    ∙ ap (λ (b : Bout). ls ++ requests f.cast b (outcome_in f.cast.dex f.bout side cmd).told) bout
    ∙ ap (λ (more : List Line). ls ++ more) (requests_own own f.cast (outcome_in f.cast.dex f.bout side cmd).bout (outcome_in f.cast.dex f.bout side cmd).told)

battle_own : (own : ℕ → Bool) (fo : Option Fight) (me : Option Present) (cmd : Command) → is_choose cmd ≡ false → battle_after (own_fight own fo) me cmd ≡ own_fight own (battle_after fo me cmd)
battle_own own None me cmd free = refl
battle_own own (Some f) me cmd free = ap (λ (b : Bout). Some (record f { bout = b })) (side_bout_own own f.cast.dex f.bout (side_of_member f.cast me) cmd free)

pub cast_own : (own : ℕ → Bool) (fo : Option Fight) → cast_in (own_fight own fo) ≡ cast_in fo
cast_own own None = refl
cast_own own (Some f) = refl

unless_own : (own : ℕ → Bool) (f : Fight) (s : ℕ) (over : Bool) → request_unless over (record f { bout = own_bout own f.bout }) s ≡ request_unless over f s
unfolding request_line
unless_own own f s true = refl
unless_own own f s false = refl

open_own : (own : ℕ → Bool) (f : Fight) (side : Option ℕ) → open_request (record f { bout = own_bout own f.bout }) side ≡ open_request f side
open_own own f None = refl
open_own own f (Some s) = unless_own own f s (is_over f.bout.battle.phase)

asked_own : (own : ℕ → Bool) (fo : Option Fight) (p : Present) → request_for (own_fight own fo) p ≡ request_for fo p
asked_own own None p = refl
asked_own own (Some f) p = open_own own f (side_of_member f.cast (Some p))

joined_own : (own : ℕ → Bool) (r : Record) (e : Entry) → joined (own_part own r) e ≡ joined r e
joined_own own r e = rw (cast_own own r.battle, asked_own own r.battle (joiner_of r e)) refl

-- ---- the whole entry, but for choices

joined_if_own : (own : ℕ → Bool) (r : Record) (e : Entry) (joins : Bool) → joined_if joins (own_part own r) e ≡ joined_if joins r e
joined_if_own own r e true = ap Some (joined_own own r e)
joined_if_own own r e false = refl

pub told_by_own : (own : ℕ → Bool) (r : Record) (e : Entry) (v : Option Why) → is_choose e.cmd ≡ false → told_by v (own_part own r) e ≡ told_by v r e
told_by_own own r e (Some why) free = refl
told_by_own own r e None free = rw (events_own own r.battle (sender_of r e) e.cmd free, lines_own own r.battle (sender_of r e) e.cmd (chat_lines r e) free, joined_if_own own r e (is_join e.cmd)) refl

pub told_own : (own : ℕ → Bool) (r : Record) (e : Entry) → is_choose e.cmd ≡ false → verdict (own_part own r) e ≡ verdict r e → told (own_part own r) e ≡ told r e
unfolding told
told_own own r e free v = rw v (told_by_own own r e (verdict r e) free)

applied_own : (own : ℕ → Bool) (r : Record) (e : Entry) → is_choose e.cmd ≡ false → applied (own_part own r) e ≡ own_part own (applied r e)
applied_own own r e free = rw (events_own own r.battle (sender_of r e) e.cmd free, lines_own own r.battle (sender_of r e) e.cmd (chat_lines r e) free, battle_own own r.battle (sender_of r e) e.cmd free) refl

after_by_own : (own : ℕ → Bool) (r : Record) (e : Entry) (v : Option Why) → is_choose e.cmd ≡ false → after_by v (own_part own r) e ≡ own_part own (after_by v r e)
after_by_own own r e (Some why) free = refl
after_by_own own r e None free = applied_own own r e free

pub after_own : (own : ℕ → Bool) (r : Record) (e : Entry) → is_choose e.cmd ≡ false → verdict (own_part own r) e ≡ verdict r e → after (own_part own r) e ≡ own_part own (after r e)
unfolding after
after_own own r e free v = rw v (after_by_own own r e (verdict r e) free)

pub role_own : (conn : ℕ) (own : ℕ → Bool) (r : Record) → role conn (own_part own r) ≡ role conn r
unfolding role_in
role_own conn own r = rw (cast_own own r.battle) refl

pub message_own : (conn : ℕ) (own : ℕ → Bool) (r : Record) (e : Entry) → is_choose e.cmd ≡ false → verdict (own_part own r) e ≡ verdict r e → message conn (own_part own r) e ≡ message conn r e
message_own conn own r e free v = rw (role_own conn own r, told_own own r e free v, cast_own own r.battle) refl
