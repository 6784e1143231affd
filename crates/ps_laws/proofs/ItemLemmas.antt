-- What an item makes of a record, and what a connection is sent at it: an entry by itself, and a round by itself.
use Rattle.std.proofs.Common.{◌≡◌, ℕ, Bool, true, false, cond, List, [], ◌∷◌, ◌++◌, Option, Some, None, Result, Ok, Err, refl, sym}
use Rattle.std.specs.Prelude.{◌==◌}
use Rattle.ps_base.specs.declared.why.Why.{Why}
use Rattle.ps_base.specs.Messages.{sent}
use Rattle.ps_lines.specs.declared.command.Command.{Command}
use Rattle.ps_lines.specs.declared.command.Command.TheVariants.{Choose, Undo}
use Rattle.ps_mon.specs.declared.choice.Choice.{Choice}
use Rattle.ps_dex.specs.declared.item.Tables.{Tables}
use Rattle.ps_dex.specs.Figures.{figures_of}
use Rattle.ps_view.specs.declared.role.Role.{Role}
use Rattle.ps_battle.specs.Turns.{turn}
use Rattle.battle_rounds.specs.declared.bout.Bout.{Bout}
use Rattle.battle_rounds.specs.Bouts.{with_waiting}
use Rattle.battle_rounds.specs.Casts.{Cast}
use Rattle.battle_rounds.specs.Refusals.{chosen}
use Rattle.battle_rounds.specs.Rounds.{Outcome, in_round, next_round}
use Rattle.battle_rounds.specs.Fights.{Fight, requests}
use Rattle.ps_chat.specs.declared.present.Present.{Present}
use Rattle.ps_room.specs.declared.entry.Entry.{Entry}
use Rattle.ps_room.specs.Tolds.{Logged}
use Rattle.ps_room.specs.Records.{Record, cast_in}
use Rattle.ps_room.specs.Roles.{side_of_member}
use Rattle.ps_room.specs.Rooms.{sender_of, verdict, told, after, applied, logged_of, message, role, shown_events, seen_texts, allowed_events, allowed_lines, joined_or}
use Rattle.ps_room.proofs.AnswerLemmas.{after_allowed, after_refused}
use Rattle.ps_laws.specs.Low.{Item, whole, commit}
use Rattle.ps_laws.proofs.PartLemmas.{is_choose}
use Rattle.ps_hits.specs.Courses.{untold}

-- ---- an entry by itself: a choice waits, and completes nothing

abbrev pub put_choice : ℕ → Result Choice Why → Bout → Bout
put_choice s (Ok choice) b = with_waiting s (Some choice) b
put_choice s (Err why) b = b

abbrev pub waiting_in : Tables → Bout → Option ℕ → List ℕ → Option ℕ → Bout
waiting_in dex b None choice rqid = b
waiting_in dex b (Some s) choice rqid = put_choice s (chosen b s dex choice rqid) b

abbrev pub waiting_fight : Option Fight → Option Present → List ℕ → Option ℕ → Option Fight
waiting_fight None me choice rqid = None
waiting_fight (Some f) me choice rqid = Some (record f { bout = waiting_in f.cast.dex f.bout (side_of_member f.cast me) choice rqid })

abbrev pub with_choice : Record → Entry → List ℕ → Option ℕ → Record
with_choice r e choice rqid = record r { battle = waiting_fight r.battle (sender_of r e) choice rqid }

abbrev pub whole_after : Option Why → Record → Entry → Command → Record
whole_after (Some why) r e cmd = r
whole_after None r e (Choose choice rqid) = with_choice r e choice rqid
whole_after None r e other = applied r e

abbrev pub whole_message : Option Why → ℕ → Record → Entry → Command → List (List ℕ)
whole_message (Some why) conn r e cmd = message conn r e
whole_message None conn r e (Choose choice rqid) = []
whole_message None conn r e other = message conn r e

-- ---- a round by itself

abbrev pub outcome_of_choices : Fight → Choice → Choice → Outcome
outcome_of_choices f one two = in_round (next_round f.bout.round) (turn (figures_of f.cast.dex) one two (untold f.bout.battle))

abbrev pub commit_after : Record → Option Fight → Choice → Choice → Record
commit_after r None one two = r
commit_after r (Some f) one two =
    let o = outcome_of_choices f one two in
    record r { logged = r.logged ++ logged_of o.told (requests f.cast o.bout o.told); battle = Some (record f { bout = o.bout }) }

abbrev pub commit_message : ℕ → Role → Option Fight → Choice → Choice → List (List ℕ)
commit_message conn role None one two = []
commit_message conn role (Some f) one two =
    let o = outcome_of_choices f one two in
    shown_events (Some f.cast) role o.told ++ seen_texts conn role (requests f.cast o.bout o.told)

-- ---- items

-- the record after an item
abbrev pub item_after : Record → Item → Record
item_after r (whole e) = whole_after (verdict r e) r e e.cmd
item_after r (commit one two) = commit_after r r.battle one two

-- what a connection is sent at an item
abbrev pub item_message : ℕ → Record → Item → List (List ℕ)
item_message conn r (whole e) = whole_message (verdict r e) conn r e e.cmd
item_message conn r (commit one two) = commit_message conn (role conn r) r.battle one two

-- the record after items, and what a connection is sent over them
abbrev pub items_after : Record → List Item → Record
items_after r [] = r
items_after r (i ∷ is) = items_after (item_after r i) is

abbrev pub items_view : ℕ → Record → List Item → List (List (List ℕ))
items_view conn r [] = []
items_view conn r (i ∷ is) = sent (item_message conn r i) ++ items_view conn (item_after r i) is

-- ---- an entry that isn't a choice is itself

whole_by : (r : Record) (e : Entry) (v : Option Why) (cmd : Command) → verdict r e ≡ v → is_choose cmd ≡ false → whole_after v r e cmd ≡ after r e
whole_by r e (Some why) cmd is free = sym (after_refused r e why is)
whole_by r e None (Choose choice rqid) is free = absurd cc
whole_by r e None other is free = sym (after_allowed r e is)

pub whole_is : (r : Record) (e : Entry) → is_choose e.cmd ≡ false → item_after r (whole e) ≡ after r e
whole_is r e free = whole_by r e (verdict r e) e.cmd refl free

whole_message_by : (conn : ℕ) (r : Record) (e : Entry) (v : Option Why) (cmd : Command) → is_choose cmd ≡ false → whole_message v conn r e cmd ≡ message conn r e
whole_message_by conn r e (Some why) cmd free = refl
whole_message_by conn r e None (Choose choice rqid) free = absurd cc
whole_message_by conn r e None other free = refl

pub whole_message_is : (conn : ℕ) (r : Record) (e : Entry) → is_choose e.cmd ≡ false → item_message conn r (whole e) ≡ message conn r e
whole_message_is conn r e free = whole_message_by conn r e (verdict r e) e.cmd free

-- ---- an allowed choice

-- who isn't the joiner is sent the lines
no_joined : (conn sender : ℕ) (r : Record) (cast : Option Cast) (items : List Logged) (texts : List (List ℕ)) (b : Bool) → joined_or (cond b None None) cast items texts ≡ texts
no_joined conn sender r cast items texts true = refl
no_joined conn sender r cast items texts false = refl

-- what an allowed choice is told as: the events of the battle, and its requests
pub choice_message : (conn : ℕ) (r : Record) (e : Entry) (choice : List ℕ) (rqid : Option ℕ) → e.cmd ≡ Choose choice rqid → verdict r e ≡ None → message conn r e ≡ shown_events (cast_in r.battle) (role conn r) (allowed_events r e) ++ seen_texts conn (role conn r) (allowed_lines r e)
unfolding told
choice_message conn r e choice rqid is v = rw (v, is) (no_joined conn e.conn r (cast_in r.battle) r.logged _ (conn == e.conn))

-- and so is an undo
pub undo_message : (conn : ℕ) (r : Record) (e : Entry) → e.cmd ≡ Undo → verdict r e ≡ None → message conn r e ≡ shown_events (cast_in r.battle) (role conn r) (allowed_events r e) ++ seen_texts conn (role conn r) (allowed_lines r e)
unfolding told
undo_message conn r e is v = rw (v, is) (no_joined conn e.conn r (cast_in r.battle) r.logged _ (conn == e.conn))
