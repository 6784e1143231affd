-- What an allowed entry and a round make of two rooms that are alike, and what a connection is shown of it.
use Rattle.std.proofs.Common.{◌≡◌, ℕ, Bool, true, false, cond, List, [], ◌∷◌, ◌++◌, length, take, Option, Some, None, refl, ap, ◌∙◌, sym}
use Rattle.std.proofs.lemmas.List.Elements.{All-nil, All-append, filter_map-append}
use Rattle.std.specs.List.{All}
use Rattle.std.specs.Option.{option_to_list}
use Rattle.ps_lines.specs.declared.command.Command.{Command}
use Rattle.ps_event.specs.declared.event.Event.{Event}
use Rattle.ps_mon.specs.declared.choice.Choice.{Choice}
use Rattle.ps_view.specs.declared.role.Role.{Role}
use Rattle.battle_rounds.specs.Rounds.{Outcome}
use Rattle.battle_rounds.specs.Fights.{Fight, requests}
use Rattle.ps_chat.specs.Lines.{Line}
use Rattle.ps_chat.specs.declared.present.Present.{Present}
use Rattle.battle_secrecy.specs.Places.{Hidden}
use Rattle.battle_secrecy.specs.Showing.{NamesNoHidden, whos}
use Rattle.battle_secrecy.proofs.TellTurnLemmas.{IsShown}
use Rattle.ps_room.specs.declared.entry.Entry.{Entry}
use Rattle.ps_room.specs.Tolds.{Logged}
use Rattle.ps_room.specs.Records.{Record, presents_of, cast_in, logged_events}
use Rattle.ps_room.specs.Roles.{role_of_member}
use Rattle.ps_room.specs.Rooms.{events_by, lines_by, battle_after, outcome_by, seen_text, seen_texts, shown_events, shown_items, backlog_items, logged_lines}
use Rattle.ps_room.specs.Rooms.{logged_of, applied, sender_of, allowed_events, allowed_lines, chat_lines, joiner_of, head, request_for, joined_if, joined_or}
use Rattle.ps_laws.specs.Alike.{AreAlike, AreFightsAlike, AreMaybeAlike, IsLoggedOpenly}
use Rattle.ps_laws.proofs.PartLemmas.{PlaysOwn, is_choose}
use Rattle.ps_laws.proofs.ItemLemmas.{outcome_of_choices, commit_after, commit_message, with_choice}
use Rattle.ps_laws.proofs.TwinSideLemmas.{IsOpen, member_role_same}
use Rattle.ps_laws.proofs.TwinAskLemmas.{AsksOwn, casts_alike, requests_same, request_for_same}
use Rattle.ps_laws.proofs.TwinBoutLemmas.{AreOutcomesAlike, AreChoicesGood, with_outcome, outcome_alike, choices_alike, waiting_fight_alike}
use Rattle.ps_laws.proofs.TwinTellLemmas.{requests_unlogged, logged_with_requests, logged_openly, shown_events_same, backlog_same}

-- a room with another battle
abbrev pub with_fight : Record → Option Fight → Record
with_fight r go = record r { battle = go }

-- ---- an allowed entry that isn't a choice: its battle

events_same : (places : Hidden) (fo go : Option Fight) (me : Option Present) (cmd : Command) → is_choose cmd ≡ false → AreMaybeAlike places fo go → events_by fo me cmd ≡ events_by go me cmd
events_same places None None me cmd free w = refl
events_same places None (Some g) me cmd free w = absurd w
events_same places (Some f) None me cmd free w = absurd w
events_same places (Some f) (Some g) me cmd free w = (outcome_alike places f g me cmd free w).told

events_named : (places : Hidden) (fo go : Option Fight) (me : Option Present) (cmd : Command) → is_choose cmd ≡ false → AreMaybeAlike places fo go → NamesNoHidden places (events_by fo me cmd)
events_named places None None me cmd free w = All-nil (λ e. All (IsShown places) (whos e))
events_named places None (Some g) me cmd free w = absurd w
events_named places (Some f) None me cmd free w = absurd w
events_named places (Some f) (Some g) me cmd free w = (outcome_alike places f g me cmd free w).names

battle_alike : (places : Hidden) (fo go : Option Fight) (me : Option Present) (cmd : Command) → is_choose cmd ≡ false → AreMaybeAlike places fo go →
    AreMaybeAlike places (battle_after fo me cmd) (battle_after go me cmd)
battle_alike places None None me cmd free w = tt
battle_alike places None (Some g) me cmd free w = absurd w
battle_alike places (Some f) None me cmd free w = absurd w
battle_alike places (Some f) (Some g) me cmd free w = with_outcome places f g (outcome_by f me cmd) (outcome_by g me cmd) w (outcome_alike places f g me cmd free w)

-- the requests of outcomes that are alike, to who plays own sides alone
asked_same : (conn : ℕ) (own : ℕ → Bool) (places : Hidden) (role : Role) (f g : Fight) (o p : Outcome) → IsOpen own places → AsksOwn own role → AreFightsAlike places f g →
    AreOutcomesAlike places o p →
    seen_texts conn role (requests f.cast o.bout o.told) ≡ seen_texts conn role (requests g.cast p.bout p.told)
asked_same conn own places role f g o p plain asks w outcomes =
    requests_same conn own places role f.cast g.cast o.bout p.bout o.told plain asks (casts_alike places f g w) outcomes.bout
    ∙ ap (λ (told : List Event). seen_texts conn role (requests g.cast p.bout told)) outcomes.told

seen_same : (conn : ℕ) (own : ℕ → Bool) (places : Hidden) (role : Role) (fo go : Option Fight) (me : Option Present) (cmd : Command) (ls : List Line) → IsOpen own places →
    AsksOwn own role → is_choose cmd ≡ false → AreMaybeAlike places fo go →
    seen_texts conn role (lines_by fo me cmd ls) ≡ seen_texts conn role (lines_by go me cmd ls)
seen_same conn own places role None None me cmd ls plain asks free w = refl
seen_same conn own places role None (Some g) me cmd ls plain asks free w = absurd w
seen_same conn own places role (Some f) None me cmd ls plain asks free w = absurd w
seen_same conn own places role (Some f) (Some g) me cmd ls plain asks free w =
    let one = outcome_by f me cmd in
    let two = outcome_by g me cmd in
    filter_map-append (seen_text conn role) ls (requests f.cast one.bout one.told)
    ∙ ap (λ (more : List (List ℕ)). seen_texts conn role ls ++ more) (asked_same conn own places role f g one two plain asks w (outcome_alike places f g me cmd free w))
    ∙ sym (filter_map-append (seen_text conn role) ls (requests g.cast two.bout two.told))

-- of the lines only those of the chat are logged
lines_logged : (fo : Option Fight) (me : Option Present) (cmd : Command) (ls : List Line) → logged_lines (lines_by fo me cmd ls) ≡ logged_lines ls
lines_logged None me cmd ls = refl
lines_logged (Some f) me cmd ls = logged_with_requests f.cast (outcome_by f me cmd).bout (outcome_by f me cmd).told ls

-- ---- an allowed entry that isn't a choice: the room

entry_logged : (places : Hidden) (r : Record) (go : Option Fight) (e : Entry) → is_choose e.cmd ≡ false → AreMaybeAlike places r.battle go →
    logged_of (allowed_events r e) (allowed_lines r e) ≡ logged_of (allowed_events (with_fight r go) e) (allowed_lines (with_fight r go) e)
entry_logged places r go e free w =
    ap (λ (told : List Event). logged_events told ++ logged_lines (allowed_lines r e)) (events_same places r.battle go (sender_of r e) e.cmd free w)
    ∙ ap (λ (more : List Logged). logged_events (allowed_events (with_fight r go) e) ++ more)
    (lines_logged r.battle (sender_of r e) e.cmd (chat_lines r e) ∙ sym (lines_logged go (sender_of r e) e.cmd (chat_lines r e)))

pub applied_alike : (places : Hidden) (r : Record) (go : Option Fight) (e : Entry) → is_choose e.cmd ≡ false → AreAlike places r (with_fight r go) →
    AreAlike places (applied r e) (applied (with_fight r go) e)
applied_alike places r go e free w = record {
  opening = refl;
  chat = refl;
  logged = ap (λ (more : List Logged). r.logged ++ more) (entry_logged places r go e free w.battle);
  openly = All-append (IsLoggedOpenly places) r.logged (logged_of (allowed_events r e) (allowed_lines r e)) w.openly
      (logged_openly places (allowed_events r e) (allowed_lines r e) (events_named places r.battle go (sender_of r e) e.cmd free w.battle));
  battle = battle_alike places r.battle go (sender_of r e) e.cmd free w.battle;
}

-- what a connection is shown of it, if it isn't who joins
pub entry_texts_same : (conn : ℕ) (own : ℕ → Bool) (places : Hidden) (role : Role) (r : Record) (go : Option Fight) (e : Entry) → IsOpen own places → AsksOwn own role →
    is_choose e.cmd ≡ false → AreMaybeAlike places r.battle go →
    shown_events (cast_in r.battle) role (allowed_events r e) ++ seen_texts conn role (allowed_lines r e) ≡
    shown_events (cast_in go) role (allowed_events (with_fight r go) e) ++ seen_texts conn role (allowed_lines (with_fight r go) e)
entry_texts_same conn own places role r go e plain asks free w =
    ap (λ (texts : List (List ℕ)). texts ++ seen_texts conn role (allowed_lines r e))
    (shown_events_same places r.battle go role (allowed_events r e) w (events_named places r.battle go (sender_of r e) e.cmd free w)
    ∙ ap (shown_events (cast_in go) role) (events_same places r.battle go (sender_of r e) e.cmd free w))
    ∙ ap (λ (texts : List (List ℕ)). shown_events (cast_in go) role (allowed_events (with_fight r go) e) ++ texts)
    (seen_same conn own places role r.battle go (sender_of r e) e.cmd (chat_lines r e) plain asks free w)

-- who joins is told the same of both rooms
pub joined_same : (own : ℕ → Bool) (places : Hidden) (r : Record) (go : Option Fight) (e : Entry) (one two : List (List ℕ)) (mine join : Bool) → IsOpen own places →
    AreAlike places r (with_fight r go) → (mine ≡ true → join ≡ true → PlaysOwn own r.battle (Some (joiner_of r e))) → one ≡ two →
    joined_or (cond mine (joined_if join r e) None) (cast_in r.battle) r.logged one ≡ joined_or (cond mine (joined_if join (with_fight r go) e) None) (cast_in go) r.logged two
joined_same own places r go e one two true true plain w plays same =
    let p : Present = joiner_of r e in
    let first : List (List ℕ) = head r (presents_of r ++ p ∷ []) in
    let shown : Option Fight → Role → List (List ℕ) = λ fo role. shown_items (cast_in fo) role (backlog_items (cast_in fo) (take (length r.logged) r.logged)) in
    ap (λ (role : Role). first ++ shown r.battle role ++ option_to_list (request_for r.battle p)) (member_role_same places r.battle go p w.battle)
    ∙ ap (λ (texts : List (List ℕ)). first ++ texts ++ option_to_list (request_for r.battle p)) (backlog_same places r.battle go (role_of_member (cast_in go) p) (length r.logged) r.logged w.battle w.openly)
    ∙ ap (λ (text : Option (List ℕ)). first ++ shown go (role_of_member (cast_in go) p) ++ option_to_list text) (request_for_same own places r.battle go p plain (plays refl refl) w.battle)
joined_same own places r go e one two true false plain w plays same = same
joined_same own places r go e one two false join plain w plays same = same

-- ---- a choice of an own side, which waits

pub with_choice_alike : (own : ℕ → Bool) (places : Hidden) (r : Record) (go : Option Fight) (e : Entry) (choice : List ℕ) (rqid : Option ℕ) → IsOpen own places →
    PlaysOwn own r.battle (sender_of r e) → AreAlike places r (with_fight r go) → AreAlike places (with_choice r e choice rqid) (with_choice (with_fight r go) e choice rqid)
with_choice_alike own places r go e choice rqid plain plays w = record {
  opening = refl;
  chat = refl;
  logged = refl;
  openly = w.openly;
  battle = waiting_fight_alike own places r.battle go (sender_of r e) choice rqid plain plays w.battle;
}

-- ---- a round

pub round_logged : (places : Hidden) (f g : Fight) (o p : Outcome) → AreOutcomesAlike places o p → logged_of o.told (requests f.cast o.bout o.told) ≡ logged_of p.told (requests g.cast p.bout p.told)
round_logged places f g o p w =
    ap (λ (told : List Event). logged_events told ++ logged_lines (requests f.cast o.bout o.told)) w.told
    ∙ ap (λ (more : List Logged). logged_events p.told ++ more) (requests_unlogged f.cast o.bout o.told ∙ sym (requests_unlogged g.cast p.bout p.told))

-- the choices of a round in a room, if it has a battle
abbrev pub AreMaybeGood : Hidden → Option Fight → Choice → Choice → Type 0
AreMaybeGood places None first second = Unit {0}
AreMaybeGood places (Some f) first second = AreChoicesGood places f first second

pub commit_alike : (places : Hidden) (r s : Record) (fo go : Option Fight) (first second : Choice) → AreMaybeGood places fo first second → AreMaybeAlike places fo go →
    AreAlike places r s → AreAlike places (commit_after r fo first second) (commit_after s go first second)
commit_alike places r s None None first second good fights w = w
commit_alike places r s None (Some g) first second good fights w = absurd fights
commit_alike places r s (Some f) None first second good fights w = absurd fights
commit_alike places r s (Some f) (Some g) first second good fights w =
    let o = outcome_of_choices f first second in
    let p = outcome_of_choices g first second in
    let outcomes : AreOutcomesAlike places o p = choices_alike places f g first second good fights in
    let more = logged_of o.told (requests f.cast o.bout o.told) in
    record {
      opening = w.opening;
      chat = w.chat;
      logged = ap (λ (before : List Logged). before ++ more) w.logged ∙ ap (λ (new : List Logged). s.logged ++ new) (round_logged places f g o p outcomes);
      openly = All-append (IsLoggedOpenly places) r.logged more w.openly (logged_openly places o.told (requests f.cast o.bout o.told) outcomes.names);
      battle = with_outcome places f g o p fights outcomes;
    }

pub commit_message_same : (conn : ℕ) (own : ℕ → Bool) (places : Hidden) (role : Role) (fo go : Option Fight) (first second : Choice) → IsOpen own places → AsksOwn own role →
    AreMaybeGood places fo first second → AreMaybeAlike places fo go →
    commit_message conn role fo first second ≡ commit_message conn role go first second
commit_message_same conn own places role None None first second plain asks good w = refl
commit_message_same conn own places role None (Some g) first second plain asks good w = absurd w
commit_message_same conn own places role (Some f) None first second plain asks good w = absurd w
commit_message_same conn own places role (Some f) (Some g) first second plain asks good w =
    let o = outcome_of_choices f first second in
    let p = outcome_of_choices g first second in
    let outcomes : AreOutcomesAlike places o p = choices_alike places f g first second good w in
    let named : NamesNoHidden places o.told = outcomes.names in
    ap (λ (texts : List (List ℕ)). texts ++ seen_texts conn role (requests f.cast o.bout o.told))
    (shown_events_same places (Some f) (Some g) role o.told w named ∙ ap (shown_events (Some g.cast) role) outcomes.told)
    ∙ ap (λ (texts : List (List ℕ)). shown_events (Some g.cast) role p.told ++ texts) (asked_same conn own places role f g o p plain asks w outcomes)
