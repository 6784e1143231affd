-- Covered: the name that the connection has, and each id that is online on it, is one of its users. And what entries and items
-- change of who is connected.
use Rattle.std.proofs.Common.{◌≡◌, ℕ, ◌==◌, Bool, true, false, cond, List, [], ◌∷◌, ◌++◌, Option, Some, None, option_map, refl, sym, ap, subst, ◌∙◌, arith}
use Rattle.std.specs.Option.{option_and_then}
use Rattle.std.specs.Ordering.{nat_cmp, eq_by_cmp}
use Rattle.std.specs.Cmp.{nat_cmp_total, unsigned_tied}
use Rattle.std.specs.Cmp.Lexicographic.{slice_cmp, nat_list_cmp_total}
use Rattle.std.specs.FinMap.{get, insert, remove, empty, get-empty, get-insert, get-remove}
use Rattle.std.proofs.lemmas.Bool.Decides.{nat_tests}
use Rattle.std.proofs.lemmas.Cmp.{nat_eq_equiv}
use Rattle.std.proofs.lemmas.Slice.Eq.{bytes_eq-Decides}
use Rattle.std.proofs.lemmas.Map.Text.{is_eq-slice_cmp}
use Rattle.ps_base.specs.Ids.{id_of}
use Rattle.ps_base.specs.declared.badge.Badge.{Badge}
use Rattle.ps_base.specs.declared.hall_why.HallWhy.{HallWhy}
use Rattle.ps_lines.specs.declared.command.HallCmd.{HallCmd}
use Rattle.ps_lines.specs.declared.command.HallCmd.TheVariants.{Open, Quit, Name, Accept}
use Rattle.ps_valid.specs.declared.legal.Legal.{Legal}
use Rattle.ps_base.specs.ById.{ById}
use Rattle.ps_users.specs.Records.{Record as Users}
use Rattle.ps_users.specs.Refusals.{read_of, refusal as refusal_of_user}
use Rattle.ps_users.specs.Seats.{Seats, badge_in, opened_by, without}
use Rattle.ps_users.specs.Steps.{after as users_after, granted, badge_for, with_name}
use Rattle.ps_pms.specs.declared.asked.Asked.{Asked}
use Rattle.ps_ladder.specs.declared.searches.Search.{Search as Waiting}
use Rattle.ps_hall.specs.declared.entry.HallEntry.{HallEntry}
use Rattle.ps_hall.specs.declared.game.Game.{Game}
use Rattle.ps_hall.specs.Records.{Record}
use Rattle.ps_hall.specs.Lookups.{badge_of, opponent, challenge_from, game_in}
use Rattle.ps_hall.specs.Refusals.{refusal}
use Rattle.ps_hall.specs.Starts.{with_game}
use Rattle.ps_hall.specs.Steps.{with_accept, reported as report_of}
use Rattle.ps_hall.specs.Halls.{after, after_by, out_by}
use Rattle.ps_hall.proofs.StepLemmas.{applied_users}
use Rattle.ps_laws.specs.HallLow.{HallItem, whole, named, searched, search_cancelled, started, challenged, challenge_cancelled, rejected, is_user, is_own_entry, id_taken, ids_taken, reported}
use Rattle.ps_laws.proofs.HallEffects.{battle_of, searched_by, accepted_by}
use Rattle.ps_laws.proofs.HallOwnLemmas.{IsMine}
use Rattle.ps_laws.proofs.HallItems.{no_team, accepted_of, shown_after, whole_after, item_after, item_users, item_taken, users_by, badge_by}
use Rattle.ps_laws.proofs.UserLists.{AreUsers}

-- ---- who is connected after an entry

game_users : (h : Record) (o : Option Game) → (with_game h o).users ≡ h.users
game_users h None = refl
game_users h (Some g) = refl

-- a refused entry changes nothing, and Open and Quit are never refused
judged_users : (h : Record) (conn : ℕ) (cmd : HallCmd) (v : Option HallWhy) → users_after h.users conn cmd ≡ h.users → (after_by v h conn cmd).users ≡ h.users
judged_users h conn cmd (Some why) same = refl
judged_users h conn cmd None same = applied_users h conn cmd ∙ same

name_users : (h : Record) (conn : ℕ) (cmd : HallCmd) (v : Option HallWhy) → (after_by v h conn cmd).users ≡ users_by v h.users conn cmd
name_users h conn cmd (Some why) = refl
name_users h conn cmd None = applied_users h conn cmd

entry_users : (h : Record) (conn : ℕ) (cmd : HallCmd) → (after_by (refusal h conn cmd) h conn cmd).users ≡ users_by (refusal_of_user h.users conn cmd) h.users conn cmd
unfolding refusal
entry_users h conn Open = applied_users h conn Open
entry_users h conn Quit = applied_users h conn Quit
entry_users h conn (Name name assertion) = name_users h conn (Name name assertion) (refusal_of_user h.users conn (Name name assertion))
entry_users h conn other = judged_users h conn other (refusal h conn other) refl

-- who is connected after an entry is told by who was before
pub users_after_entry : (h : Record) (e : HallEntry) → (after h e).users ≡ users_by (refusal_of_user h.users e.conn e.cmd) h.users e.conn e.cmd
users_after_entry h e = entry_users h e.conn e.cmd

out_none : (h : Record) (conn : ℕ) (cmd : HallCmd) (v : Option HallWhy) → granted h.users cmd ≡ None → (out_by v h conn cmd).badge ≡ None
out_none h conn cmd (Some why) none = refl
out_none h conn cmd None none = none

out_named : (h : Record) (conn : ℕ) (cmd : HallCmd) (v : Option HallWhy) → (out_by v h conn cmd).badge ≡ badge_by v h.users cmd
out_named h conn cmd (Some why) = refl
out_named h conn cmd None = refl

out_badge : (h : Record) (conn : ℕ) (cmd : HallCmd) → (out_by (refusal h conn cmd) h conn cmd).badge ≡ badge_by (refusal_of_user h.users conn cmd) h.users cmd
unfolding refusal
out_badge h conn (Name name assertion) = out_named h conn (Name name assertion) (refusal_of_user h.users conn (Name name assertion))
out_badge h conn other = out_none h conn other (refusal h conn other) refl

-- and so is the id that an entry gives the connection
pub taken_is : (conn : ℕ) (h : Record) (e : HallEntry) → ids_taken conn h e ≡ item_taken conn h.users (whole e)
taken_is conn h e = ap (λ (badge : Option Badge). cond (e.conn == conn) (id_taken badge) []) (out_badge h e.conn e.cmd)

-- ---- who is connected after an item

search_users : (l : Record) (name format : List ℕ) (legal : Legal) (o : Option Waiting) → (searched_by l name format legal o).users ≡ l.users
search_users l name format legal None = refl
search_users l name format legal (Some s) = game_users _ (option_map (battle_of l.started format true name) _)

accept_users : (l : Record) (name user : List ℕ) (o : Option Asked) → (accepted_by l name user o).users ≡ l.users
accept_users l name user None = refl
accept_users l name user (Some a) = game_users (with_accept l (id_of name) user) (option_map (battle_of l.started a.format false name) _)

accepted_users : (l : Record) (user : List ℕ) (badge : Option Badge) → (accepted_of l user badge).users ≡ l.users
accepted_users l user None = refl
accepted_users l user (Some b) = accept_users l b.name user (challenge_from l (id_of b.name) user)

shown_users : (l : Record) (e : HallEntry) (cmd : HallCmd) → e.cmd ≡ cmd → (shown_after l e cmd).users ≡ users_by (refusal_of_user l.users e.conn cmd) l.users e.conn cmd
shown_users l e (Accept user) is = accepted_users l user (badge_of l e.conn)
shown_users l e other is = users_after_entry l e ∙ ap (λ (cmd : HallCmd). users_by (refusal_of_user l.users e.conn cmd) l.users e.conn cmd) is

whole_users : (l : Record) (e : HallEntry) (own : Bool) → (whole_after own l e).users ≡ item_users l.users (whole e)
whole_users l e true = users_after_entry l e
whole_users l e false = shown_users l e e.cmd refl

report_users : (l : Record) (number : ℕ) (winner : Option ℕ) (o : Option Game) → (report_of l number winner o).users ≡ l.users
report_users l number winner None = refl
report_users l number winner (Some g) = refl

pub users_after_item : (conn : ℕ) (ids : List (List ℕ)) (l : Record) (i : HallItem) → (item_after conn ids l i).users ≡ item_users l.users i
users_after_item conn ids l (whole e) = whole_users l e (is_own_entry conn ids l e)
users_after_item conn ids l (named other name) = refl
users_after_item conn ids l (searched name format) = search_users l name format no_team (opponent l (id_of name) format)
users_after_item conn ids l (search_cancelled me) = refl
users_after_item conn ids l (started one two format) = refl
users_after_item conn ids l (challenged name user format) = refl
users_after_item conn ids l (challenge_cancelled me user format) = refl
users_after_item conn ids l (rejected me user format) = refl
users_after_item conn ids l (reported number winner) = report_users l number winner (game_in l number)

-- ---- all of these are users

pub users_front : (ids xs ys : List (List ℕ)) → AreUsers ids (xs ++ ys) → AreUsers ids xs
users_front ids [] ys all = tt
users_front ids (x ∷ xs) ys all = (all.0, users_front ids xs ys all.1)

pub users_rest : (ids xs ys : List (List ℕ)) → AreUsers ids (xs ++ ys) → AreUsers ids ys
users_rest ids [] ys all = all
users_rest ids (x ∷ xs) ys all = users_rest ids xs ys all.1

-- ---- covered

pub record IsCovered (conn : ℕ) (ids : List (List ℕ)) (users : Users) : Type 0 where
  pub seat : IsMine ids (badge_in users.seats conn)
  pub online : (id : List ℕ) → get users.online id ≡ Some conn → is_user ids id ≡ true

is_conn : (sender conn : ℕ) → Some sender ≡ Some conn → (sender == conn) ≡ true
is_conn sender conn is = let same : sender ≡ conn = cc in grind (arith, nat_tests)

module _ (conn : ℕ) (ids : List (List ℕ)) where
  seat_at : (b : Bool) (seat there : Option (Option Badge)) → (b ≡ true → IsMine ids (option_and_then (λ x. x) seat)) → IsMine ids (option_and_then (λ x. x) there)
      → IsMine ids (option_and_then (λ x. x) (cond b seat there))
  seat_at true seat there put old = put refl
  seat_at false seat there put old = old

  seat_put : (seats : Seats) (sender : ℕ) (seat : Option Badge) → ((sender == conn) ≡ true → IsMine ids seat) → IsMine ids (badge_in seats conn) → IsMine ids (badge_in (insert seats sender seat) conn)
  seat_put seats sender seat put old =
      subst (λ (o : Option (Option Badge)). IsMine ids (option_and_then (λ x. x) o)) (sym (get-insert nat_cmp_total seats sender seat conn))
      (seat_at (eq_by_cmp nat_cmp conn sender) (Some seat) (get seats conn) (λ is. put (nat_eq_equiv.symm sender conn ∙ (sym (unsigned_tied conn sender) ∙ is))) old)

  seat_gone : (seats : Seats) (sender : ℕ) → IsMine ids (badge_in seats conn) → IsMine ids (badge_in (remove seats sender) conn)
  seat_gone seats sender old =
      subst (λ (o : Option (Option Badge)). IsMine ids (option_and_then (λ x. x) o)) (sym (get-remove nat_cmp_total seats sender conn))
      (seat_at (eq_by_cmp nat_cmp conn sender) None (get seats conn) (λ is. tt) old)

  gone_at : (id : List ℕ) (b : Bool) (there : Option ℕ) → (there ≡ Some conn → is_user ids id ≡ true) → cond b None there ≡ Some conn → is_user ids id ≡ true
  gone_at id true there old is = absurd cc
  gone_at id false there old is = old is

  put_at : (id name : List ℕ) (sender : ℕ) (b : Bool) (there : Option ℕ) → (b ≡ true → id ≡ name) → ((sender == conn) ≡ true → is_user ids name ≡ true) → (there ≡ Some conn → is_user ids id ≡ true)
      → cond b (Some sender) there ≡ Some conn → is_user ids id ≡ true
  put_at id name sender true there same put old is = ap (is_user ids) (same refl) ∙ put (is_conn sender conn is)
  put_at id name sender false there same put old is = old is

  opened_covered : (users : Users) (sender : ℕ) (seat : Option (Option Badge)) → IsCovered conn ids users → IsMine ids (badge_in (opened_by seat users.seats sender) conn)
  opened_covered users sender None w = seat_put users.seats sender None (λ is. tt) w.seat
  opened_covered users sender (Some seat) w = w.seat

  gone_covered : (users : Users) (badge : Option Badge) → IsCovered conn ids users → (id : List ℕ) → get (without badge users.online) id ≡ Some conn → is_user ids id ≡ true
  gone_covered users None w id is = w.online id is
  gone_covered users (Some b) w id is = gone_at id (eq_by_cmp (slice_cmp nat_cmp) id (id_of b.name)) (get users.online id) (w.online id) (sym (get-remove nat_list_cmp_total users.online (id_of b.name) id) ∙ is)

  taken_here : (id : List ℕ) (b : Bool) → AreUsers ids (cond b (id ∷ []) []) → b ≡ true → is_user ids id ≡ true
  taken_here id true all is = all.0
  taken_here id false all is = absurd cc

  name_covered : (users : Users) (sender : ℕ) (read : Option (List ℕ)) → IsCovered conn ids users
      → AreUsers ids (cond (sender == conn) (id_taken (option_map (badge_for users) read)) []) → IsCovered conn ids (with_name users sender read)
  name_covered users sender None w all = w
  name_covered users sender (Some name) w all = record {
    seat = seat_put users.seats sender (Some (badge_for users name)) (taken_here (id_of name) (sender == conn) all) w.seat;
    online = λ id is. put_at id (id_of name) sender (eq_by_cmp (slice_cmp nat_cmp) id (id_of name)) (get users.online id)
        (λ same. ((bytes_eq-Decides id (id_of name)).0 (sym (is_eq-slice_cmp id (id_of name)) ∙ same)))
        (taken_here (id_of name) (sender == conn) all) (w.online id)
        (sym (get-insert nat_list_cmp_total users.online (id_of name) sender id) ∙ is);
  }

  covered_by : (users : Users) (sender : ℕ) (cmd : HallCmd) → IsCovered conn ids users → AreUsers ids (cond (sender == conn) (id_taken (granted users cmd)) [])
      → IsCovered conn ids (users_after users sender cmd)
  covered_by users sender Open w all = record { seat = opened_covered users sender (get users.seats sender) w; online = w.online }
  covered_by users sender Quit w all = record { seat = seat_gone users.seats sender w.seat; online = gone_covered users (badge_in users.seats sender) w }
  covered_by users sender (Name name assertion) w all = name_covered users sender (read_of name) w all
  covered_by users sender other w all = w

  covered_judged : (users : Users) (sender : ℕ) (cmd : HallCmd) (v : Option HallWhy) → IsCovered conn ids users
      → AreUsers ids (cond (sender == conn) (id_taken (badge_by v users cmd)) []) → IsCovered conn ids (users_by v users sender cmd)
  covered_judged users sender cmd (Some why) w all = w
  covered_judged users sender cmd None w all = covered_by users sender cmd w all

  -- each entry keeps it, where the id that it gives the connection is one of its users
  pub covered_after : (h : Record) (e : HallEntry) → IsCovered conn ids h.users → AreUsers ids (ids_taken conn h e) → IsCovered conn ids (after h e).users
  covered_after h e w all =
      subst (IsCovered conn ids) (sym (users_after_entry h e))
      (covered_judged h.users e.conn e.cmd (refusal_of_user h.users e.conn e.cmd) w (subst (AreUsers ids) (taken_is conn h e) all))

  none_conn : (o : Option ℕ) → o ≡ None → o ≡ Some conn → ⊥
  none_conn None none is = absurd cc
  none_conn (Some x) none is = absurd cc

  -- nobody is connected at first
  pub covered_first : (users : Users) → users.seats ≡ empty → users.online ≡ empty → IsCovered conn ids users
  covered_first users seats online = record {
    seat = subst (λ (o : Option (Option Badge)). IsMine ids (option_and_then (λ x. x) o)) (sym (ap (λ (s : Seats). get s conn) seats ∙ get-empty nat_cmp conn)) tt;
    online = λ id is. absurd (none_conn (get users.online id) (ap (λ (s : ById ℕ). get s id) online ∙ get-empty (slice_cmp nat_cmp) id) is);
  }
