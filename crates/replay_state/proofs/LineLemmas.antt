-- What is true of all entries that a line brings about.
use Rattle.std.proofs.Common.{◌≡◌, ℕ, suc, ◌+◌, ◌<◌, Bool, true, false, cond, List, [], ◌∷◌, ◌++◌, length, map, Option, Some, None, Result, Ok, Err, IfOk, IfSome, refl, sym, ap, ◌∙◌, subst, arith}
use Rattle.std.specs.FinMap.{get}
use Rattle.std.proofs.lemmas.List.{append-nil}
use Rattle.std.proofs.lemmas.List.Elements.{filter_map-append}
use Rattle.ps_base.specs.declared.badge.Badge.{Badge}
use Rattle.ps_lines.specs.declared.command.BadWhy.TheVariants as bad
use Rattle.ps_lines.specs.declared.command.Command.{Command}
use Rattle.ps_lines.specs.declared.command.HallCmd.{HallCmd}
use Rattle.ps_lines.specs.declared.command.HallCmd.TheVariants as hall_commands
use Rattle.ps_lines.specs.declared.order.Order.{Order}
use Rattle.ps_lines.specs.declared.order.Order.TheVariants as orders
use Rattle.ps_session.specs.Sessions.{Record as Session, is_full}
use Rattle.ps_session.specs.Routes.{bad_order, taken, after_take}
use Rattle.ps_session.specs.declared.session.TakeFault.{TakeFault}
use Rattle.ps_hall.specs.Lookups.{badge_of}
use Rattle.ps_room.specs.declared.outcome.Ending.{Ending}
use Rattle.replay_state.specs.declared.place.Placed.{Placed}
use Rattle.replay_state.specs.declared.place.Placed.TheVariants.{Hall, Room}
use Rattle.replay_state.specs.declared.place.Happening.TheVariants.{Entry, Ended}
use Rattle.ps_room.specs.Openings.{first_battle}
use Rattle.replay_state.specs.Nows.{Standing, Now, record_at}
use Rattle.replay_state.specs.Entries.{is_member, quit_of, quit_in, room_quits, named_quits, hall_entry, quits, ended, room_entry, entry_in_room, entry_in_hall, numbered_entry, order_entry, text_entry, report_of, ending_at, reports, entry_happenings, session_of, is_open, State, idle, sent_by, sent, closed, entry_in, entries_in}
use Rattle.replay_state.proofs.RouteLemmas.{IsAsked, IsOfText, taken_asked}

-- ---- entries among happenings

pub entries_of_entries : (ps : List Placed) → entries_in (map Entry ps) ≡ ps
entries_of_entries [] = refl
entries_of_entries (p ∷ ps) = ap (λ (x : List Placed). p ∷ x) (entries_of_entries ps)

pub entries_of_ended : (moment : ℕ) (n : Now) (conn : ℕ) → entries_in (ended moment n conn) ≡ quits moment n conn
entries_of_ended moment n conn =
    filter_map-append entry_in (map Entry (quits moment n conn)) (Ended conn ∷ [])
    ∙ append-nil (entries_in (map Entry (quits moment n conn)))
    ∙ entries_of_entries (quits moment n conn)

-- ---- all of some entries

abbrev pub AllOf : (Placed → Type 0) → List Placed → Type 0
AllOf P [] = Unit {0}
AllOf P (p ∷ ps) = P p × AllOf P ps

of_append : (P : Placed → Type 0) (ps qs : List Placed) → AllOf P ps → AllOf P qs → AllOf P (ps ++ qs)
of_append P [] qs a b = b
of_append P (p ∷ ps) qs a b = (a.0, of_append P ps qs a.1 b)

module _ (P : Placed → Type 0) (moment : ℕ) (n : Now) (conn : ℕ) where
  -- ---- of the Quits of rooms and the hall

  quit_all : (badge : Badge) (number : ℕ) (b : Bool) → P (quit_of moment conn badge number) → AllOf P (cond b (quit_of moment conn badge number ∷ []) [])
  quit_all badge number true here = (here, tt)
  quit_all badge number false here = tt

  rooms_all : (badge : Badge) (number : ℕ) (rs : List Standing) → ((k : ℕ) → k < length rs → P (quit_of moment conn badge (number + k))) → AllOf P (room_quits moment conn badge number rs)
  rooms_all badge number [] each = tt
  rooms_all badge number (r ∷ rs) each =
      let this : number + 0 ≡ number = omega arith in
      let next : (k : ℕ) → number + suc k ≡ suc number + k = λ k. omega arith in
      of_append P (quit_in moment conn badge number r) (room_quits moment conn badge (suc number) rs)
      (quit_all badge number (is_member conn r.state) (subst (λ (x : ℕ). P (quit_of moment conn badge x)) this (each 0 (omega arith))))
      (rooms_all badge (suc number) rs (λ k lt. subst (λ (x : ℕ). P (quit_of moment conn badge x)) (next k) (each (suc k) (omega (arith, lt)))))

  module _ (chats : (badge : Badge) (k : ℕ) → k < length n.chats → P (quit_of moment conn badge (0 + k))) (battles : (badge : Badge) (k : ℕ) → k < length n.battles → P (quit_of moment conn badge (16 + k))) where
    named_all : (o : Option Badge) → AllOf P (named_quits moment n conn o)
    named_all None = tt
    named_all (Some badge) =
        of_append P (room_quits moment conn badge 0 n.chats) (room_quits moment conn badge first_battle n.battles)
        (rooms_all badge 0 n.chats (chats badge))
        (rooms_all badge first_battle n.battles (battles badge))

    pub quits_all : P (hall_entry moment conn hall_commands.Quit) → AllOf P (quits moment n conn)
    quits_all here = of_append P (named_quits moment n conn (badge_of n.hall conn)) (hall_entry moment conn hall_commands.Quit ∷ []) (named_all (badge_of n.hall conn)) (here, tt)

  -- ---- of the one entry of a text

  room_some : (number : ℕ) (cmd : Command) (o : Option Badge) → ((badge : Badge) → P (Room number (room_entry moment conn badge cmd))) → IfSome (entry_in_room moment conn number cmd o) P
  room_some number cmd None said = tt
  room_some number cmd (Some badge) said = said badge

  module _ (asked : (cmd : HallCmd) → IsAsked cmd → P (hall_entry moment conn cmd)) where
    hall_some : (full : Bool) → IfSome (entry_in_hall moment conn (cond full None (Some (bad_order bad.NoSuchRoom)))) P
    hall_some true = tt
    hall_some false = asked (hall_commands.Bad bad.NoSuchRoom) tt

    number_some : (o : Option ℕ) (cmd : Command) (s : Session) → ((number : ℕ) (badge : Badge) → o ≡ Some number → P (Room number (room_entry moment conn badge cmd))) → IfSome (numbered_entry moment conn o cmd s) P
    number_some None cmd s said = hall_some (is_full None s)
    number_some (Some number) cmd s said = room_some number cmd s.badge (λ badge. said number badge refl)

    module _ (said : (id : List ℕ) (number : ℕ) (badge : Badge) (cmd : Command) → get n.numbers id ≡ Some number → P (Room number (room_entry moment conn badge cmd))) where
      order_some : (badge : Option Badge) (take : Result Order TakeFault) (s : Session) → IfOk take (IsOfText badge) → IfSome (order_entry moment n conn take s) P
      order_some badge (Ok (orders.Hall cmd)) s of = asked cmd of
      order_some badge (Ok (orders.Room id cmd)) s of = number_some (get n.numbers id) cmd s (λ number badge is. said id number badge cmd is)
      order_some badge (Err fault) s of = tt

      pub text_some : (text : List ℕ) (s : Session) → IfSome (text_entry moment n conn text s) P
      text_some text s = order_some s.badge (taken s text) (after_take (taken s text) s) (taken_asked s text)

  -- ---- of that entry and the reports behind it, or the Quits

  module _ (report : (number : ℕ) (winner : Option ℕ) → P (hall_entry moment conn (hall_commands.Report number winner))) where
    report_all : (o : Option Ending) → AllOf P (entries_in (report_of moment conn o))
    report_all None = tt
    report_all (Some end) = (report end.number end.winner, tt)

    pub reports_all : (p : Placed) → AllOf P (entries_in (reports moment n conn p))
    reports_all (Hall e) = tt
    reports_all (Room number e) = report_all (ending_at (record_at number n) e)

    entry_all : (o : Option Placed) → IfSome o P → AllOf P (quits moment n conn) → AllOf P (entries_in (entry_happenings moment n conn o))
    entry_all None here quit = subst (AllOf P) (sym (entries_of_ended moment n conn)) quit
    entry_all (Some p) here quit = (here, reports_all p)

-- ---- of the lines of a connection

module _ (P : Placed → Type 0) (s : State) (conn : ℕ) where
  module _ (text : List ℕ) (made : (session : Session) → IfSome (text_entry s.moment s.now conn text session) P) (report : (number : ℕ) (winner : Option ℕ) → P (hall_entry s.moment conn (hall_commands.Report number winner))) (quit : AllOf P (quits s.moment s.now conn)) where
    session_all : (o : Option Session) → AllOf P (entries_in (sent_by s conn text o).happenings)
    session_all None = tt
    session_all (Some session) = entry_all P s.moment s.now conn report (text_entry s.moment s.now conn text session) (made session) quit

    sent_if : (b : Bool) → AllOf P (entries_in (cond b (sent_by s conn text (session_of conn s.sessions)) (idle s.sessions)).happenings)
    sent_if true = session_all (session_of conn s.sessions)
    sent_if false = tt

    pub sent_all : AllOf P (entries_in (sent s conn text).happenings)
    sent_all = sent_if (is_open conn s.now)

  closed_if : (b : Bool) → AllOf P (quits s.moment s.now conn) → AllOf P (entries_in (cond b (record { happenings = map Entry (quits s.moment s.now conn); sessions = s.sessions }) (idle s.sessions)).happenings)
  closed_if true quit = subst (AllOf P) (sym (entries_of_entries (quits s.moment s.now conn))) quit
  closed_if false quit = tt

  pub closed_all : AllOf P (quits s.moment s.now conn) → AllOf P (entries_in (closed s conn).happenings)
  closed_all quit = closed_if (is_open conn s.now) quit
