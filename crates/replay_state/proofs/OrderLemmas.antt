-- What a text leaves of its session: an order that was just taken was counted to its place last, and a badge comes back.
use Rattle.std.proofs.Common.{◌≡◌, ℕ, Bool, true, false, Option, Some, None, refl, ap}
use Rattle.std.specs.Prelude.{Ok, if◌then◌else◌}
use Rattle.std.specs.FinMap.{get}
use Rattle.ps_base.specs.declared.badge.Badge.{Badge}
use Rattle.ps_lines.specs.declared.command.Command.{Command}
use Rattle.ps_lines.specs.declared.command.BadWhy.TheVariants as bad
use Rattle.ps_lines.specs.declared.order.Order.{Order}
use Rattle.ps_lines.specs.declared.order.Order.TheVariants as orders
use Rattle.ps_hall.specs.Refusals.{refusal}
use Rattle.ps_session.specs.Sessions.{Record as Session, is_full, counted, with_badge, without_badge}
use Rattle.ps_session.specs.Routes.{place_of, bad_order, after_no_room}
use Rattle.replay_state.specs.declared.place.Placed.{Placed}
use Rattle.replay_state.specs.declared.place.Placed.TheVariants.{Hall, Room}
use Rattle.replay_state.specs.Nows.{Now}
use Rattle.replay_state.specs.Entries.{IsCounted, entry_in_hall, entry_in_room, numbered_entry, order_entry, order_session, session_past_room, lent_to_room, session_lent, session_past, entry_out, end_by}

pub counted_is : (o : Order) (s : Session) → IsCounted o (counted (place_of o) s)
counted_is (orders.Hall cmd) s = tt
counted_is (orders.Room id cmd) s = refl

given_back : (s : Session) (badge : Badge) → Some badge ≡ s.badge → with_badge badge (without_badge s) ≡ s
given_back s badge e = ap (λ (b : Option Badge). record s { badge = b }) e

none_lent : (s : Session) → None ≡ s.badge → without_badge s ≡ s
none_lent s e = ap (λ (b : Option Badge). record s { badge = b }) e

-- an entry of the hall that says that a room isn't there gives no badge
none_there : (moment : ℕ) (n : Now) (conn : ℕ) (s : Session) (full : Bool)
    → session_past n (entry_in_hall moment conn (if full then None else Some (bad_order bad.NoSuchRoom))) s ≡ s
unfolding refusal
none_there moment n conn s true = refl
none_there moment n conn s false = refl

some_there : (moment : ℕ) (n : Now) (conn number : ℕ) (cmd : Command) (s : Session) (badge : Option Badge)
    → badge ≡ s.badge → session_past n (entry_in_room moment conn number cmd badge) (without_badge s) ≡ s
some_there moment n conn number cmd s None e = none_lent s e
some_there moment n conn number cmd s (Some badge) e = given_back s badge e

by_number : (moment : ℕ) (n : Now) (conn : ℕ) (number : Option ℕ) (cmd : Command) (s : Session)
    → session_past n (numbered_entry moment conn number cmd s) (lent_to_room number s) ≡ session_past_room number s
by_number moment n conn None cmd s = none_there moment n conn (after_no_room s) (is_full None s)
by_number moment n conn (Some number) cmd s = some_there moment n conn number cmd s s.badge refl

pub session_whole : (moment : ℕ) (n : Now) (conn : ℕ) (o : Order) (s : Session)
    → session_past n (order_entry moment n conn (Ok o) s) (session_lent n o s) ≡ order_session moment n conn (Ok o) s
session_whole moment n conn (orders.Hall cmd) s = refl
session_whole moment n conn (orders.Room id cmd) s = by_number moment n conn (get n.numbers id) cmd s

-- the end that an entry brings about
pub end_is : (n : Now) (p : Placed) → (entry_out n p).ended ≡ end_by n (Some p)
end_is n (Hall e) = refl
end_is n (Room number e) = refl
