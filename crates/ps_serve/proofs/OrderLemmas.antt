-- What one try of an order tells.
use Rattle.std.proofs.Common.{◌≡◌, ℕ, suc, Bool, true, false, if◌then◌else◌, List, refl, sym, ap, ◌∙◌, subst, inl, inr, ⊎_elim, Option, Some, None, Result, Ok, Err, is_ok, true≢false}
use Rattle.ps_base.specs.declared.badge.Badge.{Badge}
use Rattle.ps_lines.specs.Clients.{client}
use Rattle.ps_lines.specs.Commands.{command}
use Rattle.ps_lines.specs.declared.client.ClientFault.{ClientFault}
use Rattle.ps_lines.specs.declared.client.ClientFault.TheVariants as client_faults
use Rattle.ps_lines.specs.declared.command.BadWhy.TheVariants.{RoomLimit}
use Rattle.ps_lines.specs.declared.command.CommandFault.{CommandFault}
use Rattle.ps_lines.specs.declared.command.Parsed.{Parsed}
use Rattle.ps_lines.specs.declared.command.Parsed.TheVariants as parsed
use Rattle.ps_session.specs.Routes.{room_named, unless_refused, to_room, by_command, by_client, order_of, place_of, limited, within_limit, taken}
use Rattle.ps_session.specs.declared.session.TakeFault.{TakeFault}
use Rattle.std.specs.Prelude.{IsSome}
use Rattle.ps_lines.specs.declared.command.Command.{Command}
use Rattle.ps_lines.specs.declared.order.Order.{Order}
use Rattle.ps_lines.specs.declared.order.Order.TheVariants.{Hall, Room}
use Rattle.ps_session.specs.Sessions.{Record, is_full, is_past_rooms}
use Rattle.ps_hub.specs.Hubs.{Hub}
use Rattle.ps_hub.specs.Calls.{Held, HeldUp, EntersAt, RoomFails, Orders, NeedsBadge}
use Rattle.ps_hub.specs.declared.out.HubFault.{HubFault}
use Rattle.ps_hub.specs.declared.out.HubFault.TheVariants as hub_faults
use Rattle.ps_hub.specs.declared.out.HubOut.{HubOut}
use Rattle.ps_hub.specs.declared.passes.Passes.{Passes}
use Rattle.ps_serve.specs.Obeys.{TriesInVain, OrdersAtLast}

-- the order comes back
pub back_is : (hub : Hub) (order : Order) (moment : ℕ) (old : Passes) (word : ℕ) (back : Order) (new : Passes) → Orders hub order moment old (Err (hub_faults.Busy word back)) new → back ≡ order
back_is hub (Hall cmd) moment old word back new t = t.0
back_is hub (Room id cmd) moment old word back new t = ⊎_elim
    (λ (n : (back ≡ Room id cmd) × EntersAt hub id (HeldUp word) old new). n.0)
    (λ (n : (here : Passes) × EntersAt hub id (Held id) old here × RoomFails hub id cmd moment here (hub_faults.Busy word back) new). n.2.0)
    t

pub badge_stays : (hub : Hub) (order : Order) (moment : ℕ) (old : Passes) (word : ℕ) (back : Order) (new : Passes) → Orders hub order moment old (Err (hub_faults.Busy word back)) new → NeedsBadge order old → NeedsBadge order new
badge_stays hub (Hall cmd) moment old word back new t some = tt
badge_stays hub (Room id cmd) moment old word back new t some = ⊎_elim
    (λ (n : (back ≡ Room id cmd) × EntersAt hub id (HeldUp word) old new). subst IsSome (sym n.1.but.badge) some)
    (λ (n : (here : Passes) × EntersAt hub id (Held id) old here × RoomFails hub id cmd moment here (hub_faults.Busy word back) new). subst IsSome (sym (n.2.1.but.badge ∙ n.1.but.badge)) some)
    t

pub tried_more : (hub : Hub) (order : Order) (moment tries : ℕ) (old mid : Passes) (word : ℕ) (back : Order) (new : Passes) → TriesInVain hub order moment tries old mid → Orders hub order moment mid (Err (hub_faults.Busy word back)) new → (more : ℕ) × TriesInVain hub order moment more old new
tried_more hub order moment tries old mid word back new t o = (suc tries, (mid, t, (word, back, o)))

-- the last try behind those in vain
pub at_last : (hub : Hub) (left order : Order) (moment : ℕ) (old mid : Passes) (answer : Result HubOut HubFault) (new : Passes) → left ≡ order → (tries : ℕ) → TriesInVain hub order moment tries old mid → Orders hub left moment mid answer new → OrdersAtLast hub order moment old answer new
at_last hub left order moment old mid answer new same tries t o = (tries, mid, t, subst (λ (x : Order). Orders hub x moment mid answer new) same o)

-- ---- no such room

-- ---- an order to a room needs a badge

abbrev HasBadge : Option Badge → Order → Type 0
HasBadge badge (Hall cmd) = Unit {0}
HasBadge badge (Room id cmd) = IsSome badge

abbrev HasBadgeIf : Option Badge → Option Order → Type 0
HasBadgeIf badge None = Unit {0}
HasBadgeIf badge (Some order) = HasBadge badge order

past_badge : (badge : Badge) (b : Bool) (id : List ℕ) (cmd : Command) → HasBadge (Some badge) (unless_refused (if b then Some RoomLimit else None) id cmd)
past_badge badge true id cmd = tt
past_badge badge false id cmd = refl

room_badge : (badge : Option Badge) (r : Record) (id : List ℕ) (cmd : Command) → HasBadge badge (to_room badge r id cmd)
room_badge None r id cmd = tt
room_badge (Some badge) r id cmd = past_badge badge (is_past_rooms id r) id cmd

command_badge : (badge : Option Badge) (r : Record) (room : List ℕ) (p : Result Parsed CommandFault) → HasBadge badge (by_command badge r room p)
command_badge badge r room (Err fault) = tt
command_badge badge r room (Ok (parsed.Hall cmd)) = tt
command_badge badge r room (Ok (parsed.Room cmd)) = room_badge badge r (room_named room cmd) cmd

client_badge : (badge : Option Badge) (r : Record) (c : Result (List ℕ × List ℕ) ClientFault) → HasBadgeIf badge (by_client badge r c)
client_badge badge r (Err client_faults.NoBar) = tt
client_badge badge r (Err other) = tt
client_badge badge r (Ok message) = command_badge badge r message.0 (command message.1)

order_badge : (badge : Option Badge) (r : Record) (bytes : List ℕ) → HasBadgeIf badge (order_of badge r bytes)
unfolding order_of
order_badge badge r bytes = client_badge badge r (client bytes)

limited_badge : (badge : Option Badge) (b : Bool) (o order : Order) → HasBadge badge o → limited b o ≡ Ok order → HasBadge badge order
limited_badge badge true o order has e = absurd (true≢false (sym (ap is_ok e)))
limited_badge badge false o order has e = subst (HasBadge badge) (ap (order_or o) e) has
  where
    order_or : Order → Result Order TakeFault → Order
    order_or o (Ok x) = x
    order_or o (Err f) = o

within_badge : (badge : Option Badge) (r : Record) (o : Option Order) (order : Order) → HasBadgeIf badge o → within_limit r o ≡ Ok order → HasBadge badge order
within_badge badge r None order has e = absurd (true≢false (sym (ap is_ok e)))
within_badge badge r (Some o) order has e = limited_badge badge (is_full (place_of o) r) o order has e

needs_of : (badge : Option Badge) (order : Order) (passes : Passes) → passes.badge ≡ badge → HasBadge badge order → NeedsBadge order passes
needs_of badge (Hall cmd) passes e has = tt
needs_of badge (Room id cmd) passes e has = subst IsSome (sym e) has

pub taken_needs : (r : Record) (bytes : List ℕ) (order : Order) (passes : Passes) → taken r bytes ≡ Ok order → passes.badge ≡ r.badge → NeedsBadge order passes
taken_needs r bytes order passes t e = needs_of r.badge order passes e (within_badge r.badge r (order_of r.badge r bytes) order (order_badge r.badge r bytes) t)

-- a name that is taken leaves no more than want of memory
pub taken_short : (hub : Hub) (order : Order) (moment : ℕ) (old new : Passes) → Orders hub order moment old (Err hub_faults.Taken) new → Orders hub order moment old (Err hub_faults.NoMemory) new
taken_short hub (Hall cmd) moment old new t = absurd t
taken_short hub (Room id cmd) moment old new (inl none) = absurd none
taken_short hub (Room id cmd) moment old new (inr t) =
    let goes = t.2.2 in
    inr (
      t.0,
      t.1,
      (
        t.2.0,
        t.2.1,
        record {
          before = goes.before;
          behind = goes.behind;
          named = goes.named;
          held = goes.held;
          held_on = goes.held_on;
          at = goes.at;
          but = goes.but;
          done = (goes.done.1, inr goes.done.0);
        },
      ),
    )
