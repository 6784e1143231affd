-- What the steps of a session do: hearing a text, and telling what happened.
use Rattle.std.specs.Prelude.{◌≡◌, ◌⊎◌, ℕ, ◌+◌, Bool, true, false, List, [], ◌∷◌, ◌++◌, length, map, All, Option, Some, None, Ok, Err}
use Rattle.ps_lines.specs.declared.command.Command.{Command}
use Rattle.ps_lines.specs.declared.order.Order.{Order}
use Rattle.ps_lines.specs.declared.order.Order.TheVariants.{Room}
use Rattle.ps_session.specs.Sessions.{Record, is_full, counted}
use Rattle.ps_session.specs.Routes.{taken}
use Rattle.ps_session.specs.declared.session.TakeFault.TheVariants as take_faults
use Rattle.ps_outside.specs.Clocks.{IsNow, after_now}
use Rattle.ps_outside.specs.Files.{OnlyRose}
use Rattle.ps_outside.specs.Links.{Talk, LinkCounts}
use Rattle.ps_hub.specs.Hubs.{Hub}
use Rattle.ps_hub.specs.declared.passes.Passes.{Passes}
use Rattle.ps_serve.specs.declared.closed.End.{End}
use Rattle.ps_serve.specs.declared.closed.End.TheVariants as ends
use Rattle.ps_session.specs.declared.session.TakeFault.{TakeFault}
use Rattle.ps_serve.specs.Acts.{Made, Act, heard, arrival_of, moments_of}
use Rattle.ps_serve.specs.Sendings.{Sending, sent_text}
use Rattle.ps_serve.specs.Sittings.{IsNowhere, Sits, SitsFull, IsUpToDate, Left}

abbrev pub Hours : Type 0
Hours = Option (ℕ × List ℕ)

-- ---- hearing

-- these moments were asked of the clock, in order
abbrev pub Asked : Hours → List ℕ → Hours → Type 0
Asked old [] new = new ≡ old
Asked old (moment ∷ moments) new = IsNow old moment × Asked (after_now old) moments new

-- a text was obeyed: it is an act more, whose entries were made
pub record Hears (hub : Hub) (conn open_at : ℕ) (acts : List Act) (ss : List Sending) (bytes : List ℕ) (old new : Hours)
    (session : Record) (passes : Passes) : Type 0 where
  pub moment : ℕ
  pub made : Made
  pub asked : Asked old (moment ∷ []) new
  pub sits : Sits hub conn open_at (acts ++ heard bytes moment made ∷ []) (length acts) ss session passes

-- it wasn't: it is no text; it is one more than its place takes, where the place may be that of the order, or the hall since no
-- such room was there; or memory ran out, and its entries may be there in part
pub record StopsFull (hub : Hub) (conn open_at : ℕ) (acts : List Act) (ss : List Sending) (bytes : List ℕ) (session : Record)
    (old_passes : Passes) (old new : Hours) (passes : Passes) : Type 0 where
  pub id : List ℕ
  pub cmd : Command
  pub taken_is : taken session bytes ≡ Ok (Room id cmd)
  pub full : is_full None (counted (Some id) session) ≡ true
  pub place : Option ℕ
  pub unfound : IsNowhere hub conn acts place id passes.rooms.items
  pub moment : ℕ
  pub asked : Asked old (moment ∷ []) new
  pub sits : SitsFull hub conn open_at acts ss passes
  pub badge_is : passes.badge ≡ old_passes.badge
  pub up : IsUpToDate old_passes → IsUpToDate passes

pub record StopsShort (hub : Hub) (conn open_at : ℕ) (acts : List Act) (ss : List Sending) (bytes : List ℕ) (session : Record)
    (old new : Hours) (passes : Passes) : Type 0 where
  pub last : List Act
  pub last_is : (last ≡ []) ⊎ ((moment : ℕ) × (made : Made) × (last ≡ heard bytes moment made ∷ []))
  pub moments : List ℕ
  pub of_order : (moments ≡ []) ⊎ ((order : Order) × (taken session bytes ≡ Ok order) × (length moments ≡ 1))
  pub asked : Asked old moments new
  pub agree : (last ≡ []) ⊎ (moments ≡ moments_of last)
  pub left : Left false hub conn open_at acts (acts ++ last) ss passes

abbrev pub Stops : TakeFault → Hub → ℕ → ℕ → List Act → List Sending → List ℕ → Record → Passes → Hours → Hours → Passes → Type 0
Stops take_faults.BadText hub conn open_at acts ss bytes session old_passes old new passes = (taken session bytes ≡ Err take_faults.BadText)
    × (passes ≡ old_passes) × (new ≡ old)
Stops (take_faults.Limit room) hub conn open_at acts ss bytes session old_passes old new passes =
    ((taken session bytes ≡ Err (take_faults.Limit room)) × (passes ≡ old_passes) × (new ≡ old))
    ⊎ ((room ≡ None) × StopsFull hub conn open_at acts ss bytes session old_passes old new passes)
Stops take_faults.NoMemory hub conn open_at acts ss bytes session old_passes old new passes = StopsShort hub conn open_at acts ss
    bytes session
    old new passes

-- ---- telling

-- the texts of these sendings are behind those that the link was sent, where it tells them
abbrev pub with_sendings : List Sending → Talk → Talk
with_sendings ss talk = record talk {
  sent = talk.sent
      ++ map (λ (sending : Sending). record { text = sending.text; after = talk.answers }) ss;
}

abbrev pub after_sendings : List Sending → Option Talk → Option Talk
after_sendings ss None = None
after_sendings ss (Some talk) = Some (with_sendings ss talk)

-- all that is held was looked at, and all that the looks showed and wasn't told yet was sent
pub record Tells (hub : Hub) (conn open_at : ℕ) (acts : List Act) (act : Act) (ss : List Sending) (session : Record)
    (old new : Option Talk) (passes : Passes) : Type 0 where
  pub more : List Sending
  pub now : All (λ (sending : Sending). sending.after ≡ length acts + 1) more
  pub sent : new ≡ after_sendings more old
  pub sits : Sits hub conn open_at (acts ++ act ∷ []) (length acts + 1) (ss ++ more) session passes
  pub up : IsUpToDate passes

abbrev pub is_fault : End → Bool
is_fault ends.LinkFault = true
is_fault other = false

-- the link failed, or memory ran out: what wasn't told yet was sent in part
pub record TellsPart (end : End) (hub : Hub) (conn open_at : ℕ) (acts : List Act) (act : Act) (ss : List Sending)
    (old new : Option Talk) (passes : Passes) : Type 0 where
  pub more : List Sending
  pub now : All (λ (sending : Sending). sending.after ≡ length acts + 1) more
  pub sent : new ≡ after_sendings more old
  pub left : Left (is_fault end) hub conn open_at acts (acts ++ act ∷ []) (ss ++ more) passes

-- the end by a send that failed, or if out of memory
abbrev pub IsBreak : End → LinkCounts → LinkCounts → Type 0
IsBreak ends.LinkFault old new = OnlyRose old.faults new.faults old.quiets new.quiets old.ends new.ends
IsBreak ends.NoMemory old new = new ≡ old
IsBreak other old new = ⊥

-- ---- between two answers

-- where the link tells its talk: what it gave since then are the acts, and what it was sent are the sendings
pub record Talks (acts : List Act) (ss : List Sending) (old new : Talk) : Type 0 where
  pub given : old.inbox ≡ map arrival_of acts ++ new.inbox
  pub answers : new.answers ≡ old.answers + length acts
  pub sent : new.sent ≡ old.sent ++ map (sent_text old.answers) ss

abbrev pub TalksIf : List Act → List Sending → Option Talk → Option Talk → Type 0
TalksIf acts ss None None = Unit {0}
TalksIf acts ss (Some old) (Some new) = Talks acts ss old new
TalksIf acts ss old new = ⊥

-- A session between two answers of its link, since its Open.
pub record Stands (hub : Hub) (conn open_at : ℕ) (acts : List Act) (ss : List Sending) (session : Record) (passes : Passes)
    (talk0 talk : Option Talk) (counts0 counts : LinkCounts) (hours0 hours : Hours) : Type 0 where
  pub sits : Sits hub conn open_at acts (length acts) ss session passes
  pub up : (acts ≡ []) ⊎ IsUpToDate passes
  pub talks : TalksIf acts ss talk0 talk
  pub faults : counts.faults ≡ counts0.faults
  pub ends_is : counts.ends ≡ counts0.ends
  pub asked : Asked hours0 (moments_of acts) hours
