-- For the code of a session: where it stands between two answers of its link, and what it has at its end before its Quits.
use Rattle.std.specs.Prelude.{◌≡◌, ℕ, Bool, List, [], ◌++◌, length, All, IfSome, Option, Some, IsSome}
use Rattle.std.specs.declared.vec.Vec.{Vec}
use Rattle.std.specs.declared.alloc.Global.{Global}
use mathlib.Core.List.{IsPrefix}
use Rattle.ps_histlock.specs.Histories.{commands}
use Rattle.ps_session.specs.Sessions.{Record, begun}
use Rattle.ps_outside.specs.Links.{Talk, LinkCounts}
use Rattle.ps_hub.specs.Hubs.{Hub}
use Rattle.ps_hub.specs.Names.{Names}
use Rattle.ps_hub.specs.Passes.{HallPass, RoomPass, AreOf}
use Rattle.ps_hub.specs.declared.passes.Passes.{Passes}
use Rattle.ps_serve.specs.declared.closed.End.{End}
use Rattle.ps_serve.specs.declared.closed.End.TheVariants as ends
use Rattle.ps_session.specs.declared.session.TakeFault.{TakeFault}
use Rattle.ps_session.specs.declared.session.TakeFault.TheVariants as take_faults
use Rattle.ps_serve.specs.Acts.{Act, after_acts, moments_of, hall_entries, room_cmds, all_begun}
use Rattle.ps_serve.specs.Sendings.{Sending}
use Rattle.ps_serve.specs.Sittings.{HasOpen, Sits, AreApart, IsFrom, IsBegun}
use Rattle.ps_serve.specs.Steps.{Hours, Asked, Stands}
use Rattle.ps_serve.specs.Ends.{Account, is_short, is_broken, IsAccount, AllOrPart, HallGiven, RoomGiven, HallLooks, RoomLooks}
use Rattle.ps_serve.specs.Ends.{HallSent, RoomSent, AreAnswers, IsAsked, HasExtra, AreSure, HasCause}

-- the end of a session that these bytes stopped
abbrev pub end_after : TakeFault → Vec ℕ Global → End
end_after take_faults.BadText bytes = ends.BadText bytes
end_after (take_faults.Limit room) bytes = ends.OwnLimit room
end_after take_faults.NoMemory bytes = ends.NoMemory

-- a session between two answers of its link, whatever it has done
abbrev pub IsSitting : Hub → Record → Passes → Type 0
IsSitting hub session passes = (conn : ℕ) × (open_at : ℕ) × (acts : List Act) × (ss : List Sending)
    × Sits hub conn open_at acts (length acts) ss session passes

-- it has gone on, and stands again
abbrev pub GoesOn : Hub → ℕ → ℕ → Record → Passes → Option Talk → Option Talk → LinkCounts → LinkCounts → Hours → Hours → Type 0
GoesOn hub conn open_at session passes old_talk talk old_counts counts old_hours hours = (acts : List Act) × (ss : List Sending)
    × Stands hub conn open_at acts ss session passes old_talk talk old_counts counts old_hours hours

-- ---- before the Quits

pub record HallRests (broken short : Bool) (hub : Hub) (conn : ℕ) (account : Account) (hall : HallPass) : Type 0 where
  pub entries : AllOrPart short (commands hall.pass.1.mine) (hall_entries conn account.acts)
  pub given : HallGiven broken conn account hall
  pub looks : HallLooks broken hub conn account hall
  pub sent : HallSent broken hub conn account hall

pub record RoomRests (broken short : Bool) (hub : Hub) (conn : ℕ) (account : Account) (room : RoomPass) : Type 0 where
  pub entries : AllOrPart short (commands room.pass.1.mine) (room_cmds conn room.number account.acts)
  pub given : RoomGiven broken conn account room
  pub looks : RoomLooks broken hub conn account room
  pub sent : RoomSent broken hub conn account room
  pub named : IfSome room.id (λ id. Names hub.config id room.number)

-- the moments that were asked for a text which is no act; before its Quits no session ends by a number that is taken
abbrev pub HasExtraAt : End → ℕ → Account → Type 0
HasExtraAt ends.NoMemory conn account = HasExtra conn account
HasExtraAt ends.Taken conn account = ⊥
HasExtraAt (ends.OwnLimit room) conn account = HasExtra conn account
HasExtraAt end conn account = account.extra ≡ []

-- what a session did, sent and has at this end, before its Quits
pub record Rests (end : End) (hub : Hub) (conn : ℕ) (account : Account) (passes : Passes) (old_talk talk : Option Talk)
    (old_counts counts : LinkCounts) (old_hours hours : Hours) : Type 0 where
  pub are : AreOf hub passes
  pub conn_is : passes.conn ≡ conn
  pub told : IsAccount conn account old_talk talk
  pub hall_pass : HallPass
  pub hall : passes.hall ≡ Some hall_pass
  pub hall_rests : HallRests (is_broken end) (is_short end) hub conn account hall_pass
  pub rooms : All (RoomRests (is_broken end) (is_short end) hub conn account) passes.rooms.items
  pub asked : All (IsAsked end hub account) passes.rooms.items
  pub apart : AreApart passes.rooms.items
  pub from : All (IsFrom passes.rooms.items) account.sendings
  pub named : All (λ room. IsSome room.id → IsSome passes.badge) passes.rooms.items
  pub badge : passes.badge ≡ (after_acts (begun conn) account.acts).badge
  pub gave : AreAnswers (is_short end) hub conn account passes.rooms.items hall_pass
  pub sure : List Act
  pub are_sure : AreSure (is_short end) sure account.acts
  pub begun : All (IsBegun passes.rooms.items) (all_begun sure)
  pub early : All (λ (room : RoomPass). IsPrefix (room_cmds conn room.number sure) (commands room.pass.1.mine)) passes.rooms.items
  pub opened : HasOpen conn account.opened hall_pass
  pub cause : HasCause end hub conn account passes.rooms.items talk old_counts counts
  pub extra : HasExtraAt end conn account
  pub asked_for : Asked old_hours (moments_of account.acts ++ account.extra) hours

-- with any moment for the Quits
abbrev pub ComesToRest : End → Hub → ℕ → ℕ → ℕ → Passes → Option Talk → Option Talk → LinkCounts → LinkCounts → Hours → Hours → Type 0
ComesToRest end hub conn open_at left passes old_talk talk old_counts counts old_hours hours = (account : Account)
    × (account.opened ≡ open_at)
    × (account.left ≡ left) × Rests end hub conn account passes old_talk talk old_counts counts old_hours hours
