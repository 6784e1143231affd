-- What a link over a socket and a door to such links have counted, and how a link has ended.
use Rattle.std.specs.Prelude.{◌≡◌, ℕ, Bool, Option, Some, None, Result, Ok, Err}
use Rattle.ps_outside.specs.Links.{LinkCounts, no_link_counts}
use Rattle.ps_outside.specs.declared.link.Next.{Next}
use Rattle.ps_outside.specs.declared.link.Next.TheVariants.{Text, Quiet, End, Failed, NoMemory}
use Rattle.ps_outside.specs.declared.link.SendEnd.{SendEnd}
use Rattle.ps_outside.specs.declared.link.SendEnd.TheVariants.{Failed as SendFailed, NoMemory as SendNoMemory}
use Rattle.ps_ws.specs.declared.link.Ending.{Ending}
use Rattle.ps_ws.specs.declared.link.Ending.TheVariants.{Closed, Broken}

-- a link over a socket: its counts, and how it has ended, if it has
pub record SocketState : Type 0 where
  pub counts : LinkCounts
  pub ended : Option Ending

-- before the first call
abbrev pub new_socket : SocketState
new_socket = record { counts = no_link_counts; ended = None }

-- what has ended ends no other way
abbrev pub first_ending : Option Ending → Ending → Option Ending
first_ending None ending = Some ending
first_ending (Some before) ending = Some before

-- how a link has ended after an answer
abbrev pub ended_after : Next → Option Ending → Option Ending
ended_after (Text bytes) ended = ended
ended_after Quiet ended = ended
ended_after End ended = first_ending ended Closed
ended_after Failed ended = first_ending ended Broken
ended_after NoMemory ended = ended

-- how a link has ended after a text was sent, or was not
abbrev pub ended_after_send : {T : Type 0} → Result T SendEnd → Option Ending → Option Ending
ended_after_send (Ok done) ended = ended
ended_after_send (Err SendFailed) ended = first_ending ended Broken
ended_after_send (Err SendNoMemory) ended = ended

-- a link that has ended answers that again and again
abbrev pub IsStillEnded : Option Ending → Next → Type 0
IsStillEnded None next = Unit {0}
IsStillEnded (Some Closed) next = next ≡ End
IsStillEnded (Some Broken) next = next ≡ Failed

-- a link that has ended sends nothing
abbrev pub SendsNothing : {T : Type 0} → Option Ending → Result T SendEnd → Type 0
SendsNothing None result = Unit {0}
SendsNothing (Some ending) result = result ≡ Err SendFailed

-- a door to sockets: whether it listens, how many links it has handed out, and how often it has failed
pub record DoorState : Type 0 where
  pub listens : Bool
  pub given : ℕ
  pub faults : ℕ
