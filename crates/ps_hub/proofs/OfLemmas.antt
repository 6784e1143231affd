-- By whose number the commands of a connection are signed.
use Rattle.std.proofs.Common.{ℕ, sym}
use Rattle.std.proofs.lemmas.Option.{same_Some, none-some}
use Rattle.ps_base.specs.declared.badge.Badge.{Badge}
use Rattle.ps_lines.specs.declared.command.Command.{Command}
use Rattle.ps_lines.specs.declared.command.HallCmd.{HallCmd}
use Rattle.rules_start.specs.declared.start.Start.{Start}
use Rattle.ps_histlock.specs.Signs.{IsOf}
use Rattle.server_places.specs.declared.command.RoomCmd.TheVariants.{Begin, Play}
use Rattle.server_places.specs.Sites.{room_signer}
use Rattle.server_places.specs.Halls.{hall_signer}
use Rattle.ps_hub.specs.Calls.{hall_entry, room_entry}

pub of_hall : (conn moment : ℕ) (cmd : HallCmd) → IsOf hall_signer conn (hall_entry conn moment cmd)
of_hall conn moment cmd = λ d is. sym (same_Some conn d is)

pub of_room : (conn : ℕ) (badge : Badge) (moment : ℕ) (cmd : Command) → IsOf room_signer conn (Play (room_entry conn badge moment cmd))
of_room conn badge moment cmd = λ d is. sym (same_Some conn d is)

-- a Begin is signed by nobody
pub of_begin : (conn : ℕ) (start : Start) → IsOf room_signer conn (Begin start)
of_begin conn start = λ d is. absurd (none-some d is)
