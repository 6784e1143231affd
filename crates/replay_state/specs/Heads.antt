-- What begins a message of two lines of a room, ready for each of its members: for the code alone.
use Rattle.std.specs.Prelude.{◌≡◌, ℕ, Bool, true, false, List, [], ◌∷◌, ◌++◌, map, codes, ◌==◌, if◌then◌else◌}
use Rattle.std.specs.List.{list_any}
use Rattle.std.specs.List.Sorted.{IsSorted}
use Rattle.std.specs.Ordering.{nat_cmp}
use Rattle.std.specs.Fmt.{decimal}
use Rattle.ps_lines.specs.declared.command.Command.{Command}
use Rattle.ps_lines.specs.declared.command.Command.TheVariants.{Join, Leave, Quit, Ban, Promote}
use Rattle.ps_view.specs.Roles.{is_member}
use Rattle.ps_room.specs.Rooms.{role}
use Rattle.ps_room.specs.Logs.{record_in}
use Rattle.replay_state.specs.Kepts.{Kept}
use Rattle.replay_state.specs.declared.heads.Head.{Head}
use Rattle.replay_state.specs.Tables.{is_next, first_behind}

-- the line of the room's id, and what stands before the further line
abbrev pub head_text : List ℕ → ℕ → List ℕ
head_text id conn = first_behind (decimal conn) (codes ">" ++ id) ++ decimal conn ++ codes ". "

abbrev pub head_of : List ℕ → ℕ → Head
head_of id conn = record { conn = conn; text = head_text id conn }

-- the messages whose further line ends so, to those of these members that each come behind the last one that was taken, up to a count
abbrev pub each_headed : List ℕ → ℕ → ℕ → List Head → List ℕ
each_headed end count last [] = []
each_headed end count last (head ∷ heads) = if is_next last count head.conn then head.text ++ end
    ++ each_headed end count head.conn heads else each_headed end count last heads

-- there is one for each member, in ascending number
pub record HasHeads (room : Kept) (heads : List Head) : Type 0 where
  pub conns : List ℕ
  pub heads_are : heads ≡ map (head_of room.room.id) conns
  pub sorted : IsSorted nat_cmp conns
  pub members : (conn : ℕ) → list_any (λ other. other == conn) conns ≡ is_member (role conn (record_in room.room))

-- they are, if it says that they are ready
pub record AreReady (room : Kept) (ready : Bool) (heads : List Head) : Type 0 where
  pub are : ready ≡ true → HasHeads room heads

-- whether a command may change who is a member
abbrev pub changes_members : Command → Bool
changes_members (Join room) = true
changes_members Leave = true
changes_members Quit = true
changes_members (Ban id reason) = true
changes_members (Promote id symbol) = true
changes_members other = false

abbrev pub still_ready : Bool → Command → Bool
still_ready ready cmd = if changes_members cmd then false else ready
