-- Why the commands Open, Quit and Name are refused.
use Rattle.std.specs.Prelude.{ℕ, Bool, List, Option, Some, None, Result, Ok, Err, is_some, if◌then◌else◌}
use Rattle.std.specs.Str.{bytes_eq}
use Rattle.std.specs.FinMap.{get}
use Rattle.ps_base.specs.Ids.{id_of}
use Rattle.ps_base.specs.Names.{name_in}
use Rattle.ps_base.specs.declared.badge.Badge.{Badge}
use Rattle.ps_base.specs.declared.name.NameFault.{NameFault}
use Rattle.ps_base.specs.declared.hall_why.HallWhy.{HallWhy}
use Rattle.ps_base.specs.declared.hall_why.HallWhy.TheVariants.{NotNamed, AlreadyNamed, BadName, BadAssertion, NameTaken}
use Rattle.ps_lines.specs.declared.command.HallCmd.{HallCmd}
use Rattle.ps_lines.specs.declared.command.HallCmd.TheVariants.{Name}
use Rattle.ps_users.specs.Assertions.{wanted_by}
use Rattle.ps_users.specs.Records.{Record}

abbrev pub name_if : Result (List ℕ) NameFault → Option (List ℕ)
name_if (Ok name) = Some name
name_if (Err fault) = None

-- the name that a text is, if it is one
unfoldable pub read_of : List ℕ → Option (List ℕ)
read_of text = name_if (name_in text)

-- the assertion that a name of this id takes on a connection
abbrev pub wanted : Record → ℕ → List ℕ → List ℕ
wanted users conn id = wanted_by users.nonce conn (get users.accounts id)

-- whether somebody online has the id
abbrev pub is_taken : Record → List ℕ → Bool
is_taken users id = is_some (get users.online id)

abbrev pub refusal_of_id : Record → ℕ → List ℕ → List ℕ → Option HallWhy
refusal_of_id users conn id assertion = if bytes_eq assertion (wanted users conn id) then
    (if is_taken users id then Some NameTaken else None) else Some BadAssertion

abbrev pub refusal_of_read : Record → ℕ → Option (List ℕ) → List ℕ → Option HallWhy
refusal_of_read users conn None assertion = Some BadName
refusal_of_read users conn (Some name) assertion = refusal_of_id users conn (id_of name) assertion

-- Name: who isn't connected, who has a name already, then the name itself
abbrev pub refusal_of_name : Record → ℕ → Option (Option Badge) → List ℕ → List ℕ → Option HallWhy
refusal_of_name users conn None text assertion = Some NotNamed
refusal_of_name users conn (Some (Some badge)) text assertion = Some AlreadyNamed
refusal_of_name users conn (Some None) text assertion = refusal_of_read users conn (read_of text) assertion

-- Why a command is refused; None where it is allowed. Open and Quit always are; the other commands aren't judged here.
abbrev pub refusal : Record → ℕ → HallCmd → Option HallWhy
refusal users conn (Name name assertion) = refusal_of_name users conn (get users.seats conn) name assertion
refusal users conn other = None
