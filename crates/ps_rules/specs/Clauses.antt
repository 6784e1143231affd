-- The clauses, in their order.
use Rattle.std.specs.Prelude.{ℕ, List, codes, Option, Some, None, if◌then◌else◌}
use Rattle.std.specs.Str.{bytes_eq}
use Rattle.ps_rules.specs.declared.clause.Clause.{Clause}
use Rattle.ps_rules.specs.declared.clause.Clause.TheVariants.{Species, Sleep, Freeze, Ohko, Evasion, Nickname, Preview, Percentage}
use Rattle.ps_mon.specs.Clauses.{has_clause}

-- the name of a clause; its id is that of this name
abbrev pub name_of : Clause → List ℕ
name_of Species = codes "Species Clause"
name_of Sleep = codes "Sleep Clause Mod"
name_of Freeze = codes "Freeze Clause Mod"
name_of Ohko = codes "OHKO Clause"
name_of Evasion = codes "Evasion Moves Clause"
name_of Nickname = codes "Nickname Clause"
name_of Preview = codes "Team Preview"
name_of Percentage = codes "HP Percentage Mod"

-- the clause with an id
unfoldable pub clause_of : List ℕ → Option Clause
clause_of id =
    if bytes_eq id (codes "speciesclause") then Some Species else (
    if bytes_eq id (codes "sleepclausemod") then Some Sleep else (
    if bytes_eq id (codes "freezeclausemod") then Some Freeze else (
    if bytes_eq id (codes "ohkoclause") then Some Ohko else (
    if bytes_eq id (codes "evasionmovesclause") then Some Evasion else (
    if bytes_eq id (codes "nicknameclause") then Some Nickname else (
    if bytes_eq id (codes "teampreview") then Some Preview else (
    if bytes_eq id (codes "hppercentagemod") then Some Percentage else
    None)))))))

-- A set of clauses is a number; each clause has a bit of it.
abbrev pub bit_of : Clause → ℕ
bit_of Species = 1
bit_of Sleep = 2
bit_of Freeze = 4
bit_of Ohko = 8
bit_of Evasion = 16
bit_of Nickname = 32
bit_of Preview = 64
bit_of Percentage = 128
