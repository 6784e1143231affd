-- Which form a configuration has.
use Rattle.std.specs.Prelude.{ℕ, ◌==◌, codes, Result, Ok, if◌then◌else◌}
use Rattle.serde_json.specs.Data.{Data}
use Rattle.ps_data.specs.declared.fault.Fault.{Fault}
use Rattle.ps_data.specs.Reading.{◌>>=◌, optional}
use Rattle.ps_data.specs.Forms.{number_in}
use Rattle.ps_rules.specs.declared.clause.Clause.TheVariants.{Percentage}
use Rattle.ps_rules.specs.declared.version.Version.{Version}
use Rattle.ps_rules.specs.declared.version.Version.TheVariants.{First, Second}
use Rattle.ps_rules.specs.Clauses.{bit_of}

abbrev pub version_of : ℕ → Version
version_of number = if number == 2 then Second else First

-- 1 or 2, and 1 where the key is missing
unfoldable pub version_in : Data → Result Version Fault
version_in value = optional (codes "version") 1 (number_in 1 2) value >>= λ number. Ok (version_of number)

-- the clauses that are on whatever a rule list says
abbrev pub always_on : Version → ℕ
always_on First = bit_of Percentage
always_on Second = 0
