-- The bytes of a text, whoever owns them.
use Rattle.std.specs.Prelude.{ℕ, List, string_bytes}
use Rattle.std.specs.Arc.{arc_str_bytes}
use Rattle.ps_base.specs.declared.text.Bytes.{Bytes}
use Rattle.ps_base.specs.declared.text.Bytes.TheVariants.{Own, Shared}

abbrev pub bytes_of : Bytes → List ℕ
bytes_of (Own text) = string_bytes text
bytes_of (Shared text alloc) = arc_str_bytes text
