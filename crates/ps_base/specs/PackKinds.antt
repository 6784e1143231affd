-- The names of the kinds of fault of packed teams.
use Rattle.std.specs.Prelude.{ℕ, List, codes}
use Rattle.ps_base.specs.declared.pack_kind.PackKind.{PackKind}
use Rattle.ps_base.specs.declared.pack_kind.PackKind.TheVariants as kinds

abbrev pub pack_kind_name : PackKind → List ℕ
pack_kind_name kinds.Bars = codes "Bars"
pack_kind_name kinds.Number = codes "Number"
pack_kind_name kinds.Count = codes "Count"
pack_kind_name kinds.EmptySet = codes "EmptySet"
pack_kind_name kinds.Text = codes "Text"
pack_kind_name kinds.Long = codes "Long"
