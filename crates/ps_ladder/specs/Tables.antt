-- For the code: the searches at their numbers, found by user and by format.
use Rattle.std.specs.Prelude.{ℕ, Bool, List}
use Rattle.std.specs.Str.{bytes_eq}
use Rattle.hall_index.specs.Numbered.{AreBelow}
use Rattle.hall_index.specs.IdIndices.{IsIndexed}
use Rattle.hall_index.specs.Finds.{AreApart}
use Rattle.ps_ladder.specs.declared.searches.Search.{Search}
use Rattle.ps_ladder.specs.declared.table.Table.{Table}
use Rattle.ps_ladder.specs.Waiting.{has_user}

-- whether a search is for this format
abbrev pub has_format : List ℕ → Search → Bool
has_format format search = bytes_eq search.format format

-- the searches stand at numbers below the next, and the indices find each at its user and at its format
pub record AreKept (table : Table) : Type 0 where
  pub below : AreBelow table.next table.waiting
  pub apart : AreApart table.waiting
  pub by_user : IsIndexed has_user table.next table.waiting table.users
  pub by_format : IsIndexed has_format table.next table.waiting table.formats
