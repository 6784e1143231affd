-- What a box contains: for the code alone.
use Rattle.std.specs.Prelude.{Option, Some, None}
use Rattle.std.specs.declared.boxed.Box.{Box}
use Rattle.std.specs.declared.alloc.Global.{Global}
use Rattle.ps_splitlog.specs.declared.entry.Joined.{Joined}

abbrev pub in_box : Option (Box Joined Global) → Option Joined
in_box None = None
in_box (Some boxed) = Some boxed.value
