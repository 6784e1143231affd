-- A lock that isn't open yet.
use Rattle.std.specs.Prelude.{[]}
use Rattle.ps_histlock.specs.declared.view.View.{View}
use Rattle.ps_histlock.specs.Views.{newcomer, holder}

module _ {O C : Type 0} where
  -- The view of who has the turn of a lock that isn't open yet, by which nobody else has it: it sees the whole history, in which
  -- there is no entry
  abbrev pub unopened : O → View O C
  unopened origin = holder (newcomer origin 0) []
