-- Texts of which it is known already what reading them asks first.
use Rattle.std.specs.Prelude.{◌≡◌, ◌≤◌, ℕ, false, List, length}
use Rattle.ps_base.specs.Limits.{most_text}
use Rattle.ps_lines.specs.Commands.{has_control}

-- a text that is no longer than any that a client may send, and has no control character
pub record IsClean (text : List ℕ) : Type 0 where
  pub few : length text ≤ most_text
  pub no_control : has_control text ≡ false
