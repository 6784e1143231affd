-- What is known of the text of a line that was read.
use Rattle.std.specs.Prelude.{◌≡◌, ◌≤◌, ℕ, false, List, length}
use Rattle.ps_base.specs.Limits.{most_text}
use Rattle.replay_script.specs.declared.item.Item.{Item}
use Rattle.replay_script.specs.declared.item.Item.TheVariants.{Nothing, Moment, Group, Open, Send, Close}
use Rattle.replay_script.specs.declared.line.Form.{Form}
use Rattle.replay_script.specs.declared.line.Form.TheVariants as forms
use Rattle.replay_script.specs.Controls.{has_control}

-- a text that is no longer than any that a connection may send, and has no byte that a line of a script hasn't
pub record IsClean (text : List ℕ) : Type 0 where
  pub few : length text ≤ most_text
  pub no_control : has_control text ≡ false

-- if a text is sent, it is clean
abbrev pub SendsClean : Item → Type 0
SendsClean Nothing = Unit {0}
SendsClean (Moment moment) = Unit {0}
SendsClean (Group symbol id) = Unit {0}
SendsClean (Open conn) = Unit {0}
SendsClean (Send conn text) = IsClean text
SendsClean (Close conn) = Unit {0}

-- a line of this form has a clean text, if its form says so
abbrev pub IsAsFormed : Form → List ℕ → Type 0
IsAsFormed forms.Nothing text = Unit {0}
IsAsFormed (forms.Moment moment) text = Unit {0}
IsAsFormed (forms.Group symbol) text = Unit {0}
IsAsFormed (forms.Open conn) text = Unit {0}
IsAsFormed (forms.Send conn) text = Unit {0}
IsAsFormed (forms.SendClean conn) text = IsClean text
IsAsFormed (forms.Close conn) text = Unit {0}
