-- What a line says that has its text from elsewhere.
use Rattle.std.specs.Prelude.{ℕ, List}
use Rattle.replay_script.specs.declared.item.Item.{Item}
use Rattle.replay_script.specs.declared.item.Item.TheVariants.{Nothing, Moment, Group, Open, Send, Close}
use Rattle.replay_script.specs.declared.line.Form.{Form}
use Rattle.replay_script.specs.declared.line.Form.TheVariants as forms
use Rattle.replay_script.specs.declared.line.Said.{Said}
use Rattle.replay_script.specs.declared.line.Said.TheVariants as said

-- its bytes, wherever they stand
abbrev pub item_of : Said → Item
item_of said.Nothing = Nothing
item_of (said.Moment moment) = Moment moment
item_of (said.Group symbol id) = Group symbol id.now
item_of (said.Open conn) = Open conn
item_of (said.Send conn text) = Send conn text.now
item_of (said.Close conn) = Close conn

-- by its form, with this text
abbrev pub item_by : Form → List ℕ → Item
item_by forms.Nothing text = Nothing
item_by (forms.Moment moment) text = Moment moment
item_by (forms.Group symbol) text = Group symbol text
item_by (forms.Open conn) text = Open conn
item_by (forms.Send conn) text = Send conn text
item_by (forms.SendClean conn) text = Send conn text
item_by (forms.Close conn) text = Close conn
