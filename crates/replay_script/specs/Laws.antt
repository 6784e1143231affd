-- Whatever symbols groups have, a text is one script at most, and none where it has a first fault.
use Rattle.std.specs.Prelude.{◌≡◌, ℕ, List}
use Rattle.replay_script.specs.declared.item.Item.{Item}
use Rattle.replay_script.specs.declared.script.ScriptKind.{ScriptKind}
use Rattle.replay_script.specs.Scripts.{IsScript, IsFirstFault}

pub record LawOfScripts : Type 0 where
  pub one : (symbols bytes : List ℕ) (items others : List Item) → IsScript symbols bytes items → IsScript symbols bytes others
      → items ≡ others
  pub fault : (symbols bytes : List ℕ) (items : List Item) (line : ℕ) (kind : ScriptKind) → IsFirstFault symbols bytes line kind
      → IsScript symbols bytes items → ⊥
