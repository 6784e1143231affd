-- How reading a script ends without one.
use Rattle.std.specs.Prelude.{ℕ, List}
use Rattle.replay_script.specs.declared.item.Item.{Item}
use Rattle.replay_script.specs.declared.script.ScriptEnd.{ScriptEnd}
use Rattle.replay_script.specs.declared.script.ScriptEnd.TheVariants as script_ends
use Rattle.replay_script.specs.Scripts.{IsFirstFault, IsScript}

abbrev pub EndsScript : List ℕ → List ℕ → ScriptEnd → Type 0
EndsScript symbols bytes (script_ends.Bad line kind) = IsFirstFault symbols bytes line kind
EndsScript symbols bytes script_ends.NoMemory = Unit {0}

-- a text that has a fault is no script
abbrev pub IsNoScript : List ℕ → List ℕ → ScriptEnd → Type 0
IsNoScript symbols bytes (script_ends.Bad line kind) = (items : List Item) → IsScript symbols bytes items → ⊥
IsNoScript symbols bytes script_ends.NoMemory = Unit {0}
