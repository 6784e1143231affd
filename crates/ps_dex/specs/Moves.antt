-- The moves of a dex.
use Rattle.std.specs.Prelude.{ℕ, pos, negsuc, ◌||◌, Bool, false, not, List, codes, position, Option, bytes_eq, Result, Ok}
use Rattle.serde_json.specs.Data.{Data}
use Rattle.ps_data.specs.declared.fault.DataKind.TheVariants.{Repeat}
use Rattle.ps_data.specs.declared.fault.Fault.{Fault}
use Rattle.ps_data.specs.Reading.{◌>>=◌, ensure, required, optional}
use Rattle.ps_data.specs.Forms.{object_in, boolean_in, number_in, integer_in}
use Rattle.ps_data.specs.OwnIds.{has_id}
use Rattle.ps_mon.specs.declared.effect.Effect.TheVariants.{Plain}
use Rattle.ps_mon.specs.declared.facts.MoveData.{MoveData}
use Rattle.ps_dex.specs.declared.name.Named.{Named}
use Rattle.ps_dex.specs.declared.item.TypeItem.{TypeItem}
use Rattle.ps_dex.specs.declared.item.MoveItem.{MoveItem}
use Rattle.ps_dex.specs.Names.{name_in}
use Rattle.ps_dex.specs.Types.{type_in, is_special, is_contact}
use Rattle.ps_dex.specs.Effects.{effect_in}

-- the number of the move with an id: its index
unfoldable pub move_index : List ℕ → List MoveItem → Option ℕ
move_index id moves = position (λ move. bytes_eq move.id id) moves

unfoldable pub has_move : List ℕ → List MoveItem → Bool
has_move id moves = has_id (λ move. move.id) id moves

-- the ids of the moves before, and those of the two moves that are built in
unfoldable pub is_move_taken : List ℕ → List MoveItem → Bool
is_move_taken id moves = has_move id moves || bytes_eq id (codes "struggle") || bytes_eq id (codes "recharge")

unfoldable pub move_name_in : List MoveItem → Data → Result Named Fault
move_name_in before value = do
  named ← name_in value
  _ ← ensure Repeat (not (is_move_taken named.id before))
  Ok named

-- all but the name
unfoldable pub numbers_in : List TypeItem → Data → Result MoveData Fault
numbers_in types value = do
  kind ← required (codes "type") (type_in types) value
  power ← required (codes "power") (number_in 0 255) value
  accuracy ← required (codes "accuracy") (number_in 0 100) value
  pp ← required (codes "pp") (number_in 1 64) value
  priority ← required (codes "priority") (integer_in (negsuc 0) (pos 1)) value
  high ← optional (codes "high") false boolean_in value
  effect ← optional (codes "effect") Plain effect_in value
  Ok (record {
    kind = kind;
    special = is_special types kind;
    contact = is_contact types kind;
    power = power;
    accuracy = accuracy;
    pp = pp;
    priority = priority;
    high = high;
    effect = effect;
  })

unfoldable pub move_item_in : List TypeItem → List MoveItem → Data → Result MoveItem Fault
move_item_in types before value = do
  _ ← object_in value
  named ← required (codes "name") (move_name_in before) value
  numbers ← numbers_in types value
  Ok (record { name = named.name; id = named.id; numbers = numbers })
