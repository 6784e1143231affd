-- How a move is used: a record that is ps_battle's own, named here by what makes one.
use Rattle.ps_battle.specs.Acts.{continued_use}

abbrev ResultOf : {A B : Type 0} → (A → B) → Type 0
ResultOf {A} {B} f = B

abbrev pub Use : Type 0
Use = ResultOf continued_use
