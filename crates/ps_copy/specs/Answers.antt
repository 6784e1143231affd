-- What a play of a battle's two active members answers.
use Rattle.std.specs.Prelude.{ℕ}
use Rattle.ps_mon.specs.Duels.{duel_of}
use Rattle.ps_hits.specs.Scenes.{Play}
use Rattle.ps_hits.specs.Courses.{Course}

-- the answer, where the active member of side `user` plays against the other one; `played` is the course after it
abbrev pub answer_of : {A : Type 0} → Play A → ℕ → Course → A
answer_of row user before = (row (record { duel = duel_of before.battle user; told = before.told })).0
