-- How the front of an inbox in memory is taken: for the code alone, and no statement rests on it.
use Rattle.std.specs.Prelude.{◌≡◌, List, [], ◌∷◌}
use Rattle.ps_outside.specs.declared.link.Next.{Next}
use Rattle.ps_outside.specs.declared.link.Next.TheVariants.{Text, Quiet, End, Failed, NoMemory}
use Rattle.ps_outside.specs.declared.link.Arrival.{Arrival}
use Rattle.ps_outside.specs.declared.link.Arrival.TheVariants.{Text as TextItem, Quiet as QuietMark}

-- the inbox before, the answer, and the inbox after it
abbrev pub IsTaken : List Arrival → Next → List Arrival → Type 0
IsTaken old (Text bytes) new = old ≡ TextItem bytes.items ∷ new
IsTaken old Quiet new = old ≡ QuietMark ∷ new
IsTaken old End new = (old ≡ []) × (new ≡ [])
IsTaken old Failed new = ⊥
IsTaken old NoMemory new = new ≡ old
