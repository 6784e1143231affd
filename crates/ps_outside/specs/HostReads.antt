-- How the reading of an open file may end: for the code alone, and no statement rests on it.
use Rattle.ps_outside.specs.declared.files.FileEnd.{FileEnd}
use Rattle.ps_outside.specs.declared.files.FileEnd.TheVariants.{Missing, TooLong, Failed, NoMemory}

-- an open file isn't missing
abbrev pub IsReadEnd : FileEnd → Type 0
IsReadEnd Missing = ⊥
IsReadEnd TooLong = Unit {0}
IsReadEnd Failed = Unit {0}
IsReadEnd NoMemory = Unit {0}
