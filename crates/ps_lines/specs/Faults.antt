-- Reading a part of a command: what it stands for, or the fault that is reported.
use Rattle.std.specs.Prelude.{◌≡◌, ℕ, List, Result, Ok, Err}
use denote.Ref.{Bor}
use Rattle.ps_lines.specs.declared.command.CommandFault.{CommandFault}
use Rattle.ps_lines.specs.declared.command.CommandFault.TheVariants.{UnknownCommand, BadArgs, NoMemory}

infixl 10 ◌>>=◌
abbrev pub ◌>>=◌ : {A B : Type 0} → Result A CommandFault → (A → Result B CommandFault) → Result B CommandFault
(Ok value) >>= next = next value
(Err fault) >>= next = Err fault

-- What a call that found this fault was to find: this fault, but out of memory may come at any text.
abbrev pub IsFault : {A : Type 0} → CommandFault → Result A CommandFault → Type 0
IsFault UnknownCommand read = read ≡ Err UnknownCommand
IsFault (BadArgs which) read = read ≡ Err (BadArgs which)
IsFault NoMemory read = Unit {0}

-- What a call answered is what reading gives, but out of memory may come at any text.
abbrev pub Gives : {A : Type 0} → Result A CommandFault → Result A CommandFault → Type 0
Gives (Ok value) read = read ≡ Ok value
Gives (Err fault) read = IsFault fault read

-- the same of a text that the call answered by reference
abbrev pub GivesText : Result (Bor (List ℕ)) CommandFault → Result (List ℕ) CommandFault → Type 0
GivesText (Ok text) read = read ≡ Ok text.now
GivesText (Err fault) read = IsFault fault read
