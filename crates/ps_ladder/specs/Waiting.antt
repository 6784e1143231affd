-- Who waits for a rated battle.
use Rattle.std.specs.Prelude.{◌≡◌, ℕ, Bool, true, false, not, ◌&&◌, nat_le, ℤ, List, [], ◌∷◌, ◌++◌, Option, Some, None, filter}
use Rattle.std.specs.Prelude.{if◌then◌else◌}
use Rattle.std.specs.List.{list_any}
use Rattle.std.specs.Str.{bytes_eq}
use Rattle.ps_ladder.specs.Gains.{distance}
use Rattle.ps_ladder.specs.declared.searches.Search.{Search}
use Rattle.ps_ladder.specs.declared.searches.Found.{Found}
use Rattle.ps_ladder.specs.declared.searches.Found.TheVariants.{Matched, Waiting}
use Rattle.ps_ladder.specs.declared.searches.AddFault.{AddFault}
use Rattle.ps_ladder.specs.declared.searches.AddFault.TheVariants.{Already, NoMemory}

abbrev pub has_user : List ℕ → Search → Bool
has_user user search = bytes_eq search.user user

abbrev pub is_for : List ℕ → List ℕ → Search → Bool
is_for user format search = bytes_eq search.user user && bytes_eq search.format format

-- whether a user waits for a format
abbrev pub waits : List Search → List ℕ → List ℕ → Bool
waits list user format = list_any (is_for user format) list

-- how far apart two ratings may be that are near
abbrev pub reach : ℕ
reach = 300

abbrev pub is_near : ℤ → ℤ → Bool
is_near one two = nat_le (distance one two) reach

-- whether a search suits a user who wants to play a format: another's, of that format, at a near rating
abbrev pub suits : List ℕ → List ℕ → ℤ → Search → Bool
suits user format rating search = not (bytes_eq search.user user) && (bytes_eq search.format format && is_near search.rating rating)

-- of the searches that suit, the one that has waited longest
abbrev pub found : List Search → List ℕ → List ℕ → ℤ → Option Search
found [] user format rating = None
found (search ∷ list) user format rating = if suits user format rating search then Some search else found list user format rating

-- what is left when that one is taken out
abbrev pub without : List Search → List ℕ → List ℕ → ℤ → List Search
without [] user format rating = []
without (search ∷ list) user format rating = if suits user format rating search then list else search ∷ without list user format rating

abbrev pub added_by : Option Search → List Search → List ℕ → List ℕ → ℤ → List Search
added_by (Some other) list user format rating = without list user format rating
added_by None list user format rating = list ++ record { user = user; format = format; rating = rating } ∷ []

-- the searches after a user searched: a match takes the other out, and else the user waits at the end
abbrev pub added : List Search → List ℕ → List ℕ → ℤ → List Search
added list user format rating = added_by (found list user format rating) list user format rating

-- what who searches learns
abbrev pub answer : Option Search → Found
answer (Some search) = Matched search.user search.rating
answer None = Waiting

-- what a fault tells of whether the user waits already
abbrev pub IsAddFault : Bool → AddFault → Type 0
IsAddFault waiting Already = waiting ≡ true
IsAddFault waiting NoMemory = waiting ≡ false

-- the searches without those of a user
abbrev pub cancelled : List Search → List ℕ → List Search
cancelled list user = filter (λ search. not (has_user user search)) list
