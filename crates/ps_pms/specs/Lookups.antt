-- Lookups of blocks and challenges.
use Rattle.std.specs.Prelude.{ℕ, Bool, false, ◌||◌, ◌&&◌, List, [], ◌∷◌, ◌++◌, find, Option, Some, None, if◌then◌else◌}
use Rattle.std.specs.List.{filter, list_any}
use Rattle.std.specs.Str.{bytes_eq}
use Rattle.std.specs.FinMap.{get, contains_key}
use Rattle.ps_base.specs.ById.{ById}
use Rattle.ps_pms.specs.declared.asked.Asked.{Asked}
use Rattle.ps_pms.specs.Records.{Record}

-- ---- blocks

-- whether the target is among the ids that somebody blocks, who may block nobody
abbrev pub has_target : Option (ById (Unit {0})) → List ℕ → Bool
has_target None target = false
has_target (Some targets) target = contains_key targets target

-- whether the owner blocks the target
abbrev pub blocks : Record → List ℕ → List ℕ → Bool
blocks pms owner target = has_target (get pms.blocks owner) target

-- ---- one challenge

-- whether a user made it
abbrev pub is_by : List ℕ → Asked → Bool
is_by user challenge = bytes_eq challenge.by user

-- whether a user got it
abbrev pub is_to : List ℕ → Asked → Bool
is_to user challenge = bytes_eq challenge.to user

-- whether the one made it and the other got it
abbrev pub is_of : List ℕ → List ℕ → Asked → Bool
is_of by to challenge = is_by by challenge && is_to to challenge

-- whether a user made it or got it
abbrev pub is_with : List ℕ → Asked → Bool
is_with user challenge = is_by user challenge || is_to user challenge

-- with whom a user has it
abbrev pub partner : List ℕ → Asked → Option (List ℕ)
partner user challenge = if is_by user challenge then Some challenge.to else (if is_to user challenge then Some challenge.by else None)

-- ---- the list of challenges

-- the challenge that a user made
abbrev pub asked_by : Record → List ℕ → Option Asked
asked_by pms by = find (is_by by) pms.asked

-- the challenge that the one user made to the other
abbrev pub asked_of : Record → List ℕ → List ℕ → Option Asked
asked_of pms by to = find (is_of by to) pms.asked

-- all challenges that a user got, in order
abbrev pub asked_to : Record → List ℕ → List Asked
asked_to pms to = filter (is_to to) pms.asked

abbrev pub has_id : List (List ℕ) → List ℕ → Bool
has_id ids id = list_any (λ other. bytes_eq other id) ids

-- the ids with this one behind them, if it isn't among them
abbrev pub with_new : List (List ℕ) → Option (List ℕ) → List (List ℕ)
with_new ids None = ids
with_new ids (Some id) = if has_id ids id then ids else ids ++ id ∷ []

-- with whom a user has these challenges, each once, behind those who were found before
abbrev pub partners_of : List ℕ → List (List ℕ) → List Asked → List (List ℕ)
partners_of user found [] = found
partners_of user found (challenge ∷ more) = partners_of user (with_new found (partner user challenge)) more

-- with whom a user has a challenge, each once, in the order of the challenges
abbrev pub partners : Record → List ℕ → List (List ℕ)
partners pms user = partners_of user [] pms.asked
