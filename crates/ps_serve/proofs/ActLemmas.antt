-- What one act more makes of what follows from acts: how many there are, the moments, and since when a room is joined.
use Rattle.std.proofs.Common.{◌≡◌, ℕ, ◌+◌, ◌≤◌, Bool, true, false, cond, List, [], ◌∷◌, ◌++◌, length, arith}
use Rattle.std.proofs.lemmas.List.{length-append}
use Rattle.ps_serve.specs.Acts.{Act, moment_of, moments_of, is_at, since}
use Rattle.ps_serve.proofs.Prefixes.{flat_snoc}

pub moments_more : (acts : List Act) (a : Act) → moments_of (acts ++ a ∷ []) ≡ moments_of acts ++ moment_of a
moments_more acts a = flat_snoc moment_of acts a

pub acts_length : (acts : List Act) (a : Act) → length (acts ++ a ∷ []) ≡ length acts + 1
acts_length acts a = length-append acts (a ∷ [])

within_by : (b : Bool) (x : Act) (xs s : List Act) → length s ≤ length xs → length (cond b (x ∷ xs) s) ≤ length (x ∷ xs)
within_by true x xs s le = omega arith
within_by false x xs s le = omega arith

pub since_within : (number : ℕ) (acts : List Act) → length (since number acts) ≤ length acts
since_within number [] = omega arith
since_within number (x ∷ xs) = within_by (is_at number x) x xs (since number xs) (since_within number xs)
