-- An input that is too long, from a front of it.
use Rattle.std.proofs.Common.{◌≡◌, ℕ, ◌+◌, ◌≤◌, arith, length, List, ◌++◌, Option, Some, None, IfSome, ap, ◌∙◌}
use Rattle.std.specs.Io.KnownBytes.{Consumes}
use Rattle.std.proofs.KnownBytes.{Consumes-trans}
use Rattle.std.proofs.lemmas.List.{length-append}
use Rattle.replay_script.specs.Limits.{long_of, ReadsFew}
use Rattle.replay_script.proofs.LimitLemmas.{long_from-stays}

long_whole : (old new : Option (List ℕ)) (front : List ℕ) (count : ℕ) → Consumes old new front → long_of front ≡ Some count → IfSome old (λ input. long_of input ≡ Some count)
long_whole None new front count c e = tt
long_whole (Some xs) None front count c e = absurd c
long_whole (Some xs) (Some ys) front count c e = ap long_of c ∙ long_from-stays 0 0 count front ys e

pub long_read : (old mid new : Option (List ℕ)) (bytes piece : List ℕ) (count : ℕ) → Consumes old mid bytes → Consumes mid new piece → long_of (bytes ++ piece) ≡ Some count → IfSome old (λ input. long_of input ≡ Some count)
long_read old mid new bytes piece count a b e = long_whole old new (bytes ++ piece) count (Consumes-trans old mid new bytes piece a b) e

pub reads_few : (old mid new : Option (List ℕ)) (bytes piece : List ℕ) → Consumes old mid bytes → Consumes mid new piece → length bytes + length piece ≤ 16777217 → ReadsFew old new
reads_few old mid new bytes piece a b small = record {
  front = bytes ++ piece;
  taken = Consumes-trans old mid new bytes piece a b;
  few = omega (arith, small, length-append bytes piece);
}
