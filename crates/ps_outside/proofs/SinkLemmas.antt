-- Writing goes on.
use Rattle.std.proofs.Common.{◌≡◌, ℕ, ◌-◌, List, ◌++◌, length, take, drop, Option, sym, ap, ◌∙◌, arith, append_assoc}
use Rattle.std.proofs.lemmas.List.{take-append-drop, take_all, length-drop}
use Rattle.std.specs.Io.KnownBytes.{Appends}
use Rattle.std.proofs.KnownBytes.{Appends-trans}

abbrev pub Wrote : Option (List ℕ) → Option (List ℕ) → List ℕ → List ℕ → Type 0
Wrote old new bs rest = (front : List ℕ) × (bs ≡ front ++ rest) × Appends old new front

pub more_written : (old mid new : Option (List ℕ)) (bs rest : List ℕ) (n : ℕ) → Wrote old mid bs rest → Appends mid new (take n rest) → Wrote old new bs (take (length rest - n) (drop n rest))
more_written old mid new bs rest n w a =
    let all : take (length rest - n) (drop n rest) ≡ drop n rest = take_all _ _ (omega (arith, length-drop n rest)) in (
      w.0 ++ take n rest,
      w.1 ∙ ap (λ (x : List ℕ). w.0 ++ x) (sym (take-append-drop n rest)) ∙ sym (append_assoc w.0 (take n rest) (drop n rest)) ∙ ap (λ (x : List ℕ). (w.0 ++ take n rest) ++ x) (sym all),
      Appends-trans old mid new w.0 (take n rest) w.2 a,
    )
