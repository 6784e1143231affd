-- The names of formats, joined.
use Rattle.std.proofs.Common.{◌≡◌, ℕ, ◌+◌, ◌<◌, List, ◌∷◌, ◌++◌, length, get_or, map, take, sym, ap, ◌∙◌, arith}
use Rattle.std.specs.Char.{encode_utf8}
use Rattle.std.specs.List.{join_with_byte}
use Rattle.std.proofs.lemmas.List.{length-map, get_or-map, take-map}
use Rattle.ps_packed.proofs.Joins.{joins}
use Rattle.ps_rules.specs.declared.table.Format.{Format}

abbrev pub name_of : Format → List ℕ
name_of f = f.name

abbrev pub names : Format → List Format → List ℕ
names first rest = join_with_byte 124 (map name_of (first ∷ rest))

-- one format more
pub next_name : (first : Format) (rest : List Format) (i : ℕ) (f : Format) (old mid new : List ℕ) → i < length rest → f ≡ get_or rest i f → old ≡ names first (take i rest) → mid ≡ old ++ encode_utf8 124 → new ≡ mid ++ f.name → new ≡ names first (take (i + 1) rest)
next_name first rest i f old mid new below is before middle more =
    let there : i < length (map name_of rest) = omega (arith, length-map rest name_of, below) in
    let read : f.name ≡ get_or (map name_of rest) i f.name = ap name_of is ∙ sym (get_or-map name_of rest i f f.name below) in
    let so_far : old ≡ join_with_byte 124 (first.name ∷ take i (map name_of rest)) = before ∙ ap (λ (u : List (List ℕ)). join_with_byte 124 (first.name ∷ u)) (sym (take-map name_of i rest)) in
    joins 124 first.name (map name_of rest) i f.name old mid new (omega arith) there read so_far middle more ∙ ap (λ (u : List (List ℕ)). join_with_byte 124 (first.name ∷ u)) (take-map name_of (i + 1) rest)
