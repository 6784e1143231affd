-- The packed text of a drill's team.
use Rattle.std.proofs.Common.{◌≡◌, ℕ, ◌+◌, ◌<◌, Bool, true, false, leb, List, [], ◌∷◌, ◌++◌, length, get_or, chars, codes, map, take, refl, sym, ap, ◌∙◌, arith, rules, append_assoc}
use Rattle.std.specs.Char.{encode_utf8}
use Rattle.std.specs.List.{join_with_byte}
use Rattle.std.proofs.lemmas.List.{length-map, get_or-map, take-map}
use Rattle.std.proofs.lemmas.Slice.Eq.{bytes_eq-Decides}
use Rattle.ps_packed.proofs.Joins.{joins}
use Rattle.ps_packed.specs.Canon.{nick_text, species_text, evs_text, ivs_text, level_text}
use Rattle.ps_dex.specs.declared.item.MoveItem.{MoveItem}
use Rattle.ps_dex.specs.declared.item.SpeciesItem.{SpeciesItem}
use Rattle.replay_drill.specs.Fights.{first_moves, packed_alone, drill_team}

-- ---- the set's text

-- the name stands in the nickname's field, and the species' is empty
short_is : (name ids : List ℕ) → join_with_byte 124 (name ∷ [] ∷ [] ∷ [] ∷ ids ∷ [] ∷ [] ∷ [] ∷ [] ∷ [] ∷ [] ∷ [] ∷ []) ≡ name ++ codes "||||" ++ ids ++ codes "|||||||"
short_is name ids = search (rules, append_assoc)

-- the name stands in the species' field, and the nickname's is empty
long_is : (name ids : List ℕ) → join_with_byte 124 ([] ∷ name ∷ [] ∷ [] ∷ ids ∷ [] ∷ [] ∷ [] ∷ [] ∷ [] ∷ [] ∷ [] ∷ []) ≡ codes "|" ++ name ++ codes "|||" ++ ids ++ codes "|||||||"
long_is name ids = search (rules, append_assoc)

team_by : (moves : List MoveItem) (s : SpeciesItem) (b : Bool) → leb (length (chars s.name)) 18 ≡ b → drill_team moves s ≡ packed_alone s.name (join_with_byte 44 (first_moves moves s.learns))
unfolding drill_team packed_alone nick_text species_text evs_text ivs_text level_text
team_by moves s true e = rw ((bytes_eq-Decides s.name s.name).1 refl, e) (short_is s.name (join_with_byte 44 (first_moves moves s.learns)))
team_by moves s false e = rw ((bytes_eq-Decides s.name s.name).1 refl, e) (long_is s.name (join_with_byte 44 (first_moves moves s.learns)))

pub team_is : (moves : List MoveItem) (s : SpeciesItem) → drill_team moves s ≡ packed_alone s.name (join_with_byte 44 (first_moves moves s.learns))
team_is moves s = team_by moves s (leb (length (chars s.name)) 18) refl

-- ---- the moves' ids

-- the texts of the first number and of the others, joined
abbrev pub joined : (ℕ → List ℕ) → ℕ → List ℕ → List ℕ
joined f first rest = join_with_byte 44 (map f (first ∷ rest))

-- one text more
pub next_joined : (f : ℕ → List ℕ) (first : ℕ) (rest : List ℕ) (i d : ℕ) (old mid new : List ℕ) → i < length rest → old ≡ joined f first (take i rest) → mid ≡ old ++ encode_utf8 44 → new ≡ mid ++ f (get_or rest i d) → new ≡ joined f first (take (i + 1) rest)
next_joined f first rest i d old mid new below before middle more =
    let text : List ℕ = f (get_or rest i d) in
    let there : i < length (map f rest) = omega (arith, length-map rest f, below) in
    let read : text ≡ get_or (map f rest) i text = sym (get_or-map f rest i d text below) in
    let so_far : old ≡ join_with_byte 44 (f first ∷ take i (map f rest)) = before ∙ ap (λ (u : List (List ℕ)). join_with_byte 44 (f first ∷ u)) (sym (take-map f i rest)) in
    joins 44 (f first) (map f rest) i text old mid new (omega arith) there read so_far middle more ∙ ap (λ (u : List (List ℕ)). join_with_byte 44 (f first ∷ u)) (take-map f (i + 1) rest)
