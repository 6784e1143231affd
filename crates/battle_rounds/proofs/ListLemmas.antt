-- What a loop over a list collects.
use Rattle.std.proofs.Common.{◌≡◌, ℕ, ◌+◌, ◌<◌, List, [], ◌∷◌, ◌++◌, length, take, get_or, Option, sym, ap, ◌∙◌, append_assoc}
use Rattle.std.specs.List.{filter_map}
use Rattle.std.proofs.lemmas.List.{take_more}
use Rattle.std.proofs.lemmas.List.Elements.{filter_map-append}

-- what the item at the next place gives stands behind what those before it gave
pub next_read : {X Y : Type 0} (f : X → Option Y) (xs : List X) (i : ℕ) (d : X) (front old new : List Y) → i < length xs → old ≡ front ++ filter_map f (take i xs) → new ≡ old ++ filter_map f (get_or xs i d ∷ [])
    → new ≡ front ++ filter_map f (take (i + 1) xs)
next_read f xs i d front old new lt so added =
    added
    ∙ ap (λ ys. ys ++ filter_map f (get_or xs i d ∷ [])) so
    ∙ append_assoc front (filter_map f (take i xs)) (filter_map f (get_or xs i d ∷ []))
    ∙ ap (λ ys. front ++ ys) (sym (filter_map-append f (take i xs) (get_or xs i d ∷ [])) ∙ ap (filter_map f) (sym (take_more xs i d lt)))
