-- The symbols of groups, one by one.
use Rattle.std.proofs.Common.{◌≡◌, ℕ, ◌+◌, ◌<◌, List, [], ◌∷◌, ◌++◌, length, take, get_or, Option, refl, sym, ap, ◌∙◌, arith}
use Rattle.std.specs.Prelude.{unwrap_or}
use Rattle.std.proofs.lemmas.List.{take_more, length-map}
use Rattle.std.proofs.lemmas.Option.{slice_get-map, unwrap_or-slice_get}
use Rattle.std.proofs.lemmas.Bool.{lt-ltb}
use Rattle.ps_group.specs.declared.group.Group.{Group}
use Rattle.ps_group.specs.Ranks.{in_force, symbol_of}
use Rattle.ps_replay.specs.Outcomes.{symbols_of}

-- a rank below the count is in force
own_rank : (groups : List Group) (rank : ℕ) → rank < length groups → in_force rank groups ≡ rank
own_rank groups rank within = rw (lt-ltb rank (length groups) within) refl

-- and its symbol is that group's own
own_symbol : (groups : List Group) (rank : ℕ) → rank < length groups → symbol_of rank groups ≡ get_or (symbols_of groups) rank 32
own_symbol groups rank within =
    rw (own_rank groups rank within)
    (ap (λ (o : Option ℕ). unwrap_or o 32) (sym (slice_get-map (λ (g : Group). g.symbol) groups rank)) ∙ unwrap_or-slice_get (symbols_of groups) rank 32)

pub next_symbol : (groups : List Group) (rank : ℕ) → rank < length groups → take (rank + 1) (symbols_of groups) ≡ take rank (symbols_of groups) ++ symbol_of rank groups ∷ []
next_symbol groups rank within =
    take_more (symbols_of groups) rank 32 (omega (arith, length-map groups (λ (g : Group). g.symbol)))
    ∙ ap (λ (s : ℕ). take rank (symbols_of groups) ++ s ∷ []) (sym (own_symbol groups rank within))
