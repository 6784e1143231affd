-- Lookups in the hall.
use Rattle.std.proofs.Common.{◌≡◌, ◌∙◌, nat_cmp, ℕ, List, [], Option, None, pos, sym, ap}
use Rattle.std.specs.Prelude.{ℤ, unwrap_or}
use Rattle.std.specs.Cmp.Lexicographic.{slice_cmp}
use Rattle.std.specs.FinMap.{get, get-empty}
use Rattle.ps_base.specs.ById.{ById}
use Rattle.ps_ladder.specs.Ratings.{Standing, standing_of, rating}
use Rattle.ps_hall.specs.Lookups.{ladder_in}

-- nobody was rated in a format without a ladder
pub unrated : (ladders : ById Standing) (format user : List ℕ) → get ladders format ≡ None → pos 1000 ≡ rating (ladder_in ladders format).ratings user
unrated ladders format user none = sym (ap (λ (o : Option ℤ). unwrap_or o (pos 1000)) (get-empty (slice_cmp nat_cmp) user)) ∙ ap (λ (o : Option Standing). rating (unwrap_or o (standing_of [])).ratings user) (sym none)
