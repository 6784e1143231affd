-- The record after a match and after a challenge that is accepted, in the order in which the code changes it.
use Rattle.std.proofs.Common.{◌≡◌, ℕ, List, Option, Some, None, refl, ap, ◌∙◌}
use Rattle.std.specs.Prelude.{ℤ}
use Rattle.ps_ladder.specs.Waiting.{without}
use Rattle.ps_pms.specs.Changes.{after_answer}
use Rattle.ps_hall.specs.declared.game.Game.{Game}
use Rattle.ps_hall.specs.Changes.{matched}
use Rattle.ps_hall.specs.Records.{Record}
use Rattle.ps_hall.specs.Lookups.{without_kept}
use Rattle.ps_hall.specs.Starts.{with_game}
use Rattle.ps_hall.specs.Steps.{with_accept}

later : (h : Record) (g : Option Game) (me format user : List ℕ) (z : ℤ) → matched (with_game h g) me format z user ≡ with_game (matched h me format z user) g
later h None me format user z = refl
later h (Some g) me format user z = refl

-- a battle starts, and then the other's search is taken
pub matched_then : (h k : Record) (g : Option Game) (me format user : List ℕ) (z : ℤ) → k ≡ with_game h g
    → record k { searches = without k.searches me format z; search_teams = without_kept user format k.search_teams } ≡ with_game (matched h me format z user) g
matched_then h k g me format user z is = ap (λ (k : Record). matched k me format z user) is ∙ later h g me format user z

-- a battle starts, and then its challenge ends
pub accepted_then : (h k : Record) (g : Option Game) (me user : List ℕ) → k ≡ with_game h g
    → record k { pms = after_answer k.pms me user; challenge_teams = without_kept user me k.challenge_teams } ≡ with_game (with_accept h me user) g
accepted_then h k None me user is = ap (λ (k : Record). record k { pms = after_answer k.pms me user; challenge_teams = without_kept user me k.challenge_teams }) is
accepted_then h k (Some g) me user is = ap (λ (k : Record). record k { pms = after_answer k.pms me user; challenge_teams = without_kept user me k.challenge_teams }) is
