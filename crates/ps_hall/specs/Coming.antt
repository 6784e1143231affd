-- For the code: the battles and the searches as they will be after a command.
use Rattle.std.specs.Prelude.{ℕ, ℤ, Bool, false, List, [], ◌++◌, map, option_to_list, Option, Some, None, if◌then◌else◌}
use Rattle.std.specs.Option.{option_copied}
use Rattle.std.specs.Str.{bytes_eq}
use Rattle.ps_ladder.specs.declared.searches.Search.{Search}
use Rattle.ps_ladder.specs.Waiting.{has_user, found, without, cancelled}
use Rattle.ps_hall.specs.declared.game.Game.{Game}
use Rattle.ps_hall.specs.declared.coming.ComingGames.{ComingGames}
use Rattle.ps_hall.specs.declared.coming.ComingSearches.{ComingSearches}
use Rattle.ps_hall.specs.declared.coming.Gone.{Gone}
use Rattle.ps_hall.specs.declared.coming.Gone.TheVariants.{Nobody, Own, Matched}
use Rattle.ps_hall.specs.Steps.{without_game}

-- the battles without the one that goes, if one does
abbrev pub staying : Option ℕ → List Game → List Game
staying None gs = gs
staying (Some number) gs = without_game gs number

abbrev pub games_after : ComingGames → List Game
games_after coming = staying coming.gone coming.games.now.list ++ option_to_list (option_copied coming.new)

-- ---- searches

-- the searches that are left where these go
abbrev pub left_of : Gone → List Search → List Search
left_of Nobody ss = ss
left_of (Own user) ss = cancelled ss user.now
left_of (Matched user format rating) ss = without ss user.now format.now rating

abbrev pub searches_after : ComingSearches → List Search
searches_after coming = left_of coming.gone coming.searches.now ++ option_to_list (option_copied coming.new)

-- ---- the same of the searches of one user, which the index finds

-- whether the search that is matched, if one is, is of a user
abbrev pub has_matched : Option Search → List ℕ → Bool
has_matched None id = false
has_matched (Some search) id = has_user id search

-- without the one that is matched, if it is of the user
abbrev pub own_without : List Search → List ℕ → List ℕ → ℤ → List ℕ → List Search → List Search
own_without ss user format rating id own = if has_matched (found ss user format rating) id then without own user format rating else own

-- none, if it is the user whose searches go
abbrev pub own_but : List ℕ → List ℕ → List Search → List Search
own_but user id own = if bytes_eq user id then [] else own

abbrev pub own_left : Gone → List Search → List ℕ → List Search → List Search
own_left Nobody ss id own = own
own_left (Own user) ss id own = own_but user.now id own
own_left (Matched user format rating) ss id own = own_without ss user.now format.now rating id own

abbrev pub formats_of : List Search → List (List ℕ)
formats_of ss = map (λ search. search.format) ss
