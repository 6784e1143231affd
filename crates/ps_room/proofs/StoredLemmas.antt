-- What the log has of lines and events: a connection is shown the same of it, and the same of them is logged.
use Rattle.std.proofs.Common.{◌≡◌, ℕ, Bool, true, false, List, [], ◌∷◌, ◌++◌, map, Option, Some, None, refl, sym, ap, ◌∙◌}
use Rattle.std.specs.List.{filter, filter_map}
use Rattle.std.proofs.lemmas.List.{map-append}
use Rattle.std.proofs.lemmas.List.Elements.{filter-append, filter_map-append}
use Rattle.ps_lines.specs.declared.command.Command.{Command}
use Rattle.ps_event.specs.declared.audience.Audience.{Audience}
use Rattle.ps_event.specs.declared.audience.Audience.TheVariants as audiences
use Rattle.ps_event.specs.declared.event.Event.{Event}
use Rattle.ps_event.specs.declared.event.Event.TheVariants as events
use Rattle.ps_event.specs.Table.{is_logged}
use Rattle.ps_chat.specs.Lines.{Line}
use Rattle.ps_chat.specs.Told.{told as chat_told}
use Rattle.ps_chat.specs.declared.present.Present.{Present}
use Rattle.ps_chat.specs.declared.room.Room.{Room}
use Rattle.ps_chat.proofs.ToldLemmas.{of_told}
use Rattle.ps_view.specs.declared.role.Role.{Role}
use Rattle.ps_view.specs.Lines.{is_request}
use Rattle.battle_rounds.specs.declared.bout.Bout.{Bout}
use Rattle.battle_rounds.specs.Casts.{Cast, event_text, event_texts}
use Rattle.battle_rounds.specs.Fights.{requests}
use Rattle.ps_splitlog.specs.declared.stored.Stored.{Stored}
use Rattle.ps_splitlog.specs.declared.stored.Stored.TheVariants.{Same}
use Rattle.ps_splitlog.specs.Lines as log_lines
use Rattle.ps_splitlog.specs.Lines.{stored_of_event, stored_of_line, is_logged_line, shown, shown_if, shown_lines}
use Rattle.ps_splitlog.specs.Reads.{IsLoggedAs}
use Rattle.ps_splitlog.proofs.EventLemmas.{events_are_shown, events_are_logged}
use Rattle.ps_room.specs.Tolds as logs
use Rattle.ps_room.specs.Tolds.{Logged}
use Rattle.ps_room.specs.Records.{logged_events}
use Rattle.ps_room.specs.Roles.{sees}
use Rattle.ps_room.specs.Rooms.{seen_texts, shown_events, logged_lines}
use Rattle.ps_room.specs.Logs.{stored_in}

-- ---- what is shown

sees_is : (conn : ℕ) (role : Role) (a : Audience) → log_lines.sees conn role a ≡ sees conn role a
sees_is conn role audiences.All = refl
sees_is conn role (audiences.Split side) = refl
sees_is conn role (audiences.Side side) = refl
sees_is conn role (audiences.Rank lowest) = refl
sees_is conn role (audiences.One other) = refl

lines_shown : (conn : ℕ) (role : Role) (ls : List Line) → shown_lines conn role (map stored_of_line ls) ≡ seen_texts conn role ls
lines_shown conn role [] = refl
lines_shown conn role (l ∷ ls) = by (sees conn role l.audience) refl (lines_shown conn role ls)
  where
    by : (b : Bool) → sees conn role l.audience ≡ b → shown_lines conn role (map stored_of_line ls) ≡ seen_texts conn role ls → shown_lines conn role (map stored_of_line (l ∷ ls)) ≡ seen_texts conn role (l ∷ ls)
    by true s more = rw (sees_is conn role l.audience, s) (ap (λ texts. l.text ∷ texts) more)
    by false s more = rw (sees_is conn role l.audience, s) more

-- what is shown of what f stores is what g shows, where it is for each
pub shown_of : {X : Type 0} (conn : ℕ) (role : Role) (f : X → Option Stored) (g : X → Option (List ℕ)) → ((x : X) → shown_if conn role (f x) ≡ g x) → (xs : List X) → shown_lines conn role (filter_map f xs) ≡ filter_map g xs
shown_of conn role f g same [] = refl
shown_of {X} conn role f g same (x ∷ xs) = by (f x) refl (shown_of conn role f g same xs)
  where
    with_line : (s : Stored) (o : Option (List ℕ)) → shown conn role s ≡ o → shown_lines conn role (filter_map f xs) ≡ filter_map g xs → f x ≡ Some s → g x ≡ o → shown_lines conn role (filter_map f (x ∷ xs)) ≡ filter_map g (x ∷ xs)
    with_line s None is more at goes = rw (at, is, goes) more
    with_line s (Some text) is more at goes = rw (at, is, goes) (ap (λ texts. text ∷ texts) more)

    by : (o : Option Stored) → f x ≡ o → shown_lines conn role (filter_map f xs) ≡ filter_map g xs → shown_lines conn role (filter_map f (x ∷ xs)) ≡ filter_map g (x ∷ xs)
    by None at more = let goes : g x ≡ None = sym (same x) ∙ ap (shown_if conn role) at in rw (at, goes) more
    by (Some s) at more = with_line s (shown conn role s) refl more at (sym (same x) ∙ ap (shown_if conn role) at)

events_shown : (conn : ℕ) (role : Role) (c : Cast) (told : List Event) → shown_lines conn role (filter_map (stored_of_event c.names c.dex) told) ≡ event_texts c role told
events_shown conn role c told = shown_of conn role (stored_of_event c.names c.dex) (event_text c role) (λ event. events_are_shown conn role c.names c.dex event) told

-- what is shown of an entry's events and lines
pub stored_shown : (conn : ℕ) (role : Role) (cast : Option Cast) (told : List Event) (ls : List Line) → shown_lines conn role (stored_in cast told ls) ≡ shown_events cast role told ++ seen_texts conn role ls
stored_shown conn role None told ls = lines_shown conn role ls
stored_shown conn role (Some c) told ls =
    filter_map-append (shown conn role) (filter_map (stored_of_event c.names c.dex) told) (map stored_of_line ls)
    ∙ ap (λ texts. texts ++ shown_lines conn role (map stored_of_line ls)) (events_shown conn role c told)
    ∙ ap (λ texts. event_texts c role told ++ texts) (lines_shown conn role ls)

-- ---- what is logged, as the log has it: a line of the chat is for all

abbrev pub stored_logged : Option Cast → Logged → Option Stored
stored_logged cast (logs.Text text) = Some (Same audiences.All true text)
stored_logged None (logs.Event event) = None
stored_logged (Some c) (logs.Event event) = stored_of_event c.names c.dex event

-- the logged lines of what is stored are what is logged
abbrev pub Logs : Option Cast → List Line → Type 0
Logs cast ls = filter is_logged_line (map stored_of_line ls) ≡ filter_map (stored_logged cast) (logged_lines ls)

pub row_logged : (cast : Option Cast) (r : Room) (me : Option Present) (new : Present) (moment : ℕ) (cmd : Command) → Logs cast (chat_told r me new moment cmd)
row_logged cast r = of_told (Logs cast) refl (λ text. refl) (λ text. refl) (λ staff text. refl) r

pub logs-append : (cast : Option Cast) (xs ys : List Line) → Logs cast xs → Logs cast ys → Logs cast (xs ++ ys)
logs-append cast xs ys one two =
    ap (filter is_logged_line) (map-append stored_of_line xs ys)
    ∙ filter-append is_logged_line (map stored_of_line xs) (map stored_of_line ys)
    ∙ ap (λ ls. ls ++ filter is_logged_line (map stored_of_line ys)) one
    ∙ ap (λ ls. filter_map (stored_logged cast) (logged_lines xs) ++ ls) two
    ∙ sym (filter_map-append (stored_logged cast) (logged_lines xs) (logged_lines ys))
    ∙ ap (filter_map (stored_logged cast)) (sym (filter_map-append _ xs ys))

asked_by : (cast : Option Cast) (c : Cast) (b : Bout) (event : Event) (rest : List Event) (ask : Bool) → is_request event ≡ ask → Logs cast (requests c b rest) → Logs cast (requests c b (event ∷ rest))
asked_by cast c b (events.Request side) rest ask e more = more
asked_by cast c b event rest ask e more = more

pub requests_logged : (cast : Option Cast) (c : Cast) (b : Bout) (told : List Event) → Logs cast (requests c b told)
requests_logged cast c b [] = refl
requests_logged cast c b (event ∷ rest) = asked_by cast c b event rest (is_request event) refl (requests_logged cast c b rest)

-- the same of events
pub events_logged : (c : Cast) (told : List Event) → filter is_logged_line (filter_map (stored_of_event c.names c.dex) told) ≡ filter_map (stored_logged (Some c)) (logged_events told)
events_logged c [] = refl
events_logged c (event ∷ rest) = by (stored_of_event c.names c.dex event) refl (events_are_logged c.names c.dex event) (events_logged c rest)
  where
    Goal : List Event → Type 0
    Goal told = filter is_logged_line (filter_map (stored_of_event c.names c.dex) told) ≡ filter_map (stored_logged (Some c)) (logged_events told)

    with_line : (s : Stored) (b : Bool) → is_logged_line s ≡ b → is_logged event ≡ b → stored_of_event c.names c.dex event ≡ Some s → Goal rest → Goal (event ∷ rest)
    with_line s true is goes at more = rw (at, is, goes) (rw at (ap (λ ls. s ∷ ls) more))
    with_line s false is goes at more = rw (at, is, goes) more

    by : (o : Option Stored) → stored_of_event c.names c.dex event ≡ o → IsLoggedAs event (stored_of_event c.names c.dex event) → Goal rest → Goal (event ∷ rest)
    by None at as_is more = let none : is_logged event ≡ false = (rw at at as_is) in rw (at, none) more
    by (Some s) at as_is more = let same : is_logged_line s ≡ is_logged event = (rw at at as_is) in with_line s (is_logged event) same refl at more
