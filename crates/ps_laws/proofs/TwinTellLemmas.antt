-- What two rooms that are alike log and show: events that name no hidden member have the same lines in both.
use Rattle.std.proofs.Common.{◌≡◌, ℕ, Bool, true, false, cond, List, [], ◌∷◌, ◌++◌, take, Option, Some, None, filter_map, refl, ap, ◌∙◌}
use Rattle.std.proofs.lemmas.List.{append-nil}
use Rattle.std.proofs.lemmas.List.Elements.{All-nil, All-cons, All-append, All-head, All-tail, All-take, filter_map-append}
use Rattle.std.specs.List.{All, cons_option}
use Rattle.std.specs.Prelude.{IfSome}
use Rattle.ps_event.specs.declared.event.Event.{Event}
use Rattle.ps_event.specs.declared.event.Event.TheVariants as events
use Rattle.ps_event.specs.Table.{is_logged}
use Rattle.ps_dex.specs.declared.item.Tables.{Tables}
use Rattle.ps_view.specs.declared.role.Role.{Role}
use Rattle.ps_view.specs.Lines.{line_of}
use Rattle.battle_rounds.specs.declared.bout.Bout.{Bout}
use Rattle.battle_rounds.specs.Casts.{Cast, event_text}
use Rattle.battle_rounds.specs.Fights.{Fight, request_at, requests}
use Rattle.ps_chat.specs.Lines.{Line}
use Rattle.battle_secrecy.specs.Places.{Hidden}
use Rattle.battle_secrecy.specs.Showing.{NamesNoHidden}
use Rattle.ps_room.specs.Tolds as logs
use Rattle.ps_room.specs.Tolds.{Logged}
use Rattle.ps_room.specs.Records.{cast_in, logged_event, logged_events}
use Rattle.ps_room.specs.Rooms.{logged_line, logged_lines, logged_of, shown_events, shown_item, shown_items, backlog_items}
use Rattle.ps_laws.specs.Alike.{AreMaybeAlike, IsLoggedOpenly}
use Rattle.ps_laws.proofs.LineLemmas.{NamesNone, line_same}
use Rattle.ps_laws.proofs.TwinAskLemmas.{AreCastsAlike, casts_alike}

-- ---- lists

-- two functions that give the same of each item
texts_same : {X Y : Type 0} (P : X → Type 0) (h k : X → Option Y) (xs : List X) → ((x : X) → P x → h x ≡ k x) → All P xs → filter_map h xs ≡ filter_map k xs
texts_same P h k [] same all = refl
texts_same {X} {Y} P h k (x ∷ xs) same all =
    ap (λ (o : Option Y). cons_option o (filter_map h xs)) (same x (All-head P x xs all))
    ∙ ap (cons_option (k x)) (texts_same P h k xs same (All-tail P x xs all))

option_all : {Y : Type 0} (Q : Y → Type 0) (o : Option Y) (ys : List Y) → IfSome o Q → All Q ys → All Q (cons_option o ys)
option_all Q None ys one all = all
option_all Q (Some y) ys one all = All-cons Q y ys one all

-- what holds of all that is made of the items
made_all : {X Y : Type 0} (P : X → Type 0) (Q : Y → Type 0) (h : X → Option Y) (xs : List X) → ((x : X) → P x → IfSome (h x) Q) → All P xs → All Q (filter_map h xs)
made_all P Q h [] so all = All-nil Q
made_all P Q h (x ∷ xs) so all = option_all Q (h x) (filter_map h xs) (so x (All-head P x xs all)) (made_all P Q h xs so (All-tail P x xs all))

-- of every item
whatever_all : {X Y : Type 0} (Q : Y → Type 0) (h : X → Option Y) (xs : List X) → ((x : X) → IfSome (h x) Q) → All Q (filter_map h xs)
whatever_all Q h [] so = All-nil Q
whatever_all Q h (x ∷ xs) so = option_all Q (h x) (filter_map h xs) (so x) (whatever_all Q h xs so)

-- ---- what is logged

none_logged : (c : Cast) (b : Bout) (e : Event) (ls : List Line) → logged_lines ls ≡ [] → logged_lines (cons_option (request_at c b e) ls) ≡ []
none_logged c b (events.Request side) ls none = none
none_logged c b other ls none = none

-- requests aren't logged
pub requests_unlogged : (c : Cast) (b : Bout) (told : List Event) → logged_lines (requests c b told) ≡ []
requests_unlogged c b [] = refl
requests_unlogged c b (e ∷ told) = none_logged c b e (requests c b told) (requests_unlogged c b told)

-- so what is logged of the battle is its events
pub logged_with_requests : (c : Cast) (b : Bout) (told : List Event) (ls : List Line) → logged_lines (ls ++ requests c b told) ≡ logged_lines ls
logged_with_requests c b told ls =
    filter_map-append logged_line ls (requests c b told)
    ∙ ap (λ (more : List Logged). logged_lines ls ++ more) (requests_unlogged c b told)
    ∙ append-nil (logged_lines ls)

event_openly : (places : Hidden) (e : Event) (logged : Bool) → NamesNone places e → IfSome (cond logged (Some (logs.Event e)) None) (IsLoggedOpenly places)
event_openly places e true named = named
event_openly places e false named = tt

line_openly : (places : Hidden) (text : List ℕ) (logged : Bool) → IfSome (cond logged (Some (logs.Text text)) None) (IsLoggedOpenly places)
line_openly places text true = tt
line_openly places text false = tt

-- events that name no hidden member, and any lines, are logged openly
pub logged_openly : (places : Hidden) (told : List Event) (ls : List Line) → NamesNoHidden places told → All (IsLoggedOpenly places) (logged_of told ls)
logged_openly places told ls named =
    All-append (IsLoggedOpenly places) (logged_events told) (logged_lines ls)
    (made_all (NamesNone places) (IsLoggedOpenly places) logged_event told (λ e n. event_openly places e (is_logged e) n) named)
    (whatever_all (IsLoggedOpenly places) logged_line ls (λ l. line_openly places l.text l.logged))

-- ---- what is shown

event_text_same : (places : Hidden) (c d : Cast) (role : Role) (e : Event) → AreCastsAlike places c d → NamesNone places e → event_text c role e ≡ event_text d role e
event_text_same places c d role e w named =
    line_same places c.names d.names c.dex role e w.names named
    ∙ ap (λ (dex : Tables). line_of e role d.names dex) w.dex

-- the lines of events
pub shown_events_same : (places : Hidden) (fo go : Option Fight) (role : Role) (told : List Event) → AreMaybeAlike places fo go → NamesNoHidden places told →
    shown_events (cast_in fo) role told ≡ shown_events (cast_in go) role told
shown_events_same places None None role told w named = refl
shown_events_same places None (Some g) role told w named = absurd w
shown_events_same places (Some f) None role told w named = absurd w
shown_events_same places (Some f) (Some g) role told w named =
    texts_same (NamesNone places) (event_text f.cast role) (event_text g.cast role) told (λ e n. event_text_same places f.cast g.cast role e (casts_alike places f g w) n) named

item_same : (places : Hidden) (c d : Cast) (role : Role) (i : Logged) → AreCastsAlike places c d → IsLoggedOpenly places i → shown_item (Some c) role i ≡ shown_item (Some d) role i
item_same places c d role (logs.Text text) w shown = refl
item_same places c d role (logs.Event e) w shown = event_text_same places c d role e w shown

-- the backlog
pub backlog_same : (places : Hidden) (fo go : Option Fight) (role : Role) (n : ℕ) (items : List Logged) → AreMaybeAlike places fo go → All (IsLoggedOpenly places) items →
    shown_items (cast_in fo) role (backlog_items (cast_in fo) (take n items)) ≡ shown_items (cast_in go) role (backlog_items (cast_in go) (take n items))
backlog_same places None None role n items w shown = refl
backlog_same places None (Some g) role n items w shown = absurd w
backlog_same places (Some f) None role n items w shown = absurd w
backlog_same places (Some f) (Some g) role n items w shown =
    texts_same (IsLoggedOpenly places) (shown_item (Some f.cast) role) (shown_item (Some g.cast) role) (take n items)
    (λ i openly. item_same places f.cast g.cast role i (casts_alike places f g w) openly) (All-take (IsLoggedOpenly places) n items shown)
