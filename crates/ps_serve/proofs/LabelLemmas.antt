-- Each text that was sent tells its place by its first line.
use Rattle.std.proofs.Common.{◌≡◌, ℕ, ◌<◌, Bool, true, false, zero, suc, List, [], ◌∷◌, ◌++◌, map, length, take, get_or, Option, Some, None, refl, ap, sym, ◌∙◌, subst, arith}
use Rattle.std.specs.Prelude.{All, Contains, IfSome}
use Rattle.std.specs.List.{cons_option}
use Rattle.std.proofs.lemmas.List.Elements.{All-contains, Contains-get_or, Contains-append_left, Contains-append_right}
use mathlib.Core.List.{IsPrefix}
use Rattle.ps_histlock.specs.Histories.{commands}
use Rattle.ps_base.specs.Messages.{behind}
use Rattle.server_places.specs.Rooms.{Shows}
use Rattle.server_places.specs.Halls.{HallShows, hall_opened}
use Rattle.ps_hub.specs.Hubs.{Hub, root_of, site_of}
use Rattle.ps_hub.specs.Names.{Names}
use Rattle.ps_hub.specs.Passes.{HallPass, RoomPass}
use Rattle.ps_hub.proofs.CallLemmas.{some_value}
use Rattle.ps_serve.specs.Sendings.{Sending, text_if, text_from, texts_from, message_text, message_texts}
use Rattle.ps_serve.specs.Sittings.{IsFromBy, IsFrom}
use Rattle.ps_serve.proofs.BarLemmas.{IsBarred, view_barred}
use Rattle.ps_serve.proofs.SendingLemmas.{is_place_self}
use Rattle.ps_serve.specs.Ends.{Account, IsSentSo, HallSent, RoomSent, IsOfRoom, IsOfHall, IsLabelledBy, IsLabelled}

-- ---- members of lists

first_in : {A : Type 0} (x : A) (xs : List A) → Contains (x ∷ xs) x
first_in x xs = (0, omega arith, refl)

later_in : {A : Type 0} (y : A) (xs : List A) (x : A) → Contains xs x → Contains (y ∷ xs) x
later_in y xs x c = Contains-append_right (y ∷ []) xs x c

pub in_longer : {A : Type 0} (xs ys : List A) (x : A) → IsPrefix xs ys → Contains xs x → Contains ys x
in_longer xs ys x p c = subst (λ l. Contains l x) p.1 (Contains-append_left xs p.0 x c)

-- what a member of a list of results came from
pub came_from : {A B : Type 0} (f : A → B) (xs : List A) (y : B) → Contains (map f xs) y → (x : A) × Contains xs x × (y ≡ f x)
came_from f [] y c = absurd (let lt : c.0 < 0 = c.1 in omega arith)
came_from f (x ∷ xs) y (zero, lt, e) = (x, first_in x xs, sym e)
came_from f (x ∷ xs) y (suc k, lt, e) = (let r = came_from f xs y (k, (let l : suc k < length (map f (x ∷ xs)) = lt in omega arith), e) in (r.0, later_in x xs r.0 r.1, r.2))

push_option : {A : Type 0} (o : Option A) (xs : List A) (y : A) → Contains xs y → Contains (cons_option o xs) y
push_option None xs y c = c
push_option (Some x) xs y c = later_in x xs y c

-- ---- the texts of a place

text_there : (s : Sending) (ss : List Sending) → Contains (texts_from s.place (s ∷ ss)) s.text
text_there s ss = subst (λ (b : Bool). Contains (cons_option (text_if b s) (texts_from s.place ss)) s.text) (sym (is_place_self s.place)) (first_in s.text (texts_from s.place ss))

pub text_in : (ss : List Sending) (s : Sending) → Contains ss s → Contains (texts_from s.place ss) s.text
text_in [] s c = absurd (let lt : c.0 < 0 = c.1 in omega arith)
text_in (x ∷ ss) s (zero, lt, e) = subst (λ (y : Sending). Contains (texts_from s.place (y ∷ ss)) s.text) (sym e) (text_there s ss)
text_in (x ∷ ss) s (suc k, lt, e) = push_option (text_from s.place x) (texts_from s.place ss) s.text (text_in ss s (k, (let l : suc k < length (x ∷ ss) = lt in omega arith), e))

-- ---- the message of a text

module _ {C : Type 0} (shows : List C → List (List (List ℕ)) → Type 0) where
  -- the text is that of a message in the view over what was handed out
  pub record IsMessage (cmds : List C) (at : ℕ) (room : Option (List ℕ)) (text : List ℕ) : Type 0 where
    pub view : List (List (List ℕ))
    pub shown : shows (take at cmds) view
    pub lines : List (List ℕ)
    pub there : Contains view lines
    pub text_is : text ≡ message_text room lines

  pub message_of : (b : Bool) (cmds : List C) (at : ℕ) (room : Option (List ℕ)) (place : Option ℕ) (ss : List Sending) (text : List ℕ) → IsSentSo shows b cmds at room place ss → Contains (texts_from place ss) text → IsMessage cmds at room text
  message_of false cmds at room place ss text sent c =
      let m = came_from (message_text room) sent.0 text (subst (λ (l : List (List ℕ)). Contains l text) sent.2 c) in
      record { view = sent.0; shown = sent.1; lines = m.0; there = m.1; text_is = m.2 }
  message_of true cmds at room place ss text sent c =
      let m = came_from (message_text room) sent.0 text (in_longer (texts_from place ss) (message_texts room sent.0) text sent.2 c) in
      record { view = sent.0; shown = sent.1; lines = m.0; there = m.1; text_is = m.2 }

-- ---- rooms

-- what is known of the pass of a room
abbrev pub IsKnown : Bool → Hub → ℕ → Account → RoomPass → Type 0
IsKnown b hub conn t k = RoomSent b hub conn t k × IfSome k.id (λ id. Names hub.config id k.number)

of_room : (b : Bool) (hub : Hub) (conn : ℕ) (t : Account) (rooms : List RoomPass) (number : ℕ) (text : List ℕ) → All (IsKnown b hub conn t) rooms → IsFromBy (Some number) rooms → Contains (texts_from (Some number) t.sendings) text → IsOfRoom hub rooms number text
of_room b hub conn t rooms number text known (k, there, place, held) c =
    let i = some_value k.id held in
    let facts = All-contains (IsKnown b hub conn t) rooms k known there in
    let sent = subst (λ (o : Option (List ℕ)). IsSentSo (Shows conn (site_of hub k.number)) b (commands k.pass.1.seen) k.at o (Some k.number) t.sendings) i.1 facts.0 in
    let named : Names hub.config i.0 k.number = subst (λ (o : Option (List ℕ)). IfSome o (λ id. Names hub.config id k.number)) i.1 facts.1 in
    let m = message_of (Shows conn (site_of hub k.number)) b (commands k.pass.1.seen) k.at (Some i.0) (Some k.number) t.sendings text sent (subst (λ (n : ℕ). Contains (texts_from (Some n) t.sendings) text) (sym place) c) in
    record { pass = k; there = there; place = place; id = i.0; held = i.1; named = subst (λ (n : ℕ). Names hub.config i.0 n) place named; lines = m.lines; text_is = m.text_is }

-- ---- the hall

of_hall : (b : Bool) (hub : Hub) (conn : ℕ) (t : Account) (h : HallPass) (text : List ℕ) → HallSent b hub conn t h → Contains (texts_from None t.sendings) text → IsOfHall text
of_hall b hub conn t h text sent c =
    let m = message_of (HallShows conn (root_of hub)) b (commands h.pass.1.seen) h.at None None t.sendings text sent c in
    let barred = view_barred conn (hall_opened (root_of hub)) (take h.at (commands h.pass.1.seen)) in
    let line = All-contains IsBarred m.view m.lines (subst (All IsBarred) (sym m.shown) barred) m.there in
    (line.0 ++ behind line.1, m.text_is ∙ ap (message_text None) line.2)

-- ---- all texts

by_place : (b : Bool) (hub : Hub) (conn : ℕ) (t : Account) (h : HallPass) (rooms : List RoomPass) (place : Option ℕ) (text : List ℕ) → HallSent b hub conn t h → All (IsKnown b hub conn t) rooms → IsFromBy place rooms → Contains (texts_from place t.sendings) text → IsLabelledBy place hub rooms text
by_place b hub conn t h rooms None text hall known from c = of_hall b hub conn t h text hall c
by_place b hub conn t h rooms (Some number) text hall known from c = of_room b hub conn t rooms number text known from c

pub labelled : (b : Bool) (hub : Hub) (conn : ℕ) (t : Account) (h : HallPass) (rooms : List RoomPass) → HallSent b hub conn t h → All (IsKnown b hub conn t) rooms → All (IsFrom rooms) t.sendings → All (IsLabelled hub rooms) t.sendings
labelled b hub conn t h rooms hall known from i d lt =
    let s = get_or t.sendings i d in
    by_place b hub conn t h rooms s.place s.text hall known (from i d lt) (text_in t.sendings s (Contains-get_or t.sendings i d lt))
