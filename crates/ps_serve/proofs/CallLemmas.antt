-- What the calls that tell give, as one fact each.
use Rattle.std.proofs.Common.{◌≡◌, ℕ, ◌+◌, ◌<◌, true, false, List, length, take, get_or, Option, Some, None, IfNone, Bor, refl, ap, sym, ◌∙◌, subst, inr}
use Rattle.std.specs.Prelude.{IsSome, is_some, slice_get}
use Rattle.std.specs.Option.{option_copied}
use Rattle.std.proofs.lemmas.List.{take-map}
use Rattle.std.proofs.lemmas.Option.{slice_get_read}
use Rattle.ps_base.specs.declared.msg.Msg.{Msg}
use Rattle.ps_base.specs.Messages.{text_of, texts_of}
use Rattle.ps_outside.specs.Links.{Talk, after_text}
use Rattle.ps_hub.specs.Hubs.{Hub}
use Rattle.ps_hub.specs.Passes.{RoomPass}
use Rattle.ps_hub.specs.declared.passes.Passes.{Passes}
use Rattle.ps_serve.specs.Tellings.{after_texts, TellsRoom}
use Rattle.ps_serve.proofs.SendingLemmas.{one_message_more}

-- ---- sending messages

sent_more : (room : Option (List ℕ)) (msgs : List Msg) (i : ℕ) (item : Msg) (was so_far is : Option Talk) → i < length msgs → item ≡ get_or msgs i item → so_far ≡ after_texts (take i (texts_of room msgs)) was → is ≡ after_text (text_of room item) so_far → is ≡ after_texts (take (i + 1) (texts_of room msgs)) was
sent_more room msgs i item was so_far is lt at before now =
    now
    ∙ ap (λ (t : Option Talk). after_text (text_of room item) t) before
    ∙ ap (λ (m : Msg). after_text (text_of room m) (after_texts (take i (texts_of room msgs)) was)) at
    ∙ sym (one_message_more room msgs i item was lt)

pub sent_one : (room : Option (List ℕ)) (msgs : List Msg) (i : ℕ) (item : Msg) (was so_far is : Option Talk) → i < length msgs → item ≡ get_or msgs i item → so_far ≡ after_texts (take i (texts_of room msgs)) was → is ≡ after_text (text_of room item) so_far → (is ≡ after_texts (take (i + 1) (texts_of room msgs)) was) × (is ≡ after_texts (texts_of room (take (i + 1) msgs)) was)
sent_one room msgs i item was so_far is lt at before now =
    let more : is ≡ after_texts (take (i + 1) (texts_of room msgs)) was = sent_more room msgs i item was so_far is lt at before now in
    (more, more ∙ ap (λ (texts : List (List ℕ)). after_texts texts was) (take-map (text_of room) (i + 1) msgs))

pub if_none : {T : Type 0} (r : Option T) (P Q : Type 0) → IfNone r P → (P → Q) → IfNone r Q
if_none None P Q p f = f p
if_none (Some x) P Q p f = p

-- ---- the id of a place

no_id : (r : Option (Bor (List ℕ))) → is_some r ≡ false → option_copied r ≡ None
no_id None e = refl
no_id (Some b) e = absurd (cc)

an_id : (r : Option (Bor (List ℕ))) → is_some r ≡ true → IsSome (option_copied r)
an_id None e = absurd (cc)
an_id (Some b) e = refl

-- the pass that was read at an index of the list, and the id by which it is held
pub record Read (rooms : List RoomPass) (place : ℕ) (item : RoomPass) (id : Option (Bor (List ℕ))) : Type 0 where
  pub within : place < length rooms
  pub at : item ≡ get_or rooms place item
  pub is : option_copied id ≡ item.id

pub read_there : (rooms : List RoomPass) (place : ℕ) (item : RoomPass) (id : Option (Bor (List ℕ))) → Read rooms place item id → slice_get rooms place ≡ Some item
read_there rooms place item id r = slice_get_read rooms (length rooms) place item refl r.within r.at

pub read_held : (rooms : List RoomPass) (place : ℕ) (item : RoomPass) (id : Option (Bor (List ℕ))) → Read rooms place item id → is_some id ≡ true → IsSome item.id
read_held rooms place item id r e = subst (λ (o : Option (List ℕ)). IsSome o) r.is (an_id id e)

-- ---- what the room at a place told

pub passes_by : (hub : Hub) (place : ℕ) (old : Passes) (item : RoomPass) (id : Option (Bor (List ℕ))) (talk : Option Talk) → Read old.rooms.items place item id → is_some id ≡ false → TellsRoom hub place old old talk talk
passes_by hub place old item id talk r e = inr (record {
  pass = item;
  there = read_there old.rooms.items place item id r;
  free = sym r.is ∙ no_id id e;
  same = refl;
  silent = refl;
})
