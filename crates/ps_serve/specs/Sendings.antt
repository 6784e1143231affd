-- What a session sent.
use Rattle.std.specs.Prelude.{ℕ, ◌+◌, ◌≤◌, ◌==◌, Bool, true, false, List, [], ◌∷◌, length, take, map, nat_le, Option, Some, None}
use Rattle.std.specs.Prelude.{if◌then◌else◌}
use Rattle.std.specs.List.{filter_map}
use mathlib.Core.List.{IsPrefix}
use Rattle.ps_base.specs.Messages.{joined, headed}
use Rattle.ps_outside.specs.declared.link.SentText.{SentText}

-- A text that was sent: from the hall (None) or the place of a room, and how many answers of the link stood before it, counted
-- from the begin of the session.
pub record Sending : Type 0 where
  pub place : Option ℕ
  pub text : List ℕ
  pub after : ℕ

-- as the link keeps it, of which so many answers were before the session
abbrev pub sent_text : ℕ → Sending → SentText
sent_text base sending = record { text = sending.text; after = base + sending.after }

abbrev pub is_place : Option ℕ → Option ℕ → Bool
is_place None None = true
is_place (Some one) (Some two) = one == two
is_place one two = false

abbrev pub text_if : Bool → Sending → Option (List ℕ)
text_if true sending = Some sending.text
text_if false sending = None

-- the text of a sending, where it is from this place
abbrev pub text_from : Option ℕ → Sending → Option (List ℕ)
text_from place sending = text_if (is_place place sending.place) sending

-- the texts that were sent from a place, in order
abbrev pub texts_from : Option ℕ → List Sending → List (List ℕ)
texts_from place ss = filter_map (text_from place) ss

-- those that were sent before the link had answered more often
abbrev pub text_before : Option ℕ → ℕ → Sending → Option (List ℕ)
text_before place answers sending = if nat_le sending.after answers then text_from place sending else None

abbrev pub texts_before : Option ℕ → ℕ → List Sending → List (List ℕ)
texts_before place answers ss = filter_map (text_before place answers) ss

-- the text of a message, from the room with an id or from the hall
abbrev pub message_text : Option (List ℕ) → List (List ℕ) → List ℕ
message_text room lines = joined (headed room lines)

abbrev pub message_texts : Option (List ℕ) → List (List (List ℕ)) → List (List ℕ)
message_texts room ms = map (message_text room) ms

-- ---- looks

module _ {C : Type 0} (shows : List C → List (List (List ℕ)) → Type 0) where
  -- A look that showed so many entries was answered: what was sent from the place before the link answered again holds the whole view of
  -- at least the first of them.
  pub record IsLookAnswered (cmds : List C) (room : Option (List ℕ)) (sent : List (List ℕ)) (least : ℕ) : Type 0 where
    pub within : least ≤ length cmds
    pub entries : ℕ
    pub enough : least ≤ entries
    pub there : entries ≤ length cmds
    pub view : List (List (List ℕ))
    pub shown : shows (take entries cmds) view
    pub sent_whole : IsPrefix (message_texts room view) sent

  -- The looks of a place in order, the first at the answer with the number `first`.
  abbrev pub AreLooksAnswered : List C → Option (List ℕ) → Option ℕ → List Sending → ℕ → List ℕ → Type 0
  AreLooksAnswered cmds room place ss first [] = Unit {0}
  AreLooksAnswered cmds room place ss first (look ∷ looks) = IsLookAnswered cmds room (texts_before place first ss) look
      × AreLooksAnswered cmds room place ss (first + 1) looks
