-- What one more entry makes of a piece.
use Rattle.std.proofs.Common.{◌≡◌, ℕ, ◌+◌, ◌-◌, ◌<◌, ◌≤◌, ◌⊎◌, inl, inr, List, [], ◌∷◌, ◌++◌, length, min, take, drop, get_or, refl, sym, ap, subst, ◌∙◌, append_assoc, arith}
use Rattle.std.proofs.lemmas.List.{append-nil, length-append, take_more, take_at, take_min, take-take, drop-take, length-take, length-drop}
use Rattle.std.proofs.lemmas.List.Sums.{sum_by-append, sum_by-take-drop}
use Rattle.ps_base.specs.Messages.{sent}
use Rattle.ps_hall.specs.declared.notice.Notice.{Notice}
use Rattle.ps_hall.specs.declared.piece.TheConstants.{PIECE_MESSAGES, PIECE_BYTES}
use Rattle.ps_hall.specs.Halls.{pulled, message_of}
use Rattle.ps_hall.specs.Pieces.{message_bytes, piece_bytes, HadRoomBeforeLast}

pulled_more : (conn : ℕ) (log more : List (List Notice)) → pulled conn (log ++ more) ≡ pulled conn log ++ pulled conn more
pulled_more conn [] more = refl
pulled_more conn (ns ∷ log) more = ap (λ ms. sent (message_of conn ns) ++ ms) (pulled_more conn log more) ∙ sym (append_assoc (sent (message_of conn ns)) (pulled conn log) (pulled conn more))

sent_bytes : (lines : List (List ℕ)) → piece_bytes (sent lines) ≡ message_bytes lines
sent_bytes [] = refl
sent_bytes (line ∷ lines) = omega arith

short_behind : (ms : List (List (List ℕ))) (lines : List (List ℕ)) → length ms < PIECE_MESSAGES → piece_bytes ms < PIECE_BYTES → HadRoomBeforeLast (ms ++ sent lines)
short_behind ms [] few small = rw (append-nil ms) (record {
  messages = omega arith;
  bytes = omega (arith, sum_by-take-drop message_bytes ms (length ms - 1));
})
short_behind ms (line ∷ lines) few small = record {
  messages = omega (arith, length-append ms ((line ∷ lines) ∷ []));
  bytes = rw (take_at ms ((line ∷ lines) ∷ []) (length (ms ++ (line ∷ lines) ∷ []) - 1) (omega (arith, length-append ms ((line ∷ lines) ∷ [])))) small;
}

-- the first `i` entries, of which the first `must` are taken in any case
pub record IsTaken (conn : ℕ) (log : List (List Notice)) (must : ℕ) (ms : List (List (List ℕ))) (room i : ℕ) : Type 0 where
  pub told : ms ≡ pulled conn (take i log)
  pub left : room ≡ PIECE_BYTES - piece_bytes ms
  pub short : HadRoomBeforeLast ms ⊎ (i ≤ must)

told_more : (conn : ℕ) (log : List (List Notice)) (i : ℕ) (ns : List Notice) → i < length log → ns ≡ get_or log i ns → pulled conn (take (i + 1) log) ≡ pulled conn (take i log) ++ sent (message_of conn ns)
told_more conn log i ns inside is =
    ap (pulled conn) (take_more log i ns inside)
    ∙ pulled_more conn (take i log) (get_or log i ns ∷ [])
    ∙ ap (λ (ms : List (List (List ℕ))). pulled conn (take i log) ++ ms) (append-nil (sent (message_of conn (get_or log i ns))))
    ∙ ap (λ (xs : List Notice). pulled conn (take i log) ++ sent (message_of conn xs)) (sym is)

room_left : (ms : List (List (List ℕ))) (lines : List (List ℕ)) (room : ℕ) → room ≡ PIECE_BYTES - piece_bytes ms → room - message_bytes lines ≡ PIECE_BYTES - piece_bytes (ms ++ sent lines)
room_left ms lines room is = omega (arith, sum_by-append message_bytes ms (sent lines), sent_bytes lines)

pub next_taken : (conn : ℕ) (log : List (List Notice)) (must : ℕ) (ms new : List (List (List ℕ))) (count room i : ℕ) (ns : List Notice) (lines : List (List ℕ)) (after : ℕ)
    → IsTaken conn log must ms room i → count ≡ length ms → (i < must) ⊎ ((count < PIECE_MESSAGES) × (0 < room)) → i < length log → ns ≡ get_or log i ns
    → lines ≡ message_of conn ns → new ≡ ms ++ sent lines → after ≡ room - message_bytes lines → IsTaken conn log must new after (i + 1)
next_taken conn log must ms new count room i ns lines after taken counts goes inside is told put room_is = record {
  told = put ∙ ap (λ (ls : List (List ℕ)). ms ++ sent ls) told ∙ ap (λ (before : List (List (List ℕ))). before ++ sent (message_of conn ns)) taken.told ∙ sym (told_more conn log i ns inside is);
  left = room_is ∙ room_left ms lines room taken.left ∙ ap (λ (all : List (List (List ℕ))). PIECE_BYTES - piece_bytes all) (sym put);
  short = elim goes [
    | inl early ↦ inr (omega arith)
    | inr more ↦ inl (subst HadRoomBeforeLast (sym put) (short_behind ms lines (omega (arith, counts, more.0)) (omega (arith, taken.left, more.1))))
  ];
}

-- the first so many of what is past an index
pub front_past : {X : Type 0} (log : List X) (at here there : ℕ) → here ≤ length log - at → there ≡ min (at + here) (length log) → take here (drop at log) ≡ drop at (take there log)
front_past log at here there few is = sym (drop-take at here log) ∙ ap (drop at) (sym (take_min (at + here) log) ∙ ap (λ (n : ℕ). take n log) (sym is))

-- `later` is what is past an index, and of its first `end` entries all but the last `left` are taken
pub piece_is : {X : Type 0} (log later : List X) (at end left : ℕ) → later ≡ drop at log → end ≤ length later → left ≤ length (take end later)
    → take (length (take end later) - left) (take end later) ≡ drop at (take (length log - (left + (length later - end))) log)
piece_is log later at end left is inside few =
    let front : length (take end later) ≡ min end (length later) = length-take end later in
    let past : length later ≡ length log - at = ap length is ∙ length-drop at log in
    take-take (length (take end later) - left) end later (omega arith)
    ∙ ap (take (length (take end later) - left)) is
    ∙ front_past log at (length (take end later) - left) (length log - (left + (length later - end))) (omega arith) (omega arith)
