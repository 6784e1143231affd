-- Counts over texts that come in pieces.
use Rattle.std.proofs.Common.{◌≡◌, ℕ, ◌+◌, ◌-◌, ◌^◌, min, List, [], ◌∷◌, ◌++◌, length, refl, arith, sym, ap, ◌∙◌}
use Rattle.std.proofs.lemmas.List.{length-append}
use Rattle.replay_drill.specs.declared.mark.Mark.{Mark}
use Rattle.replay_drill.specs.declared.mark.Mark.TheVariants.{Start}
use Rattle.replay_drill.specs.Messages.{next_mark, mark_after, messages_from, messages_in, counted}

min_again : (a b m : ℕ) → min (min a m + b) m ≡ min (a + b) m
min_again a b m = omega arith

-- a count that goes on from one that may stand still
pub counted_again : (a b : ℕ) → counted (counted a + b) ≡ counted (a + b)
counted_again a b = min_again a b (2 ^ 64 - 1)

pub mark_after-append : (m : Mark) (one other : List ℕ) → mark_after m (one ++ other) ≡ mark_after (mark_after m one) other
mark_after-append m [] other = refl
mark_after-append m (b ∷ bs) other = mark_after-append (next_mark m b) bs other

pub messages_from-append : (m : Mark) (one other : List ℕ) → messages_from m (one ++ other) ≡ messages_from m one + messages_from (mark_after m one) other
messages_from-append m [] other = omega arith
messages_from-append m (b ∷ bs) other = omega (arith, messages_from-append (next_mark m b) bs other)

-- ---- a text and a piece behind it

pub bytes_more : (text piece : List ℕ) (before now : ℕ) → before ≡ counted (length text) → now ≡ counted (before + length piece) → now ≡ counted (length (text ++ piece))
bytes_more text piece before now so is =
    is ∙ ap (λ (n : ℕ). counted (n + length piece)) so
    ∙ counted_again (length text) (length piece)
    ∙ ap counted (sym (length-append text piece))

pub mark_more : (text piece : List ℕ) (before now : Mark) → before ≡ mark_after Start text → now ≡ mark_after before piece → now ≡ mark_after Start (text ++ piece)
mark_more text piece before now so is = is ∙ ap (λ (m : Mark). mark_after m piece) so ∙ sym (mark_after-append Start text piece)

pub messages_more : (text piece : List ℕ) (m : Mark) (before now : ℕ) → m ≡ mark_after Start text → before ≡ counted (messages_in text) → now ≡ counted (before + messages_from m piece) → now ≡ counted (messages_in (text ++ piece))
messages_more text piece m before now there so is =
    is ∙ ap (λ (x : Mark). counted (before + messages_from x piece)) there
    ∙ ap (λ (n : ℕ). counted (n + messages_from (mark_after Start text) piece)) so
    ∙ counted_again (messages_in text) (messages_from (mark_after Start text) piece)
    ∙ ap counted (sym (messages_from-append Start text piece))
