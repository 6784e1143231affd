-- One more line of a script.
use Rattle.std.proofs.Common.{◌≡◌, ℕ, ◌+◌, List, [], ◌∷◌, ◌++◌, length, None, refl, sym, ap, ◌∙◌, arith, append_assoc}
use Rattle.std.proofs.lemmas.List.{length-append}
use Rattle.std.specs.Str.Lines.{lines}
use Rattle.replay_script.specs.declared.item.Item.{Item}
use Rattle.replay_script.specs.Scripts.{Seen, start, IsLine, fault_of, next, seen_after, AreItems}

pub seen_after_more : (s : Seen) (items : List Item) (i : Item) → seen_after s (items ++ i ∷ []) ≡ next (seen_after s items) i
seen_after_more s [] i = refl
seen_after_more s (j ∷ items) i = seen_after_more (next s j) items i

pub AreItems-more : (s : Seen) (before : List (List ℕ)) (items : List Item) (line : List ℕ) (i : Item) → AreItems s before items → IsLine line i → fault_of (seen_after s items) i ≡ None → AreItems s (before ++ line ∷ []) (items ++ i ∷ [])
AreItems-more s [] [] line i h l f = (l, f, tt)
AreItems-more s [] (j ∷ items) line i h l f = absurd h
AreItems-more s (x ∷ before) [] line i h l f = absurd h
AreItems-more s (x ∷ before) (j ∷ items) line i h l f = (h.0, h.1, AreItems-more (next s j) before items line i h.2 l f)

-- the lines so far, and those to come
pub record Reads (symbols bytes rest : List ℕ) (items : List Item) (count : ℕ) : Type 0 where
  pub before : List (List ℕ)
  pub parts : lines bytes ≡ before ++ lines rest
  pub good : AreItems (start symbols) before items
  pub index : count ≡ length before

pub Reads-more : (symbols bytes rest line after : List ℕ) (items : List Item) (i : Item) (count : ℕ) → Reads symbols bytes rest items count → lines rest ≡ line ∷ lines after → IsLine line i → fault_of (seen_after (start symbols) items) i ≡ None → Reads symbols bytes after (items ++ i ∷ []) (count + 1)
Reads-more symbols bytes rest line after items i count r e l f = record {
  before = r.before ++ line ∷ [];
  parts = r.parts ∙ ap (λ (x : List (List ℕ)). r.before ++ x) e ∙ sym (append_assoc r.before (line ∷ []) (lines after));
  good = AreItems-more (start symbols) r.before items line i r.good l f;
  index = omega (arith, r.index, length-append r.before (line ∷ []));
}
