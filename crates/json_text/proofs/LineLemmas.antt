-- What is written behind one another, and what is printed for a value's tokens.
use Rattle.std.proofs.Common.{◌≡◌, ℕ, ◌+◌, ◌<◌, List, ◌∷◌, ◌++◌, length, map, drop, get_or, ap, sym, ◌∙◌, append_assoc}
use Rattle.std.proofs.lemmas.List.{drop_more}
use Rattle.json.specs.Token.{Token}
use Rattle.json.specs.Print.{print}
use Rattle.json.specs.Tree.{json_tokens, items_tokens}
use Rattle.serde_json.specs.Data.{Data}
use Rattle.serde_json.specs.View.{items_of}
use Rattle.serde_json.specs.Written.{outline, items_outline, compact_text}
use Rattle.serde_json.proofs.Texts.{print-outline}
use Rattle.json_text.specs.Lines.{Line, begun, with_tokens, with_value, with_items}

-- tokens behind tokens are both
pub joined : (a b : List Token) (l : Line) → with_tokens b (with_tokens a l) ≡ with_tokens (a ++ b) l
unfolding with_tokens
joined a b l = ap (λ (ts : List Token). record { front = l.front; tokens = ts }) (append_assoc l.tokens a b)

-- what is written after something is written behind it
pub then : (old mid new : Line) (a b : List Token) → mid ≡ with_tokens a old → new ≡ with_tokens b mid → new ≡ with_tokens (a ++ b) old
then old mid new a b first second = second ∙ ap (λ (l : Line). with_tokens b l) first ∙ joined a b old

-- where the first of the items that are left was written, the others are left
pub item_written : (value : Data) (values : List Data) (old new all : Line) → new ≡ with_value value old → with_items (items_of (value ∷ values)) old ≡ all → with_items (items_of values) new ≡ all
item_written value values old new all written left =
    ap (λ (l : Line). with_items (items_of values) l) written
    ∙ joined (json_tokens (outline value)) (items_tokens (items_outline (items_of values))) old
    ∙ left

-- the same where they are of the items of a list from an index on
pub next_written : {A : Type 0} (value : A → Data) (xs : List A) (i : ℕ) (d : A) (old new all : Line) → i < length xs → new ≡ with_value (value (get_or xs i d)) old
    → with_items (items_of (map value (drop i xs))) old ≡ all → with_items (items_of (map value (drop (i + 1) xs))) new ≡ all
next_written value xs i d old new all lt written left =
    item_written (value (get_or xs i d)) (map value (drop (i + 1) xs)) old new all written
    (ap (λ ys. with_items (items_of (map value ys)) old) (sym (drop_more xs i d lt)) ∙ left)

-- a line with one value is its front and the compact text of the value
pub compact : (line : Line) (bytes front : List ℕ) (value : Data) → bytes ≡ line.front ++ print line.tokens → line ≡ with_value value (begun front) → bytes ≡ front ++ compact_text value
unfolding with_tokens begun
compact line bytes front value printed is =
    printed
    ∙ ap (λ (l : Line). l.front ++ print l.tokens) is
    ∙ ap (λ (x : List ℕ). front ++ x) (print-outline value)
