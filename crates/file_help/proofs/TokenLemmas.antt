-- The tokens of a page, written behind one another.
use Rattle.std.proofs.Common.{◌≡◌, ℕ, ◌+◌, ◌<◌, List, [], ◌∷◌, ◌++◌, length, drop, get_or, ap, sym, ◌∙◌, append_assoc}
use Rattle.std.specs.List.{flat_map}
use Rattle.std.proofs.lemmas.List.{drop_more}
use Rattle.json.specs.Token.{Token, begin_object, end_object}
use Rattle.json.specs.Print.{print}
use Rattle.json_text.specs.Lines.{Line, begun, with_tokens}
use Rattle.json_text.proofs.LineLemmas.{joined, then}
use Rattle.file_help.specs.declared.page.Section.{Section}
use Rattle.file_help.specs.Pages.{section_tokens, page_tokens}

-- where the tokens of the first of the things that are left were written, those of the others are left, and what stands behind them
pub next_tokens : {A : Type 0} (f : A → List Token) (end : List Token) (xs : List A) (i : ℕ) (x : A) (old new all : Line)
    → i < length xs → x ≡ get_or xs i x → new ≡ with_tokens (f x) old
    → with_tokens (flat_map f (drop i xs) ++ end) old ≡ all → with_tokens (flat_map f (drop (i + 1) xs) ++ end) new ≡ all
next_tokens {A} f end xs i x old new all lt is written left =
    ap (λ (l : Line). with_tokens (flat_map f (drop (i + 1) xs) ++ end) l) written
    ∙ joined (f x) (flat_map f (drop (i + 1) xs) ++ end) old
    ∙ ap (λ (ts : List Token). with_tokens ts old) (sym (append_assoc (f x) (flat_map f (drop (i + 1) xs)) end))
    ∙ ap (λ (y : A). with_tokens ((f y ++ flat_map f (drop (i + 1) xs)) ++ end) old) is
    ∙ ap (λ (ys : List A). with_tokens (flat_map f ys ++ end) old) (sym (drop_more xs i x lt))
    ∙ left

-- what is printed of an object whose members are the sections
pub printed : (sections : List Section) (a b c : Line) (text : List ℕ)
    → a ≡ begun [] → b ≡ with_tokens (begin_object ∷ []) a
    → c ≡ with_tokens (flat_map section_tokens sections ++ end_object ∷ []) b
    → text ≡ c.front ++ print c.tokens → text ≡ print (page_tokens sections)
unfolding with_tokens begun
printed sections a b c text a_is b_is c_is text_is =
    let whole : c ≡ with_tokens (page_tokens sections) a =
    then a b c (begin_object ∷ []) (flat_map section_tokens sections ++ end_object ∷ []) b_is c_is in
    let from : c ≡ with_tokens (page_tokens sections) (begun []) = whole ∙ ap (λ (l : Line). with_tokens (page_tokens sections) l) a_is in
    text_is ∙ ap (λ (l : Line). l.front ++ print l.tokens) from
