-- How far a replay has come: what was written, what waits, and what is still to be printed.
use Rattle.std.proofs.Common.{◌≡◌, ℕ, List, [], ◌∷◌, ◌++◌, Option, refl, sym, ap, ◌∙◌, subst, append_assoc}
use Rattle.std.specs.Io.KnownBytes.{Appends}
use Rattle.std.proofs.KnownBytes.{Appends-trans, Appends-nil}
use Rattle.std.proofs.lemmas.List.{append-nil}
use Rattle.ps_outside.specs.Sinks.{AppendsFront}
use Rattle.replay_script.specs.declared.item.Item.{Item}
use Rattle.replay_state.specs.Tables.{Desk, item_text, item_after, text_from}
use Rattle.ps_replay.specs.Flow.{MovesFront}

pub record Came (old new : Option (List ℕ)) (all pending : List ℕ) (s : Desk) (rest : List Item) : Type 0 where
  pub front : List ℕ
  pub wrote : Appends old new front
  pub parts : all ≡ front ++ (pending ++ text_from s rest)

pub Came-start : (old : Option (List ℕ)) (s : Desk) (items : List Item) → Came old old (text_from s items) [] s items
Came-start old s items = record { front = []; wrote = Appends-nil old; parts = refl }

pub Came-more : (old mid new : Option (List ℕ)) (all pending now : List ℕ) (s : Desk) (i : Item) (rest : List Item) → Came old mid all pending s (i ∷ rest) → MovesFront mid new (pending ++ item_text s i) now → Came old new all now (item_after s i) rest
Came-more old mid new all pending now s i rest c m = record {
  front = c.front ++ m.front;
  wrote = Appends-trans old mid new c.front m.front c.wrote m.grew;
  parts =
      c.parts
      ∙ ap (λ (x : List ℕ). c.front ++ x) (sym (append_assoc pending (item_text s i) (text_from (item_after s i) rest)) ∙ ap (λ (x : List ℕ). x ++ text_from (item_after s i) rest) m.parts ∙ append_assoc m.front now (text_from (item_after s i) rest))
      ∙ sym (append_assoc c.front m.front (now ++ text_from (item_after s i) rest));
}

-- a front of what waits is a front of all
pub Came-stopped : (old mid new : Option (List ℕ)) (all pending : List ℕ) (s : Desk) (i : Item) (rest : List Item) → Came old mid all pending s (i ∷ rest) → AppendsFront mid new (pending ++ item_text s i) → AppendsFront old new all
Came-stopped old mid new all pending s i rest c a =
    let tail = text_from (item_after s i) rest in
    record {
      front = c.front ++ a.front;
      rest = a.rest ++ tail;
      parts =
          c.parts
          ∙ ap (λ (x : List ℕ). c.front ++ x) (sym (append_assoc pending (item_text s i) tail) ∙ ap (λ (x : List ℕ). x ++ tail) a.parts ∙ append_assoc a.front a.rest tail)
          ∙ sym (append_assoc c.front a.front (a.rest ++ tail));
      grew = Appends-trans old mid new c.front a.front c.wrote a.grew;
    }

pub Came-last : (old mid new : Option (List ℕ)) (all pending : List ℕ) (s : Desk) → Came old mid all pending s [] → AppendsFront mid new pending → AppendsFront old new all
Came-last old mid new all pending s c a = record {
  front = c.front ++ a.front;
  rest = a.rest;
  parts = c.parts ∙ ap (λ (x : List ℕ). c.front ++ x) (append-nil pending ∙ a.parts) ∙ sym (append_assoc c.front a.front a.rest);
  grew = Appends-trans old mid new c.front a.front c.wrote a.grew;
}

pub Came-all : (old mid new : Option (List ℕ)) (all pending now : List ℕ) (s : Desk) → Came old mid all pending s [] → MovesFront mid new pending now → now ≡ [] → Appends old new all
Came-all old mid new all pending now s c m empty =
    let waited : pending ≡ m.front = m.parts ∙ ap (λ (x : List ℕ). m.front ++ x) empty ∙ append-nil m.front in
    let whole : all ≡ c.front ++ m.front = c.parts ∙ ap (λ (x : List ℕ). c.front ++ x) (append-nil pending ∙ waited) in
    subst (λ (x : List ℕ). Appends old new x) (sym whole) (Appends-trans old mid new c.front m.front c.wrote m.grew)
