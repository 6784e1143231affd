-- Lists that begin with others, and what stays true of what was sent and answered when a history goes on.
use Rattle.std.proofs.Common.{◌≡◌, ℕ, ◌+◌, ◌≤◌, List, [], ◌∷◌, ◌++◌, length, take, refl, sym, ap, ◌∙◌, subst, arith, append_assoc, append-nil, flat_map, Option}
use Rattle.std.proofs.lemmas.List.{take-append-le}
use Rattle.std.proofs.lemmas.Grind.{flat_map-append}
use mathlib.Core.List.{IsPrefix}
use Rattle.ps_histlock.specs.declared.view.Entry.{Entry}
use Rattle.ps_histlock.specs.Histories.{commands}
use Rattle.ps_histlock.proofs.Lists.{prefix_length}
use Rattle.ps_histlock.proofs.TurnLemmas.{commands-append}
use Rattle.ps_serve.specs.Sendings.{Sending, IsLookAnswered, AreLooksAnswered}
use Rattle.ps_serve.specs.Sittings.{IsSent}

pub prefix_trans : {A : Type 0} (xs ys zs : List A) → IsPrefix xs ys → IsPrefix ys zs → IsPrefix xs zs
prefix_trans xs ys zs p q = (p.0 ++ q.0, sym (append_assoc xs p.0 q.0) ∙ ap (λ l. l ++ q.0) p.1 ∙ q.1)

pub prefix_front : {A : Type 0} (xs ys : List A) → IsPrefix xs (xs ++ ys)
prefix_front xs ys = (ys, refl)

pub prefix_same : {A : Type 0} (xs ys : List A) → xs ≡ ys → IsPrefix xs ys
prefix_same xs ys e = ([], append-nil xs ∙ e)

pub prefix_commands : {C : Type 0} (xs ys : List (Entry C)) → IsPrefix xs ys → IsPrefix (commands xs) (commands ys)
prefix_commands xs ys p = (commands p.0, sym (commands-append xs p.0) ∙ ap (λ l. commands l) p.1)

pub take_prefix : {A : Type 0} (n : ℕ) (xs ys : List A) → n ≤ length xs → IsPrefix xs ys → take n ys ≡ take n xs
take_prefix n xs ys le p = ap (take n) (sym p.1) ∙ take-append-le n xs p.0 le

-- what one more gives
pub flat_snoc : {A B : Type 0} (f : A → List B) (xs : List A) (x : A) → flat_map f (xs ++ x ∷ []) ≡ flat_map f xs ++ f x
flat_snoc f xs x = flat_map-append f xs (x ∷ []) ∙ ap (λ l. flat_map f xs ++ l) (append-nil (f x))

module _ {C : Type 0} (shows : List C → List (List (List ℕ)) → Type 0) where
  pub sent_grows : (cmds more : List C) (at : ℕ) (room : Option (List ℕ)) (place : Option ℕ) (ss : List Sending) → at ≤ length cmds → IsPrefix cmds more → IsSent shows cmds at room place ss → IsSent shows more at room place ss
  sent_grows cmds more at room place ss le p s = (s.0, subst (λ l. shows l s.0) (sym (take_prefix at cmds more le p)) s.1, s.2)

  look_grows : (cmds more : List C) (room : Option (List ℕ)) (sent : List (List ℕ)) (n : ℕ) → IsPrefix cmds more → IsLookAnswered shows cmds room sent n → IsLookAnswered shows more room sent n
  look_grows cmds more room sent n p a =
      let longer : length cmds ≤ length more = prefix_length cmds more p in
      let within : n ≤ length cmds = a.within in
      let there : a.entries ≤ length cmds = a.there in
      record {
        within = omega arith;
        entries = a.entries;
        enough = a.enough;
        there = omega arith;
        view = a.view;
        shown = subst (λ l. shows l a.view) (sym (take_prefix a.entries cmds more there p)) a.shown;
        sent_whole = a.sent_whole;
      }

  pub looks_grow : (cmds more : List C) (room : Option (List ℕ)) (place : Option ℕ) (ss : List Sending) (first : ℕ) (looks : List ℕ) → IsPrefix cmds more → AreLooksAnswered shows cmds room place ss first looks → AreLooksAnswered shows more room place ss first looks
  looks_grow cmds more room place ss first [] p are = tt
  looks_grow cmds more room place ss first (n ∷ looks) p are = (look_grows cmds more room _ n p are.0, looks_grow cmds more room place ss (first + 1) looks p are.1)
