-- What a turn leaves of its pass, for those who keep passes.
use Rattle.std.proofs.Common.{◌≡◌, ◌≢◌, ◌+◌, ◌≤◌, ◌%◌, ℕ, List, [], ◌∷◌, ◌++◌, length, length-append, refl, ap, sym, ◌∙◌, subst, inl, inr, ◌⊎◌, ⊎_elim, Vec, Global}
use Rattle.std.proofs.lemmas.List.{map-append}
use Rattle.std.proofs.lemmas.List.Elements.{All-append, AllZip-push}
use mathlib.Core.List.{IsPrefix}
use Rattle.ps_histlock.specs.declared.view.Entry.{Entry}
use Rattle.ps_histlock.specs.declared.view.View.{View}
use Rattle.ps_histlock.specs.declared.turn.TurnOf.{TurnOf}
use Rattle.ps_histlock.specs.declared.turn.TurnOf.TheVariants.{Done, Late}
use Rattle.ps_histlock.specs.Histories.{commands, entry}
use Rattle.ps_histlock.specs.Views.{after_look, after_meeting, after_entry, after_turn, holder, HasGrown, IsAtRest, Extends}
use Rattle.ps_histlock.specs.Turns.{Written, IsBusy}
use Rattle.ps_histlock.proofs.Lists.{prefix_self, all_one, all_begin}

module _ {C : Type 0} where
  pub commands-append : (xs ys : List (Entry C)) → commands (xs ++ ys) ≡ commands xs ++ commands ys
  commands-append xs ys = map-append (λ (e : Entry C). e.cmd) xs ys

  -- one entry more is one command more
  pub commands_more : (xs : List (Entry C)) (by : ℕ) (c : C) → commands (xs ++ entry by c ∷ []) ≡ commands xs ++ c ∷ []
  commands_more xs by c = commands-append xs (entry by c ∷ [])

module _ {O C : Type 0} where
  -- who has the turn had seen, before it and before each turn ahead of it, what begins the history, which no look was ahead of
  pub grown_held : (v : View O C) (log : List (Entry C)) (n : ℕ) → HasGrown v.turns v → Extends v log → HasGrown (v.turns + 1) (holder (after_meeting v n) log)
  grown_held v log n grown found = (
    length-append v.earlier (v.seen ∷ []) ∙ ap (λ k. k + 1) grown.0,
    All-append (λ (before : List (Entry C)). IsPrefix before log) v.earlier (v.seen ∷ []) (all_begin v.earlier v.seen log found.0 grown.1) (all_one (λ (before : List (Entry C)). IsPrefix before log) v.seen found.0),
    found.1,
  )

  -- what is so of a pass whatever words it has met is so after a try in vain
  pub still_so : (P : View O C → Type 0) (v w : View O C) (word : ℕ) → ((words : List ℕ) → P (record v { met = words })) → IsBusy v word w → P w
  still_so P v w word all busy =
      ⊎_elim
      (λ (b : (word % 2 ≡ 1) × (w ≡ after_meeting v word)). subst P (sym b.1) (all (v.met ++ word ∷ [])))
      (λ (b : (first : ℕ) × (first ≢ word) × (w ≡ after_meeting (after_meeting v first) word)). subst P (sym b.2) (all ((v.met ++ b.0 ∷ []) ++ word ∷ [])))
      busy

module _ {K O C : Type 0} (origin : K → O) (stands : List C → K → Type 0) where
  -- a pass after a look, which showed no less than it knew
  pub rest_looked : (v : View O C) (n : ℕ) → IsAtRest origin stands v → length v.known ≤ n → IsAtRest origin stands (after_look v n)
  rest_looked v n r knows = (r.0, r.1, r.2, r.3, r.4, r.5, r.6, r.7, r.8, AllZip-push (λ (k m : ℕ). k ≤ m) v.knew v.looks (length v.known) n r.9 knows)

  -- a pass is at rest again after a turn without an entry, at which the value stood for the history
  pub rest_turned : (v : View O C) (log : List (Entry C)) (n : ℕ) → IsAtRest origin stands v → Extends v log → (k : K) × (origin k ≡ v.origin) × stands (commands log) k
      → IsAtRest origin stands (after_turn (holder (after_meeting v n) log))
  rest_turned v log n r found stood = (r.0, refl, found.2, r.3, r.4, prefix_self log, r.6, grown_held v log n r.7 found, λ some. stood, r.9)

module _ {O C U X M B : Type 0} (answers : O → List C → C → U → Type 0) (pulls : O → List C → X → List M → X → Type 0) where
  -- a turn that made its entry
  pub entered : (v : View O C) (x : X) (c : C) (t : TurnOf C U M B) (w : View O C) (y : X) → Written answers pulls v x c t w y
      → ((out : U) × (msgs : Vec M Global) × (t ≡ Done out msgs)) ⊎ ((out : U) × (t ≡ Late out)) → w ≡ after_entry v c
  entered v x c t w y told (inl is) = (subst (λ (u : TurnOf C U M B). Written answers pulls v x c u w y) is.2 told).0
  entered v x c t w y told (inr is) = (subst (λ (u : TurnOf C U M B). Written answers pulls v x c u w y) is.1 told).0
