-- Who signs what a pass has said, as it says more.
use Rattle.std.proofs.Common.{◌≡◌, ◌<◌, ℕ, zero, suc, ◌+◌, List, [], ◌∷◌, ◌++◌, length, Bool, true, false, cond, Option, Some, None, refl, sym, ap, subst, ◌∙◌, arith, length-append, eq-eqb}
use Rattle.std.specs.Prelude.{is_some}
use Rattle.std.proofs.lemmas.List.{map-append}
use mathlib.Core.List.{IsPrefix}
use Rattle.ps_histlock.specs.declared.view.Entry.{Entry}
use Rattle.ps_histlock.specs.Histories.{commands, entry, says, signed}
use Rattle.ps_histlock.specs.Locks.{SignsOn, HasSigned}
use Rattle.ps_histlock.specs.Signs.{SignsAs, Speaks, IsOf}
use Rattle.ps_histlock.proofs.HomeLemmas.{more_signed, one_signed, unsigned}
use Rattle.ps_histlock.proofs.Lists.{says_some, signed-append, signed_prefix, prefix_length}

module _ {C : Type 0} (signer : C → Option ℕ) where
  -- who signs by one name alone may sign by it again
  pub signs_on : (c : ℕ) (said : List (Entry C)) (x : C) → IsOf signer c x → SignsAs signer c said → SignsOn signer said x
  signs_on c said x of alone = λ e d is some_left. alone d some_left ∙ sym (of e is)

  -- nothing is signed where nothing is said
  pub signs_nothing : (c : ℕ) → SignsAs signer c []
  signs_nothing c = λ d none_left. absurd (omega arith)

  one_of : (c d : ℕ) (x : C) → IsOf signer c x → (b : Bool) → says d (signer x) ≡ b → 0 < length (cond b (x ∷ []) []) → d ≡ c
  one_of c d x of true is some_left = of d (says_some d (signer x) is)
  one_of c d x of false is some_left = absurd (omega arith)

  more_of : (c d : ℕ) (said : List C) (x : C) → IsOf signer c x → (0 < length (signed signer d said) → d ≡ c) → (n : ℕ) → length (signed signer d said) ≡ n → 0 < n + length (signed signer d (x ∷ [])) → d ≡ c
  more_of c d said x of alone zero none_left some_left = one_of c d x of (says d (signer x)) refl (omega arith)
  more_of c d said x of alone (suc n) some_said some_left = alone (omega arith)

  -- one entry more
  pub signs_more : (c n : ℕ) (said : List (Entry C)) (x : C) → IsOf signer c x → SignsAs signer c said → SignsAs signer c (said ++ entry n x ∷ [])
  signs_more c n said x of alone = λ d some_left.
      let parts = ap (λ (l : List C). length (signed signer d l)) (map-append (λ (e : Entry C). e.cmd) said (entry n x ∷ [])) ∙ ap length (signed-append signer d (commands said) (x ∷ [])) ∙ length-append (signed signer d (commands said)) (signed signer d (x ∷ [])) in
      more_of c d (commands said) x of (alone d) (length (signed signer d (commands said))) refl (omega arith)

  -- who has said something first that is signed so speaks for it
  pub speaks_first : (c : ℕ) (e : Entry C) (more : List (Entry C)) → signer e.cmd ≡ Some c → Speaks signer c (e ∷ more)
  speaks_first c e more is = subst (λ (b : Bool). 0 < length (cond b (e.cmd ∷ signed signer c (commands more)) (signed signer c (commands more)))) (sym (ap (says c) is ∙ eq-eqb c c refl)) (omega arith)

  -- who has said something goes on to
  pub speaks_on : (c : ℕ) (said more : List (Entry C)) → IsPrefix said more → Speaks signer c said → Speaks signer c more
  speaks_on c said more p some_left = let le = prefix_length _ _ (signed_prefix signer c said more p) in omega arith

  with_entry : (d by : ℕ) (said : List (Entry C)) (x : C) → signed signer d (commands (said ++ entry by x ∷ [])) ≡ signed signer d (commands said ++ x ∷ [])
  with_entry d by said x = ap (λ (l : List C). signed signer d l) (map-append (λ (e : Entry C). e.cmd) said (entry by x ∷ []))

  -- who has signed something has, after one entry more
  pub signed_still : (by : ℕ) (said : List (Entry C)) (x : C) → HasSigned signer true said → HasSigned signer true (said ++ entry by x ∷ [])
  signed_still by said x has = (has.0, subst (λ (l : List C). 0 < length l) (sym (with_entry has.0 by said x)) (more_signed signer has.0 (commands said) (x ∷ []) has.1))

  -- who has signed nothing has, if the entry is signed
  pub signed_now : (by : ℕ) (said : List (Entry C)) (x : C) (o : Option ℕ) → signer x ≡ o → HasSigned signer false said → HasSigned signer (is_some o) (said ++ entry by x ∷ [])
  signed_now by said x (Some d) is has = (d, subst (λ (l : List C). 0 < length l) (sym (with_entry d by said x)) (one_signed signer d (commands said) x (ap (says d) is ∙ eq-eqb d d refl)))
  signed_now by said x None is has = λ d. with_entry d by said x ∙ unsigned signer d (commands said) x is ∙ has d

  -- nobody's name is taken by one who may go on
  pub may_go_on : (said log : List (Entry C)) (x : C) → HasSigned signer true said → SignsOn signer said x → (c : ℕ) → signer x ≡ Some c → 0 < length (signed signer c (commands said))
  may_go_on said log x has on c is = subst (λ (d : ℕ). 0 < length (signed signer d (commands said))) (on c has.0 is has.1) has.1
