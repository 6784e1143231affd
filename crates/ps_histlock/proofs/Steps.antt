-- Each step keeps the rule.
use Rattle.std.proofs.Common.{◌≡◌, ◌≢◌, ℕ, zero, suc, ◌+◌, ◌-◌, ◌*◌, ◌/◌, ◌%◌, ◌^◌, ◌<◌, ◌≤◌, List, [], ◌∷◌, ◌++◌, length, get_or, set, refl, ap, sym, ◌∙◌, inl, inr, subst, arith, append-nil, length-append, length-set, get_or-set_same, Bool, true, false, cond, true≢false, eqb, eq-eqb, ne_eqb, ⊎_elim, Option, Some}
use Rattle.std.proofs.lemmas.List.Elements.{All-append}
use Rattle.std.proofs.lemmas.List.{map-append, length-map}
use Rattle.std.proofs.lemmas.Bool.{false≢true}
use mathlib.Core.Option.{some, none, some-injective, some-ne-none}
use mathlib.Core.List.{IsPrefix}
use mathlib.Core.Logic.{dite}
use native.Mathlib.Decide.{ℕ_discrete}
use lib.ListN.{get_elem?}
use prog.Atomic.{either}
use Rattle.atomic_table.specs.Table.{State, step, keeps, takes, gives, stepped, opening, Step, Allows, Enters, Splits, Joins}
use Rattle.atomic_table.proofs.Lists.{at_set, at_longer, set_again, set_here, set_else}
use Rattle.ps_histlock.specs.declared.view.Entry.{Entry}
use Rattle.ps_histlock.specs.declared.view.View.{View}
use Rattle.ps_histlock.specs.Histories.{entries_of, entry, commands, longer, says, signed}
use Rattle.ps_histlock.specs.Views.{newcomer, offspring, with_number, after_look, after_meeting, holder, after_entry, after_turn, informed, hearing, comparing, compared, counted, knowing, heir_of, silent, letter_of, spent, HasGrown, HasLooked, IsStoodFor, IsAtRest}
use Rattle.ps_histlock.specs.Locks.{Fits, Written, Nobody, AtHome, IsOut, IsKept, Signs, MaySign, Mine, Arrives, Names, Looks, Learns, Counts, Differs, Meets, Seizes, Appends, Releases}
use Rattle.ps_histlock.proofs.Lists.{prefix_self, prefix_more, prefix_trans, empty, says_some, signed-append, signed_other, signed_prefix, own_signs, longer_begins, own_between, prefix_length, all_one, all_more, at_lt, at_end, entries_of-append, own_more, other_entry, none_before}

module _ {O C : Type 0} where
  fits_set : (o : O) (log : List (Entry C)) (views : List (View O C)) (id : ℕ) (w : View O C)
      → ((j : ℕ) (u : View O C) → j ≢ id → get_elem? views j ≡ some u → Fits o log j u) → Fits o log id w
      → (j : ℕ) (u : View O C) → get_elem? (set views id w) j ≡ some u → Fits o log j u
  fits_set o log views id w others mine j u e =
      ⊎_elim
      (λ (x : (j ≡ id) × (w ≡ u)). subst (λ (y : ℕ × View O C). Fits o log y.0 y.1) (λ i. (sym x.0 i, x.1 i)) mine)
      (λ (x : (j ≢ id) × (get_elem? views j ≡ some u)). others j u x.0 x.1)
      (at_set views id j w u e)

  nobody_set : (views : List (View O C)) (id : ℕ) (w : View O C)
      → ((j : ℕ) (u : View O C) → j ≢ id → get_elem? views j ≡ some u → u.holds ≡ true → ⊥) → (w.holds ≡ true → ⊥)
      → Nobody (set views id w)
  nobody_set views id w others mine j u e h =
      ⊎_elim
      (λ (x : (j ≡ id) × (w ≡ u)). mine (ap (λ (v : View O C). v.holds) x.1 ∙ h))
      (λ (x : (j ≢ id) × (get_elem? views j ≡ some u)). others j u x.0 x.1 h)
      (at_set views id j w u e)

  only_set : (views : List (View O C)) (id one : ℕ) (w : View O C)
      → ((j : ℕ) (u : View O C) → j ≢ id → get_elem? views j ≡ some u → u.holds ≡ true → j ≡ one) → (w.holds ≡ true → id ≡ one)
      → (j : ℕ) (u : View O C) → get_elem? (set views id w) j ≡ some u → u.holds ≡ true → j ≡ one
  only_set views id one w others mine j u e h =
      ⊎_elim
      (λ (x : (j ≡ id) × (w ≡ u)). x.0 ∙ mine (ap (λ (v : View O C). v.holds) x.1 ∙ h))
      (λ (x : (j ≢ id) × (get_elem? views j ≡ some u)). others j u x.0 x.1 h)
      (at_set views id j w u e)

module _ {K O C : Type 0} (origin : K → O) (stands : List C → K → Type 0) where
  -- a pass between two calls that is told of more
  pub rest_knowing : (v : View O C) (k : List (Entry C)) → IsAtRest origin stands v → IsPrefix v.known k → IsAtRest origin stands (knowing v k)
  rest_knowing v k r p = (r.0, r.1, r.2, r.3, r.4, prefix_trans v.seen v.known k r.5 p, r.6, r.7, r.8, r.9)

  -- a pass that has released the lock without an entry
  pub rest_turned : (v : View O C) → v.named ≡ true → v.mine ≡ entries_of v.number v.seen → v.letter ≡ false → v.heard ≡ [] → v.known ≡ v.seen → v.speaks ≡ true → HasGrown (v.turns + 1) v → IsStoodFor origin stands v → HasLooked v
      → IsAtRest origin stands (after_turn v)
  rest_turned v named own letter heard all speaks grown stood looked = (named, refl, own, letter, heard, ([], append-nil v.seen ∙ sym all), speaks, grown, λ some. stood, looked)

-- who has the names of a pass, once it has an heir
abbrev passed_on : ℕ → ℕ → (ℕ → ℕ) → ℕ → ℕ
passed_on id n maker c = cond (eqb (maker c) id) n (maker c)

module _ {C : Type 0} (signer : C → Option ℕ) where
  -- the pass of each name, once a pass has signed this command
  abbrev new_maker : C → ℕ → (ℕ → ℕ) → ℕ → ℕ
  new_maker x id maker c = cond (says c (signer x)) id (maker c)

  grown : (c : ℕ) (zs : List (Entry C)) (by : ℕ) (x : C) → signed signer c (commands (zs ++ entry by x ∷ [])) ≡ signed signer c (commands zs) ++ signed signer c (x ∷ [])
  grown c zs by x = ap (λ l. signed signer c l) (map-append (λ (e : Entry C). e.cmd) zs (entry by x ∷ [])) ∙ signed-append signer c (commands zs) (x ∷ [])

  longer_by : (c : ℕ) (xs ys : List (Entry C)) (by : ℕ) (x : C) → signed signer c (commands xs) ≡ signed signer c (commands ys) → signed signer c (commands (xs ++ entry by x ∷ [])) ≡ signed signer c (commands (ys ++ entry by x ∷ []))
  longer_by c xs ys by x same = grown c xs by x ∙ ap (λ l. l ++ signed signer c (x ∷ [])) same ∙ sym (grown c ys by x)

  not_longer : (c : ℕ) (xs : List (Entry C)) (by : ℕ) (x : C) → says c (signer x) ≡ false → signed signer c (commands (xs ++ entry by x ∷ [])) ≡ signed signer c (commands xs)
  not_longer c xs by x un =
      ap (λ l. signed signer c l) (map-append (λ (e : Entry C). e.cmd) xs (entry by x ∷ [])) ∙ signed-append signer c (commands xs) (x ∷ [])
      ∙ ap (λ l. signed signer c (commands xs) ++ l) (signed_other signer c x un) ∙ append-nil (signed signer c (commands xs))

module _ {O C : Type 0} where
  written_set : (views : List (View O C)) (id : ℕ) (v w u : View O C) → get_elem? views id ≡ some v → v.mark ≤ w.mark → Written views u → Written (set views id w) u
  written_set views id v w u at le there letter some_stamp =
      let t = there letter some_stamp in
      dite (ℕ_discrete u.from id)
      (λ same.
      let is : t.0 ≡ v = some-injective _ _ (sym t.1 ∙ ap (λ n. get_elem? views n) same ∙ at) in
      let marks : t.0.mark ≡ v.mark = ap (λ (x : View O C). x.mark) is in
      let le2 = t.2 in
      (w, ap (λ n. get_elem? (set views id w) n) same ∙ set_here views id w (at_lt views id v at), omega arith))
      (λ other. (t.0, set_else views id u.from w other ∙ t.1, t.2))

  letters_set : (views : List (View O C)) (id : ℕ) (v w : View O C) → get_elem? views id ≡ some v → v.mark ≤ w.mark → ((j : ℕ) (u : View O C) → get_elem? views j ≡ some u → Written views u) → Written views w
      → (j : ℕ) (u : View O C) → get_elem? (set views id w) j ≡ some u → Written (set views id w) u
  letters_set views id v w at le all mine j u e =
      ⊎_elim
      (λ (x : (j ≡ id) × (w ≡ u)). subst (λ (y : View O C). Written (set views id w) y) x.1 (written_set views id v w w at le mine))
      (λ (x : (j ≢ id) × (get_elem? views j ≡ some u)). written_set views id v w u at le (all j u x.1))
      (at_set views id j w u e)

  written_more : (views : List (View O C)) (w u : View O C) → Written views u → Written (views ++ w ∷ []) u
  written_more views w u there letter some_stamp = let t = there letter some_stamp in (t.0, at_longer views (w ∷ []) u.from t.0 t.1, t.2)

  letters_more : (views : List (View O C)) (w : View O C) → ((j : ℕ) (u : View O C) → get_elem? views j ≡ some u → Written views u) → Written views w
      → (j : ℕ) (u : View O C) → get_elem? (views ++ w ∷ []) j ≡ some u → Written (views ++ w ∷ []) u
  letters_more views w all mine j u e =
      ⊎_elim
      (λ t. written_more views w u (all j u t))
      (λ (t : (j ≡ length views) × (w ≡ u)). subst (λ (y : View O C). Written (views ++ w ∷ []) y) t.1 (written_more views w w mine))
      (at_end views w u j e)

module _ {O C : Type 0} (signer : C → Option ℕ) where
  signs_set : (maker : ℕ → ℕ) (log : List (Entry C)) (views : List (View O C)) (id : ℕ) (w : View O C)
      → ((j : ℕ) (u : View O C) → j ≢ id → get_elem? views j ≡ some u → Signs signer maker log j u) → Signs signer maker log id w
      → (j : ℕ) (u : View O C) → get_elem? (set views id w) j ≡ some u → Signs signer maker log j u
  signs_set maker log views id w others mine j u e =
      ⊎_elim
      (λ (x : (j ≡ id) × (w ≡ u)). subst (λ (y : ℕ × View O C). Signs signer maker log y.0 y.1) (λ i. (sym x.0 i, x.1 i)) mine)
      (λ (x : (j ≢ id) × (get_elem? views j ≡ some u)). others j u x.0 x.1)
      (at_set views id j w u e)

  -- the others' names, after an entry of the pass id
  others_sign : (maker : ℕ → ℕ) (log : List (Entry C)) (id : ℕ) (v : View O C) (x : C) → v.seen ≡ log → Signs signer maker log id v → MaySign signer v v.seen x
      → (j : ℕ) (u : View O C) → j ≢ id → Signs signer maker log j u → Signs signer (new_maker signer x id maker) (log ++ entry v.number x ∷ []) j u
  others_sign maker log id v x seen mine may j u apart theirs = (theirs.0, λ speaks c own. by_case c own (theirs.1 speaks c own) (says c (signer x)) refl)
    where
      by_case : (c : ℕ) → 0 < length (signed signer c (commands u.said)) → (signed signer c (commands log) ≡ signed signer c (commands u.said)) × (maker c ≡ j)
          → (b : Bool) → says c (signer x) ≡ b → (signed signer c (commands (log ++ entry v.number x ∷ [])) ≡ signed signer c (commands u.said)) × (new_maker signer x id maker c ≡ j)
      by_case c own there true is = absurd
          (⊎_elim
          (λ (has : 0 < length (signed signer c (commands v.said))). apart (sym there.1 ∙ (mine.1 may.0 c has).1))
          (λ (none_yet : signed signer c (commands v.seen) ≡ []).
          let nothing : length (signed signer c (commands u.said)) ≡ 0 = ap length (sym there.0 ∙ ap (λ (l : List (Entry C)). signed signer c (commands l)) (sym seen) ∙ none_yet) in
          (omega arith))
          (may.1 c (says_some c (signer x) is)))
      by_case c own there false is = (not_longer signer c log v.number x is ∙ there.0, ap (λ (b : Bool). cond b id (maker c)) is ∙ there.1)

  -- its own names after that
  own_sign : (maker : ℕ → ℕ) (log : List (Entry C)) (id : ℕ) (v : View O C) (x : C) → v.seen ≡ log → Signs signer maker log id v → MaySign signer v v.seen x
      → Signs signer (new_maker signer x id maker) (log ++ entry v.number x ∷ []) id (after_entry v x)
  own_sign maker log id v x seen mine may = (λ c. still_few c, λ speaks c own. by_case c own (says c (signer x)) refl)
    where
      still_few : (c : ℕ) → length (signed signer c (commands (v.said ++ entry v.number x ∷ []))) ≤ length (signed signer c (commands (v.seen ++ entry v.number x ∷ [])))
      still_few c =
          let few = mine.0 c in
          let p : length (signed signer c (commands (v.said ++ entry v.number x ∷ []))) ≡ length (signed signer c (commands v.said)) + length (signed signer c (x ∷ [])) = ap length (grown signer c v.said v.number x) ∙ length-append (signed signer c (commands v.said)) (signed signer c (x ∷ [])) in
          let q : length (signed signer c (commands (v.seen ++ entry v.number x ∷ []))) ≡ length (signed signer c (commands v.seen)) + length (signed signer c (x ∷ [])) = ap length (grown signer c v.seen v.number x) ∙ length-append (signed signer c (commands v.seen)) (signed signer c (x ∷ [])) in
          omega arith

      by_case : (c : ℕ) → 0 < length (signed signer c (commands (v.said ++ entry v.number x ∷ [])))
          → (b : Bool) → says c (signer x) ≡ b → (signed signer c (commands (log ++ entry v.number x ∷ [])) ≡ signed signer c (commands (v.said ++ entry v.number x ∷ []))) × (new_maker signer x id maker c ≡ id)
      by_case c own true so = (
        longer_by signer c log v.said v.number x
            (⊎_elim
            (λ (has : 0 < length (signed signer c (commands v.said))). (mine.1 may.0 c has).0)
            (λ (none_yet : signed signer c (commands v.seen) ≡ []).
            let few = mine.0 c in
            let nothing : length (signed signer c (commands v.seen)) ≡ 0 = ap length none_yet in
            ap (λ (l : List (Entry C)). signed signer c (commands l)) (sym seen) ∙ none_yet ∙ sym (empty (signed signer c (commands v.said)) (omega arith)))
            (may.1 c (says_some c (signer x) so))),
        ap (λ (b : Bool). cond b id (maker c)) so,
      )
      by_case c own false un =
          let same = not_longer signer c v.said v.number x un in
          let count : length (signed signer c (commands (v.said ++ entry v.number x ∷ []))) ≡ length (signed signer c (commands v.said)) = ap length same in
          let there = mine.1 may.0 c (omega arith) in
          (not_longer signer c log v.number x un ∙ there.0 ∙ sym same, ap (λ (b : Bool). cond b id (maker c)) un ∙ there.1)

module _ {K O C : Type 0} (origin : K → O) (stands : List C → K → Type 0) (signer : C → Option ℕ) where
  abbrev St : Type 0
  St = State (Option K) (View O C)

  -- one view changes, and nothing else
  renewed : (o : O) (s : St) (r : IsKept origin stands signer o s) (id : ℕ) (c : List (ℕ × Option K)) (v w : View O C)
      → get_elem? s.views id ≡ some v → Fits o r.log id w → (w.holds ≡ true → v.holds ≡ true) → Signs signer r.maker r.log id w → v.mark ≤ w.mark → Written s.views w
      → IsKept origin stands signer o (stepped s 0 (get_or s.words 0 0) id c w keeps)
  renewed o s r id c v w at fit holds sign mark note =
      let long = r.words in
      let same : get_or (set s.words 0 (get_or s.words 0 0)) 0 0 ≡ get_or s.words 0 0 = get_or-set_same s.words 0 (get_or s.words 0 0) 0 (omega arith) in
      record {
        log = r.log;
        short = r.short;
        words = length-set s.words 0 (get_or s.words 0 0) ∙ r.words;
        seat_state = ⊎_elim
            (λ (x : AtHome origin stands signer o r.log s). inl (same ∙ x.0, x.1, nobody_set s.views id w (λ j u _ e h. x.2 j u e h) (λ h. x.2 id v at (holds h))))
            (λ (x : IsOut origin stands signer r.log s). inr (same ∙ x.0, (x.1.0, only_set s.views id x.1.0 w (λ j u _ e h. x.1.1 j u e h) (λ h. x.1.1 id v at (holds h)))))
            r.seat_state;
        fits = fits_set o r.log s.views id w (λ j u _ e. r.fits j u e) fit;
        letters = letters_set s.views id v w at mark r.letters note;
        maker = r.maker;
        signs = signs_set signer r.maker r.log s.views id w (λ j u _ e. r.signs j u e) sign;
        unmade = λ by le. r.unmade by (subst (λ (n : ℕ). n ≤ by) (length-set s.views id w) le);
      }

  -- the same with no step
  changed : (o : O) (s : St) (r : IsKept origin stands signer o s) (id : ℕ) (v w : View O C)
      → get_elem? s.views id ≡ some v → Fits o r.log id w → (w.holds ≡ true → v.holds ≡ true) → Signs signer r.maker r.log id w → v.mark ≤ w.mark → Written s.views w
      → IsKept origin stands signer o (record { words = s.words; homes = s.homes; views = set s.views id w })
  changed o s r id v w at fit holds sign mark note =
      record {
        log = r.log;
        short = r.short;
        words = r.words;
        seat_state = ⊎_elim
            (λ (x : AtHome origin stands signer o r.log s). inl (x.0, x.1, nobody_set s.views id w (λ j u _ e h. x.2 j u e h) (λ h. x.2 id v at (holds h))))
            (λ (x : IsOut origin stands signer r.log s). inr (x.0, (x.1.0, only_set s.views id x.1.0 w (λ j u _ e h. x.1.1 j u e h) (λ h. x.1.1 id v at (holds h)))))
            r.seat_state;
        fits = fits_set o r.log s.views id w (λ j u _ e. r.fits j u e) fit;
        letters = letters_set s.views id v w at mark r.letters note;
        maker = r.maker;
        signs = signs_set signer r.maker r.log s.views id w (λ j u _ e. r.signs j u e) sign;
        unmade = λ by le. r.unmade by (subst (λ (n : ℕ). n ≤ by) (length-set s.views id w) le);
      }

  -- one view more, and nothing else
  joined_as : (o : O) (s : St) (r : IsKept origin stands signer o s) (w : View O C) → Fits o r.log (length s.views) w → w.holds ≡ false → Written s.views w → (maker : ℕ → ℕ) → ((j : ℕ) (u : View O C) → get_elem? (s.views ++ w ∷ []) j ≡ some u → Signs signer maker r.log j u)
      → IsKept origin stands signer o (record { words = s.words; homes = s.homes; views = s.views ++ w ∷ [] })
  joined_as o s r w fit idle note maker signs =
      let idle' : w.holds ≡ true → ⊥ = λ h. false≢true (sym idle ∙ h) in
      record {
        log = r.log;
        short = r.short;
        words = r.words;
        seat_state = ⊎_elim
            (λ (x : AtHome origin stands signer o r.log s). inl (x.0, x.1, λ j u e h. ⊎_elim (λ t. x.2 j u t h) (λ (t : (j ≡ length s.views) × (w ≡ u)). idle' (ap (λ (v : View O C). v.holds) t.1 ∙ h)) (at_end s.views w u j e)))
            (λ (x : IsOut origin stands signer r.log s). inr (x.0, (x.1.0, λ j u e h. ⊎_elim (λ t. x.1.1 j u t h) (λ (t : (j ≡ length s.views) × (w ≡ u)). absurd (idle' (ap (λ (v : View O C). v.holds) t.1 ∙ h))) (at_end s.views w u j e))))
            r.seat_state;
        fits = λ j u e. ⊎_elim (λ t. r.fits j u t) (λ (t : (j ≡ length s.views) × (w ≡ u)). subst (λ (y : ℕ × View O C). Fits o r.log y.0 y.1) (λ i. (sym t.0 i, t.1 i)) fit) (at_end s.views w u j e);
        letters = letters_more s.views w r.letters note;
        maker = maker;
        signs = signs;
        unmade = λ by le. let l = length-append s.views (w ∷ []) in r.unmade by (omega arith);
      }

  joined : (o : O) (s : St) (r : IsKept origin stands signer o s) (w : View O C) → Fits o r.log (length s.views) w → w.holds ≡ false → Written s.views w → Signs signer r.maker r.log (length s.views) w
      → IsKept origin stands signer o (record { words = s.words; homes = s.homes; views = s.views ++ w ∷ [] })
  joined o s r w fit idle note sign =
      joined_as o s r w fit idle note r.maker
      (λ j u e. ⊎_elim (λ t. r.signs j u t) (λ (t : (j ≡ length s.views) × (w ≡ u)). subst (λ (y : ℕ × View O C). Signs signer r.maker r.log y.0 y.1) (λ i. (sym t.0 i, t.1 i)) sign) (at_end s.views w u j e))

  -- the view of a new pass fits
  new_fits : (o : O) (log : List (Entry C)) (n : ℕ) → entries_of n log ≡ [] → Fits o log n (newcomer o n)
  new_fits o log n e = record { origin_is = λ _. refl; begins = (log, refl); number_is = λ _. refl; own = sym e; own_seen = refl; looked = λ k d h. absurd (omega arith); whole = λ h. absurd (false≢true h); seen_known = ([], refl); known_begins = (log, refl); heard_begins = (log, refl); apart = λ _ h. absurd (omega arith) }

  pub opens : (k : K) (slots : List (Option K)) → slots ≡ Some k ∷ [] → stands [] k → IsKept origin stands signer (origin k) (opening (0 ∷ []) slots (newcomer (origin k) 0))
  opens k slots is e = subst (λ (xs : List (Option K)). IsKept origin stands signer (origin k) (opening (0 ∷ []) xs (newcomer (origin k) 0))) (sym is)
      record {
        log = [];
        short = omega arith;
        words = refl;
        seat_state = inl (refl, (k, refl, (refl, e)), λ by v e h. nobody by v e h);
        fits = λ by v e. one by v e;
        letters = λ by v e. no_letter by v e;
        maker = λ _. 0;
        signs = λ by v e. none_signed by v e;
        unmade = λ by le. refl;
      }
    where
      nobody : (by : ℕ) (v : View O C) → get_elem? (newcomer (origin k) 0 ∷ []) by ≡ some v → v.holds ≡ true → ⊥
      nobody zero v e h = false≢true (ap (λ (u : View O C). u.holds) (some-injective _ _ e) ∙ h)
      nobody (suc by) v e h = some-ne-none v (sym e)

      one : (by : ℕ) (v : View O C) → get_elem? (newcomer (origin k) 0 ∷ []) by ≡ some v → Fits (origin k) [] by v
      one zero v e = subst (Fits (origin k) [] 0) (some-injective _ _ e) (new_fits (origin k) [] 0 refl)
      one (suc by) v e = absurd (some-ne-none v (sym e))

      no_letter : (by : ℕ) (v : View O C) → get_elem? (newcomer (origin k) 0 ∷ []) by ≡ some v → Written (newcomer (origin k) 0 ∷ []) v
      no_letter zero v e = subst (Written (newcomer (origin k) 0 ∷ [])) (some-injective _ _ e) (λ h. absurd (false≢true h))
      no_letter (suc by) v e = absurd (some-ne-none v (sym e))

      none_signed : (by : ℕ) (v : View O C) → get_elem? (newcomer (origin k) 0 ∷ []) by ≡ some v → Signs signer (λ _. 0) [] by v
      none_signed zero v e = subst (Signs signer (λ _. 0) [] 0) (some-injective _ _ e) (λ c. omega arith, λ _ c own. absurd (omega arith))
      none_signed (suc by) v e = absurd (some-ne-none v (sym e))

  pub arrives : (o : O) (slots : ℕ) → Enters (IsKept origin stands signer o) slots 0 (λ n w. Arrives origin stands signer (step slots 0 0 0 none) (newcomer o 0, []) n (w, []))
  arrives o slots s r wide small =
      let n = length s.views in
      (newcomer o n, joined o s r (newcomer o n) (new_fits o r.log n (r.unmade n (omega arith))) refl (λ h. absurd (false≢true h)) (λ c. omega arith, λ _ c own. absurd (omega arith)), (n, refl))

  -- the number of entries that a word shows
  shown : (o : O) (s : St) (r : IsKept origin stands signer o s) → get_or s.words 0 0 / 2 ≡ length r.log
  shown o s r = ⊎_elim (λ (x : AtHome origin stands signer o r.log s). let e = x.0 in omega arith) (λ (x : IsOut origin stands signer r.log s). let e = x.0 in omega arith) r.seat_state

  pub looks : (o : O) (slots id : ℕ) (me : Mine origin stands signer) → Allows (IsKept origin stands signer o) slots id me 0 (λ n. n) (Looks origin stands signer (step slots 0 0 0 none) me)
  looks o slots id me s r wide at small =
      let v = me.0 in
      let f = r.fits id v at in
      let n : ℕ = get_or s.words 0 0 / 2 in
      let is : n ≡ length r.log = shown o s r in
      let le : n ≤ length r.log = omega arith in
      let w : View O C = after_look v n in (
        w,
        keeps,
        tt,
        renewed o s r id me.1 v w at
            (record { origin_is = f.origin_is; begins = f.begins; number_is = f.number_is; own = f.own; own_seen = f.own_seen; looked = All-append (λ k. k ≤ length r.log) v.looks (n ∷ []) f.looked (all_one (λ k. k ≤ length r.log) n le); whole = f.whole; seen_known = f.seen_known; known_begins = f.known_begins; heard_begins = f.heard_begins; apart = f.apart })
            (λ h. h) (r.signs id v at) (omega arith) (r.letters id v at),
        (refl, (let p = prefix_length v.known r.log f.known_begins in omega arith), all_more (length r.log) n v.looks (omega arith) f.looked),
      )

  pub meets : (o : O) (slots id : ℕ) (me : Mine origin stands signer) → Allows (IsKept origin stands signer o) slots id me 0 (λ n. n) (Meets origin stands signer (step slots 0 0 0 none) me)
  meets o slots id me s r wide at small =
      let v = me.0 in
      let f = r.fits id v at in
      let w : View O C = after_meeting v (get_or s.words 0 0) in (
        w,
        keeps,
        tt,
        renewed o s r id me.1 v w at (record { origin_is = f.origin_is; begins = f.begins; number_is = f.number_is; own = f.own; own_seen = f.own_seen; looked = f.looked; whole = f.whole; seen_known = f.seen_known; known_begins = f.known_begins; heard_begins = f.heard_begins; apart = f.apart }) (λ h. h) (r.signs id v at) (omega arith) (r.letters id v at),
        refl,
      )

  pub names : (o : O) (slots id : ℕ) (me : Mine origin stands signer) → Allows (IsKept origin stands signer o) slots id me 0 (λ n. n) (Names origin stands signer (step slots 0 0 0 none) me)
  names o slots id me s r wide at small =
      let v = me.0 in
      let f = r.fits id v at in
      let w : View O C = with_number v id in (
        w,
        keeps,
        tt,
        renewed o s r id me.1 v w at (record { origin_is = f.origin_is; begins = f.begins; number_is = λ _. refl; own = f.own; own_seen = f.own_seen; looked = f.looked; whole = f.whole; seen_known = f.seen_known; known_begins = f.known_begins; heard_begins = f.heard_begins; apart = f.apart }) (λ h. h) (r.signs id v at) (omega arith) (r.letters id v at),
        (id, refl, f.own_seen),
      )

  pub splits : (o : O) (id : ℕ) (v : View O C) → v.letter ≡ false → Splits (IsKept origin stands signer o) id v v (offspring v)
  splits o id v live s r at =
      let f = r.fits id v at in
      let n = length s.views in
      subst (λ (vs : List (View O C)). IsKept origin stands signer o (record { words = s.words; homes = s.homes; views = vs ++ offspring v ∷ [] })) (sym (set_again s.views id v at))
      (joined o s r (offspring v)
      (record { origin_is = λ _. f.origin_is live; begins = f.begins; number_is = λ h. absurd (false≢true h); own = sym (r.unmade n (omega arith)); own_seen = sym (none_before n v.seen r.log f.begins (r.unmade n (omega arith))); looked = λ k d h. absurd (omega arith); whole = λ h. absurd (false≢true h); seen_known = f.seen_known; known_begins = f.known_begins; heard_begins = (r.log, refl); apart = λ _ h. absurd (omega arith) })
      refl
      (λ h. absurd (false≢true h))
      (λ c. omega arith, λ _ c own. absurd (omega arith)))

  -- a pass gives its names to an heir
  pub inherits : (o : O) (id : ℕ) (v : View O C) → v.letter ≡ false → v.speaks ≡ true → Splits (IsKept origin stands signer o) id v (silent v) (heir_of v)
  unfolding changed
  inherits o id v live speaks s r at =
      let f = r.fits id v at in
      let n = length s.views in
      let here = at_lt s.views id v at in
      let count : length (set s.views id (silent v)) ≡ n = length-set s.views id (silent v) in
      let r2 = changed o s r id v (silent v) at
      (record { origin_is = f.origin_is; begins = f.begins; number_is = f.number_is; own = f.own; own_seen = f.own_seen; looked = f.looked; whole = f.whole; seen_known = f.seen_known; known_begins = f.known_begins; heard_begins = f.heard_begins; apart = f.apart })
      (λ h. h)
      ((r.signs id v at).0, λ h. absurd (false≢true h))
      (omega arith)
      (r.letters id v at) in
      joined_as o (record { words = s.words; homes = s.homes; views = set s.views id (silent v) }) r2 (heir_of v)
      (subst (λ (m : ℕ). Fits o r.log m (heir_of v)) (sym count) (record { origin_is = λ _. f.origin_is live; begins = f.begins; number_is = λ h. absurd (false≢true h); own = sym (r.unmade n (omega arith)); own_seen = sym (none_before n v.seen r.log f.begins (r.unmade n (omega arith))); looked = λ k d h. absurd (omega arith); whole = λ h. absurd (false≢true h); seen_known = f.seen_known; known_begins = f.known_begins; heard_begins = (r.log, refl); apart = λ _ h. absurd (omega arith) }))
      refl
      (λ h. absurd (false≢true h))
      (passed_on id n r.maker)
      (λ j u e.
      ⊎_elim
      (λ (t : get_elem? (set s.views id (silent v)) j ≡ some u).
      ⊎_elim
      (λ (x : (j ≡ id) × (silent v ≡ u)). subst (λ (y : View O C). Signs signer (passed_on id n r.maker) r.log j y) x.1 ((r.signs id v at).0, λ h. absurd (false≢true h)))
      (λ (x : (j ≢ id) × (get_elem? s.views j ≡ some u)).
      let g = r.signs j u x.1 in
      (g.0, λ loud c own. let w = g.1 loud c own in (w.0, ap (λ (b : Bool). cond b n (r.maker c)) (ne_eqb (r.maker c) id (λ same. x.0 (sym w.1 ∙ same))) ∙ w.1)))
      (at_set s.views id j (silent v) u t))
      (λ (t : (j ≡ length (set s.views id (silent v))) × (heir_of v ≡ u)).
      subst (λ (y : View O C). Signs signer (passed_on id n r.maker) r.log j y) t.1
      ((r.signs id v at).0, λ loud c own. let w = (r.signs id v at).1 speaks c own in (w.0, ap (λ (b : Bool). cond b n (r.maker c)) (eq-eqb (r.maker c) id w.1) ∙ sym count ∙ sym t.0)))
      (at_end (set s.views id (silent v)) (heir_of v) u j e))

  -- a pass writes a letter
  pub tells : (o : O) (id : ℕ) (v : View O C) → v.named ≡ true → Splits (IsKept origin stands signer o) id v v (letter_of v)
  tells o id v named s r at =
      let f = r.fits id v at in
      let n = length s.views in
      subst (λ (vs : List (View O C)). IsKept origin stands signer o (record { words = s.words; homes = s.homes; views = vs ++ letter_of v ∷ [] })) (sym (set_again s.views id v at))
      (joined o s r (letter_of v)
      (record { origin_is = λ h. absurd (true≢false h); begins = (r.log, refl); number_is = λ h. absurd (false≢true h); own = sym (r.unmade n (omega arith)); own_seen = refl; looked = λ k d h. absurd (omega arith); whole = λ h. absurd (false≢true h); seen_known = (v.known, refl); known_begins = f.known_begins; heard_begins = (r.log, refl); apart = λ h. absurd (true≢false h) })
      refl
      (λ _ h. (v, ap (λ n. get_elem? s.views n) (f.number_is named) ∙ at, (let le : v.mark ≤ v.mark = omega arith in le)))
      (λ c. omega arith, λ _ c own. absurd (omega arith)))

  -- a pass takes a letter in hand
  pub hears : (o : O) (id : ℕ) (v : View O C) (other : ℕ) (w : View O C) (nowhere : O) → w.mine ≡ [] → w.mark ≡ 0 → Joins (IsKept origin stands signer o) id v other w (hearing v w) (spent nowhere)
  unfolding changed
  hears o id v other w nowhere empty blank s r at apart at' =
      let f = r.fits id v at in
      let there : get_elem? s.views other ≡ some w = ⊎_elim
      (λ (x : (other ≡ id) × (hearing v w ≡ w)). absurd (apart x.0))
      (λ (x : (other ≢ id) × (get_elem? s.views other ≡ some w)). x.1)
      (at_set s.views id other (hearing v w) w at') in
      let g = r.fits other w there in
      let first = changed o s r id v (hearing v w) at
      (record { origin_is = f.origin_is; begins = f.begins; number_is = f.number_is; own = f.own; own_seen = f.own_seen; looked = f.looked; whole = f.whole; seen_known = f.seen_known; known_begins = f.known_begins; heard_begins = g.known_begins; apart = f.apart })
      (λ h. h) (r.signs id v at) (omega arith) (r.letters id v at) in
      changed o (record { words = s.words; homes = s.homes; views = set s.views id (hearing v w) }) first other w (spent nowhere) at'
      (record { origin_is = λ h. absurd (true≢false h); begins = (r.log, refl); number_is = λ h. absurd (false≢true h); own = sym empty ∙ g.own; own_seen = refl; looked = λ k d h. absurd (omega arith); whole = λ h. absurd (false≢true h); seen_known = ([], refl); known_begins = (r.log, refl); heard_begins = (r.log, refl); apart = λ _ h. absurd (omega arith) })
      (λ h. absurd (false≢true h))
      (λ c. omega arith, λ _ c own. absurd (omega arith))
      (omega arith)
      (λ _ h. absurd (omega arith))

  -- a pass takes another's letter in hand, which is told by that one's count
  pub hears_another : (o : O) (id : ℕ) (v : View O C) (other : ℕ) (w : View O C) (nowhere : O) → w.mine ≡ [] → w.mark ≡ 0 → w.letter ≡ true → v.letter ≡ false → v.mark < w.stamp → Joins (IsKept origin stands signer o) id v other w (comparing v w) (spent nowhere)
  unfolding changed
  hears_another o id v other w nowhere empty blank letter live more s r at apart at' =
      let f = r.fits id v at in
      let there : get_elem? s.views other ≡ some w = ⊎_elim
      (λ (x : (other ≡ id) × (comparing v w ≡ w)). absurd (apart x.0))
      (λ (x : (other ≢ id) × (get_elem? s.views other ≡ some w)). x.1)
      (at_set s.views id other (comparing v w) w at') in
      let g = r.fits other w there in
      let writer = r.letters other w there letter (omega arith) in
      let not_me : w.from ≢ id = λ same.
      let is : writer.0 ≡ v = some-injective _ _ (sym writer.1 ∙ ap (λ n. get_elem? s.views n) same ∙ at) in
      let marks : writer.0.mark ≡ v.mark = ap (λ (x : View O C). x.mark) is in
      let le = writer.2 in omega arith in
      let first = changed o s r id v (comparing v w) at
      (record { origin_is = f.origin_is; begins = f.begins; number_is = f.number_is; own = f.own; own_seen = f.own_seen; looked = f.looked; whole = f.whole; seen_known = f.seen_known; known_begins = f.known_begins; heard_begins = f.heard_begins; apart = λ _ _. not_me })
      (λ h. h)
      (r.signs id v at)
      (omega arith)
      (λ h. absurd (false≢true (sym live ∙ h))) in
      changed o (record { words = s.words; homes = s.homes; views = set s.views id (comparing v w) }) first other w (spent nowhere) at'
      (record { origin_is = λ h. absurd (true≢false h); begins = (r.log, refl); number_is = λ h. absurd (false≢true h); own = sym empty ∙ g.own; own_seen = refl; looked = λ k d h. absurd (omega arith); whole = λ h. absurd (false≢true h); seen_known = ([], refl); known_begins = (r.log, refl); heard_begins = (r.log, refl); apart = λ _ h. absurd (omega arith) })
      (λ h. absurd (false≢true h))
      (λ c. omega arith, λ _ c own. absurd (omega arith))
      (omega arith)
      (λ _ h. absurd (omega arith))

  pub counts : (o : O) (slots id : ℕ) (me : Mine origin stands signer) (n : ℕ) → Allows (IsKept origin stands signer o) slots id me 0 (λ n. n) (Counts origin stands signer n (step slots 0 0 0 none) me)
  counts o slots id me n s r wide at small =
      let v = me.0 in
      let f = r.fits id v at in
      let w : View O C = counted v n in (
        w,
        keeps,
        tt,
        renewed o s r id me.1 v w at (record { origin_is = f.origin_is; begins = f.begins; number_is = f.number_is; own = f.own; own_seen = f.own_seen; looked = f.looked; whole = f.whole; seen_known = f.seen_known; known_begins = f.known_begins; heard_begins = f.heard_begins; apart = f.apart }) (λ h. h) (r.signs id v at) (omega arith) (r.letters id v at),
        refl,
      )

  pub differs : (o : O) (slots id : ℕ) (me : Mine origin stands signer) → me.0.named ≡ true → me.0.letter ≡ false → Allows (IsKept origin stands signer o) slots id me 0 (λ n. n) (Differs origin stands signer (step slots 0 0 0 none) me)
  differs o slots id me named live s r wide at small =
      let v = me.0 in
      let f = r.fits id v at in
      let w : View O C = compared v in (
        w,
        keeps,
        tt,
        renewed o s r id me.1 v w at (record { origin_is = f.origin_is; begins = f.begins; number_is = f.number_is; own = f.own; own_seen = f.own_seen; looked = f.looked; whole = f.whole; seen_known = f.seen_known; known_begins = f.known_begins; heard_begins = f.heard_begins; apart = λ _ h. absurd (omega arith) }) (λ h. h) (r.signs id v at) (omega arith) (λ _ h. absurd (omega arith)),
        (refl, λ some_stamp same. f.apart live some_stamp (same ∙ f.number_is named)),
      )

  -- a pass reads the letter in its hand
  pub learns : (o : O) (slots id : ℕ) (me : Mine origin stands signer) → me.0.named ≡ true → Allows (IsKept origin stands signer o) slots id me 0 (λ n. n) (Learns origin stands signer (step slots 0 0 0 none) me)
  learns o slots id me named s r wide at small =
      let v = me.0 in
      let f = r.fits id v at in
      let k = longer v.known v.heard in
      let b = longer_begins v.known v.heard r.log f.known_begins f.heard_begins in
      let seen = prefix_trans v.seen v.known k f.seen_known b.0 in
      let w : View O C = informed v in (
        w,
        keeps,
        tt,
        renewed o s r id me.1 v w at
            (record { origin_is = f.origin_is; begins = f.begins; number_is = f.number_is; own = f.own; own_seen = f.own_seen; looked = f.looked; whole = f.whole; seen_known = seen; known_begins = b.2; heard_begins = (r.log, refl); apart = f.apart })
            (λ h. h) (r.signs id v at) (omega arith) (r.letters id v at),
        (refl, b.0, b.1, f.own ∙ own_between id v.seen k r.log seen b.2 (sym f.own_seen ∙ f.own) ∙ ap (λ (n : ℕ). entries_of n k) (sym (f.number_is named)), λ speaks c own. own_signs signer c v.seen k r.log v.said ((r.signs id v at).0 c) seen b.2 ((r.signs id v at).1 speaks c own).0),
      )

  -- the turn is taken, or another word is found
  pub seizes : (o : O) (slots id : ℕ) (me : Mine origin stands signer) (old half : ℕ) → old ≡ 2 * half → me.0.named ≡ true → me.0.letter ≡ false
      → Allows (IsKept origin stands signer o) slots id me 0 (λ n. either (eqb n old) (old + 1) n) (Seizes origin stands signer (step slots 0 old (old + 1) none) me)
  seizes o slots id me old half even named live s r wide at small =
      let v = me.0 in
      let f = r.fits id v at in
      let x : ℕ = get_or s.words 0 0 in
      let long = r.words in
      let w : View O C = holder v r.log in
      dite (ℕ_discrete x old)
      (λ hit.
      let home = ⊎_elim (λ (t : AtHome origin stands signer o r.log s). t) (λ (t : IsOut origin stands signer r.log s). absurd (let e = t.0 in omega arith)) r.seat_state in
      let k = home.1.0 in
      let here : get_or (set s.words 0 (old + 1)) 0 0 ≡ old + 1 = get_or-set_same s.words 0 (old + 1) 0 (omega arith) in (
        w,
        takes 0 (Some k),
        home.1.1,
        subst (λ b. IsKept origin stands signer o (stepped s 0 (either b (old + 1) x) id me.1 w (takes 0 (Some k)))) (sym (eq-eqb x old hit))
            (record {
              log = r.log;
              short = r.short;
              words = length-set s.words 0 (old + 1) ∙ r.words;
              seat_state = inr ((let e = home.0 in omega arith), (id, only_set s.views id id w (λ j u _ e h. absurd (home.2 j u e h)) (λ _. refl)));
              fits = fits_set o r.log s.views id w (λ j u _ e. r.fits j u e)
                  (record { origin_is = f.origin_is; begins = prefix_self r.log; number_is = f.number_is; own = f.own; own_seen = f.own; looked = f.looked; whole = λ _. refl; seen_known = prefix_self r.log; known_begins = prefix_self r.log; heard_begins = f.heard_begins; apart = f.apart });
              letters = letters_set s.views id v w at (omega arith) r.letters (r.letters id v at);
              maker = r.maker;
              signs = signs_set signer r.maker r.log s.views id w (λ j u _ e. r.signs j u e)
                  (λ c. (let few = (r.signs id v at).0 c in let up = prefix_length _ _ (signed_prefix signer c v.seen r.log f.begins) in omega arith), (r.signs id v at).1);
              unmade = λ by le. r.unmade by (subst (λ (n : ℕ). n ≤ by) (length-set s.views id w) le);
            }),
        ((λ _. (r.log, k, sym hit ∙ home.0, (f.begins, f.looked, f.own ∙ ap (λ (n : ℕ). entries_of n r.log) (sym (f.number_is named)), f.known_begins), (λ speaks c own. ((r.signs id v at).1 speaks c own).0), (home.1.2.0 ∙ sym (f.origin_is live), home.1.2.1), refl)), λ not. absurd (not hit)),
      ))
      (λ miss.
      let w' : View O C = after_meeting v x in (
        w',
        keeps,
        tt,
        subst (λ b. IsKept origin stands signer o (stepped s 0 (either b (old + 1) x) id me.1 w' keeps)) (sym (ne_eqb x old miss))
            (renewed o s r id me.1 v w' at (record { origin_is = f.origin_is; begins = f.begins; number_is = f.number_is; own = f.own; own_seen = f.own_seen; looked = f.looked; whole = f.whole; seen_known = f.seen_known; known_begins = f.known_begins; heard_begins = f.heard_begins; apart = f.apart }) (λ h. h) (r.signs id v at) (omega arith) (r.letters id v at)),
        ((λ hit. absurd (miss hit)), λ _. refl),
      ))

  -- who has the turn, and the history
  held : (o : O) (s : St) (r : IsKept origin stands signer o s) (id : ℕ) (v : View O C) → get_elem? s.views id ≡ some v → v.holds ≡ true
      → (get_or s.words 0 0 ≡ 2 * length r.log + 1) × ((j : ℕ) (u : View O C) → j ≢ id → get_elem? s.views j ≡ some u → u.holds ≡ true → ⊥)
  held o s r id v at has =
      ⊎_elim
      (λ (t : AtHome origin stands signer o r.log s). absurd (t.2 id v at has))
      (λ (t : IsOut origin stands signer r.log s). (t.0, λ j u apart e h. apart (t.1.1 j u e h ∙ sym (t.1.1 id v at has))))
      r.seat_state

  pub appends : (o : O) (id : ℕ) (v : View O C) (k : K) (c : C) (written : Option C) → v.holds ≡ true → v.named ≡ true → v.letter ≡ false → origin k ≡ v.origin → written ≡ Some c → stands (commands v.seen ++ c ∷ []) k → length (commands v.seen ++ c ∷ []) < 2 ^ 62 → MaySign signer v v.seen c
      → Allows (IsKept origin stands signer o) 1 id (v, (0, Some k) ∷ []) 0 (λ n. (n + 1) % 2 ^ 64) (Appends origin stands signer written (step 1 0 1 0 none) (v, (0, Some k) ∷ []))
  appends o id v k c written has named live from names_it tells few may s r wide at small =
      let f = r.fits id v at in
      let x : ℕ = get_or s.words 0 0 in
      let long = r.words in
      let h = held o s r id v at has in
      let seen : v.seen ≡ r.log = f.whole has in
      let num : v.number ≡ id = f.number_is named in
      let e : Entry C = entry v.number c in
      let log : List (Entry C) = r.log ++ e ∷ [] in
      let w : View O C = after_entry v c in
      let same : commands v.seen ++ c ∷ [] ≡ commands log = ap (λ (l : List (Entry C)). commands l ++ c ∷ []) seen ∙ sym (map-append (λ (y : Entry C). y.cmd) r.log (e ∷ [])) in
      let tells' : stands (commands log) k = subst (λ (l : List C). stands l k) same tells in
      let count : length log ≡ length r.log + 1 = length-append r.log (e ∷ []) in
      let count' : length (commands v.seen ++ c ∷ []) ≡ length log = ap length same ∙ length-map log (λ (y : Entry C). y.cmd) in
      let n : ℕ = (x + 1) % 18446744073709551616 in
      let odd = h.0 in
      let less = r.short in
      let value : n ≡ 2 * length log = omega arith in
      let here : get_or (set s.words 0 n) 0 0 ≡ n = get_or-set_same s.words 0 n 0 (omega arith) in
      let mine : v.mine ++ e ∷ [] ≡ entries_of id log = own_more v.number v.mine r.log c (f.own ∙ ap (λ n. entries_of n r.log) (sym num)) ∙ ap (λ n. entries_of n log) num in
      let others : (j : ℕ) → j ≢ id → entries_of j log ≡ entries_of j r.log = λ j apart. entries_of-append j r.log (e ∷ []) ∙ ap (λ l. entries_of j r.log ++ l) (other_entry j v.number c (λ same. apart (sym same ∙ num))) ∙ append-nil (entries_of j r.log) in (
        w,
        gives,
        tt,
        record {
          log = log;
          short = omega arith;
          words = length-set s.words 0 n ∙ r.words;
          seat_state = inl (here ∙ value, (k, set_here s.homes 0 (some (Some k)) (omega arith), (from ∙ f.origin_is live, tells')), nobody_set s.views id w h.1 (λ t. false≢true t));
          fits = fits_set o log s.views id w
              (λ j u apart at'. let g = r.fits j u at' in record {
                origin_is = g.origin_is;
                begins = prefix_more u.seen r.log (e ∷ []) g.begins;
                number_is = g.number_is;
                own = g.own ∙ sym (others j apart);
                own_seen = g.own_seen;
                looked = all_more (length r.log) (length log) u.looks (omega arith) g.looked;
                whole = λ t. absurd (h.1 j u apart at' t);
                seen_known = g.seen_known;
                known_begins = prefix_more u.known r.log (e ∷ []) g.known_begins;
                heard_begins = prefix_more u.heard r.log (e ∷ []) g.heard_begins;
                apart = g.apart;
              })
              (record {
                origin_is = f.origin_is;
                begins = ([], append-nil (v.seen ++ e ∷ []) ∙ ap (λ (l : List (Entry C)). l ++ e ∷ []) seen);
                number_is = f.number_is;
                own = mine;
                own_seen = mine ∙ ap (λ (l : List (Entry C)). entries_of id (l ++ e ∷ [])) (sym seen);
                looked = all_more (length r.log) (length log) v.looks (omega arith) f.looked;
                whole = λ t. absurd (false≢true t);
                seen_known = prefix_self (v.seen ++ e ∷ []);
                known_begins = ([], append-nil (v.seen ++ e ∷ []) ∙ ap (λ (l : List (Entry C)). l ++ e ∷ []) seen);
                heard_begins = prefix_more v.heard r.log (e ∷ []) f.heard_begins;
                apart = f.apart;
              });
          letters = letters_set s.views id v w at (omega arith) r.letters (r.letters id v at);
          maker = new_maker signer c id r.maker;
          signs = signs_set signer (new_maker signer c id r.maker) log s.views id w
              (λ j u apart at'. others_sign signer r.maker r.log id v c seen (r.signs id v at) may j u apart (r.signs j u at'))
              (own_sign signer r.maker r.log id v c seen (r.signs id v at) may);
          unmade = λ by le.
              let le' : length s.views ≤ by = subst (λ (m : ℕ). m ≤ by) (length-set s.views id w) le in
              let lt = at_lt s.views id v at in
              others by (λ same. omega arith) ∙ r.unmade by le';
        },
        (c, names_it, refl, λ d own. ap (λ (l : List (Entry C)). signed signer d (commands (l ++ e ∷ []))) seen ∙ ((own_sign signer r.maker r.log id v c seen (r.signs id v at) may).1 may.0 d own).0),
      )

  pub releases : (o : O) (id : ℕ) (v : View O C) (k : K) → v.holds ≡ true → v.letter ≡ false → origin k ≡ v.origin → stands (commands v.seen) k
      → Allows (IsKept origin stands signer o) 1 id (v, (0, Some k) ∷ []) 0 (λ n. (n + (2 ^ 64 - 1)) % 2 ^ 64) (Releases origin stands signer (step 1 0 1 0 none) (v, (0, Some k) ∷ []))
  releases o id v k has live from tells s r wide at small =
      let f = r.fits id v at in
      let x : ℕ = get_or s.words 0 0 in
      let long = r.words in
      let h = held o s r id v at has in
      let seen : v.seen ≡ r.log = f.whole has in
      let w : View O C = after_turn v in
      let n : ℕ = (x + 18446744073709551615) % 18446744073709551616 in
      let odd = h.0 in
      let less = r.short in
      let value : n ≡ 2 * length r.log = omega arith in
      let here : get_or (set s.words 0 n) 0 0 ≡ n = get_or-set_same s.words 0 n 0 (omega arith) in (
        w,
        gives,
        tt,
        record {
          log = r.log;
          short = r.short;
          words = length-set s.words 0 n ∙ r.words;
          seat_state = inl (here ∙ value, (k, set_here s.homes 0 (some (Some k)) (omega arith), (from ∙ f.origin_is live, subst (λ (l : List (Entry C)). stands (commands l) k) seen tells)), nobody_set s.views id w h.1 (λ t. false≢true t));
          fits = fits_set o r.log s.views id w
              (λ j u apart at'. r.fits j u at')
              (record { origin_is = f.origin_is; begins = f.begins; number_is = f.number_is; own = f.own; own_seen = f.own_seen; looked = f.looked; whole = λ t. absurd (false≢true t); seen_known = f.seen_known; known_begins = f.known_begins; heard_begins = f.heard_begins; apart = f.apart });
          letters = letters_set s.views id v w at (omega arith) r.letters (r.letters id v at);
          maker = r.maker;
          signs = signs_set signer r.maker r.log s.views id w (λ j u _ e. r.signs j u e) (r.signs id v at);
          unmade = λ by le. r.unmade by (subst (λ (m : ℕ). m ≤ by) (length-set s.views id w) le);
        },
        refl,
      )

  -- the two releases, at a seat that is known
  pub appends_as : (o : O) (slots id : ℕ) (me : Mine origin stands signer) (v : View O C) (k : K) (c : C) (written : Option C) → slots ≡ 1 → me ≡ (v, (0, Some k) ∷ [])
      → v.holds ≡ true → v.named ≡ true → v.letter ≡ false → origin k ≡ v.origin → written ≡ Some c → stands (commands v.seen ++ c ∷ []) k → length (commands v.seen ++ c ∷ []) < 2 ^ 62 → MaySign signer v v.seen c
      → Allows (IsKept origin stands signer o) slots id me 0 (λ n. (n + 1) % 2 ^ 64) (Appends origin stands signer written (step slots 0 1 0 none) me)
  appends_as o slots id me v k c written one is has named live from names_it tells few may =
      subst (λ (z : ℕ × Mine origin stands signer). Allows (IsKept origin stands signer o) z.0 id z.1 0 (λ n. (n + 1) % 2 ^ 64) (Appends origin stands signer written (step z.0 0 1 0 none) z.1)) (λ i. (sym one i, sym is i))
      (appends o id v k c written has named live from names_it tells few may)

  pub releases_as : (o : O) (slots id : ℕ) (me : Mine origin stands signer) (v : View O C) (k : K) → slots ≡ 1 → me ≡ (v, (0, Some k) ∷ [])
      → v.holds ≡ true → v.letter ≡ false → origin k ≡ v.origin → stands (commands v.seen) k
      → Allows (IsKept origin stands signer o) slots id me 0 (λ n. (n + (2 ^ 64 - 1)) % 2 ^ 64) (Releases origin stands signer (step slots 0 1 0 none) me)
  releases_as o slots id me v k one is has live from tells =
      subst (λ (z : ℕ × Mine origin stands signer). Allows (IsKept origin stands signer o) z.0 id z.1 0 (λ n. (n + (2 ^ 64 - 1)) % 2 ^ 64) (Releases origin stands signer (step z.0 0 1 0 none) z.1)) (λ i. (sym one i, sym is i))
      (releases o id v k has live from tells)

  -- what a glance asks, at the lock's own numbers and the pass's own seat
  pub glances : (then : Step (Option K) → Mine origin stands signer → ℕ → Mine origin stands signer → Type 0) (o p : O) (slots id : ℕ) (me you : Mine origin stands signer) → o ≡ p → 1 ≡ slots → me ≡ you
      → Allows (IsKept origin stands signer o) 1 id me 0 (λ n. n) (then (step 1 0 0 0 none) me) → Allows (IsKept origin stands signer p) slots id you 0 (λ n. n) (then (step slots 0 0 0 none) you)
  glances then o p slots id me you same one is =
      subst (λ (z : O × ℕ × Mine origin stands signer). Allows (IsKept origin stands signer z.0) z.1 id z.2 0 (λ n. n) (then (step z.1 0 0 0 none) z.2)) (λ i. (same i, one i, is i))

  pub glanced : (then : Step (Option K) → Mine origin stands signer → ℕ → Mine origin stands signer → Type 0) (slots n : ℕ) (me you new : Mine origin stands signer) → 1 ≡ slots → me ≡ you
      → then (step slots 0 0 0 none) you n new → then (step 1 0 0 0 none) me n new
  glanced then slots n me you new one is =
      subst (λ (z : ℕ × Mine origin stands signer). then (step z.0 0 0 0 none) z.1 n new) (λ i. (sym one i, sym is i))
