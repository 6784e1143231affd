-- Battles at their numbers.
use Rattle.std.proofs.Common.{◌≡◌, ℕ, ◌+◌, ◌==◌, Bool, true, false, cond, not, ◌||◌, List, [], ◌∷◌, ◌++◌, find, Some, bytes_eq, refl, sym, ap, ◌∙◌, subst, arith, true≢false, ap₂, Result, Ok, Err, OnOk, OnErr}
use Rattle.std.proofs.lemmas.Bool.Decides.{nat_tests}
use Rattle.std.proofs.lemmas.Slice.Eq.{bytes_eq-Decides}
use Rattle.std.specs.FinMap.{empty}
use Rattle.ps_base.specs.ById.{ById}
use Rattle.hall_index.specs.Numbered.{is_number, item_at, without, items_of, AreBelow}
use Rattle.hall_index.specs.IdIndices.{numbers_at, with_number, without_number, IsIndexed}
use Rattle.hall_index.proofs.NumberLemmas.{number_same, item_last, without_last, below_more, below_without, without_twice}
use Rattle.hall_index.proofs.IndexLemmas.{numbers_inserted, indexed_none, indexed_more, indexed_undone, indexed_without, indexed_gone}
use Rattle.ps_hall.specs.declared.game.Game.{Game}
use Rattle.ps_hall.specs.Lookups.{has_number, plays, player_id}
use Rattle.ps_hall.specs.Steps.{without_game}
use Rattle.ps_hall.specs.declared.games.Table.{Table}
use Rattle.ps_hall.specs.Games.{AreNumbered, AreKept, Played}

number_is : (n k : ℕ) → is_number n k ≡ (k == n)
number_is n k = grind (arith, nat_tests)

pub numbered_more : (es : List (ℕ × Game)) (n : ℕ) (g : Game) → AreNumbered es → n ≡ g.number → AreNumbered (es ++ (n, g) ∷ [])
numbered_more [] n g all is = (is, tt)
numbered_more (e ∷ es) n g all is = (all.0, numbered_more es n g all.1 is)

numbered_by : (b : Bool) (e : ℕ × Game) (es : List (ℕ × Game)) → e.0 ≡ e.1.number → AreNumbered es → AreNumbered (cond b (e ∷ es) es)
numbered_by true e es first rest = (first, rest)
numbered_by false e es first rest = rest

pub numbered_without : (n : ℕ) (es : List (ℕ × Game)) → AreNumbered es → AreNumbered (without n es)
numbered_without n [] all = tt
numbered_without n (e ∷ es) all = numbered_by (not (is_number n e.0)) e (without n es) all.0 (numbered_without n es all.1)

-- the battle at a number has it
pub found_number : (n : ℕ) (es : List (ℕ × Game)) → AreNumbered es → item_at n es ≡ find (has_number n) (items_of es)
found_number n [] all = refl
found_number n (e ∷ es) all =
    ap (λ b. cond b (Some e.1) (item_at n es)) (number_is n e.0 ∙ ap (λ k. k == n) all.0)
    ∙ ap (cond (has_number n e.1) (Some e.1)) (found_number n es all.1)

left_by : (b : Bool) (e : ℕ × Game) (es : List (ℕ × Game)) (gs : List Game) → items_of es ≡ gs → items_of (cond (not b) (e ∷ es) es) ≡ cond (not b) (e.1 ∷ gs) gs
left_by true e es gs more = more
left_by false e es gs more = ap (λ (l : List Game). e.1 ∷ l) more

-- without the one at a number
pub left_number : (n : ℕ) (es : List (ℕ × Game)) → AreNumbered es → items_of (without n es) ≡ without_game (items_of es) n
left_number n [] all = refl
left_number n (e ∷ es) all =
    left_by (is_number n e.0) e (without n es) (without_game (items_of es) n) (left_number n es all.1)
    ∙ ap (λ b. cond (not b) (e.1 ∷ without_game (items_of es) n) (without_game (items_of es) n)) (number_is n e.0 ∙ ap (λ k. k == n) all.0)

pub number_of_item : (n : ℕ) (es : List (ℕ × Game)) (g : Game) → AreNumbered es → item_at n es ≡ Some g → g.number ≡ n
number_of_item n (e ∷ es) g all found = by (is_number n e.0) refl found (λ more. number_of_item n es g all.1 more)
  where
    same : Some e.1 ≡ Some g → e.1 ≡ g
    same h = cc

    by : (b : Bool) → is_number n e.0 ≡ b → cond b (Some e.1) (item_at n es) ≡ Some g → (item_at n es ≡ Some g → g.number ≡ n) → g.number ≡ n
    by true t h more = ap (λ (x : Game). x.number) (sym (same h)) ∙ sym all.0 ∙ sym (number_same n e.0 t)
    by false t h more = more h
number_of_item n [] g all found = absurd cc

-- ---- the index

abbrev Index : Type 0
Index = ById (List ℕ)

-- at the ids of both players, which may be the same
one_id : (a b : Bool) (xs ns : List ℕ) → (b ≡ true → a ≡ true) → cond a xs ns ≡ cond (a || b) xs ns
one_id true b xs ns same = refl
one_id false true xs ns same = absurd (true≢false (sym (same refl)))
one_id false false xs ns same = refl

pub first_alone : (index : Index) (g : Game) (n : ℕ) → bytes_eq (player_id g 1) (player_id g 0) ≡ true
    → (id : List ℕ) → numbers_at (with_number index (player_id g 0) n) id ≡ cond (plays id g) (numbers_at index id ++ n ∷ []) (numbers_at index id)
first_alone index g n same id =
    numbers_inserted index (player_id g 0) id (numbers_at index (player_id g 0) ++ n ∷ [])
    ∙ at (bytes_eq (player_id g 0) id) refl
    ∙ one_id (bytes_eq (player_id g 0) id) (bytes_eq (player_id g 1) id) (numbers_at index id ++ n ∷ []) (numbers_at index id)
    (λ t. ap (λ x. bytes_eq x id) (sym ((bytes_eq-Decides (player_id g 1) (player_id g 0)).0 same)) ∙ t)
  where
    at : (b : Bool) → bytes_eq (player_id g 0) id ≡ b → cond b (numbers_at index (player_id g 0) ++ n ∷ []) (numbers_at index id) ≡ cond b (numbers_at index id ++ n ∷ []) (numbers_at index id)
    at true t = ap (λ x. numbers_at index x ++ n ∷ []) ((bytes_eq-Decides (player_id g 0) id).0 t)
    at false t = refl

pub both_ids : (index : Index) (g : Game) (n : ℕ) → bytes_eq (player_id g 1) (player_id g 0) ≡ false
    → (id : List ℕ) → numbers_at (with_number (with_number index (player_id g 0) n) (player_id g 1) n) id ≡ cond (plays id g) (numbers_at index id ++ n ∷ []) (numbers_at index id)
both_ids index g n apart id =
    numbers_inserted one (player_id g 1) id (numbers_at one (player_id g 1) ++ n ∷ [])
    ∙ by (bytes_eq (player_id g 1) id) (bytes_eq (player_id g 0) id) refl refl
  where
    one : Index
    one = with_number index (player_id g 0) n

    first : (q : List ℕ) → numbers_at one q ≡ cond (bytes_eq (player_id g 0) q) (numbers_at index (player_id g 0) ++ n ∷ []) (numbers_at index q)
    first q = numbers_inserted index (player_id g 0) q (numbers_at index (player_id g 0) ++ n ∷ [])

    other : (b c : Bool) → bytes_eq (player_id g 0) (player_id g 1) ≡ b → b ≡ false
    other true c t = absurd (true≢false (sym ((bytes_eq-Decides (player_id g 1) (player_id g 0)).1 (sym ((bytes_eq-Decides (player_id g 0) (player_id g 1)).0 t))) ∙ apart))
    other false c t = refl

    by : (b a : Bool) → bytes_eq (player_id g 1) id ≡ b → bytes_eq (player_id g 0) id ≡ a → cond b (numbers_at one (player_id g 1) ++ n ∷ []) (numbers_at one id) ≡ cond (a || b) (numbers_at index id ++ n ∷ []) (numbers_at index id)
    by true true t s = absurd (true≢false (sym ((bytes_eq-Decides (player_id g 1) (player_id g 0)).1 ((bytes_eq-Decides (player_id g 1) id).0 t ∙ sym ((bytes_eq-Decides (player_id g 0) id).0 s))) ∙ apart))
    by true false t s =
        ap (λ ns. ns ++ n ∷ []) (first (player_id g 1) ∙ ap (λ b. cond b (numbers_at index (player_id g 0) ++ n ∷ []) (numbers_at index (player_id g 1))) (other (bytes_eq (player_id g 0) (player_id g 1)) true refl))
        ∙ ap (λ x. numbers_at index x ++ n ∷ []) ((bytes_eq-Decides (player_id g 1) id).0 t)
    by false true t s = first id ∙ ap (λ b. cond b (numbers_at index (player_id g 0) ++ n ∷ []) (numbers_at index id)) s ∙ ap (λ x. numbers_at index x ++ n ∷ []) ((bytes_eq-Decides (player_id g 0) id).0 s)
    by false false t s = first id ∙ ap (λ b. cond b (numbers_at index (player_id g 0) ++ n ∷ []) (numbers_at index id)) s

-- a battle is added to the index, in the words of the calls that do it
pub added_once : (g : Game) (index one : Index) → bytes_eq (player_id g 1) (player_id g 0) ≡ true → one ≡ with_number index (player_id g 0) g.number
    → (es : List (ℕ × Game)) → AreBelow g.number es → IsIndexed plays g.number es index → IsIndexed plays (g.number + 1) (es ++ (g.number, g) ∷ []) one
added_once g index one same is es below indexed = indexed_more plays g.number g es index one below indexed (λ id. ap (λ (x : Index). numbers_at x id) is ∙ first_alone index g g.number same id)

pub added_twice : (g : Game) (index one two : Index) → bytes_eq (player_id g 1) (player_id g 0) ≡ false → one ≡ with_number index (player_id g 0) g.number → two ≡ with_number one (player_id g 1) g.number
    → (es : List (ℕ × Game)) → AreBelow g.number es → IsIndexed plays g.number es index → IsIndexed plays (g.number + 1) (es ++ (g.number, g) ∷ []) two
added_twice g index one two apart is then es below indexed =
    indexed_more plays g.number g es index two below indexed (λ id. ap (λ (x : Index). numbers_at x id) (then ∙ ap (λ (x : Index). with_number x (player_id g 1) g.number) is) ∙ both_ids index g g.number apart id)

pub undone : (g : Game) (index one two : Index) → one ≡ with_number index (player_id g 0) g.number → two ≡ without_number one (player_id g 0) g.number
    → (es : List (ℕ × Game)) → IsIndexed plays g.number es index → IsIndexed plays g.number es two
undone g index one two is then es indexed = subst (IsIndexed plays g.number es) (sym (then ∙ ap (λ (x : Index). without_number x (player_id g 0) g.number) is)) (indexed_undone plays g.number es index (player_id g 0) indexed)

pub kept_index : (g : Game) (index one : Index) → one ≡ index → (es : List (ℕ × Game)) → IsIndexed plays g.number es index → IsIndexed plays g.number es one
kept_index g index one is es indexed = subst (IsIndexed plays g.number es) (sym is) indexed

pub removed_twice : (g : Game) (index one two : Index) → one ≡ without_number index (player_id g 0) g.number → two ≡ without_number one (player_id g 1) g.number
    → (next : ℕ) (es : List (ℕ × Game)) → IsIndexed plays next es index → IsIndexed plays next (without g.number es) two
removed_twice g index one two is then next es indexed =
    let first : IsIndexed plays next (without g.number es) one = indexed_gone plays next g.number es index one (player_id g 0) is indexed in
    subst (λ (l : List (ℕ × Game)). IsIndexed plays next l two) (without_twice g.number es) (indexed_gone plays next g.number (without g.number es) one two (player_id g 1) then first)

-- ---- in the words of the calls

pub on_ok : {X E P Q : Type 0} (r : Result X E) → OnOk r P → (P → Q) → OnOk r Q
on_ok (Ok v) p f = f p
on_ok (Err e) p f = tt

pub on_err : {X E P Q : Type 0} (r : Result X E) → OnErr r P → (P → Q) → OnErr r Q
on_err (Ok v) p f = tt
on_err (Err e) p f = f p

module _ (g : Game) (a b : List ℕ) (first : a ≡ player_id g 0) (second : b ≡ player_id g 1) where
  with_first : (index one : Index) → one ≡ with_number index a g.number → one ≡ with_number index (player_id g 0) g.number
  with_first index one is = is ∙ ap (λ x. with_number index x g.number) first

  with_second : (index one : Index) → one ≡ with_number index b g.number → one ≡ with_number index (player_id g 1) g.number
  with_second index one is = is ∙ ap (λ x. with_number index x g.number) second

  same_ids : (c : Bool) → bytes_eq b a ≡ c → bytes_eq (player_id g 1) (player_id g 0) ≡ c
  same_ids c t = sym (ap₂ bytes_eq second first) ∙ t

  pub once : (index one : Index) → bytes_eq b a ≡ true → one ≡ with_number index a g.number
      → (es : List (ℕ × Game)) → AreBelow g.number es → IsIndexed plays g.number es index → IsIndexed plays (g.number + 1) (es ++ (g.number, g) ∷ []) one
  once index one same is = added_once g index one (same_ids true same) (with_first index one is)

  pub twice : (index one two : Index) → bytes_eq b a ≡ false → one ≡ with_number index a g.number → two ≡ with_number one b g.number
      → (es : List (ℕ × Game)) → AreBelow g.number es → IsIndexed plays g.number es index → IsIndexed plays (g.number + 1) (es ++ (g.number, g) ∷ []) two
  twice index one two apart is then = added_twice g index one two (same_ids false apart) (with_first index one is) (with_second one two then)

  pub undone_first : (index one two : Index) → one ≡ with_number index a g.number → two ≡ without_number one a g.number
      → (es : List (ℕ × Game)) → IsIndexed plays g.number es index → IsIndexed plays g.number es two
  undone_first index one two is then = undone g index one two (with_first index one is) (then ∙ ap (λ x. without_number one x g.number) first)

  pub gone_twice : (index one two : Index) → one ≡ without_number index a g.number → two ≡ without_number one b g.number
      → (next : ℕ) (es : List (ℕ × Game)) → IsIndexed plays next es index → IsIndexed plays next (without g.number es) two
  gone_twice index one two is then = removed_twice g index one two (is ∙ ap (λ x. without_number index x g.number) first) (then ∙ ap (λ x. without_number one x g.number) second)

-- ---- the table

abbrev played : ℕ → List Game → Played
played started list = record { started = started; list = list }

pub kept_new : (gs : List (ℕ × Game)) (index : Index) → gs ≡ [] → index ≡ empty → AreKept (record { started = 0; games = gs; players = index })
kept_new gs index none nobody = record {
  below = subst (AreBelow 1) (sym none) tt;
  numbered = subst AreNumbered (sym none) tt;
  indexed = subst (λ (l : List (ℕ × Game)). IsIndexed plays 1 l index) (sym none) (subst (IsIndexed plays 1 []) (sym nobody) (indexed_none plays 1));
}

module _ (t : Table) (kept : AreKept t) where
  pub kept_pushed : (g : Game) (more : List (ℕ × Game)) (index : Index) → g.number ≡ t.started + 1 → more ≡ t.games ++ (t.started + 1, g) ∷ []
      → ((k : Game) → item_at (t.started + 1) more ≡ Some k → k.number ≡ t.started + 1 → (es : List (ℕ × Game)) → AreBelow (t.started + 1) es → IsIndexed plays (t.started + 1) es t.players → IsIndexed plays (t.started + 1 + 1) (es ++ (t.started + 1, k) ∷ []) index)
      → AreKept (record { started = t.started + 1; games = more; players = index })
  kept_pushed g more index number is told = record {
    below = subst (AreBelow (t.started + 1 + 1)) (sym is) (below_more (t.started + 1) g t.games kept.below);
    numbered = subst AreNumbered (sym is) (numbered_more t.games (t.started + 1) g kept.numbered (sym number));
    indexed = subst (λ (l : List (ℕ × Game)). IsIndexed plays (t.started + 1 + 1) l index) (sym is) (told g (ap (item_at (t.started + 1)) is ∙ item_last (t.started + 1) g t.games kept.below) number t.games kept.below kept.indexed);
  }

  pub back : (g : Game) (more fewer : List (ℕ × Game)) → more ≡ t.games ++ (t.started + 1, g) ∷ [] → fewer ≡ without (t.started + 1) more → fewer ≡ t.games
  back g more fewer is then = then ∙ ap (without (t.started + 1)) is ∙ without_last (t.started + 1) g t.games kept.below

  pub kept_undone : (g : Game) (more fewer : List (ℕ × Game)) (index : Index) → g.number ≡ t.started + 1 → more ≡ t.games ++ (t.started + 1, g) ∷ [] → fewer ≡ without (t.started + 1) more
      → ((k : Game) → item_at (t.started + 1) more ≡ Some k → k.number ≡ t.started + 1 → (es : List (ℕ × Game)) → IsIndexed plays (t.started + 1) es t.players → IsIndexed plays (t.started + 1) es index)
      → AreKept (record { started = t.started; games = fewer; players = index })
  kept_undone g more fewer index number is then told =
      let same : fewer ≡ t.games = back g more fewer is then in
      record {
        below = subst (AreBelow (t.started + 1)) (sym same) kept.below;
        numbered = subst AreNumbered (sym same) kept.numbered;
        indexed = subst (λ (l : List (ℕ × Game)). IsIndexed plays (t.started + 1) l index) (sym same) (told g (ap (item_at (t.started + 1)) is ∙ item_last (t.started + 1) g t.games kept.below) number t.games kept.indexed);
      }

  pub kept_without : (n : ℕ) (fewer : List (ℕ × Game)) (index : Index) → fewer ≡ without n t.games → IsIndexed plays (t.started + 1) (without n t.games) index
      → AreKept (record { started = t.started; games = fewer; players = index })
  kept_without n fewer index is indexed = record {
    below = subst (AreBelow (t.started + 1)) (sym is) (below_without (t.started + 1) n t.games kept.below);
    numbered = subst AreNumbered (sym is) (numbered_without n t.games kept.numbered);
    indexed = subst (λ (l : List (ℕ × Game)). IsIndexed plays (t.started + 1) l index) (sym is) indexed;
  }

  -- nothing has the number
  pub kept_none : (n : ℕ) (fewer : List (ℕ × Game)) → fewer ≡ without n t.games → AreKept (record { started = t.started; games = fewer; players = t.players })
  kept_none n fewer is = kept_without n fewer t.players is (indexed_without plays (t.started + 1) n t.games t.players t.players (λ id. false) kept.indexed (λ id. refl))

  pub kept_gone : (n : ℕ) (g : Game) (fewer : List (ℕ × Game)) (index : Index) → fewer ≡ without n t.games → item_at n t.games ≡ Some g
      → ((next : ℕ) (es : List (ℕ × Game)) → IsIndexed plays next es t.players → IsIndexed plays next (without g.number es) index)
      → AreKept (record { started = t.started; games = fewer; players = index })
  kept_gone n g fewer index is found told =
      kept_without n fewer index is (subst (λ k. IsIndexed plays (t.started + 1) (without k t.games) index) (number_of_item n t.games g kept.numbered found) (told (t.started + 1) t.games kept.indexed))

  pub left_is : (n : ℕ) (fewer : List (ℕ × Game)) → fewer ≡ without n t.games → played t.started (items_of fewer) ≡ played t.started (without_game (items_of t.games) n)
  left_is n fewer is = ap (played t.started) (ap items_of is ∙ left_number n t.games kept.numbered)
