-- What keeps a pass one of its place.
use Rattle.std.proofs.Common.{◌≡◌, ℕ, ◌+◌, ◌≤◌, List, [], ◌++◌, length, take, Option, None, Result, Ok, Err, refl, sym, ap, ◌∙◌, subst, arith}
use Rattle.std.specs.Prelude.{All, IfSome}
use Rattle.ps_base.specs.declared.msg.Msg.{Msg}
use Rattle.ps_histlock.specs.declared.view.View.{View}
use Rattle.ps_histlock.specs.Histories.{commands}
use Rattle.ps_histlock.specs.Seated.{TableId}
use Rattle.ps_histlock.specs.Views.{newcomer, heir_of, with_number, after_look, IsAtRest}
use Rattle.ps_histlock.specs.Locks.{OwnSigns}
use Rattle.ps_histlock.specs.Signs.{SignsAs, IsOf}
use Rattle.ps_histlock.proofs.SignLemmas.{signs_nothing}
use Rattle.ps_histlock.proofs.TurnLemmas.{rest_looked}
use Rattle.server_pass.specs.Tellings.{Telling, IsLawful, UpTo, lines_of, IsTold}
use Rattle.server_pass.specs.Turns.{ReadsAtLast, TakesAtLast}
use Rattle.server_pass.specs.Passes.{NeverFalls, Grows, IsPass}
use Rattle.server_pass.specs.declared.turn_end.TurnEnd.{TurnEnd}
use Rattle.server_pass.specs.declared.pass.PlacePass.{PlacePass}
use Rattle.server_pass.proofs.ToldLemmas.{told_new, told_after, told_handed, takes_map, PullsOrNot, pulls_map, Leaves, signs_after, never_falls}

-- so much was pulled of what a pass has seen, and handed out
abbrev Told : {O C X : Type 0} → Telling O C X → ℕ → O → View O C → X → List Msg → ℕ → Type 0
Told t conn o v x kept at = IsTold (t.shows conn o) (t.stands_at conn o) (commands v.seen) x (t.passed x) (lines_of kept) at

module _ {K O C X N I : Type 0} (origin_in : K → O) (stands : List C → K → Type 0) (signer : C → Option ℕ)
    (pulls : O → List C → X → List Msg → X → Type 0) (t : Telling O C X) (law : IsLawful pulls t) where
  -- between two calls a cursor has no bound
  pub unbound : (conn : ℕ) (place : TableId × O) (h : PlacePass (TableId × View O C) X N I) → IsPass origin_in stands signer t conn place h → t.bounded None h.cursor ≡ h.cursor
  unbound conn place h p = law.free conn place.1 (take (t.passed h.cursor) (commands h.pass.1.seen)) h.cursor p.told.cursor

  -- what follows for a pass from what a call left of it
  pub stays : (conn : ℕ) (place : TableId × O) (h k : PlacePass (TableId × View O C) X N I) → k.pass.0 ≡ h.pass.0 → k.at ≡ h.at → IsAtRest origin_in stands k.pass.1 → NeverFalls k.pass.1.looks
      → SignsAs signer conn k.pass.1.said → OwnSigns signer k.pass.1 k.pass.1.known → Grows h.pass.1 k.pass.1
      → PullsOrNot (UpTo pulls t.bounded) h.pass.1 h.cursor (h.kept.items ++ h.fresh.items) k.pass.1 k.cursor (k.kept.items ++ k.fresh.items)
      → IsPass origin_in stands signer t conn place h → IsPass origin_in stands signer t conn place k
  stays conn place h k lock at rest looks signs own g pulled p = record {
    lock = lock ∙ p.lock;
    origin = g.origin ∙ p.origin;
    rest = rest;
    looks = looks;
    signs = signs;
    own = own;
    told = subst (λ (n : ℕ). Told t conn place.1 k.pass.1 k.cursor (k.kept.items ++ k.fresh.items) n) (sym at)
        (told_after (UpTo pulls t.bounded) (t.shows conn place.1) (t.stands_at conn place.1) t.passed place.1 (law.goes_on conn place.1) h.pass.1 h.cursor
        (h.kept.items ++ h.fresh.items) k.pass.1 k.cursor (k.kept.items ++ k.fresh.items) h.at p.origin p.told g pulled);
  }

  -- after a turn that pulled up to a bound
  pub read_on : (conn : ℕ) (place : TableId × O) (h k : PlacePass (TableId × View O C) X N I) (cmd : Option C) → k.pass.0 ≡ h.pass.0 → k.at ≡ h.at
      → (IsAtRest origin_in stands h.pass.1 → IsAtRest origin_in stands k.pass.1)
      → (OwnSigns signer h.pass.1 h.pass.1.known → OwnSigns signer k.pass.1 k.pass.1.known) → IfSome cmd (IsOf signer conn)
      → Leaves (UpTo pulls t.bounded) h.pass.1 h.cursor (h.kept.items ++ h.fresh.items) cmd k.pass.1 k.cursor (k.kept.items ++ k.fresh.items)
      → IsPass origin_in stands signer t conn place h → IsPass origin_in stands signer t conn place k
  read_on conn place h k cmd lock at rest own of left p = stays conn place h k lock at (rest p.rest) (subst NeverFalls (sym left.says.looks) p.looks)
      (signs_after signer conn h.pass.1 k.pass.1 cmd of left.says p.signs) (own p.own) left.grows left.pulled p

  -- after a turn
  pub taken : (conn : ℕ) (place : TableId × O) (h k : PlacePass (TableId × View O C) X N I) (cmd : Option C) → k.pass.0 ≡ h.pass.0 → k.at ≡ h.at
      → (IsAtRest origin_in stands h.pass.1 → IsAtRest origin_in stands k.pass.1)
      → (OwnSigns signer h.pass.1 h.pass.1.known → OwnSigns signer k.pass.1 k.pass.1.known) → IfSome cmd (IsOf signer conn)
      → Leaves pulls h.pass.1 h.cursor (h.kept.items ++ h.fresh.items) cmd k.pass.1 k.cursor (k.kept.items ++ k.fresh.items)
      → IsPass origin_in stands signer t conn place h → IsPass origin_in stands signer t conn place k
  taken conn place h k cmd lock at rest own of left p = read_on conn place h k cmd lock at rest own of (record {
    grows = left.grows;
    pulled = pulls_map pulls (UpTo pulls t.bounded) h.pass.1 h.cursor (h.kept.items ++ h.fresh.items) k.pass.1 k.cursor (k.kept.items ++ k.fresh.items)
        (λ o cmds msgs q. law.unset o cmds h.cursor k.cursor msgs (unbound conn place h p) q) left.pulled;
    says = left.says;
  }) p

  -- after a look
  pub looked : (conn : ℕ) (place : TableId × O) (h k : PlacePass (TableId × View O C) X N I) (n : ℕ) → k ≡ record h { pass = (h.pass.0, after_look h.pass.1 n) }
      → length h.pass.1.known ≤ n → All (λ (m : ℕ). m ≤ n) h.pass.1.looks → IsPass origin_in stands signer t conn place h → IsPass origin_in stands signer t conn place k
  looked conn place h k n is knows le p = subst (IsPass origin_in stands signer t conn place) (sym is) (record {
    lock = p.lock;
    origin = p.origin;
    rest = rest_looked origin_in stands h.pass.1 n p.rest knows;
    looks = never_falls h.pass.1.looks n p.looks le;
    signs = p.signs;
    own = p.own;
    told = p.told;
  })

  -- a new pass
  pub new : (conn : ℕ) (place : TableId × O) (k : PlacePass (TableId × View O C) X N I) (x : X) (by : ℕ) → k.pass ≡ (place.0, newcomer place.1 by) → k.cursor ≡ x
      → k.kept.items ++ k.fresh.items ≡ [] → k.at ≡ 0 → t.stands_at conn place.1 [] x → t.shows conn place.1 [] [] → t.passed x ≡ 0 → IsPass origin_in stands signer t conn place k
  new conn place k x by pass cursor none at stood shown first =
      let start : IsTold (t.shows conn place.1) (t.stands_at conn place.1) [] x 0 [] 0 = told_new (t.shows conn place.1) (t.stands_at conn place.1) x stood shown in
      let counted : IsTold (t.shows conn place.1) (t.stands_at conn place.1) [] x (t.passed x) [] 0 =
      subst (λ (n : ℕ). IsTold (t.shows conn place.1) (t.stands_at conn place.1) [] x n [] 0) (sym first) start in
      let moved : IsTold (t.shows conn place.1) (t.stands_at conn place.1) [] k.cursor (t.passed k.cursor) [] 0 =
      subst (λ (y : X). IsTold (t.shows conn place.1) (t.stands_at conn place.1) [] y (t.passed y) [] 0) (sym cursor) counted in
      let held : IsTold (t.shows conn place.1) (t.stands_at conn place.1) [] k.cursor (t.passed k.cursor) (lines_of (k.kept.items ++ k.fresh.items)) k.at =
      subst (λ (m : ℕ). IsTold (t.shows conn place.1) (t.stands_at conn place.1) [] k.cursor (t.passed k.cursor) (lines_of (k.kept.items ++ k.fresh.items)) m) (sym at)
      (subst (λ (ms : List Msg). IsTold (t.shows conn place.1) (t.stands_at conn place.1) [] k.cursor (t.passed k.cursor) (lines_of ms) 0) (sym none) moved) in
      record {
        lock = ap (λ (q : TableId × View O C). q.0) pass;
        origin = ap (λ (q : TableId × View O C). q.1.origin) pass;
        rest = subst (λ (q : TableId × View O C). IsAtRest origin_in stands q.1) (sym pass)
            (refl, refl, refl, refl, refl, ([], refl), refl, (refl, λ n d none. absurd (omega arith), λ n d none. absurd (omega arith)), λ none. absurd (omega arith), tt);
        looks = subst (λ (q : TableId × View O C). NeverFalls q.1.looks) (sym pass) tt;
        signs = subst (λ (q : TableId × View O C). SignsAs signer conn q.1.said) (sym pass) (signs_nothing signer conn);
        own = subst (λ (q : TableId × View O C). OwnSigns signer q.1 q.1.known) (sym pass) (λ d none_left. refl);
        told = subst (λ (q : TableId × View O C). Told t conn place.1 q.1 k.cursor (k.kept.items ++ k.fresh.items) k.at) (sym pass) held;
      }

  -- an heir, with the messages of the pass in whose place it is
  pub heir : (conn : ℕ) (place : TableId × O) (h k : PlacePass (TableId × View O C) X N I) (n : ℕ) → k.pass ≡ (h.pass.0, with_number (heir_of h.pass.1) n) → IsAtRest origin_in stands k.pass.1
      → OwnSigns signer k.pass.1 k.pass.1.known → k.cursor ≡ h.cursor → k.kept.items ++ k.fresh.items ≡ h.kept.items ++ h.fresh.items → k.at ≡ h.at
      → IsPass origin_in stands signer t conn place h → IsPass origin_in stands signer t conn place k
  heir conn place h k n pass rest own cursor kept at p =
      let moved : Told t conn place.1 h.pass.1 k.cursor (h.kept.items ++ h.fresh.items) h.at =
      subst (λ (x : X). Told t conn place.1 h.pass.1 x (h.kept.items ++ h.fresh.items) h.at) (sym cursor) p.told in
      let given : Told t conn place.1 h.pass.1 k.cursor (k.kept.items ++ k.fresh.items) k.at =
      subst (λ (m : ℕ). Told t conn place.1 h.pass.1 k.cursor (k.kept.items ++ k.fresh.items) m) (sym at)
      (subst (λ (ms : List Msg). Told t conn place.1 h.pass.1 k.cursor ms h.at) (sym kept) moved) in
      record {
        lock = ap (λ (q : TableId × View O C). q.0) pass ∙ p.lock;
        origin = ap (λ (q : TableId × View O C). q.1.origin) pass ∙ p.origin;
        rest = rest;
        looks = subst (λ (q : TableId × View O C). NeverFalls q.1.looks) (sym pass) tt;
        signs = subst (λ (q : TableId × View O C). SignsAs signer conn q.1.said) (sym pass) p.signs;
        own = own;
        told = subst (λ (q : TableId × View O C). Told t conn place.1 q.1 k.cursor (k.kept.items ++ k.fresh.items) k.at) (sym pass) given;
      }

  -- after all messages were handed out
  pub handed : (conn : ℕ) (place : TableId × O) (h k : PlacePass (TableId × View O C) X N I) → k.pass ≡ h.pass → k.cursor ≡ h.cursor → k.kept.items ++ k.fresh.items ≡ []
      → k.at ≡ t.passed k.cursor → IsPass origin_in stands signer t conn place h → IsPass origin_in stands signer t conn place k
  handed conn place h k pass cursor none at p = record {
    lock = ap (λ (q : TableId × View O C). q.0) pass ∙ p.lock;
    origin = ap (λ (q : TableId × View O C). q.1.origin) pass ∙ p.origin;
    rest = subst (λ (q : TableId × View O C). IsAtRest origin_in stands q.1) (sym pass) p.rest;
    looks = subst (λ (q : TableId × View O C). NeverFalls q.1.looks) (sym pass) p.looks;
    signs = subst (λ (q : TableId × View O C). SignsAs signer conn q.1.said) (sym pass) p.signs;
    own = subst (λ (q : TableId × View O C). OwnSigns signer q.1 q.1.known) (sym pass) p.own;
    told = told_handed (t.shows conn place.1) (t.stands_at conn place.1) t.passed h.pass.1 k.pass.1 h.cursor k.cursor (h.kept.items ++ h.fresh.items)
        (k.kept.items ++ k.fresh.items) h.at k.at (ap (λ (q : TableId × View O C). q.1) pass) cursor none at p.told;
  }

-- ---- up to a bound

module _ {O C X : Type 0} (pulls : O → List C → X → List Msg → X → Type 0) (t : Telling O C X) (law : IsLawful pulls t) where
  unset_again : (until : Option ℕ) (x z : X) → t.bounded None x ≡ x → z ≡ t.bounded until x → t.bounded None z ≡ x
  unset_again until x z free same = ap (t.bounded None) same ∙ law.last until None x ∙ free

  read_bounded : {T E : Type 0} (v : View O C) (x : X) (until : Option ℕ) (kept : List Msg) (result : Result T E) (w : View O C) (z : X) (more : List Msg)
      → t.bounded None x ≡ x → ReadsAtLast pulls v (t.bounded until x) kept result w z more
      → ReadsAtLast (UpTo pulls t.bounded) v x kept result w (t.bounded None z) more
  read_bounded v x until kept (Ok done) w z more free told = (told.0, (told.1.0, (until, z, told.1.1, refl), told.1.2))
  read_bounded v x until kept (Err e) w z more free told = (told.0, unset_again until x z free told.1, told.2)

  -- the bound is set, and taken off behind the turn
  pub read_up_to : {T E : Type 0} (v : View O C) (x a z y : X) (until : Option ℕ) (kept : List Msg) (result : Result T E) (w : View O C) (more : List Msg)
      → t.bounded None x ≡ x → a ≡ t.bounded until x → y ≡ t.bounded None z → ReadsAtLast pulls v a kept result w z more
      → ReadsAtLast (UpTo pulls t.bounded) v x kept result w y more
  read_up_to v x a z y until kept result w more free set off told =
      subst (λ (b : X). ReadsAtLast (UpTo pulls t.bounded) v x kept result w b more) (sym off)
      (read_bounded v x until kept result w z more free (subst (λ (b : X). ReadsAtLast pulls v b kept result w z more) set told))

  pub turn_up_to : {U T B L : Type 0} (answers : O → List C → C → U → Type 0) (v : View O C) (x a z y : X) (until : Option ℕ) (kept : List Msg) (c : C) (e : TurnEnd T B L)
      (w : View O C) (more : List Msg) → t.bounded None x ≡ x → a ≡ t.bounded until x → y ≡ t.bounded None z → TakesAtLast answers pulls v a kept c e w z more
      → TakesAtLast answers (UpTo pulls t.bounded) v x kept c e w y more
  turn_up_to answers v x a z y until kept c e w more free set off told =
      subst (λ (b : X). TakesAtLast answers (UpTo pulls t.bounded) v x kept c e w b more) (sym off)
      (takes_map answers pulls (UpTo pulls t.bounded) v x (t.bounded until x) kept c e w z (t.bounded None z) more
      (λ o cmds msgs pulled. (until, z, pulled, refl)) (λ same. unset_again until x z free same)
      (subst (λ (b : X). TakesAtLast answers pulls v b kept c e w z more) set told))
