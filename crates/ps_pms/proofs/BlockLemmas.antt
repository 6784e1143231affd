-- What a block and its end change: whether the owner blocks the target, and no other block.
use Rattle.std.proofs.Common.{◌≡◌, ℕ, List, Bool, true, false, cond, ◌&&◌, Option, is_some, Some, None, refl, sym, ap, ap₂, ◌∙◌, bytes_eq}
use Rattle.std.specs.Ordering.{nat_cmp, eq_by_cmp}
use Rattle.std.specs.Cmp.{Equal-is}
use Rattle.std.specs.Cmp.Lexicographic.{slice_cmp, nat_list_cmp_total}
use Rattle.std.specs.FinMap.{get, remove, empty, get-empty, get-insert, get-remove, get_tied}
use Rattle.std.proofs.lemmas.Map.Text.{is_eq-slice_cmp}
use Rattle.ps_base.specs.ById.{ById}
use Rattle.ps_pms.specs.Records.{Record}
use Rattle.ps_pms.specs.Lookups.{has_target, blocks}
use Rattle.ps_pms.specs.Changes.{with_target, without_target, after_block, after_unblock}

abbrev at : List ℕ → List ℕ → Bool
at q k = eq_by_cmp (slice_cmp nat_cmp) q k

put_in : (c : Bool) (o : Option (Unit {0})) → is_some (cond c (Some tt) o) ≡ cond c true (is_some o)
put_in true o = refl
put_in false o = refl

taken : (c : Bool) (o : Option (Unit {0})) → is_some (cond c None o) ≡ cond c false (is_some o)
taken true o = refl
taken false o = refl

has_with : (g : Option (ById (Unit {0}))) (t b : List ℕ) → has_target (Some (with_target g t)) b ≡ cond (at b t) true (has_target g b)
has_with None t b = ap is_some (get-insert nat_list_cmp_total empty t tt b) ∙ put_in (at b t) (get empty b) ∙ ap (λ o. cond (at b t) true (is_some o)) (get-empty (slice_cmp nat_cmp) b)
has_with (Some ts) t b = ap is_some (get-insert nat_list_cmp_total ts t tt b) ∙ put_in (at b t) (get ts b)

has_without : (ts : ById (Unit {0})) (t b : List ℕ) → has_target (Some (remove ts t)) b ≡ cond (at b t) false (has_target (Some ts) b)
has_without ts t b = ap is_some (get-remove nat_list_cmp_total ts t b) ∙ taken (at b t) (get ts b)

same_owner : (m : ById (ById (Unit {0}))) (o a : List ℕ) → at a o ≡ true → get m o ≡ get m a
same_owner m o a e = get_tied nat_list_cmp_total m a o ((Equal-is _).0 e)

-- the targets of an owner in the place of others, of which `told` says what they have
at_owner : (c : Bool) (value : Bool) (had : Option (ById (Unit {0}))) (now : ById (Unit {0})) (there : Option (ById (Unit {0}))) (t b : List ℕ)
    → has_target (Some now) b ≡ cond (at b t) value (has_target had b) → (c ≡ true → had ≡ there)
    → has_target (cond c (Some now) there) b ≡ cond (c && at b t) value (has_target there b)
at_owner true value had now there t b told same = told ∙ ap (λ g. cond (at b t) value (has_target g b)) (same refl)
at_owner false value had now there t b told same = refl

no_more : (c d x : Bool) → (c ≡ true → x ≡ false) → x ≡ cond (c && d) false x
no_more true true x e = e refl
no_more true false x e = refl
no_more false d x e = refl

without : (m : ById (ById (Unit {0}))) (o t a b : List ℕ) (g : Option (ById (Unit {0}))) → g ≡ get m o
    → has_target (get (without_target m o t g) a) b ≡ cond (at a o && at b t) false (has_target (get m a) b)
without m o t a b None found = no_more (at a o) (at b t) _ (λ e. ap (λ g. has_target g b) (sym (found ∙ same_owner m o a e)))
without m o t a b (Some ts) found =
    ap (λ g. has_target g b) (get-insert nat_list_cmp_total m o (remove ts t) a)
    ∙ at_owner (at a o) false (Some ts) (remove ts t) (get m a) t b (has_without ts t b) (λ e. found ∙ same_owner m o a e)

as_bytes : (r : Record) (o t a b : List ℕ) (value : Bool) → cond (at a o && at b t) value (blocks r a b) ≡ cond (bytes_eq a o && bytes_eq b t) value (blocks r a b)
as_bytes r o t a b value = ap₂ (λ x y. cond (x && y) value (blocks r a b)) (is_eq-slice_cmp a o) (is_eq-slice_cmp b t)

-- after a block the owner blocks the target, and else who blocked whom before
pub blocks_after_block : (r : Record) (o t a b : List ℕ) → blocks (after_block r o t) a b ≡ cond (bytes_eq a o && bytes_eq b t) true (blocks r a b)
blocks_after_block r o t a b =
    ap (λ g. has_target g b) (get-insert nat_list_cmp_total r.blocks o (with_target (get r.blocks o) t) a)
    ∙ at_owner (at a o) true (get r.blocks o) (with_target (get r.blocks o) t) (get r.blocks a) t b (has_with (get r.blocks o) t b) (same_owner r.blocks o a)
    ∙ as_bytes r o t a b true

-- after its end the owner doesn't block the target, and else who blocked whom before
pub blocks_after_unblock : (r : Record) (o t a b : List ℕ) → blocks (after_unblock r o t) a b ≡ cond (bytes_eq a o && bytes_eq b t) false (blocks r a b)
blocks_after_unblock r o t a b = without r.blocks o t a b (get r.blocks o) refl ∙ as_bytes r o t a b false
