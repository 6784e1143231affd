-- A list of groups that was read has 1 to 16 of them, and a fault stands at one of the first seventeen indices.
use Rattle.std.proofs.Common.{◌≡◌, ℕ, ◌+◌, ◌<◌, ◌≤◌, Bool, true, false, cond, ltb, List, [], ◌∷◌, ◌++◌, length, Option, Some, None, option_map, ◌^◌, Result, Ok, Err, refl, arith}
use Rattle.std.proofs.lemmas.Bool.{ltb-true}
use Rattle.std.proofs.lemmas.List.{length-append}
use Rattle.serde_json.specs.Data.{Data}
use Rattle.ps_data.specs.declared.fault.Fault.{Fault}
use Rattle.ps_data.specs.declared.fault.DataKind.TheVariants.{Shape, Range}
use Rattle.ps_data.specs.Paths.{Index, first_index}
use Rattle.ps_data.specs.Reading.{◌>>=◌, refuse, some_or, ensure, under}
use Rattle.ps_data.specs.Forms.{list_of}
use Rattle.serde_json.specs.Find.{as_array}
use Rattle.ps_data.specs.Lists.{each}
use Rattle.ps_group.specs.declared.group.Group.{Group}
use Rattle.ps_group.specs.Reading.{group_in, group_in_sixteen, groups_in}

abbrev Near : ℕ → Result (List Group) Fault → Type 0
Near least (Ok groups) = (least ≤ length groups) × (length groups ≤ 16)
Near least (Err fault) = first_index fault.path ≤ 16

-- one more group
step : (before : List Group) (ds : List Data) (b : Bool) (r : Result Group Fault) (least : ℕ) → ltb (length before) 16 ≡ b → length before ≤ 16
    → ((x : Group) → length before < 16 → Near least (each group_in_sixteen (before ++ x ∷ []) ds))
    → Near least (under (Index (length before)) (cond b r (refuse Range)) >>= λ x. each group_in_sixteen (before ++ x ∷ []) ds)
step before ds true (Ok x) least e le rest = rest x (ltb-true _ _ e)
step before ds true (Err fault) least e le rest = le
step before ds false r least e le rest = le

each_near : (before : List Group) (ds : List Data) (least : ℕ) → least ≤ length before + length ds → length before ≤ 16 → Near least (each group_in_sixteen before ds)
unfolding each
each_near before [] least lo le = (omega arith, le)
each_near before (d ∷ ds) least lo le =
    step before ds (ltb (length before) 16) (group_in before ds d) least refl le
    (λ x lt. each_near (before ++ x ∷ []) ds least (omega (arith, length-append before (x ∷ []))) (omega (arith, length-append before (x ∷ []))))

some_near : (ds : List Data) (b : Bool) → ltb 0 (length ds) ≡ b → Near 1 (ensure Range b >>= λ _. each group_in_sixteen [] ds)
some_near ds true e = let lt : 0 < length ds = ltb-true _ _ e in each_near [] ds 1 (omega arith) (omega arith)
some_near ds false e = omega arith

items_near : (o : Option (List Data)) → Near 1 (some_or Shape o >>= λ ds. ensure Range (ltb 0 (length ds)) >>= λ _. each group_in_sixteen [] ds)
items_near (Some ds) = some_near ds (ltb 0 (length ds)) refl
items_near None = omega arith

groups_near : (d : Data) → Near 1 (groups_in d)
unfolding groups_in
groups_near d = items_near (option_map list_of (as_array d))

pub count_near : (d : Data) (groups : List Group) → groups_in d ≡ Ok groups → (0 < length groups) × (length groups ≤ 16)
count_near d groups is = let h = rw is at (groups_near d) in (omega (arith, h), omega (arith, h))

pub index_near : (d : Data) (fault : Fault) → groups_in d ≡ Err fault → first_index fault.path < 2 ^ 32
index_near d fault is = let h = rw is at (groups_near d) in omega (arith, h)
