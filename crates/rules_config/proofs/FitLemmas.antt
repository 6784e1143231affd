-- What is in range in each configuration that a file has.
use Rattle.std.proofs.Common.{◌≡◌, ℕ, ◌+◌, ◌<◌, ◌≤◌, Bool, true, false, cond, ◌&&◌, leb, List, [], ◌∷◌, ◌++◌, length, Option, Some, None, Result, Ok, Err, inl, inr, refl, arith, codes}
use Rattle.std.specs.Prelude.{All, IfSome, nat_eq}
use Rattle.std.specs.Str.{chars}
use Rattle.std.proofs.lemmas.Bool.{leb-true}
use Rattle.std.proofs.lemmas.List.{length-append}
use Rattle.std.proofs.lemmas.List.Elements.{All-nil}
use Rattle.serde_json.specs.Data.{Data}
use Rattle.serde_json.specs.Find.{get}
use Rattle.ps_data.specs.declared.fault.Fault.{Fault}
use Rattle.ps_data.specs.declared.fault.DataKind.TheVariants.{Range, Unknown}
use Rattle.ps_data.specs.Paths.{Key, Index}
use Rattle.ps_data.specs.Reading.{refuse, under, required, optional}
use Rattle.ps_data.specs.Forms.{json_in, object_in, text_in, array_in, sized_in, number_in}
use Rattle.ps_data.specs.Lists.{each, list_in}
use Rattle.ps_data.specs.OwnIds.{own_id_in}
use Rattle.ps_dex.specs.declared.item.Tables.{Tables}
use Rattle.ps_dex.proofs.Holds.{Holds, after, then, inside, found, needed, may_lack, index_within, each_all}
use Rattle.ps_group.specs.declared.group.Group.{Group}
use Rattle.ps_group.specs.Ranks.{rank_of}
use Rattle.ps_group.specs.Reading.{groups_in}
use Rattle.ps_rules.specs.Versions.{version_in}
use Rattle.ps_rules.specs.Reading.{said_in}
use Rattle.rules_config.specs.declared.settings.ChatRoom.{ChatRoom}
use Rattle.rules_config.specs.declared.settings.Registered.{Registered}
use Rattle.rules_config.specs.declared.settings.Settings.{Settings}
use Rattle.rules_config.specs.Rooms.{lobby, room_in, rooms_at}
use Rattle.rules_config.specs.Users.{rank_named, named_rank_in, default_staff_in, staff_or, staff_at, user_in, users_in}
use Rattle.rules_config.specs.Reading.{greatest_seed, nonce_in, seeds_in, default_groups_of, config_in, config_of, HasFile}
use Rattle.rules_config.specs.Fresh.{with_fresh, IsSaidOrFresh}
use Rattle.rules_config.specs.declared.fresh.Fresh.{Fresh}
use Rattle.rules_config.specs.Ranges.{AreFit}

-- ---- lists of a length between two

abbrev IsBetween : {A : Type 0} → ℕ → ℕ → List A → Type 0
IsBetween low high xs = (low ≤ length xs) × (length xs ≤ high)

each_between : {A : Type 0} (form : List A → List Data → Data → Result A Fault) (low high : ℕ) (before : List A) (ds : List Data) → low ≤ length before + length ds → length before + length ds ≤ high → Holds (IsBetween low high) (each form before ds)
unfolding each
each_between form low high before [] lo hi = (omega (arith, lo), omega (arith, hi))
each_between {A} form low high before (d ∷ more) lo hi =
    then (IsBetween low high) (under (Index (length before)) (form before more d)) (λ x. each form (before ++ x ∷ []) more)
    (λ x. each_between form low high (before ++ x ∷ []) more (omega (arith, lo, length-append before (x ∷ []))) (omega (arith, hi, length-append before (x ∷ []))))

sized_between : (low high : ℕ) (ds : List Data) (a b : Bool) → leb low (length ds) ≡ a → leb (length ds) high ≡ b → Holds (IsBetween low high) (cond (a && b) (Ok ds) (refuse Range))
sized_between low high ds true true l h = (leb-true low (length ds) l, leb-true (length ds) high h)
sized_between low high ds true false l h = tt
sized_between low high ds false b l h = tt

list_between : {A : Type 0} (form : List A → List Data → Data → Result A Fault) (low high : ℕ) (d : Data) → Holds (IsBetween low high) (list_in low high form d)
list_between {A} form low high d =
    after (IsBetween low high) (IsBetween low high) (sized_in low high d) (each form [])
    (then (IsBetween low high) (array_in d) (λ ds. cond (leb low (length ds) && leb (length ds) high) (Ok ds) (refuse Range)) (λ ds. sized_between low high ds (leb low (length ds)) (leb (length ds) high) refl refl))
    (λ ds h. each_between form low high [] ds (omega (arith, h.0)) (omega (arith, h.1)))

-- ---- ranks

abbrev IsRank : List Group → ℕ → Type 0
IsRank groups rank = rank < length groups

rank_within : (symbol : ℕ) (groups : List Group) → IfSome (rank_of symbol groups) (IsRank groups)
rank_within symbol groups = index_within (λ g. nat_eq g.symbol symbol) groups

named_within : (groups : List Group) (cs : List ℕ) → IfSome (rank_named groups cs) (IsRank groups)
named_within groups [] = tt
named_within groups (c ∷ []) = rank_within c groups
named_within groups (c ∷ d ∷ cs) = tt

rank_holds : (groups : List Group) (d : Data) → Holds (IsRank groups) (named_rank_in groups d)
unfolding named_rank_in
rank_holds groups d = then (IsRank groups) (text_in d) _ (λ text. found (IsRank groups) Unknown (rank_named groups (chars text)) (named_within groups (chars text)))

staff_or_holds : (groups : List Group) (o : Option Data) → Holds (IsRank groups) (staff_or groups o)
unfolding default_staff_in
staff_or_holds groups None = found (IsRank groups) Unknown (rank_of 37 groups) (rank_within 37 groups)
staff_or_holds groups (Some d) = rank_holds groups d

staff_holds : (groups : List Group) (d : Data) → Holds (IsRank groups) (staff_at groups d)
unfolding staff_at
staff_holds groups d = inside (IsRank groups) (Key (codes "staff")) (staff_or groups (get (codes "staff") d)) (staff_or_holds groups (get (codes "staff") d))

-- ---- rooms and users

rooms_between : (d : Data) → Holds (IsBetween {A = ChatRoom} 1 16) (rooms_at d)
unfolding rooms_at
rooms_between d = may_lack (IsBetween {A = ChatRoom} 1 16) (codes "rooms") (lobby ∷ []) (list_in 1 16 (λ before more. room_in before)) d (omega arith, omega arith) (list_between (λ before more. room_in before) 1 16)

abbrev IsRanked : List Group → Registered → Type 0
IsRanked groups u = u.rank < length groups

user_ranked : (groups : List Group) (before : List Registered) (d : Data) → Holds (IsRanked groups) (user_in groups before d)
unfolding user_in
user_ranked groups before d =
    then (IsRanked groups) (object_in d) _ (λ u.
    then (IsRanked groups) (required (codes "id") (own_id_in (λ (u : Registered). u.id) before) d) _ (λ id.
    then (IsRanked groups) (required (codes "secret") text_in d) _ (λ secret.
    after (IsRank groups) (IsRanked groups) (required (codes "group") (named_rank_in groups) d) _ (needed (IsRank groups) (codes "group") (named_rank_in groups) d (rank_holds groups)) (λ rank h. h))))

users_ranked : (groups : List Group) (d : Data) → Holds (All (IsRanked groups)) (users_in groups d)
unfolding users_in
users_ranked groups d = then (All (IsRanked groups)) (array_in d) (each (λ before more. user_in groups before) []) (λ ds. each_all (IsRanked groups) (λ before more. user_in groups before) (λ before more v. user_ranked groups before v) ds)

-- ---- the whole

all_fit : (dex : Tables) (d : Data) → Holds AreFit (config_in dex d)
unfolding config_in
all_fit dex d =
    then AreFit (object_in d) _ (λ u.
    then AreFit (version_in d) _ (λ version.
    then AreFit (optional (codes "groups") (default_groups_of version) groups_in d) _ (λ groups.
    after (IsRank groups) AreFit (staff_at groups d) _ (staff_holds groups d) (λ staff s.
    after (IsBetween {A = ChatRoom} 1 16) AreFit (rooms_at d) _ (rooms_between d) (λ rooms r.
    after (All (IsRanked groups)) AreFit (optional (codes "users") [] (users_in groups) d) _ (may_lack (All (IsRanked groups)) (codes "users") [] (users_in groups) d (All-nil (IsRanked groups)) (users_ranked groups)) (λ users h.
    then AreFit (said_in version dex d) _ (λ formats.
    then AreFit (optional (codes "nonce") (codes "0") nonce_in d) _ (λ nonce.
    then AreFit (optional (codes "seed") 0 (number_in 0 greatest_seed) d) _ (λ seed.
    then AreFit (optional (codes "seeds") [] seeds_in d) _ (λ seeds.
    record { staff = s; some_rooms = r.0; few_rooms = r.1; users = h }))))))))))

bytes_fit : (dex : Tables) (bytes : List ℕ) → Holds AreFit (config_of dex bytes)
unfolding config_of
bytes_fit dex bytes = then AreFit (json_in bytes) (config_in dex) (all_fit dex)

let_through : (r : Result Settings Fault) (s : Settings) → r ≡ Ok s → Holds AreFit r → AreFit s
let_through (Ok t) s is h = let e : t ≡ s = cc in rw (← e) h
let_through (Err fault) s is h = absurd cc

-- no range is of the nonce or the seed
with_fresh_fit : (fresh : Fresh) (said : Settings) → AreFit said → AreFit (with_fresh fresh said)
with_fresh_fit fresh said fit = record { staff = fit.staff; some_rooms = fit.some_rooms; few_rooms = fit.few_rooms; users = fit.users }

kept_fit : (said s : Settings) → IsSaidOrFresh said s → AreFit said → AreFit s
kept_fit said s (inl same) fit = rw same fit
kept_fit said s (inr (fresh, is)) fit = rw is (with_fresh_fit fresh said fit)

pub file_fit : (s : Settings) → HasFile s → AreFit s
file_fit s file = kept_fit file.said s file.kept (let_through (config_of file.dex file.bytes) file.said file.says (bytes_fit file.dex file.bytes))
