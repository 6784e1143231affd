-- What a dex file says has its numbers in their ranges.
use Rattle.std.proofs.Common.{inl, inr, ◌≡◌, ◌≢◌, ◌⊎◌, ℕ, zero, suc, ℤ, pos, negsuc, ◌+◌, ◌<◌, ◌≤◌, ◌≤ℤ◌, ◌==◌, Bool, true, false, cond, not, ◌&&◌, ◌||◌, eqb, List, [], ◌∷◌, ◌++◌, length, Option, Some, None, Result, Ok, Err, refl, arith, codes, rules}
use Rattle.std.specs.Prelude.{IfSome, All, position, bytes_eq, is_some, int_le}
use Rattle.std.proofs.lemmas.Bool.{eqb-true}
use Rattle.std.proofs.lemmas.List.Elements.{All-nil}
use Rattle.serde_json.specs.Data.{Data}
use Rattle.ps_base.specs.Ids.{id_of}
use Rattle.ps_data.specs.declared.fault.Fault.{Fault}
use Rattle.ps_data.specs.declared.fault.DataKind.TheVariants.{Range, Unknown, Repeat}
use Rattle.ps_data.specs.Paths.{Index}
use Rattle.ps_data.specs.Reading.{◌>>=◌, refuse, some_or, ensure, under, required, optional}
use Rattle.ps_data.specs.Forms.{json_in, object_in, text_in, boolean_in, number_in, integer_in, array_in}
use Rattle.ps_data.specs.Lists.{each, list_at, entries_at}
use Rattle.ps_data.specs.OwnIds.{key_id_in}
use Rattle.ps_data.specs.Words.{meaning, word_in}
use Rattle.ps_mon.specs.declared.status.Status.{Status}
use Rattle.ps_mon.specs.declared.status.Status.TheVariants as statuses
use Rattle.ps_mon.specs.declared.effect.Effect.{Effect}
use Rattle.ps_mon.specs.declared.effect.Effect.TheVariants as effects
use Rattle.ps_mon.specs.declared.facts.MoveData.{MoveData}
use Rattle.ps_mon.specs.Facts.{IsFairEffect, IsFairMove, IsFactor}
use Rattle.ps_dex.specs.declared.kind.Kind.{Kind}
use Rattle.ps_dex.specs.declared.kind.Kind.TheVariants as kinds
use Rattle.ps_dex.specs.declared.item.TypeItem.{TypeItem}
use Rattle.ps_dex.specs.declared.item.FactorItem.{FactorItem}
use Rattle.ps_dex.specs.declared.item.MoveItem.{MoveItem}
use Rattle.ps_dex.specs.declared.item.SpeciesItem.{SpeciesItem}
use Rattle.ps_dex.specs.declared.item.AliasItem.{AliasItem}
use Rattle.ps_dex.specs.declared.item.Tables.{Tables}
use Rattle.ps_dex.specs.Names.{own_name_in}
use Rattle.ps_dex.specs.Kinds.{kind_words}
use Rattle.ps_dex.specs.Effects.{status_words, aim_words, stat_words, screen_words, copy_words, chance_in, fixed_in, status_effect_in, confuse_in, flinch_in, stages_in, boost_in, recoil_in, double_in, charge_in, screen_in, copy_in, effect_of, effect_in}
use Rattle.ps_dex.specs.Types.{type_index, type_in, type_item_in}
use Rattle.ps_dex.specs.Factors.{tenths_in, has_pair, parts_in, three_parts_in, factor_item_in, factors_in}
use Rattle.ps_dex.specs.Moves.{move_index, numbers_in, move_item_in, move_name_in}
use Rattle.ps_dex.specs.Species.{species_index, other_type_in, one_type_in, two_types_in, types_of, types_in, base_stat_in, five_stats_in, stats_of, stats_in, has_number, learned_in, learns_in, species_item_in}
use Rattle.ps_dex.specs.Aliases.{alias_item_in}
use Rattle.ps_dex.specs.Tables.{tables_in, tables_of}
use Rattle.ps_dex.specs.Fit.{IsFitSpecies, IsFitAlias, AreFit}
use Rattle.ps_dex.proofs.Holds.{Holds, after, then, inside, anything, found, tested, needed, may_lack, number_within, integer_within, all_cons, one_all, index_within, each_all, list_holds, entries_hold}

-- ---- effects

abbrev Given : Status → Type 0
Given s = s ≢ statuses.Healthy

pick : (b : Bool) (s : Status) (o : Option Status) → Given s → IfSome o Given → IfSome (cond b (Some s) o) Given
pick true s o p h = p
pick false s o p h = h

status_given : (name : List ℕ) → IfSome (meaning status_words name) Given
unfolding status_words
status_given name =
    pick (bytes_eq name (codes "slp")) statuses.Slp _ (search rules) (
    pick (bytes_eq name (codes "par")) statuses.Par _ (search rules) (
    pick (bytes_eq name (codes "brn")) statuses.Brn _ (search rules) (
    pick (bytes_eq name (codes "psn")) statuses.Psn _ (search rules) (
    pick (bytes_eq name (codes "tox")) statuses.Tox _ (search rules) (
    pick (bytes_eq name (codes "frz")) statuses.Frz None (search rules) tt)))))

status_holds : (d : Data) → Holds Given (required (codes "status") (word_in status_words) d)
status_holds d = needed Given (codes "status") (word_in status_words) d (λ v. then Given (text_in v) (λ name. some_or Unknown (meaning status_words name)) (λ name. found Given Unknown (meaning status_words name) (status_given name)))

abbrev IsChance : ℕ → Type 0
IsChance n = (0 ≤ n) × (n ≤ 256)

chance_holds : (d : Data) → Holds IsChance (chance_in d)
chance_holds d = may_lack IsChance (codes "chance") 256 (number_in 0 256) d (omega arith, omega arith) (number_within 0 256)

fixed_fair : (d : Data) → Holds IsFairEffect (fixed_in d)
unfolding fixed_in
fixed_fair d = after (λ n. (1 ≤ n) × (n ≤ 713)) IsFairEffect (required (codes "amount") (number_in 1 713) d) (λ amount. Ok (effects.Fixed amount)) (needed (λ n. (1 ≤ n) × (n ≤ 713)) (codes "amount") (number_in 1 713) d (number_within 1 713)) (λ n h. h)

status_fair : (d : Data) → Holds IsFairEffect (status_effect_in d)
unfolding status_effect_in
status_fair d =
    after Given IsFairEffect (required (codes "status") (word_in status_words) d) (λ status. chance_in d >>= λ chance. Ok (effects.Status status chance)) (status_holds d)
    (λ status given. after IsChance IsFairEffect (chance_in d) (λ chance. Ok (effects.Status status chance)) (chance_holds d) (λ chance h. (given, h.1)))

double_fair : (d : Data) → Holds IsFairEffect (double_in d)
unfolding double_in
double_fair d =
    after Given IsFairEffect (required (codes "status") (word_in status_words) d) (λ status. chance_in d >>= λ chance. Ok (effects.Double status chance)) (status_holds d)
    (λ status given. after IsChance IsFairEffect (chance_in d) (λ chance. Ok (effects.Double status chance)) (chance_holds d) (λ chance h. (given, h.1)))

confuse_fair : (d : Data) → Holds IsFairEffect (confuse_in d)
unfolding confuse_in
confuse_fair d = after IsChance IsFairEffect (chance_in d) (λ chance. Ok (effects.Confuse chance)) (chance_holds d) (λ chance h. h.1)

flinch_fair : (d : Data) → Holds IsFairEffect (flinch_in d)
unfolding flinch_in
flinch_fair d = after IsChance IsFairEffect (chance_in d) (λ chance. Ok (effects.Flinch chance)) (chance_holds d) (λ chance h. h.1)

abbrev AreStages : ℤ → Type 0
AreStages z = (negsuc 5 ≤ℤ z) × (z ≤ℤ pos 6) × (z ≢ pos 0)

some_stages : (z : ℤ) → not (int_le (pos 0) z && int_le z (pos 0)) ≡ true → z ≢ pos 0
some_stages z h e = absurd (let k = rw e at h in cc)

stages_hold : (d : Data) → Holds AreStages (stages_in d)
unfolding stages_in
stages_hold d =
    after (λ z. (negsuc 5 ≤ℤ z) × (z ≤ℤ pos 6)) AreStages (integer_in (negsuc 5) (pos 6) d) (λ by. ensure Range (not (int_le (pos 0) by && int_le by (pos 0))) >>= λ u. Ok by) (integer_within (negsuc 5) (pos 6) d)
    (λ z h. tested AreStages Range (not (int_le (pos 0) z && int_le z (pos 0))) (λ u. Ok z) (λ e. (h.0, h.1, some_stages z e)))

boost_fair : (d : Data) → Holds IsFairEffect (boost_in d)
unfolding boost_in
boost_fair d =
    then IsFairEffect (required (codes "who") (word_in aim_words) d) _ (λ who.
    then IsFairEffect (required (codes "stat") (word_in stat_words) d) _ (λ stat.
    after AreStages IsFairEffect (required (codes "by") stages_in d) _ (needed AreStages (codes "by") stages_in d stages_hold) (λ by h.
    after IsChance IsFairEffect (chance_in d) (λ chance. Ok (effects.Boost who stat by chance)) (chance_holds d) (λ chance c. (h.0, h.1, h.2, c.1)))))

recoil_fair : (d : Data) → Holds IsFairEffect (recoil_in d)
unfolding recoil_in
recoil_fair d = after (λ n. (1 ≤ n) × (n ≤ 255)) IsFairEffect (required (codes "by") (number_in 1 255) d) (λ by. Ok (effects.Recoil by)) (needed (λ n. (1 ≤ n) × (n ≤ 255)) (codes "by") (number_in 1 255) d (number_within 1 255)) (λ n h. h)

charge_fair : (d : Data) → Holds IsFairEffect (charge_in d)
unfolding charge_in
charge_fair d = then IsFairEffect (optional (codes "away") false boolean_in d) (λ away. Ok (effects.Charge away)) (λ away. tt)

screen_fair : (d : Data) → Holds IsFairEffect (screen_in d)
unfolding screen_in
screen_fair d = then IsFairEffect (required (codes "which") (word_in screen_words) d) (λ which. Ok (effects.Screen which)) (λ which. tt)

copy_fair : (d : Data) → Holds IsFairEffect (copy_in d)
unfolding copy_in
copy_fair d = then IsFairEffect (required (codes "sub") (word_in copy_words) d) (λ sub. Ok (effects.Copy sub)) (λ sub. tt)

kind_fair : (kind : Kind) (d : Data) → Holds IsFairEffect (effect_of kind d)
kind_fair kinds.Plain d = tt
kind_fair kinds.Fixed d = fixed_fair d
kind_fair kinds.Level d = tt
kind_fair kinds.Half d = tt
kind_fair kinds.Psywave d = tt
kind_fair kinds.Ohko d = tt
kind_fair kinds.Status d = status_fair d
kind_fair kinds.Confuse d = confuse_fair d
kind_fair kinds.Flinch d = flinch_fair d
kind_fair kinds.Boost d = boost_fair d
kind_fair kinds.Drain d = tt
kind_fair kinds.DreamEater d = tt
kind_fair kinds.Recoil d = recoil_fair d
kind_fair kinds.Crash d = tt
kind_fair kinds.Multi d = tt
kind_fair kinds.Double d = double_fair d
kind_fair kinds.Explode d = tt
kind_fair kinds.Charge d = charge_fair d
kind_fair kinds.Recharge d = tt
kind_fair kinds.Trap d = tt
kind_fair kinds.Thrash d = tt
kind_fair kinds.Bide d = tt
kind_fair kinds.Rage d = tt
kind_fair kinds.Counter d = tt
kind_fair kinds.Substitute d = tt
kind_fair kinds.LeechSeed d = tt
kind_fair kinds.Screen d = screen_fair d
kind_fair kinds.Mist d = tt
kind_fair kinds.Focus d = tt
kind_fair kinds.Haze d = tt
kind_fair kinds.Heal d = tt
kind_fair kinds.Rest d = tt
kind_fair kinds.Copy d = copy_fair d
kind_fair kinds.Nothing d = tt

effect_fair : (d : Data) → Holds IsFairEffect (effect_in d)
unfolding effect_in
effect_fair d =
    then IsFairEffect (object_in d) (λ u. required (codes "kind") (word_in kind_words) d >>= λ kind. effect_of kind d)
    (λ u. then IsFairEffect (required (codes "kind") (word_in kind_words) d) (λ kind. effect_of kind d) (λ kind. kind_fair kind d))

-- ---- types and factors

pub type_within : (types : List TypeItem) (d : Data) → Holds (λ t. t < length types) (type_in types d)
unfolding type_in type_index
type_within types d =
    then (λ t. t < length types) (text_in d) (λ text. some_or Unknown (position (λ t. bytes_eq t.id (id_of text)) types))
    (λ text. found (λ t. t < length types) Unknown (position (λ t. bytes_eq t.id (id_of text)) types) (index_within (λ t. bytes_eq t.id (id_of text)) types))

factor_of_test : (n : ℕ) → (n == 0 || n == 5 || n == 10 || n == 20) ≡ true → IsFactor n
factor_of_test n e = by_test (eqb n 0) (eqb n 5) (eqb n 10) (eqb n 20) refl refl refl refl e where
  by_test : (a b c f : Bool) → eqb n 0 ≡ a → eqb n 5 ≡ b → eqb n 10 ≡ c → eqb n 20 ≡ f → (a || b || c || f) ≡ true → IsFactor n
  by_test true b c f p q r s t = inl (eqb-true n 0 p)
  by_test false true c f p q r s t = inr (inl (eqb-true n 5 q))
  by_test false false true f p q r s t = inr (inr (inl (eqb-true n 10 r)))
  by_test false false false true p q r s t = inr (inr (inr (eqb-true n 20 s)))
  by_test false false false false p q r s t = absurd cc

tenths_hold : (d : Data) → Holds IsFactor (tenths_in d)
unfolding tenths_in
tenths_hold d = then IsFactor (number_in 0 20 d) (λ n. ensure Range (n == 0 || n == 5 || n == 10 || n == 20) >>= λ u. Ok n) (λ n. tested IsFactor Range (n == 0 || n == 5 || n == 10 || n == 20) (λ u. Ok n) (factor_of_test n))

abbrev IsItem : FactorItem → Type 0
IsItem r = IsFactor r.tenths

parts_hold : (types : List TypeItem) (a d f : Data) → Holds IsItem (parts_in types a d f)
unfolding parts_in
parts_hold types a d f =
    then IsItem (under (Index 0) (type_in types a)) _ (λ attack.
    then IsItem (under (Index 1) (type_in types d)) _ (λ defend.
    after IsFactor IsItem (under (Index 2) (tenths_in f)) (λ tenths. Ok (record { attack = attack; defend = defend; tenths = tenths })) (inside IsFactor (Index 2) (tenths_in f) (tenths_hold f)) (λ tenths h. h)))

three_hold : (types : List TypeItem) (ds : List Data) → Holds IsItem (three_parts_in types ds)
three_hold types [] = tt
three_hold types (a ∷ []) = tt
three_hold types (a ∷ d ∷ []) = tt
three_hold types (a ∷ d ∷ f ∷ []) = parts_hold types a d f
three_hold types (a ∷ d ∷ f ∷ e ∷ more) = tt

item_holds : (types : List TypeItem) (before : List FactorItem) (d : Data) → Holds IsItem (factor_item_in types before d)
unfolding factor_item_in
item_holds types before d =
    then IsItem (array_in d) _ (λ parts.
    after IsItem IsItem (three_parts_in types parts) (λ item. ensure Repeat (not (has_pair item.attack item.defend before)) >>= λ u. Ok item) (three_hold types parts) (λ item h.
    tested IsItem Repeat (not (has_pair item.attack item.defend before)) (λ u. Ok item) (λ e. h)))

factors_hold : (types : List TypeItem) (d : Data) → Holds (All IsItem) (factors_in types d)
unfolding factors_in
factors_hold types d = then (All IsItem) (array_in d) (each (λ before more. factor_item_in types before) []) (λ ds. each_all IsItem (λ before more. factor_item_in types before) (λ before more v. item_holds types before v) ds)

-- ---- moves

numbers_fair : (types : List TypeItem) (d : Data) → length types ≤ 32 → Holds IsFairMove (numbers_in types d)
unfolding numbers_in
numbers_fair types d few =
    after (λ t. t < length types) IsFairMove (required (codes "type") (type_in types) d) _ (needed (λ t. t < length types) (codes "type") (type_in types) d (type_within types)) (λ kind k.
    after (λ n. (0 ≤ n) × (n ≤ 255)) IsFairMove (required (codes "power") (number_in 0 255) d) _ (needed (λ n. (0 ≤ n) × (n ≤ 255)) (codes "power") (number_in 0 255) d (number_within 0 255)) (λ power p.
    after (λ n. (0 ≤ n) × (n ≤ 100)) IsFairMove (required (codes "accuracy") (number_in 0 100) d) _ (needed (λ n. (0 ≤ n) × (n ≤ 100)) (codes "accuracy") (number_in 0 100) d (number_within 0 100)) (λ accuracy a.
    after (λ n. (1 ≤ n) × (n ≤ 64)) IsFairMove (required (codes "pp") (number_in 1 64) d) _ (needed (λ n. (1 ≤ n) × (n ≤ 64)) (codes "pp") (number_in 1 64) d (number_within 1 64)) (λ pp q.
    after (λ z. (negsuc 0 ≤ℤ z) × (z ≤ℤ pos 1)) IsFairMove (required (codes "priority") (integer_in (negsuc 0) (pos 1)) d) _ (needed (λ z. (negsuc 0 ≤ℤ z) × (z ≤ℤ pos 1)) (codes "priority") (integer_in (negsuc 0) (pos 1)) d (integer_within (negsuc 0) (pos 1))) (λ priority z.
    then IsFairMove (optional (codes "high") false boolean_in d) _ (λ high.
    after IsFairEffect IsFairMove (optional (codes "effect") effects.Plain effect_in d) _ (may_lack IsFairEffect (codes "effect") effects.Plain effect_in d tt effect_fair) (λ effect e.
    record { kind = omega (arith, k, few); power = p.1; accuracy = a.1; pp_low = q.0; pp_high = q.1; priority_low = z.0; priority_high = z.1; effect = e })))))))

abbrev IsFairItem : MoveItem → Type 0
IsFairItem m = IsFairMove m.numbers

move_fair : (types : List TypeItem) (before : List MoveItem) (d : Data) → length types ≤ 32 → Holds IsFairItem (move_item_in types before d)
unfolding move_item_in
move_fair types before d few =
    then IsFairItem (object_in d) _ (λ u.
    then IsFairItem (required (codes "name") (move_name_in before) d) _ (λ named.
    after IsFairMove IsFairItem (numbers_in types d) _ (numbers_fair types d few) (λ numbers h. h)))

-- ---- species

other_within : (types : List TypeItem) (first : ℕ) (d : Data) → Holds (λ t. t < length types) (other_type_in types first d)
unfolding other_type_in
other_within types first d =
    after (λ t. t < length types) (λ t. t < length types) (type_in types d) (λ second. ensure Repeat (not (second == first)) >>= λ u. Ok second) (type_within types d)
    (λ second h. tested (λ t. t < length types) Repeat (not (second == first)) (λ u. Ok second) (λ e. h))

one_within : (types : List TypeItem) (a : Data) → Holds (All (λ t. t < length types)) (one_type_in types a)
unfolding one_type_in
one_within types a =
    after (λ t. t < length types) (All (λ t. t < length types)) (under (Index 0) (type_in types a)) (λ only. Ok (only ∷ only ∷ [])) (inside (λ t. t < length types) (Index 0) (type_in types a) (type_within types a))
    (λ only h. all_cons (λ t. t < length types) only (only ∷ []) h (one_all (λ t. t < length types) only h))

two_within : (types : List TypeItem) (a b : Data) → Holds (All (λ t. t < length types)) (two_types_in types a b)
unfolding two_types_in
two_within types a b =
    after (λ t. t < length types) (All (λ t. t < length types)) (under (Index 0) (type_in types a)) (λ first. under (Index 1) (other_type_in types first b) >>= λ second. Ok (first ∷ second ∷ [])) (inside (λ t. t < length types) (Index 0) (type_in types a) (type_within types a))
    (λ first h. after (λ t. t < length types) (All (λ t. t < length types)) (under (Index 1) (other_type_in types first b)) (λ second. Ok (first ∷ second ∷ [])) (inside (λ t. t < length types) (Index 1) (other_type_in types first b) (other_within types first b))
    (λ second k. all_cons (λ t. t < length types) first (second ∷ []) h (one_all (λ t. t < length types) second k)))

own_types_hold : (types : List TypeItem) (ds : List Data) → Holds (All (λ t. t < length types)) (types_of types ds)
own_types_hold types [] = tt
own_types_hold types (a ∷ []) = one_within types a
own_types_hold types (a ∷ b ∷ []) = two_within types a b
own_types_hold types (a ∷ b ∷ c ∷ more) = tt

types_hold : (types : List TypeItem) (d : Data) → Holds (All (λ t. t < length types)) (types_in types d)
unfolding types_in
types_hold types d = then (All (λ t. t < length types)) (array_in d) (types_of types) (own_types_hold types)

abbrev IsBase : ℕ → Type 0
IsBase n = (1 ≤ n) × (n ≤ 255)

base_holds : (index : ℕ) (d : Data) → Holds IsBase (base_stat_in index d)
base_holds index d = inside IsBase (Index index) (number_in 1 255 d) (number_within 1 255 d)

five_hold : (a b c d e : Data) → Holds (All IsBase) (five_stats_in a b c d e)
unfolding five_stats_in
five_hold a b c d e =
    after IsBase (All IsBase) (base_stat_in 0 a) _ (base_holds 0 a) (λ hp h.
    after IsBase (All IsBase) (base_stat_in 1 b) _ (base_holds 1 b) (λ attack i.
    after IsBase (All IsBase) (base_stat_in 2 c) _ (base_holds 2 c) (λ defense j.
    after IsBase (All IsBase) (base_stat_in 3 d) _ (base_holds 3 d) (λ special k.
    after IsBase (All IsBase) (base_stat_in 4 e) _ (base_holds 4 e) (λ speed l.
    all_cons IsBase hp (attack ∷ defense ∷ special ∷ speed ∷ []) h (all_cons IsBase attack (defense ∷ special ∷ speed ∷ []) i (all_cons IsBase defense (special ∷ speed ∷ []) j (all_cons IsBase special (speed ∷ []) k (one_all IsBase speed l)))))))))

own_stats_hold : (ds : List Data) → Holds (All IsBase) (stats_of ds)
own_stats_hold [] = tt
own_stats_hold (a ∷ []) = tt
own_stats_hold (a ∷ b ∷ []) = tt
own_stats_hold (a ∷ b ∷ c ∷ []) = tt
own_stats_hold (a ∷ b ∷ c ∷ d ∷ []) = tt
own_stats_hold (a ∷ b ∷ c ∷ d ∷ e ∷ []) = five_hold a b c d e
own_stats_hold (a ∷ b ∷ c ∷ d ∷ e ∷ f ∷ more) = tt

stats_hold : (d : Data) → Holds (All IsBase) (stats_in d)
unfolding stats_in
stats_hold d = then (All IsBase) (array_in d) stats_of own_stats_hold

learned_within : (moves : List MoveItem) (before : List ℕ) (d : Data) → Holds (λ mv. mv < length moves) (learned_in moves before d)
unfolding learned_in move_index
learned_within moves before d =
    then (λ mv. mv < length moves) (text_in d) _ (λ text.
    after (λ mv. mv < length moves) (λ mv. mv < length moves) (some_or Unknown (position (λ m. bytes_eq m.id (id_of text)) moves)) (λ mv. ensure Repeat (not (has_number mv before)) >>= λ u. Ok mv) (found (λ mv. mv < length moves) Unknown (position (λ m. bytes_eq m.id (id_of text)) moves) (index_within (λ m. bytes_eq m.id (id_of text)) moves)) (λ mv h.
    tested (λ mv. mv < length moves) Repeat (not (has_number mv before)) (λ u. Ok mv) (λ e. h)))

learns_hold : (moves : List MoveItem) (d : Data) → Holds (All (λ mv. mv < length moves)) (learns_in moves d)
unfolding learns_in
learns_hold moves d = then (All (λ mv. mv < length moves)) (array_in d) (each (λ before more. learned_in moves before) []) (λ ds. each_all (λ mv. mv < length moves) (λ before more. learned_in moves before) (λ before more v. learned_within moves before v) ds)

species_fit : (types : List TypeItem) (moves : List MoveItem) (before : List SpeciesItem) (d : Data) → Holds (IsFitSpecies (length types) (length moves)) (species_item_in types moves before d)
unfolding species_item_in
species_fit types moves before d =
    let P : SpeciesItem → Type 0 = IsFitSpecies (length types) (length moves) in
    then P (object_in d) _ (λ u.
    then P (required (codes "name") (own_name_in (λ (s : SpeciesItem). s.id) before) d) _ (λ named.
    after (All (λ t. t < length types)) P (required (codes "types") (types_in types) d) _ (needed (All (λ t. t < length types)) (codes "types") (types_in types) d (types_hold types)) (λ own_types h.
    after (All IsBase) P (required (codes "stats") stats_in d) _ (needed (All IsBase) (codes "stats") stats_in d stats_hold) (λ stats i.
    after (All (λ mv. mv < length moves)) P (required (codes "learns") (learns_in moves) d) _ (needed (All (λ mv. mv < length moves)) (codes "learns") (learns_in moves) d (learns_hold moves)) (λ learns j.
    record { types = h; stats = i; learns = j })))))

-- ---- aliases

alias_fit : (species : List SpeciesItem) (moves : List MoveItem) (before : List AliasItem) (key : List ℕ) (d : Data) → Holds (IsFitAlias (length species) (length moves)) (alias_item_in species moves before key d)
unfolding alias_item_in species_index move_index
alias_fit species moves before key d =
    let P : AliasItem → Type 0 = IsFitAlias (length species) (length moves) in
    then P (key_id_in (λ (a : AliasItem). a.id) before key) _ (λ id.
    then P (text_in d) _ (λ text.
    tested P Unknown (is_some (position (λ s. bytes_eq s.id (id_of text)) species) || is_some (position (λ m. bytes_eq m.id (id_of text)) moves)) _ (λ e.
    record { species = index_within (λ s. bytes_eq s.id (id_of text)) species; mv = index_within (λ m. bytes_eq m.id (id_of text)) moves })))

-- ---- all of it

all_fit : (d : Data) → Holds AreFit (tables_in d)
unfolding tables_in
all_fit d =
    then AreFit (object_in d) _ (λ u.
    after (λ types. All (λ t. Unit {0}) types × (length types ≤ 32)) AreFit (list_at (codes "types") 0 32 (λ before more. type_item_in before) d) _ (list_holds (λ t. Unit {0}) (codes "types") 32 (λ before more. type_item_in before) d (λ before more v. anything (type_item_in before v))) (λ types h.
    after (All IsItem) AreFit (optional (codes "factors") [] (factors_in types) d) _ (may_lack (All IsItem) (codes "factors") [] (factors_in types) d (All-nil IsItem) (factors_hold types)) (λ factors f.
    after (λ moves. All IsFairItem moves × (length moves ≤ 1024)) AreFit (list_at (codes "moves") 0 1024 (λ before more. move_item_in types before) d) _ (list_holds IsFairItem (codes "moves") 1024 (λ before more. move_item_in types before) d (λ before more v. move_fair types before v h.1)) (λ moves m.
    after (λ species. All (IsFitSpecies (length types) (length moves)) species × (length species ≤ 1024)) AreFit (list_at (codes "species") 0 1024 (λ before more. species_item_in types moves before) d) _ (list_holds (IsFitSpecies (length types) (length moves)) (codes "species") 1024 (λ before more. species_item_in types moves before) d (λ before more v. species_fit types moves before v)) (λ species s.
    after (All (IsFitAlias (length species) (length moves))) AreFit (entries_at (codes "aliases") (λ before key. alias_item_in species moves before key) d) _ (entries_hold (IsFitAlias (length species) (length moves)) (codes "aliases") (λ before key. alias_item_in species moves before key) d (λ before key v. alias_fit species moves before key v)) (λ aliases a.
    record { few_types = h.1; few_moves = m.1; few_species = s.1; factors = f; moves = m.0; species = s.0; aliases = a }))))))

-- what the bytes of a dex file say
pub bytes_fit : (bytes : List ℕ) → Holds AreFit (tables_of bytes)
unfolding tables_of
bytes_fit bytes = then AreFit (json_in bytes) tables_in all_fit
