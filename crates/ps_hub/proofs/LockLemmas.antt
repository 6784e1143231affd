-- The locks of a hub, each at its place.
use Rattle.std.proofs.Common.{◌≡◌, ◌≢◌, ℕ, zero, suc, ◌+◌, ◌-◌, ◌<◌, ◌≤◌, true, false, List, [], ◌∷◌, ◌++◌, map, length, Option, Some, None, option_map, refl, sym, ap, ◌∙◌, subst, inl, inr, arith}
use Rattle.std.specs.Prelude.{nat_lt, slice_get, IfNone}
use Rattle.std.specs.List.{AllZip}
use Rattle.std.proofs.lemmas.Bool.Decides.{nat_tests}
use Rattle.std.proofs.lemmas.List.{length-map}
use Rattle.std.proofs.lemmas.Option.{none-some, same_Some, slice_get_within, slice_get-map}
use Rattle.ps_dex.specs.declared.item.Tables.{Tables}
use Rattle.rules_config.specs.declared.settings.Settings.{Settings}
use Rattle.server_places.specs.declared.site.Site.{Site}
use Rattle.ps_histlock.specs.Seated.{TableId}
use Rattle.ps_histlock.specs.Openers.{unopened}
use Rattle.ps_histlock.specs.declared.view.View.{View}
use Rattle.ps_hub.specs.Hubs.{Hub, site_of, lock_of, name_of, AreAt, IsUnopened}
use Rattle.ps_hub.specs.Names.{IsNoChat, IsBattleId, Names}
use Rattle.ps_hub.specs.Calls.{NamesNone}

-- the origin of the lock at a place
pub origin_at : (config : Settings) (dex : Tables) (first : ℕ) (ls : List (TableId × Site)) (i : ℕ) (l : TableId × Site) → AreAt config dex first ls → slice_get ls i ≡ Some l → l.1 ≡ record { number = first + i; config = config; dex = dex }
origin_at config dex first [] i l are e = absurd (none-some l e)
origin_at config dex first (x ∷ ls) zero l are e =
    ap (λ (y : TableId × Site). y.1) (sym (same_Some x l e)) ∙ are.0 ∙ (let same : first ≡ first + 0 = omega arith in λ i. record { number = same i; config = config; dex = dex })
origin_at config dex first (x ∷ ls) (suc i) l are e =
    origin_at config dex (suc first) ls i l are.1 e ∙ (let same : suc first + i ≡ first + suc i = omega arith in λ j. record { number = same j; config = config; dex = dex })

-- a lock more
pub at_end : (config : Settings) (dex : Tables) (first n : ℕ) (ls : List (TableId × Site)) (l : TableId × Site) → AreAt config dex first ls → n ≡ first + length ls → l.1 ≡ record { number = n; config = config; dex = dex } → AreAt config dex first (ls ++ l ∷ [])
at_end config dex first n [] l are is e = (e ∙ (let same : n ≡ first = omega arith in λ j. record { number = same j; config = config; dex = dex }), tt)
at_end config dex first n (x ∷ ls) l are is e = (are.0, at_end config dex (suc first) n ls l are.1 (omega arith) e)

-- ---- looking up

pub chat_lock : (hub : Hub) (locks : List (TableId × Site)) (number : ℕ) → hub.chats ≡ map name_of locks → number < 16 → lock_of hub number ≡ option_map name_of (slice_get locks number)
chat_lock hub locks number are low =
    let test : nat_lt number 16 ≡ true = grind (arith, nat_tests) in
    rw test (ap (λ (l : List TableId). slice_get l number) are ∙ slice_get-map name_of locks number)

pub battle_lock : (hub : Hub) (locks : List (TableId × Site)) (number : ℕ) → hub.battles ≡ map name_of locks → 16 ≤ number → lock_of hub number ≡ option_map name_of (slice_get locks (number - 16))
battle_lock hub locks number are high =
    let test : nat_lt number 16 ≡ false = grind (arith, nat_tests) in
    rw test (ap (λ (l : List TableId). slice_get l (number - 16)) are ∙ slice_get-map name_of locks (number - 16))

some_within : {A : Type 0} (xs : List A) (i : ℕ) → i < length xs → slice_get xs i ≢ None
some_within [] i within e = absurd (omega arith)
some_within (x ∷ xs) zero within e = none-some x (sym e)
some_within (x ∷ xs) (suc i) within e = some_within xs i (omega arith) e

-- the place that an id names has a lock
pub named_lock : (hub : Hub) (id : List ℕ) (number : ℕ) → length hub.chats ≡ length hub.config.rooms → length hub.battles ≡ 65536 → Names hub.config id number → lock_of hub number ≢ None
named_lock hub id number chats battles (inl chat) =
    let low : number < 16 = chat.1 in
    let test : nat_lt number 16 ≡ true = grind (arith, nat_tests) in
    let within : number < length hub.config.rooms = slice_get_within hub.config.rooms number chat.0.0.0 chat.0.0.1 in
    rw test (some_within hub.chats number (omega arith))
named_lock hub id number chats battles (inr battle) =
    let above : 1 ≤ battle.0 = battle.1.2 in
    let below : battle.0 ≤ 65536 = battle.1.3 in
    let is : number ≡ 15 + battle.0 = battle.2 in
    let test : nat_lt number 16 ≡ false = grind (arith, nat_tests) in
    rw test (some_within hub.battles (number - 16) (omega arith))

pub battle_has_lock : (hub : Hub) (number n : ℕ) → length hub.battles ≡ 65536 → number ≡ 15 + n → 1 ≤ n → n ≤ 65536 → lock_of hub number ≢ None
battle_has_lock hub number n battles is above below =
    let test : nat_lt number 16 ≡ false = grind (arith, nat_tests) in
    rw test (some_within hub.battles (number - 16) (omega arith))

-- ---- what the hub answers

pub chat_found : (hub : Hub) (config : Settings) (dex : Tables) (locks read : List (TableId × Site)) (number : ℕ) (l : TableId × Site) → hub.config ≡ config → hub.dex ≡ dex → hub.chats ≡ map name_of locks → AreAt config dex 0 locks → read ≡ locks → number < 16
    → slice_get read number ≡ Some l → (lock_of hub number ≡ Some l.0) × (l.1 ≡ site_of hub number)
chat_found hub config dex locks read number l same_config same_dex are at same low there =
    let here : slice_get locks number ≡ Some l = ap (λ (ls : List (TableId × Site)). slice_get ls number) (sym same) ∙ there in
    let count : 0 + number ≡ number = omega arith in (
      chat_lock hub locks number are low ∙ ap (λ (o : Option (TableId × Site)). option_map name_of o) here,
      origin_at config dex 0 locks number l at here ∙ (λ i. record { number = count i; config = sym same_config i; dex = sym same_dex i }),
    )

pub battle_found : (hub : Hub) (config : Settings) (dex : Tables) (locks read : List (TableId × Site)) (number : ℕ) (l : TableId × Site) → hub.config ≡ config → hub.dex ≡ dex → hub.battles ≡ map name_of locks → AreAt config dex 16 locks → read ≡ locks → 16 ≤ number
    → slice_get read (number - 16) ≡ Some l → (lock_of hub number ≡ Some l.0) × (l.1 ≡ site_of hub number)
battle_found hub config dex locks read number l same_config same_dex are at same high there =
    let here : slice_get locks (number - 16) ≡ Some l = ap (λ (ls : List (TableId × Site)). slice_get ls (number - 16)) (sym same) ∙ there in
    let count : 16 + (number - 16) ≡ number = omega arith in (
      battle_lock hub locks number are high ∙ ap (λ (o : Option (TableId × Site)). option_map name_of o) here,
      origin_at config dex 16 locks (number - 16) l at here ∙ (λ i. record { number = count i; config = sym same_config i; dex = sym same_dex i }),
    )

pub chat_missing : (hub : Hub) (locks read : List (TableId × Site)) (number : ℕ) → hub.chats ≡ map name_of locks → read ≡ locks → number < 16 → slice_get read number ≡ None → lock_of hub number ≡ None
chat_missing hub locks read number are same low none =
    chat_lock hub locks number are low ∙ ap (λ (o : Option (TableId × Site)). option_map name_of o) (ap (λ (ls : List (TableId × Site)). slice_get ls number) (sym same) ∙ none)

pub battle_missing : (hub : Hub) (locks read : List (TableId × Site)) (number : ℕ) → hub.battles ≡ map name_of locks → read ≡ locks → 16 ≤ number → slice_get read (number - 16) ≡ None → lock_of hub number ≡ None
battle_missing hub locks read number are same high none =
    battle_lock hub locks number are high ∙ ap (λ (o : Option (TableId × Site)). option_map name_of o) (ap (λ (ls : List (TableId × Site)). slice_get ls (number - 16)) (sym same) ∙ none)

pub if_none_then : {A : Type 0} (P Q : Type 0) (r : Option A) → IfNone r P → (P → Q) → IfNone r Q
if_none_then P Q None p f = f p
if_none_then P Q (Some x) p f = tt

-- the place that an id names, and its lock
pub named_place : (hub : Hub) (config read : Settings) (chats battles : List (TableId × Site)) (id : List ℕ) (number : ℕ) → hub.config ≡ config → read ≡ config → hub.chats ≡ map name_of chats → hub.battles ≡ map name_of battles → length chats ≡ length config.rooms → length battles ≡ 65536
    → Names read id number → Names hub.config id number × (lock_of hub number ≢ None)
named_place hub config read chats battles id number same_config same_read are_chats are_battles count_chats count_battles names =
    let here : Names hub.config id number = subst (λ (s : Settings). Names s id number) (same_read ∙ sym same_config) names in (
      here,
      named_lock hub id number
          (ap length are_chats ∙ length-map chats name_of ∙ count_chats ∙ ap (λ (s : Settings). length s.rooms) (sym same_config))
          (ap length are_battles ∙ length-map battles name_of ∙ count_battles) here,
    )

pub named_nowhere : (hub : Hub) (config read : Settings) (id : List ℕ) → hub.config ≡ config → read ≡ config → IsNoChat read id × ((n : ℕ) → IsBattleId id n → ⊥) → NamesNone hub id
named_nowhere hub config read id same_config same_read none = (subst (λ (s : Settings). IsNoChat s id) (same_read ∙ sym same_config) none.0, none.1)

-- ---- locks that aren't open yet

module _ {O C : Type 0} where
  pub is_unopened : (name : TableId) (origin : O) (opener : TableId × View O C) → opener ≡ (name, unopened origin) → IsUnopened name opener
  is_unopened name origin opener is = (ap (λ (p : TableId × View O C). p.0) is, ap (λ (p : TableId × View O C). p.1) is ∙ ap (λ (o : O). unopened o) (sym (ap (λ (p : TableId × View O C). p.1.origin) is)))

module _ {C : Type 0} where
  -- a lock more, with its opener
  pub unopened_end : (ls : List (TableId × Site)) (os : List (TableId × View Site C)) (l : TableId × Site) (o : TableId × View Site C) → AllZip IsUnopened (map name_of ls) os → IsUnopened l.0 o
      → AllZip IsUnopened (map name_of (ls ++ l ∷ [])) (os ++ o ∷ [])
  unopened_end [] [] l o are is = (is, tt)
  unopened_end [] (y ∷ os) l o are is = absurd are
  unopened_end (x ∷ ls) [] l o are is = absurd are
  unopened_end (x ∷ ls) (y ∷ os) l o are is = (are.0, unopened_end ls os l o are.1 is)

  -- these openers are of locks that stand at their indices
  abbrev pub AreOpeners : List (TableId × Site) → List (TableId × View Site C) → Type 0
  AreOpeners ls os = (i : ℕ) (o : TableId × View Site C) → slice_get os i ≡ Some o → (l : TableId × Site) × (slice_get ls i ≡ Some l) × (o.0 ≡ l.0)

  pub openers_of : (ls : List (TableId × Site)) (os : List (TableId × View Site C)) → AllZip IsUnopened (map name_of ls) os → AreOpeners ls os
  openers_of [] [] are i o e = absurd (none-some o e)
  openers_of [] (y ∷ os) are i o e = absurd are
  openers_of (x ∷ ls) [] are i o e = absurd are
  openers_of (x ∷ ls) (y ∷ os) are zero o e = (x, refl, ap (λ (p : TableId × View Site C). p.0) (sym (same_Some y o e)) ∙ are.0.0)
  openers_of (x ∷ ls) (y ∷ os) are (suc i) o e = openers_of ls os are.1 i o e

  before_end : (os : List (TableId × View Site C)) (last : TableId × View Site C) (i : ℕ) (o : TableId × View Site C) → slice_get os i ≡ Some o → slice_get (os ++ last ∷ []) i ≡ Some o
  before_end [] last i o e = absurd (none-some o e)
  before_end (y ∷ os) last zero o e = e
  before_end (y ∷ os) last (suc i) o e = before_end os last i o e

  at_last : (os : List (TableId × View Site C)) (last : TableId × View Site C) → slice_get (os ++ last ∷ []) (length os) ≡ Some last
  at_last [] last = refl
  at_last (y ∷ os) last = at_last os last

  -- the last is taken: its lock stands at the index that is left, and the others' stand where they stood
  pub openers_left : (ls : List (TableId × Site)) (all os : List (TableId × View Site C)) (last : TableId × View Site C) → all ≡ os ++ last ∷ [] → AreOpeners ls all → AreOpeners ls os
  openers_left ls all os last is are i o e = are i o (ap (λ (l : List (TableId × View Site C)). slice_get l i) is ∙ before_end os last i o e)

  pub lock_of_last : (ls : List (TableId × Site)) (all os : List (TableId × View Site C)) (last : TableId × View Site C) → all ≡ os ++ last ∷ [] → AreOpeners ls all → (l : TableId × Site) × (slice_get ls (length os) ≡ Some l) × (last.0 ≡ l.0)
  lock_of_last ls all os last is are = are (length os) last (ap (λ (l : List (TableId × View Site C)). slice_get l (length os)) is ∙ at_last os last)
