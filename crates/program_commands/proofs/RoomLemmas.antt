-- The rooms of a configuration have ids of their own: those that a file says, and the lobby where it says none.
use Rattle.std.proofs.Common.{◌≡◌, ℕ, zero, suc, ◌+◌, Bool, true, false, not, cond, List, [], ◌∷◌, ◌++◌, length, map, Option, Some, None, Result, Ok, inl, inr, ◌⊎◌, refl, sym, ap, ◌∙◌, subst, codes, is_some}
use Rattle.std.specs.Prelude.{All, IfSome, slice_get}
use Rattle.std.specs.List.{position_from}
use Rattle.std.specs.Str.{bytes_eq}
use Rattle.std.proofs.lemmas.Bool.{not-true}
use Rattle.std.proofs.lemmas.Iterator.Adapters.{position_from-zero}
use Rattle.std.proofs.lemmas.List.{map-append}
use Rattle.std.proofs.lemmas.List.Elements.{All-nil, All-push}
use Rattle.std.proofs.lemmas.Option.{none-some, same_Some}
use Rattle.std.proofs.lemmas.Slice.Eq.{bytes_eq-Decides}
use Rattle.serde_json.specs.Data.{Data}
use Rattle.ps_base.specs.Ids.{is_id, id_in}
use Rattle.ps_data.specs.declared.fault.Fault.{Fault}
use Rattle.ps_data.specs.declared.fault.DataKind.TheVariants.{Range, Repeat}
use Rattle.ps_data.specs.Paths.{Index}
use Rattle.ps_data.specs.Reading.{some_or, under, required, optional}
use Rattle.ps_data.specs.Forms.{json_in, object_in, text_in, sized_in, number_in}
use Rattle.ps_data.specs.Lists.{each, list_in}
use Rattle.ps_data.specs.OwnIds.{IsNew, has_id, own_id_in}
use Rattle.ps_dex.specs.declared.item.Tables.{Tables}
use Rattle.ps_dex.proofs.Holds.{Holds, after, then, inside, found, tested, needed, may_lack, one_all}
use Rattle.ps_group.specs.Reading.{groups_in}
use Rattle.ps_rules.specs.Versions.{version_in}
use Rattle.ps_rules.specs.Reading.{said_in}
use Rattle.rules_config.specs.declared.settings.ChatRoom.{ChatRoom}
use Rattle.rules_config.specs.declared.settings.Settings.{Settings}
use Rattle.rules_config.specs.Rooms.{lobby, title_in, room_in, rooms_at}
use Rattle.rules_config.specs.Users.{staff_at, users_in}
use Rattle.rules_config.specs.Fresh.{IsSaidOrFresh}
use Rattle.rules_config.specs.Reading.{greatest_seed, nonce_in, seeds_in, default_groups_of, config_in, config_of, HasFile}
use Rattle.program_commands.specs.Rooms.{AreApart, HasOwnRooms}

-- ---- ids that are apart

abbrev Lacks : List (List ℕ) → List ℕ → Type 0
Lacks ids id = (i : ℕ) → slice_get ids i ≡ Some id → ⊥

-- what is read of a longer list is read of the shorter one, or is its last item
read_of : (ids : List (List ℕ)) (last id : List ℕ) (i : ℕ) → slice_get (ids ++ last ∷ []) i ≡ Some id → (slice_get ids i ≡ Some id) ⊎ ((i ≡ length ids) × (last ≡ id))
read_of [] last id zero e = inr (refl, same_Some last id e)
read_of [] last id (suc i) e = absurd (none-some id e)
read_of (x ∷ ids) last id zero e = inl e
read_of (x ∷ ids) last id (suc i) e = one_on (read_of ids last id i e)
  where
    one_on : (slice_get ids i ≡ Some id) ⊎ ((i ≡ length ids) × (last ≡ id)) → (slice_get ids i ≡ Some id) ⊎ ((suc i ≡ suc (length ids)) × (last ≡ id))
    one_on (inl before) = inl before
    one_on (inr (at, is)) = inr (ap suc at, is)

apart_more : (ids : List (List ℕ)) (last : List ℕ) → AreApart ids → Lacks ids last → AreApart (ids ++ last ∷ [])
apart_more ids last apart lacks one other id e f = by (read_of ids last id one e) (read_of ids last id other f)
  where
    by : (slice_get ids one ≡ Some id) ⊎ ((one ≡ length ids) × (last ≡ id)) → (slice_get ids other ≡ Some id) ⊎ ((other ≡ length ids) × (last ≡ id)) → one ≡ other
    by (inl a) (inl b) = apart one other id a b
    by (inl a) (inr (at, is)) = absurd (lacks one (a ∙ ap Some (sym is)))
    by (inr (at, is)) (inl b) = absurd (lacks other (b ∙ ap Some (sym is)))
    by (inr (at, is)) (inr (too, same)) = at ∙ sym too

one_apart : (id : List ℕ) → AreApart (id ∷ [])
one_apart id = apart_more [] id (λ one other x e f. absurd (none-some x e)) (λ i e. absurd (none-some id e))

-- an id that no item has isn't among theirs
absent : (b : Bool) (n : ℕ) (o : Option ℕ) → is_some (cond b (Some n) o) ≡ false → (b ≡ false) × (is_some o ≡ false)
absent true n o e = absurd cc
absent false n o e = (refl, e)

lacks_from : {A : Type 0} (own : A → List ℕ) (id : List ℕ) (n : ℕ) (items : List A) → is_some (position_from (λ item. bytes_eq (own item) id) n items) ≡ false → Lacks (map own items) id
lacks_from own id n [] e i f = none-some id f
lacks_from own id n (item ∷ items) e zero f =
    let differs = (absent (bytes_eq (own item) id) n (position_from (λ x. bytes_eq (own x) id) (n + 1) items) e).0 in
    let same : bytes_eq (own item) id ≡ true = (bytes_eq-Decides (own item) id).1 (same_Some (own item) id f) in
    absurd cc
lacks_from own id n (item ∷ items) e (suc i) f = lacks_from own id (n + 1) items (absent (bytes_eq (own item) id) n (position_from (λ x. bytes_eq (own x) id) (n + 1) items) e).1 i f

new_lacks : {A : Type 0} (own : A → List ℕ) (id : List ℕ) (items : List A) → IsNew own id items → Lacks (map own items) id
unfolding has_id
new_lacks own id items new = lacks_from own id 0 items (ap is_some (sym (position_from-zero (λ item. bytes_eq (own item) id) items)) ∙ not-true (has_id own id items) new)

-- ---- reading ids of their own

abbrev IsId : List ℕ → Type 0
IsId id = is_id id ≡ true

when_id : (text : List ℕ) (b : Bool) → is_id text ≡ b → IfSome (cond b (Some text) None) IsId
when_id text true e = e
when_id text false e = tt

id_is : (text : List ℕ) → IfSome (id_in text) IsId
id_is [] = tt
id_is (byte ∷ bytes) = when_id (byte ∷ bytes) (is_id (byte ∷ bytes)) refl

abbrev IsOwnId : {A : Type 0} → (A → List ℕ) → List A → List ℕ → Type 0
IsOwnId own before id = IsId id × IsNew own id before

own_id_holds : {A : Type 0} (own : A → List ℕ) (before : List A) (d : Data) → Holds (IsOwnId own before) (own_id_in own before d)
unfolding own_id_in
own_id_holds own before d =
    then (IsOwnId own before) (text_in d) _ (λ text.
    after IsId (IsOwnId own before) (some_or Range (id_in text)) _ (found IsId Range (id_in text) (id_is text)) (λ id h.
    tested (IsOwnId own before) Repeat (not (has_id own id before)) (λ u. Ok id) (λ e. (h, e))))

-- what each item keeps of the list before it holds of the whole list
each_keeps : {A : Type 0} (P : List A → Type 0) (form : List A → List Data → Data → Result A Fault) → ((before : List A) (more : List Data) (d : Data) → P before → Holds (λ x. P (before ++ x ∷ [])) (form before more d)) → (before : List A) (ds : List Data) → P before → Holds P (each form before ds)
unfolding each
each_keeps P form h before [] p = p
each_keeps {A} P form h before (d ∷ more) p =
    after (λ x. P (before ++ x ∷ [])) P (under (Index (length before)) (form before more d)) (λ x. each form (before ++ x ∷ []) more) (inside (λ x. P (before ++ x ∷ [])) (Index (length before)) (form before more d) (h before more d p))
    (λ x q. each_keeps P form h (before ++ x ∷ []) more q)

-- ---- rooms

abbrev own : ChatRoom → List ℕ
own room = room.id

abbrev AreOwn : List ChatRoom → Type 0
AreOwn rooms = All (λ room. IsId room.id) rooms × AreApart (map own rooms)

own_more : (before : List ChatRoom) (room : ChatRoom) → AreOwn before → IsOwnId own before room.id → AreOwn (before ++ room ∷ [])
own_more before room are is = (
  All-push (λ (r : ChatRoom). IsId r.id) before room are.0 is.0,
  subst AreApart (sym (map-append own before (room ∷ []))) (apart_more (map own before) room.id are.1 (new_lacks own room.id before is.1)),
)

room_holds : (before : List ChatRoom) (d : Data) → AreOwn before → Holds (λ room. AreOwn (before ++ room ∷ [])) (room_in before d)
unfolding room_in
room_holds before d are =
    then (λ room. AreOwn (before ++ room ∷ [])) (object_in d) _ (λ u.
    after (IsOwnId own before) (λ room. AreOwn (before ++ room ∷ [])) (required (codes "id") (own_id_in own before) d) _ (needed (IsOwnId own before) (codes "id") (own_id_in own before) d (own_id_holds own before)) (λ id is.
    then (λ room. AreOwn (before ++ room ∷ [])) (required (codes "title") title_in d) _ (λ title. own_more before (record { id = id; title = title }) are is)))

none_own : AreOwn []
none_own = (All-nil (λ (room : ChatRoom). IsId room.id), λ one other id e f. absurd (none-some id e))

lobby_own : AreOwn (lobby ∷ [])
lobby_own = (one_all (λ (room : ChatRoom). IsId room.id) lobby refl, one_apart lobby.id)

rooms_hold : (d : Data) → Holds AreOwn (rooms_at d)
unfolding rooms_at
rooms_hold d =
    may_lack AreOwn (codes "rooms") (lobby ∷ []) (list_in 1 16 (λ before more. room_in before)) d lobby_own
    (λ v. then AreOwn (sized_in 1 16 v) _ (λ ds. each_keeps AreOwn (λ before more. room_in before) (λ before more e are. room_holds before e are) [] ds none_own))

-- ---- the whole

config_holds : (dex : Tables) (d : Data) → Holds HasOwnRooms (config_in dex d)
unfolding config_in
config_holds dex d =
    then HasOwnRooms (object_in d) _ (λ u.
    then HasOwnRooms (version_in d) _ (λ version.
    then HasOwnRooms (optional (codes "groups") (default_groups_of version) groups_in d) _ (λ groups.
    then HasOwnRooms (staff_at groups d) _ (λ staff.
    after AreOwn HasOwnRooms (rooms_at d) _ (rooms_hold d) (λ rooms are.
    then HasOwnRooms (optional (codes "users") [] (users_in groups) d) _ (λ users.
    then HasOwnRooms (said_in version dex d) _ (λ formats.
    then HasOwnRooms (optional (codes "nonce") (codes "0") nonce_in d) _ (λ nonce.
    then HasOwnRooms (optional (codes "seed") 0 (number_in 0 greatest_seed) d) _ (λ seed.
    then HasOwnRooms (optional (codes "seeds") [] seeds_in d) _ (λ seeds. record { ids = are.0; apart = are.1 }))))))))))

file_holds : (dex : Tables) (bytes : List ℕ) → Holds HasOwnRooms (config_of dex bytes)
unfolding config_of
file_holds dex bytes = then HasOwnRooms (json_in bytes) (config_in dex) (config_holds dex)

let_through : (r : Result Settings Fault) (config : Settings) → r ≡ Ok config → Holds HasOwnRooms r → HasOwnRooms config
let_through r config is h = subst (Holds HasOwnRooms) is h

-- rooms are never fresh
kept_own : (said config : Settings) → IsSaidOrFresh said config → HasOwnRooms said → HasOwnRooms config
kept_own said config (inl same) rooms = rw same rooms
kept_own said config (inr (fresh, is)) rooms = rw is (record { ids = rooms.ids; apart = rooms.apart })

pub own_rooms : (config : Settings) → HasFile config → HasOwnRooms config
own_rooms config file = kept_own file.said config file.kept (let_through (config_of file.dex file.bytes) file.said file.says (file_holds file.dex file.bytes))
