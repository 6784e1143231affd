-- The names and ids that a drill takes from the data files are short and plain.
use Rattle.std.proofs.Common.{◌≡◌, ℕ, zero, suc, ◌+◌, ◌*◌, ◌≤◌, true, not, ◌&&◌, leb, List, [], ◌∷◌, length, map, Result, Ok, inl, inr, subst, arith, codes, ◌==◌, ◌-◌}
use Rattle.std.specs.Prelude.{All}
use Rattle.std.specs.List.{list_all}
use Rattle.std.specs.Str.{chars, chars_after, continuation_len, lead_bits}
use Rattle.std.proofs.lemmas.Bool.{leb-true, and_parts}
use Rattle.std.proofs.lemmas.Bool.Decides.{nat_tests}
use Rattle.std.proofs.lemmas.List.Elements.{All-nil, filter_passes}
use Rattle.serde_json.specs.Data.{Data}
use Rattle.ps_base.specs.Ids.{lower, is_id_byte, id_of}
use Rattle.ps_base.proofs.IdLemmas.{length-id_of}
use Rattle.ps_data.specs.declared.fault.Fault.{Fault}
use Rattle.ps_data.specs.declared.fault.DataKind.TheVariants.{Range, Repeat}
use Rattle.ps_data.specs.Reading.{required, optional}
use Rattle.ps_data.specs.Forms.{json_in, object_in, text_in, array_in, number_in}
use Rattle.ps_data.specs.Lists.{list_at, entries_at}
use Rattle.ps_data.specs.OwnIds.{has_id}
use Rattle.ps_dex.specs.declared.item.TypeItem.{TypeItem}
use Rattle.ps_dex.specs.declared.item.MoveItem.{MoveItem}
use Rattle.ps_dex.specs.declared.item.SpeciesItem.{SpeciesItem}
use Rattle.ps_dex.specs.declared.item.Tables.{Tables}
use Rattle.ps_dex.specs.Names.{is_name_byte, are_name_bytes, is_name, name_in, own_name_in}
use Rattle.ps_dex.specs.Types.{type_item_in}
use Rattle.ps_dex.specs.Factors.{factors_in}
use Rattle.ps_dex.specs.Moves.{move_name_in, is_move_taken, numbers_in, move_item_in}
use Rattle.ps_dex.specs.Species.{types_in, stats_in, learns_in, species_item_in}
use Rattle.ps_dex.specs.Aliases.{alias_item_in}
use Rattle.ps_dex.specs.Tables.{tables_in, tables_of}
use Rattle.ps_dex.proofs.Holds.{Holds, after, then, tested, needed, may_lack, all_cons, each_all, list_holds}
use Rattle.ps_group.specs.Reading.{groups_in}
use Rattle.ps_rules.specs.declared.table.Ruleset.{Ruleset}
use Rattle.ps_rules.specs.declared.table.Format.{Format}
use Rattle.ps_rules.specs.declared.table.Said.{Said}
use Rattle.ps_rules.specs.declared.version.Version.{Version}
use Rattle.ps_rules.specs.Versions.{version_in}
use Rattle.ps_rules.specs.Reading as reading
use Rattle.rules_config.specs.declared.settings.Settings.{Settings}
use Rattle.rules_config.specs.Rooms.{rooms_at}
use Rattle.rules_config.specs.Users.{staff_at, users_in}
use Rattle.rules_config.specs.Fresh.{IsSaidOrFresh}
use Rattle.rules_config.specs.Reading.{greatest_seed, nonce_in, seeds_in, default_groups_of, config_in, config_of, HasFile}
use Rattle.replay_drill.specs.Plain.{IsPlain, HasPlainNames, HasPlainFormats}

-- ---- bytes

abbrev IsPlainByte : ℕ → Type 0
IsPlainByte b = (32 ≤ b) × (b ≤ 126)

name_byte_plain : (b : ℕ) → is_name_byte b ≡ true → IsPlainByte b
name_byte_plain b e = grind (arith, nat_tests)

id_byte_plain : (b : ℕ) → is_id_byte b ≡ true → IsPlainByte b
id_byte_plain b e = grind (arith, nat_tests)

all_plain : (text : List ℕ) → list_all is_name_byte text ≡ true → All IsPlainByte text
all_plain [] e = All-nil IsPlainByte
all_plain (b ∷ text) e = let k = and_parts (is_name_byte b) (list_all is_name_byte text) e in all_cons IsPlainByte b text (name_byte_plain b k.0) (all_plain text k.1)

-- ---- ids

id_plain : (text : List ℕ) → All IsPlainByte (id_of text)
id_plain text k d lt = id_byte_plain _ (filter_passes is_id_byte (map lower text) k d lt)

-- ---- the characters of any bytes: each is one byte, or a byte that no id keeps and up to three more

one_more : (b : ℕ) (bs : List ℕ) → length (id_of (b ∷ bs)) ≤ length (id_of bs) + 1
one_more b bs = grind arith

-- the first byte of a character, which no id keeps unless it is the only one
first_more : (b : ℕ) (bs : List ℕ) (most : ℕ) → length (id_of bs) + 1 ≤ continuation_len b + most → length (id_of (b ∷ bs)) + 1 ≤ most + 3
first_more b bs most more = grind (arith, nat_tests)

-- with n bytes of a character still to come
kept_after : (n c : ℕ) (bs : List ℕ) → length (id_of bs) + 1 ≤ n + 3 * length (chars_after n c bs)
kept_after zero c [] = omega arith
kept_after zero c (b ∷ bs) = omega (arith, first_more b bs (3 * length (chars_after (continuation_len b) (lead_bits b) bs)) (kept_after (continuation_len b) (lead_bits b) bs))
kept_after (suc n) c [] = omega arith
kept_after (suc n) c (b ∷ bs) = omega (arith, kept_after n (c * 64 + (b - 128)) bs, one_more b bs)

kept_few : (text : List ℕ) → length (id_of text) ≤ 3 * length (chars text) + 2
unfolding chars
kept_few [] = omega arith
kept_few (b ∷ bs) = omega (arith, first_more b bs (3 * length (chars_after (continuation_len b) (lead_bits b) bs)) (kept_after (continuation_len b) (lead_bits b) bs))

-- ---- a dex

-- The type of what a form reads. A name beside its id has one that its crate keeps to itself.
abbrev Read : {A : Type 0} → (Data → Result A Fault) → Type 0
Read {A} form = A

abbrev IsNamed : Read name_in → Type 0
IsNamed named = IsPlain 32 named.name × IsPlain 32 named.id

abbrev IsMove : MoveItem → Type 0
IsMove m = IsPlain 32 m.id

abbrev IsSpecies : SpeciesItem → Type 0
IsSpecies s = IsPlain 32 s.name

text_named : (text : List ℕ) → is_name text (id_of text) ≡ true → IsNamed (record { name = text; id = id_of text })
unfolding is_name are_name_bytes
text_named text e =
    let all = and_parts (list_all is_name_byte text && leb (length text) 32) (not (length (id_of text) == 0)) e in
    let tests = and_parts (list_all is_name_byte text) (leb (length text) 32) all.0 in
    let few : length text ≤ 32 = leb-true (length text) 32 tests.1 in
    (record { few = few; plain = all_plain text tests.0 }, record { few = omega (arith, few, length-id_of text); plain = id_plain text })

name_holds : (d : Data) → Holds IsNamed (name_in d)
unfolding name_in
name_holds d =
    then IsNamed (text_in d) _ (λ text.
    tested IsNamed Range (is_name text (id_of text)) (λ u. Ok (record { name = text; id = id_of text })) (text_named text))

move_name_holds : (before : List MoveItem) (d : Data) → Holds IsNamed (move_name_in before d)
unfolding move_name_in
move_name_holds before d =
    after IsNamed IsNamed (name_in d) _ (name_holds d) (λ named h.
    tested IsNamed Repeat (not (is_move_taken named.id before)) (λ u. Ok named) (λ e. h))

species_name_holds : (before : List SpeciesItem) (d : Data) → Holds IsNamed (own_name_in (λ (s : SpeciesItem). s.id) before d)
unfolding own_name_in
species_name_holds before d =
    after IsNamed IsNamed (name_in d) _ (name_holds d) (λ named h.
    tested IsNamed Repeat (not (has_id (λ (s : SpeciesItem). s.id) named.id before)) (λ u. Ok named) (λ e. h))

move_holds : (types : List TypeItem) (before : List MoveItem) (d : Data) → Holds IsMove (move_item_in types before d)
unfolding move_item_in
move_holds types before d =
    then IsMove (object_in d) _ (λ u.
    after IsNamed IsMove (required (codes "name") (move_name_in before) d) _ (needed IsNamed (codes "name") (move_name_in before) d (move_name_holds before)) (λ named h.
    then IsMove (numbers_in types d) _ (λ numbers. h.1)))

species_holds : (types : List TypeItem) (moves : List MoveItem) (before : List SpeciesItem) (d : Data) → Holds IsSpecies (species_item_in types moves before d)
unfolding species_item_in
species_holds types moves before d =
    then IsSpecies (object_in d) _ (λ u.
    after IsNamed IsSpecies (required (codes "name") (own_name_in (λ (s : SpeciesItem). s.id) before) d) _ (needed IsNamed (codes "name") (own_name_in (λ (s : SpeciesItem). s.id) before) d (species_name_holds before)) (λ named h.
    then IsSpecies (required (codes "types") (types_in types) d) _ (λ own_types.
    then IsSpecies (required (codes "stats") stats_in d) _ (λ stats.
    then IsSpecies (required (codes "learns") (learns_in moves) d) _ (λ learns. h.0)))))

tables_hold : (d : Data) → Holds HasPlainNames (tables_in d)
unfolding tables_in
tables_hold d =
    then HasPlainNames (object_in d) _ (λ u.
    then HasPlainNames (list_at (codes "types") 0 32 (λ before more. type_item_in before) d) _ (λ types.
    then HasPlainNames (optional (codes "factors") [] (factors_in types) d) _ (λ factors.
    after (λ moves. All IsMove moves × (length moves ≤ 1024)) HasPlainNames (list_at (codes "moves") 0 1024 (λ before more. move_item_in types before) d) _ (list_holds IsMove (codes "moves") 1024 (λ before more. move_item_in types before) d (λ before more v. move_holds types before v)) (λ moves m.
    after (λ species. All IsSpecies species × (length species ≤ 1024)) HasPlainNames (list_at (codes "species") 0 1024 (λ before more. species_item_in types moves before) d) _ (list_holds IsSpecies (codes "species") 1024 (λ before more. species_item_in types moves before) d (λ before more v. species_holds types moves before v)) (λ species s.
    then HasPlainNames (entries_at (codes "aliases") (λ before key. alias_item_in species moves before key) d) _ (λ aliases.
    record { species = s.0; moves = m.0 }))))))

bytes_hold : (bytes : List ℕ) → Holds HasPlainNames (tables_of bytes)
unfolding tables_of
bytes_hold bytes = then HasPlainNames (json_in bytes) tables_in tables_hold

-- what holds of each value that a reader lets through holds of the one that it gave
given : {A : Type 0} (P : A → Type 0) (r : Result A Fault) (x : A) → r ≡ Ok x → Holds P r → P x
given P r x is h = subst (Holds P) is h

pub plain_names : (bytes : List ℕ) (dex : Tables) → tables_of bytes ≡ Ok dex → HasPlainNames dex
plain_names bytes dex is = given HasPlainNames (tables_of bytes) dex is (bytes_hold bytes)

-- ---- a configuration

abbrev IsFormatName : Read (reading.name_in []) → Type 0
IsFormatName named = IsPlain 128 named.id

abbrev IsFormat : Format → Type 0
IsFormat f = IsPlain 128 f.id

abbrev IsSaid : Said → Type 0
IsSaid said = All IsFormat said.formats

format_named : (text : List ℕ) → reading.is_name (chars text) (id_of text) ≡ true → IsPlain 128 (id_of text)
unfolding reading.is_name
format_named text e =
    let all = and_parts (reading.are_name_chars (chars text) && leb (length (chars text)) 32) (not (length (id_of text) == 0)) e in
    let few : length (chars text) ≤ 32 = leb-true (length (chars text)) 32 (and_parts (reading.are_name_chars (chars text)) (leb (length (chars text)) 32) all.0).1 in
    record { few = omega (arith, few, kept_few text); plain = id_plain text }

format_name_holds : (before : List Format) (d : Data) → Holds IsFormatName (reading.name_in before d)
unfolding reading.name_in
format_name_holds before d =
    then IsFormatName (text_in d) _ (λ text.
    tested IsFormatName Range (reading.is_name (chars text) (id_of text)) _ (λ e.
    tested IsFormatName Repeat (not (reading.has_format (id_of text) before)) _ (λ f. format_named text e)))

format_holds : (version : Version) (sets : List Ruleset) (dex : Tables) (before : List Format) (d : Data) → Holds IsFormat (reading.format_in version sets dex before d)
unfolding reading.format_in
format_holds version sets dex before d =
    then IsFormat (object_in d) _ (λ u.
    after IsFormatName IsFormat (required (codes "name") (reading.name_in before) d) _ (needed IsFormatName (codes "name") (reading.name_in before) d (format_name_holds before)) (λ named h.
    then IsFormat (reading.table_in version sets dex d) _ (λ table. h)))

formats_hold : (version : Version) (sets : List Ruleset) (dex : Tables) (d : Data) → Holds (All IsFormat) (reading.formats_in version sets dex d)
unfolding reading.formats_in
formats_hold version sets dex d = then (All IsFormat) (array_in d) _ (each_all IsFormat (λ before more. reading.format_in version sets dex before) (λ before more. format_holds version sets dex before))

said_holds : (version : Version) (dex : Tables) (d : Data) → Holds IsSaid (reading.said_in version dex d)
unfolding reading.said_in
said_holds version dex d =
    then IsSaid (object_in d) _ (λ u.
    then IsSaid (entries_at (codes "rulesets") reading.ruleset_in d) _ (λ sets.
    after (All IsFormat) IsSaid (optional (codes "formats") [] (reading.formats_in version sets dex) d) _ (may_lack (All IsFormat) (codes "formats") [] (reading.formats_in version sets dex) d (All-nil IsFormat) (formats_hold version sets dex)) (λ formats h. h)))

config_holds : (dex : Tables) (d : Data) → Holds HasPlainFormats (config_in dex d)
unfolding config_in
config_holds dex d =
    then HasPlainFormats (object_in d) _ (λ u.
    then HasPlainFormats (version_in d) _ (λ version.
    then HasPlainFormats (optional (codes "groups") (default_groups_of version) groups_in d) _ (λ groups.
    then HasPlainFormats (staff_at groups d) _ (λ staff.
    then HasPlainFormats (rooms_at d) _ (λ rooms.
    then HasPlainFormats (optional (codes "users") [] (users_in groups) d) _ (λ users.
    after IsSaid HasPlainFormats (reading.said_in version dex d) _ (said_holds version dex d) (λ formats h.
    then HasPlainFormats (optional (codes "nonce") (codes "0") nonce_in d) _ (λ nonce.
    then HasPlainFormats (optional (codes "seed") 0 (number_in 0 greatest_seed) d) _ (λ seed.
    then HasPlainFormats (optional (codes "seeds") [] seeds_in d) _ (λ seeds. h))))))))))

file_holds : (dex : Tables) (bytes : List ℕ) → Holds HasPlainFormats (config_of dex bytes)
unfolding config_of
file_holds dex bytes = then HasPlainFormats (json_in bytes) (config_in dex) (config_holds dex)

-- formats are never fresh
kept_plain : (said config : Settings) → IsSaidOrFresh said config → HasPlainFormats said → HasPlainFormats config
kept_plain said config (inl same) plain = rw same plain
kept_plain said config (inr (fresh, is)) plain = rw is plain

pub plain_formats : (config : Settings) → HasFile config → HasPlainFormats config
plain_formats config file = kept_plain file.said config file.kept (given HasPlainFormats (config_of file.dex file.bytes) file.said file.says (file_holds file.dex file.bytes))
