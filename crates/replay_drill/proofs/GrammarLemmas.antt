-- A drill's text is a script.
use Rattle.std.proofs.Common.{◌≡◌, ℕ, zero, suc, ◌+◌, ◌-◌, ◌*◌, ◌<◌, ◌≤◌, ◌==◌, Bool, true, false, List, [], ◌∷◌, ◌++◌, length, get_or, take, map, codes, chars, cond, Option, Some, None, refl, arith, rules, append_assoc}
use Rattle.std.specs.Prelude.{nat_le, is_some}
use Rattle.std.specs.Char.{encode_utf8}
use Rattle.std.specs.Fmt.{decimal}
use Rattle.std.specs.Option.{IfSome}
use Rattle.std.specs.List.{All, join_with_byte, position}
use Rattle.std.proofs.lemmas.Fmt.{decimal_digit}
use Rattle.std.proofs.lemmas.List.{get_or-map, length-map}
use Rattle.std.proofs.lemmas.List.Elements.{All-head, All-tail}
use Rattle.std.proofs.lemmas.List.Folds.{list_any_at}
use Rattle.std.proofs.lemmas.List.Quantifiers.{position-Some}
use Rattle.ps_calc.specs.Draws.{after, drawn}
use Rattle.ps_group.specs.declared.group.Group.{Group}
use Rattle.ps_group.specs.Ranks.{rank_of}
use Rattle.ps_rules.specs.declared.table.Format.{Format}
use Rattle.ps_dex.specs.declared.item.MoveItem.{MoveItem}
use Rattle.ps_dex.specs.declared.item.SpeciesItem.{SpeciesItem}
use Rattle.ps_dex.specs.declared.item.Tables.{Tables}
use Rattle.rules_config.specs.declared.settings.Settings.{Settings}
use Rattle.replay_script.specs.declared.item.Item.{Item}
use Rattle.replay_script.specs.declared.item.Item.TheVariants as items
use Rattle.replay_script.specs.Items.{IsGroup}
use Rattle.replay_script.specs.Scripts.{Seen, start, has_symbol, IsScript}
use Rattle.replay_drill.specs.Plain.{IsPlain, HasPlainNames, HasPlainFormats}
use Rattle.replay_drill.specs.Lines.{has_percent, group_line_if, group_line, open_line, name_line, join_line, head_lines, team_line, team_lines, challenge_line, accept_line, battle_line, join_battle_lines, time_line, lobby_line, whisper_line}
use Rattle.replay_drill.specs.Draws.{conn_drawn, speaker, kind, hearer, drawn_line, after_steps}
use Rattle.replay_drill.specs.declared.fight.Fight.{Fight}
use Rattle.replay_drill.specs.Fights.{id_at, first_moves, drill_team, packed_alone, fight_in, fight_of, fight_start, fight_choices}
use Rattle.replay_drill.specs.Drills.{step_lines, drill_text}
use Rattle.replay_drill.proofs.PlainTexts.{words_plain, joined_plain, wider_plain, decimal_plain}
use Rattle.replay_drill.proofs.LineForms.{Leads, users, none_leads, then_leads, each_leads, choice_leads, whole_leads, line_leads, open_leads, time_leads, send_leads}
use Rattle.replay_drill.proofs.TeamLemmas.{team_is}
use Rattle.ps_base.specs.Lists.{each_to}

-- ---- the head

symbol_found : (symbol i : ℕ) (groups : List Group) (d : Group) → position (λ g. g.symbol == symbol) groups ≡ Some i → has_symbol (map (λ g. g.symbol) groups) symbol ≡ true
symbol_found symbol i groups d e =
    let found = position-Some (λ (g : Group). g.symbol == symbol) groups i d e in
    let read : get_or (map (λ (g : Group). g.symbol) groups) i 0 ≡ (get_or groups i d).symbol = get_or-map (λ (g : Group). g.symbol) groups i d 0 found.0 in
    list_any_at (λ (s : ℕ). s == symbol) (map (λ (g : Group). g.symbol) groups) i 0 (omega (arith, found.0, length-map groups (λ (g : Group). g.symbol))) (rw read found.1)

percent_found : (groups : List Group) (rank : Option ℕ) → rank_of 37 groups ≡ rank → is_some rank ≡ true → has_symbol (map (λ g. g.symbol) groups) 37 ≡ true
percent_found groups None e h = absurd cc
percent_found [] (Some i) e h = absurd cc
percent_found (g ∷ groups) (Some i) e h = symbol_found 37 i (g ∷ groups) g e

group_says : IsGroup (codes "G % u1") 37 (codes "u1")
unfolding encode_utf8
group_says = record { spelled = refl; named = refl }

group_leads : (symbols : List ℕ) (b : Bool) → (b ≡ true → has_symbol symbols 37 ≡ true) → Leads (users symbols 0 0) (group_line_if b) (users symbols 0 0)
group_leads symbols false h = none_leads (users symbols 0 0)
group_leads symbols true h = line_leads (users symbols 0 0) 6 (codes "G % u1") (items.Group 37 (codes "u1")) (words_plain (codes "G % u1") refl) group_says (rw (h refl))

-- ---- lines that one of the eight users sends

conn_plain : (conn : ℕ) → conn ≤ 8 → IsPlain 1 (decimal conn)
conn_plain conn few = decimal_plain 1 conn (omega arith) (omega arith) (omega arith)

name_leads : (symbols : List ℕ) (conn : ℕ) → 0 < conn → conn ≤ 8 → Leads (users symbols 0 8) (name_line conn) (users symbols 0 8)
name_leads symbols conn some few =
    let plain = joined_plain (joined_plain (words_plain (codes "|/trn u") refl) (conn_plain conn few)) (words_plain (codes ",0,") refl) in
    send_leads symbols 0 conn (codes ">" ++ decimal conn ++ codes " |/trn u" ++ decimal conn ++ codes ",0,") some few plain (omega arith) (search (rules, append_assoc))

join_leads : (symbols : List ℕ) (conn : ℕ) → 0 < conn → conn ≤ 8 → Leads (users symbols 0 8) (join_line conn) (users symbols 0 8)
join_leads symbols conn some few = send_leads symbols 0 conn (codes ">" ++ decimal conn ++ codes " " ++ codes "|/join lobby") some few (words_plain (codes "|/join lobby") refl) (omega arith) (search (rules, append_assoc))

head_leads : (groups : List Group) → Leads (start (map (λ g. g.symbol) groups)) (head_lines groups) (users (map (λ g. g.symbol) groups) 0 8)
head_leads groups =
    let symbols : List ℕ = map (λ (g : Group). g.symbol) groups in
    let all : Seen = users symbols 0 8 in
    let grouped : Leads (start symbols) (group_line groups) (start symbols) = group_leads symbols (has_percent groups) (percent_found groups (rank_of 37 groups) refl) in
    let opened : Leads (start symbols) (each_to open_line 8) all = each_leads open_line (users symbols 0) 8 (λ k below. open_leads symbols 0 k (omega arith)) in
    let named : Leads all (each_to name_line 8) all = each_leads name_line (λ k. all) 8 (λ k below. name_leads symbols (suc k) (omega arith) (omega arith)) in
    let joined : Leads all (each_to join_line 8) all = each_leads join_line (λ k. all) 8 (λ k below. join_leads symbols (suc k) (omega arith) (omega arith)) in
    then_leads (then_leads (then_leads grouped opened) named) joined

-- ---- the battle's texts

no_text : (most : ℕ) → IsPlain most []
no_text most = wider_plain (words_plain [] refl) (omega arith)

id_plain : (moves : List MoveItem) (number : ℕ) → All (λ m. IsPlain 32 m.id) moves → IsPlain 32 (id_at moves number)
unfolding id_at
id_plain [] number h = no_text 32
id_plain (m ∷ moves) zero h = All-head (λ (x : MoveItem). IsPlain 32 x.id) m moves h
id_plain (m ∷ moves) (suc number) h = id_plain moves number (All-tail (λ (x : MoveItem). IsPlain 32 x.id) m moves h)

ids_plain : (moves : List MoveItem) (count : ℕ) (numbers : List ℕ) → All (λ m. IsPlain 32 m.id) moves → IsPlain (33 * count) (join_with_byte 44 (map (id_at moves) (take count numbers)))
ids_plain moves zero numbers h = no_text (33 * zero)
ids_plain moves (suc count) [] h = no_text (33 * suc count)
ids_plain moves (suc zero) (x ∷ numbers) h = wider_plain (id_plain moves x h) (omega arith)
ids_plain moves (suc (suc count)) (x ∷ []) h = wider_plain (id_plain moves x h) (omega arith)
ids_plain moves (suc (suc count)) (x ∷ y ∷ numbers) h = wider_plain (joined_plain (id_plain moves x h) (joined_plain (words_plain (44 ∷ []) refl) (ids_plain moves (suc count) (y ∷ numbers) h))) (omega arith)

named_plain : (a b : ℕ) (name ids : List ℕ) → IsPlain a name → IsPlain b ids → IsPlain (a + b + 11) (packed_alone name ids)
unfolding packed_alone
named_plain a b name ids p q = by_test (nat_le (length (chars name)) 18)
  where
    by_test : (t : Bool) → IsPlain (a + b + 11) (cond t (name ++ codes "||||" ++ ids ++ codes "|||||||") (codes "|" ++ name ++ codes "|||" ++ ids ++ codes "|||||||"))
    by_test true = wider_plain (joined_plain (joined_plain (joined_plain p (words_plain (codes "||||") refl)) q) (words_plain (codes "|||||||") refl)) (omega arith)
    by_test false = wider_plain (joined_plain (joined_plain (joined_plain (joined_plain (words_plain (codes "|") refl) p) (words_plain (codes "|||") refl)) q) (words_plain (codes "|||||||") refl)) (omega arith)

team_plain : (moves : List MoveItem) (s : SpeciesItem) → All (λ m. IsPlain 32 m.id) moves → IsPlain 32 s.name → IsPlain 175 (drill_team moves s)
team_plain moves s h p = rw (team_is moves s) (named_plain 32 132 s.name (join_with_byte 44 (first_moves moves s.learns)) p (ids_plain moves 4 s.learns h))

-- the texts of a battle leave room for the words round them
record IsPlainFight (f : Fight) : Type 0 where
  format : IsPlain 8000 f.format
  team : IsPlain 8000 f.team

fight_plain : (most : ℕ) (formats : List Format) (moves : List MoveItem) (species : List SpeciesItem) → most ≤ 8000 → All (λ f. IsPlain most f.id) formats → All (λ m. IsPlain 32 m.id) moves → All (λ s. IsPlain 32 s.name) species → IfSome (fight_in formats moves species) IsPlainFight
fight_plain most [] moves species few p q r = tt
fight_plain most (f ∷ formats) moves [] few p q r = tt
fight_plain most (f ∷ formats) moves (s ∷ species) few p q r =
    record {
      format = wider_plain (All-head (λ (x : Format). IsPlain most x.id) f formats p) few;
      team = wider_plain (team_plain moves s q (All-head (λ (x : SpeciesItem). IsPlain 32 x.name) s species r)) (omega arith);
    }

-- ---- the battle's lines

team_leads : (symbols team : List ℕ) (conn : ℕ) → 0 < conn → conn ≤ 8 → IsPlain 8000 team → Leads (users symbols 0 8) (team_line team conn) (users symbols 0 8)
team_leads symbols team conn some few p = send_leads symbols 0 conn (codes ">" ++ decimal conn ++ codes " |/utm " ++ team) some few (joined_plain (words_plain (codes "|/utm ") refl) p) (omega arith) (search (rules, append_assoc))

challenge_leads : (symbols format : List ℕ) → IsPlain 8000 format → Leads (users symbols 0 8) (challenge_line format) (users symbols 0 8)
unfolding challenge_line
challenge_leads symbols format p = send_leads symbols 0 7 (codes ">7 |/challenge u8, " ++ format) (omega arith) (omega arith) (joined_plain (words_plain (codes "|/challenge u8, ") refl) p) (omega arith) (rw (decimal_digit 7 (omega arith)))

accept_leads : (symbols : List ℕ) → Leads (users symbols 0 8) accept_line (users symbols 0 8)
accept_leads symbols = send_leads symbols 0 8 (codes ">8 |/accept u7") (omega arith) (omega arith) (words_plain (codes "|/accept u7") refl) (omega arith) (rw (decimal_digit 8 (omega arith)))

battle_leads : (symbols format before behind : List ℕ) (moment conn : ℕ) → 0 < conn → conn ≤ 8 → IsPlain 8000 format → IsPlain 20 before → IsPlain 20 behind → Leads (users symbols moment 8) (battle_line format conn before behind) (users symbols moment 8)
battle_leads symbols format before behind moment conn some few p q r =
    let plain = joined_plain (joined_plain (joined_plain (joined_plain q (words_plain (codes "battle-") refl)) p) (words_plain (codes "-1") refl)) r in
    send_leads symbols moment conn (codes ">" ++ decimal conn ++ codes " " ++ before ++ codes "battle-" ++ format ++ codes "-1" ++ behind) some few plain (omega arith) (search (rules, append_assoc))

both_teams_lead : (symbols team : List ℕ) → IsPlain 8000 team → Leads (users symbols 0 8) (team_lines team) (users symbols 0 8)
unfolding team_lines
both_teams_lead symbols team p = then_leads (team_leads symbols team 7 (omega arith) (omega arith) p) (team_leads symbols team 8 (omega arith) (omega arith) p)

both_join_leads : (symbols format : List ℕ) → IsPlain 8000 format → Leads (users symbols 0 8) (join_battle_lines format) (users symbols 0 8)
unfolding join_battle_lines
both_join_leads symbols format p =
    let before : IsPlain 20 (codes "|/join ") = wider_plain (words_plain (codes "|/join ") refl) (omega arith) in
    then_leads (battle_leads symbols format (codes "|/join ") [] 0 7 (omega arith) (omega arith) p before (no_text 20)) (battle_leads symbols format (codes "|/join ") [] 0 8 (omega arith) (omega arith) p before (no_text 20))

start_leads : (symbols : List ℕ) (fight : Option Fight) → IfSome fight IsPlainFight → Leads (users symbols 0 8) (fight_start fight) (users symbols 0 8)
start_leads symbols None p = none_leads (users symbols 0 8)
start_leads symbols (Some f) p =
    then_leads (then_leads (then_leads (both_teams_lead symbols f.team p.team) (challenge_leads symbols f.format p.format)) (accept_leads symbols)) (both_join_leads symbols f.format p.format)

choices_lead : (symbols : List ℕ) (moment : ℕ) (fight : Option Fight) → IfSome fight IsPlainFight → Leads (users symbols moment 8) (fight_choices fight) (users symbols moment 8)
choices_lead symbols moment None p = none_leads (users symbols moment 8)
choices_lead symbols moment (Some f) p =
    let behind : IsPlain 20 (codes "|/choose default") = wider_plain (words_plain (codes "|/choose default") refl) (omega arith) in
    then_leads (battle_leads symbols f.format [] (codes "|/choose default") moment 7 (omega arith) (omega arith) p.format (no_text 20) behind) (battle_leads symbols f.format [] (codes "|/choose default") moment 8 (omega arith) (omega arith) p.format (no_text 20) behind)

-- ---- the steps

drawn_below : (x : ℕ) → drawn (after x) 8 < 8
unfolding drawn after
drawn_below x = omega arith

drawn_few : (x : ℕ) → (0 < conn_drawn x) × (conn_drawn x ≤ 8)
drawn_few x = (omega arith, omega (arith, drawn_below x))

number_plain : (k : ℕ) → k ≤ 4000 → IsPlain 4 (decimal k)
number_plain k few = decimal_plain 4 k (omega arith) (omega arith) (omega arith)

lobby_leads : (symbols : List ℕ) (moment conn : ℕ) (words : List ℕ) (k : ℕ) → 0 < conn → conn ≤ 8 → IsPlain 10 words → k ≤ 4000 → Leads (users symbols moment 8) (lobby_line conn words k) (users symbols moment 8)
lobby_leads symbols moment conn words k some few p below =
    let plain = joined_plain (joined_plain (words_plain (codes "lobby|") refl) p) (number_plain k below) in
    send_leads symbols moment conn (codes ">" ++ decimal conn ++ codes " lobby|" ++ words ++ decimal k) some few plain (omega arith) (search (rules, append_assoc))

whisper_leads : (symbols : List ℕ) (moment conn to k : ℕ) → 0 < conn → conn ≤ 8 → to ≤ 8 → k ≤ 4000 → Leads (users symbols moment 8) (whisper_line conn to k) (users symbols moment 8)
whisper_leads symbols moment conn to k some few there below =
    let plain = joined_plain (joined_plain (joined_plain (words_plain (codes "|/pm u") refl) (conn_plain to there)) (words_plain (codes ", w") refl)) (number_plain k below) in
    send_leads symbols moment conn (codes ">" ++ decimal conn ++ codes " |/pm u" ++ decimal to ++ codes ", w" ++ decimal k) some few plain (omega arith) (search (rules, append_assoc))

drawn_leads : (symbols : List ℕ) (moment k x : ℕ) → k ≤ 4000 → Leads (users symbols moment 8) (drawn_line k x) (users symbols moment 8)
unfolding drawn_line
drawn_leads symbols moment k x below =
    let s : Seen = users symbols moment 8 in
    let speaks = drawn_few x in
    let hears = drawn_few (after (after x)) in
    let talk = lobby_leads symbols moment (speaker x) (codes "m") k speaks.0 speaks.1 (wider_plain (words_plain (codes "m") refl) (omega arith)) below in
    let note = lobby_leads symbols moment (speaker x) (codes "/modnote n") k speaks.0 speaks.1 (words_plain (codes "/modnote n") refl) below in
    let whisper = whisper_leads symbols moment (speaker x) (hearer x) k speaks.0 speaks.1 hears.1 below in
    choice_leads (kind x == 0) talk (choice_leads (kind x == 1) whisper note)

step_leads : (symbols : List ℕ) (fight : Option Fight) (seed k : ℕ) → IfSome fight IsPlainFight → suc k ≤ 4000 → Leads (users symbols k 8) (step_lines fight seed (suc k)) (users symbols (suc k) 8)
step_leads symbols fight seed k p below =
    let s : Seen = users symbols (suc k) 8 in
    let timed : Leads (users symbols k 8) (time_line (suc k)) s = time_leads symbols k 8 (suc k) (omega arith) (omega arith) in
    let said : Leads s (drawn_line (suc k) (after_steps seed (suc k - 1))) s = drawn_leads symbols (suc k) (suc k) (after_steps seed (suc k - 1)) below in
    then_leads (then_leads timed said) (choices_lead symbols (suc k) fight p)

-- ---- the whole

pub drill_is_script : (config : Settings) (dex : Tables) (steps : ℕ) → HasPlainFormats config → HasPlainNames dex → steps ≤ 4000 → (items : List Item) × IsScript (map (λ g. g.symbol) config.groups) (drill_text config dex steps) items
unfolding drill_text
drill_is_script config dex steps formats names few =
    let symbols : List ℕ = map (λ (g : Group). g.symbol) config.groups in
    let fight : Option Fight = fight_of config dex in
    let plain : IfSome fight IsPlainFight = fight_plain _ config.formats.formats dex.moves dex.species (omega arith) formats names.moves names.species in
    let begun : Leads (start symbols) (head_lines config.groups ++ fight_start fight) (users symbols 0 8) = then_leads (head_leads config.groups) (start_leads symbols fight plain) in
    let stepped : Leads (users symbols 0 8) (each_to (step_lines fight steps) steps) (users symbols steps 8) = each_leads (step_lines fight steps) (λ k. users symbols k 8) steps (λ k below. step_leads symbols fight steps k plain (omega arith)) in
    whole_leads symbols (drill_text config dex steps) (users symbols steps 8) (then_leads begun stepped)
