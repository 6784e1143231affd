-- What a tournament's lines come to.
use Rattle.std.proofs.Common.{◌≡◌, ◌≤◌, ◌+◌, ℕ, zero, suc, Bool, true, false, cond, List, [], ◌∷◌, ◌++◌, length, codes, Option, Some, None, refl, sym, ap, ◌∙◌, subst, arith}
use Rattle.std.proofs.lemmas.Option.{none-some, same_Some}
use Rattle.ps_dex.specs.declared.item.Tables.{Tables}
use Rattle.ps_base.specs.ById.{ById}
use Rattle.ps_group.specs.declared.group.Group as group
use Rattle.rules_config.specs.declared.settings.Settings.{Settings}
use Rattle.ps_tour.specs.Brackets.{open_match}
use Rattle.replay_script.specs.declared.item.Item.{Item}
use Rattle.replay_script.specs.declared.item.Item.TheVariants.{Open, Send}
use Rattle.replay_state.specs.Setup.{Setup, setup_of, with_ranking, ranks_from, ranks_of}
use Rattle.replay_state.specs.Entries.{Run, run_opening, state_of, line_in, run_after, run_past}
use Rattle.replay_state.specs.Transcript.{output}
use Rattle.replay_state.specs.Tables.{Desk, desk_of, fresh, text_from}
use Rattle.replay_state.specs.TwoWorlds.{HasEqualBlocks}
use Rattle.replay_state.proofs.CountLemmas.{open_sessions, sent_sessions}
use Rattle.replay_state.proofs.SenderLemmas.{open_up_to, send_up_to}
use Rattle.replay_state.proofs.BlockLemmas.{AreOwn}
use Rattle.replay_state.proofs.TextLemmas.{fresh_is, output_is}
use Rattle.replay_state.proofs.TwoWorldLemmas.{equal_blocks_own}
use Rattle.replay_drill.specs.declared.fight.Fight.{Fight}
use Rattle.replay_tour.specs.declared.stage.Stage.{Stage}
use Rattle.replay_tour.specs.declared.stage.Stage.TheVariants.{Challenge, Accept, FirstJoin, SecondJoin, FirstChoice, SecondChoice}
use Rattle.replay_tour.specs.Entrants.{each_line, user_name, assertion, name_line, team_line, entering}
use Rattle.replay_tour.specs.Matches.{match_line}
use Rattle.replay_tour.specs.Tours.{Tour, begun, line_of, next_line, past}
use Rattle.replay_tour.specs.Results.{IsDecidedTour}
use Rattle.replay_tour.proofs.StandingLemmas.{IsUser, IsStanding, begun_stands, past_stands, who_meet, is_over}
use Rattle.program_commands.specs.Words.{Toured}
use Rattle.ps_replay.specs.Tours.{end_of, line_with, lines_from, most_lines, tour_start, entered, match_lines, tour_script, played, tour_end}

-- ---- lines one behind the other

past_behind : (r : Run) (is js : List Item) → run_past r (is ++ js) ≡ run_past (run_past r is) js
past_behind r [] js = refl
past_behind r (i ∷ is) js = past_behind (run_after r i) is js

own_behind : (r : Run) (is js : List Item) → AreOwn r is → AreOwn (run_past r is) js → AreOwn r (is ++ js)
own_behind r [] js one other = other
own_behind r (i ∷ is) js one other = (one.0, own_behind (run_after r i) is js one.1 other)

ranks_behind : (groups : List group.Group) (ranks : ById ℕ) (is js : List Item) → ranks_from groups ranks (is ++ js) ≡ ranks_from groups (ranks_from groups ranks is) js
ranks_behind groups ranks [] js = refl
ranks_behind groups ranks (i ∷ is) js = ranks_behind groups (with_ranking groups ranks i) is js

-- ---- no line gives a rank

abbrev GivesNone : Item → Type 0
GivesNone i = (groups : List group.Group) (ranks : ById ℕ) → with_ranking groups ranks i ≡ ranks

none_each : (line : ℕ → Item) (n : ℕ) (groups : List group.Group) (ranks : ById ℕ) → ((k : ℕ) → GivesNone (line k)) → ranks_from groups ranks (each_line line n) ≡ ranks
none_each line zero groups ranks h = refl
none_each line (suc n) groups ranks h =
    ranks_behind groups ranks (each_line line n) (line (suc n) ∷ [])
    ∙ ap (λ (x : ById ℕ). with_ranking groups x (line (suc n))) (none_each line n groups ranks h)
    ∙ h (suc n) groups ranks

none_in_match : (format : List ℕ) (battle : ℕ) (pair : ℕ × ℕ) (stage : Stage) → GivesNone (match_line format battle pair stage)
none_in_match format battle pair Challenge groups ranks = refl
none_in_match format battle pair Accept groups ranks = refl
none_in_match format battle pair FirstJoin groups ranks = refl
none_in_match format battle pair SecondJoin groups ranks = refl
none_in_match format battle pair FirstChoice groups ranks = refl
none_in_match format battle pair SecondChoice groups ranks = refl

none_in_line : (groups : List group.Group) (ranks : ById ℕ) (later : Tour → Run → List Item) (format : List ℕ) (t : Tour) (r : Run) (met : Option (ℕ × ℕ)) → ((u : Tour) (q : Run) → ranks_from groups ranks (later u q) ≡ ranks) → ranks_from groups ranks (line_with later t r (line_of format t met)) ≡ ranks
none_in_line groups ranks later format t r None h = refl
none_in_line groups ranks later format t r (Some pair) h =
    let line : Item = match_line format t.battle pair t.stage in
    let rest : List Item = later (past (end_of r line) t) (run_after r line) in
    ap (λ (x : ById ℕ). ranks_from groups x rest) (none_in_match format t.battle pair t.stage groups ranks) ∙ h (past (end_of r line) t) (run_after r line)

none_in_matches : (most : ℕ) (format : List ℕ) (t : Tour) (r : Run) (groups : List group.Group) (ranks : ById ℕ) → ranks_from groups ranks (lines_from most format t r) ≡ ranks
none_in_matches zero format t r groups ranks = refl
none_in_matches (suc most) format t r groups ranks = none_in_line groups ranks (lines_from most format) format t r (open_match t.round) (λ later q. none_in_matches most format later q groups ranks)

none_entering : (config : Settings) (team : List ℕ) (users : ℕ) (groups : List group.Group) (ranks : ById ℕ) → ranks_from groups ranks (entering config team users) ≡ ranks
none_entering config team users groups ranks =
    ranks_behind groups ranks (each_line Open users ++ each_line (name_line config) users) (each_line (team_line team) users)
    ∙ none_each (team_line team) users groups (ranks_from groups ranks (each_line Open users ++ each_line (name_line config) users)) (λ k groups ranks. refl)
    ∙ ranks_behind groups ranks (each_line Open users) (each_line (name_line config) users)
    ∙ none_each (name_line config) users groups (ranks_from groups ranks (each_line Open users)) (λ k groups ranks. refl)
    ∙ none_each Open users groups ranks (λ k groups ranks. refl)

-- so what a tournament stands on is what no line stands on
pub setup_same : (config : Settings) (dex : Tables) (team : List ℕ) (users most : ℕ) (format : List ℕ) (t : Tour) (r : Run) → setup_of config dex (entering config team users ++ lines_from most format t r) ≡ setup_of config dex []
setup_same config dex team users most format t r =
    ap (λ (ranks : ById ℕ). record { config = config; dex = dex; ranks = ranks })
    (ranks_behind config.groups (ranks_of config.groups []) (entering config team users) (lines_from most format t r)
    ∙ none_in_matches most format t r config.groups (ranks_from config.groups (ranks_of config.groups []) (entering config team users))
    ∙ none_entering config team users config.groups (ranks_of config.groups []))

-- ---- each line is of a connection that has opened

sessions_each : (line : ℕ → Item) (n : ℕ) (r : Run) → ((k : ℕ) (q : Run) → length (line_in q (line k)).sessions ≡ length q.sessions) → length (run_past r (each_line line n)).sessions ≡ length r.sessions
sessions_each line zero r h = refl
sessions_each line (suc n) r h =
    ap (λ (q : Run). length q.sessions) (past_behind r (each_line line n) (line (suc n) ∷ []))
    ∙ h (suc n) (run_past r (each_line line n))
    ∙ sessions_each line n r h

sessions_opened : (n : ℕ) (r : Run) → r.sessions ≡ [] → length (run_past r (each_line Open n)).sessions ≡ n
sessions_opened zero r none = ap length none
sessions_opened (suc n) r none =
    let q : Run = run_past r (each_line Open n) in
    ap (λ (x : Run). length x.sessions) (past_behind r (each_line Open n) (Open (suc n) ∷ []))
    ∙ omega (arith, open_sessions (state_of q) (suc n), sessions_opened n r none)

own_opened : (n : ℕ) (r : Run) → r.sessions ≡ [] → AreOwn r (each_line Open n)
own_opened zero r none = tt
own_opened (suc n) r none =
    let q : Run = run_past r (each_line Open n) in
    own_behind r (each_line Open n) (Open (suc n) ∷ []) (own_opened n r none) (open_up_to q (suc n) (omega (arith, sessions_opened n r none)), tt)

own_each : (text : ℕ → List ℕ) (n users : ℕ) (r : Run) → n ≤ users → length r.sessions ≡ users → AreOwn r (each_line (λ k. Send k (text k)) n)
own_each text zero users r few count = tt
own_each text (suc n) users r few count =
    let line : ℕ → Item = λ k. Send k (text k) in
    let q : Run = run_past r (each_line line n) in
    let same : length q.sessions ≡ users = sessions_each line n r (λ k x. sent_sessions (state_of x) k (text k)) ∙ count in
    own_behind r (each_line line n) (line (suc n) ∷ []) (own_each text n users r (omega (arith, few)) count) (send_up_to q (suc n) (text (suc n)) (omega arith, omega (arith, few, same)), tt)

own_entering : (config : Settings) (team : List ℕ) (users : ℕ) (r : Run) → r.sessions ≡ [] → AreOwn r (entering config team users)
own_entering config team users r none =
    let opened : Run = run_past r (each_line Open users) in
    let count : length opened.sessions ≡ users = sessions_opened users r none in
    let named : AreOwn opened (each_line (name_line config) users) = own_each (λ k. codes "|/trn " ++ user_name k ++ codes ",0," ++ assertion config k) users users opened (omega arith) count in
    let all : Run = run_past r (each_line Open users ++ each_line (name_line config) users) in
    let still : length all.sessions ≡ users =
    ap (λ (x : Run). length x.sessions) (past_behind r (each_line Open users) (each_line (name_line config) users))
    ∙ sessions_each (name_line config) users opened (λ k x. sent_sessions (state_of x) k _) ∙ count in
    own_behind r (each_line Open users ++ each_line (name_line config) users) (each_line (team_line team) users)
    (own_behind r (each_line Open users) (each_line (name_line config) users) (own_opened users r none) named)
    (own_each (λ k. codes "|/utm " ++ team) users users all (omega arith) still)

sessions_entered : (config : Settings) (team : List ℕ) (users : ℕ) (r : Run) → r.sessions ≡ [] → length (run_past r (entering config team users)).sessions ≡ users
sessions_entered config team users r none =
    let opened : Run = run_past r (each_line Open users) in
    let all : Run = run_past r (each_line Open users ++ each_line (name_line config) users) in
    ap (λ (x : Run). length x.sessions) (past_behind r (each_line Open users ++ each_line (name_line config) users) (each_line (team_line team) users))
    ∙ sessions_each (team_line team) users all (λ k x. sent_sessions (state_of x) k _)
    ∙ ap (λ (x : Run). length x.sessions) (past_behind r (each_line Open users) (each_line (name_line config) users))
    ∙ sessions_each (name_line config) users opened (λ k x. sent_sessions (state_of x) k _)
    ∙ sessions_opened users r none

own_line : (format : List ℕ) (battle : ℕ) (pair : ℕ × ℕ) (stage : Stage) (r : Run) → IsUser (length r.sessions) pair.0 → IsUser (length r.sessions) pair.1
    → AreOwn r (match_line format battle pair stage ∷ []) × (length (run_after r (match_line format battle pair stage)).sessions ≡ length r.sessions)
own_line format battle pair Challenge r first second = ((send_up_to r pair.0 _ first, tt), sent_sessions (state_of r) pair.0 _)
own_line format battle pair Accept r first second = ((send_up_to r pair.1 _ second, tt), sent_sessions (state_of r) pair.1 _)
own_line format battle pair FirstJoin r first second = ((send_up_to r pair.0 _ first, tt), sent_sessions (state_of r) pair.0 _)
own_line format battle pair SecondJoin r first second = ((send_up_to r pair.1 _ second, tt), sent_sessions (state_of r) pair.1 _)
own_line format battle pair FirstChoice r first second = ((send_up_to r pair.0 _ first, tt), sent_sessions (state_of r) pair.0 _)
own_line format battle pair SecondChoice r first second = ((send_up_to r pair.1 _ second, tt), sent_sessions (state_of r) pair.1 _)

own_in_line : (users : ℕ) (later : Tour → Run → List Item) (format : List ℕ) (t : Tour) (r : Run) (met : Option (ℕ × ℕ)) → open_match t.round ≡ met → IsStanding users t → length r.sessions ≡ users
    → ((u : Tour) (q : Run) → IsStanding users u → length q.sessions ≡ users → AreOwn q (later u q)) → AreOwn r (line_with later t r (line_of format t met))
own_in_line users later format t r None e s count h = tt
own_in_line users later format t r (Some pair) e s count h =
    let line : Item = match_line format t.battle pair t.stage in
    let meet = who_meet users t pair s e in
    let of = own_line format t.battle pair t.stage r (subst (λ (n : ℕ). IsUser n pair.0) (sym count) meet.0) (subst (λ (n : ℕ). IsUser n pair.1) (sym count) meet.1) in
    (of.0.0, h (past (end_of r line) t) (run_after r line) (past_stands users (end_of r line) t s) (of.1 ∙ count))

own_matches : (users most : ℕ) (format : List ℕ) (t : Tour) (r : Run) → IsStanding users t → length r.sessions ≡ users → AreOwn r (lines_from most format t r)
own_matches users zero format t r s count = tt
own_matches users (suc most) format t r s count = own_in_line users (lines_from most format) format t r (open_match t.round) refl s count (λ u q stands same. own_matches users most format u q stands same)

pub two_worlds : (config : Settings) (dex : Tables) (team : List ℕ) (users seed most : ℕ) (format : List ℕ) → 2 ≤ users → users ≤ 16
    → HasEqualBlocks config dex (entering config team users ++ lines_from most format (begun users seed) (run_past (tour_start config dex) (entering config team users)))
two_worlds config dex team users seed most format some few =
    let start : Run = tour_start config dex in
    let head : List Item = entering config team users in
    let lines : List Item = lines_from most format (begun users seed) (run_past start head) in
    let own : AreOwn start (head ++ lines) = own_behind start head lines (own_entering config team users start refl) (own_matches users most format (begun users seed) (run_past start head) (begun_stands users seed some few) (sessions_entered config team users start refl)) in
    equal_blocks_own config dex (head ++ lines) (subst (λ (s : Setup). AreOwn (run_opening s) (head ++ lines)) (sym (setup_same config dex team users most format (begun users seed) (run_past start head))) own)

-- ---- the end

played_stands : (users : ℕ) (t : Tour) (r : Run) (is : List Item) → IsStanding users t → IsStanding users (played t r is)
played_stands users t r [] s = s
played_stands users t r (i ∷ is) s = played_stands users (past (end_of r i) t) (run_after r i) is (past_stands users (end_of r i) t s)

pub decided : (users seed : ℕ) (r : Run) (is : List Item) → 2 ≤ users → users ≤ 16 → open_match (played (begun users seed) r is).round ≡ None → IsDecidedTour users (played (begun users seed) r is)
decided users seed r is some few over = is_over users (played (begun users seed) r is) (played_stands users (begun users seed) r is (begun_stands users seed some few)) over
