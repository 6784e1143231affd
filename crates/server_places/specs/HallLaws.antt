-- What is pulled of the hall is what is shown: a law of its place, which stands here since the implementation of `Told` cites it.
use Rattle.std.proofs.Common.{◌≡◌, ℕ, ◌+◌, ◌-◌, ◌≤◌, List, [], ◌∷◌, ◌++◌, map, length, take, drop, Option, None, refl, sym, ap, ◌∙◌}
use Rattle.std.proofs.Common.{subst, inl, inr, append_assoc, arith}
use Rattle.std.proofs.lemmas.List.{append-nil, length-append, length-take-le, take_at, take-take, take-append-drop}
use Rattle.ps_base.specs.declared.msg.Msg.{Msg}
use Rattle.ps_base.specs.Messages.{sent, msg_lines}
use Rattle.ps_hall.specs.declared.cursor.Cursor.{Cursor}
use Rattle.ps_hall.specs.declared.entry.HallEntry.{HallEntry}
use Rattle.ps_hall.specs.Records.{Record}
use Rattle.ps_hall.specs.Halls.{run_record, after, message, view, pulled_past, cursor_past}
use Rattle.ps_hall.proofs.PullLemmas.{pulls_view}
use Rattle.server_pass.specs.Tellings.{IsLawful}
use Rattle.server_places.specs.declared.cursor.HallCursor.{HallCursor}
use Rattle.server_places.specs.declared.site.Root.{Root}
use Rattle.server_places.specs.Halls.{hall_opened, hall_seen, HallReads, HallPiece, HallPulls, hall_bounded, HallPullsUpTo, HallShows}
use Rattle.server_places.specs.Halls.{HallStandsAt, HallGoesOn, HallPullsGoOn}
use Rattle.server_places.specs.Tellings.{hall_telling}

view_more : (conn : ℕ) (hall : Record) (before later : List HallEntry)
    → view conn hall (before ++ later) ≡ view conn hall before ++ view conn (run_record hall before) later
view_more conn hall [] later = refl
view_more conn hall (entry ∷ entries) later = ap (λ (ms : List (List (List ℕ))). sent (message conn hall entry) ++ ms)
    (view_more conn (after hall entry) entries later) ∙ sym
    (append_assoc (sent (message conn hall entry)) (view conn (after hall entry) entries)
    (view conn (run_record (after hall entry) entries) later))

-- who reads all of it
hall_reads_on : (conn : ℕ) (root : Root) (before later : List HallEntry) (until : Option ℕ) (x y : HallCursor)
    (ms : List (List (List ℕ))) (msgs : List Msg)
    → HallStandsAt conn root before x → HallShows conn root before ms → HallReads root (before ++ later) (hall_bounded until x) msgs y
    → HallShows conn root (before ++ later) (ms ++ map msg_lines msgs) × HallStandsAt conn root (before ++ later) (hall_bounded None y)
hall_reads_on conn root before later until x y ms msgs at shows p =
    let past = pulls_view conn (hall_opened root) before later in (
      ap (λ (xs : List (List (List ℕ))). xs ++ map msg_lines msgs) shows
          ∙ ap (λ (xs : List (List (List ℕ))). view conn (hall_opened root) before ++ xs)
          (p.messages ∙ ap (λ (c : HallCursor). pulled_past c.hall (hall_seen root (before ++ later))) at ∙ past.messages)
          ∙ sym (view_more conn (hall_opened root) before later),
      ap (hall_bounded None) p.cursor ∙ ap (λ (c : HallCursor). record
          { hall = cursor_past c.hall (hall_seen root (before ++ later)); passed = length (before ++ later); until = None }) at
          ∙ ap (λ (c : Cursor). record { hall = c; passed = length (before ++ later); until = None }) past.end,
    )

-- ---- pieces

-- who stands behind some entries has no bound
pub hall_free : (conn : ℕ) (root : Root) (es : List HallEntry) (x : HallCursor) → HallStandsAt conn root es x → hall_bounded None x ≡ x
hall_free conn root es x at = ap (hall_bounded None) at ∙ sym at

-- a pull leaves the bound as it is
pub hall_until : (root : Root) (es : List HallEntry) (x y : HallCursor) (msgs : List Msg) → HallPulls root es x msgs y → y.until ≡ x.until
hall_until root es x y msgs (inl stays) = ap (λ (c : HallCursor). c.until) stays.2
hall_until root es x y msgs (inr p) = ap (λ (c : HallCursor). c.until) p.reads.cursor

-- what is pulled with no bound, where there is none
pub hall_pulls_free : (root : Root) (es : List HallEntry) (x y : HallCursor) (msgs : List Msg) → hall_bounded None x ≡ x
    → HallPulls root es x msgs y → HallPullsUpTo root es x msgs y
hall_pulls_free root es x y msgs free p =
    let none : y.until ≡ None = hall_until root es x y msgs p ∙ sym (ap (λ (c : HallCursor). c.until) free) in (
      None,
      y,
      subst (λ (c : HallCursor). HallPulls root es c msgs y) (sym free) p,
      λ i.
          record { hall = y.hall; passed = y.passed; until = none i },
    )

hall_goes_nowhere : (conn : ℕ) (root : Root) (before later : List HallEntry) (x y : HallCursor) (ms : List (List (List ℕ)))
    (msgs : List Msg)
    → HallStandsAt conn root before x → HallShows conn root before ms → msgs ≡ [] → y ≡ x
    → HallGoesOn conn root before later (ms ++ map msg_lines msgs) y
hall_goes_nowhere conn root before later x y ms msgs at shows none same =
    let passed : y.passed ≡ length before = ap (λ (c : HallCursor). c.passed) (same ∙ at) in
    let here : take y.passed (before ++ later) ≡ before = take_at before later y.passed (sym passed) in
    let nothing : ms ++ map msg_lines msgs ≡ ms = ap (λ (l : List Msg). ms ++ map msg_lines l) none ∙ append-nil ms in
    record {
      on = omega (arith, passed);
      within = omega (arith, passed, length-append before later);
      shows = subst (λ (l : List HallEntry). HallShows conn root l (ms ++ map msg_lines msgs)) (sym here) (nothing ∙ shows);
      stands = subst (λ (l : List HallEntry). HallStandsAt conn root l y) (sym here) (same ∙ at);
    }

hall_goes_far : (conn : ℕ) (root : Root) (before later : List HallEntry) (until : Option ℕ) (x y z : HallCursor)
    (ms : List (List (List ℕ))) (msgs : List Msg)
    → HallStandsAt conn root before x → HallShows conn root before ms → HallPiece root (before ++ later) (hall_bounded until x) msgs z
    → y ≡ hall_bounded None z → HallGoesOn conn root before later (ms ++ map msg_lines msgs) y
hall_goes_far conn root before later until x y z ms msgs at shows p is =
    let all : List HallEntry = before ++ later in
    let n : ℕ = p.count in
    let within : n ≤ length all = p.within in
    let passed : x.passed ≡ length before = ap (λ (c : HallCursor). c.passed) at in
    let on : length before ≤ n = subst (λ (m : ℕ). m ≤ n) passed (p.on (omega (arith, passed, length-append before later))) in
    let front : List HallEntry = take n all in
    let size : length front ≡ n = length-take-le n all within in
    let begins : take (length before) front ≡ before = take-take (length before) n all on ∙ take_at before later (length before) refl in
    let parts : before ++ drop (length before) front
    ≡ front = ap (λ (l : List HallEntry). l ++ drop (length before) front) (sym begins) ∙ take-append-drop (length before) front in
    let there : HallShows conn root (before ++ drop (length before) front) (ms ++ map msg_lines msgs)
    × HallStandsAt conn root (before ++ drop (length before) front) (hall_bounded None z) =
    hall_reads_on conn root before (drop (length before) front) until x z ms msgs at shows
    (subst (λ (l : List HallEntry). HallReads root l (hall_bounded until x) msgs z) (sym parts) p.reads) in
    let here : y.passed ≡ n = ap (λ (c : HallCursor). c.passed) is ∙ ap (λ (c : HallCursor). c.passed) p.reads.cursor ∙ size in
    let same : before ++ drop (length before) front ≡ take y.passed all = parts ∙ ap (λ (m : ℕ). take m all) (sym here) in
    record {
      on = omega (arith, here);
      within = omega (arith, here);
      shows = subst (λ (l : List HallEntry). HallShows conn root l (ms ++ map msg_lines msgs)) same there.0;
      stands = subst (λ (l : List HallEntry). HallStandsAt conn root l y) same
          (subst (λ (c : HallCursor). HallStandsAt conn root (before ++ drop (length before) front) c) (sym is) there.1);
    }

hall_goes_by : (conn : ℕ) (root : Root) (before later : List HallEntry) (until : Option ℕ) (x y z : HallCursor)
    (ms : List (List (List ℕ))) (msgs : List Msg)
    → HallStandsAt conn root before x → HallShows conn root before ms → HallPulls root (before ++ later) (hall_bounded until x) msgs z
    → y ≡ hall_bounded None z → HallGoesOn conn root before later (ms ++ map msg_lines msgs) y
hall_goes_by conn root before later until x y z ms msgs at shows (inl stays) is =
    hall_goes_nowhere conn root before later x y ms msgs at shows stays.1
    (is ∙ ap (hall_bounded None) stays.2 ∙ hall_free conn root before x at)
hall_goes_by conn root before later until x y z ms msgs at shows (inr p) is = hall_goes_far conn root before later until x y z ms msgs at
    shows p is

pub hall_goes_on : HallPullsGoOn
hall_goes_on conn root before later x y ms msgs at shows p = hall_goes_by conn root before later p.0 x y p.1 ms msgs at shows p.2 p.3

pub hall_tells : IsLawful HallPulls hall_telling
hall_tells = record {
  goes_on = λ conn root before later x y ms msgs at shows p.
      let on = hall_goes_on conn root before later x y ms msgs at shows p in (on.on, on.within, on.shows, on.stands);
  free = hall_free;
  unset = hall_pulls_free;
  last = λ first second x. refl;
}
