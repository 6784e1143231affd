-- What is pulled of a room's place is what is shown: a law of the place, which stands here since the implementation of `Told` cites it.
use Rattle.std.proofs.Common.{◌≡◌, ℕ, ◌≤◌, List, [], ◌∷◌, ◌++◌, map, length, take, drop, Option, Some, None, refl, sym, ap, ◌∙◌}
use Rattle.std.proofs.Common.{subst, inl, inr, append_assoc, arith}
use Rattle.std.proofs.lemmas.List.{append-nil, length-append, length-take-le, take_at, take-take, take-append-drop}
use Rattle.ps_splitlog.specs.Reads.{first_cursor, read_past}
use Rattle.ps_splitlog.specs.declared.cursor.Cursor.{Cursor}
use Rattle.ps_room.specs.declared.entry.Entry.{Entry}
use Rattle.ps_room.specs.Openings.{Opening}
use Rattle.ps_room.specs.Records.{Record, opened}
use Rattle.ps_room.specs.Rooms.{run_record, after, message, view}
use Rattle.ps_room.proofs.PullLemmas.{pulls_all, pulls_view}
use Rattle.ps_room.specs.Stories.{Story, seen_of}
use Rattle.server_places.specs.declared.command.RoomCmd.{RoomCmd}
use Rattle.server_places.specs.declared.cursor.RoomCursor.{RoomCursor}
use Rattle.server_places.specs.declared.site.Site.{Site}
use Rattle.server_places.specs.Sites.{chat_at, plays, TellsBy, Tells, view_told}
use Rattle.ps_base.specs.declared.msg.Msg.{Msg}
use Rattle.server_places.specs.Rooms.{read_from, cursor_from, cursor_of, Reads, Piece, Pulls, bounded, PullsUpTo, Shows, StandsAt}
use Rattle.server_places.specs.Rooms.{GoesOn, PullsGoOn}
use Rattle.server_places.specs.StoryLaws.{one_story, tells_more, going_on}
use Rattle.ps_base.specs.Messages.{sent, msg_lines}
use Rattle.server_pass.specs.Tellings.{IsLawful}
use Rattle.server_places.specs.Tellings.{room_telling}

view_more : (conn : ℕ) (room : Record) (before later : List Entry)
    → view conn room (before ++ later) ≡ view conn room before ++ view conn (run_record room before) later
view_more conn room [] later = refl
view_more conn room (entry ∷ entries) later = ap (λ (ms : List (List (List ℕ))). sent (message conn room entry) ++ ms)
    (view_more conn (after room entry) entries later) ∙ sym
    (append_assoc (sent (message conn room entry)) (view conn (after room entry) entries)
    (view conn (run_record (after room entry) entries) later))

-- what is told from one story on to the next: of the first room all, and of a room that was there what came since
pub data Goes : Option Story → Option Story → Type 0 where
  never : Goes None None
  opens : (story : Story) → Goes None (Some story)
  goes : (story : Story) (later : List RoomCmd) → Goes (Some story) (Some (going_on later story))

goes_by : (site : Site) (before later : List RoomCmd) (one two : Option Story) → Tells site before one
    → Tells site (before ++ later) two → Goes one two
goes_by site before later None None a b = never
goes_by site before later None (Some story) a b = opens story
goes_by site before later (Some story) two a b = subst (λ (told : Option Story). Goes (Some story) told)
    (one_story site (before ++ later) (Some (going_on later story)) two (tells_more site before later story a) b) (goes story later)

-- ---- what is read

read_all : (conn : ℕ) (story : Story) → read_past (first_cursor conn) (seen_of story).log ≡ view_told conn (Some story)
read_all conn story = (pulls_all conn story.opening story.history).messages

shown : (conn : ℕ) (until : Option ℕ) (one two : Option Story) (x : RoomCursor) (n : ℕ) → Goes one two → x ≡ cursor_of conn one n
    → view_told conn one ++ read_from (bounded until x) two ≡ view_told conn two
shown conn until one two x n never at = refl
shown conn until one two x n (opens story) at = rw at (read_all conn story)
shown conn until one two x n (goes story later) at = rw at
    (ap (λ (ms : List (List (List ℕ))). view conn (opened story.opening) story.history ++ ms)
    (pulls_view conn story.opening story.history (plays later)).messages
    ∙ sym (view_more conn (opened story.opening) story.history (plays later)))

stands : (conn : ℕ) (until : Option ℕ) (one two : Option Story) (x : RoomCursor) (n m : ℕ) → Goes one two → x ≡ cursor_of conn one n
    → bounded None (cursor_from (bounded until x) two m) ≡ cursor_of conn two m
stands conn until one two x n m never at = rw at refl
stands conn until one two x n m (opens story) at = rw at
    (ap (λ (c : Cursor). record { room = c; id = Some story.opening.id; passed = m; until = None })
    (pulls_all conn story.opening story.history).end)
stands conn until one two x n m (goes story later) at = rw at
    (ap (λ (c : Cursor). record { room = c; id = Some story.opening.id; passed = m; until = None })
    (pulls_view conn story.opening story.history (plays later)).end)

-- ---- from a new cursor

from_none : (told : Option Story) → Goes None told
from_none None = never
from_none (Some story) = opens story

nothing_told : (conn : ℕ) (chat : Option Opening) (site : Site) (told : Option Story) → TellsBy chat site [] told → view_told conn told ≡ []
nothing_told conn (Some chat) site told e = ap (view_told conn) e
nothing_told conn None site told e = ap (view_told conn) e

-- who reads all of it
reads_go_on : (conn : ℕ) (site : Site) (before later : List RoomCmd) (until : Option ℕ) (x y : RoomCursor) (ms : List (List (List ℕ)))
    (msgs : List Msg)
    → StandsAt conn site before x → Shows conn site before ms → Reads site (before ++ later) (bounded until x) msgs y
    → Shows conn site (before ++ later) (ms ++ map msg_lines msgs) × StandsAt conn site (before ++ later) (bounded None y)
reads_go_on conn site before later until x y ms msgs (inl new) shows p =
    let go : Goes None p.told = from_none p.told in
    let none : ms ≡ [] = shows.2 ∙ nothing_told conn (chat_at site) site shows.0
    (subst (λ (b : List RoomCmd). Tells site b shows.0) new.0 shows.1) in (
      (
        p.told,
        p.tells,
        ap (λ (xs : List (List (List ℕ))). xs ++ map msg_lines msgs) none ∙ p.messages
            ∙ shown conn until None p.told x 0 go new.1,
      ),
      inr (p.told, p.tells, ap (bounded None) p.cursor ∙ stands conn until None p.told x 0 (length (before ++ later)) go new.1),
    )
reads_go_on conn site before later until x y ms msgs (inr at) shows p =
    let same : shows.0 ≡ at.0 = one_story site before shows.0 at.0 shows.1 at.1 in
    let go : Goes at.0 p.told = goes_by site before later at.0 p.told at.1 p.tells in (
      (
        p.told,
        p.tells,
        ap (λ (xs : List (List (List ℕ))). xs ++ map msg_lines msgs) (shows.2 ∙ ap (view_told conn) same)
            ∙ ap (λ (xs : List (List (List ℕ))). view_told conn at.0 ++ xs) p.messages
            ∙ shown conn until at.0 p.told x (length before) go at.2,
      ),
      inr (
        p.told,
        p.tells,
        ap (bounded None) p.cursor
            ∙ stands conn until at.0 p.told x (length before) (length (before ++ later)) go at.2,
      ),
    )

-- ---- pieces

passed_of : (conn : ℕ) (told : Option Story) (n : ℕ) → (cursor_of conn told n).passed ≡ n
passed_of conn None n = refl
passed_of conn (Some story) n = refl

free_of : (conn : ℕ) (told : Option Story) (n : ℕ) → bounded None (cursor_of conn told n) ≡ cursor_of conn told n
free_of conn None n = refl
free_of conn (Some story) n = refl

-- who stands behind some commands has passed as many, and has no bound
pub stands_passed : (conn : ℕ) (site : Site) (cmds : List RoomCmd) (x : RoomCursor) → StandsAt conn site cmds x → x.passed ≡ length cmds
stands_passed conn site cmds x (inl new) = ap (λ (c : RoomCursor). c.passed) new.1 ∙ sym (ap (λ (l : List RoomCmd). length l) new.0)
stands_passed conn site cmds x (inr at) = ap (λ (c : RoomCursor). c.passed) at.2 ∙ passed_of conn at.0 (length cmds)

pub stands_free : (conn : ℕ) (site : Site) (cmds : List RoomCmd) (x : RoomCursor) → StandsAt conn site cmds x → bounded None x ≡ x
stands_free conn site cmds x (inl new) = ap (bounded None) new.1 ∙ sym new.1
stands_free conn site cmds x (inr at) = ap (bounded None) at.2 ∙ free_of conn at.0 (length cmds) ∙ sym at.2

passed_from : (x : RoomCursor) (told : Option Story) (n : ℕ) → (cursor_from x told n).passed ≡ n
passed_from x None n = refl
passed_from x (Some story) n = refl

until_from : (x : RoomCursor) (told : Option Story) (n : ℕ) → (cursor_from x told n).until ≡ x.until
until_from x None n = refl
until_from x (Some story) n = refl

-- a pull leaves the bound as it is
pub pulls_until : (site : Site) (cmds : List RoomCmd) (x y : RoomCursor) (msgs : List Msg) → Pulls site cmds x msgs y → y.until ≡ x.until
pulls_until site cmds x y msgs (inl stays) = ap (λ (c : RoomCursor). c.until) stays.2
pulls_until site cmds x y msgs (inr p) = ap (λ (c : RoomCursor). c.until) p.reads.cursor
    ∙ until_from x p.reads.told (length (take p.count cmds))

-- what is pulled with no bound, where there is none
pub pulls_free : (site : Site) (cmds : List RoomCmd) (x y : RoomCursor) (msgs : List Msg) → bounded None x ≡ x
    → Pulls site cmds x msgs y → PullsUpTo site cmds x msgs y
pulls_free site cmds x y msgs free p =
    let none : y.until ≡ None = pulls_until site cmds x y msgs p ∙ sym (ap (λ (c : RoomCursor). c.until) free) in (
      None,
      y,
      subst (λ (c : RoomCursor). Pulls site cmds c msgs y) (sym free) p,
      λ i.
          record { room = y.room; id = y.id; passed = y.passed; until = none i },
    )

goes_nowhere : (conn : ℕ) (site : Site) (before later : List RoomCmd) (x y : RoomCursor) (ms : List (List (List ℕ))) (msgs : List Msg)
    → StandsAt conn site before x → Shows conn site before ms → msgs ≡ [] → y ≡ x
    → GoesOn conn site before later (ms ++ map msg_lines msgs) y
goes_nowhere conn site before later x y ms msgs at shows none same =
    let passed : y.passed ≡ length before = ap (λ (c : RoomCursor). c.passed) same ∙ stands_passed conn site before x at in
    let here : take y.passed (before ++ later) ≡ before = take_at before later y.passed (sym passed) in
    let nothing : ms ++ map msg_lines msgs ≡ ms = ap (λ (l : List Msg). ms ++ map msg_lines l) none ∙ append-nil ms in
    record {
      on = omega (arith, passed);
      within = omega (arith, passed, length-append before later);
      shows = subst (λ (l : List RoomCmd). Shows conn site l (ms ++ map msg_lines msgs)) (sym here)
          (subst (λ (l : List (List (List ℕ))). Shows conn site before l) (sym nothing) shows);
      stands = subst (λ (l : List RoomCmd). StandsAt conn site l y) (sym here)
          (subst (λ (c : RoomCursor). StandsAt conn site before c) (sym same) at);
    }

goes_far : (conn : ℕ) (site : Site) (before later : List RoomCmd) (until : Option ℕ) (x y z : RoomCursor) (ms : List (List (List ℕ)))
    (msgs : List Msg)
    → StandsAt conn site before x → Shows conn site before ms → Piece site (before ++ later) (bounded until x) msgs z
    → y ≡ bounded None z → GoesOn conn site before later (ms ++ map msg_lines msgs) y
goes_far conn site before later until x y z ms msgs at shows p is =
    let all : List RoomCmd = before ++ later in
    let n : ℕ = p.count in
    let within : n ≤ length all = p.within in
    let passed : x.passed ≡ length before = stands_passed conn site before x at in
    let on : length before ≤ n = subst (λ (m : ℕ). m ≤ n) passed (p.on (omega (arith, passed, length-append before later))) in
    let front : List RoomCmd = take n all in
    let size : length front ≡ n = length-take-le n all within in
    let begins : take (length before) front ≡ before = take-take (length before) n all on ∙ take_at before later (length before) refl in
    let parts : before ++ drop (length before) front ≡ front = ap (λ (l : List RoomCmd). l ++ drop (length before) front) (sym begins)
    ∙ take-append-drop (length before) front in
    let there : Shows conn site (before ++ drop (length before) front) (ms ++ map msg_lines msgs)
    × StandsAt conn site (before ++ drop (length before) front) (bounded None z) =
    reads_go_on conn site before (drop (length before) front) until x z ms msgs at shows
    (subst (λ (l : List RoomCmd). Reads site l (bounded until x) msgs z) (sym parts) p.reads) in
    let here : y.passed ≡ n = ap (λ (c : RoomCursor). c.passed) is ∙ ap (λ (c : RoomCursor). c.passed) p.reads.cursor
    ∙ passed_from (bounded until x) p.reads.told (length front) ∙ size in
    let same : before ++ drop (length before) front ≡ take y.passed all = parts ∙ ap (λ (m : ℕ). take m all) (sym here) in
    record {
      on = omega (arith, here);
      within = omega (arith, here);
      shows = subst (λ (l : List RoomCmd). Shows conn site l (ms ++ map msg_lines msgs)) same there.0;
      stands = subst (λ (l : List RoomCmd). StandsAt conn site l y) same
          (subst (λ (c : RoomCursor). StandsAt conn site (before ++ drop (length before) front) c) (sym is) there.1);
    }

goes_by_pull : (conn : ℕ) (site : Site) (before later : List RoomCmd) (until : Option ℕ) (x y z : RoomCursor)
    (ms : List (List (List ℕ))) (msgs : List Msg)
    → StandsAt conn site before x → Shows conn site before ms → Pulls site (before ++ later) (bounded until x) msgs z
    → y ≡ bounded None z → GoesOn conn site before later (ms ++ map msg_lines msgs) y
goes_by_pull conn site before later until x y z ms msgs at shows (inl stays) is =
    goes_nowhere conn site before later x y ms msgs at shows stays.1 (is ∙ ap (bounded None) stays.2 ∙ stands_free conn site before x at)
goes_by_pull conn site before later until x y z ms msgs at shows (inr p) is = goes_far conn site before later until x y z ms msgs at
    shows p is

pub pulls_go_on : PullsGoOn
pulls_go_on conn site before later x y ms msgs at shows p = goes_by_pull conn site before later p.0 x y p.1 ms msgs at shows p.2 p.3

pub room_tells : IsLawful Pulls room_telling
room_tells = record {
  goes_on = λ conn site before later x y ms msgs at shows p.
      let on = pulls_go_on conn site before later x y ms msgs at shows p in (on.on, on.within, on.shows, on.stands);
  free = stands_free;
  unset = pulls_free;
  last = λ first second x. refl;
}
