-- Histories of the hall: a view is the view over the low history, and so are the users; so equal low histories give equal views.
use Rattle.std.proofs.Common.{◌≡◌, ℕ, ◌==◌, Bool, true, false, cond, ◌||◌, List, [], ◌∷◌, ◌++◌, Option, Some, None, refl, sym, ap, ap₂, subst, ◌∙◌}
use Rattle.std.proofs.lemmas.Bool.{or_parts, eqb-true}
use Rattle.ps_base.specs.declared.badge.Badge.{Badge}
use Rattle.ps_base.specs.declared.hall_why.HallWhy.{HallWhy}
use Rattle.ps_base.specs.Messages.{sent}
use Rattle.ps_lines.specs.declared.command.HallCmd.{HallCmd}
use Rattle.ps_lines.specs.declared.command.HallCmd.TheVariants.{Report}
use Rattle.ps_users.specs.Refusals.{refusal as refusal_of_user}
use Rattle.ps_users.specs.Records.{Record as Users}
use Rattle.ps_users.specs.Seats.{badge_in}
use Rattle.ps_hall.specs.declared.entry.HallEntry.{HallEntry}
use Rattle.ps_hall.specs.Records.{Record}
use Rattle.ps_hall.specs.Lookups.{badge_of}
use Rattle.ps_hall.specs.Steps.{applied, after_report}
use Rattle.ps_hall.specs.Lines.{refused_line}
use Rattle.ps_hall.specs.Told.{told}
use Rattle.ps_hall.specs.Halls.{verdict, after, after_by, notices_by, message_of, view, run_record}
use Rattle.ps_laws.specs.HallStories.{HallOpening, HallStory, hall_opened, hall_story, hall_view_of}
use Rattle.ps_laws.specs.HallLow.{HallItem, whole, is_sender_user, is_own_entry, items_of_own, items_of_others, hall_items_of, hall_low_from, hall_low, ids_taken, hall_users_from, hall_users, reported, own_allowed, id_taken}
use Rattle.ps_laws.specs.HallSame.{HallViewsAreEqual, IsUnshown, HallUnshownMayBeMissing}
use Rattle.ps_laws.proofs.HallTellLemmas.{notice_other}
use Rattle.ps_laws.proofs.HallAlike.{Parts, parts_of, join, AreNear, AreAlike, alike_self}
use Rattle.ps_laws.proofs.HallEffects.{same_parts}
use Rattle.ps_laws.proofs.HallOwnLemmas.{IsMine, alike_by, own_judged, own_done, own_told}
use Rattle.ps_laws.proofs.HallItems.{item_after, item_message, item_taken, item_users, whole_after, whole_message, IsWalked, after_allowed, message_allowed, none_taken, badge_by}
use Rattle.ps_laws.proofs.HallTidy.{IsTidy, tidy_after, tidy_first, run_tidy}
use Rattle.ps_laws.proofs.HallOtherRows.{allowed_walked}
use Rattle.ps_laws.proofs.HallCovers.{IsCovered, covered_after, covered_first, users_after_entry, users_after_item, taken_is, users_front, users_rest}
use Rattle.ps_laws.proofs.UserLists.{AreUsers, users_self}

-- ---- one entry

sender_mine : (ids : List (List ℕ)) (badge : Option Badge) → is_sender_user ids badge ≡ true → IsMine ids badge
sender_mine ids None is = tt
sender_mine ids (Some b) is = is

no_ids : (b : Bool) (xs : List (List ℕ)) → xs ≡ [] → cond b xs [] ≡ []
no_ids true xs none = none
no_ids false xs none = refl

module _ (conn : ℕ) (ids : List (List ℕ)) (h : Record) (covered : IsCovered conn ids h.users) where
  own_mine : (e : HallEntry) (b : Bool) → (e.conn == conn) ≡ b → (b || is_sender_user ids (badge_of h e.conn)) ≡ true → IsMine ids (badge_of h e.conn)
  own_mine e true here own = subst (λ (c : ℕ). IsMine ids (badge_in h.users.seats c)) (sym (eqb-true e.conn conn here)) covered.seat
  own_mine e false here own = sender_mine ids (badge_of h e.conn) own

  module _ (p : Parts) (n : AreNear ids (parts_of h) p) where
    abbrev l : Record
    l = join h p

    own_by : (e : HallEntry) (v : Option HallWhy) → is_own_entry conn ids h e ≡ true → IsMine ids (badge_of h e.conn) → verdict h e ≡ v → verdict l e ≡ v → IsWalked conn ids h e l (whole e ∷ [])
    own_by e (Some why) own mine left right = record {
      alike = alike_by ids (after h e) h (item_after conn ids l (whole e)) l (ap (λ (v : Option HallWhy). after_by v h e.conn e.cmd) left)
          (ap (λ b. whole_after b l e) own ∙ ap (λ (v : Option HallWhy). after_by v l e.conn e.cmd) right) (same_parts ids h p n h refl);
      told =
          ap (λ (v : Option HallWhy). message_of conn (notices_by v h e.conn e.cmd)) left
          ∙ sym (ap (λ (v : Option HallWhy). message_of conn (notices_by v l e.conn e.cmd)) right)
          ∙ sym (ap (λ b. whole_message conn b l e) own);
      taken = taken_is conn h e;
    }
    own_by e None own mine left right =
        let g = applied h e.conn e.cmd in
        let m = applied l e.conn e.cmd in
        let w : AreAlike ids g m = own_done ids h p n e.conn e.cmd mine left right in
        record {
          alike = alike_by ids (after h e) g (item_after conn ids l (whole e)) m (after_allowed h e left) (ap (λ b. whole_after b l e) own ∙ after_allowed l e right) w;
          told =
              message_allowed conn h e left
              ∙ sym (own_told ids h p n conn covered.online g (parts_of m) w.near e.conn e.cmd mine)
              ∙ sym (ap (λ (x : Record). message_of conn (told l x e.conn e.cmd)) w.open_parts)
              ∙ sym (message_allowed conn l e right)
              ∙ sym (ap (λ b. whole_message conn b l e) own);
          taken = taken_is conn h e;
        }

    report_taken : (e : HallEntry) (number : ℕ) (winner : Option ℕ) → e.cmd ≡ Report number winner → ids_taken conn h e ≡ []
    report_taken e number winner is = taken_is conn h e ∙ ap (λ (cmd : HallCmd). cond (e.conn == conn) (id_taken (badge_by (refusal_of_user h.users e.conn cmd) h.users cmd)) []) is ∙ no_ids (e.conn == conn) (id_taken (badge_by (refusal_of_user h.users e.conn (Report number winner)) h.users (Report number winner))) refl

    -- an own Report that is allowed
    own_report : (e : HallEntry) (number : ℕ) (winner : Option ℕ) → e.cmd ≡ Report number winner → IsMine ids (badge_of h e.conn) → verdict h e ≡ None → verdict l e ≡ None → IsWalked conn ids h e l (reported number winner ∷ [])
    unfolding applied told
    own_report e number winner is mine left right =
        let g = applied h e.conn e.cmd in
        let m = after_report l number winner in
        let same : applied l e.conn e.cmd ≡ m = ap (applied l e.conn) is in
        let w : AreAlike ids g m = subst (AreAlike ids g) same (own_done ids h p n e.conn e.cmd mine left right) in
        record {
          alike = alike_by ids (after h e) g m m (after_allowed h e left) refl w;
          told =
              message_allowed conn h e left
              ∙ sym (own_told ids h p n conn covered.online g (parts_of m) w.near e.conn e.cmd mine)
              ∙ sym (ap (λ (x : Record). message_of conn (told l x e.conn e.cmd)) w.open_parts)
              ∙ ap (λ (cmd : HallCmd). message_of conn (told l m e.conn cmd)) is;
          taken = report_taken e number winner is;
        }

    own_allowed_walked : (e : HallEntry) (cmd : HallCmd) → e.cmd ≡ cmd → is_own_entry conn ids h e ≡ true → IsMine ids (badge_of h e.conn) → verdict h e ≡ None → verdict l e ≡ None → IsWalked conn ids h e l (own_allowed e cmd)
    own_allowed_walked e (Report number winner) is own mine left right = own_report e number winner is mine left right
    own_allowed_walked e cmd is own mine left right = own_by e None own mine left right

    own_judged_walked : (e : HallEntry) (v : Option HallWhy) → is_own_entry conn ids h e ≡ true → IsMine ids (badge_of h e.conn) → verdict h e ≡ v → verdict l e ≡ v → IsWalked conn ids h e l (items_of_own e v)
    own_judged_walked e (Some why) own mine left right = own_by e (Some why) own mine left right
    own_judged_walked e None own mine left right = own_allowed_walked e e.cmd refl own mine left right

    own_walked : (e : HallEntry) → is_own_entry conn ids h e ≡ true → IsWalked conn ids h e l (items_of_own e (verdict h e))
    own_walked e own =
        let mine = own_mine e (e.conn == conn) refl own in
        own_judged_walked e (verdict h e) own mine refl (own_judged ids h p n e.conn e.cmd mine)

    refused_walked : (e : HallEntry) (why : HallWhy) → (e.conn == conn) ≡ false → verdict h e ≡ Some why → IsWalked conn ids h e l []
    refused_walked e why apart is = record {
      alike = alike_by ids (after h e) h l l (ap (λ (v : Option HallWhy). after_by v h e.conn e.cmd) is) refl (same_parts ids h p n h refl);
      told = ap (λ (v : Option HallWhy). message_of conn (notices_by v h e.conn e.cmd)) is ∙ notice_other conn e.conn (refused_line why e.cmd ∷ []) [] apart;
      taken = none_taken conn h e apart;
    }

    others_walked : (e : HallEntry) (v : Option HallWhy) → IsTidy h → (e.conn == conn) ≡ false → is_sender_user ids (badge_of h e.conn) ≡ false → verdict h e ≡ v
        → IsWalked conn ids h e l (items_of_others ids h e v)
    others_walked e (Some why) tidy apart out is = refused_walked e why apart is
    others_walked e None tidy apart out is = allowed_walked conn ids h p n tidy covered.online e.conn e.moment apart e.cmd out is

    walked_by : (e : HallEntry) (own : Bool) → IsTidy h → is_own_entry conn ids h e ≡ own → IsWalked conn ids h e l (cond own (items_of_own e (verdict h e)) (items_of_others ids h e (verdict h e)))
    walked_by e true tidy own = own_walked e own
    walked_by e false tidy own =
        let parts = or_parts (e.conn == conn) (is_sender_user ids (badge_of h e.conn)) own in
        others_walked e (verdict h e) tidy parts.0 parts.1 refl

-- each entry is given by its items
pub walked : (conn : ℕ) (ids : List (List ℕ)) (h l : Record) (e : HallEntry) → IsCovered conn ids h.users → IsTidy h → AreAlike ids h l → IsWalked conn ids h e l (hall_items_of conn ids h e)
walked conn ids h l e covered tidy w =
    subst (λ (x : Record). IsWalked conn ids h e x (hall_items_of conn ids h e)) (sym w.open_parts)
    (walked_by conn ids h covered (parts_of l) w.near e (is_own_entry conn ids h e) tidy refl)

-- ---- views

-- what a connection is sent over items
abbrev pub items_view : ℕ → List (List ℕ) → Record → List HallItem → List (List (List ℕ))
items_view conn ids l [] = []
items_view conn ids l (i ∷ is) = sent (item_message conn ids l i) ++ items_view conn ids (item_after conn ids l i) is

-- the ids that it takes over items
abbrev pub items_taken : ℕ → Users → List HallItem → List (List ℕ)
items_taken conn users [] = []
items_taken conn users (i ∷ is) = item_taken conn users i ++ items_taken conn (item_users users i) is

-- what holds of a history from a record on: its view and its users are those of its items
record IsTold (conn : ℕ) (ids : List (List ℕ)) (h l : Record) (es : List HallEntry) (is : List HallItem) : Type 0 where
  view_same : view conn h es ≡ items_view conn ids l is
  users_same : hall_users_from conn h es ≡ items_taken conn l.users is

told_step : (conn : ℕ) (ids : List (List ℕ)) (h l : Record) (e : HallEntry) (es : List HallEntry) (items more : List HallItem) → IsWalked conn ids h e l items
    → ((m : Record) → AreAlike ids (after h e) m → IsTold conn ids (after h e) m es more) → IsTold conn ids h l (e ∷ es) (items ++ more)
told_step conn ids h l e es [] more w next =
    let rest = next l w.alike in
    record {
      view_same = ap (λ (m : List (List ℕ)). sent m ++ view conn (after h e) es) w.told ∙ rest.view_same;
      users_same = ap (λ (taken : List (List ℕ)). taken ++ hall_users_from conn (after h e) es) w.taken ∙ rest.users_same;
    }
told_step conn ids h l e es (i ∷ []) more w next =
    let rest = next (item_after conn ids l i) w.alike in
    record {
      view_same =
          ap (λ (m : List (List ℕ)). sent m ++ view conn (after h e) es) w.told
          ∙ ap (λ (ms : List (List (List ℕ))). sent (item_message conn ids l i) ++ ms) rest.view_same;
      users_same =
          ap (λ (taken : List (List ℕ)). taken ++ hall_users_from conn (after h e) es) w.taken
          ∙ ap (λ (taken : List (List ℕ)). item_taken conn l.users i ++ taken) (rest.users_same ∙ ap (λ (u : Users). items_taken conn u more) (users_after_item conn ids l i));
    }
told_step conn ids h l e es (i ∷ j ∷ items) more w next = absurd w

told_by_items : (conn : ℕ) (ids : List (List ℕ)) (h l : Record) (es : List HallEntry) → IsCovered conn ids h.users → IsTidy h → AreUsers ids (hall_users_from conn h es) → AreAlike ids h l
    → IsTold conn ids h l es (hall_low_from conn ids h es)
told_by_items conn ids h l [] covered tidy all w = record { view_same = refl; users_same = refl }
told_by_items conn ids h l (e ∷ es) covered tidy all w =
    told_step conn ids h l e es (hall_items_of conn ids h e) (hall_low_from conn ids (after h e) es) (walked conn ids h l e covered tidy w)
    (λ m x. told_by_items conn ids (after h e) m es
    (covered_after conn ids h e covered (users_front ids (ids_taken conn h e) (hall_users_from conn (after h e) es) all))
    (tidy_after h e tidy)
    (users_rest ids (ids_taken conn h e) (hall_users_from conn (after h e) es) all) x)

first_covered : (conn : ℕ) (ids : List (List ℕ)) (o : HallOpening) → IsCovered conn ids (hall_opened o).users
first_covered conn ids o = covered_first conn ids (hall_opened o).users refl refl

-- a story's view and its users are those of its items
story_told : (conn : ℕ) (s : HallStory) → IsTold conn (hall_users conn s) (hall_opened s.opening) (hall_opened s.opening) s.history (hall_low conn s)
story_told conn s = told_by_items conn (hall_users conn s) (hall_opened s.opening) (hall_opened s.opening) s.history
    (first_covered conn (hall_users conn s) s.opening) (tidy_first s.opening) (users_self (hall_users conn s)) (alike_self (hall_users conn s) (hall_opened s.opening))

-- the view over items, to who has the users that they tell
abbrev view_of_items : ℕ → HallOpening → List HallItem → List (List (List ℕ))
view_of_items conn o is = items_view conn (items_taken conn (hall_opened o).users is) (hall_opened o) is

view_is : (conn : ℕ) (s : HallStory) → hall_view_of conn s ≡ view_of_items conn s.opening (hall_low conn s)
view_is conn s =
    let told = story_told conn s in
    told.view_same ∙ ap (λ (ids : List (List ℕ)). items_view conn ids (hall_opened s.opening) (hall_low conn s)) told.users_same

-- two stories that are the same to a connection give it equal views
pub hall_views_are_equal : (conn : ℕ) → HallViewsAreEqual conn
hall_views_are_equal conn one two same =
    view_is conn one
    ∙ ap₂ (view_of_items conn) same.openings same.histories
    ∙ sym (view_is conn two)

-- ---- an entry that isn't shown

users_alone : (conn : ℕ) (h g : Record) (es : List HallEntry) → h.users ≡ g.users → hall_users_from conn h es ≡ hall_users_from conn g es
users_alone conn h g [] same = refl
users_alone conn h g (e ∷ es) same =
    ap₂ (λ (xs ys : List (List ℕ)). xs ++ ys)
    (taken_is conn h e ∙ ap (λ (u : Users). item_taken conn u (whole e)) same ∙ sym (taken_is conn g e))
    (users_alone conn (after h e) (after g e) es
    (users_after_entry h e ∙ ap (λ (u : Users). item_users u (whole e)) same ∙ sym (users_after_entry g e)))

run_covered : (conn : ℕ) (ids : List (List ℕ)) (h : Record) (es later : List HallEntry) → IsCovered conn ids h.users → AreUsers ids (hall_users_from conn h (es ++ later))
    → IsCovered conn ids (run_record h es).users
run_covered conn ids h [] later covered all = covered
run_covered conn ids h (e ∷ es) later covered all =
    run_covered conn ids (after h e) es later
    (covered_after conn ids h e covered (users_front ids (ids_taken conn h e) (hall_users_from conn (after h e) (es ++ later)) all))
    (users_rest ids (ids_taken conn h e) (hall_users_from conn (after h e) (es ++ later)) all)

same_users : (conn : ℕ) (h : Record) (before : List HallEntry) (e : HallEntry) (later : List HallEntry) → ids_taken conn (run_record h before) e ≡ []
    → (after (run_record h before) e).users ≡ (run_record h before).users
    → hall_users_from conn h (before ++ e ∷ later) ≡ hall_users_from conn h (before ++ later)
same_users conn h [] e later none same = ap (λ (xs : List (List ℕ)). xs ++ hall_users_from conn (after h e) later) none ∙ users_alone conn (after h e) h later same
same_users conn h (x ∷ xs) e later none same = ap (λ (ids : List (List ℕ)). ids_taken conn h x ++ ids) (same_users conn (after h x) xs e later none same)

same_low : (conn : ℕ) (ids : List (List ℕ)) (h : Record) (before : List HallEntry) (e : HallEntry) (later : List HallEntry) → IsUnshown conn ids (run_record h before) e later
    → hall_low_from conn ids h (before ++ e ∷ later) ≡ hall_low_from conn ids h (before ++ later)
same_low conn ids h [] e later u = ap (λ (is : List HallItem). is ++ hall_low_from conn ids (after h e) later) u.none ∙ u.later_same
same_low conn ids h (x ∷ xs) e later u = ap (λ (is : List HallItem). hall_items_of conn ids h x ++ is) (same_low conn ids (after h x) xs e later u)

pub hall_unshown_may_be_missing : (conn : ℕ) → HallUnshownMayBeMissing conn
hall_unshown_may_be_missing conn o before e later u =
    let ids = hall_users conn (hall_story o (before ++ later)) in
    let h = run_record (hall_opened o) before in
    let w : IsWalked conn ids h e h [] =
    subst (IsWalked conn ids h e h) u.none
    (walked conn ids h h e (run_covered conn ids (hall_opened o) before later (first_covered conn ids o) (users_self ids)) (run_tidy (hall_opened o) before (tidy_first o)) (alike_self ids h)) in
    record {
      openings = refl;
      histories =
          ap (λ (xs : List (List ℕ)). hall_low_from conn xs (hall_opened o) (before ++ e ∷ later))
          (same_users conn (hall_opened o) before e later w.taken (sym (ap (λ (x : Record). x.users) w.alike.open_parts)))
          ∙ same_low conn ids (hall_opened o) before e later u;
    }
