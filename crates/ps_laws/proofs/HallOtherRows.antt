-- The rows of others: an allowed entry of another is given by its items.
use Rattle.std.proofs.Common.{◌≡◌, ℕ, ◌==◌, Bool, true, false, cond, not, ◌||◌, List, [], ◌∷◌, Option, Some, None, option_map, is_some, refl, sym, ap, subst, ◌∙◌}
use Rattle.std.proofs.lemmas.Bool.{or_left, or_right}
use Rattle.std.specs.Str.{bytes_eq}
use Rattle.std.specs.FinMap.{get}
use Rattle.ps_base.specs.Ids.{id_of}
use Rattle.ps_base.specs.declared.badge.Badge.{Badge}
use Rattle.ps_base.specs.declared.hall_why.HallWhy.TheVariants as why
use Rattle.ps_lines.specs.declared.command.HallCmd.{HallCmd}
use Rattle.ps_lines.specs.declared.command.HallCmd.TheVariants.{Open, Quit, Bad, Name, Team, Search, CancelSearch, Challenge, CancelChallenge, Reject, Accept, Whisper, Block, Unblock, Rank, Report}
use Rattle.ps_group.specs.declared.group.Group.{Group}
use Rattle.ps_valid.specs.declared.legal.Legal.{Legal}
use Rattle.ps_users.specs.Refusals.{read_of}
use Rattle.ps_users.specs.Steps.{granted}
use Rattle.ps_pms.specs.declared.asked.Asked.{Asked}
use Rattle.ps_pms.specs.Lookups.{blocks, asked_by}
use Rattle.ps_pms.specs.Refusals.{when}
use Rattle.ps_hall.specs.declared.entry.HallEntry.{HallEntry}
use Rattle.ps_hall.specs.declared.kept.KeptTeam.{KeptTeam}
use Rattle.ps_hall.specs.Records.{Record}
use Rattle.ps_hall.specs.Lookups.{badge_of, is_online, challenge_from, game_in, kept_team}
use Rattle.ps_hall.specs.Refusals.{or_else, of_text, of_accept, refusal_of_cancel_challenge, refusal_of_reject, refusal_of_accept, refusal_of_pm, refusal_of_named, refusal_by, refusal}
use Rattle.ps_hall.specs.Starts.{start_if, start_of_accept}
use Rattle.ps_hall.specs.Steps.{with_users, with_accept, after_named, after_by, applied, after_report}
use Rattle.ps_hall.specs.Lines.{challenge_line, search_line}
use Rattle.ps_hall.specs.Told.{told, told_by, told_of_name, told_of_named, told_both, told_whisper, told_of_cancel_challenge, to_user, notice, accept_lines}
use Rattle.ps_hall.specs.Halls.{after, message, message_of}
use Rattle.ps_laws.specs.HallLow.{whole, challenged, challenge_cancelled, rejected, is_sender_user, is_user, is_own_entry, items_of_named, items_of_name, items_of_start, reported}
use Rattle.ps_laws.specs.HallLow.{items_of_cancel_challenge, items_of_reject, items_by, items_of_allowed}
use Rattle.ps_laws.proofs.HallTellLemmas.{told_same, told_none, notice_other}
use Rattle.ps_laws.proofs.HallAlike.{Parts, parts_of, join, AreNear, AreAlike, alike_chain, alike_turned, line_same}
use Rattle.ps_laws.proofs.HallEffects.{with_battle, same_parts, cancel_search_alike, cancel_challenge_alike, reject_alike, challenge_alike, block_alike, unblock_alike}
use Rattle.ps_laws.proofs.HallEffects.{search_alike, accepted_alike, battle_alike, searched_after, challenged_after, accepted_by, accepted_after}
use Rattle.ps_laws.proofs.HallLegal.{search_is, challenge_is, accept_is, accept_legal}
use Rattle.ps_laws.proofs.HallOwnLemmas.{alike_by, quit_alike_at, report_alike, quit_told_at}
use Rattle.ps_laws.proofs.HallItems.{no_team, named_after, item_after, shown_after, shown_message, accepted_of, whole_after, whole_message, challenges_told, search_told, IsGiven, item_message}
use Rattle.ps_laws.proofs.HallItems.{IsWalked, after_allowed, message_allowed, none_taken}
use Rattle.ps_laws.proofs.HallOtherLemmas.{team_unseen, block_unseen, unblock_unseen, challenge_unseen, answer_unseen}
use Rattle.ps_laws.proofs.HallTidy.{IsTidy, cancel_unseen}

-- a command that takes a name, of a sender with this badge
pub record IsOf (h : Record) (sender : ℕ) (badge : Badge) (cmd : HallCmd) : Type 0 where
  judged : refusal h sender cmd ≡ refusal_of_named h (id_of badge.name) cmd
  done : applied h sender cmd ≡ after_named h badge.name cmd
  tells : (g : Record) → told h g sender cmd ≡ told_of_named h g sender badge cmd

-- in the hall and in the record of items
record IsOfBoth (h l : Record) (sender : ℕ) (badge : Badge) (cmd : HallCmd) : Type 0 where
  left : IsOf h sender badge cmd
  right : IsOf l sender badge cmd
  none : refusal_of_named h (id_of badge.name) cmd ≡ None

module _ (conn : ℕ) (ids : List (List ℕ)) (h : Record) (p : Parts) (n : AreNear ids (parts_of h) p) (tidy : IsTidy h)
    (online : (id : List ℕ) → get h.users.online id ≡ Some conn → is_user ids id ≡ true)
    (sender moment : ℕ) (apart : (sender == conn) ≡ false) where
  abbrev entry : HallCmd → HallEntry
  entry cmd = record { conn = sender; moment = moment; cmd = cmd }

  abbrev l : Record
  l = join h p

  -- ---- what an item has to give

  given : (cmd : HallCmd) (g m : Record) (lines taken : List (List ℕ)) → refusal h sender cmd ≡ None → applied h sender cmd ≡ g → AreAlike ids g m
      → message_of conn (told h (applied h sender cmd) sender cmd) ≡ lines → [] ≡ taken → IsGiven conn ids h (entry cmd) m lines taken
  given cmd g m lines taken none is w tells takes = record {
    alike = alike_by ids (after h (entry cmd)) g m m (after_allowed h (entry cmd) none ∙ is) refl w;
    told = message_allowed conn h (entry cmd) none ∙ tells;
    taken = none_taken conn h (entry cmd) apart ∙ takes;
  }

  -- the record after an entry, and what it tells, where the record of items is alike to it
  told_alike : (cmd : HallCmd) (g m : Record) → AreAlike ids g m → message_of conn (told l (join g (parts_of m)) sender cmd) ≡ message_of conn (told h g sender cmd)
      → message_of conn (told l m sender cmd) ≡ message_of conn (told h g sender cmd)
  told_alike cmd g m w same = ap (λ (x : Record). message_of conn (told l x sender cmd)) w.open_parts ∙ same

  module _ (cmd : HallCmd) (own : is_own_entry conn ids h (entry cmd) ≡ false) where
    -- an entry that is known whole, and is judged alike
    whole_row : refusal h sender cmd ≡ None → refusal l sender cmd ≡ None → shown_after l (entry cmd) cmd ≡ after l (entry cmd) → shown_message conn l (entry cmd) cmd ≡ message conn l (entry cmd)
        → AreAlike ids (applied h sender cmd) (applied l sender cmd) → message_of conn (told l (applied l sender cmd) sender cmd) ≡ message_of conn (told h (applied h sender cmd) sender cmd)
        → IsWalked conn ids h (entry cmd) l (whole (entry cmd) ∷ [])
    whole_row left right shows tells w same = record {
      alike = alike_by ids (after h (entry cmd)) (applied h sender cmd) (item_after conn ids l (whole (entry cmd))) (applied l sender cmd) (after_allowed h (entry cmd) left)
          (ap (λ b. whole_after b l (entry cmd)) own ∙ shows ∙ after_allowed l (entry cmd) right) w;
      told =
          message_allowed conn h (entry cmd) left
          ∙ sym same
          ∙ sym (message_allowed conn l (entry cmd) right)
          ∙ sym tells
          ∙ sym (ap (λ b. whole_message conn b l (entry cmd)) own);
      taken = none_taken conn h (entry cmd) apart ∙ rw apart refl;
    }

  open_row : is_own_entry conn ids h (entry Open) ≡ false → IsWalked conn ids h (entry Open) l (whole (entry Open) ∷ [])
  unfolding refusal applied told
  open_row own = whole_row Open own refl refl refl refl (same_parts ids h p n (with_users h sender Open) refl) refl

  quit_row : is_own_entry conn ids h (entry Quit) ≡ false → IsWalked conn ids h (entry Quit) l (whole (entry Quit) ∷ [])
  unfolding refusal applied
  quit_row own =
      let w = quit_alike_at ids h p n sender in
      whole_row Quit own refl refl refl refl w
      (told_alike Quit (applied h sender Quit) (applied l sender Quit) w
      (quit_told_at ids h p n conn online (applied h sender Quit) (parts_of (applied l sender Quit)) w.near sender))

  report_row : (number : ℕ) (winner : Option ℕ) → refusal h sender (Report number winner) ≡ None → IsWalked conn ids h (entry (Report number winner)) l (reported number winner ∷ [])
  unfolding applied told
  report_row number winner none =
      let w = report_alike ids h p n number winner (game_in h number) in
      given (Report number winner) (applied h sender (Report number winner)) (after_report l number winner) (item_message conn ids l (reported number winner)) [] none refl w
      (sym (told_alike (Report number winner) (applied h sender (Report number winner)) (after_report l number winner) w refl)) refl

  name_told : (groups : List Group) (o : Option Badge) → message_of conn (told_of_name groups sender o) ≡ []
  name_told groups None = refl
  name_told groups (Some b) = rw apart refl

  name_done : (text assertion : List ℕ) (read : Option (List ℕ)) → read_of text ≡ read → applied h sender (Name text assertion) ≡ named_after h sender read
  unfolding applied
  name_done text assertion read is = ap (λ (x : Option (List ℕ)). named_after h sender x) is

  name_silent : (text assertion : List ℕ) → message_of conn (told h (applied h sender (Name text assertion)) sender (Name text assertion)) ≡ []
  unfolding told
  name_silent text assertion = name_told h.config.groups (granted h.users (Name text assertion))

  name_by : (text assertion : List ℕ) (read : Option (List ℕ)) → read_of text ≡ read → refusal h sender (Name text assertion) ≡ None
      → IsWalked conn ids h (entry (Name text assertion)) l (items_of_name sender read)
  name_by text assertion None is none =
      given (Name text assertion) h l [] [] none (name_done text assertion None is) (same_parts ids h p n h refl) (name_silent text assertion) refl
  name_by text assertion (Some name) is none =
      given (Name text assertion) (named_after h sender (Some name)) (named_after l sender (Some name)) [] [] none (name_done text assertion (Some name) is)
      (record { open_parts = refl; near = n }) (name_silent text assertion) refl

  name_row : (text assertion : List ℕ) → refusal h sender (Name text assertion) ≡ None → IsWalked conn ids h (entry (Name text assertion)) l (items_of_name sender (read_of text))
  name_row text assertion none = name_by text assertion (read_of text) refl none

  -- ---- what a user is told of its challenges

  challenges_alike : (g m : Record) (user : List ℕ) → AreAlike ids g m → challenges_told conn h g user ≡ challenges_told conn l m user
  challenges_alike g m user w =
      told_same conn (get h.users.online user) (challenge_line g.pms.asked user ∷ []) (challenge_line m.pms.asked user ∷ [])
      (λ on. ap (λ (line : List ℕ). line ∷ []) (sym (line_same ids user (online user on) m.pms.asked g.pms.asked w.near.asked)))

  out_there : (user : List ℕ) (lines : List (List ℕ)) → is_user ids user ≡ false → message_of conn (to_user h.users.online user lines) ≡ []
  out_there user lines out = told_none conn (get h.users.online user) lines (λ on. let wrong : false ≡ true = sym out ∙ online user on in absurd cc)

  challenges_silent : (g : Record) (user : List ℕ) → is_user ids user ≡ false → challenges_told conn h g user ≡ []
  challenges_silent g user out = out_there user (challenge_line g.pms.asked user ∷ []) out

  both_other : (asked : List Asked) (me user : List ℕ)
      → message_of conn (told_both h.users.online asked sender me user) ≡ message_of conn (to_user h.users.online user (challenge_line asked user ∷ []))
  both_other asked me user = notice_other conn sender (challenge_line asked me ∷ []) (to_user h.users.online user (challenge_line asked user ∷ [])) apart

  -- ---- the rows of commands that take a name

  base : AreAlike ids h l
  base = same_parts ids h p n h refl

  module _ (badge : Badge) (out : is_user ids (id_of badge.name) ≡ false) where
    abbrev me : List ℕ
    me = id_of badge.name

    -- the record after it is the hall's after a command, and is alike to that of items
    row : (cmd : HallCmd) (g m : Record) (lines : List (List ℕ)) → IsOfBoth h l sender badge cmd → after_named h badge.name cmd ≡ g → AreAlike ids g m
        → message_of conn (told_of_named h (applied h sender cmd) sender badge cmd) ≡ lines → IsGiven conn ids h (entry cmd) m lines []
    row cmd g m lines o is w tells =
        given cmd g m lines [] (o.left.judged ∙ o.none) (o.left.done ∙ is) w (ap (message_of conn) (o.left.tells (applied h sender cmd)) ∙ tells) refl

    team_row : (pack : Option (List ℕ)) → IsOfBoth h l sender badge (Team pack) → IsWalked conn ids h (entry (Team pack)) l []
    team_row pack o = row (Team pack) (after_named h badge.name (Team pack)) l [] o refl
        (alike_chain ids (after_named h badge.name (Team pack)) h l (alike_turned ids h (after_named h badge.name (Team pack)) (team_unseen ids me out h pack)) base) refl

    rank_row : (user format : List ℕ) → IsOfBoth h l sender badge (Rank user format) → IsWalked conn ids h (entry (Rank user format)) l []
    rank_row user format o = row (Rank user format) h l [] o refl base (rw apart refl)

    search_row : (format : List ℕ) → IsOfBoth h l sender badge (Search format) → IsWalked conn ids h (entry (Search format)) l (items_of_named ids h (entry (Search format)) badge.name (Search format))
    search_row format o =
        let one = search_is h badge.name format o.none in
        let g = searched_after h badge.name format one.0 in
        let m = searched_after l badge.name format no_team in
        let w : AreAlike ids g m = search_alike ids h p n badge.name format one.0 no_team in
        row (Search format) g m (search_told conn l m me format) o one.1 w
        (notice_other conn sender _ _ apart
        ∙ ap (λ (x : Record). search_told conn h x me format) (o.left.done ∙ one.1)
        ∙ sym (ap (λ (x : Record). search_told conn l x me format) w.open_parts))

    cancel_search_row : IsOfBoth h l sender badge CancelSearch → IsWalked conn ids h (entry CancelSearch) l (items_of_named ids h (entry CancelSearch) badge.name CancelSearch)
    cancel_search_row o = row CancelSearch (after_named h badge.name CancelSearch) (after_named l badge.name CancelSearch) [] o refl (cancel_search_alike ids h p n me) (rw apart refl)

    challenge_by : (user format : List ℕ) (b : Bool) → is_user ids user ≡ b → IsOfBoth h l sender badge (Challenge user format)
        → IsWalked conn ids h (entry (Challenge user format)) l (cond b (challenged badge.name user format ∷ []) [])
    challenge_by user format true is o =
        let one = challenge_is h badge.name user format o.none in
        let g = challenged_after h badge.name user format one.0 in
        let m = challenged_after l badge.name user format no_team in
        let w : AreAlike ids g m = challenge_alike ids h p n badge.name user format one.0 no_team in
        row (Challenge user format) g m (challenges_told conn l m user) o one.1 w
        (both_other (applied h sender (Challenge user format)).pms.asked me user
        ∙ ap (λ (x : Record). challenges_told conn h x user) (o.left.done ∙ one.1)
        ∙ challenges_alike g m user w)
    challenge_by user format false is o =
        let one = challenge_is h badge.name user format o.none in
        let g = challenged_after h badge.name user format one.0 in
        row (Challenge user format) g l [] o one.1
        (alike_chain ids g h l (alike_turned ids h g (challenge_unseen ids me out user is h badge.name format one.0 refl)) base)
        (both_other (applied h sender (Challenge user format)).pms.asked me user ∙ challenges_silent (applied h sender (Challenge user format)) user is)

    cancel_by : (a : Asked) (b : Bool) → is_user ids a.to ≡ b → asked_by h.pms me ≡ Some a → IsOfBoth h l sender badge CancelChallenge
        → IsWalked conn ids h (entry CancelChallenge) l (cond b (challenge_cancelled me a.to a.format ∷ []) [])
    cancel_by a true is found o =
        let g = after_named h badge.name CancelChallenge in
        let m = after_named l badge.name CancelChallenge in
        let w : AreAlike ids g m = cancel_challenge_alike ids h p n me in
        row CancelChallenge g m (challenges_told conn l m a.to) o refl w
        (ap (λ (x : Option Asked). message_of conn (told_of_cancel_challenge h.users.online (applied h sender CancelChallenge).pms.asked sender me x)) found
        ∙ both_other (applied h sender CancelChallenge).pms.asked me a.to
        ∙ ap (λ (x : Record). challenges_told conn h x a.to) o.left.done
        ∙ challenges_alike g m a.to w)
    cancel_by a false is found o =
        let g = after_named h badge.name CancelChallenge in
        row CancelChallenge g l [] o refl
        (alike_chain ids g h l (alike_turned ids h g (cancel_unseen ids me out h a tidy found is)) base)
        (ap (λ (x : Option Asked). message_of conn (told_of_cancel_challenge h.users.online (applied h sender CancelChallenge).pms.asked sender me x)) found
        ∙ both_other (applied h sender CancelChallenge).pms.asked me a.to
        ∙ challenges_silent (applied h sender CancelChallenge) a.to is)

    cancel_none : (o : Option Asked) → asked_by h.pms me ≡ o → refusal_of_cancel_challenge h me ≡ None → is_some o ≡ true
    unfolding refusal_of_cancel_challenge
    cancel_none None is none = let wrong : Some why.NoChallenge ≡ None = sym (rw is refl) ∙ none in absurd cc
    cancel_none (Some a) is none = refl

    cancel_row : (x : Option Asked) → asked_by h.pms me ≡ x → IsOfBoth h l sender badge CancelChallenge → IsWalked conn ids h (entry CancelChallenge) l (items_of_cancel_challenge ids me x)
    cancel_row None is o = let wrong : false ≡ true = cancel_none None is o.none in absurd cc
    cancel_row (Some a) is o = cancel_by a (is_user ids a.to) refl is o

    reject_by : (user : List ℕ) (a : Asked) (b : Bool) → is_user ids user ≡ b → IsOfBoth h l sender badge (Reject user)
        → IsWalked conn ids h (entry (Reject user)) l (cond b (rejected me user a.format ∷ []) [])
    reject_by user a true is o =
        let g = after_named h badge.name (Reject user) in
        let m = after_named l badge.name (Reject user) in
        let w : AreAlike ids g m = reject_alike ids h p n me user (or_left (is_user ids user) (is_user ids me) is) in
        row (Reject user) g m (challenges_told conn l m user) o refl w
        (both_other (applied h sender (Reject user)).pms.asked me user
        ∙ ap (λ (x : Record). challenges_told conn h x user) o.left.done
        ∙ challenges_alike g m user w)
    reject_by user a false is o =
        let g = after_named h badge.name (Reject user) in
        row (Reject user) g l [] o refl
        (alike_chain ids g h l (alike_turned ids h g (answer_unseen ids me out user is h)) base)
        (both_other (applied h sender (Reject user)).pms.asked me user ∙ challenges_silent (applied h sender (Reject user)) user is)

    reject_none : (user : List ℕ) (o : Option Asked) → challenge_from h me user ≡ o → refusal_of_reject h me user ≡ None → is_some o ≡ true
    unfolding refusal_of_reject
    reject_none user None is none = let wrong : Some why.NoChallenge ≡ None = sym (rw is refl) ∙ none in absurd cc
    reject_none user (Some a) is none = refl

    reject_row : (user : List ℕ) (x : Option Asked) → challenge_from h me user ≡ x → IsOfBoth h l sender badge (Reject user)
        → IsWalked conn ids h (entry (Reject user)) l (items_of_reject ids me user x)
    reject_row user None is o = let wrong : false ≡ true = reject_none user None is o.none in absurd cc
    reject_row user (Some a) is o = reject_by user a (is_user ids user) refl o

    -- ---- Accept

    accept_other : (g : Record) (user : List ℕ)
        → message_of conn (told_of_named h g sender badge (Accept user)) ≡ message_of conn (to_user h.users.online user (accept_lines g.games g.searches g.pms.asked user))
    accept_other g user = notice_other conn sender (accept_lines g.games g.searches g.pms.asked me) (to_user h.users.online user (accept_lines g.games g.searches g.pms.asked user)) apart

    accept_other_l : (g : Record) (user : List ℕ)
        → message_of conn (told_of_named l g sender badge (Accept user)) ≡ message_of conn (to_user h.users.online user (accept_lines g.games g.searches g.pms.asked user))
    accept_other_l g user = notice_other conn sender (accept_lines g.games g.searches g.pms.asked me) (to_user h.users.online user (accept_lines g.games g.searches g.pms.asked user)) apart

    accept_told : (g m : Record) (user : List ℕ) → AreAlike ids g m
        → message_of conn (to_user h.users.online user (accept_lines g.games g.searches g.pms.asked user)) ≡ message_of conn (to_user h.users.online user (accept_lines m.games m.searches m.pms.asked user))
    accept_told g m user w =
        told_same conn (get h.users.online user) (accept_lines g.games g.searches g.pms.asked user) (accept_lines g.games g.searches m.pms.asked user)
        (λ on. ap (λ (line : List ℕ). line ∷ search_line g.games g.searches user ∷ []) (sym (line_same ids user (online user on) m.pms.asked g.pms.asked w.near.asked)))
        ∙ sym (ap (λ (x : Record). message_of conn (to_user h.users.online user (accept_lines x.games x.searches m.pms.asked user))) w.open_parts)

    -- of a challenge of a user: the entry is known whole, and its team isn't
    accept_whole : (user : List ℕ) → is_user ids user ≡ true → is_own_entry conn ids h (entry (Accept user)) ≡ false → badge_of h sender ≡ Some badge → IsOfBoth h l sender badge (Accept user)
        → IsWalked conn ids h (entry (Accept user)) l (whole (entry (Accept user)) ∷ [])
    accept_whole user mine own named_so o =
        let g = accepted_after h badge.name user in
        let m = accepted_after l badge.name user in
        let w : AreAlike ids g m = accepted_alike ids h p n badge.name user (or_left (is_user ids user) (is_user ids me) mine) in
        let left : after h (entry (Accept user)) ≡ g = after_allowed h (entry (Accept user)) (o.left.judged ∙ o.none) ∙ o.left.done ∙ accept_is h badge.name user o.none in
        let shown : shown_after l (entry (Accept user)) (Accept user) ≡ m = ap (λ (x : Option Badge). accepted_of l user x) named_so in
        record {
          alike = alike_by ids (after h (entry (Accept user))) g (item_after conn ids l (whole (entry (Accept user)))) m left (ap (λ b. whole_after b l (entry (Accept user))) own ∙ shown) w;
          told =
              message_allowed conn h (entry (Accept user)) (o.left.judged ∙ o.none)
              ∙ ap (message_of conn) (o.left.tells (applied h sender (Accept user)))
              ∙ accept_other (applied h sender (Accept user)) user
              ∙ ap (λ (x : Record). message_of conn (to_user h.users.online user (accept_lines x.games x.searches x.pms.asked user))) (o.left.done ∙ accept_is h badge.name user o.none)
              ∙ accept_told g m user w
              ∙ sym (accept_other_l m user)
              ∙ sym (ap (message_of conn) (o.right.tells m))
              ∙ ap (λ (x : Record). message_of conn (told l x sender (Accept user))) (sym shown)
              ∙ sym (ap (λ b. whole_message conn b l (entry (Accept user))) own);
          taken = none_taken conn h (entry (Accept user)) apart ∙ rw apart refl;
        }

    -- of a challenge of others: the battle
    accept_started : (user : List ℕ) (a : Asked) (k : Option KeptTeam) (legal : Legal) → is_user ids user ≡ false → IsOfBoth h l sender badge (Accept user)
        → after_named h badge.name (Accept user) ≡ with_battle (with_accept h me user) a.format false badge.name (option_map (λ k. k.name) k)
        → IsWalked conn ids h (entry (Accept user)) l (items_of_start (start_if h a.format k badge.name (Some legal)))
    accept_started user a None legal is o done =
        row (Accept user) (with_accept h me user) l [] o done
        (alike_chain ids (with_accept h me user) h l (alike_turned ids h (with_accept h me user) (answer_unseen ids me out user is h)) base)
        (accept_other (applied h sender (Accept user)) user ∙ out_there user _ is)
    accept_started user a (Some k) legal is o done =
        row (Accept user) (with_battle (with_accept h me user) a.format false badge.name (Some k.name)) (with_battle l a.format false badge.name (Some k.name)) [] o done
        (battle_alike ids (with_accept h me user) l a.format false badge.name (Some k.name) (Some k.name)
        (alike_chain ids (with_accept h me user) h l (alike_turned ids h (with_accept h me user) (answer_unseen ids me out user is h)) base) refl)
        (accept_other (applied h sender (Accept user)) user ∙ out_there user _ is)

    accept_others : (user : List ℕ) (x : Option Asked) → challenge_from h me user ≡ x → of_accept h me x ≡ None → after_named h badge.name (Accept user) ≡ accepted_by h badge.name user x
        → is_user ids user ≡ false → IsOfBoth h l sender badge (Accept user) → IsWalked conn ids h (entry (Accept user)) l (items_of_start (start_of_accept h badge.name user))
    unfolding start_of_accept
    accept_others user None found none done is o = absurd cc
    accept_others user (Some a) found none done is o =
        let legal = accept_legal h me a.format none in
        rw (found, legal.1) (accept_started user a (kept_team a.by me h.challenge_teams) legal.0 is o done)

    accept_done : (user : List ℕ) → refusal_of_accept h me user ≡ None → of_accept h me (challenge_from h me user) ≡ None
    unfolding refusal_of_accept
    accept_done user none = none

    accept_by : (user : List ℕ) (b : Bool) → is_user ids user ≡ b → is_own_entry conn ids h (entry (Accept user)) ≡ false → badge_of h sender ≡ Some badge → IsOfBoth h l sender badge (Accept user)
        → IsWalked conn ids h (entry (Accept user)) l (cond b (whole (entry (Accept user)) ∷ []) (items_of_start (start_of_accept h badge.name user)))
    accept_by user true is own named_so o = accept_whole user is own named_so o
    accept_by user false is own named_so o = accept_others user (challenge_from h me user) refl (accept_done user o.none) (accept_is h badge.name user o.none) is o

    -- ---- Whisper, Block, Unblock

    -- a block of a user, or by one
    block_same : (owner target : List ℕ) → (is_user ids owner || is_user ids target) ≡ true → blocks l.pms owner target ≡ blocks h.pms owner target
    block_same owner target mine = n.blocks owner target mine

    whisper_judged : (user text : List ℕ) → is_user ids user ≡ true → refusal_of_named l me (Whisper user text) ≡ refusal_of_named h me (Whisper user text)
    unfolding refusal_of_pm
    whisper_judged user text mine =
        ap (λ b. when (not (is_online h user)) why.NoSuchUser (or_else (of_text text) (when b why.Blocked None))) (block_same user me (or_left (is_user ids user) (is_user ids me) mine))

    block_judged : (user : List ℕ) → is_user ids user ≡ true → refusal_of_named l me (Block user) ≡ refusal_of_named h me (Block user)
    block_judged user mine = ap (λ b. when (bytes_eq user me) why.SelfTarget (when b why.AlreadyBlocked None)) (block_same me user (or_right (is_user ids me) (is_user ids user) mine))

    unblock_judged : (user : List ℕ) → is_user ids user ≡ true → refusal_of_named l me (Unblock user) ≡ refusal_of_named h me (Unblock user)
    unblock_judged user mine = ap (λ b. when (not b) why.NotBlocked None) (block_same me user (or_right (is_user ids me) (is_user ids user) mine))

    -- an entry about a user, which is judged alike
    about_row : (cmd : HallCmd) → is_own_entry conn ids h (entry cmd) ≡ false → IsOfBoth h l sender badge cmd → refusal_of_named l me cmd ≡ refusal_of_named h me cmd
        → shown_after l (entry cmd) cmd ≡ after l (entry cmd) → shown_message conn l (entry cmd) cmd ≡ message conn l (entry cmd)
        → AreAlike ids (after_named h badge.name cmd) (after_named l badge.name cmd) → ((g m : Record) → AreAlike ids g m → told_of_named l m sender badge cmd ≡ told_of_named h g sender badge cmd)
        → IsWalked conn ids h (entry cmd) l (whole (entry cmd) ∷ [])
    about_row cmd own o judged shows tells w same =
        whole_row cmd own (o.left.judged ∙ o.none) (o.right.judged ∙ judged ∙ o.none) shows tells
        (alike_by ids (applied h sender cmd) (after_named h badge.name cmd) (applied l sender cmd) (after_named l badge.name cmd) o.left.done o.right.done w)
        (ap (message_of conn)
        (o.right.tells (applied l sender cmd)
        ∙ same (applied h sender cmd) (applied l sender cmd)
        (alike_by ids (applied h sender cmd) (after_named h badge.name cmd) (applied l sender cmd) (after_named l badge.name cmd) o.left.done o.right.done w)
        ∙ sym (o.left.tells (applied h sender cmd))))

    ends_silent : (other : ℕ) (lines : List (List ℕ)) (b : Bool) → (Some other ≡ Some conn → ⊥)
        → message_of conn (cond b (notice sender lines ∷ []) (notice sender lines ∷ notice other lines ∷ [])) ≡ []
    ends_silent other lines true off = notice_other conn sender lines [] apart
    ends_silent other lines false off = notice_other conn sender lines (notice other lines ∷ []) apart ∙ told_none conn (Some other) lines (λ on. absurd (off on))

    whisper_silent : (groups : List Group) (x : Option ℕ) (to : Option Badge) (text : List ℕ) → (x ≡ Some conn → ⊥) → message_of conn (told_whisper groups sender badge x to text) ≡ []
    whisper_silent groups None to text off = refl
    whisper_silent groups (Some other) None text off = refl
    whisper_silent groups (Some other) (Some to) text off = ends_silent other _ (sender == other) off

    not_online : (user : List ℕ) → is_user ids user ≡ false → get h.users.online user ≡ Some conn → ⊥
    not_online user is on = let wrong : false ≡ true = sym is ∙ online user on in absurd cc

    whisper_by : (user text : List ℕ) (b : Bool) → is_user ids user ≡ b → is_own_entry conn ids h (entry (Whisper user text)) ≡ false → IsOfBoth h l sender badge (Whisper user text)
        → IsWalked conn ids h (entry (Whisper user text)) l (cond b (whole (entry (Whisper user text)) ∷ []) [])
    whisper_by user text true is own o = about_row (Whisper user text) own o (whisper_judged user text is) refl refl base (λ g m w. refl)
    whisper_by user text false is own o = row (Whisper user text) h l [] o refl base (whisper_silent h.config.groups (get h.users.online user) _ text (not_online user is))

    block_by : (user : List ℕ) (b : Bool) → is_user ids user ≡ b → is_own_entry conn ids h (entry (Block user)) ≡ false → IsOfBoth h l sender badge (Block user)
        → IsWalked conn ids h (entry (Block user)) l (cond b (whole (entry (Block user)) ∷ []) [])
    block_by user true is own o = about_row (Block user) own o (block_judged user is) refl refl (block_alike ids h p n me user) (λ g m w. refl)
    block_by user false is own o = row (Block user) (after_named h badge.name (Block user)) l [] o refl
        (alike_chain ids (after_named h badge.name (Block user)) h l (alike_turned ids h (after_named h badge.name (Block user)) (block_unseen ids me out user is h)) base) refl

    unblock_by : (user : List ℕ) (b : Bool) → is_user ids user ≡ b → is_own_entry conn ids h (entry (Unblock user)) ≡ false → IsOfBoth h l sender badge (Unblock user)
        → IsWalked conn ids h (entry (Unblock user)) l (cond b (whole (entry (Unblock user)) ∷ []) [])
    unblock_by user true is own o = about_row (Unblock user) own o (unblock_judged user is) refl refl (unblock_alike ids h p n me user) (λ g m w. refl)
    unblock_by user false is own o = row (Unblock user) (after_named h badge.name (Unblock user)) l [] o refl
        (alike_chain ids (after_named h badge.name (Unblock user)) h l (alike_turned ids h (after_named h badge.name (Unblock user)) (unblock_unseen ids me out user is h)) base) refl

    -- ---- all rows of commands that take a name

    named_row : (cmd : HallCmd) → badge_of h sender ≡ Some badge → is_own_entry conn ids h (entry cmd) ≡ false
        → refusal h sender cmd ≡ refusal_by h (badge_of h sender) cmd → refusal l sender cmd ≡ refusal_by l (badge_of h sender) cmd
        → applied h sender cmd ≡ after_by h (badge_of h sender) cmd → applied l sender cmd ≡ after_by l (badge_of h sender) cmd
        → ((g : Record) → told h g sender cmd ≡ told_by h g sender (badge_of h sender) cmd) → ((g : Record) → told l g sender cmd ≡ told_by l g sender (badge_of h sender) cmd)
        → refusal h sender cmd ≡ None → (IsOfBoth h l sender badge cmd → IsWalked conn ids h (entry cmd) l (items_of_named ids h (entry cmd) badge.name cmd))
        → IsWalked conn ids h (entry cmd) l (items_by ids h (entry cmd) (badge_of h sender) cmd)
    named_row cmd named_so own judged judged_l done done_l tells tells_l none walk =
        let as_refused : refusal h sender cmd ≡ refusal_of_named h me cmd = judged ∙ ap (λ (x : Option Badge). refusal_by h x cmd) named_so in
        subst (λ (x : Option Badge). IsWalked conn ids h (entry cmd) l (items_by ids h (entry cmd) x cmd)) (sym named_so)
        (walk (record {
          left = record {
            judged = as_refused;
            done = done ∙ ap (λ (x : Option Badge). after_by h x cmd) named_so;
            tells = λ g. tells g ∙ ap (λ (x : Option Badge). told_by h g sender x cmd) named_so;
          };
          right = record {
            judged = judged_l ∙ ap (λ (x : Option Badge). refusal_by l x cmd) named_so;
            done = done_l ∙ ap (λ (x : Option Badge). after_by l x cmd) named_so;
            tells = λ g. tells_l g ∙ ap (λ (x : Option Badge). told_by l g sender x cmd) named_so;
          };
          none = sym as_refused ∙ none;
        }))

    by_badge : (cmd : HallCmd) → badge_of h sender ≡ Some badge → is_own_entry conn ids h (entry cmd) ≡ false → refusal h sender cmd ≡ None
        → IsWalked conn ids h (entry cmd) l (items_of_allowed ids h (entry cmd) cmd)
    unfolding refusal applied told
    by_badge Open named_so own none = open_row own
    by_badge Quit named_so own none = quit_row own
    by_badge (Bad reason) named_so own none = absurd cc
    by_badge (Name name assertion) named_so own none = name_row name assertion none
    by_badge (Report number winner) named_so own none = report_row number winner none
    by_badge (Team pack) named_so own none = named_row (Team pack) named_so own refl refl refl refl (λ g. refl) (λ g. refl) none (team_row pack)
    by_badge (Search format) named_so own none = named_row (Search format) named_so own refl refl refl refl (λ g. refl) (λ g. refl) none (search_row format)
    by_badge CancelSearch named_so own none = named_row CancelSearch named_so own refl refl refl refl (λ g. refl) (λ g. refl) none cancel_search_row
    by_badge (Challenge user format) named_so own none = named_row (Challenge user format) named_so own refl refl refl refl (λ g. refl) (λ g. refl) none (challenge_by user format (is_user ids user) refl)
    by_badge CancelChallenge named_so own none = named_row CancelChallenge named_so own refl refl refl refl (λ g. refl) (λ g. refl) none (cancel_row (asked_by h.pms me) refl)
    by_badge (Reject user) named_so own none = named_row (Reject user) named_so own refl refl refl refl (λ g. refl) (λ g. refl) none (reject_row user (challenge_from h me user) refl)
    by_badge (Accept user) named_so own none = named_row (Accept user) named_so own refl refl refl refl (λ g. refl) (λ g. refl) none (accept_by user (is_user ids user) refl own named_so)
    by_badge (Whisper user text) named_so own none = named_row (Whisper user text) named_so own refl refl refl refl (λ g. refl) (λ g. refl) none (whisper_by user text (is_user ids user) refl own)
    by_badge (Block user) named_so own none = named_row (Block user) named_so own refl refl refl refl (λ g. refl) (λ g. refl) none (block_by user (is_user ids user) refl own)
    by_badge (Unblock user) named_so own none = named_row (Unblock user) named_so own refl refl refl refl (λ g. refl) (λ g. refl) none (unblock_by user (is_user ids user) refl own)
    by_badge (Rank user format) named_so own none = named_row (Rank user format) named_so own refl refl refl refl (λ g. refl) (λ g. refl) none (rank_row user format)

  none_by : (cmd : HallCmd) → badge_of h sender ≡ None → refusal_by h (badge_of h sender) cmd ≡ None → ⊥
  none_by cmd nameless none = let wrong : Some why.NotNamed ≡ None = sym (ap (λ (x : Option Badge). refusal_by h x cmd) nameless) ∙ none in absurd cc

  -- a sender without a name
  by_none : (cmd : HallCmd) → badge_of h sender ≡ None → is_own_entry conn ids h (entry cmd) ≡ false → refusal h sender cmd ≡ None
      → IsWalked conn ids h (entry cmd) l (items_of_allowed ids h (entry cmd) cmd)
  unfolding refusal
  by_none Open nameless own none = open_row own
  by_none Quit nameless own none = quit_row own
  by_none (Bad reason) nameless own none = absurd cc
  by_none (Name name assertion) nameless own none = name_row name assertion none
  by_none (Report number winner) nameless own none = report_row number winner none
  by_none other nameless own none = absurd (none_by other nameless none)

  by_any : (badge : Option Badge) (cmd : HallCmd) → badge_of h sender ≡ badge → is_sender_user ids badge ≡ false → is_own_entry conn ids h (entry cmd) ≡ false → refusal h sender cmd ≡ None
      → IsWalked conn ids h (entry cmd) l (items_of_allowed ids h (entry cmd) cmd)
  by_any None cmd is out own none = by_none cmd is own none
  by_any (Some b) cmd is out own none = by_badge b out cmd is own none

  -- an allowed entry of another is given by its items
  pub allowed_walked : (cmd : HallCmd) → is_sender_user ids (badge_of h sender) ≡ false → refusal h sender cmd ≡ None → IsWalked conn ids h (entry cmd) l (items_of_allowed ids h (entry cmd) cmd)
  allowed_walked cmd out none = by_any (badge_of h sender) cmd refl out (rw (apart, out) refl) none
