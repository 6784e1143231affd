-- An own entry: from alike records it is judged alike, gives alike records, and tells the connection the same.
use Rattle.std.proofs.Common.{◌≡◌, ℕ, true, not, ◌||◌, List, [], ◌∷◌, ◌++◌, Option, Some, None, IfSome, is_none, is_some, refl, sym, ap, subst, ◌∙◌}
use Rattle.std.proofs.lemmas.Bool.{or_left, or_right}
use Rattle.std.specs.Str.{bytes_eq}
use Rattle.std.specs.FinMap.{get}
use Rattle.ps_base.specs.Ids.{id_of}
use Rattle.ps_base.specs.declared.badge.Badge.{Badge}
use Rattle.ps_base.specs.declared.hall_why.HallWhy.{HallWhy}
use Rattle.ps_base.specs.declared.hall_why.HallWhy.TheVariants as why
use Rattle.ps_lines.specs.declared.command.HallCmd.{HallCmd}
use Rattle.ps_lines.specs.declared.command.HallCmd.TheVariants.{Open, Quit, Bad, Name, Team, Search, CancelSearch, Challenge, CancelChallenge, Reject, Accept, Whisper, Block, Unblock, Report}
use Rattle.ps_packed.specs.declared.set.Set.{Set}
use Rattle.ps_rules.specs.declared.table.Format.{Format}
use Rattle.ps_pms.specs.declared.asked.Asked.{Asked}
use Rattle.ps_pms.specs.Lookups.{blocks, asked_by}
use Rattle.ps_pms.specs.Refusals.{when, refusal_of_asking}
use Rattle.ps_hall.specs.declared.game.Game.{Game}
use Rattle.ps_hall.specs.Records.{Record}
use Rattle.ps_hall.specs.Lookups.{badge_of, is_online, checked, format_in, challenge_from, game_in}
use Rattle.ps_hall.specs.Refusals.{or_else, of_checked, of_team, of_waiting, of_battles, of_text, of_search, of_challenge, of_accepted, of_accept, refusal_of_search}
use Rattle.ps_hall.specs.Refusals.{refusal_of_cancel_search, refusal_of_challenge, refusal_of_cancel_challenge, refusal_of_reject, refusal_of_accept, refusal_of_pm}
use Rattle.ps_hall.specs.Refusals.{refusal_of_rank, refusal_of_report, refusal_of_named, refusal_by, refusal}
use Rattle.ps_hall.specs.Steps.{with_users, forgotten_by, forgotten, after_quit, reported, after_named, after_by, applied}
use Rattle.ps_hall.specs.Lines.{challenge_line, search_line}
use Rattle.ps_hall.specs.Told.{told, told_by, told_of_named, told_both, told_of_cancel_challenge, told_of_quit, to_user, notice, accept_lines}
use Rattle.ps_hall.specs.Halls.{message_of, lines_for}
use Rattle.ps_laws.specs.HallLow.{is_user}
use Rattle.ps_laws.proofs.HallTellLemmas.{told_same, partners_told}
use Rattle.ps_laws.proofs.HallAlike.{Parts, parts_of, join, AreNear, AreAlike, made_same, line_same}
use Rattle.ps_laws.proofs.HallEffects.{same_parts, forgotten_alike, cancel_search_alike, cancel_challenge_alike, reject_alike, challenge_alike, team_alike, block_alike}
use Rattle.ps_laws.proofs.HallEffects.{unblock_alike, search_alike, challenge_same, accepted_alike, searched_after, challenged_after, accepted_after}
use Rattle.ps_laws.proofs.HallLegal.{search_is, challenge_is, accept_is}

-- the sender, if it has a name, is one of these users
abbrev pub IsMine : List (List ℕ) → Option Badge → Type 0
IsMine ids badge = IfSome badge (λ b. is_user ids (id_of b.name) ≡ true)

pub alike_by : (ids : List (List ℕ)) (h g l m : Record) → h ≡ g → l ≡ m → AreAlike ids g m → AreAlike ids h l
alike_by ids h g l m left right w = subst (λ (x : Record). AreAlike ids x l) (sym left) (subst (λ (x : Record). AreAlike ids g x) (sym right) w)

-- who is connected changes alike
pub users_alike : (ids : List (List ℕ)) (h l : Record) (conn : ℕ) (cmd : HallCmd) → AreAlike ids h l → AreAlike ids (with_users h conn cmd) (with_users l conn cmd)
users_alike ids h l conn cmd w =
    subst (λ (x : Record). AreAlike ids (with_users h conn cmd) (with_users x conn cmd)) (sym w.open_parts)
    (record { open_parts = refl; near = w.near })

module _ (ids : List (List ℕ)) (h : Record) (p : Parts) (n : AreNear ids (parts_of h) p) where
  -- ---- how it is judged

  module _ (me : List ℕ) (mine : is_user ids me ≡ true) where
    blocks_me : (user : List ℕ) → blocks p.pms user me ≡ blocks h.pms user me
    blocks_me user = n.blocks user me (or_right (is_user ids user) (is_user ids me) mine)

    blocks_by_me : (user : List ℕ) → blocks p.pms me user ≡ blocks h.pms me user
    blocks_by_me user = n.blocks me user (or_left (is_user ids me) (is_user ids user) mine)

    made : asked_by p.pms me ≡ asked_by h.pms me
    made = made_same ids me mine p.pms.asked h.pms.asked n.asked

    got : (user : List ℕ) → challenge_from (join h p) me user ≡ challenge_from h me user
    got user = challenge_same ids h p n user me (or_right (is_user ids user) (is_user ids me) mine)

    search_judged : (format : List ℕ) (f : Option Format) → of_search (join h p) me format f ≡ of_search h me format f
    search_judged format None = refl
    search_judged format (Some f) = ap (λ (t : Option (List Set)). when (not f.table.rated) why.NotRated (or_else (of_checked (checked h f t)) (of_waiting h me format))) (n.teams me mine)

    asking : (user : List ℕ) → refusal_of_asking p.pms me user ≡ refusal_of_asking h.pms me user
    asking user =
        ap (λ b. when b why.Blocked (when (is_some (asked_by p.pms me)) why.AlreadyChallenged None)) (blocks_me user)
        ∙ ap (λ (o : Option Asked). when (blocks h.pms user me) why.Blocked (when (is_some o) why.AlreadyChallenged None)) made

    challenge_judged : (user : List ℕ) (f : Option Format) → of_challenge (join h p) me user f ≡ of_challenge h me user f
    challenge_judged user None = refl
    challenge_judged user (Some f) =
        ap (λ (t : Option (List Set)). or_else (of_checked (checked h f t)) (refusal_of_asking p.pms me user)) (n.teams me mine)
        ∙ ap (or_else (of_team h me f)) (asking user)

    accepted_judged : (f : Option Format) → of_accepted (join h p) me f ≡ of_accepted h me f
    accepted_judged None = refl
    accepted_judged (Some f) = ap (λ (t : Option (List Set)). or_else (of_checked (checked h f t)) (of_battles h)) (n.teams me mine)

    accept_judged : (o : Option Asked) → of_accept (join h p) me o ≡ of_accept h me o
    accept_judged None = refl
    accept_judged (Some a) = accepted_judged (format_in h a.format)

    named_judged : (cmd : HallCmd) → refusal_of_named (join h p) me cmd ≡ refusal_of_named h me cmd
    unfolding refusal_of_search refusal_of_cancel_search refusal_of_challenge refusal_of_cancel_challenge refusal_of_reject refusal_of_accept refusal_of_pm refusal_of_rank
    named_judged (Search format) = search_judged format (format_in h format)
    named_judged (Challenge user format) = ap (λ (o : Option HallWhy). when (not (is_online h user)) why.NoSuchUser (when (bytes_eq user me) why.SelfTarget o)) (challenge_judged user (format_in h format))
    named_judged CancelChallenge = ap (λ (o : Option Asked). when (not (is_some o)) why.NoChallenge None) made
    named_judged (Reject user) = ap (λ (o : Option Asked). when (is_none o) why.NoChallenge None) (got user)
    named_judged (Accept user) = ap (λ (o : Option Asked). of_accept (join h p) me o) (got user) ∙ accept_judged (challenge_from h me user)
    named_judged (Whisper user text) = ap (λ b. when (not (is_online h user)) why.NoSuchUser (or_else (of_text text) (when b why.Blocked None))) (blocks_me user)
    named_judged (Block user) = ap (λ b. when (bytes_eq user me) why.SelfTarget (when b why.AlreadyBlocked None)) (blocks_by_me user)
    named_judged (Unblock user) = ap (λ b. when (not b) why.NotBlocked None) (blocks_by_me user)
    named_judged other = refl

  judged_by : (badge : Option Badge) (cmd : HallCmd) → IsMine ids badge → refusal_by (join h p) badge cmd ≡ refusal_by h badge cmd
  judged_by None cmd mine = refl
  judged_by (Some b) cmd mine = named_judged (id_of b.name) mine cmd

  pub own_judged : (conn : ℕ) (cmd : HallCmd) → IsMine ids (badge_of h conn) → refusal (join h p) conn cmd ≡ refusal h conn cmd
  unfolding refusal refusal_of_report
  own_judged conn Open mine = refl
  own_judged conn Quit mine = refl
  own_judged conn (Bad reason) mine = refl
  own_judged conn (Name name assertion) mine = refl
  own_judged conn (Report number winner) mine = refl
  own_judged conn other mine = judged_by (badge_of h conn) other mine

  -- ---- what it does

  quit_alike : (conn : ℕ) (badge : Option Badge) → AreAlike ids (with_users (forgotten h badge) conn Quit) (with_users (forgotten (join h p) badge) conn Quit)
  quit_alike conn None = same_parts ids h p n (with_users h conn Quit) refl
  quit_alike conn (Some b) = users_alike ids (forgotten_by h (id_of b.name)) (forgotten_by (join h p) (id_of b.name)) conn Quit (forgotten_alike ids h p n (id_of b.name))

  pub quit_alike_at : (conn : ℕ) → AreAlike ids (after_quit h conn) (after_quit (join h p) conn)
  quit_alike_at conn = quit_alike conn (badge_of h conn)

  pub report_alike : (number : ℕ) (winner : Option ℕ) (o : Option Game) → AreAlike ids (reported h number winner o) (reported (join h p) number winner o)
  report_alike number winner None = same_parts ids h p n h refl
  report_alike number winner (Some g) = same_parts ids h p n (reported h number winner (Some g)) refl

  module _ (name : List ℕ) (mine : is_user ids (id_of name) ≡ true) where
    with_me : (user : List ℕ) → (is_user ids user || is_user ids (id_of name)) ≡ true
    with_me user = or_right (is_user ids user) (is_user ids (id_of name)) mine

    search_done : (format : List ℕ) → refusal_of_search h (id_of name) format ≡ None → refusal_of_search (join h p) (id_of name) format ≡ None
        → AreAlike ids (after_named h name (Search format)) (after_named (join h p) name (Search format))
    search_done format left right =
        let one = search_is h name format left in
        let two = search_is (join h p) name format right in
        alike_by ids (after_named h name (Search format)) (searched_after h name format one.0)
        (after_named (join h p) name (Search format)) (searched_after (join h p) name format two.0)
        one.1 two.1 (search_alike ids h p n name format one.0 two.0)

    challenge_done : (user format : List ℕ) → refusal_of_challenge h (id_of name) user format ≡ None → refusal_of_challenge (join h p) (id_of name) user format ≡ None
        → AreAlike ids (after_named h name (Challenge user format)) (after_named (join h p) name (Challenge user format))
    challenge_done user format left right =
        let one = challenge_is h name user format left in
        let two = challenge_is (join h p) name user format right in
        alike_by ids (after_named h name (Challenge user format)) (challenged_after h name user format one.0)
        (after_named (join h p) name (Challenge user format)) (challenged_after (join h p) name user format two.0)
        one.1 two.1 (challenge_alike ids h p n name user format one.0 two.0)

    accept_done : (user : List ℕ) → refusal_of_accept h (id_of name) user ≡ None → refusal_of_accept (join h p) (id_of name) user ≡ None
        → AreAlike ids (after_named h name (Accept user)) (after_named (join h p) name (Accept user))
    accept_done user left right =
        alike_by ids (after_named h name (Accept user)) (accepted_after h name user) (after_named (join h p) name (Accept user)) (accepted_after (join h p) name user)
        (accept_is h name user left) (accept_is (join h p) name user right) (accepted_alike ids h p n name user (with_me user))

    named_done : (cmd : HallCmd) → refusal_of_named h (id_of name) cmd ≡ None → refusal_of_named (join h p) (id_of name) cmd ≡ None
        → AreAlike ids (after_named h name cmd) (after_named (join h p) name cmd)
    named_done (Team pack) left right = team_alike ids h p n (id_of name) pack
    named_done (Search format) left right = search_done format left right
    named_done CancelSearch left right = cancel_search_alike ids h p n (id_of name)
    named_done (Challenge user format) left right = challenge_done user format left right
    named_done CancelChallenge left right = cancel_challenge_alike ids h p n (id_of name)
    named_done (Reject user) left right = reject_alike ids h p n (id_of name) user (with_me user)
    named_done (Accept user) left right = accept_done user left right
    named_done (Block user) left right = block_alike ids h p n (id_of name) user
    named_done (Unblock user) left right = unblock_alike ids h p n (id_of name) user
    named_done other left right = same_parts ids h p n h refl

  done_by : (badge : Option Badge) (cmd : HallCmd) → IsMine ids badge → refusal_by h badge cmd ≡ None → refusal_by (join h p) badge cmd ≡ None
      → AreAlike ids (after_by h badge cmd) (after_by (join h p) badge cmd)
  done_by None cmd mine left right = absurd cc
  done_by (Some b) cmd mine left right = named_done b.name mine cmd left right

  pub own_done : (conn : ℕ) (cmd : HallCmd) → IsMine ids (badge_of h conn) → refusal h conn cmd ≡ None → refusal (join h p) conn cmd ≡ None
      → AreAlike ids (applied h conn cmd) (applied (join h p) conn cmd)
  unfolding refusal applied
  own_done conn Open mine left right = same_parts ids h p n (with_users h conn Open) refl
  own_done conn Quit mine left right = quit_alike_at conn
  own_done conn (Bad reason) mine left right = same_parts ids h p n h refl
  own_done conn (Name name assertion) mine left right = same_parts ids h p n (with_users h conn (Name name assertion)) refl
  own_done conn (Report number winner) mine left right = report_alike number winner (game_in h number)
  own_done conn other mine left right = done_by (badge_of h conn) other mine left right

  -- ---- what it tells

  module _ (me : ℕ) (mine_online : (id : List ℕ) → get h.users.online id ≡ Some me → is_user ids id ≡ true) (g : Record) (q : Parts) (m : AreNear ids (parts_of g) q) where
    -- the lines of an Accept, with the first of them open
    abbrev front_of : List ℕ → List ℕ → List (List ℕ)
    front_of id line = line ∷ search_line g.games g.searches id ∷ []

    lines : (id : List ℕ) → is_user ids id ≡ true → challenge_line q.pms.asked id ≡ challenge_line g.pms.asked id
    lines id mine = line_same ids id mine q.pms.asked g.pms.asked m.asked

    pub user_told : (user : List ℕ) (front : List ℕ → List (List ℕ)) → ((a b : List ℕ) → a ≡ b → front a ≡ front b)
        → message_of me (to_user h.users.online user (front (challenge_line q.pms.asked user))) ≡ message_of me (to_user h.users.online user (front (challenge_line g.pms.asked user)))
    user_told user front keeps = told_same me (get h.users.online user) (front (challenge_line q.pms.asked user)) (front (challenge_line g.pms.asked user)) (λ on. keeps _ _ (lines user (mine_online user on)))

    quit_told : (badge : Option Badge) → message_of me (told_of_quit h.users.online p.pms q.pms.asked badge) ≡ message_of me (told_of_quit h.users.online h.pms g.pms.asked badge)
    quit_told None = refl
    quit_told (Some b) = partners_told me ids h.users.online mine_online (id_of b.name) p.pms.asked h.pms.asked q.pms.asked g.pms.asked n.asked lines

    pub quit_told_at : (conn : ℕ) → message_of me (told (join h p) (join g q) conn Quit) ≡ message_of me (told h g conn Quit)
    unfolding told
    quit_told_at conn = quit_told (badge_of h conn)

    module _ (conn : ℕ) (badge : Badge) (mine : is_user ids (id_of badge.name) ≡ true) where
      both_told : (user : List ℕ)
          → message_of me (told_both h.users.online q.pms.asked conn (id_of badge.name) user) ≡ message_of me (told_both h.users.online g.pms.asked conn (id_of badge.name) user)
      both_told user =
          ap (λ (l : List ℕ). lines_for me (notice conn (l ∷ [])) ++ message_of me (to_user h.users.online user (challenge_line q.pms.asked user ∷ []))) (lines (id_of badge.name) mine)
          ∙ ap (λ (ls : List (List ℕ)). lines_for me (notice conn (challenge_line g.pms.asked (id_of badge.name) ∷ [])) ++ ls) (user_told user (λ l. l ∷ []) (λ a b same. ap (λ (l : List ℕ). l ∷ []) same))

      cancel_told : (o : Option Asked)
          → message_of me (told_of_cancel_challenge h.users.online q.pms.asked conn (id_of badge.name) o) ≡ message_of me (told_of_cancel_challenge h.users.online g.pms.asked conn (id_of badge.name) o)
      cancel_told None = refl
      cancel_told (Some a) = both_told a.to

      named_told : (cmd : HallCmd) → message_of me (told_of_named (join h p) (join g q) conn badge cmd) ≡ message_of me (told_of_named h g conn badge cmd)
      named_told (Challenge user format) = both_told user
      named_told CancelChallenge =
          ap (λ (o : Option Asked). message_of me (told_of_cancel_challenge h.users.online q.pms.asked conn (id_of badge.name) o)) (made (id_of badge.name) mine)
          ∙ cancel_told (asked_by h.pms (id_of badge.name))
      named_told (Reject user) = both_told user
      named_told (Accept user) =
          ap (λ (l : List ℕ). lines_for me (notice conn (front_of (id_of badge.name) l)) ++ message_of me (to_user h.users.online user (front_of user (challenge_line q.pms.asked user))))
          (lines (id_of badge.name) mine)
          ∙ ap (λ (ls : List (List ℕ)). lines_for me (notice conn (accept_lines g.games g.searches g.pms.asked (id_of badge.name))) ++ ls)
          (user_told user (front_of user) (λ a b same. ap (front_of user) same))
      named_told other = refl

    told_at : (conn : ℕ) (badge : Option Badge) (cmd : HallCmd) → IsMine ids badge → message_of me (told_by (join h p) (join g q) conn badge cmd) ≡ message_of me (told_by h g conn badge cmd)
    told_at conn None cmd mine = refl
    told_at conn (Some b) cmd mine = named_told conn b mine cmd

    pub own_told : (conn : ℕ) (cmd : HallCmd) → IsMine ids (badge_of h conn) → message_of me (told (join h p) (join g q) conn cmd) ≡ message_of me (told h g conn cmd)
    unfolding told
    own_told conn Open mine = refl
    own_told conn Quit mine = quit_told (badge_of h conn)
    own_told conn (Bad reason) mine = refl
    own_told conn (Name name assertion) mine = refl
    own_told conn (Report number winner) mine = refl
    own_told conn other mine = told_at conn (badge_of h conn) other mine
