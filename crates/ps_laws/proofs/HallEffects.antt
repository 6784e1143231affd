-- What each command does to records that are alike: they stay alike.
use Rattle.std.proofs.Common.{◌≡◌, ℕ, Bool, true, false, cond, not, ◌&&◌, ◌||◌, List, [], ◌∷◌, ◌++◌, Option, Some, None, option_map, find, refl, sym, ap, ap₂, subst, ◌∙◌, IfSome}
use Rattle.std.proofs.lemmas.Bool.{and_parts}
use Rattle.std.specs.Prelude.{◌+◌}
use Rattle.std.specs.List.{filter}
use Rattle.std.specs.Str.{bytes_eq}
use Rattle.std.specs.Ordering.{nat_cmp, eq_by_cmp}
use Rattle.std.specs.Cmp.Lexicographic.{slice_cmp, nat_list_cmp_total}
use Rattle.std.specs.FinMap.{get, insert, remove, get-insert, get-remove}
use Rattle.std.proofs.lemmas.List.Elements.{filter-append}
use Rattle.std.proofs.lemmas.Slice.Eq.{bytes_eq-Decides}
use Rattle.ps_base.specs.Ids.{id_of}
use Rattle.ps_packed.specs.declared.set.Set.{Set}
use Rattle.ps_lines.specs.declared.command.HallCmd.TheVariants.{Challenge, Block, Unblock}
use Rattle.ps_valid.specs.declared.legal.Legal.{Legal}
use Rattle.ps_base.specs.ById.{ById}
use Rattle.ps_pms.specs.declared.asked.Asked.{Asked}
use Rattle.ps_pms.specs.Lookups.{is_by, is_to, is_of, is_with, asked_of}
use Rattle.ps_pms.proofs.BlockLemmas.{blocks_after_block, blocks_after_unblock}
use Rattle.ps_ladder.specs.declared.searches.Search.{Search}
use Rattle.ps_ladder.specs.Waiting.{added}
use Rattle.ps_hall.specs.declared.kept.KeptTeam.{KeptTeam}
use Rattle.ps_hall.specs.declared.game.Game.{Game}
use Rattle.ps_hall.specs.Records.{Record}
use Rattle.ps_hall.specs.Lookups.{without_kept, challenge_from, opponent, rating_in}
use Rattle.ps_hall.specs.Starts.{with_game}
use Rattle.ps_hall.specs.Steps.{with_pms, keep, forgotten_by, after_team, with_accept, after_cancel_search, after_cancel_challenge, after_reject}
use Rattle.ps_laws.specs.HallLow.{is_user}
use Rattle.ps_laws.proofs.HallListLemmas.{find_within, find_passes, keep_turned}
use Rattle.ps_laws.proofs.HallTellLemmas.{is_ours}
use Rattle.ps_laws.proofs.HallAlike.{Parts, parts_of, join, Label, labels, label_is, label_of, label_with, without_label, label_ours, labels_without_user, labels_without_either}
use Rattle.ps_laws.proofs.HallAlike.{labels_without_kept, labels_keep, name_kept, name_found, AreNear, AreAlike}

-- ---- battles

abbrev pub battle_of : ℕ → List ℕ → Bool → List ℕ → List ℕ → Game
battle_of started format rated name first = record { number = started + 1; format = format; players = first ∷ name ∷ []; rated = rated }

-- the hall where a battle has started against who has this name, if anybody
abbrev pub with_battle : Record → List ℕ → Bool → List ℕ → Option (List ℕ) → Record
with_battle h format rated name first = with_game h (option_map (battle_of h.started format rated name) first)

-- ---- the effects of commands that need a team, whatever it is

-- who is matched takes the other's search
abbrev pub matched_after : Record → List ℕ → List ℕ → Search → Record
matched_after h name format s = record h {
  searches = added h.searches (id_of name) format (rating_in h format (id_of name));
  search_teams = without_kept s.user format h.search_teams;
}

abbrev pub searched_by : Record → List ℕ → List ℕ → Legal → Option Search → Record
searched_by h name format legal None = record h { searches = added h.searches (id_of name) format (rating_in h format (id_of name)); search_teams = keep h.search_teams name format (Some legal) }
searched_by h name format legal (Some s) = with_battle (matched_after h name format s) format true name (name_kept s.user format h.search_teams)

abbrev pub searched_after : Record → List ℕ → List ℕ → Legal → Record
searched_after h name format legal = searched_by h name format legal (opponent h (id_of name) format)

abbrev pub challenged_after : Record → List ℕ → List ℕ → List ℕ → Legal → Record
challenged_after h name user format legal = record (with_pms h (id_of name) (Challenge user format)) { challenge_teams = keep h.challenge_teams name user (Some legal) }

abbrev pub accepted_by : Record → List ℕ → List ℕ → Option Asked → Record
accepted_by h name user None = with_accept h (id_of name) user
accepted_by h name user (Some a) = with_battle (with_accept h (id_of name) user) a.format false name (name_kept a.by (id_of name) h.challenge_teams)

abbrev pub accepted_after : Record → List ℕ → List ℕ → Record
accepted_after h name user = accepted_by h name user (challenge_from h (id_of name) user)

-- ---- who challenged

by_found : (user me : List ℕ) (o : Option Asked) → IfSome o (λ a. is_of user me a ≡ true) → IfSome o (λ a. a.by ≡ user)
by_found user me None is = tt
by_found user me (Some a) is = ((bytes_eq-Decides a.by user).0 (and_parts (is_by user a) (is_to me a) is).0)

challenger_by : (h : Record) (me user : List ℕ) (b : Bool) → IfSome (cond b None (asked_of h.pms user me)) (λ a. a.by ≡ user)
challenger_by h me user true = tt
challenger_by h me user false = by_found user me (asked_of h.pms user me) (find_passes (is_of user me) h.pms.asked)

-- whose challenge is found is who was looked for
pub challenger : (h : Record) (me user : List ℕ) → IfSome (challenge_from h me user) (λ a. a.by ≡ user)
challenger h me user = challenger_by h me user (bytes_eq user me)

-- ---- a part of a list that is taken out on both sides

module _ {X : Type 0} (ours : X → Bool) where
  pub taken_same : (test : X → Bool) (one two : List X) → filter ours one ≡ filter ours two → filter ours (filter test one) ≡ filter ours (filter test two)
  taken_same test one two same = keep_turned ours test one ∙ ap (filter test) same ∙ sym (keep_turned ours test two)

  pub put_same : (x : X) (one two : List X) → filter ours one ≡ filter ours two → filter ours (one ++ x ∷ []) ≡ filter ours (two ++ x ∷ [])
  put_same x one two same = filter-append ours one (x ∷ []) ∙ ap (λ (xs : List X). xs ++ filter ours (x ∷ [])) same ∙ sym (filter-append ours two (x ∷ []))

module _ (ids : List (List ℕ)) where
  drop_in : (user with_id : List ℕ) (z : Label) (zs : List Label) (a b : Bool) → label_is user with_id z ≡ a → label_ours ids z ≡ b → (a ≡ true → b ≡ true)
      → filter (label_ours ids) (without_label user with_id zs) ≡ without_label user with_id (filter (label_ours ids) zs)
      → filter (label_ours ids) (cond a zs (z ∷ without_label user with_id zs)) ≡ without_label user with_id (cond b (z ∷ filter (label_ours ids) zs) (filter (label_ours ids) zs))
  drop_in user with_id z zs true true is with_choice sub more = rw is refl
  drop_in user with_id z zs true false is with_choice sub more = let wrong : false ≡ true = sub refl in absurd cc
  drop_in user with_id z zs false true is with_choice sub more = rw (is, with_choice) (ap (λ (ys : List Label). z ∷ ys) more)
  drop_in user with_id z zs false false is with_choice sub more = rw with_choice more

  pair_mine : (user with_id x y : List ℕ) (a b c d : Bool) → bytes_eq x user ≡ a → bytes_eq y with_id ≡ b → is_user ids x ≡ c → is_user ids y ≡ d
      → (is_user ids user || is_user ids with_id) ≡ true → (a && b) ≡ true → (c || d) ≡ true
  pair_mine user with_id x y true true true d at with_at first second mine is = refl
  pair_mine user with_id x y true true false true at with_at first second mine is = refl
  pair_mine user with_id x y true true false false at with_at first second mine is =
      let user_out : is_user ids user ≡ false = ap (is_user ids) (sym ((bytes_eq-Decides x user).0 at)) ∙ first in
      let with_out : is_user ids with_id ≡ false = ap (is_user ids) (sym ((bytes_eq-Decides y with_id).0 with_at)) ∙ second in
      let wrong : false ≡ true = sym (ap₂ (λ (v w : Bool). v || w) user_out with_out) ∙ mine in
      absurd cc
  pair_mine user with_id x y true false c d at with_at first second mine is = absurd cc
  pair_mine user with_id x y false b c d at with_at first second mine is = absurd cc

  -- a label of two of whom one is a user is one of theirs
  pub label_is_ours : (user with_id : List ℕ) → (is_user ids user || is_user ids with_id) ≡ true → (z : Label) → label_is user with_id z ≡ true → label_ours ids z ≡ true
  label_is_ours user with_id mine z is =
      pair_mine user with_id (id_of z.name) z.with_id (bytes_eq (id_of z.name) user) (bytes_eq z.with_id with_id)
      (is_user ids (id_of z.name)) (is_user ids z.with_id) refl refl refl refl mine is

  pub without_ours : (user with_id : List ℕ) → (is_user ids user || is_user ids with_id) ≡ true → (zs : List Label)
      → filter (label_ours ids) (without_label user with_id zs) ≡ without_label user with_id (filter (label_ours ids) zs)
  without_ours user with_id mine [] = refl
  without_ours user with_id mine (z ∷ zs) = drop_in user with_id z zs (label_is user with_id z) (label_ours ids z) refl refl (label_is_ours user with_id mine z) (without_ours user with_id mine zs)

  drop_out : (user with_id : List ℕ) (z : Label) (zs : List Label) (a b : Bool) → label_is user with_id z ≡ a → label_ours ids z ≡ b → (a ≡ true → b ≡ false)
      → filter (label_ours ids) (without_label user with_id zs) ≡ filter (label_ours ids) zs
      → filter (label_ours ids) (cond a zs (z ∷ without_label user with_id zs)) ≡ cond b (z ∷ filter (label_ours ids) zs) (filter (label_ours ids) zs)
  drop_out user with_id z zs true true is with_choice sub more = let wrong : true ≡ false = sub refl in absurd cc
  drop_out user with_id z zs true false is with_choice sub more = refl
  drop_out user with_id z zs false true is with_choice sub more = rw with_choice (ap (λ (ys : List Label). z ∷ ys) more)
  drop_out user with_id z zs false false is with_choice sub more = rw with_choice more

  label_other : (user with_id : List ℕ) (z : Label) (a b : Bool) → bytes_eq (id_of z.name) user ≡ a → bytes_eq z.with_id with_id ≡ b
      → is_user ids user ≡ false → is_user ids with_id ≡ false → (a && b) ≡ true → label_ours ids z ≡ false
  label_other user with_id z true true at with_at out with_out is =
      ap₂ (λ (x y : Bool). x || y) (ap (is_user ids) ((bytes_eq-Decides (id_of z.name) user).0 at) ∙ out) (ap (is_user ids) ((bytes_eq-Decides z.with_id with_id).0 with_at) ∙ with_out)
  label_other user with_id z true false at with_at out with_out is = absurd cc
  label_other user with_id z false b at with_at out with_out is = absurd cc

  pub without_others : (user with_id : List ℕ) → is_user ids user ≡ false → is_user ids with_id ≡ false → (zs : List Label)
      → filter (label_ours ids) (without_label user with_id zs) ≡ filter (label_ours ids) zs
  without_others user with_id out with_out [] = refl
  without_others user with_id out with_out (z ∷ zs) =
      drop_out user with_id z zs (label_is user with_id z) (label_ours ids z) refl refl
      (label_other user with_id z (bytes_eq (id_of z.name) user) (bytes_eq z.with_id with_id) refl refl out with_out)
      (without_others user with_id out with_out zs)

  -- ---- the parts after each command

  pub teams_put : (me : List ℕ) (team : List Set) (q p : ById (List Set)) → ((who : List ℕ) → is_user ids who ≡ true → get q who ≡ get p who)
      → (who : List ℕ) → is_user ids who ≡ true → get (insert q me team) who ≡ get (insert p me team) who
  teams_put me team q p same who mine =
      get-insert nat_list_cmp_total q me team who
      ∙ ap (cond (eq_by_cmp (slice_cmp nat_cmp) who me) (Some team)) (same who mine)
      ∙ sym (get-insert nat_list_cmp_total p me team who)

  pub teams_gone : (me : List ℕ) (q p : ById (List Set)) → ((who : List ℕ) → is_user ids who ≡ true → get q who ≡ get p who)
      → (who : List ℕ) → is_user ids who ≡ true → get (remove q me) who ≡ get (remove p me) who
  teams_gone me q p same who mine =
      get-remove nat_list_cmp_total q me who
      ∙ ap (cond (eq_by_cmp (slice_cmp nat_cmp) who me) None) (same who mine)
      ∙ sym (get-remove nat_list_cmp_total p me who)

  module _ (h : Record) (p : Parts) (n : AreNear ids (parts_of h) p) where
    -- a command that changes nothing of these parts
    pub same_parts : (g : Record) → parts_of g ≡ parts_of h → AreAlike ids g (join g p)
    same_parts g same = record { open_parts = refl; near = subst (λ (x : Parts). AreNear ids x p) (sym same) n }

    pub forgotten_alike : (me : List ℕ) → AreAlike ids (forgotten_by h me) (forgotten_by (join h p) me)
    forgotten_alike me = record {
      open_parts = refl;
      near = record {
        blocks = n.blocks;
        asked = taken_same (is_ours ids) (λ a. not (is_with me a)) p.pms.asked h.pms.asked n.asked;
        teams = teams_gone me p.teams h.teams n.teams;
        challenges =
            ap (filter (label_ours ids)) (labels_without_either me p.challenge_teams)
            ∙ taken_same (label_ours ids) (λ z. not (label_with me z)) (labels p.challenge_teams) (labels h.challenge_teams) n.challenges
            ∙ ap (filter (label_ours ids)) (sym (labels_without_either me h.challenge_teams));
        searches = labels_without_user me p.search_teams ∙ ap (filter (λ z. not (label_of me z))) n.searches ∙ sym (labels_without_user me h.search_teams);
      };
    }

    pub cancel_search_alike : (me : List ℕ) → AreAlike ids (after_cancel_search h me) (after_cancel_search (join h p) me)
    cancel_search_alike me = record {
      open_parts = refl;
      near = record {
        blocks = n.blocks;
        asked = n.asked;
        teams = n.teams;
        challenges = n.challenges;
        searches = labels_without_user me p.search_teams ∙ ap (filter (λ z. not (label_of me z))) n.searches ∙ sym (labels_without_user me h.search_teams);
      };
    }

    pub cancel_challenge_alike : (me : List ℕ) → AreAlike ids (after_cancel_challenge h me) (after_cancel_challenge (join h p) me)
    cancel_challenge_alike me = record {
      open_parts = refl;
      near = record {
        blocks = n.blocks;
        asked = taken_same (is_ours ids) (λ a. not (is_by me a)) p.pms.asked h.pms.asked n.asked;
        teams = n.teams;
        challenges =
            ap (filter (label_ours ids)) (labels_without_user me p.challenge_teams)
            ∙ taken_same (label_ours ids) (λ z. not (label_of me z)) (labels p.challenge_teams) (labels h.challenge_teams) n.challenges
            ∙ ap (filter (label_ours ids)) (sym (labels_without_user me h.challenge_teams));
        searches = n.searches;
      };
    }

    challenges_without : (user with_id : List ℕ) → (is_user ids user || is_user ids with_id) ≡ true
        → filter (label_ours ids) (labels (without_kept user with_id p.challenge_teams)) ≡ filter (label_ours ids) (labels (without_kept user with_id h.challenge_teams))
    challenges_without user with_id mine =
        ap (filter (label_ours ids)) (labels_without_kept user with_id p.challenge_teams)
        ∙ without_ours user with_id mine (labels p.challenge_teams)
        ∙ ap (without_label user with_id) n.challenges
        ∙ sym (without_ours user with_id mine (labels h.challenge_teams))
        ∙ ap (filter (label_ours ids)) (sym (labels_without_kept user with_id h.challenge_teams))

    answer_near : (me user : List ℕ) → (is_user ids user || is_user ids me) ≡ true → AreNear ids (parts_of (with_accept h me user)) (parts_of (with_accept (join h p) me user))
    answer_near me user mine = record {
      blocks = n.blocks;
      asked = taken_same (is_ours ids) (λ a. not (is_of user me a)) p.pms.asked h.pms.asked n.asked;
      teams = n.teams;
      challenges = challenges_without user me mine;
      searches = n.searches;
    }

    pub reject_alike : (me user : List ℕ) → (is_user ids user || is_user ids me) ≡ true → AreAlike ids (after_reject h me user) (after_reject (join h p) me user)
    reject_alike me user mine = record { open_parts = refl; near = answer_near me user mine }

    pub accept_alike : (me user : List ℕ) → (is_user ids user || is_user ids me) ≡ true → AreAlike ids (with_accept h me user) (with_accept (join h p) me user)
    accept_alike me user mine = record { open_parts = refl; near = answer_near me user mine }

    pub challenge_alike : (name user format : List ℕ) (one two : Legal) → AreAlike ids (challenged_after h name user format one) (challenged_after (join h p) name user format two)
    challenge_alike name user format one two = record {
      open_parts = refl;
      near = record {
        blocks = n.blocks;
        asked = put_same (is_ours ids) (record { by = id_of name; to = user; format = format }) p.pms.asked h.pms.asked n.asked;
        teams = n.teams;
        challenges =
            ap (filter (label_ours ids)) (labels_keep p.challenge_teams name user two)
            ∙ put_same (label_ours ids) (record { name = name; with_id = user }) (labels p.challenge_teams) (labels h.challenge_teams) n.challenges
            ∙ ap (filter (label_ours ids)) (sym (labels_keep h.challenge_teams name user one));
        searches = n.searches;
      };
    }

    pub team_alike : (me : List ℕ) (pack : Option (List ℕ)) → AreAlike ids (after_team h me pack) (after_team (join h p) me pack)
    team_alike me None = record {
      open_parts = refl;
      near = record { blocks = n.blocks; asked = n.asked; teams = teams_gone me p.teams h.teams n.teams; challenges = n.challenges; searches = n.searches };
    }
    team_alike me (Some text) = record {
      open_parts = refl;
      near = record { blocks = n.blocks; asked = n.asked; teams = teams_put me _ p.teams h.teams n.teams; challenges = n.challenges; searches = n.searches };
    }

    pub block_alike : (me user : List ℕ) → AreAlike ids (with_pms h me (Block user)) (with_pms (join h p) me (Block user))
    block_alike me user = record {
      open_parts = refl;
      near = record {
        blocks = λ owner target mine.
            blocks_after_block p.pms me user owner target
            ∙ ap (cond (bytes_eq owner me && bytes_eq target user) true) (n.blocks owner target mine)
            ∙ sym (blocks_after_block h.pms me user owner target);
        asked = n.asked;
        teams = n.teams;
        challenges = n.challenges;
        searches = n.searches;
      };
    }

    pub unblock_alike : (me user : List ℕ) → AreAlike ids (with_pms h me (Unblock user)) (with_pms (join h p) me (Unblock user))
    unblock_alike me user = record {
      open_parts = refl;
      near = record {
        blocks = λ owner target mine.
            blocks_after_unblock p.pms me user owner target
            ∙ ap (cond (bytes_eq owner me && bytes_eq target user) false) (n.blocks owner target mine)
            ∙ sym (blocks_after_unblock h.pms me user owner target);
        asked = n.asked;
        teams = n.teams;
        challenges = n.challenges;
        searches = n.searches;
      };
    }

    wait_near : (name format : List ℕ) (one two : Legal) (s : Search)
        → AreNear ids (parts_of (record h { search_teams = without_kept s.user format h.search_teams })) (record p { search_teams = without_kept s.user format p.search_teams })
    wait_near name format one two s = record {
      blocks = n.blocks;
      asked = n.asked;
      teams = n.teams;
      challenges = n.challenges;
      searches = labels_without_kept s.user format p.search_teams ∙ ap (without_label s.user format) n.searches ∙ sym (labels_without_kept s.user format h.search_teams);
    }

  -- who is named in the title of a battle is the same
  battle_by : (h : Record) (p : Parts) (format : List ℕ) (rated : Bool) (name : List ℕ) (first : Option (List ℕ)) → AreNear ids (parts_of h) p
      → AreAlike ids (with_battle h format rated name first) (with_battle (join h p) format rated name first)
  battle_by h p format rated name None n = record { open_parts = refl; near = n }
  battle_by h p format rated name (Some first) n = record { open_parts = refl; near = n }

  pub battle_alike : (h l : Record) (format : List ℕ) (rated : Bool) (name : List ℕ) (one two : Option (List ℕ)) → AreAlike ids h l → two ≡ one
      → AreAlike ids (with_battle h format rated name one) (with_battle l format rated name two)
  battle_alike h l format rated name one two w same =
      subst (λ (x : Record). AreAlike ids (with_battle h format rated name one) (with_battle x format rated name two)) (sym w.open_parts)
      (subst (λ (o : Option (List ℕ)). AreAlike ids (with_battle h format rated name one) (with_battle (join h (parts_of l)) format rated name o)) (sym same)
      (battle_by h (parts_of l) format rated name one w.near))

  name_same : (user with_id : List ℕ) (one two : List KeptTeam) → find (label_is user with_id) (labels one) ≡ find (label_is user with_id) (labels two)
      → name_kept user with_id one ≡ name_kept user with_id two
  name_same user with_id one two same = name_found user with_id one ∙ ap (λ (o : Option Label). option_map (λ z. z.name) o) same ∙ sym (name_found user with_id two)

  module _ (h : Record) (p : Parts) (n : AreNear ids (parts_of h) p) where
    search_by : (name format : List ℕ) (one two : Legal) (o : Option Search) → AreAlike ids (searched_by h name format one o) (searched_by (join h p) name format two o)
    search_by name format one two None = record {
      open_parts = refl;
      near = record {
        blocks = n.blocks;
        asked = n.asked;
        teams = n.teams;
        challenges = n.challenges;
        searches =
            labels_keep p.search_teams name format two
            ∙ ap (λ (zs : List Label). zs ++ record { name = name; with_id = format } ∷ []) n.searches
            ∙ sym (labels_keep h.search_teams name format one);
      };
    }
    search_by name format one two (Some s) =
        battle_alike _ _ format true name (name_kept s.user format h.search_teams) (name_kept s.user format p.search_teams)
        (record { open_parts = refl; near = wait_near h p n name format one two s })
        (name_same s.user format p.search_teams h.search_teams (ap (find (label_is s.user format)) n.searches))

    pub search_alike : (name format : List ℕ) (one two : Legal) → AreAlike ids (searched_after h name format one) (searched_after (join h p) name format two)
    search_alike name format one two = search_by name format one two (opponent h (id_of name) format)

    -- ---- the challenge that is accepted

    module _ (user me : List ℕ) (mine : (is_user ids user || is_user ids me) ≡ true) where
      asked_ours : (a : Asked) → is_of user me a ≡ true → is_ours ids a ≡ true
      asked_ours a is = pair_mine user me a.by a.to (bytes_eq a.by user) (bytes_eq a.to me) (is_user ids a.by) (is_user ids a.to) refl refl refl refl mine is

      asked_same : asked_of p.pms user me ≡ asked_of h.pms user me
      asked_same = sym (find_within (is_of user me) (is_ours ids) asked_ours p.pms.asked) ∙ ap (find (is_of user me)) n.asked ∙ find_within (is_of user me) (is_ours ids) asked_ours h.pms.asked

      -- the challenge of the one to the other is the same, where one of them is a user
      pub challenge_same : challenge_from (join h p) me user ≡ challenge_from h me user
      challenge_same = ap (cond (bytes_eq user me) None) asked_same

      pub challenger_same : name_kept user me p.challenge_teams ≡ name_kept user me h.challenge_teams
      challenger_same = name_same user me p.challenge_teams h.challenge_teams
          (sym (find_within (label_is user me) (label_ours ids) (label_is_ours user me mine) (labels p.challenge_teams))
          ∙ ap (find (label_is user me)) n.challenges
          ∙ find_within (label_is user me) (label_ours ids) (label_is_ours user me mine) (labels h.challenge_teams))

    accept_by : (name user : List ℕ) (o : Option Asked) → (is_user ids user || is_user ids (id_of name)) ≡ true → IfSome o (λ a. a.by ≡ user)
        → AreAlike ids (accepted_by h name user o) (accepted_by (join h p) name user o)
    accept_by name user None mine by = accept_alike h p n (id_of name) user mine
    accept_by name user (Some a) mine by =
        battle_alike (with_accept h (id_of name) user) (with_accept (join h p) (id_of name) user) a.format false name
        (name_kept a.by (id_of name) h.challenge_teams) (name_kept a.by (id_of name) p.challenge_teams)
        (accept_alike h p n (id_of name) user mine)
        (challenger_same a.by (id_of name) (ap (λ (x : List ℕ). is_user ids x || is_user ids (id_of name)) by ∙ mine))

    pub accepted_alike : (name user : List ℕ) → (is_user ids user || is_user ids (id_of name)) ≡ true → AreAlike ids (accepted_after h name user) (accepted_after (join h p) name user)
    accepted_alike name user mine =
        subst (λ (o : Option Asked). AreAlike ids (accepted_after h name user) (accepted_by (join h p) name user o)) (sym (challenge_same user (id_of name) mine))
        (accept_by name user (challenge_from h (id_of name) user) mine (challenger h (id_of name) user))
