-- An allowed entry of another: from alike records its item gives alike records and tells the connection the same, and without an
-- item it keeps them alike and tells it nothing.
use Rattle.std.proofs.Common.{◌≡◌, ℕ, Bool, true, false, cond, not, ◌&&◌, ◌||◌, List, [], ◌∷◌, ◌++◌, append-nil, Option, Some, None, refl, sym, ap, ◌∙◌}
use Rattle.std.proofs.lemmas.Bool.{or_from}
use Rattle.std.specs.List.{filter}
use Rattle.std.specs.Str.{bytes_eq}
use Rattle.std.specs.Ordering.{nat_cmp, eq_by_cmp}
use Rattle.std.specs.Cmp.Lexicographic.{slice_cmp, nat_list_cmp_total}
use Rattle.std.specs.FinMap.{get, insert, remove, get-insert, get-remove}
use Rattle.std.proofs.lemmas.List.Elements.{filter-append}
use Rattle.std.proofs.lemmas.Map.Text.{is_eq-slice_cmp}
use Rattle.std.proofs.lemmas.Slice.Eq.{bytes_eq-Decides}
use Rattle.ps_base.specs.Ids.{id_of}
use Rattle.ps_lines.specs.declared.command.HallCmd.TheVariants.{Block, Unblock}
use Rattle.ps_packed.specs.declared.set.Set.{Set}
use Rattle.ps_valid.specs.declared.legal.Legal.{Legal}
use Rattle.ps_base.specs.ById.{ById}
use Rattle.ps_pms.specs.declared.asked.Asked.{Asked}
use Rattle.ps_pms.specs.Lookups.{blocks, is_of}
use Rattle.ps_pms.proofs.BlockLemmas.{blocks_after_block, blocks_after_unblock}
use Rattle.ps_hall.specs.Records.{Record}
use Rattle.ps_hall.specs.Steps.{with_pms, after_team, with_accept}
use Rattle.ps_laws.specs.HallLow.{is_user}
use Rattle.ps_laws.proofs.HallListLemmas.{keep_within}
use Rattle.ps_laws.proofs.HallTellLemmas.{is_ours}
use Rattle.ps_laws.proofs.HallAlike.{labels, label_ours, labels_without_kept, labels_keep, AreAlike}
use Rattle.ps_laws.proofs.HallEffects.{challenged_after, without_others}

-- ---- what others have is dropped

module _ {X : Type 0} (ours : X → Bool) where
  pub put_none : (x : X) (xs : List X) → ours x ≡ false → filter ours (xs ++ x ∷ []) ≡ filter ours xs
  put_none x xs out = filter-append ours xs (x ∷ []) ∙ rw (out, append-nil (filter ours xs)) refl

module _ (ids : List (List ℕ)) (me : List ℕ) (out : is_user ids me ≡ false) where
  -- a user isn't who is none
  apart_by : (who : List ℕ) (b : Bool) → bytes_eq who me ≡ b → is_user ids who ≡ true → b ≡ false
  apart_by who true is mine = let wrong : false ≡ true = sym out ∙ sym (ap (is_user ids) ((bytes_eq-Decides who me).0 is)) ∙ mine in absurd cc
  apart_by who false is mine = refl

  pub apart : (who : List ℕ) → is_user ids who ≡ true → bytes_eq who me ≡ false
  apart who mine = apart_by who (bytes_eq who me) refl mine

  apart_key : (who : List ℕ) → is_user ids who ≡ true → eq_by_cmp (slice_cmp nat_cmp) who me ≡ false
  apart_key who mine = is_eq-slice_cmp who me ∙ apart who mine

  team_gone : (teams : ById (List Set)) (who : List ℕ) → is_user ids who ≡ true → get (remove teams me) who ≡ get teams who
  team_gone teams who mine = get-remove nat_list_cmp_total teams me who ∙ ap (λ b. cond b None (get teams who)) (apart_key who mine)

  team_put : (teams : ById (List Set)) (team : List Set) (who : List ℕ) → is_user ids who ≡ true → get (insert teams me team) who ≡ get teams who
  team_put teams team who mine = get-insert nat_list_cmp_total teams me team who ∙ ap (λ b. cond b (Some team) (get teams who)) (apart_key who mine)

  -- the team of another
  pub team_unseen : (h : Record) (pack : Option (List ℕ)) → AreAlike ids h (after_team h me pack)
  team_unseen h None = record { open_parts = refl; near = record { blocks = λ owner target mine. refl; asked = refl; teams = team_gone h.teams; challenges = refl; searches = refl } }
  team_unseen h (Some text) = record { open_parts = refl; near = record { blocks = λ owner target mine. refl; asked = refl; teams = team_put h.teams _; challenges = refl; searches = refl } }

  module _ (user : List ℕ) (user_out : is_user ids user ≡ false) where
    neither_at : (owner target : List ℕ) (a b c d : Bool) → bytes_eq owner me ≡ a → bytes_eq target user ≡ b → is_user ids owner ≡ c → is_user ids target ≡ d → (c || d) ≡ true → (a && b) ≡ false
    neither_at owner target true true true d at to with_choice other mine = let wrong : true ≡ false = sym with_choice ∙ ap (is_user ids) ((bytes_eq-Decides owner me).0 at) ∙ out in absurd cc
    neither_at owner target true true false true at to with_choice other mine = let wrong : true ≡ false = sym other ∙ ap (is_user ids) ((bytes_eq-Decides target user).0 to) ∙ user_out in absurd cc
    neither_at owner target true true false false at to with_choice other mine = absurd cc
    neither_at owner target true false c d at to with_choice other mine = refl
    neither_at owner target false b c d at to with_choice other mine = refl

    neither : (owner target : List ℕ) → (is_user ids owner || is_user ids target) ≡ true → (bytes_eq owner me && bytes_eq target user) ≡ false
    neither owner target mine = neither_at owner target (bytes_eq owner me) (bytes_eq target user) (is_user ids owner) (is_user ids target) refl refl refl refl mine

    -- a block between others
    pub block_unseen : (h : Record) → AreAlike ids h (with_pms h me (Block user))
    block_unseen h = record {
      open_parts = refl;
      near = record {
        blocks = λ owner target mine. blocks_after_block h.pms me user owner target ∙ ap (λ b. cond b true (blocks h.pms owner target)) (neither owner target mine);
        asked = refl;
        teams = λ who mine. refl;
        challenges = refl;
        searches = refl;
      };
    }

    pub unblock_unseen : (h : Record) → AreAlike ids h (with_pms h me (Unblock user))
    unblock_unseen h = record {
      open_parts = refl;
      near = record {
        blocks = λ owner target mine. blocks_after_unblock h.pms me user owner target ∙ ap (λ b. cond b false (blocks h.pms owner target)) (neither owner target mine);
        asked = refl;
        teams = λ who mine. refl;
        challenges = refl;
        searches = refl;
      };
    }

    -- a challenge between others
    pub challenge_unseen : (h : Record) (name format : List ℕ) (legal : Legal) → id_of name ≡ me → AreAlike ids h (challenged_after h name user format legal)
    challenge_unseen h name format legal is =
        let with_choice : is_user ids (id_of name) ≡ false = ap (is_user ids) is ∙ out in
        record {
          open_parts = refl;
          near = record {
            blocks = λ owner target mine. refl;
            asked = put_none (is_ours ids) (record { by = id_of name; to = user; format = format }) h.pms.asked (or_from (is_user ids (id_of name)) (is_user ids user) with_choice user_out);
            teams = λ who mine. refl;
            challenges =
                ap (filter (label_ours ids)) (labels_keep h.challenge_teams name user legal)
                ∙ put_none (label_ours ids) (record { name = name; with_id = user }) (labels h.challenge_teams) (or_from (is_user ids (id_of name)) (is_user ids user) with_choice user_out);
            searches = refl;
          };
        }

    of_none : (a : Asked) (b c d e : Bool) → bytes_eq a.by user ≡ b → bytes_eq a.to me ≡ c → is_user ids a.by ≡ d → is_user ids a.to ≡ e → (d || e) ≡ true → (b && c) ≡ false
    of_none a true true true e by to with_choice other mine = let wrong : true ≡ false = sym with_choice ∙ ap (is_user ids) ((bytes_eq-Decides a.by user).0 by) ∙ user_out in absurd cc
    of_none a true true false true by to with_choice other mine = let wrong : true ≡ false = sym other ∙ ap (is_user ids) ((bytes_eq-Decides a.to me).0 to) ∙ out in absurd cc
    of_none a true true false false by to with_choice other mine = absurd cc
    of_none a true false d e by to with_choice other mine = refl
    of_none a false c d e by to with_choice other mine = refl

    ours_stays : (a : Asked) → is_ours ids a ≡ true → not (is_of user me a) ≡ true
    ours_stays a mine = ap not (of_none a (bytes_eq a.by user) (bytes_eq a.to me) (is_user ids a.by) (is_user ids a.to) refl refl refl refl mine)

    -- the answer to a challenge between others
    pub answer_unseen : (h : Record) → AreAlike ids h (with_accept h me user)
    answer_unseen h = record {
      open_parts = refl;
      near = record {
        blocks = λ owner target mine. refl;
        asked = keep_within (is_ours ids) (λ a. not (is_of user me a)) ours_stays h.pms.asked;
        teams = λ who mine. refl;
        challenges = ap (filter (label_ours ids)) (labels_without_kept user me h.challenge_teams) ∙ without_others ids user me user_out out (labels h.challenge_teams);
        searches = refl;
      };
    }
