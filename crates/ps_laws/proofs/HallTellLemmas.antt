-- What notices tell a connection: who is told on it is one of its users, so what differs for others makes no difference to it.
use Rattle.std.proofs.Common.{◌≡◌, ℕ, ◌==◌, Bool, true, false, cond, ◌||◌, List, [], ◌∷◌, ◌++◌, append-nil, Option, Some, None, refl, sym, ap, ap₂, ◌∙◌}
use Rattle.std.proofs.lemmas.Bool.{or_parts, eqb-true}
use Rattle.std.specs.List.{filter}
use Rattle.std.specs.Str.{bytes_eq}
use Rattle.std.specs.FinMap.{get}
use Rattle.std.proofs.lemmas.List.Elements.{filter-append}
use Rattle.std.proofs.lemmas.List.Concat.{flat_map-append}
use Rattle.std.proofs.lemmas.Slice.Eq.{bytes_eq-Decides}
use Rattle.ps_base.specs.ById.{ById}
use Rattle.ps_pms.specs.declared.asked.Asked.{Asked}
use Rattle.ps_pms.specs.Lookups.{is_by, is_to, partner, has_id, with_new, partners_of}
use Rattle.ps_hall.specs.declared.notice.Notice.{Notice}
use Rattle.ps_hall.specs.Halls.{lines_for, message_of}
use Rattle.ps_hall.specs.Lines.{challenge_line}
use Rattle.ps_hall.specs.Told.{notice, to_conn, to_user, told_partners}
use Rattle.ps_laws.specs.HallLow.{is_user}

-- whether a challenge is with one of these users
abbrev pub is_ours : List (List ℕ) → Asked → Bool
is_ours ids a = is_user ids a.by || is_user ids a.to

-- ---- notices to one

module _ (conn : ℕ) where
  pub message_append : (ns ms : List Notice) → message_of conn (ns ++ ms) ≡ message_of conn ns ++ message_of conn ms
  message_append ns ms = flat_map-append (lines_for conn) ns ms

  one_same : (n : ℕ) (one two : List (List ℕ)) (b : Bool) → (n == conn) ≡ b → (n ≡ conn → one ≡ two) → cond b one [] ++ [] ≡ cond b two [] ++ []
  one_same n one two true is same = ap (λ (ls : List (List ℕ)). ls ++ []) (same (eqb-true n conn is))
  one_same n one two false is same = refl

  -- lines to a connection, which only matter where it is this one
  pub told_same : (o : Option ℕ) (one two : List (List ℕ)) → (o ≡ Some conn → one ≡ two) → message_of conn (to_conn o one) ≡ message_of conn (to_conn o two)
  told_same None one two same = refl
  told_same (Some n) one two same = one_same n one two (n == conn) refl (λ is. same (ap Some is))

  one_none : (n : ℕ) (lines : List (List ℕ)) (b : Bool) → (n == conn) ≡ b → (n ≡ conn → lines ≡ []) → cond b lines [] ++ [] ≡ []
  one_none n lines true is none = ap (λ (ls : List (List ℕ)). ls ++ []) (none (eqb-true n conn is))
  one_none n lines false is none = refl

  pub told_none : (o : Option ℕ) (lines : List (List ℕ)) → (o ≡ Some conn → lines ≡ []) → message_of conn (to_conn o lines) ≡ []
  told_none None lines none = refl
  told_none (Some n) lines none = one_none n lines (n == conn) refl (λ is. none (ap Some is))

  -- a notice to another is none to it
  pub notice_other : (other : ℕ) (lines : List (List ℕ)) (ns : List Notice) → (other == conn) ≡ false → message_of conn (notice other lines ∷ ns) ≡ message_of conn ns
  notice_other other lines ns apart = rw apart refl

  -- ---- the partners of who quits

  module _ (ids : List (List ℕ)) (online : ById ℕ) (mine : (id : List ℕ) → get online id ≡ Some conn → is_user ids id ≡ true) where
    partner_at : (asked : List Asked) (id : List ℕ) (others : List (List ℕ)) (b : Bool) → is_user ids id ≡ b
        → message_of conn (told_partners online asked others) ≡ message_of conn (told_partners online asked (filter (is_user ids) others))
        → message_of conn (told_partners online asked (id ∷ others)) ≡ message_of conn (told_partners online asked (cond b (id ∷ filter (is_user ids) others) (filter (is_user ids) others)))
    partner_at asked id others true is more =
        message_append (to_user online id (challenge_line asked id ∷ [])) (told_partners online asked others)
        ∙ ap (λ (ls : List (List ℕ)). message_of conn (to_user online id (challenge_line asked id ∷ [])) ++ ls) more
        ∙ sym (message_append (to_user online id (challenge_line asked id ∷ [])) (told_partners online asked (filter (is_user ids) others)))
    partner_at asked id others false is more =
        message_append (to_user online id (challenge_line asked id ∷ [])) (told_partners online asked others)
        ∙ ap (λ (ls : List (List ℕ)). ls ++ message_of conn (told_partners online asked others))
        (told_none (get online id) (challenge_line asked id ∷ []) (λ on. let wrong : true ≡ false = sym (mine id on) ∙ is in absurd cc))
        ∙ more

    -- only those that are its users are told on it
    users_told : (asked : List Asked) (others : List (List ℕ)) → message_of conn (told_partners online asked others) ≡ message_of conn (told_partners online asked (filter (is_user ids) others))
    users_told asked [] = refl
    users_told asked (id ∷ others) = partner_at asked id others (is_user ids id) refl (users_told asked others)

    lines_told : (one two : List Asked) → ((id : List ℕ) → is_user ids id ≡ true → challenge_line one id ≡ challenge_line two id) → (others : List (List ℕ))
        → message_of conn (told_partners online one others) ≡ message_of conn (told_partners online two others)
    lines_told one two same [] = refl
    lines_told one two same (id ∷ others) =
        message_append (to_user online id (challenge_line one id ∷ [])) (told_partners online one others)
        ∙ ap₂ (λ (ls ms : List (List ℕ)). ls ++ ms)
        (told_same (get online id) (challenge_line one id ∷ []) (challenge_line two id ∷ []) (λ on. ap (λ (l : List ℕ). l ∷ []) (same id (mine id on))))
        (lines_told one two same others)
        ∙ sym (message_append (to_user online id (challenge_line two id ∷ [])) (told_partners online two others))

module _ (ids : List (List ℕ)) where
  abbrev ours : List (List ℕ) → List (List ℕ)
  ours others = filter (is_user ids) others

  has_at : (id x : List ℕ) (b c : Bool) (rest kept : Bool) → is_user ids x ≡ b → bytes_eq x id ≡ c → is_user ids id ≡ true → kept ≡ rest
      → cond b (c || kept) kept ≡ (c || rest)
  has_at id x true c rest kept is eq mine more = rw more refl
  has_at id x false true rest kept is eq mine more = let wrong : false ≡ true = sym is ∙ ap (is_user ids) ((bytes_eq-Decides x id).0 eq) ∙ mine in absurd cc
  has_at id x false false rest kept is eq mine more = more

  has_if : (id x : List ℕ) (others : List (List ℕ)) (b : Bool) → has_id (cond b (x ∷ ours others) (ours others)) id ≡ cond b (bytes_eq x id || has_id (ours others) id) (has_id (ours others) id)
  has_if id x others true = refl
  has_if id x others false = refl

  -- one of the users is among the ids where it is among those that are users
  has_ours : (id : List ℕ) → is_user ids id ≡ true → (others : List (List ℕ)) → has_id (ours others) id ≡ has_id others id
  has_ours id mine [] = refl
  has_ours id mine (x ∷ others) = has_if id x others (is_user ids x) ∙ has_at id x (is_user ids x) (bytes_eq x id) (has_id others id) (has_id (ours others) id) refl refl mine (has_ours id mine others)

  put_at : (id : List ℕ) (others : List (List ℕ)) (b : Bool) → is_user ids id ≡ true → ours (cond b others (others ++ id ∷ [])) ≡ cond b (ours others) (ours others ++ id ∷ [])
  put_at id others true mine = refl
  put_at id others false mine = filter-append (is_user ids) others (id ∷ []) ∙ rw mine refl

  -- one of the users is put behind them
  new_mine : (found : List (List ℕ)) (id : List ℕ) → is_user ids id ≡ true → ours (with_new found (Some id)) ≡ with_new (ours found) (Some id)
  new_mine found id mine = put_at id found (has_id found id) mine ∙ ap (λ b. cond b (ours found) (ours found ++ id ∷ [])) (sym (has_ours id mine found))

  leave_at : (id : List ℕ) (others : List (List ℕ)) (b : Bool) → is_user ids id ≡ false → ours (cond b others (others ++ id ∷ [])) ≡ ours others
  leave_at id others true out = refl
  leave_at id others false out = filter-append (is_user ids) others (id ∷ []) ∙ rw (out, append-nil (ours others)) refl

  new_out : (found : List (List ℕ)) (id : List ℕ) → is_user ids id ≡ false → ours (with_new found (Some id)) ≡ ours found
  new_out found id out = leave_at id found (has_id found id) out

  new_by : (one two : List (List ℕ)) (id : List ℕ) (b : Bool) → is_user ids id ≡ b → ours one ≡ ours two → ours (with_new one (Some id)) ≡ ours (with_new two (Some id))
  new_by one two id true is same = new_mine one id is ∙ ap (λ (others : List (List ℕ)). with_new others (Some id)) same ∙ sym (new_mine two id is)
  new_by one two id false is same = new_out one id is ∙ same ∙ sym (new_out two id is)

  new_same : (one two : List (List ℕ)) (o : Option (List ℕ)) → ours one ≡ ours two → ours (with_new one o) ≡ ours (with_new two o)
  new_same one two None same = same
  new_same one two (Some id) same = new_by one two id (is_user ids id) refl same

  -- a challenge that is with none of the users has none of them as a partner
  skip_by : (user : List ℕ) (found : List (List ℕ)) (a : Asked) (b c : Bool) → is_user ids a.by ≡ false → is_user ids a.to ≡ false
      → ours (with_new found (cond b (Some a.to) (cond c (Some a.by) None))) ≡ ours found
  skip_by user found a true c by to = new_out found a.to to
  skip_by user found a false true by to = new_out found a.by by
  skip_by user found a false false by to = refl

  partners_at : (user : List ℕ) (one two : List (List ℕ)) (a : Asked) (more : List Asked) (b : Bool) → is_ours ids a ≡ b → ours one ≡ ours two
      → ((o : Option (List ℕ)) (x y : List (List ℕ)) → ours x ≡ ours y → ours (partners_of user x more) ≡ ours (partners_of user y (filter (is_ours ids) more)))
      → ours (partners_of user (with_new one (partner user a)) more) ≡ ours (partners_of user two (cond b (a ∷ filter (is_ours ids) more) (filter (is_ours ids) more)))
  partners_at user one two a more true is same next = next None (with_new one (partner user a)) (with_new two (partner user a)) (new_same one two (partner user a) same)
  partners_at user one two a more false is same next =
      let out = or_parts (is_user ids a.by) (is_user ids a.to) is in
      next None (with_new one (partner user a)) two (skip_by user one a (is_by user a) (is_to user a) out.0 out.1 ∙ same)

  -- of the partners of who quits, the users are those of the challenges with users
  pub partners_ours : (user : List ℕ) (asked : List Asked) (one two : List (List ℕ)) → ours one ≡ ours two
      → ours (partners_of user one asked) ≡ ours (partners_of user two (filter (is_ours ids) asked))
  partners_ours user [] one two same = same
  partners_ours user (a ∷ more) one two same = partners_at user one two a more (is_ours ids a) refl same (λ o x y s. partners_ours user more x y s)

-- The partners of who quits are told alike on it, where the challenges with its users were the same before, and the lines of
-- its users are the same after.
pub partners_told : (conn : ℕ) (ids : List (List ℕ)) (online : ById ℕ) → ((id : List ℕ) → get online id ≡ Some conn → is_user ids id ≡ true)
    → (user : List ℕ) (one two left right : List Asked) → filter (is_ours ids) one ≡ filter (is_ours ids) two
    → ((id : List ℕ) → is_user ids id ≡ true → challenge_line left id ≡ challenge_line right id)
    → message_of conn (told_partners online left (partners_of user [] one)) ≡ message_of conn (told_partners online right (partners_of user [] two))
partners_told conn ids online mine user one two left right same lines =
    users_told conn ids online mine left (partners_of user [] one)
    ∙ ap (λ (others : List (List ℕ)). message_of conn (told_partners online left others))
    (partners_ours ids user one [] [] refl
    ∙ ap (λ (asked : List Asked). filter (is_user ids) (partners_of user [] asked)) same
    ∙ sym (partners_ours ids user two [] [] refl))
    ∙ sym (users_told conn ids online mine left (partners_of user [] two))
    ∙ lines_told conn ids online mine left right lines (partners_of user [] two)
