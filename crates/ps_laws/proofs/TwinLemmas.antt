-- From two records that are alike an item leads to two that are alike, and gives the connection the same.
use Rattle.std.proofs.Common.{◌≡◌, ℕ, Bool, true, false, cond, List, ◌++◌, Option, Some, None, refl, ap, ◌∙◌, sym, subst, inl, inr}
use Rattle.std.specs.Prelude.{◌==◌}
use Rattle.std.proofs.lemmas.Bool.Decides.{eqb_tells}
use Rattle.std.proofs.lemmas.Cmp.{nat_eq_equiv}
use Rattle.ps_base.specs.declared.why.Why.{Why}
use Rattle.ps_lines.specs.declared.command.Command.{Command}
use Rattle.ps_lines.specs.declared.command.Command.TheVariants.{Choose}
use Rattle.ps_view.specs.declared.role.Role.{Role}
use Rattle.battle_rounds.specs.Fights.{Fight}
use Rattle.ps_chat.specs.Lookups.{member}
use Rattle.ps_chat.specs.Records.{Opening as ChatOpening, Record as ChatRecord}
use Rattle.battle_secrecy.specs.Places.{Hidden}
use Rattle.ps_room.specs.declared.entry.Entry.{Entry}
use Rattle.ps_room.specs.Tolds.{Logged}
use Rattle.ps_room.specs.Records.{Record, presents_of, cast_in}
use Rattle.ps_room.specs.Rooms.{sender_of, joiner_of, is_join, or_else, verdict, told, role, role_in, message, joined_if, joined_or, shown_events, seen_texts, allowed_events, allowed_lines}
use Rattle.ps_room.proofs.AnswerLemmas.{told_line, silent_line}
use Rattle.ps_laws.specs.Alike.{AreAlike, AreMaybeAlike}
use Rattle.ps_laws.specs.Low.{Item, whole, commit}
use Rattle.ps_laws.proofs.PartLemmas.{PlaysOwn, is_choose}
use Rattle.ps_laws.proofs.ItemLemmas.{item_after, item_message, whole_after, whole_message, commit_message}
use Rattle.ps_laws.proofs.UserLemmas.{OwnsOf, IsHome}
use Rattle.ps_laws.proofs.TwinSideLemmas.{IsOpen, role_same, refusal_same}
use Rattle.ps_laws.proofs.TwinAskLemmas.{AsksOwn, home_asks}
use Rattle.ps_laws.proofs.TwinStepLemmas.{with_fight, AreMaybeGood, applied_alike, entry_texts_same, joined_same, with_choice_alike, commit_alike, commit_message_same}

-- ---- the statement

-- An entry of a low history: who chooses plays an own side, if any, and so does who the connection itself becomes by a Join that is
-- allowed. (Of a refused one the badge isn't looked at.)
pub record IsEntryGood (conn : ℕ) (own : ℕ → Bool) (r : Record) (e : Entry) : Type 0 where
  pub chooses : is_choose e.cmd ≡ true → PlaysOwn own r.battle (sender_of r e)
  pub joins : verdict r e ≡ None → (e.conn == conn) ≡ true → is_join e.cmd ≡ true → PlaysOwn own r.battle (Some (joiner_of r e))

-- an item of a low history
abbrev pub IsGood : ℕ → (ℕ → Bool) → Hidden → Record → Item → Type 0
IsGood conn own places r (whole e) = IsEntryGood conn own r e
IsGood conn own places r (commit first second) = AreMaybeGood places r.battle first second

-- alike records after an item, and equal messages at it
pub record IsAlikeAt (conn : ℕ) (places : Hidden) (one two : Record) (i : Item) : Type 0 where
  pub alike : AreAlike places (item_after one i) (item_after two i)
  pub equal : item_message conn one i ≡ item_message conn two i

-- ---- verdict and role

verdict_same : (own : ℕ → Bool) (places : Hidden) (r : Record) (go : Option Fight) (e : Entry) → IsOpen own places →
    (is_choose e.cmd ≡ true → PlaysOwn own r.battle (sender_of r e)) → AreMaybeAlike places r.battle go → verdict r e ≡ verdict (with_fight r go) e
unfolding verdict
verdict_same own places r go e plain plays w = ap (or_else _) (refusal_same own places r.battle go (sender_of r e) e.cmd plain plays w)

pub room_role_same : (conn : ℕ) (places : Hidden) (r : Record) (go : Option Fight) → AreMaybeAlike places r.battle go → role conn r ≡ role conn (with_fight r go)
unfolding role_in
room_role_same conn places r go w = role_same places r.battle go (member conn (presents_of r)) w

-- ---- messages

-- of a refused entry its sender alone is told, and not of the battle
refused_same : (conn : ℕ) (r s : Record) (e : Entry) (why : Why) → verdict r e ≡ Some why → verdict s e ≡ Some why → message conn r e ≡ message conn s e
refused_same conn r s e why v v_too = elim (eqb_tells conn e.conn) [
  | inl mine ↦ ap (λ (k : ℕ). message k r e) mine.1 ∙ told_line r e why v ∙ sym (told_line s e why v_too) ∙ ap (λ (k : ℕ). message k s e) (sym mine.1)
  | inr other ↦ silent_line r e why conn v other.0 ∙ sym (silent_line s e why conn v_too other.0)
]

allowed_message : (conn : ℕ) (r : Record) (e : Entry) → verdict r e ≡ None →
    message conn r e ≡ joined_or (cond (conn == e.conn) (joined_if (is_join e.cmd) r e) None) (cast_in r.battle) r.logged
    (shown_events (cast_in r.battle) (role conn r) (allowed_events r e) ++ seen_texts conn (role conn r) (allowed_lines r e))
unfolding told
allowed_message conn r e v = rw v refl

allowed_same : (conn : ℕ) (own : ℕ → Bool) (places : Hidden) (r : Record) (go : Option Fight) (e : Entry) → IsOpen own places → AsksOwn own (role conn r) →
    IsEntryGood conn own r e → is_choose e.cmd ≡ false → verdict r e ≡ None → verdict (with_fight r go) e ≡ None →
    AreAlike places r (with_fight r go) → message conn r e ≡ message conn (with_fight r go) e
allowed_same conn own places r go e plain asks good free v v_too w =
    let s : Record = with_fight r go in
    let texts : shown_events (cast_in r.battle) (role conn r) (allowed_events r e) ++ seen_texts conn (role conn r) (allowed_lines r e) ≡
    shown_events (cast_in go) (role conn s) (allowed_events s e) ++ seen_texts conn (role conn s) (allowed_lines s e) =
    entry_texts_same conn own places (role conn r) r go e plain asks free w.battle
    ∙ ap (λ (x : Role). shown_events (cast_in go) x (allowed_events s e) ++ seen_texts conn x (allowed_lines s e)) (room_role_same conn places r go w.battle) in
    allowed_message conn r e v
    ∙ joined_same own places r go e _ _ (conn == e.conn) (is_join e.cmd) plain w (λ mine join. good.joins v (nat_eq_equiv.symm e.conn conn ∙ mine) join) texts
    ∙ sym (allowed_message conn s e v_too)

-- ---- an entry

whole_alike : (own : ℕ → Bool) (places : Hidden) (r : Record) (go : Option Fight) (e : Entry) (v : Option Why) (cmd : Command) → e.cmd ≡ cmd → IsOpen own places →
    (is_choose e.cmd ≡ true → PlaysOwn own r.battle (sender_of r e)) → AreAlike places r (with_fight r go) →
    AreAlike places (whole_after v r e cmd) (whole_after v (with_fight r go) e cmd)
whole_alike own places r go e (Some why) cmd is plain plays w = w
whole_alike own places r go e None (Choose choice rqid) is plain plays w = with_choice_alike own places r go e choice rqid plain (plays (ap is_choose is)) w
whole_alike own places r go e None other is plain plays w = applied_alike places r go e (ap is_choose is) w

whole_same : (conn : ℕ) (own : ℕ → Bool) (places : Hidden) (r : Record) (go : Option Fight) (e : Entry) (v : Option Why) (cmd : Command) → e.cmd ≡ cmd → verdict r e ≡ v →
    verdict (with_fight r go) e ≡ v → IsOpen own places → AsksOwn own (role conn r) → IsEntryGood conn own r e →
    AreAlike places r (with_fight r go) → whole_message v conn r e cmd ≡ whole_message v conn (with_fight r go) e cmd
whole_same conn own places r go e (Some why) cmd is v v_too plain asks good w = refused_same conn r (with_fight r go) e why v v_too
whole_same conn own places r go e None (Choose choice rqid) is v v_too plain asks good w = refl
whole_same conn own places r go e None other is v v_too plain asks good w = allowed_same conn own places r go e plain asks good (ap is_choose is) v v_too w

entry_alike : (conn : ℕ) (own : ℕ → Bool) (places : Hidden) (r : Record) (go : Option Fight) (e : Entry) → IsOpen own places → AsksOwn own (role conn r) →
    IsEntryGood conn own r e → AreAlike places r (with_fight r go) → IsAlikeAt conn places r (with_fight r go) (whole e)
entry_alike conn own places r go e plain asks good w =
    let s : Record = with_fight r go in
    let same : verdict r e ≡ verdict s e = verdict_same own places r go e plain good.chooses w.battle in
    record {
      alike = subst (λ (v : Option Why). AreAlike places (item_after r (whole e)) (whole_after v s e e.cmd)) same (whole_alike own places r go e (verdict r e) e.cmd refl plain good.chooses w);
      equal = whole_same conn own places r go e (verdict r e) e.cmd refl refl (sym same) plain asks good w ∙ ap (λ (v : Option Why). whole_message v conn s e e.cmd) same;
    }

-- ---- an item

paired_alike : (conn : ℕ) (own : ℕ → Bool) (places : Hidden) (r : Record) (go : Option Fight) (i : Item) → IsOpen own places → AsksOwn own (role conn r) →
    IsGood conn own places r i → AreAlike places r (with_fight r go) → IsAlikeAt conn places r (with_fight r go) i
paired_alike conn own places r go (whole e) plain asks good w = entry_alike conn own places r go e plain asks good w
paired_alike conn own places r go (commit first second) plain asks good w = record {
  alike = commit_alike places r (with_fight r go) r.battle go first second good w.battle w;
  equal =
      commit_message_same conn own places (role conn r) r.battle go first second plain asks good w.battle
      ∙ ap (λ (x : Role). commit_message conn x go first second) (room_role_same conn places r go w.battle);
}

-- the second of two alike records is the first with its own battle
pub second_is : (places : Hidden) (one two : Record) → AreAlike places one two → with_fight one two.battle ≡ two
second_is places one two w =
    let make : ChatOpening → ChatRecord → List Logged → Record = λ opening chat logged. record { opening = opening; chat = chat; logged = logged; battle = two.battle } in
    ap (λ (x : ChatOpening). make x one.chat one.logged) w.opening
    ∙ ap (λ (x : ChatRecord). make two.opening x one.logged) w.chat
    ∙ ap (λ (x : List Logged). make two.opening two.chat x) w.logged

pub item_alike : (conn : ℕ) (ids : List (List ℕ)) (own : ℕ → Bool) (places : Hidden) (one two : Record) (i : Item) →
    OwnsOf ids own one.battle → IsHome ids (member conn (presents_of one)) → IsOpen own places → IsGood conn own places one i →
    AreAlike places one two → IsAlikeAt conn places one two i
item_alike conn ids own places one two i owns home plain good w =
    let paired : AreAlike places one (with_fight one two.battle) = record { opening = refl; chat = refl; logged = refl; openly = w.openly; battle = w.battle } in
    subst (λ (x : Record). IsAlikeAt conn places one x i) (second_is places one two w) (paired_alike conn own places one two.battle i plain (home_asks conn ids own one owns home) good paired)
