-- A story of a chat room without an entry that has no item is the same.
use Rattle.std.proofs.Common.{◌≡◌, ℕ, ◌==◌, Bool, true, false, cond, List, [], ◌∷◌, ◌++◌, Option, Some, None, refl, sym, ap, ◌∙◌}
use Rattle.std.proofs.lemmas.Bool.{or_parts}
use Rattle.std.specs.Prelude.{IfSome}
use Rattle.std.proofs.lemmas.Cmp.{nat_eq_equiv}
use Rattle.ps_base.specs.declared.why.Why.{Why}
use Rattle.ps_lines.specs.declared.command.Command.{Command}
use Rattle.ps_lines.specs.declared.command.Command.TheVariants.{Modnote, Choose, Undo}
use Rattle.ps_dex.specs.declared.item.Tables.{Tables}
use Rattle.rules_config.specs.declared.settings.Settings.{Settings}
use Rattle.rules_start.specs.declared.start.Start.{Start}
use Rattle.rules_start.specs.Fits.{IsFit}
use Rattle.battle_secrecy.specs.Places.{Hidden}
use Rattle.ps_room.specs.declared.entry.Entry.{Entry}
use Rattle.ps_room.specs.Records.{Record, opened}
use Rattle.ps_room.specs.Rooms.{verdict, after, run_record}
use Rattle.ps_room.specs.Unseen.{sees_notes}
use Rattle.ps_room.proofs.AnswerLemmas.{after_refused}
use Rattle.ps_room.proofs.ChatLemmas.{IsChat, chat_opened, chat_after, choice_refused, undo_refused}
use Rattle.ps_room.proofs.UnseenLemmas.{note_unseen}
use Rattle.ps_room.specs.Stories.{story}
use Rattle.ps_laws.specs.Users.{user_of, users_from, users}
use Rattle.ps_laws.specs.Hidden.{hidden_in_both, is_previewed}
use Rattle.ps_laws.specs.Low.{Item, whole, entry_kept, items_of_round, items_of_allowed, items_of_others, items_of, is_own, low_from}
use Rattle.ps_laws.specs.Same.{AreBattlesSame, UnshownMayBeMissing}
use Rattle.ps_laws.specs.HallLow.{is_user}

-- an entry of another that leaves the record as it was
record IsIdle (conn : ℕ) (r : Record) (e : Entry) : Type 0 where
  other : (e.conn == conn) ≡ false
  kept : after r e ≡ r

of_modnote : (conn : ℕ) (r : Record) (e : Entry) (text : List ℕ) (sees : Bool) → (e.conn == conn) ≡ false → e.cmd ≡ Modnote text → verdict r e ≡ None → sees_notes conn r ≡ sees → cond sees (whole (entry_kept r e) ∷ []) [] ≡ [] → after r e ≡ r
of_modnote conn r e text true other is v sees none = absurd cc
of_modnote conn r e text false other is v sees none = (note_unseen conn r e text (nat_eq_equiv.symm conn e.conn ∙ other) is v sees).unchanged

of_allowed : (conn : ℕ) (r : Record) (e : Entry) (cmd : Command) → IsChat r → (e.conn == conn) ≡ false → e.cmd ≡ cmd → verdict r e ≡ None → items_of_allowed conn r e cmd ≡ [] → after r e ≡ r
of_allowed conn r e (Choose choice rqid) chat other is v none = absurd (let some = choice_refused r e choice rqid chat is in let wrong : None ≡ Some some.0 = sym v ∙ some.1 in cc)
of_allowed conn r e Undo chat other is v none = absurd (let some = undo_refused r e chat is in let wrong : None ≡ Some some.0 = sym v ∙ some.1 in cc)
of_allowed conn r e (Modnote text) chat other is v none = of_modnote conn r e text (sees_notes conn r) other is v refl none
of_allowed conn r e rest chat other is v none = absurd cc

of_others : (conn : ℕ) (r : Record) (e : Entry) (v : Option Why) → IsChat r → (e.conn == conn) ≡ false → verdict r e ≡ v → items_of_others conn r e v ≡ [] → after r e ≡ r
of_others conn r e (Some why) chat other v none = after_refused r e why v
of_others conn r e None chat other v none = of_allowed conn r e e.cmd chat other refl v none

idle_by : (conn : ℕ) (ids : List (List ℕ)) (r : Record) (e : Entry) (own : Bool) → IsChat r → is_own conn ids r e ≡ own → items_of conn ids r e ≡ [] → IsIdle conn r e
idle_by conn ids r e true chat own none = absurd (let some : whole (entry_kept r e) ∷ items_of_round r e ≡ [] = rw own at none in cc)
idle_by conn ids r e false chat own none =
    let other = (or_parts (e.conn == conn) (is_user ids (user_of r e)) own).0 in
    record { other = other; kept = of_others conn r e (verdict r e) chat other refl (rw own at none) }

idle : (conn : ℕ) (ids : List (List ℕ)) (r : Record) (e : Entry) → IsChat r → items_of conn ids r e ≡ [] → IsIdle conn r e
idle conn ids r e chat none = idle_by conn ids r e (is_own conn ids r e) chat refl none

chat_run : (r : Record) (es : List Entry) → IsChat r → IsChat (run_record r es)
chat_run r [] chat = chat
chat_run r (e ∷ es) chat = chat_run (after r e) es (chat_after r e chat)

same_users : (conn : ℕ) (r : Record) (before : List Entry) (e : Entry) (later : List Entry) → IsIdle conn (run_record r before) e → users_from conn r (before ++ e ∷ later) ≡ users_from conn r (before ++ later)
same_users conn r [] e later i = rw (i.other, i.kept) refl
same_users conn r (x ∷ xs) e later i = ap (λ (ids : List (List ℕ)). cond (x.conn == conn) (user_of r x ∷ []) [] ++ ids) (same_users conn (after r x) xs e later i)

same_low : (conn : ℕ) (ids : List (List ℕ)) (r : Record) (before : List Entry) (e : Entry) (later : List Entry) → items_of conn ids (run_record r before) e ≡ [] → after (run_record r before) e ≡ run_record r before → low_from conn ids r (before ++ e ∷ later) ≡ low_from conn ids r (before ++ later)
same_low conn ids r [] e later none same =
    ap (λ (is : List Item). is ++ low_from conn ids (after r e) later) none
    ∙ ap (λ (x : Record). low_from conn ids x later) same
same_low conn ids r (x ∷ xs) e later none same = ap (λ (is : List Item). items_of conn ids r x ++ is) (same_low conn ids (after r x) xs e later none same)

fits : (config : Settings) (dex : Tables) (bo : Option Start) → bo ≡ None → IfSome bo (λ s. IsFit s config dex)
fits config dex None good = tt
fits config dex (Some st) good = absurd cc

none_same : (preview : Bool) (places : Hidden) (bo : Option Start) → bo ≡ None → AreBattlesSame preview places bo bo
none_same preview places None good = tt
none_same preview places (Some st) good = absurd cc

pub unshown_may_be_missing : UnshownMayBeMissing
unshown_may_be_missing conn o before e later good none =
    let ids = users conn (story o (before ++ later)) in
    let i : IsIdle conn (run_record (opened o) before) e = idle conn ids (run_record (opened o) before) e (chat_run (opened o) before (chat_opened o good)) none in
    record {
      first = fits o.config o.dex o.battle good;
      second = fits o.config o.dex o.battle good;
      histories =
          ap (λ (x : List (List ℕ)). low_from conn x (opened o) (before ++ e ∷ later)) (same_users conn (opened o) before e later i)
          ∙ same_low conn ids (opened o) before e later none i.kept;
      openings = record { no = refl; id = refl; title = refl; config = refl; dex = refl; battle = none_same (is_previewed o.config o.battle) (hidden_in_both conn (story o (before ++ e ∷ later)) (story o (before ++ later))) o.battle good };
    }
