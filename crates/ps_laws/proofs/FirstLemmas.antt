-- Who of two players chose first.
use Rattle.std.proofs.Common.{◌≡◌, ◌⊎◌, ℕ, Bool, true, false, cond, ◌||◌, List, [], ◌∷◌, ◌++◌, Option, Some, None, append_assoc, refl, ap, ap₂, ◌∙◌, sym, inl, inr}
use Rattle.std.proofs.lemmas.Bool.{or_parts}
use Rattle.std.specs.Prelude.{◌==◌}
use Rattle.ps_base.specs.declared.why.Why.{Why}
use Rattle.ps_lines.specs.declared.command.Command.{Command}
use Rattle.ps_lines.specs.declared.command.Command.TheVariants.{Choose, Undo}
use Rattle.ps_mon.specs.declared.choice.Choice.{Choice}
use Rattle.ps_dex.specs.Figures.{figures_of}
use Rattle.battle_rounds.specs.declared.bout.Bout.{Bout}
use Rattle.battle_rounds.specs.Fights.{Fight}
use Rattle.ps_chat.specs.declared.present.Present.{Present}
use Rattle.ps_room.specs.declared.entry.Entry.{Entry}
use Rattle.ps_room.specs.Openings.{Opening, IsFitOpening}
use Rattle.ps_room.specs.Records.{Record, opened}
use Rattle.ps_room.specs.Roles.{side_of_member}
use Rattle.ps_room.specs.Rooms.{sender_of, verdict, after, run_record}
use Rattle.ps_room.specs.Stories.{story, view_of}
use Rattle.ps_room.proofs.AnswerLemmas.{after_refused}
use Rattle.ps_laws.specs.Alike.{own_fight, own_part}
use Rattle.ps_laws.specs.Users.{user_of, users_from, users}
use Rattle.ps_laws.specs.Rounds.{Round, round_of_choices, round_of}
use Rattle.ps_laws.proofs.RoundParts.{round_if_allowed}
use Rattle.ps_laws.specs.Hidden.{is_previewed, hidden_in_both}
use Rattle.ps_laws.specs.Low.{Item, whole, commit_of, entry_kept, is_own, items_of_own, items_of_others, items_of_allowed, items_of, low_from}
use Rattle.ps_laws.specs.HallLow.{is_user}
use Rattle.ps_laws.specs.Secrets.{is_choose, is_undo, AreNoChoices, IsEitherFirst, OrderMayDiffer, AreForeign, OrderIsUnseen}
use Rattle.ps_laws.proofs.PartLemmas.{side_below, is_choice, verdict_free, after_own, role_own}
use Rattle.ps_laws.proofs.ItemLemmas.{waiting_fight, commit_after}
use Rattle.ps_laws.proofs.ChoiceLemmas.{Waits, Completes, waiting_other}
use Rattle.ps_laws.proofs.StepLemmas.{round_none, round_at, completes_after, chat_choice_round}
use Rattle.ps_laws.proofs.LockLemmas.{items_by_own}
use Rattle.ps_laws.proofs.UndoneLemmas.{battle_self, does_in, waits_in_room}
use Rattle.ps_laws.proofs.RoomLemmas.{views_are_equal}

-- ---- commands

-- neither a choice nor an undo
free_choice : (cmd : Command) → (is_choose cmd || is_undo cmd) ≡ false → is_choice cmd ≡ false
free_choice (Choose choice rqid) e = absurd cc
free_choice Undo e = absurd cc
free_choice other e = refl

pub free_choose : (cmd : Command) → is_choice cmd ≡ false → is_choose cmd ≡ false
free_choose (Choose choice rqid) e = absurd cc
free_choose Undo e = refl
free_choose other e = refl

pub choose_in : (cmd : Command) → is_choose cmd ≡ true → (choice : List ℕ) × (rqid : Option ℕ) × (cmd ≡ Choose choice rqid)
choose_in (Choose choice rqid) e = (choice, rqid, refl)
choose_in other e = absurd cc

-- ---- rooms that are equal but for choices that wait on some sides

-- an entry that neither chooses nor takes back keeps them so
pub free_after : (own : ℕ → Bool) (r s : Record) (e : Entry) → is_choice e.cmd ≡ false → own_part own r ≡ own_part own s → own_part own (after r e) ≡ own_part own (after s e)
free_after own r s e free same =
    let chooses = free_choose e.cmd free in
    sym (after_own own r e chooses (verdict_free own r e free))
    ∙ ap (λ (x : Record). after x e) same
    ∙ after_own own s e chooses (verdict_free own s e free)

part_items : (conn : ℕ) (ids : List (List ℕ)) (own : ℕ → Bool) (r : Record) (e : Entry) → is_choice e.cmd ≡ false → items_of conn ids r e ≡ items_of conn ids (own_part own r) e
part_items conn ids own r e free =
    let chooses = free_choose e.cmd free in
    items_by_own conn r (own_fight own r.battle) e (is_own conn ids r e) (sym (role_own conn own r)) (sym (verdict_free own r e free))
    (ap commit_of (round_none r e chooses) ∙ sym (ap commit_of (round_none (own_part own r) e chooses)))

-- and has the same items
pub free_items : (conn : ℕ) (ids : List (List ℕ)) (own : ℕ → Bool) (r s : Record) (e : Entry) → is_choice e.cmd ≡ false → own_part own r ≡ own_part own s → items_of conn ids r e ≡ items_of conn ids s e
free_items conn ids own r s e free same =
    part_items conn ids own r e free
    ∙ ap (λ (x : Record). items_of conn ids x e) same
    ∙ sym (part_items conn ids own s e free)

-- who sends it is the same
pub part_user : (own : ℕ → Bool) (r s : Record) (e : Entry) → own_part own r ≡ own_part own s → user_of r e ≡ user_of s e
part_user own r s e same = ap (λ (x : Record). user_of x e) same

pub part_kept : (own : ℕ → Bool) (r s : Record) (e : Entry) → own_part own r ≡ own_part own s → entry_kept r e ≡ entry_kept s e
part_kept own r s e same = ap (λ (x : Record). entry_kept x e) same

pub part_own : (conn : ℕ) (ids : List (List ℕ)) (own : ℕ → Bool) (r s : Record) (e : Entry) → own_part own r ≡ own_part own s → is_own conn ids r e ≡ is_own conn ids s e
part_own conn ids own r s e same = ap (λ (x : Record). is_own conn ids x e) same

-- ---- a choice that waits

-- no side
abbrev pub bare : ℕ → Bool
bare s = false

fight_waits : (own : ℕ → Bool) (fo : Option Fight) (me : Option Present) (choice : List ℕ) (rqid : Option ℕ) → ((s : ℕ) → own s ≡ false) → own_fight own (waiting_fight fo me choice rqid) ≡ own_fight own fo
fight_waits own None me choice rqid none = refl
fight_waits own (Some f) me choice rqid none = ap (λ (b : Bout). Some (record f { bout = b })) (waiting_other own f (side_of_member f.cast me) choice rqid (side_below f.cast me) (λ s side. none s))

waits_judged : (own : ℕ → Bool) (r : Record) (e : Entry) (choice : List ℕ) (rqid : Option ℕ) (v : Option Why) → ((s : ℕ) → own s ≡ false) → e.cmd ≡ Choose choice rqid → verdict r e ≡ v → round_of r e ≡ None → own_part own (after r e) ≡ own_part own r
waits_judged own r e choice rqid (Some why) blank is v none = ap (own_part own) (after_refused r e why v)
waits_judged own r e choice rqid None blank is v none =
    ap (own_part own) (waits_in_room r e choice rqid r.battle is v none refl)
    ∙ ap (λ (fo : Option Fight). record r { battle = fo }) (fight_waits own r.battle (sender_of r e) choice rqid blank)

-- a choice that completes no round leaves the room but for what waits
pub waits_bare : (r : Record) (e : Entry) → is_choose e.cmd ≡ true → round_of r e ≡ None → own_part bare (after r e) ≡ own_part bare r
waits_bare r e chooses none = let c = choose_in e.cmd chooses in waits_judged bare r e c.0 c.1 (verdict r e) (λ s. refl) c.2 refl none

-- ---- a choice that completes a round

all_own : (fo : Option Fight) → own_fight (λ s. true) fo ≡ fo
all_own None = refl
all_own (Some f) = refl

-- what it makes of the room, by its choices
record IsRoundOf (r : Record) (e : Entry) (round : Round) : Type 0 where
  allowed : verdict r e ≡ None
  made : after r e ≡ commit_after r r.battle round.first round.second

round_made : (r : Record) (e : Entry) (choice : List ℕ) (rqid : Option ℕ) (f : Fight) (round : Round) → e.cmd ≡ Choose choice rqid → verdict r e ≡ None → r.battle ≡ Some f → round_of r e ≡ Some round → Waits f (side_of_member f.cast (sender_of r e)) choice rqid ⊎ Completes f (side_of_member f.cast (sender_of r e)) choice rqid → after r e ≡ commit_after r r.battle round.first round.second
round_made r e choice rqid f round is v b some (inl w) = absurd (let wrong : None ≡ Some round = sym (round_at r e choice rqid f is v b ∙ w.round) ∙ some in cc)
round_made r e choice rqid f round is v b some (inr c) =
    let same : Some (round_of_choices (figures_of f.cast.dex) f.bout.battle c.one c.two) ≡ Some round = sym (round_at r e choice rqid f is v b ∙ c.round) ∙ some in
    let is_it : round_of_choices (figures_of f.cast.dex) f.bout.battle c.one c.two ≡ round = cc in
    sym (ap (λ (fo : Option Fight). record (after r e) { battle = fo }) (all_own (after r e).battle))
    ∙ completes_after (λ s. true) r e choice rqid f is v b c
    ∙ ap (λ (x : Round). commit_after r (Some f) x.first x.second) is_it
    ∙ ap (λ (fo : Option Fight). commit_after r fo round.first round.second) (sym b)

round_judged : (r : Record) (e : Entry) (choice : List ℕ) (rqid : Option ℕ) (fo : Option Fight) (round : Round) → e.cmd ≡ Choose choice rqid → verdict r e ≡ None → r.battle ≡ fo → round_of r e ≡ Some round → after r e ≡ commit_after r r.battle round.first round.second
round_judged r e choice rqid None round is v b some = absurd (let wrong : None ≡ Some round = sym (chat_choice_round r e choice rqid is v b) ∙ some in cc)
round_judged r e choice rqid (Some f) round is v b some = round_made r e choice rqid f round is v b some (does_in r e choice rqid f is v b)

round_by : (r : Record) (e : Entry) (v : Option Why) (round : Round) → is_choose e.cmd ≡ true → verdict r e ≡ v → round_of r e ≡ Some round → IsRoundOf r e round
round_by r e (Some why) round chooses v some = absurd (let wrong : None ≡ Some round = sym (ap (λ (x : Option Why). round_if_allowed x r e) v) ∙ some in cc)
round_by r e None round chooses v some = let c = choose_in e.cmd chooses in record { allowed = v; made = round_judged r e c.0 c.1 r.battle round c.2 v refl some }

-- it doesn't depend on what waits
commit_part : (own : ℕ → Bool) (r : Record) (fo : Option Fight) (one two : Choice) → r.battle ≡ fo → commit_after (own_part own r) (own_fight own fo) one two ≡ commit_after r fo one two
commit_part own r None one two b = ap (λ (fo : Option Fight). record r { battle = own_fight own fo }) b ∙ ap (λ (fo : Option Fight). record r { battle = fo }) (sym b)
commit_part own r (Some f) one two b = refl

-- so from rooms that are equal but for what waits one round leads to one room
round_after : (own : ℕ → Bool) (r s : Record) (e f : Entry) (round : Round) → own_part own r ≡ own_part own s → IsRoundOf r e round → IsRoundOf s f round → after r e ≡ after s f
round_after own r s e f round same one two =
    one.made
    ∙ sym (commit_part own r r.battle round.first round.second refl)
    ∙ ap (λ (x : Record). commit_after x x.battle round.first round.second) same
    ∙ commit_part own s s.battle round.first round.second refl
    ∙ sym two.made

-- ---- histories

pub low_more : (conn : ℕ) (ids : List (List ℕ)) (r : Record) (es fs : List Entry) → low_from conn ids r (es ++ fs) ≡ low_from conn ids r es ++ low_from conn ids (run_record r es) fs
low_more conn ids r [] fs = refl
low_more conn ids r (e ∷ es) fs = ap (λ (is : List Item). items_of conn ids r e ++ is) (low_more conn ids (after r e) es fs) ∙ sym (append_assoc (items_of conn ids r e) (low_from conn ids (after r e) es) (low_from conn ids (run_record r (e ∷ es)) fs))

abbrev pub user_if : ℕ → Record → Entry → List (List ℕ)
user_if conn r e = cond (e.conn == conn) (user_of r e ∷ []) []

pub users_more : (conn : ℕ) (r : Record) (es fs : List Entry) → users_from conn r (es ++ fs) ≡ users_from conn r es ++ users_from conn (run_record r es) fs
users_more conn r [] fs = refl
users_more conn r (e ∷ es) fs = ap (λ (ids : List (List ℕ)). user_if conn r e ++ ids) (users_more conn (after r e) es fs) ∙ sym (append_assoc (user_if conn r e) (users_from conn (after r e) es) (users_from conn (run_record r (e ∷ es)) fs))

-- entries between which nobody chooses
record AreFreeSame (conn : ℕ) (ids : List (List ℕ)) (r s : Record) (es : List Entry) : Type 0 where
  items : low_from conn ids r es ≡ low_from conn ids s es
  users : users_from conn r es ≡ users_from conn s es
  parts : own_part bare (run_record r es) ≡ own_part bare (run_record s es)

free_same : (conn : ℕ) (ids : List (List ℕ)) (r s : Record) (es : List Entry) → AreNoChoices es → own_part bare r ≡ own_part bare s → AreFreeSame conn ids r s es
free_same conn ids r s [] free same = record { items = refl; users = refl; parts = same }
free_same conn ids r s (e ∷ es) free same =
    let none = free_choice e.cmd free.0 in
    let more = free_same conn ids (after r e) (after s e) es free.1 (free_after bare r s e none same) in
    record {
      items = ap₂ (λ (xs ys : List Item). xs ++ ys) (free_items conn ids bare r s e none same) more.items;
      users = ap₂ (λ (id : List ℕ) (ids : List (List ℕ)). cond (e.conn == conn) (id ∷ []) [] ++ ids) (part_user bare r s e same) more.users;
      parts = more.parts;
    }

-- what an entry of another has: no item, or its round
pub other_items : (conn : ℕ) (ids : List (List ℕ)) (r : Record) (e : Entry) → is_choose e.cmd ≡ true → is_own conn ids r e ≡ false → items_of conn ids r e ≡ commit_of (round_of r e)
other_items conn ids r e chooses other =
    let c = choose_in e.cmd chooses in
    ap (λ (own : Bool). cond own (items_of_own r e) (items_of_others conn r e (verdict r e))) other ∙ by_verdict c.0 c.1 (verdict r e) c.2 refl where
      by_verdict : (choice : List ℕ) (rqid : Option ℕ) (v : Option Why) → e.cmd ≡ Choose choice rqid → verdict r e ≡ v → items_of_others conn r e v ≡ commit_of (round_of r e)
      by_verdict choice rqid (Some why) is v = sym (ap (λ (x : Option Why). commit_of (round_if_allowed x r e)) v)
      by_verdict choice rqid None is v = ap (items_of_allowed conn r e) is

pub away : (conn : ℕ) (ids : List (List ℕ)) (r : Record) (e : Entry) → is_own conn ids r e ≡ false → (e.conn == conn) ≡ false
away conn ids r e other = (or_parts (e.conn == conn) (is_user ids (user_of r e)) other).0

pub no_user : (conn : ℕ) (r : Record) (e : Entry) → (e.conn == conn) ≡ false → user_if conn r e ≡ []
no_user conn r e out = ap (λ (b : Bool). cond b (user_of r e ∷ []) []) out

-- ---- the law, from stories that differ in what follows a record

-- stories of one opening with equal items and users are the same
pub stories_same : (conn : ℕ) (o : Opening) (es fs : List Entry) → IsFitOpening o → users conn (story o es) ≡ users conn (story o fs) → low_from conn (users conn (story o es)) (opened o) es ≡ low_from conn (users conn (story o es)) (opened o) fs → view_of conn (story o es) ≡ view_of conn (story o fs)
stories_same conn o es fs fit same items = views_are_equal conn (story o es) (story o fs) (record {
  first = fit;
  second = fit;
  histories = items ∙ ap (λ (ids : List (List ℕ)). low_from conn ids (opened o) fs) same;
  openings = record { no = refl; id = refl; title = refl; config = refl; dex = refl; battle = battle_self (is_previewed o.config o.battle) (hidden_in_both conn (story o es) (story o fs)) o.battle };
})

-- and so they are where they go on equally behind the same entries
pub later_same : (conn : ℕ) (o : Opening) (before es fs : List Entry) → IsFitOpening o → users_from conn (run_record (opened o) before) es ≡ users_from conn (run_record (opened o) before) fs
    → low_from conn (users conn (story o (before ++ es))) (run_record (opened o) before) es ≡ low_from conn (users conn (story o (before ++ es))) (run_record (opened o) before) fs
    → view_of conn (story o (before ++ es)) ≡ view_of conn (story o (before ++ fs))
later_same conn o before es fs fit same items =
    let ids = users conn (story o (before ++ es)) in
    stories_same conn o (before ++ es) (before ++ fs) fit
    (users_more conn (opened o) before es ∙ ap (λ (more : List (List ℕ)). users_from conn (opened o) before ++ more) same ∙ sym (users_more conn (opened o) before fs))
    (low_more conn ids (opened o) before es ∙ ap (λ (more : List Item). low_from conn ids (opened o) before ++ more) items ∙ sym (low_more conn ids (opened o) before fs))

-- ---- who looks on

module _ (conn : ℕ) (ids : List (List ℕ)) (r : Record) (one : Entry) (middle : List Entry) (two : Entry) (later : List Entry) (round : Round) (w : IsEitherFirst r one middle two round) (foreign : AreForeign conn ids r one middle two) where
  between : AreFreeSame conn ids (after r one) (after r two) middle
  between = free_same conn ids (after r one) (after r two) middle w.between (waits_bare r one w.first w.waits ∙ sym (waits_bare r two w.second w.waits_too))

  abbrev late : Record
  late = run_record (after r one) middle

  abbrev late_too : Record
  late_too = run_record (after r two) middle

  end_same : after late two ≡ after late_too one
  end_same = round_after bare late late_too two one round between.parts (round_by late two (verdict late two) round w.second refl w.completes) (round_by late_too one (verdict late_too one) round w.first refl w.completes_too)

  end_items : items_of conn ids late two ≡ items_of conn ids late_too one
  end_items =
      other_items conn ids late two w.second foreign.second_late ∙ ap commit_of (w.completes ∙ sym w.completes_too)
      ∙ sym (other_items conn ids late_too one w.first foreign.first_late)

  unseen_items : low_from conn ids r (one ∷ (middle ++ two ∷ later)) ≡ low_from conn ids r (two ∷ (middle ++ one ∷ later))
  unseen_items =
      ap (λ (is : List Item). is ++ low_from conn ids (after r one) (middle ++ two ∷ later)) (other_items conn ids r one w.first foreign.first ∙ ap commit_of w.waits)
      ∙ low_more conn ids (after r one) middle (two ∷ later)
      ∙ ap₂ (λ (xs ys : List Item). xs ++ ys) between.items
      (ap₂ (λ (xs ys : List Item). xs ++ ys) end_items (ap (λ (x : Record). low_from conn ids x later) end_same))
      ∙ sym (low_more conn ids (after r two) middle (one ∷ later))
      ∙ sym (ap (λ (is : List Item). is ++ low_from conn ids (after r two) (middle ++ one ∷ later)) (other_items conn ids r two w.second foreign.second ∙ ap commit_of w.waits_too))

  unseen_users : users_from conn r (one ∷ (middle ++ two ∷ later)) ≡ users_from conn r (two ∷ (middle ++ one ∷ later))
  unseen_users =
      let out = away conn ids r one foreign.first in
      let out_too = away conn ids r two foreign.second in
      ap (λ (us : List (List ℕ)). us ++ users_from conn (after r one) (middle ++ two ∷ later)) (no_user conn r one out)
      ∙ users_more conn (after r one) middle (two ∷ later)
      ∙ ap₂ (λ (xs ys : List (List ℕ)). xs ++ ys) between.users
      (ap₂ (λ (xs ys : List (List ℕ)). xs ++ ys) (no_user conn late two out_too ∙ sym (no_user conn late_too one out)) (ap (λ (x : Record). users_from conn x later) end_same))
      ∙ sym (users_more conn (after r two) middle (one ∷ later))
      ∙ sym (ap (λ (us : List (List ℕ)). us ++ users_from conn (after r two) (middle ++ one ∷ later)) (no_user conn r two out_too))

pub order_is_unseen : (conn : ℕ) → OrderIsUnseen conn
order_is_unseen conn o before one middle two later round fit w foreign =
    let r = run_record (opened o) before in
    let ids = users conn (story o (before ++ one ∷ (middle ++ two ∷ later))) in
    later_same conn o before (one ∷ (middle ++ two ∷ later)) (two ∷ (middle ++ one ∷ later)) fit (unseen_users conn ids r one middle two later round w foreign) (unseen_items conn ids r one middle two later round w foreign)

-- ---- a player

module _ (conn : ℕ) (ids : List (List ℕ)) (r : Record) (one two : Entry) (later : List Entry) (round : Round) (w : IsEitherFirst r one [] two round) (other : is_own conn ids r two ≡ false) where
  first_bare : own_part bare (after r one) ≡ own_part bare r
  first_bare = waits_bare r one w.first w.waits

  second_bare : own_part bare (after r two) ≡ own_part bare r
  second_bare = waits_bare r two w.second w.waits_too

  both_after : after (after r one) two ≡ after (after r two) one
  both_after = round_after bare (after r one) (after r two) two one round (first_bare ∙ sym second_bare)
      (round_by (after r one) two (verdict (after r one) two) round w.second refl w.completes) (round_by (after r two) one (verdict (after r two) one) round w.first refl w.completes_too)

  -- the items of the first, wherever it stands, and of the round
  first_items : (own : Bool) → is_own conn ids r one ≡ own → items_of conn ids r one ++ commit_of (Some round) ≡ items_of conn ids (after r two) one
  first_items true is =
      ap (λ (b : Bool). cond b (items_of_own r one) (items_of_others conn r one (verdict r one)) ++ commit_of (Some round)) is
      ∙ ap (λ (o : Option Round). whole (entry_kept r one) ∷ commit_of o ++ commit_of (Some round)) w.waits
      ∙ ap (λ (e : Entry). whole e ∷ commit_of (Some round)) (sym (part_kept bare (after r two) r one second_bare))
      ∙ sym (ap (λ (b : Bool). cond b (items_of_own (after r two) one) (items_of_others conn (after r two) one (verdict (after r two) one))) (part_own conn ids bare (after r two) r one second_bare ∙ is)
      ∙ ap (λ (o : Option Round). whole (entry_kept (after r two) one) ∷ commit_of o) w.completes_too)
  first_items false is =
      ap (λ (is : List Item). is ++ commit_of (Some round)) (other_items conn ids r one w.first is ∙ ap commit_of w.waits)
      ∙ sym (other_items conn ids (after r two) one w.first (part_own conn ids bare (after r two) r one second_bare ∙ is) ∙ ap commit_of w.completes_too)

  differ_items : low_from conn ids r (one ∷ two ∷ later) ≡ low_from conn ids r (two ∷ one ∷ later)
  differ_items =
      ap (λ (is : List Item). items_of conn ids r one ++ (is ++ low_from conn ids (after (after r one) two) later))
      (other_items conn ids (after r one) two w.second (part_own conn ids bare (after r one) r two first_bare ∙ other) ∙ ap commit_of w.completes)
      ∙ sym (append_assoc (items_of conn ids r one) (commit_of (Some round)) (low_from conn ids (after (after r one) two) later))
      ∙ ap₂ (λ (xs ys : List Item). xs ++ ys) (first_items (is_own conn ids r one) refl) (ap (λ (x : Record). low_from conn ids x later) both_after)
      ∙ sym (ap (λ (is : List Item). is ++ (items_of conn ids (after r two) one ++ low_from conn ids (after (after r two) one) later)) (other_items conn ids r two w.second other ∙ ap commit_of w.waits_too))

  differ_users : users_from conn r (one ∷ two ∷ later) ≡ users_from conn r (two ∷ one ∷ later)
  differ_users =
      let out = away conn ids r two other in
      ap (λ (us : List (List ℕ)). user_if conn r one ++ (us ++ users_from conn (after (after r one) two) later)) (no_user conn (after r one) two out)
      ∙ ap₂ (λ (id : List ℕ) (us : List (List ℕ)). cond (one.conn == conn) (id ∷ []) [] ++ us) (sym (part_user bare (after r two) r one second_bare)) (ap (λ (x : Record). users_from conn x later) both_after)
      ∙ sym (ap (λ (us : List (List ℕ)). us ++ (user_if conn (after r two) one ++ users_from conn (after (after r two) one) later)) (no_user conn r two out))

pub order_may_differ : (conn : ℕ) → OrderMayDiffer conn
order_may_differ conn o before one two later round fit w other =
    let r = run_record (opened o) before in
    let ids = users conn (story o (before ++ one ∷ two ∷ later)) in
    later_same conn o before (one ∷ two ∷ later) (two ∷ one ∷ later) fit (differ_users conn ids r one two later round w other) (differ_items conn ids r one two later round w other)
