-- What a player asks for stands for the same choice in two battles that differ in places that are hidden, where it asks by name for no move
-- of such a slot.
use Rattle.std.proofs.Common.{◌≡◌, ◌⊎◌, ℕ, ◌<◌, ◌-◌, Bool, true, false, cond, ◌&&◌, ◌||◌, List, take, drop, position, Option, Some, None, Result, Err, is_some, not, nat_lt, get_or, refl, ap, ◌∙◌, sym, subst, inl, inr, arith}
use Rattle.std.proofs.lemmas.Bool.Decides.{leb_tells, nat_tests}
use Rattle.std.specs.Prelude.{◌==◌, ◌+◌, codes, option_map}
use Rattle.std.specs.Str.{bytes_eq}
use Rattle.ps_base.specs.Ids.{id_of}
use Rattle.ps_base.specs.declared.why.Why.{Why}
use Rattle.ps_base.specs.declared.why.Why.TheVariants as whys
use Rattle.ps_mon.specs.declared.choice.Choice.{Choice}
use Rattle.ps_mon.specs.declared.choice.Choice.TheVariants as choices
use Rattle.ps_mon.specs.declared.choice.ChoiceFault.{ChoiceFault}
use Rattle.ps_mon.specs.declared.choice.ChoiceFault.TheVariants as faults
use Rattle.ps_mon.specs.declared.record.Battle.{Battle}
use Rattle.ps_mon.specs.declared.record.Phase.{Phase}
use Rattle.ps_mon.specs.declared.record.Phase.TheVariants as phases
use Rattle.ps_mon.specs.declared.record.SideState.{SideState}
use Rattle.ps_mon.specs.declared.record.CopiedSlots.{CopiedSlots}
use Rattle.ps_mon.specs.declared.record.Volatiles.{Volatiles}
use Rattle.ps_mon.specs.declared.team.Member.{Member}
use Rattle.ps_mon.specs.declared.team.MoveSlot.{MoveSlot}
use Rattle.ps_mon.specs.Reading.{side_of, active_index, active_of, member_of, member_at, slot_of}
use Rattle.ps_mon.specs.Slots.{slot_count_now, slot_now, slot_in_force, is_disabled, is_ready, is_usable, has_usable}
use Rattle.ps_mon.specs.Choices.{is_asked, is_locked, wrong_for_act, wrong_phase, locked, no_such_move, no_pp, disabled, no_such_member, already_out, fainted, unless, fault_of}
use Rattle.ps_mon.specs.Orders.{is_order}
use Rattle.ps_dex.specs.declared.item.Tables.{Tables}
use Rattle.ps_dex.specs.Lookups.{move_of}
use Rattle.ps_choice.specs.Orders.{whole, nobody, order_of}
use Rattle.ps_choice.specs.Resolved.{first_of, lowest_usable, has_move_at, slot_with, act_at, first_act, bench, first_standing, numbered, is_locked_name, going_on, slot_of_move, is_struggle, named, judged, resolved}
use Rattle.ps_choice.specs.Wants.{Want, Slot, Named, Position, Team, Default, want_in}
use Rattle.battle_rounds.specs.declared.bout.Bout.{Bout}
use Rattle.battle_rounds.specs.Bouts.{waiting}
use Rattle.battle_rounds.specs.Refusals.{with_why, is_stale, choice_in, chosen}
use Rattle.battle_secrecy.specs.Places.{Hidden}
use Rattle.battle_secrecy.specs.Alike.{AreSlotsAlike, AreSidesAlike, IsUnsent, AreActiveShown, AreBattlesAlike}
use Rattle.battle_secrecy.proofs.OrderLemmas.{sides_sent}
use Rattle.battle_secrecy.proofs.SideLemmas.{stands, stands_spares, member_agrees, index_alike, active_alike, count_alike, pp_alike, ready_at_alike}
use Rattle.ps_laws.specs.Alike.{AreBoutsAlike}
use Rattle.ps_laws.proofs.TwinSideLemmas.{waiting_same}
use Rattle.ps_laws.specs.Secrets.{named_in}

-- ---- members

-- a member stands in both or in none
stands_same : (member : ℕ → Bool) (slot : ℕ → ℕ → Bool) (move : ℕ → ℕ → ℕ) (a b : SideState) (k : ℕ) → AreSidesAlike member slot move a b → nat_lt 0 (member_of a k).hp ≡ nat_lt 0 (member_of b k).hp
stands_same member slot move a b k w = elim (leb_tells a.count k) [
  | inl past ↦ ap (λ (m : Member). nat_lt 0 m.hp) (w.rest k past.1)
  | inr inside ↦ member_agrees stands stands_spares _ _ _ _ _ (w.members k inside.1)
]

none_left : (x y : ℕ) → nat_lt 0 x ≡ nat_lt 0 y → (x == 0) ≡ (y == 0)
none_left x y e = grind (arith, nat_tests)

-- ---- the slots of alike sides

usable_same : (member : ℕ → Bool) (slot : ℕ → ℕ → Bool) (move : ℕ → ℕ → ℕ) (a b : SideState) (j : ℕ) → AreSidesAlike member slot move a b → is_usable a j ≡ is_usable b j
unfolding is_usable
usable_same member slot move a b j w =
    ap (λ (x : Bool). x && not (is_disabled a.vol.disabled j)) (ready_at_alike member slot move a b j w)
    ∙ ap (λ (v : Volatiles). is_ready b j && not (is_disabled v.disabled j)) w.vol

has_usable_same : (member : ℕ → Bool) (slot : ℕ → ℕ → Bool) (move : ℕ → ℕ → ℕ) (a b : SideState) → AreSidesAlike member slot move a b → has_usable a ≡ has_usable b
unfolding has_usable
has_usable_same member slot move a b w =
    ap (λ (x : Bool). x || is_usable a 1 || is_usable a 2 || is_usable a 3) (usable_same member slot move a b 0 w)
    ∙ ap (λ (x : Bool). is_usable b 0 || x || is_usable a 2 || is_usable a 3) (usable_same member slot move a b 1 w)
    ∙ ap (λ (x : Bool). is_usable b 0 || is_usable b 1 || x || is_usable a 3) (usable_same member slot move a b 2 w)
    ∙ ap (λ (x : Bool). is_usable b 0 || is_usable b 1 || is_usable b 2 || x) (usable_same member slot move a b 3 w)

lowest_same : (member : ℕ → Bool) (slot : ℕ → ℕ → Bool) (move : ℕ → ℕ → ℕ) (a b : SideState) → AreSidesAlike member slot move a b → lowest_usable a ≡ lowest_usable b
unfolding lowest_usable
lowest_same member slot move a b w =
    ap (λ (x : Bool). first_of x (is_usable a 1) (is_usable a 2) (is_usable a 3)) (usable_same member slot move a b 0 w)
    ∙ ap (λ (x : Bool). first_of (is_usable b 0) x (is_usable a 2) (is_usable a 3)) (usable_same member slot move a b 1 w)
    ∙ ap (λ (x : Bool). first_of (is_usable b 0) (is_usable b 1) x (is_usable a 3)) (usable_same member slot move a b 2 w)
    ∙ ap (λ (x : Bool). first_of (is_usable b 0) (is_usable b 1) (is_usable b 2) x) (usable_same member slot move a b 3 w)

locked_same : (a b : SideState) → a.vol ≡ b.vol → is_locked a ≡ is_locked b
locked_same a b e = ap (λ (v : Volatiles). is_some v.lock || v.recharge) e

-- ---- a slot by its move

-- the two moves of a slot that is hidden are others than this one
abbrev IsNeither : ℕ → ℕ → ℕ → Type 0
IsNeither mv one two = ((one == mv) ≡ false) × ((two == mv) ≡ false)

move_same : (hides hides_too : Bool) (one two mv : ℕ) (x y : MoveSlot) → hides ≡ hides_too → AreSlotsAlike hides one x y → AreSlotsAlike hides_too two y x → (hides ≡ true → IsNeither mv one two) → (x.mv == mv) ≡ (y.mv == mv)
move_same true true one two mv x y e w v past = ap (λ (z : ℕ). z == mv) w.0 ∙ (past refl).0 ∙ sym (past refl).1 ∙ sym (ap (λ (z : ℕ). z == mv) v.0)
move_same true false one two mv x y e w v past = absurd cc
move_same false hides_too one two mv x y e w v past = ap (λ (z : MoveSlot). z.mv == mv) w

in_force_same : (copied : Option CopiedSlots) (mimic : Option ℕ) (m n : Member) (j mv : ℕ) → ((slot_of m j).mv == mv) ≡ ((slot_of n j).mv == mv) → ((slot_in_force copied mimic m j).mv == mv) ≡ ((slot_in_force copied mimic n j).mv == mv)
in_force_same None None m n j mv e = e
in_force_same None (Some other) m n j mv e = refl
in_force_same (Some copied) mimic m n j mv e = refl

-- Sides that are alike both ways: the second way says what the hidden slots of the second side have.
record AreTwins (P Q : Hidden) (s : ℕ) (a b : SideState) : Type 0 where
  one : AreSidesAlike (P.member s) (P.slot s) (P.move s) a b
  two : AreSidesAlike (Q.member s) (Q.slot s) (Q.move s) b a
  slots : (k j : ℕ) → P.slot s k j ≡ Q.slot s k j

-- none of their hidden slots has the move
abbrev IsPast : Hidden → Hidden → ℕ → ℕ → Type 0
IsPast P Q s mv = (k j : ℕ) → P.slot s k j ≡ true → IsNeither mv (P.move s k j) (Q.move s k j)

own_move_same : (P Q : Hidden) (s : ℕ) (a b : SideState) (j mv : ℕ) → AreTwins P Q s a b → IsPast P Q s mv → ((slot_of (active_of a) j).mv == mv) ≡ ((slot_of (active_of b) j).mv == mv)
own_move_same P Q s a b j mv t past =
    let w = active_alike (P.member s) (P.slot s) (P.move s) a b t.one in
    let v = active_alike (Q.member s) (Q.slot s) (Q.move s) b a t.two in
    let k = active_index a in
    let index : active_index b ≡ k = index_alike (Q.member s) (Q.slot s) (Q.move s) b a t.two in
    let back : AreSlotsAlike (Q.slot s k j) (Q.move s k j) (slot_of (active_of b) j) (slot_of (active_of a) j) =
    subst (λ (i : ℕ). AreSlotsAlike (Q.slot s i j) (Q.move s i j) (slot_of (active_of b) j) (slot_of (active_of a) j)) index (v.slots j) in
    move_same (P.slot s k j) (Q.slot s k j) (P.move s k j) (Q.move s k j) mv (slot_of (active_of a) j) (slot_of (active_of b) j) (t.slots k j) (w.slots j) back (past k j)

now_move_same : (P Q : Hidden) (s : ℕ) (a b : SideState) (j mv : ℕ) → AreTwins P Q s a b → IsPast P Q s mv → ((slot_now a j).mv == mv) ≡ ((slot_now b j).mv == mv)
unfolding slot_now
now_move_same P Q s a b j mv t past =
    in_force_same a.vol.slots.copied (get_or a.vol.slots.mimic j None) (active_of a) (active_of b) j mv (own_move_same P Q s a b j mv t past)
    ∙ ap (λ (v : Volatiles). (slot_in_force v.slots.copied (get_or v.slots.mimic j None) (active_of b) j).mv == mv) t.one.vol

has_move_same : (P Q : Hidden) (s : ℕ) (a b : SideState) (mv j : ℕ) → AreTwins P Q s a b → IsPast P Q s mv → has_move_at a mv j ≡ has_move_at b mv j
unfolding has_move_at
has_move_same P Q s a b mv j t past =
    ap (λ (n : ℕ). nat_lt j n && (slot_now a j).mv == mv) (count_alike (P.member s) (P.slot s) (P.move s) a b t.one)
    ∙ ap (λ (x : Bool). nat_lt j (slot_count_now b) && x) (now_move_same P Q s a b j mv t past)

slot_with_same : (P Q : Hidden) (s : ℕ) (a b : SideState) (mv : ℕ) → AreTwins P Q s a b → IsPast P Q s mv → slot_with a mv ≡ slot_with b mv
unfolding slot_with
slot_with_same P Q s a b mv t past =
    ap (λ (x : Bool). first_of x (has_move_at a mv 1) (has_move_at a mv 2) (has_move_at a mv 3)) (has_move_same P Q s a b mv 0 t past)
    ∙ ap (λ (x : Bool). first_of (has_move_at b mv 0) x (has_move_at a mv 2) (has_move_at a mv 3)) (has_move_same P Q s a b mv 1 t past)
    ∙ ap (λ (x : Bool). first_of (has_move_at b mv 0) (has_move_at b mv 1) x (has_move_at a mv 3)) (has_move_same P Q s a b mv 2 t past)
    ∙ ap (λ (x : Bool). first_of (has_move_at b mv 0) (has_move_at b mv 1) (has_move_at b mv 2) x) (has_move_same P Q s a b mv 3 t past)

-- ---- what is meant

-- the wish asks by name for no move of a hidden slot
abbrev pub AsksPast : Hidden → Hidden → ℕ → Tables → Option Want → Type 0
AsksPast P Q s dex want = (mv : ℕ) → named_in dex want ≡ Some mv → IsPast P Q s mv

move_meant_same : (P Q : Hidden) (s : ℕ) (a b : SideState) (mv : Option ℕ) → AreTwins P Q s a b → ((n : ℕ) → mv ≡ Some n → IsPast P Q s n) → slot_of_move a mv ≡ slot_of_move b mv
move_meant_same P Q s a b None t past = refl
move_meant_same P Q s a b (Some mv) t past = ap (option_map choices.Move) (slot_with_same P Q s a b mv t (past mv refl))

lock_name_same : (dex : Tables) (a b : SideState) (name : List ℕ) → a.vol ≡ b.vol → is_locked_name dex a name ≡ is_locked_name dex b name
unfolding is_locked_name
lock_name_same dex a b name e = ap (λ (v : Volatiles). is_locked_name dex (record b { vol = v }) name) e

abbrev named_from : Bool → Bool → Bool → Option Choice → Option Choice
named_from held by_name struggles other = cond held (going_on by_name) (cond struggles (Some choices.Struggle) other)

named_is : (dex : Tables) (side : SideState) (name : List ℕ) → named dex side name ≡ named_from (is_locked side) (is_locked_name dex side name) (bytes_eq (id_of name) (codes "struggle") && not (has_usable side)) (slot_of_move side (move_of (id_of name) dex))
unfolding named is_struggle
named_is dex side name = refl

named_same : (P Q : Hidden) (s : ℕ) (a b : SideState) (dex : Tables) (name : List ℕ) → AreTwins P Q s a b → AsksPast P Q s dex (Some (Named name)) → named dex a name ≡ named dex b name
named_same P Q s a b dex name t past =
    let struggle = bytes_eq (id_of name) (codes "struggle") in
    let mv = move_of (id_of name) dex in
    named_is dex a name
    ∙ ap (λ (x : Bool). named_from x (is_locked_name dex a name) (struggle && not (has_usable a)) (slot_of_move a mv)) (locked_same a b t.one.vol)
    ∙ ap (λ (x : Bool). named_from (is_locked b) x (struggle && not (has_usable a)) (slot_of_move a mv)) (lock_name_same dex a b name t.one.vol)
    ∙ ap (λ (x : Bool). named_from (is_locked b) (is_locked_name dex b name) (struggle && not x) (slot_of_move a mv)) (has_usable_same (P.member s) (P.slot s) (P.move s) a b t.one)
    ∙ ap (named_from (is_locked b) (is_locked_name dex b name) (struggle && not (has_usable b))) (move_meant_same P Q s a b mv t past)
    ∙ sym (named_is dex b name)

abbrev numbered_from : ℕ → Bool → Bool → Choice
numbered_from n held usable = cond (n == 1 && held) choices.Continue (cond (n == 1 && not usable) choices.Struggle (choices.Move n))

numbered_is : (side : SideState) (n : ℕ) → numbered side n ≡ numbered_from n (is_locked side) (has_usable side)
unfolding numbered
numbered_is side n = refl

numbered_same : (P Q : Hidden) (s : ℕ) (a b : SideState) (n : ℕ) → AreTwins P Q s a b → numbered a n ≡ numbered b n
numbered_same P Q s a b n t =
    numbered_is a n
    ∙ ap (λ (x : Bool). numbered_from n x (has_usable a)) (locked_same a b t.one.vol)
    ∙ ap (numbered_from n (is_locked b)) (has_usable_same (P.member s) (P.slot s) (P.move s) a b t.one)
    ∙ sym (numbered_is b n)

abbrev act_from : Bool → Option ℕ → Choice
act_from held lowest = cond held choices.Continue (act_at lowest)

act_is : (side : SideState) → first_act side ≡ act_from (is_locked side) (lowest_usable side)
unfolding first_act
act_is side = refl

act_same : (P Q : Hidden) (s : ℕ) (a b : SideState) → AreTwins P Q s a b → first_act a ≡ first_act b
act_same P Q s a b t =
    act_is a
    ∙ ap (λ (x : Bool). act_from x (lowest_usable a)) (locked_same a b t.one.vol)
    ∙ ap (act_from (is_locked b)) (lowest_same (P.member s) (P.slot s) (P.move s) a b t.one)
    ∙ sym (act_is b)

standing_same : (P Q : Hidden) (s : ℕ) (a b : SideState) → AreTwins P Q s a b → first_standing a ≡ first_standing b
unfolding first_standing
standing_same P Q s a b t =
    let stands_at : ℕ → SideState → Bool = λ k side. nat_lt 0 (member_of side k).hp in
    ap (λ (test : ℕ → Bool). position test (bench a)) (λ i k. stands_same (P.member s) (P.slot s) (P.move s) a b k t.one i)
    ∙ ap (λ (n : ℕ). position (λ k. stands_at k b) (drop 1 (take n a.order))) t.one.count
    ∙ ap (λ (order : List ℕ). position (λ k. stands_at k b) (drop 1 (take b.count order))) t.one.order

-- ---- what is meant, and its faults, once members are sent out

abbrev IsSent : Phase → Type 0
IsSent phases.Turn = Unit {0}
IsSent (phases.Replace p1 p2) = Unit {0}
IsSent other = ⊥

locked_choice_same : (phase : Phase) (a b : SideState) (choice : Choice) → IsSent phase → a.vol ≡ b.vol → locked phase a choice ≡ locked phase b choice
locked_choice_same phases.Turn a b choices.Continue sent e = ap not (locked_same a b e)
locked_choice_same phases.Turn a b (choices.Move n) sent e = locked_same a b e
locked_choice_same phases.Turn a b choices.Struggle sent e = locked_same a b e
locked_choice_same phases.Turn a b (choices.Switch p) sent e = locked_same a b e
locked_choice_same phases.Turn a b choices.Pass sent e = locked_same a b e
locked_choice_same phases.Turn a b (choices.Team numbers) sent e = locked_same a b e
locked_choice_same (phases.Replace p1 p2) a b choice sent e = refl
locked_choice_same phases.Preview a b choice sent e = absurd sent
locked_choice_same (phases.Won side) a b choice sent e = absurd sent
locked_choice_same phases.Tied a b choice sent e = absurd sent

such_move_same : (P Q : Hidden) (s : ℕ) (a b : SideState) (choice : Choice) → AreTwins P Q s a b → no_such_move a choice ≡ no_such_move b choice
such_move_same P Q s a b (choices.Move n) t = ap (λ (count : ℕ). n == 0 || nat_lt count n) (count_alike (P.member s) (P.slot s) (P.move s) a b t.one)
such_move_same P Q s a b choices.Struggle t = has_usable_same (P.member s) (P.slot s) (P.move s) a b t.one
such_move_same P Q s a b choices.Continue t = refl
such_move_same P Q s a b (choices.Switch p) t = refl
such_move_same P Q s a b choices.Pass t = refl
such_move_same P Q s a b (choices.Team numbers) t = refl

pp_same : (P Q : Hidden) (s : ℕ) (a b : SideState) (choice : Choice) → AreTwins P Q s a b → no_pp a choice ≡ no_pp b choice
pp_same P Q s a b (choices.Move n) t = none_left (slot_now a (n - 1)).pp (slot_now b (n - 1)).pp (pp_alike (P.member s) (P.slot s) (P.move s) a b (n - 1) t.one)
pp_same P Q s a b choices.Struggle t = refl
pp_same P Q s a b choices.Continue t = refl
pp_same P Q s a b (choices.Switch p) t = refl
pp_same P Q s a b choices.Pass t = refl
pp_same P Q s a b (choices.Team numbers) t = refl

disabled_same : (a b : SideState) (choice : Choice) → a.vol ≡ b.vol → disabled a choice ≡ disabled b choice
disabled_same a b (choices.Move n) e = ap (λ (v : Volatiles). is_disabled v.disabled (n - 1)) e
disabled_same a b choices.Struggle e = refl
disabled_same a b choices.Continue e = refl
disabled_same a b (choices.Switch p) e = refl
disabled_same a b choices.Pass e = refl
disabled_same a b (choices.Team numbers) e = refl

such_member_same : (a b : SideState) (choice : Choice) → a.count ≡ b.count → no_such_member a choice ≡ no_such_member b choice
such_member_same a b (choices.Switch p) e = ap (λ (n : ℕ). p == 0 || nat_lt n p) e
such_member_same a b (choices.Team numbers) e = ap (λ (n : ℕ). not (is_order n numbers)) e
such_member_same a b (choices.Move n) e = refl
such_member_same a b choices.Struggle e = refl
such_member_same a b choices.Continue e = refl
such_member_same a b choices.Pass e = refl

fainted_same : (P Q : Hidden) (s : ℕ) (a b : SideState) (choice : Choice) → AreTwins P Q s a b → fainted a choice ≡ fainted b choice
fainted_same P Q s a b (choices.Switch p) t =
    let at : List ℕ → ℕ = λ order. get_or order (p - 1) 0 in
    none_left (member_at a p).hp (member_of b (at a.order)).hp (stands_same (P.member s) (P.slot s) (P.move s) a b (at a.order) t.one)
    ∙ ap (λ (order : List ℕ). (member_of b (at order)).hp == 0) t.one.order
fainted_same P Q s a b (choices.Move n) t = refl
fainted_same P Q s a b choices.Struggle t = refl
fainted_same P Q s a b choices.Continue t = refl
fainted_same P Q s a b choices.Pass t = refl
fainted_same P Q s a b (choices.Team numbers) t = refl

abbrev fault_from : Bool → Bool → Bool → Bool → Bool → Bool → Bool → Bool → Bool → Option ChoiceFault
fault_from asked wrong held such pp off there out gone =
    unless (not asked) faults.NotYourTurn (unless wrong faults.WrongPhase (unless held faults.Locked (unless such faults.NoSuchMove (unless pp faults.NoPp (unless off faults.Disabled (unless there faults.NoSuchMember (unless out faults.AlreadyOut (unless gone faults.Fainted None))))))))

fault_is : (phase : Phase) (s : ℕ) (side : SideState) (c : Choice) → fault_of phase s side c ≡ fault_from (is_asked phase s) (wrong_phase phase c) (locked phase side c) (no_such_move side c) (no_pp side c) (disabled side c) (no_such_member side c) (already_out c) (fainted side c)
unfolding fault_of
fault_is phase s side c = refl

fault_same : (phase : Phase) (P Q : Hidden) (s : ℕ) (a b : SideState) (c : Choice) → IsSent phase → AreTwins P Q s a b → fault_of phase s a c ≡ fault_of phase s b c
fault_same phase P Q s a b c sent t =
    let asked = is_asked phase s in
    let wrong = wrong_phase phase c in
    fault_is phase s a c
    ∙ ap (λ (x : Bool). fault_from asked wrong x (no_such_move a c) (no_pp a c) (disabled a c) (no_such_member a c) (already_out c) (fainted a c)) (locked_choice_same phase a b c sent t.one.vol)
    ∙ ap (λ (x : Bool). fault_from asked wrong (locked phase b c) x (no_pp a c) (disabled a c) (no_such_member a c) (already_out c) (fainted a c)) (such_move_same P Q s a b c t)
    ∙ ap (λ (x : Bool). fault_from asked wrong (locked phase b c) (no_such_move b c) x (disabled a c) (no_such_member a c) (already_out c) (fainted a c)) (pp_same P Q s a b c t)
    ∙ ap (λ (x : Bool). fault_from asked wrong (locked phase b c) (no_such_move b c) (no_pp b c) x (no_such_member a c) (already_out c) (fainted a c)) (disabled_same a b c t.one.vol)
    ∙ ap (λ (x : Bool). fault_from asked wrong (locked phase b c) (no_such_move b c) (no_pp b c) (disabled b c) x (already_out c) (fainted a c)) (such_member_same a b c t.one.count)
    ∙ ap (fault_from asked wrong (locked phase b c) (no_such_move b c) (no_pp b c) (disabled b c) (no_such_member b c) (already_out c)) (fainted_same P Q s a b c t)
    ∙ sym (fault_is phase s b c)

-- what is told of a wish by a name that no slot has
abbrev no_slot : Phase → ℕ → Bool → Result Choice ChoiceFault
no_slot phase s held = Err (cond (is_asked phase s) (cond (wrong_for_act phase) faults.WrongPhase (cond held faults.Locked faults.NoSuchMove)) faults.NotYourTurn)

named_alike : (phase : Phase) (P Q : Hidden) (s : ℕ) (a b : SideState) (dex : Tables) (name : List ℕ) (o : Option Choice) → IsSent phase → AreTwins P Q s a b → named dex a name ≡ o → named dex b name ≡ o → resolved phase s a dex (Named name) ≡ resolved phase s b dex (Named name)
named_alike phase P Q s a b dex name None sent t is is_too = rw (is, is_too) (ap (no_slot phase s) (locked_same a b t.one.vol))
named_alike phase P Q s a b dex name (Some c) sent t is is_too = rw (is, is_too) (ap (judged c) (fault_same phase P Q s a b c sent t))

replaced_alike : (p1 p2 : Bool) (P Q : Hidden) (s : ℕ) (a b : SideState) (dex : Tables) (o : Option ℕ) → AreTwins P Q s a b → first_standing a ≡ o → first_standing b ≡ o → resolved (phases.Replace p1 p2) s a dex Default ≡ resolved (phases.Replace p1 p2) s b dex Default
replaced_alike p1 p2 P Q s a b dex None t is is_too = rw (is, is_too) refl
replaced_alike p1 p2 P Q s a b dex (Some n) t is is_too = rw (is, is_too) (ap (judged (choices.Switch (n + 2))) (fault_same (phases.Replace p1 p2) P Q s a b (choices.Switch (n + 2)) tt t))

default_alike : (phase : Phase) (P Q : Hidden) (s : ℕ) (a b : SideState) (dex : Tables) → IsSent phase → AreTwins P Q s a b → resolved phase s a dex Default ≡ resolved phase s b dex Default
default_alike phases.Turn P Q s a b dex sent t =
    ap (λ (c : Choice). judged c (fault_of phases.Turn s a c)) (act_same P Q s a b t)
    ∙ ap (judged (first_act b)) (fault_same phases.Turn P Q s a b (first_act b) tt t)
default_alike (phases.Replace p1 p2) P Q s a b dex sent t = replaced_alike p1 p2 P Q s a b dex (first_standing b) t (standing_same P Q s a b t) refl
default_alike phases.Preview P Q s a b dex sent t = absurd sent
default_alike (phases.Won side) P Q s a b dex sent t = absurd sent
default_alike phases.Tied P Q s a b dex sent t = absurd sent

sent_same : (phase : Phase) (P Q : Hidden) (s : ℕ) (a b : SideState) (dex : Tables) (want : Want) → IsSent phase → AreTwins P Q s a b → AsksPast P Q s dex (Some want) → resolved phase s a dex want ≡ resolved phase s b dex want
sent_same phase P Q s a b dex (Slot n) sent t past =
    ap (λ (c : Choice). judged c (fault_of phase s a c)) (numbered_same P Q s a b n t)
    ∙ ap (judged (numbered b n)) (fault_same phase P Q s a b (numbered b n) sent t)
sent_same phase P Q s a b dex (Named name) sent t past = named_alike phase P Q s a b dex name (named dex b name) sent t (named_same P Q s a b dex name t past) refl
sent_same phase P Q s a b dex (Position n) sent t past = ap (judged (choices.Switch n)) (fault_same phase P Q s a b (choices.Switch n) sent t)
sent_same phase P Q s a b dex (Team digits) sent t past =
    ap (λ (n : ℕ). judged (choices.Team (order_of n digits)) (fault_of phase s a (choices.Team (order_of n digits)))) t.one.count
    ∙ ap (judged (choices.Team (order_of b.count digits))) (fault_same phase P Q s a b (choices.Team (order_of b.count digits)) sent t)
sent_same phase P Q s a b dex Default sent t past = default_alike phase P Q s a b dex sent t

-- ---- under Team Preview an order alone is chosen, and of the members it looks at their number

preview_act : (s : ℕ) (side : SideState) (c : Choice) → wrong_phase phases.Preview c ≡ true → judged c (fault_of phases.Preview s side c) ≡ Err faults.WrongPhase
preview_act s side c wrong = ap (judged c) (fault_is phases.Preview s side c ∙ ap (λ (x : Bool). fault_from true x (locked phases.Preview side c) (no_such_move side c) (no_pp side c) (disabled side c) (no_such_member side c) (already_out c) (fainted side c)) wrong)

number_wrong : (goes struggles : Bool) (n : ℕ) → wrong_phase phases.Preview (cond goes choices.Continue (cond struggles choices.Struggle (choices.Move n))) ≡ true
number_wrong true struggles n = refl
number_wrong false true n = refl
number_wrong false false n = refl

numbered_wrong : (side : SideState) (n : ℕ) → wrong_phase phases.Preview (numbered side n) ≡ true
numbered_wrong side n = ap (wrong_phase phases.Preview) (numbered_is side n) ∙ number_wrong (n == 1 && is_locked side) (n == 1 && not (has_usable side)) n

-- a name stands for an act, or for nothing
abbrev IsAct : Option Choice → Type 0
IsAct None = Unit {0}
IsAct (Some choice) = wrong_phase phases.Preview choice ≡ true

preview_name : (s : ℕ) (side : SideState) (dex : Tables) (name : List ℕ) (o : Option Choice) → named dex side name ≡ o → IsAct o → resolved phases.Preview s side dex (Named name) ≡ Err faults.WrongPhase
preview_name s side dex name None is act = rw is refl
preview_name s side dex name (Some c) is act = rw is (preview_act s side c act)

slot_wrong : (slot : Option ℕ) → IsAct (option_map choices.Move slot)
slot_wrong None = tt
slot_wrong (Some n) = refl

move_wrong : (side : SideState) (mv : Option ℕ) → IsAct (slot_of_move side mv)
move_wrong side None = tt
move_wrong side (Some mv) = slot_wrong (slot_with side mv)

name_wrong : (held by_name struggles : Bool) (other : Option Choice) → IsAct other → IsAct (named_from held by_name struggles other)
name_wrong true true struggles other h = refl
name_wrong true false struggles other h = tt
name_wrong false by_name true other h = refl
name_wrong false by_name false other h = h

named_wrong : (dex : Tables) (side : SideState) (name : List ℕ) → IsAct (named dex side name)
named_wrong dex side name = subst IsAct (sym (named_is dex side name)) (name_wrong (is_locked side) (is_locked_name dex side name) (bytes_eq (id_of name) (codes "struggle") && not (has_usable side)) (slot_of_move side (move_of (id_of name) dex)) (move_wrong side (move_of (id_of name) dex)))

order_same : (s : ℕ) (a b : SideState) (numbers : List ℕ) → a.count ≡ b.count → fault_of phases.Preview s a (choices.Team numbers) ≡ fault_of phases.Preview s b (choices.Team numbers)
order_same s a b numbers e =
    fault_is phases.Preview s a (choices.Team numbers)
    ∙ ap (λ (n : ℕ). fault_from true false false false false false (not (is_order n numbers)) false false) e
    ∙ sym (fault_is phases.Preview s b (choices.Team numbers))

preview_same : (s : ℕ) (a b : SideState) (dex : Tables) (want : Want) → a.count ≡ b.count → resolved phases.Preview s a dex want ≡ resolved phases.Preview s b dex want
preview_same s a b dex (Slot n) e = preview_act s a (numbered a n) (numbered_wrong a n) ∙ sym (preview_act s b (numbered b n) (numbered_wrong b n))
preview_same s a b dex (Named name) e = preview_name s a dex name (named dex a name) refl (named_wrong dex a name) ∙ sym (preview_name s b dex name (named dex b name) refl (named_wrong dex b name))
preview_same s a b dex (Position n) e = preview_act s a (choices.Switch n) refl ∙ sym (preview_act s b (choices.Switch n) refl)
preview_same s a b dex (Team digits) e =
    ap (λ (n : ℕ). judged (choices.Team (order_of n digits)) (fault_of phases.Preview s a (choices.Team (order_of n digits)))) e
    ∙ ap (judged (choices.Team (order_of b.count digits))) (order_same s a b (order_of b.count digits) e)
preview_same s a b dex Default e =
    ap (λ (n : ℕ). judged (choices.Team (whole n nobody)) (fault_of phases.Preview s a (choices.Team (whole n nobody)))) e
    ∙ ap (judged (choices.Team (whole b.count nobody))) (order_same s a b (whole b.count nobody) e)

-- ---- two battles that are alike both ways

-- Battles that are alike both ways: the second way says what the hidden slots of the second battle have.
pub record AreBattlesTwins (P Q : Hidden) (a b : Battle) : Type 0 where
  pub one : AreBattlesAlike P a b
  pub two : AreBattlesAlike Q b a
  pub members : (s k : ℕ) → P.member s k ≡ Q.member s k
  pub slots : (s k j : ℕ) → P.slot s k j ≡ Q.slot s k j

active_shown : (hidden : Hidden) (b : Battle) → IsSent b.phase → (IsUnsent b.phase ⊎ AreActiveShown hidden b) → AreActiveShown hidden b
active_shown hidden b sent (inr shown) = shown
active_shown hidden b sent (inl unsent) = absurd (both b.phase sent unsent) where
  both : (phase : Phase) → IsSent phase → IsUnsent phase → ⊥
  both phases.Preview sent unsent = sent
  both phases.Turn sent unsent = unsent
  both (phases.Replace p1 p2) sent unsent = unsent
  both (phases.Won side) sent unsent = sent
  both phases.Tied sent unsent = sent

sides_twins : (P Q : Hidden) (a b : Battle) (s : ℕ) → s < 2 → IsSent a.phase → AreBattlesTwins P Q a b → AreTwins P Q s (side_of a s) (side_of b s)
sides_twins P Q a b s lt sent t =
    let sent_too : IsSent b.phase = subst IsSent t.one.phase sent in
    let shown = active_shown P a sent t.one.active in
    let shown_too = active_shown Q b sent_too t.two.active in
    record {
      one = sides_sent (P.member s) (P.slot s) (P.move s) (side_of a s) (side_of b s) (shown s lt) (t.one.sides s lt);
      two = sides_sent (Q.member s) (Q.slot s) (Q.move s) (side_of b s) (side_of a s) (shown_too s lt) (t.two.sides s lt);
      slots = t.slots s;
    }

asked_same : (phase : Phase) (P Q : Hidden) (a b : Battle) (s : ℕ) (dex : Tables) (want : Want) → s < 2 → a.phase ≡ phase → is_asked phase s ≡ true → AreBattlesTwins P Q a b → AsksPast P Q s dex (Some want) → resolved phase s (side_of a s) dex want ≡ resolved phase s (side_of b s) dex want
asked_same phases.Preview P Q a b s dex want lt is asked t past = preview_same s (side_of a s) (side_of b s) dex want (t.one.sides s lt).count
asked_same phases.Turn P Q a b s dex want lt is asked t past = sent_same phases.Turn P Q s (side_of a s) (side_of b s) dex want tt (sides_twins P Q a b s lt (subst IsSent (sym is) tt) t) past
asked_same (phases.Replace p1 p2) P Q a b s dex want lt is asked t past = sent_same (phases.Replace p1 p2) P Q s (side_of a s) (side_of b s) dex want tt (sides_twins P Q a b s lt (subst IsSent (sym is) tt) t) past
asked_same (phases.Won side) P Q a b s dex want lt is asked t past = absurd cc
asked_same phases.Tied P Q a b s dex want lt is asked t past = absurd cc

choice_in_same : (P Q : Hidden) (a b : Battle) (s : ℕ) (dex : Tables) (want : Option Want) → s < 2 → is_asked a.phase s ≡ true → AreBattlesTwins P Q a b → AsksPast P Q s dex want → choice_in a s dex want ≡ choice_in b s dex want
choice_in_same P Q a b s dex None lt asked t past = refl
choice_in_same P Q a b s dex (Some want) lt asked t past =
    ap with_why (asked_same a.phase P Q a b s dex want lt refl asked t past)
    ∙ ap (λ (x : Phase). with_why (resolved x s (side_of b s) dex want)) t.one.phase

-- what a side chooses, by what it looks at
abbrev chosen_from : Bool → Option Choice → ℕ → Option ℕ → Result Choice Why → Result Choice Why
chosen_from asked waits round number choice =
    cond (not asked) (Err whys.NotYourTurn) (cond (is_some waits) (Err whys.AlreadyChosen) (cond (is_stale round number) (Err whys.StaleRequest) choice))

chosen_is : (b : Bout) (s : ℕ) (dex : Tables) (text : List ℕ) (number : Option ℕ) → chosen b s dex text number ≡ chosen_from (is_asked b.battle.phase s) (waiting b s) b.round number (choice_in b.battle s dex (want_in text))
unfolding chosen
chosen_is b s dex text number = refl

asked_chosen : (asked : Bool) (waits : Option Choice) (round : ℕ) (number : Option ℕ) (x y : Result Choice Why) → (asked ≡ true → x ≡ y) → chosen_from asked waits round number x ≡ chosen_from asked waits round number y
asked_chosen true waits round number x y same = ap (chosen_from true waits round number) (same refl)
asked_chosen false waits round number x y same = refl

-- bouts that are alike both ways
pub record AreBoutsTwins (P Q : Hidden) (a b : Bout) : Type 0 where
  pub one : AreBoutsAlike P a b
  pub two : AreBoutsAlike Q b a
  pub members : (s k : ℕ) → P.member s k ≡ Q.member s k
  pub slots : (s k j : ℕ) → P.slot s k j ≡ Q.slot s k j

-- a text stands for the same choice in both, or is refused alike
pub chosen_twins : (P Q : Hidden) (a b : Bout) (s : ℕ) (dex : Tables) (text : List ℕ) (number : Option ℕ) → s < 2 → AreBoutsTwins P Q a b → AsksPast P Q s dex (want_in text) → chosen a s dex text number ≡ chosen b s dex text number
chosen_twins P Q a b s dex text number lt t past =
    let battles : AreBattlesTwins P Q a.battle b.battle = record { one = t.one.battle; two = t.two.battle; members = t.members; slots = t.slots } in
    let one = choice_in a.battle s dex (want_in text) in
    let two = choice_in b.battle s dex (want_in text) in
    chosen_is a s dex text number
    ∙ asked_chosen (is_asked a.battle.phase s) (waiting a s) a.round number one two (λ asked. choice_in_same P Q a.battle b.battle s dex (want_in text) lt asked battles past)
    ∙ ap (λ (x : Phase). chosen_from (is_asked x s) (waiting a s) a.round number two) t.one.battle.phase
    ∙ ap (λ (x : Option Choice). chosen_from (is_asked b.battle.phase s) x a.round number two) (waiting_same P a b s t.one)
    ∙ ap (λ (x : ℕ). chosen_from (is_asked b.battle.phase s) (waiting b s) x number two) t.one.round
    ∙ sym (chosen_is b s dex text number)
