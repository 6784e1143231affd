-- Two battles that are alike: a member plays the same side of both, has the same role, and its commands are refused alike.
use Rattle.std.proofs.Common.{◌≡◌, ℕ, zero, suc, ◌<◌, Bool, true, false, cond, List, Option, Some, None, Result, Err, refl, ap, ◌∙◌, sym}
use Rattle.std.specs.Prelude.{is_some, not}
use Rattle.ps_base.specs.Ids.{id_of}
use Rattle.ps_base.specs.declared.why.Why.{Why}
use Rattle.ps_base.specs.declared.why.Why.TheVariants as whys
use Rattle.ps_lines.specs.declared.command.Command.{Command}
use Rattle.ps_lines.specs.declared.command.Command.TheVariants.{Choose, Undo, Forfeit}
use Rattle.ps_mon.specs.declared.choice.Choice.{Choice}
use Rattle.ps_mon.specs.declared.record.Battle.{Battle}
use Rattle.ps_mon.specs.declared.record.Phase.{Phase}
use Rattle.ps_mon.specs.declared.record.SideState.{SideState}
use Rattle.ps_mon.specs.Choices.{is_asked}
use Rattle.ps_mon.specs.Reading.{side_of}
use Rattle.ps_mon.specs.Valid.{is_over}
use Rattle.ps_choice.specs.Resolved.{resolved}
use Rattle.ps_choice.specs.Wants.{Want, want_in}
use Rattle.ps_dex.specs.declared.item.Tables.{Tables}
use Rattle.battle_rounds.specs.declared.bout.Bout.{Bout}
use Rattle.battle_rounds.specs.Bouts.{waiting}
use Rattle.battle_rounds.specs.Casts.{side_with_id, role_with}
use Rattle.battle_rounds.specs.Refusals.{with_why, is_stale, choice_in, chosen, refused}
use Rattle.battle_rounds.specs.Fights.{Fight, refusal_in}
use Rattle.ps_chat.specs.declared.present.Present.{Present}
use Rattle.battle_secrecy.specs.Places.{Hidden}
use Rattle.battle_secrecy.specs.Alike.{AreBattlesAlike}
use Rattle.ps_room.specs.Records.{cast_in}
use Rattle.ps_room.specs.Roles.{role_of, role_of_member, side_of_member}
use Rattle.ps_room.specs.Rooms.{refusal_by_battle}
use Rattle.ps_laws.specs.Alike.{AreBoutsAlike, AreFightsAlike, AreMaybeAlike}
use Rattle.ps_laws.proofs.SideLemmas.{side_equal}
use Rattle.ps_laws.proofs.PartLemmas.{PlaysOwn, is_choose, side_below}

-- ---- own sides

-- nothing of an own side is hidden
pub record IsOpen (own : ℕ → Bool) (places : Hidden) : Type 0 where
  pub member : (s k : ℕ) → s < 2 → own s ≡ true → places.member s k ≡ false
  pub slot : (s k j : ℕ) → s < 2 → own s ≡ true → places.slot s k j ≡ false

-- so an own side is equal in both
pub own_side_equal : (own : ℕ → Bool) (places : Hidden) (a b : Battle) (s : ℕ) → IsOpen own places → s < 2 → own s ≡ true → AreBattlesAlike places a b → side_of a s ≡ side_of b s
own_side_equal own places a b s plain lt mine w = side_equal (places.member s) (places.slot s) (places.move s) _ _ (λ k. plain.member s k lt mine) (λ k j. plain.slot s k j lt mine) (w.sides s lt)

-- ---- what a member is to both

pub side_same : (places : Hidden) (f g : Fight) (me : Option Present) → AreFightsAlike places f g → side_of_member f.cast me ≡ side_of_member g.cast me
side_same places f g None w = refl
side_same places f g (Some p) w = ap (λ (ps : List (List ℕ)). side_with_id (record g.cast.names { players = ps }) (id_of p.badge.name)) w.names.players

pub member_role_same : (places : Hidden) (fo go : Option Fight) (p : Present) → AreMaybeAlike places fo go → role_of_member (cast_in fo) p ≡ role_of_member (cast_in go) p
member_role_same places None None p w = refl
member_role_same places None (Some g) p w = absurd w
member_role_same places (Some f) None p w = absurd w
member_role_same places (Some f) (Some g) p w = ap (λ (ps : List (List ℕ)). role_with (record g.cast.names { players = ps }) (id_of p.badge.name) p.rank) w.names.players

pub role_same : (places : Hidden) (fo go : Option Fight) (me : Option Present) → AreMaybeAlike places fo go → role_of (cast_in fo) me ≡ role_of (cast_in go) me
role_same places fo go None w = refl
role_same places fo go (Some p) w = member_role_same places fo go p w

-- ---- refusals

pub waiting_same : (places : Hidden) (a b : Bout) (s : ℕ) → AreBoutsAlike places a b → waiting a s ≡ waiting b s
waiting_same places a b zero w = w.first
waiting_same places a b (suc s) w = w.second

choice_same : (a b : Battle) (s : ℕ) (dex : Tables) (want : Option Want) → a.phase ≡ b.phase → side_of a s ≡ side_of b s → choice_in a s dex want ≡ choice_in b s dex want
choice_same a b s dex None phase side = refl
choice_same a b s dex (Some want) phase side =
    ap (λ (x : Phase). with_why (resolved x s (side_of a s) dex want)) phase
    ∙ ap (λ (x : SideState). with_why (resolved b.phase s x dex want)) side

-- the choice that a text stands for, by what it looks at
chosen_from : Phase → ℕ → Option Choice → ℕ → Option ℕ → Result Choice Why → Result Choice Why
chosen_from phase s waits round number choice =
    cond (not (is_asked phase s)) (Err whys.NotYourTurn) (cond (is_some waits) (Err whys.AlreadyChosen) (cond (is_stale round number) (Err whys.StaleRequest) choice))

chosen_is : (b : Bout) (s : ℕ) (dex : Tables) (text : List ℕ) (number : Option ℕ) →
    chosen b s dex text number ≡ chosen_from b.battle.phase s (waiting b s) b.round number (choice_in b.battle s dex (want_in text))
unfolding chosen chosen_from
chosen_is b s dex text number = refl

-- of a side that is equal in both
pub chosen_same : (places : Hidden) (a b : Bout) (s : ℕ) (dex : Tables) (text : List ℕ) (number : Option ℕ) → side_of a.battle s ≡ side_of b.battle s → AreBoutsAlike places a b →
    chosen a s dex text number ≡ chosen b s dex text number
chosen_same places a b s dex text number side w =
    let choice = choice_same a.battle b.battle s dex (want_in text) w.battle.phase side in
    chosen_is a s dex text number
    ∙ ap (λ (x : Phase). chosen_from x s (waiting a s) a.round number (choice_in a.battle s dex (want_in text))) w.battle.phase
    ∙ ap (λ (x : Option Choice). chosen_from b.battle.phase s x a.round number (choice_in a.battle s dex (want_in text))) (waiting_same places a b s w)
    ∙ ap (λ (x : ℕ). chosen_from b.battle.phase s (waiting b s) x number (choice_in a.battle s dex (want_in text))) w.round
    ∙ ap (λ (x : Result Choice Why). chosen_from b.battle.phase s (waiting b s) b.round number x) choice
    ∙ sym (chosen_is b s dex text number)

-- of an own side, in both battles with their dex
pub own_chosen_same : (own : ℕ → Bool) (places : Hidden) (f g : Fight) (s : ℕ) (text : List ℕ) (number : Option ℕ) → IsOpen own places → s < 2 → own s ≡ true →
    AreFightsAlike places f g → chosen f.bout s f.cast.dex text number ≡ chosen g.bout s g.cast.dex text number
own_chosen_same own places f g s text number plain lt mine w =
    ap (λ (dex : Tables). chosen f.bout s dex text number) w.dex
    ∙ chosen_same places f.bout g.bout s g.cast.dex text number (own_side_equal own places f.bout.battle g.bout.battle s plain lt mine w.bout.battle) w.bout

side_refusal_same : (own : ℕ → Bool) (places : Hidden) (f g : Fight) (side : Option ℕ) (cmd : Command) → IsOpen own places → ((s : ℕ) → side ≡ Some s → s < 2) →
    (is_choose cmd ≡ true → (s : ℕ) → side ≡ Some s → own s ≡ true) → AreFightsAlike places f g →
    refusal_in f.cast.dex f.bout side cmd ≡ refusal_in g.cast.dex g.bout side cmd
side_refusal_same own places f g None cmd plain below mine w = refl
side_refusal_same own places f g (Some s) (Choose choice rqid) plain below mine w = ap refused (own_chosen_same own places f g s choice rqid plain (below s refl) (mine refl s refl) w)
side_refusal_same own places f g (Some s) Undo plain below mine w = ap (λ (x : Option Choice). cond (is_some x) None (Some whys.NothingChosen)) (waiting_same places f.bout g.bout s w.bout)
side_refusal_same own places f g (Some s) Forfeit plain below mine w = ap (λ (x : Phase). cond (is_over x) (Some whys.NotYourTurn) None) w.bout.battle.phase
side_refusal_same own places f g (Some s) other plain below mine w = refl

-- A choice of an own side, and every other command, is refused alike.
pub refusal_same : (own : ℕ → Bool) (places : Hidden) (fo go : Option Fight) (me : Option Present) (cmd : Command) → IsOpen own places →
    (is_choose cmd ≡ true → PlaysOwn own fo me) → AreMaybeAlike places fo go → refusal_by_battle fo me cmd ≡ refusal_by_battle go me cmd
refusal_same own places None None me cmd plain plays w = refl
refusal_same own places None (Some g) me cmd plain plays w = absurd w
refusal_same own places (Some f) None me cmd plain plays w = absurd w
refusal_same own places (Some f) (Some g) me cmd plain plays w =
    side_refusal_same own places f g (side_of_member f.cast me) cmd plain (side_below f.cast me) plays w
    ∙ ap (λ (side : Option ℕ). refusal_in g.cast.dex g.bout side cmd) (side_same places f g me w)
