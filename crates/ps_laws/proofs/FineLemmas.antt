-- Items of which the law of two worlds can tell: entries whose choices are of own sides, and rounds that show no hidden place.
use Rattle.std.proofs.Common.{◌≡◌, ℕ, Bool, List, [], ◌∷◌, ◌++◌, Option, Some, None, Result, Ok, Err, option_to_list, refl, sym, subst, zero, suc}
use Rattle.ps_base.specs.declared.why.Why.{Why}
use Rattle.ps_mon.specs.declared.record.Battle.{Battle}
use Rattle.ps_mon.specs.declared.choice.Choice.{Choice}
use Rattle.ps_dex.specs.declared.item.Tables.{Tables}
use Rattle.ps_dex.specs.Figures.{figures_of}
use Rattle.battle_rounds.specs.declared.bout.Bout.{Bout}
use Rattle.battle_rounds.specs.Fights.{Fight}
use Rattle.ps_chat.specs.declared.present.Present.{Present}
use Rattle.battle_secrecy.specs.Places.{Hidden}
use Rattle.ps_room.specs.Records.{Record}
use Rattle.ps_room.specs.Roles.{side_of_member}
use Rattle.ps_laws.specs.Alike.{own_fight, AreAlike, AreMaybeAlike}
use Rattle.ps_laws.specs.Rounds.{Round, round_of_choices}
use Rattle.ps_laws.specs.Low.{Item, whole, commit}
use Rattle.ps_laws.proofs.WaitLemmas.{AreChoices}
use Rattle.ps_laws.proofs.ShownLemmas.{IsUnshown, AreUnshown, open_choices}
use Rattle.ps_laws.proofs.ItemLemmas.{put_choice, waiting_in, waiting_fight, item_after, items_after}
use Rattle.ps_laws.proofs.TwinStepLemmas.{AreMaybeGood}
use Rattle.ps_laws.proofs.TwinLemmas.{IsEntryGood, IsGood}

pub record IsFineRound (places : Hidden) (f : Fight) (one two : Choice) : Type 0 where
  pub choices : AreChoices f.bout.battle one two
  pub unshown : IsUnshown places (round_of_choices (figures_of f.cast.dex) f.bout.battle one two)

abbrev pub AreFineChoices : Hidden → Option Fight → Choice → Choice → Type 0
AreFineChoices places None one two = Unit {0}
AreFineChoices places (Some f) one two = IsFineRound places f one two

abbrev pub IsFine : ℕ → (ℕ → Bool) → Hidden → Record → Item → Type 0
IsFine conn own places r (whole e) = IsEntryGood conn own r e
IsFine conn own places r (commit one two) = AreFineChoices places r.battle one two

abbrev pub AreFine : ℕ → (ℕ → Bool) → Hidden → Record → List Item → Type 0
AreFine conn own places r [] = Unit {0}
AreFine conn own places r (i ∷ is) = IsFine conn own places r i × AreFine conn own places (item_after r i) is

-- ---- from records that are alike they are good

pub good_choices : (places : Hidden) (fo go : Option Fight) (one two : Choice) → AreMaybeAlike places fo go → AreFineChoices places fo one two → AreMaybeGood places fo one two
good_choices places None go one two w h = tt
good_choices places (Some f) None one two w h = absurd w
good_choices places (Some f) (Some g) one two w h =
    let o = open_choices places (figures_of f.cast.dex) f.bout.battle g.bout.battle one two w.bout.battle h.choices h.unshown in
    record { one = h.choices.first; two = h.choices.second; unhidden = o.first; unhidden_too = o.second; shown = o.told }

pub fine_is_good : (conn : ℕ) (own : ℕ → Bool) (places : Hidden) (r s : Record) (i : Item) → AreAlike places r s → IsFine conn own places r i → IsGood conn own places r i
fine_is_good conn own places r s (whole e) w h = h
fine_is_good conn own places r s (commit one two) w h = good_choices places r.battle s.battle one two w.battle h

-- ---- more items

pub fine_more : (conn : ℕ) (own : ℕ → Bool) (places : Hidden) (r : Record) (is js : List Item) → AreFine conn own places r is → AreFine conn own places (items_after r is) js → AreFine conn own places r (is ++ js)
fine_more conn own places r [] js h more = more
fine_more conn own places r (i ∷ is) js h more = (h.0, fine_more conn own places (item_after r i) is js h.1 more)

-- ---- a round while its last choice waits

put_battle : (s : ℕ) (x : Result Choice Why) (b : Bout) → (put_choice s x b).battle ≡ b.battle
put_battle zero (Ok c) b = refl
put_battle (suc s) (Ok c) b = refl
put_battle s (Err why) b = refl

waiting_battle : (dex : Tables) (b : Bout) (side : Option ℕ) (choice : List ℕ) (rqid : Option ℕ) → (waiting_in dex b side choice rqid).battle ≡ b.battle
waiting_battle dex b None choice rqid = refl
waiting_battle dex b (Some s) choice rqid = put_battle s _ b

pub fine_with_choice : (own : ℕ → Bool) (places : Hidden) (f : Fight) (me : Option Present) (choice : List ℕ) (rqid : Option ℕ) (one two : Choice) → IsFineRound places f one two → AreFineChoices places (own_fight own (waiting_fight (Some f) me choice rqid)) one two
fine_with_choice own places f me choice rqid one two h =
    let same : (waiting_in f.cast.dex f.bout (side_of_member f.cast me) choice rqid).battle ≡ f.bout.battle = waiting_battle f.cast.dex f.bout (side_of_member f.cast me) choice rqid in
    record {
      choices = subst (λ (b : Battle). AreChoices b one two) (sym same) h.choices;
      unshown = subst (λ (b : Battle). IsUnshown places (round_of_choices (figures_of f.cast.dex) b one two)) (sym same) h.unshown;
    }

-- the round that an entry completed
pub unshown_round : (places : Hidden) (o : Option Round) (r : Round) → o ≡ Some r → AreUnshown places (option_to_list o) → IsUnshown places r
unshown_round places None r is h = absurd cc
unshown_round places (Some x) r is h = let same : x ≡ r = cc in subst (IsUnshown places) same h.0
