-- Two stories of a room that are the same to a connection give it equal views.
use Rattle.std.proofs.Common.{◌≡◌, ℕ, Bool, List, Option, Some, None, refl, ap, ◌∙◌, sym, subst}
use Rattle.std.specs.Prelude.{is_some, IfSome, option_map}
use Rattle.ps_dex.specs.declared.item.Tables.{Tables}
use Rattle.rules_config.specs.declared.settings.Settings.{Settings}
use Rattle.rules_start.specs.declared.start.Start.{Start}
use Rattle.rules_start.specs.Fits.{IsFit}
use Rattle.battle_rounds.specs.declared.bout.Bout.{Bout}
use Rattle.battle_rounds.specs.Fights.{Fight}
use Rattle.battle_secrecy.specs.Places.{Hidden}
use Rattle.ps_chat.specs.Records.{Opening as ChatOpening}
use Rattle.ps_room.specs.Openings.{Opening, fight_with}
use Rattle.ps_room.specs.Records.{Record, chat_opening, logged_with}
use Rattle.ps_room.specs.Stories.{Story, begun, view_of}
use Rattle.ps_laws.specs.Users.{users}
use Rattle.ps_laws.specs.Alike.{AreAlike, AreMaybeAlike, own_fight, own_part}
use Rattle.ps_laws.specs.Hidden.{is_previewed, own_sides, hidden, hidden_in_both}
use Rattle.ps_laws.specs.Rounds.{rounds}
use Rattle.ps_laws.specs.Low.{low}
use Rattle.ps_laws.specs.Same.{AreOpenedAlike, AreSame}
use Rattle.ps_laws.proofs.UserLemmas.{OwnsOf}
use Rattle.ps_laws.proofs.ItemLemmas.{items_view}
use Rattle.ps_laws.proofs.ShownLemmas.{story_unshown}
use Rattle.ps_laws.proofs.HistoryLemmas.{IsSettled, view_is, low_is_fine, low_joins}
use Rattle.ps_laws.proofs.WorldLemmas.{views_alike}
use Rattle.ps_laws.proofs.OpeningLemmas.{settled_opened, owned, own_open, own_outcome, FitsWith, begun_alike}
use Rattle.ps_laws.proofs.UserLists.{users_self}

-- ---- the openings

fits_of : (config : Settings) (dex : Tables) (bo : Option Start) → IfSome bo (λ s. IsFit s config dex) → FitsWith config dex bo
fits_of config dex None h = tt
fits_of config dex (Some st) h = h

opening_same : (places : Hidden) (one two : Opening) → is_some one.battle ≡ is_some two.battle → AreOpenedAlike places one two → chat_opening one ≡ chat_opening two
opening_same places one two some w =
    let make : List ℕ → Bool → Settings → ChatOpening = λ title battle config. record { title = title; battle = battle; groups = config.groups; staff = config.staff } in
    ap (λ (x : List ℕ). make x (is_some one.battle) one.config) w.title
    ∙ ap (λ (x : Bool). make two.title x one.config) some
    ∙ ap (make two.title (is_some two.battle)) w.config

pub opened_alike : (conn : ℕ) (one two : Story) → AreSame conn one two → AreAlike (hidden_in_both conn one two) (own_part (own_sides (users conn one) one.opening.config one.opening.battle) (begun one)) (own_part (own_sides (users conn one) one.opening.config one.opening.battle) (begun two))
opened_alike conn one two same =
    let own = own_sides (users conn one) one.opening.config one.opening.battle in
    let places = hidden_in_both conn one two in
    let w = same.openings in
    let fit : FitsWith one.opening.config one.opening.dex one.opening.battle = fits_of _ _ one.opening.battle same.first in
    let fit_two : FitsWith two.opening.config two.opening.dex two.opening.battle = fits_of _ _ two.opening.battle same.second in
    let fit_too : FitsWith one.opening.config one.opening.dex two.opening.battle =
    subst (λ (c : Settings). FitsWith c one.opening.dex two.opening.battle) (sym w.config) (subst (λ (d : Tables). FitsWith two.opening.config d two.opening.battle) (sym w.dex) fit_two) in
    let b = begun_alike own (rounds one) (hidden conn two) one.opening.config one.opening.dex one.opening.battle two.opening.battle fit fit_too w.battle in
    record {
      opening = opening_same places one.opening two.opening b.some w;
      chat = refl;
      logged = b.logged ∙ ap (λ (c : Settings). logged_with c two.opening.battle) w.config;
      openly = b.openly;
      battle =
          subst (λ (d : Tables). AreMaybeAlike places (own_fight own (option_map (fight_with one.opening.config one.opening.dex) one.opening.battle)) (own_fight own (option_map (fight_with two.opening.config d) two.opening.battle))) w.dex
          (subst (λ (c : Settings). AreMaybeAlike places (own_fight own (option_map (fight_with one.opening.config one.opening.dex) one.opening.battle)) (own_fight own (option_map (fight_with c one.opening.dex) two.opening.battle))) w.config b.battle);
    }

-- ---- where nothing waits

-- as a world begins: what a connection may know of the record is the record, whichever sides are its own
begun_own : (own : ℕ → Bool) (s : Story) → own_part own (begun s) ≡ begun s
begun_own own s = ap (λ (fo : Option Fight). record (begun s) { battle = fo }) (by s.opening.battle) where
  by : (bo : Option Start) → own_fight own (option_map (fight_with s.opening.config s.opening.dex) bo) ≡ option_map (fight_with s.opening.config s.opening.dex) bo
  by None = refl
  by (Some st) = ap (λ (b : Bout). Some (record (fight_with s.opening.config s.opening.dex st) { bout = b })) (own_outcome own s.opening.config st)

part_owns : (ids : List (List ℕ)) (own : ℕ → Bool) (fo : Option Fight) → OwnsOf ids own fo → OwnsOf ids own (own_fight own fo)
part_owns ids own None h = tt
part_owns ids own (Some f) h = h

-- ---- the law

-- the own sides of a connection in a story
abbrev owns : ℕ → Story → ℕ → Bool
owns conn s = own_sides (users conn s) s.opening.config s.opening.battle

settled : (conn : ℕ) (s : Story) → IsSettled conn (users conn s) (owns conn s) (begun s)
settled conn s = settled_opened conn (users conn s) (owns conn s) s.opening (owned (users conn s) s.opening)

-- Two stories that are the same to a connection give it equal views. Their users may differ, by badges that nothing looks at; the
-- items are judged by those of the first.
pub views_are_equal : (conn : ℕ) (one two : Story) → AreSame conn one two → view_of conn one ≡ view_of conn two
views_are_equal conn one two same =
    let ids = users conn one in
    let own = owns conn one in
    let known = users_self ids in
    let fine = low_is_fine conn ids own (hidden_in_both conn one two) (begun one) one.history (settled conn one) known (story_unshown conn one two) in
    view_is conn ids own (begun one) one.history (settled conn one) known
    ∙ views_alike conn ids own (hidden_in_both conn one two) (own_part own (begun one)) (own_part own (begun two)) (low conn one)
    (part_owns ids own (begun one).battle (owned ids one.opening)) tt (low_joins conn ids own (begun one) one.history (settled conn one) known)
    (own_open (is_previewed one.opening.config one.opening.battle) own one.opening.battle (rounds one) (hidden conn two)) fine (opened_alike conn one two same)
    ∙ ap (items_view conn (own_part own (begun two))) same.histories
    ∙ ap (λ (x : Record). items_view conn x (low conn two)) (begun_own own two ∙ sym (begun_own (owns conn two) two))
    ∙ sym (view_is conn (users conn two) (owns conn two) (begun two) two.history (settled conn two) (users_self (users conn two)))
