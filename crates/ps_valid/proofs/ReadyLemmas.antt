-- The team that sets make can open a battle.
use Rattle.std.proofs.Common.{◌≡◌, ℕ, zero, suc, ◌<◌, ◌≤◌, false, List, [], ◌∷◌, length, get_or, All, refl, ap, arith}
use Rattle.std.specs.Prelude.{slice_get, slice_index_or}
use Rattle.std.proofs.lemmas.List.{length-map}
use Rattle.std.proofs.lemmas.List.Elements.{All-head, All-tail}
use Rattle.std.proofs.lemmas.Option.{slice_get-get_or}
use Rattle.ps_mon.specs.declared.status.Status.TheVariants.{Healthy}
use Rattle.ps_mon.specs.declared.team.Member.{Member}
use Rattle.ps_mon.specs.declared.team.MoveSlot.{MoveSlot}
use Rattle.ps_mon.specs.Facts.{IsFairMove}
use Rattle.ps_mon.specs.Reading.{no_slot, no_member}
use Rattle.ps_mon.specs.Valid.{AreStats, AreTypes}
use Rattle.ps_packed.specs.declared.set.Set.{Set}
use Rattle.ps_dex.specs.declared.item.MoveItem.{MoveItem}
use Rattle.ps_dex.specs.declared.item.SpeciesItem.{SpeciesItem}
use Rattle.ps_dex.specs.declared.item.Tables.{Tables}
use Rattle.ps_dex.specs.Fit.{AreFit, IsFitSpecies}
use Rattle.ps_valid.specs.Members.{types_of, pp_of, slot_of, slot_at, slots_of, member_at, team_of}
use Rattle.ps_valid.specs.TeamRows.{nick_of, legal_of}
use Rattle.ps_valid.specs.Ready.{IsReady, IsReadyMember}

-- ---- what the dex says

zeros_fit : AreTypes (0 ∷ 0 ∷ [])
zeros_fit zero lt = omega arith
zeros_fit (suc zero) lt = omega arith
zeros_fit (suc (suc k)) lt = absurd (omega (arith, lt))

types_fit : (types moves : ℕ) (species : List SpeciesItem) (n : ℕ) → types ≤ 32 → All (IsFitSpecies types moves) species → AreTypes (types_of (slice_get species n))
types_fit types moves [] n few all = zeros_fit
types_fit types moves (s ∷ species) zero few all = λ k lt. omega (arith, few, (All-head (IsFitSpecies types moves) s species all).types k 0 lt)
types_fit types moves (s ∷ species) (suc n) few all = types_fit types moves species n few (All-tail (IsFitSpecies types moves) s species all)

abbrev IsFairItem : MoveItem → Type 0
IsFairItem m = IsFairMove m.numbers

some_pp : (moves : List MoveItem) (mv : ℕ) → mv < length moves → All IsFairItem moves → 1 ≤ pp_of (slice_get moves mv)
some_pp [] mv lt all = absurd (omega (arith, lt))
some_pp (m ∷ moves) zero lt all = (All-head IsFairItem m moves all).pp_low
some_pp (m ∷ moves) (suc mv) lt all = some_pp moves mv (omega (arith, lt)) (All-tail IsFairItem m moves all)

-- ---- members

slot_is : (moves : List MoveItem) (known : List ℕ) (j : ℕ) → j < length known → j < 4 → slice_index_or (slots_of moves known) j no_slot ≡ slot_of moves (get_or known j 0)
slot_is moves known zero lt four = ap (slot_at moves) (slice_get-get_or known 0 0 lt)
slot_is moves known (suc zero) lt four = ap (slot_at moves) (slice_get-get_or known 1 0 lt)
slot_is moves known (suc (suc zero)) lt four = ap (slot_at moves) (slice_get-get_or known 2 0 lt)
slot_is moves known (suc (suc (suc zero))) lt four = ap (slot_at moves) (slice_get-get_or known 3 0 lt)
slot_is moves known (suc (suc (suc (suc j)))) lt four = absurd (omega (arith, four))

-- a member with full health and all PP
pub member_ready : (dex : Tables) (species level : ℕ) (types stats : List ℕ) (speed max : ℕ) (slots : List MoveSlot) (moves : List ℕ) → AreFit dex → species < length dex.species → 1 ≤ level → level ≤ 100 → types ≡ types_of (slice_get dex.species species) → AreStats stats → 1 ≤ max → max ≤ 713 → slots ≡ slots_of dex.moves moves → 1 ≤ length moves → length moves ≤ 4 → All (λ mv. mv < length dex.moves) moves → IsReadyMember dex (record { species = species; level = level; types = types; stats = stats; base_speed = speed; hp = max; max = max; status = Healthy; counter = 0; rested = false; slots = slots; slot_count = length moves })
member_ready dex species level types stats speed max slots moves fit within level_low level_high own_types own_stats low high own_slots some few known =
    let is : (j : ℕ) → j < length moves → slice_index_or slots j no_slot ≡ slot_of dex.moves (get_or moves j 0) = λ j lt. rw own_slots (slot_is dex.moves moves j lt (omega (arith, lt, few))) in
    record {
      fresh = record {
        ranges = record {
          level = level_low;
          level_high = level_high;
          types = rw own_types (types_fit (length dex.types) (length dex.moves) dex.species species fit.few_types fit.species);
          stats = own_stats;
          hp = omega arith;
          max = low;
          max_high = high;
          counter = omega arith;
          four = rw own_slots refl;
          slot_count = some;
          slot_count_high = few;
          pp = λ j lt. rw (is j lt) (omega arith);
        };
        healthy = refl;
        counter = refl;
        rested = refl;
        full = refl;
        pp = λ j lt. rw (is j lt) (some_pp dex.moves (get_or moves j 0) (known j 0 lt) fit.moves);
      };
      moves = λ j lt. rw (is j lt) (known j 0 lt);
      species = within;
    }

-- ---- teams

member_is : (members : List Member) (k : ℕ) → k < length members → k < 6 → slice_index_or (team_of members).members k no_member ≡ get_or members k no_member
member_is members zero lt six = ap member_at (slice_get-get_or members 0 no_member lt)
member_is members (suc zero) lt six = ap member_at (slice_get-get_or members 1 no_member lt)
member_is members (suc (suc zero)) lt six = ap member_at (slice_get-get_or members 2 no_member lt)
member_is members (suc (suc (suc zero))) lt six = ap member_at (slice_get-get_or members 3 no_member lt)
member_is members (suc (suc (suc (suc zero)))) lt six = ap member_at (slice_get-get_or members 4 no_member lt)
member_is members (suc (suc (suc (suc (suc zero))))) lt six = ap member_at (slice_get-get_or members 5 no_member lt)
member_is members (suc (suc (suc (suc (suc (suc k)))))) lt six = absurd (omega (arith, six))

pub legal_ready : (dex : Tables) (sets : List Set) (members : List Member) → 1 ≤ length members → length members ≤ 6 → length members ≡ length sets → All (IsReadyMember dex) members → IsReady dex (legal_of sets members)
legal_ready dex sets members some few same all =
    let is : (k : ℕ) → k < length members → slice_index_or (team_of members).members k no_member ≡ get_or members k no_member = λ k lt. member_is members k lt (omega (arith, lt, few)) in
    record {
      fresh = record {
        count = some;
        count_high = few;
        members = λ k lt. rw (is k lt) (all k no_member lt).fresh;
      };
      moves = λ k lt. rw (is k lt) (all k no_member lt).moves;
      species = λ k lt. rw (is k lt) (all k no_member lt).species;
      nicks = omega (arith, same, length-map sets nick_of);
    }
