-- The rule of a lock, and what each step tells its pass.
use Rattle.std.specs.Prelude.{◌≡◌, ◌≢◌, ◌⊎◌, ℕ, ◌+◌, ◌*◌, ◌/◌, ◌^◌, ◌<◌, ◌≤◌, Bool, true, false, MatchBool, List, [], ◌∷◌, ◌++◌}
use Rattle.std.specs.Prelude.{length, Option, Some, slice_index, All}
use mathlib.Core.Option.{some}
use mathlib.Core.List.{IsPrefix}
use lib.ListN.{get_elem?}
use Rattle.atomic_table.specs.Table.{State, Me, Step}
use Rattle.ps_histlock.specs.declared.view.Entry.{Entry}
use Rattle.ps_histlock.specs.declared.view.View.{View}
use Rattle.ps_histlock.specs.Histories.{entry, commands, entries_of, longer, signed}
use Rattle.ps_histlock.specs.Views.{newcomer, with_number, after_look, after_meeting, holder, after_entry, after_turn, informed}
use Rattle.ps_histlock.specs.Views.{counted, compared, Extends}

module _ {O C : Type 0} where
  -- what the rule says of the view of the pass number by, where log is the one history
  pub record Fits (origin : O) (log : List (Entry C)) (by : ℕ) (view : View O C) : Type 0 where
    pub origin_is : view.letter ≡ false → view.origin ≡ origin
    pub begins : IsPrefix view.seen log
    pub number_is : view.named ≡ true → view.number ≡ by
    pub own : view.mine ≡ entries_of by log
    pub own_seen : view.mine ≡ entries_of by view.seen
    pub looked : All (λ look. look ≤ length log) view.looks
    pub whole : view.holds ≡ true → view.seen ≡ log
    pub seen_known : IsPrefix view.seen view.known
    pub known_begins : IsPrefix view.known log
    pub heard_begins : IsPrefix view.heard log
    pub apart : view.letter ≡ false → 0 < view.stamp → view.from ≢ by

  -- who wrote a letter has counted no less since
  abbrev pub Written : List (View O C) → View O C → Type 0
  Written views view = view.letter ≡ true → 0 < view.stamp → (writer : View O C) × (get_elem? views view.from ≡ some writer)
      × (view.stamp ≤ writer.mark)

  abbrev pub Nobody : List (View O C) → Type 0
  Nobody views = (by : ℕ) (view : View O C) → get_elem? views by ≡ some view → view.holds ≡ true → ⊥

  abbrev pub OnlyOne : List (View O C) → Type 0
  OnlyOne views = (one : ℕ) × ((by : ℕ) (view : View O C) → get_elem? views by ≡ some view → view.holds ≡ true → by ≡ one)

module _ {O C : Type 0} (signer : C → Option ℕ) where
  -- What is signed by a name that this pass speaks for is what it has said. Each name has one pass at most that speaks for it
  abbrev pub Signs : (ℕ → ℕ) → List (Entry C) → ℕ → View O C → Type 0
  Signs maker log by view =
      ((name : ℕ) → length (signed signer name (commands view.said)) ≤ length (signed signer name (commands view.seen)))
      × (view.speaks ≡ true → (name : ℕ) → 0 < length (signed signer name (commands view.said))
      → (signed signer name (commands log) ≡ signed signer name (commands view.said)) × (maker name ≡ by))

  -- this pass may sign the command: it speaks for that name, or nobody does
  abbrev pub MaySign : View O C → List (Entry C) → C → Type 0
  MaySign view log cmd = (view.speaks ≡ true)
      × ((name : ℕ) → signer cmd ≡ Some name → (0 < length (signed signer name (commands view.said)))
      ⊎ (signed signer name (commands log) ≡ []))

  -- what is signed in this history by a name that this pass speaks for is what it has said
  abbrev pub OwnSigns : View O C → List (Entry C) → Type 0
  OwnSigns view log = (name : ℕ) → 0 < length (signed signer name (commands view.said))
      → signed signer name (commands log) ≡ signed signer name (commands view.said)

module _ {C : Type 0} (signer : C → Option ℕ) where
  -- all that was signed here is signed by the name of the command
  abbrev pub SignsOn : List (Entry C) → C → Type 0
  SignsOn said cmd = (name other : ℕ) → signer cmd ≡ Some name → 0 < length (signed signer other (commands said)) → other ≡ name

  -- whether anything was signed here
  abbrev pub HasSigned : Bool → List (Entry C) → Type 0
  HasSigned has said = MatchBool has ((name : ℕ) × (0 < length (signed signer name (commands said))))
      ((name : ℕ) → signed signer name (commands said) ≡ [])

  -- something stands in this history that is signed by the name of the command, and nothing of what the pass has said is
  abbrev pub IsNameTaken : List (Entry C) → List (Entry C) → C → Type 0
  IsNameTaken said log cmd = (name : ℕ) × (signer cmd ≡ Some name) × (signed signer name (commands said) ≡ [])
      × (0 < length (signed signer name (commands log)))

  module _ {H : Type 0} (stands : List C → H → Type 0) where
    -- whoever has signed so, or not, may not sign the command, wherever this may stand for the history
    abbrev pub IsAnothers : Bool → H → C → Type 0
    IsAnothers has home cmd = (said log : List (Entry C)) → HasSigned has said → stands (commands log) home → IsNameTaken said log cmd

    -- it may: it has signed by that name, or nobody has
    abbrev pub MayGoOn : Bool → H → C → Type 0
    MayGoOn has home cmd = (said log : List (Entry C)) → HasSigned has said → SignsOn said cmd → stands (commands log) home
        → (name : ℕ) → signer cmd ≡ Some name → (0 < length (signed signer name (commands said))) ⊎ (signed signer name (commands log) ≡ [])

module _ {K O C : Type 0} (origin : K → O) (stands : List C → K → Type 0) (signer : C → Option ℕ) where
  -- the value may stand for this history
  abbrev pub Stands : O → List (Entry C) → K → Type 0
  Stands lock_origin log value = (origin value ≡ lock_origin) × stands (commands log) value

  -- nobody has the turn, and the value in the slot may stand for the history
  abbrev pub AtHome : O → List (Entry C) → State (Option K) (View O C) → Type 0
  AtHome lock_origin log state = (slice_index state.words 0 ≡ 2 * length log)
      × ((value : K) × (get_elem? state.homes 0 ≡ some (some (Some value))) × Stands lock_origin log value) × Nobody state.views

  -- one pass has the turn, and the value with it
  abbrev pub IsOut : List (Entry C) → State (Option K) (View O C) → Type 0
  IsOut log state = (slice_index state.words 0 ≡ 2 * length log + 1) × OnlyOne state.views

  -- The rule: there is one history. The word tells its length and whether somebody has the turn, every view fits it, and
  -- a pass that isn't made yet has no entry in it
  pub record IsKept (lock_origin : O) (state : State (Option K) (View O C)) : Type 0 where
    pub log : List (Entry C)
    pub short : length log < 2 ^ 62
    pub words : length state.words ≡ 1
    pub seat_state : AtHome lock_origin log state ⊎ IsOut log state
    pub fits : (by : ℕ) (view : View O C) → get_elem? state.views by ≡ some view → Fits lock_origin log by view
    pub letters : (by : ℕ) (view : View O C) → get_elem? state.views by ≡ some view → Written state.views view
    pub maker : ℕ → ℕ
    pub signs : (by : ℕ) (view : View O C) → get_elem? state.views by ≡ some view → Signs signer maker log by view
    pub unmade : (by : ℕ) → length state.views ≤ by → entries_of by log ≡ []

  abbrev pub Mine : Type 0
  Mine = Me (Option K) (View O C)

  -- what a new pass is told
  abbrev pub Arrives : Step (Option K) → Mine → ℕ → Mine → Type 0
  Arrives st old word new = (number : ℕ) × (new ≡ (newcomer old.0.origin number, []))

  abbrev pub Names : Step (Option K) → Mine → ℕ → Mine → Type 0
  Names st old word new = (number : ℕ) × (new ≡ (with_number old.0 number, old.1)) × (old.0.mine ≡ entries_of number old.0.seen)

  abbrev pub Looks : Step (Option K) → Mine → ℕ → Mine → Type 0
  Looks st old word new = (new ≡ (after_look old.0 (word / 2), old.1)) × (length old.0.known ≤ word / 2)
      × All (λ look. look ≤ word / 2) old.0.looks

  -- What a letter tells: it and what the pass knew begin the longer of the two, in which the pass's own entries are all with its number
  abbrev pub Learns : Step (Option K) → Mine → ℕ → Mine → Type 0
  Learns st old word new =
      (new ≡ (informed old.0, old.1)) × IsPrefix old.0.known (longer old.0.known old.0.heard)
      × IsPrefix old.0.heard (longer old.0.known old.0.heard)
      × (old.0.mine ≡ entries_of old.0.number (longer old.0.known old.0.heard))
      × (old.0.speaks ≡ true → OwnSigns signer old.0 (longer old.0.known old.0.heard))

  abbrev pub Counts : ℕ → Step (Option K) → Mine → ℕ → Mine → Type 0
  Counts count st old word new = new ≡ (counted old.0 count, old.1)

  -- the letter in hand is another's
  abbrev pub Differs : Step (Option K) → Mine → ℕ → Mine → Type 0
  Differs st old word new = (new ≡ (compared old.0, old.1)) × (0 < old.0.stamp → old.0.from ≢ old.0.number)

  abbrev pub Meets : Step (Option K) → Mine → ℕ → Mine → Type 0
  Meets st old word new = new ≡ (after_meeting old.0 word, old.1)

  -- The word was the one that was read, 2n: the turn is taken, and the value with it, which may stand for the history of n
  -- entries. Or another word was found
  abbrev pub Seizes : Step (Option K) → Mine → ℕ → Mine → Type 0
  Seizes st old word new =
      (word ≡ st.first → (log : List (Entry C)) × (value : K) × (st.first ≡ 2 * length log) × Extends old.0 log
      × (old.0.speaks ≡ true → OwnSigns signer old.0 log) × Stands old.0.origin log value
      × (new ≡ (holder old.0 log, (0, Some value) ∷ old.1)))
      × (word ≢ st.first → new ≡ (after_meeting old.0 word, old.1))

  -- the value goes back, and the command that was written is the entry
  abbrev pub Appends : Option C → Step (Option K) → Mine → ℕ → Mine → Type 0
  Appends written st old word new = (cmd : C) × (written ≡ Some cmd) × (new ≡ (after_entry old.0 cmd, []))
      × OwnSigns signer (after_entry old.0 cmd) (old.0.seen ++ entry old.0.number cmd ∷ [])

  abbrev pub Releases : Step (Option K) → Mine → ℕ → Mine → Type 0
  Releases st old word new = new ≡ (after_turn old.0, [])
