-- What may differ in the hall that a connection isn't told: worlds with it and without it, or with something else in its place, give the
-- connection equal views. Each premise is of the world.
use Rattle.std.specs.Prelude.{◌≡◌, ℕ, false, List, ◌∷◌, ◌++◌}
use Rattle.ps_lines.specs.declared.command.HallCmd.{HallCmd}
use Rattle.ps_lines.specs.declared.command.HallCmd.TheVariants.{Whisper}
use Rattle.ps_hall.specs.declared.entry.HallEntry.{HallEntry}
use Rattle.ps_hall.specs.Records.{Record}
use Rattle.ps_hall.specs.Halls.{run_record}
use Rattle.ps_laws.specs.HallStories.{HallOpening, hall_story, hall_opened, hall_view_of}
use Rattle.ps_laws.specs.HallLow.{hall_users, is_own_entry, is_user}

-- whether a command whispers to somebody else than one of these users
abbrev pub whispers_past : List (List ℕ) → HallCmd → Type 0
whispers_past ids (Whisper user text) = is_user ids user ≡ false
whispers_past ids other = ⊥

-- A whisper, allowed or not, where it stands: neither end of it is an id that the connection takes anywhere in the history, and
-- it isn't the connection's.
pub record IsForeignWhisper (conn : ℕ) (ids : List (List ℕ)) (hall : Record) (entry : HallEntry) : Type 0 where
  pub target : whispers_past ids entry.cmd
  pub other : is_own_entry conn ids hall entry ≡ false

-- Such a whisper may as well be missing.
abbrev pub WhispersMayBeMissing : ℕ → Type 0
WhispersMayBeMissing conn = (opening : HallOpening) (before : List HallEntry) (entry : HallEntry) (later : List HallEntry)
    → IsForeignWhisper conn (hall_users conn (hall_story opening (before ++ entry ∷ later))) (run_record (hall_opened opening) before) entry
    → hall_view_of conn (hall_story opening (before ++ entry ∷ later)) ≡ hall_view_of conn (hall_story opening (before ++ later))

-- And another one may stand in its place.
abbrev pub WhispersMayDiffer : ℕ → Type 0
WhispersMayDiffer conn = (opening : HallOpening) (before : List HallEntry) (entry other : HallEntry) (later : List HallEntry)
    → IsForeignWhisper conn (hall_users conn (hall_story opening (before ++ entry ∷ later))) (run_record (hall_opened opening) before) entry
    → IsForeignWhisper conn (hall_users conn (hall_story opening (before ++ other ∷ later))) (run_record (hall_opened opening) before) other
    → hall_view_of conn (hall_story opening (before ++ entry ∷ later)) ≡ hall_view_of conn (hall_story opening (before ++ other ∷ later))
