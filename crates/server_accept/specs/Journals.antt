-- What the sessions of a server ended with.
use Rattle.std.specs.Prelude.{◌≡◌, ◌⊎◌, ℕ, ◌+◌, ◌<◌, List, [], length, slice_get, Option, Some}
use Rattle.server_places.specs.Sites.{no_settings, no_tables}
use Rattle.ps_histlock.specs.Seated.{TableId}
use Rattle.ps_hub.specs.Hubs.{Hub}
use Rattle.ps_serve.specs.declared.closed.Closed.{Closed}
use Rattle.ps_serve.specs.Sessions.{IsSession}
use Rattle.program_commands.specs.Words.{Options}
use Rattle.program_commands.specs.Setups.{HasSetup}

-- The ends of sessions of one hub, by the numbers of their connections: at the first place lies that of connection 1, at the next that
-- of connection 2, and so on, and no place is empty.
abbrev pub AreSessions : Hub → List (Option Closed) → Type 0
AreSessions hub ends = (place : ℕ) → place < length ends → (closed : Closed) × (slice_get ends place ≡ Some (Some closed))
    × IsSession hub (place + 1) closed

-- none, where no session was begun, or those of a hub under the dex and the configuration of these files
abbrev pub AreServed : Option (List ℕ → Option (List ℕ)) → Options → List (Option Closed) → Type 0
AreServed contents options ends = (ends ≡ [])
    ⊎ HasSetup contents options (λ config dex. (hub : Hub) × (hub.config ≡ config) × (hub.dex ≡ dex) × AreSessions hub ends)

-- ---- for the code alone

-- what lies at a place is the end of the session of that number
abbrev pub AreEnds : Hub → List (Option Closed) → Type 0
AreEnds hub ends = (place : ℕ) (closed : Closed) → slice_get ends place ≡ Some (Some closed) → IsSession hub (place + 1) closed

-- none of the first so many places is empty
abbrev pub AreFilled : ℕ → List (Option Closed) → Type 0
AreFilled begun ends = (place : ℕ) → place < begun → (closed : Closed) × (slice_get ends place ≡ Some (Some closed))

-- the name of no lock, and a hub without anything
abbrev pub no_lock : TableId
no_lock = record { words = 0; slots = 0; views_name = 0; atom = 0; block = 0; offset = 0; slot_names = [] }

abbrev pub no_hub : Hub
no_hub = record { config = no_settings; dex = no_tables; hall = no_lock; chats = []; battles = [] }
