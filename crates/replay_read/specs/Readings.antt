-- What a reader finds in a transcript: the texts that each connection was sent, and which of them came from which place. A text is the
-- lines of a message, parted by newlines, as a server sends it.
use Rattle.std.specs.Prelude.{◌≡◌, ◌≢◌, ℕ, ◌<◌, ◌≤◌, ◌==◌, ◌^◌, Bool, false, List, [], ◌∷◌, ◌++◌, length, map, codes}
use Rattle.std.specs.Prelude.{option_map, option_to_list, Option, Some, None, if◌then◌else◌}
use Rattle.std.specs.List.{filter_map, flat_map, slice_split}
use Rattle.std.specs.Option.{option_map_or}
use Rattle.std.specs.Fmt.{decimal}
use Rattle.ps_base.specs.Characters as characters
use Rattle.ps_base.specs.Cuts.{after_front}
use Rattle.ps_base.specs.Messages.{sent, joined}
use Rattle.ps_room.specs.Stories.{Story, view_of}
use Rattle.replay_script.specs.declared.item.Item.{Item}
use Rattle.replay_script.specs.Scripts.{IsScript}
use Rattle.replay_drill.specs.Plain.{HasPlainFormats}
use Rattle.program_commands.specs.Rooms.{HasOwnRooms}
use Rattle.replay_state.specs.Setup.{Setup}
use Rattle.replay_state.specs.Worlds.{World, in_hall, story_at, world_view}
use Rattle.replay_state.specs.Entries.{world_of}
use Rattle.replay_state.specs.Transcript.{HasNoNewline, Message, Sign, told, over, message_in, with_id, messages, print_sign, output}

-- ---- the texts of a connection

-- the parts of a transcript between its newlines
abbrev pub lines_of : List ℕ → List (List ℕ)
lines_of bytes = slice_split (λ byte. byte == characters.newline) bytes

-- what stands before a text to a connection, and where the text goes on behind a newline
abbrev pub front_of_text : ℕ → List ℕ
front_of_text conn = decimal conn ++ codes "< "

abbrev pub front_of_rest : ℕ → List ℕ
front_of_rest conn = decimal conn ++ codes ". "

-- how a text goes on in these lines, up to the first that doesn't begin so
abbrev pub rest_in : ℕ → List (List ℕ) → List ℕ
rest_in conn [] = []
rest_in conn (line ∷ lines) = option_map_or (λ part. characters.newline ∷ part ++ rest_in conn lines)
    (after_front (front_of_rest conn) line) []

-- the texts that begin in these lines
abbrev pub texts_in : ℕ → List (List ℕ) → List (List ℕ)
texts_in conn [] = []
texts_in conn (line ∷ lines) = option_to_list (option_map (λ part. part ++ rest_in conn lines) (after_front (front_of_text conn) line))
    ++ texts_in conn lines

-- all texts to a connection, in order; other lines are passed over
abbrev pub texts_read : ℕ → List ℕ → List (List ℕ)
texts_read conn bytes = texts_in conn (lines_of bytes)

-- ---- the place of a text

-- a text from a room begins with the line `>ID`; what is behind it
abbrev pub text_of_room : List ℕ → List ℕ → Option (List ℕ)
text_of_room id text = after_front (codes ">" ++ id ++ characters.newline ∷ []) text

-- no text from the hall begins with `>`
abbrev pub begins_with_greater : List ℕ → Bool
begins_with_greater [] = false
begins_with_greater (byte ∷ bytes) = byte == characters.greater_than

abbrev pub text_of_hall : List ℕ → Option (List ℕ)
text_of_hall text = if begins_with_greater text then None else Some text

-- those of them that are from there, in order
abbrev pub texts_of_room : List ℕ → List (List ℕ) → List (List ℕ)
texts_of_room id texts = filter_map (text_of_room id) texts

abbrev pub texts_of_hall : List (List ℕ) → List (List ℕ)
texts_of_hall texts = filter_map text_of_hall texts

-- ---- reading back

-- the text of a message, where it is one to this connection
abbrev pub text_to : ℕ → Message → List (List ℕ)
text_to conn message = if message.conn == conn then map joined (sent (with_id message.id message.lines)) else []

-- The numbers of these connections have 32 bits.
abbrev pub AreNumbered : List Sign → Type 0
AreNumbered [] = Unit {0}
AreNumbered (told message ∷ signs) = (message.conn < 2 ^ 32) × AreNumbered signs
AreNumbered (over conn ∷ signs) = (conn < 2 ^ 32) × AreNumbered signs

-- Whatever is printed of messages, a reader finds those to a connection in it, in order, each as one text, and nothing else.
abbrev pub PrintsToBeRead : Type 0
PrintsToBeRead = (conn : ℕ) (signs : List Sign) → conn < 2 ^ 32 → AreNumbered signs
    → texts_read conn (flat_map print_sign signs) ≡ flat_map (text_to conn) (filter_map message_in signs)

-- the id of no room of a world
abbrev pub IsNoRoom : World → List ℕ → Type 0
IsNoRoom world id = (number : ℕ) (story : Story) → story_at number world ≡ Some story → story.opening.id ≢ id

-- What was printed of a script is read back, for each connection, whose number has 32 bits: all messages to it, each as one text; from
-- the hall, and from each room, which is found by its id, the messages of its view there; and nothing from any other room.
pub record IsReadBack (setup : Setup) (items : List Item) : Type 0 where
  pub all : (conn : ℕ) → conn < 2 ^ 32 → texts_read conn (output setup items) ≡ flat_map (text_to conn) (messages setup items)
  pub hall : (conn : ℕ) → conn < 2 ^ 32
      → texts_of_hall (texts_read conn (output setup items)) ≡ map joined (world_view conn in_hall (world_of setup items))
  pub room : (conn number : ℕ) (story : Story) → conn < 2 ^ 32 → story_at number (world_of setup items) ≡ Some story
      → texts_of_room story.opening.id (texts_read conn (output setup items)) ≡ map joined (view_of conn story)
  pub nowhere : (conn : ℕ) (id : List ℕ) → conn < 2 ^ 32 → HasNoNewline id → IsNoRoom (world_of setup items) id
      → texts_of_room id (texts_read conn (output setup items)) ≡ []

-- so it is of each script, where each of at most sixteen chat rooms has an id of its own, and formats have plain ones, as in each
-- configuration that a command reads
abbrev pub ReadsBack : Type 0
ReadsBack = (setup : Setup) (symbols bytes : List ℕ) (items : List Item) → IsScript symbols bytes items → HasOwnRooms setup.config
    → HasPlainFormats setup.config → length setup.config.rooms ≤ 16 → IsReadBack setup items
