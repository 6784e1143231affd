-- Two worlds: a connection's block from a place is the same under every script whose world there is the same to it.
use Rattle.std.specs.Prelude.{◌≡◌, ℕ, List, Some}
use Rattle.ps_dex.specs.declared.item.Tables.{Tables}
use Rattle.rules_config.specs.declared.settings.Settings.{Settings}
use Rattle.ps_room.specs.Stories.{Story}
use Rattle.ps_laws.specs.Same.{AreSame}
use Rattle.ps_laws.specs.HallStories.{HallStory, hall_story}
use Rattle.ps_laws.specs.HallSame.{AreHallsSame}
use Rattle.replay_script.specs.declared.item.Item.{Item}
use Rattle.replay_state.specs.Setup.{setup_of}
use Rattle.replay_state.specs.Worlds.{Place, in_hall, in_room, World, story_at, world_view}
use Rattle.replay_state.specs.Entries.{world_of}
use Rattle.replay_state.specs.Transcript.{messages, block}

-- the hall of a world
abbrev pub hall_of : World → HallStory
hall_of world = hall_story (record { config = world.setup.config; dex = world.setup.dex; ranks = world.setup.ranks }) world.hall

-- both worlds have the room, and it is the same to a connection
pub record AreSameIn (number conn : ℕ) (one two : World) : Type 0 where
  pub first : Story
  pub first_is : story_at number one ≡ Some first
  pub second : Story
  pub second_is : story_at number two ≡ Some second
  pub same : AreSame conn first second

-- two worlds are the same to a connection at a place: in the hall, in a chat room, or in the room of a battle
abbrev pub AreSameAt : Place → ℕ → World → World → Type 0
AreSameAt in_hall conn one two = AreHallsSame conn (hall_of one) (hall_of two)
AreSameAt (in_room number) conn one two = AreSameIn number conn one two

-- each connection's block from each place is its view over the world there of every other script under the same files, where
-- that world is the same to it
abbrev pub HasEqualBlocks : Settings → Tables → List Item → Type 0
HasEqualBlocks config dex items = (others : List Item) (conn : ℕ) (place : Place)
    → AreSameAt place conn (world_of (setup_of config dex items) items) (world_of (setup_of config dex others) others)
    → block conn place (messages (setup_of config dex items) items) ≡ world_view conn place (world_of (setup_of config dex others) others)
