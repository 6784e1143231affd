-- Worlds that are the same to a connection give it equal blocks.
use Rattle.std.proofs.Common.{◌≡◌, ℕ, List, [], Option, sym, ap, ◌∙◌}
use Rattle.std.specs.Option.{option_map_or}
use Rattle.ps_dex.specs.declared.item.Tables.{Tables}
use Rattle.rules_config.specs.declared.settings.Settings.{Settings}
use Rattle.ps_room.specs.Stories.{Story, view_of}
use Rattle.ps_laws.proofs.RoomLemmas.{views_are_equal}
use Rattle.ps_laws.proofs.HallHistoryLemmas.{hall_views_are_equal}
use Rattle.replay_script.specs.declared.item.Item.{Item}
use Rattle.replay_script.specs.Scripts.{IsScript}
use Rattle.replay_state.specs.Setup.{setup_of}
use Rattle.replay_state.specs.Worlds.{Place, in_hall, in_room, World, world_view}
use Rattle.replay_state.specs.Entries.{run_opening, world_of}
use Rattle.replay_state.specs.TwoWorlds.{hall_of, AreSameIn, AreSameAt, HasEqualBlocks}
use Rattle.replay_state.proofs.BlockLemmas.{AreOwn, blocks_of_own, blocks_of}

room_views : (number conn : ℕ) (one two : World) → AreSameIn number conn one two → world_view conn (in_room number) one ≡ world_view conn (in_room number) two
room_views number conn one two same =
    ap (λ (o : Option Story). option_map_or (view_of conn) o []) same.first_is
    ∙ views_are_equal conn same.first same.second same.same
    ∙ sym (ap (λ (o : Option Story). option_map_or (view_of conn) o []) same.second_is)

views : (place : Place) (conn : ℕ) (one two : World) → AreSameAt place conn one two → world_view conn place one ≡ world_view conn place two
views in_hall conn one two same = hall_views_are_equal conn (hall_of one) (hall_of two) same
views (in_room number) conn one two same = room_views number conn one two same

pub equal_blocks_own : (config : Settings) (dex : Tables) (items : List Item) → AreOwn (run_opening (setup_of config dex items)) items → HasEqualBlocks config dex items
equal_blocks_own config dex items own others conn place same =
    blocks_of_own (setup_of config dex items) items own conn place ∙ views place conn (world_of (setup_of config dex items) items) (world_of (setup_of config dex others) others) same

pub equal_blocks : (config : Settings) (dex : Tables) (symbols bytes : List ℕ) (items : List Item) → IsScript symbols bytes items → HasEqualBlocks config dex items
equal_blocks config dex symbols bytes items script others conn place same =
    blocks_of (setup_of config dex items) symbols bytes items script conn place ∙ views place conn (world_of (setup_of config dex items) items) (world_of (setup_of config dex others) others) same
