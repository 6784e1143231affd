-- How a connection is told of the hall and of rooms.
use Rattle.server_pass.specs.Tellings.{Telling}
use Rattle.ps_hall.specs.declared.entry.HallEntry.{HallEntry}
use Rattle.server_places.specs.declared.command.RoomCmd.{RoomCmd}
use Rattle.server_places.specs.declared.cursor.HallCursor.{HallCursor}
use Rattle.server_places.specs.declared.cursor.RoomCursor.{RoomCursor}
use Rattle.server_places.specs.declared.site.Root.{Root}
use Rattle.server_places.specs.declared.site.Site.{Site}
use Rattle.server_places.specs.Halls.{HallShows, HallStandsAt, hall_bounded}
use Rattle.server_places.specs.Rooms.{Shows, StandsAt, bounded}

abbrev pub hall_telling : Telling Root HallEntry HallCursor
hall_telling = record { shows = HallShows; stands_at = HallStandsAt; passed = λ cursor. cursor.passed; bounded = hall_bounded }

abbrev pub room_telling : Telling Site RoomCmd RoomCursor
room_telling = record { shows = Shows; stands_at = StandsAt; passed = λ cursor. cursor.passed; bounded = bounded }
