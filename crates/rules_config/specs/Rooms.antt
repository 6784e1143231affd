-- The chat rooms of a configuration.
use Rattle.std.specs.Prelude.{ℕ, Bool, List, [], ◌∷◌, codes, Result, Ok, nat_le}
use Rattle.std.specs.List.{list_all}
use Rattle.std.specs.Str.{chars}
use Rattle.serde_json.specs.Data.{Data}
use Rattle.ps_data.specs.declared.fault.DataKind.TheVariants.{Range}
use Rattle.ps_data.specs.declared.fault.Fault.{Fault}
use Rattle.ps_data.specs.Reading.{◌>>=◌, ensure, required, optional}
use Rattle.ps_data.specs.Forms.{object_in, text_in}
use Rattle.ps_data.specs.Lists.{list_in}
use Rattle.ps_data.specs.OwnIds.{own_id_in}
use Rattle.rules_config.specs.declared.settings.ChatRoom.{ChatRoom}
use Rattle.ps_base.specs.Characters as characters

-- the room where a configuration names none
abbrev pub lobby : ChatRoom
lobby = record { id = codes "lobby"; title = codes "Lobby" }

-- no control character below the space; a title may be empty
unfoldable pub is_title : List ℕ → Bool
is_title text = list_all (λ char. nat_le characters.space char) (chars text)

unfoldable pub title_in : Data → Result (List ℕ) Fault
title_in value = do
  text ← text_in value
  _ ← ensure Range (is_title text)
  Ok text

unfoldable pub room_in : List ChatRoom → Data → Result ChatRoom Fault
room_in before value = do
  _ ← object_in value
  id ← required (codes "id") (own_id_in (λ room. room.id) before) value
  title ← required (codes "title") title_in value
  Ok (record { id = id; title = title })

-- one to sixteen rooms, and the lobby where the key is missing
unfoldable pub rooms_at : Data → Result (List ChatRoom) Fault
rooms_at value = optional (codes "rooms") (lobby ∷ []) (list_in 1 16 (λ before after. room_in before)) value
