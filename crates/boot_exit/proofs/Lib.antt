mod ExitLemmas
mod RoomLemmas
