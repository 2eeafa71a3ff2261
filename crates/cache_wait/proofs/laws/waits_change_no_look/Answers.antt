use Rattle.cache_wait.proofs.Waiting.{key_waits, room_waits}
use Rattle.cache_wait.proofs.laws.waits_change_no_look.Goals as goal

pub returns-clause-key : goal.returns-clause-key
returns-clause-key c = key_waits

pub returns-clause-room : goal.returns-clause-room
returns-clause-room c = room_waits
