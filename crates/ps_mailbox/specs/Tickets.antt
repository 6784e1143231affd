-- What contracts see of a ticket and of a drain, and how the calls change it.
use Rattle.std.specs.Prelude.{◌≡◌, ℕ, ◌+◌, ◌<◌, List, [], ◌∷◌, ◌++◌}
use Rattle.std.specs.declared.alloc.Global.{Global}
use Rattle.crossbeam_queue.specs.SegTies.{SegId}
use Rattle.ps_mailbox.specs.declared.view.Numbered.{Numbered}
use Rattle.ps_mailbox.specs.declared.view.Met.{Met}
use Rattle.ps_mailbox.specs.Posts.{numbered}

-- A ticket: its mailbox, the number under which it posts, and what was posted with it, the oldest first. The numbers above its own
-- and below `end` are its to give away
pub record Sender (T : Type 0) : Type 0 where
  pub mailbox : SegId Global
  pub number : ℕ
  pub end : ℕ
  pub posted : List T

-- A drain: its mailbox, what was taken, the oldest first, the tickets that it has met with all that was posted with them, and how
-- often nothing was there to take
pub record Receiver (T : Type 0) : Type 0 where
  pub mailbox : SegId Global
  pub taken : List (Numbered T)
  pub met : List (Met T)
  pub empties : ℕ

module _ {T : Type 0} where
  -- the first ticket of a mailbox, which has all numbers of 64 bits but the last
  abbrev pub new_sender : SegId Global → Sender T
  new_sender mailbox = record { mailbox = mailbox; number = 0; end = 18446744073709551615; posted = [] }

  -- the drain of a mailbox that is new
  abbrev pub new_receiver : SegId Global → Receiver T
  new_receiver mailbox = record { mailbox = mailbox; taken = []; met = []; empties = 0 }

  -- One ticket becomes two. The new one has a number that was the old one's to give away, and nothing was posted with it; what is left
  -- to give away is parted between them at that number
  pub record IsSplit (old new other : Sender T) : Type 0 where
    pub above : old.number < other.number
    pub below : other.number < old.end
    pub kept : new ≡ record old { end = other.number }
    pub given : other ≡ record { mailbox = old.mailbox; number = other.number; end = old.end; posted = [] }

  abbrev pub after_post : Sender T → T → Sender T
  after_post ticket post = record ticket { posted = ticket.posted ++ post ∷ [] }

  -- a post of the ticket with this number was taken
  abbrev pub after_take : Receiver T → ℕ → T → Receiver T
  after_take drain number post = record drain { taken = drain.taken ++ numbered number post ∷ [] }

  -- nothing was there to take
  abbrev pub after_empty : Receiver T → Receiver T
  after_empty drain = record drain { empties = drain.empties + 1 }

  -- it has met this ticket
  abbrev pub after_meeting : Receiver T → Sender T → Receiver T
  after_meeting drain ticket = record drain { met = drain.met ++ record { number = ticket.number; posted = ticket.posted } ∷ [] }
