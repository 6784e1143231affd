-- What the passes of tickets and of a drain know of the queue, and how each kind of step changes it: for the code alone.
use Rattle.std.specs.Prelude.{◌≡◌, ℕ, ◌+◌, ◌-◌, ◌/◌, ◌<◌, ◌≤◌, true, false, List, [], ◌∷◌, ◌++◌, length}
use Rattle.std.specs.declared.alloc.Global.{Global}
use Rattle.crossbeam_queue.specs.SegTies.{SegId}
use Rattle.ps_mailbox.specs.declared.view.Numbered.{Numbered}
use Rattle.ps_mailbox.specs.declared.view.Met.{Met}
use Rattle.ps_mailbox.specs.declared.view.View.{View}
use Rattle.ps_mailbox.specs.declared.mailbox.TheConstants.{MOST_POSTS}
use Rattle.ps_mailbox.specs.Tickets.{Sender, Receiver}

module _ {T : Type 0} where
  -- who may do nothing: what is left of a ticket that was met
  abbrev pub nobody : View T
  nobody = record { sends = false; number = 0; end = 0; posted = []; takes = false; taken = []; met = []; empties = 0 }

  -- who may post
  abbrev pub poster : ℕ → ℕ → List T → View T
  poster number end posted = record nobody { sends = true; number = number; end = end; posted = posted }

  -- who may take
  abbrev pub taker : List (Numbered T) → List (Met T) → ℕ → View T
  taker taken met empties = record nobody { takes = true; taken = taken; met = met; empties = empties }

  -- the first ticket
  abbrev pub first_poster : View T
  first_poster = poster 0 18446744073709551615 []

  -- the drain of a queue that is new
  abbrev pub first_taker : View T
  first_taker = taker [] [] 0

  -- who may do both, before the first ticket and the drain are two
  abbrev pub founder : View T
  founder = record first_poster { takes = true }

  -- the view of a ticket with this number, these numbers to give away, and so many posts
  abbrev pub IsPoster : ℕ → ℕ → ℕ → View T → Type 0
  IsPoster number end posts view = (view ≡ poster number end view.posted) × (number < end) × (posts ≡ length view.posted)
      × (posts ≤ MOST_POSTS)

  -- the view of a drain
  abbrev pub IsTaker : View T → Type 0
  IsTaker view = view ≡ taker view.taken view.met view.empties

  -- what contracts see of a ticket and of a drain with this view
  abbrev pub sender_of : SegId Global → ℕ → ℕ → View T → Sender T
  sender_of mailbox number end view = record { mailbox = mailbox; number = number; end = end; posted = view.posted }

  abbrev pub receiver_of : SegId Global → View T → Receiver T
  receiver_of mailbox view = record { mailbox = mailbox; taken = view.taken; met = view.met; empties = view.empties }

  -- The number of a ticket that is split off. With it goes a 65,536th part of the numbers, and one at least, from their end
  abbrev pub number_of_new : View T → ℕ
  number_of_new view = view.end - ((view.end - view.number - 1) / 65536 + 1)

  -- the two views after a split
  abbrev pub kept : View T → View T
  kept view = record view { end = number_of_new view }

  abbrev pub given : View T → View T
  given view = poster (number_of_new view) view.end []

  abbrev pub posting : View T → T → View T
  posting view post = record view { posted = view.posted ++ post ∷ [] }

  abbrev pub taking : View T → Numbered T → View T
  taking view post = record view { taken = view.taken ++ post ∷ [] }

  -- it has found nothing
  abbrev pub counting : View T → View T
  counting view = record view { empties = view.empties + 1 }

  -- the drain has met a ticket
  abbrev pub meeting : View T → View T → View T
  meeting drain ticket = record drain { met = drain.met ++ record { number = ticket.number; posted = ticket.posted } ∷ [] }
