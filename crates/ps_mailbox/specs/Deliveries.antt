-- The rule of a mailbox.
use Rattle.std.specs.Prelude.{◌≡◌, ◌≢◌, ◌⊎◌, ℕ, ◌<◌, ◌≤◌, true, List, [], ◌++◌, All}
use mathlib.Core.Option.{some}
use lib.ListN.{get_elem?}
use Rattle.ps_mailbox.specs.declared.view.Numbered.{Numbered}
use Rattle.ps_mailbox.specs.declared.view.Met.{Met}
use Rattle.ps_mailbox.specs.declared.view.View.{View}
use Rattle.ps_mailbox.specs.Posts.{posts_of}

module _ {T : Type 0} where
  -- of a ticket: what was taken and is queued with its number is, in order, what was posted with it, and with the numbers that are its
  -- to give away nothing was posted
  pub record Sends (all : List (Numbered T)) (ticket : View T) : Type 0 where
    pub has_number : ticket.number < ticket.end
    pub own : posts_of ticket.number all ≡ ticket.posted
    pub unused : (number : ℕ) → ticket.number < number → number < ticket.end → posts_of number all ≡ []

  -- the number is neither the ticket's nor its to give away
  abbrev pub IsOutside : ℕ → View T → Type 0
  IsOutside number ticket = (number < ticket.number) ⊎ (ticket.end ≤ number)

  -- two tickets have no number in common, of their own or to give away
  abbrev pub AreApart : View T → View T → Type 0
  AreApart ticket other = (ticket.end ≤ other.number) ⊎ (other.end ≤ ticket.number)

  -- no two tickets have a number in common
  abbrev pub AreAllApart : List (View T) → Type 0
  AreAllApart views =
      (index other_index : ℕ) (ticket other : View T) → index ≢ other_index → get_elem? views index ≡ some ticket
      → get_elem? views other_index ≡ some other → ticket.sends ≡ true → other.sends ≡ true
      → AreApart ticket other

  -- of a ticket that the drain has met: what was taken and is queued with its number is what was posted with it, and no ticket has
  -- its number any more
  pub record IsGone (all : List (Numbered T)) (views : List (View T)) (ticket : Met T) : Type 0 where
    pub own : posts_of ticket.number all ≡ ticket.posted
    pub nobodys : (index : ℕ) (other : View T) → get_elem? views index ≡ some other → other.sends ≡ true → IsOutside ticket.number other

  -- of the drain: nobody else takes, it knows what was taken, and the tickets that it has met are gone
  pub record Takes (place : ℕ) (taken all : List (Numbered T)) (views : List (View T)) (index : ℕ) (drain : View T) : Type 0 where
    pub only : index ≡ place
    pub knows : drain.taken ≡ taken
    pub gone : All (IsGone all views) drain.met

  -- Between any two steps: the posts that are queued, the oldest first, and what every ticket and the drain know. There is a list of what
  -- was taken, which only the drain at its place has made
  pub record Delivers (items : List (Numbered T)) (views : List (View T)) : Type 0 where
    pub place : ℕ
    pub taken : List (Numbered T)
    pub senders : (index : ℕ) (view : View T) → get_elem? views index ≡ some view → view.sends ≡ true → Sends (taken ++ items) view
    pub apart : AreAllApart views
    pub takers : (index : ℕ) (view : View T) → get_elem? views index ≡ some view → view.takes ≡ true
        → Takes place taken (taken ++ items) views index view
