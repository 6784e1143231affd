-- What a link holds, what its calls make of it, and when they may answer what.
use Rattle.std.specs.Prelude.{◌≡◌, ℕ, ◌+◌, List, [], ◌∷◌, ◌++◌, Option, Some, None, Result, Ok, Err, Bool, true, false}
use Rattle.ps_outside.specs.Files.{OnlyRose}
use Rattle.ps_outside.specs.declared.link.Next.{Next}
use Rattle.ps_outside.specs.declared.link.Next.TheVariants.{Text, Quiet, End, Failed, NoMemory}
use Rattle.ps_outside.specs.declared.link.SendEnd.{SendEnd}
use Rattle.ps_outside.specs.declared.link.SendEnd.TheVariants.{Failed as SendFailed, NoMemory as SendNoMemory}
use Rattle.ps_outside.specs.declared.link.Arrival.{Arrival}
use Rattle.ps_outside.specs.declared.link.Arrival.TheVariants.{Text as TextItem, Quiet as QuietMark}
use Rattle.ps_outside.specs.declared.link.SentText.{SentText}

-- the inbox that is left, how many Texts and Quiets were answered, and the texts that were sent
pub record Talk : Type 0 where
  pub inbox : List Arrival
  pub answers : ℕ
  pub sent : List SentText

-- the talk of a link that holds this inbox, before its first call
abbrev pub new_talk : List Arrival → Talk
new_talk inbox = record { inbox = inbox; answers = 0; sent = [] }

-- the items behind the first
abbrev pub behind_first : List Arrival → List Arrival
behind_first [] = []
behind_first (item ∷ rest) = rest

-- what an answer says of the inbox: Text and Quiet are its first item, and at End it is empty
abbrev pub IsAnswer : List Arrival → Next → Type 0
IsAnswer inbox (Text bytes) = inbox ≡ TextItem bytes.items ∷ behind_first inbox
IsAnswer inbox Quiet = inbox ≡ QuietMark ∷ behind_first inbox
IsAnswer inbox End = inbox ≡ []
IsAnswer inbox Failed = Unit {0}
IsAnswer inbox NoMemory = Unit {0}

-- the same, where the talk is known
abbrev pub IsNext : Option Talk → Next → Type 0
IsNext None next = Unit {0}
IsNext (Some talk) next = IsAnswer talk.inbox next

-- a Text and a Quiet take the first item and are counted, and the other answers leave all as it is
abbrev pub talk_after : Next → Talk → Talk
talk_after (Text bytes) talk = record talk { inbox = behind_first talk.inbox; answers = talk.answers + 1 }
talk_after Quiet talk = record talk { inbox = behind_first talk.inbox; answers = talk.answers + 1 }
talk_after End talk = talk
talk_after Failed talk = talk
talk_after NoMemory talk = talk

-- the same, where the talk is known
abbrev pub after_next : Next → Option Talk → Option Talk
after_next next None = None
after_next next (Some talk) = Some (talk_after next talk)

-- a text behind those that were sent, with the count of answers before it
abbrev pub with_text : List ℕ → Talk → Talk
with_text text talk = record talk { sent = talk.sent ++ record { text = text; after = talk.answers } ∷ [] }

-- what was sent is kept, where the talk is known
abbrev pub after_text : List ℕ → Option Talk → Option Talk
after_text text None = None
after_text text (Some talk) = Some (with_text text talk)

-- a send that fails has sent nothing
abbrev pub after_send : {T : Type 0} → Result T SendEnd → List ℕ → Option Talk → Option Talk
after_send (Ok done) text told = after_text text told
after_send (Err end) text told = told

-- how often a call failed, nothing had come, and the link was at its end
pub record LinkCounts : Type 0 where
  pub faults : ℕ
  pub quiets : ℕ
  pub ends : ℕ

abbrev pub no_link_counts : LinkCounts
no_link_counts = record { faults = 0; quiets = 0; ends = 0 }

-- Quiet, End and Failed raise each its own count alone, and no other answer raises any
abbrev pub HasNextCause : LinkCounts → LinkCounts → Next → Type 0
HasNextCause old new (Text bytes) = new ≡ old
HasNextCause old new Quiet = OnlyRose old.quiets new.quiets old.faults new.faults old.ends new.ends
HasNextCause old new End = OnlyRose old.ends new.ends old.faults new.faults old.quiets new.quiets
HasNextCause old new Failed = OnlyRose old.faults new.faults old.quiets new.quiets old.ends new.ends
HasNextCause old new NoMemory = new ≡ old

-- a send raises the count of faults alone, and only where it failed
abbrev pub HasSendCause : {T : Type 0} → LinkCounts → LinkCounts → Result T SendEnd → Type 0
HasSendCause old new (Ok done) = new ≡ old
HasSendCause old new (Err SendFailed) = OnlyRose old.faults new.faults old.quiets new.quiets old.ends new.ends
HasSendCause old new (Err SendNoMemory) = new ≡ old

-- whether an answer is Failed
abbrev pub has_failed : Next → Bool
has_failed (Text bytes) = false
has_failed Quiet = false
has_failed End = false
has_failed Failed = true
has_failed NoMemory = false

abbrev pub has_send_failed : {T : Type 0} → Result T SendEnd → Bool
has_send_failed (Ok done) = false
has_send_failed (Err SendFailed) = true
has_send_failed (Err SendNoMemory) = false

-- what a link in memory that never fails holds
pub record SureTalk : Type 0 where
  pub talk : Talk
  pub quiets : ℕ
  pub ends : ℕ

-- it has no faults
abbrev pub sure_counts : SureTalk → LinkCounts
sure_counts link = record { faults = 0; quiets = link.quiets; ends = link.ends }

-- what a link in memory holds, how often each call was made, and the calls that fail
pub record MemTalk : Type 0 where
  pub talk : Talk
  pub counts : LinkCounts
  pub next_calls : ℕ
  pub send_calls : ℕ
  pub failing_next : List ℕ
  pub failing_send : List ℕ
