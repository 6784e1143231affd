-- Which connections an entry names, and where each is named first, for the code's lookups alone: before that, who is outside is
-- shown nothing.
use Rattle.std.specs.Prelude.{◌≡◌, ℕ, suc, ◌-◌, nat_lt, ◌==◌, ◌||◌}
use Rattle.std.specs.Prelude.{Bool, false, List, length, take, drop, Option, Some, None, if◌then◌else◌}
use Rattle.std.specs.List.{list_any}
use Rattle.std.specs.Ordering.{nat_cmp}
use Rattle.std.specs.BTreeMap.{BTreeMap, get}
use Rattle.ps_event.specs.declared.audience.Audience.{Audience}
use Rattle.ps_event.specs.declared.audience.Audience.TheVariants as audiences
use Rattle.ps_view.specs.declared.role.Role.{Role}
use Rattle.ps_view.specs.declared.role.Role.TheVariants.{Outside}
use Rattle.ps_splitlog.specs.declared.stored.Stored.{Stored}
use Rattle.ps_splitlog.specs.declared.stored.Stored.TheVariants.{Same, Split}
use Rattle.ps_splitlog.specs.declared.entry.Joined.{Joined}
use Rattle.ps_splitlog.specs.declared.entry.LogEntry.{LogEntry}
use Rattle.ps_splitlog.specs.Reads.{messages_of}

-- ---- who is named

abbrev pub owner_in : Audience → Option ℕ
owner_in (audiences.One conn) = Some conn
owner_in audiences.All = None
owner_in (audiences.Split side) = None
owner_in (audiences.Side side) = None
owner_in (audiences.Rank lowest) = None

-- the connection that alone sees a line, if it is for one alone
abbrev pub owner_of : Stored → Option ℕ
owner_of (Same audience logged text) = owner_in audience
owner_of (Split side logged secret public) = None

abbrev pub joiner_by : ℕ → Option Joined → Option ℕ
joiner_by conn None = None
joiner_by conn (Some joined) = Some conn

-- the connection that joins by an entry, if one does
abbrev pub joiner_of : LogEntry → Option ℕ
joiner_of entry = joiner_by entry.conn entry.join

abbrev pub is_that : ℕ → Option ℕ → Bool
is_that reader None = false
is_that reader (Some conn) = conn == reader

abbrev pub is_owner : ℕ → Stored → Bool
is_owner reader line = is_that reader (owner_of line)

abbrev pub is_given : ℕ → ℕ × Role → Bool
is_given reader change = change.0 == reader

-- whether it joins by the entry, one of the lines is for it alone, or it is given a role
abbrev pub is_named : ℕ → LogEntry → Bool
is_named reader entry = is_that reader (joiner_of entry) || list_any (is_owner reader) entry.lines || list_any (is_given reader) entry.roles

-- ---- where

abbrev pub first_or : Option ℕ → ℕ → ℕ
first_or None count = count
first_or (Some first) count = if nat_lt first count then first else count

-- how many of so many entries come before the one at which it was noted
abbrev pub first_for : BTreeMap ℕ ℕ → ℕ → ℕ → ℕ
first_for firsts count reader = first_or (get nat_cmp firsts reader) count

-- of the first so many entries, none that comes before the one at which a connection was noted names it
abbrev pub AreFirsts : ℕ → List LogEntry → BTreeMap ℕ ℕ → Type 0
AreFirsts count log firsts = (reader : ℕ) → list_any (is_named reader) (take (first_for firsts count reader) log) ≡ false

-- of all entries but the last
abbrev pub HasFirsts : List LogEntry → BTreeMap ℕ ℕ → Type 0
HasFirsts log firsts = AreFirsts (length log - 1) log firsts

-- the messages of the entries from this one on
abbrev pub messages_from : ℕ → Role → ℕ → List LogEntry → List (List (List ℕ))
messages_from conn role at log = messages_of conn role (take at log) (drop at log)

-- who is outside and has passed none, of the first so many entries that don't name it
pub record IsUnnamed (reader : ℕ) (role : Role) (at count : ℕ) (log : List LogEntry) : Type 0 where
  pub outside : role ≡ Outside
  pub begins : at ≡ 0
  pub none : list_any (is_named reader) (take count log) ≡ false

-- ---- what is noted at the entry behind so many

-- whoever is noted, of these entries it is the same
abbrev pub IsSameBefore : ℕ → BTreeMap ℕ ℕ → BTreeMap ℕ ℕ → Type 0
IsSameBefore entry old new = (reader : ℕ) → first_for new entry reader ≡ first_for old entry reader

-- noted there is who passes the test
abbrev pub AreNoted : (ℕ → Bool) → ℕ → BTreeMap ℕ ℕ → BTreeMap ℕ ℕ → Type 0
AreNoted test entry old new = (reader : ℕ)
    → first_for new (suc entry) reader ≡ (if test reader then first_for old entry reader else first_for old (suc entry) reader)
