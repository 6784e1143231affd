-- The words of a server that stays up.
use Rattle.std.specs.Prelude.{ℕ, ◌+◌, ◌-◌, Bool, true, false, ◌&&◌, nat_le, List, [], ◌∷◌, codes, Option, Some, None, Result, Ok, Err}
use Rattle.std.specs.Prelude.{◌==◌, if◌then◌else◌}
use Rattle.std.specs.NonZero.{non_zero_u32_get}
use Rattle.std.specs.Option.{option_copied, option_map, is_some, unwrap_or}
use Rattle.std.specs.Str.{bytes_eq}
use Rattle.ps_base.specs.Numbers.{number_in}
use Rattle.program_commands.specs.Words.{Options, is_name, options_of}
use Rattle.server_accept.specs.declared.always_words.AlwaysWords.{AlwaysWords}
use Rattle.server_accept.specs.declared.always_words.FurtherWords.{FurtherWords}
use Rattle.server_accept.specs.declared.always_words.WordReading.{WordReading}
use Rattle.server_accept.specs.declared.always_words.Wants.{Wants}
use Rattle.server_accept.specs.declared.always_words.Wants.TheVariants.{AnOption, AtOnce, Ping, Rate, DexName, ConfigName}

-- what it is asked for: at an address, so many connections at once, pings after so many seconds of silence, so many messages of a
-- client a second, if there is a bound, whether it ends with standard input, whether it tells its operator what happens, and these
-- files
pub record Stays : Type 0 where
  pub address : List ℕ
  pub at_once : ℕ
  pub ping : ℕ
  pub rate : Option ℕ
  pub stops_at_end : Bool
  pub logs : Bool
  pub options : Options

-- what its further words have said so far
pub record Further : Type 0 where
  pub at_once : Option ℕ
  pub ping : Option ℕ
  pub rate : Option ℕ
  pub stops_at_end : Bool
  pub logs : Bool
  pub dex : Option (List ℕ)
  pub config : Option (List ℕ)

-- and which word may come next: an option, or the value of the one before
pub record Reading : Type 0 where
  pub further : Further
  pub wants : Wants

abbrev pub nothing_said : Reading
nothing_said = record {
  further = record {
    at_once = None;
    ping = None;
    rate = None;
    stops_at_end = false;
    logs = false;
    dex = None;
    config = None;
  };
  wants = AnOption;
}

-- ---- values

abbrev pub within : ℕ → ℕ → Option ℕ → Option ℕ
within least most None = None
within least most (Some number) = if nat_le least number && nat_le number most then Some number else None

-- each as its one decimal text: connections at once, seconds of silence, and messages a second
abbrev pub at_once_in : List ℕ → Option ℕ
at_once_in word = within 1 16384 (number_in word)

abbrev pub ping_in : List ℕ → Option ℕ
ping_in word = within 1 3600 (number_in word)

abbrev pub rate_in : List ℕ → Option ℕ
rate_in word = within 0 10000 (number_in word)

-- the bound that a number of messages a second is: 0 is none
abbrev pub bound_of : ℕ → Option ℕ
bound_of number = if number == 0 then None else Some number

abbrev pub name_in : List ℕ → Option (List ℕ)
name_in word = if is_name word then Some word else None

-- ---- one word

-- what was said by an option, if it wasn't said before
abbrev pub asks : Bool → Further → Wants → Option Reading
asks was_said further wants = if was_said then None else Some (record { further = further; wants = wants })

abbrev pub option_in : Further → List ℕ → Option Reading
option_in further word =
    if bytes_eq word (codes "--at-once") then asks (is_some further.at_once) further AtOnce
    else (if bytes_eq word (codes "--ping") then asks (is_some further.ping) further Ping
    else (if bytes_eq word (codes "--rate") then asks (is_some further.rate) further Rate
    else (if bytes_eq word (codes "--stop-at-end") then asks further.stops_at_end (record further { stops_at_end = true }) AnOption
    else (if bytes_eq word (codes "--log") then asks further.logs (record further { logs = true }) AnOption
    else (if bytes_eq word (codes "--dex") then asks (is_some further.dex) further DexName
    else (if bytes_eq word (codes "--config") then asks (is_some further.config) further ConfigName
    else None))))))

abbrev pub with_at_once : Further → Option ℕ → Option Reading
with_at_once further None = None
with_at_once further (Some count) = Some (record { further = record further { at_once = Some count }; wants = AnOption })

abbrev pub with_ping : Further → Option ℕ → Option Reading
with_ping further None = None
with_ping further (Some seconds) = Some (record { further = record further { ping = Some seconds }; wants = AnOption })

abbrev pub with_rate : Further → Option ℕ → Option Reading
with_rate further None = None
with_rate further (Some rate) = Some (record { further = record further { rate = Some rate }; wants = AnOption })

abbrev pub with_dex : Further → Option (List ℕ) → Option Reading
with_dex further None = None
with_dex further (Some name) = Some (record { further = record further { dex = Some name }; wants = AnOption })

abbrev pub with_config : Further → Option (List ℕ) → Option Reading
with_config further None = None
with_config further (Some name) = Some (record { further = record further { config = Some name }; wants = AnOption })

-- what a word says, if it can stand
abbrev pub word_in : Wants → Further → List ℕ → Option Reading
word_in AnOption further word = option_in further word
word_in AtOnce further word = with_at_once further (at_once_in word)
word_in Ping further word = with_ping further (ping_in word)
word_in Rate further word = with_rate further (rate_in word)
word_in DexName further word = with_dex further (name_in word)
word_in ConfigName further word = with_config further (name_in word)

-- ---- all of them

-- The answer `Err` is the index of the first word that can't stand, counted from 0, or how many words there are where one is
-- missing. The words are those from the index `at` on.

-- behind the last word none is missing
abbrev pub end_of : ℕ → Wants → Further → Result Further ℕ
end_of at AnOption further = Ok further
end_of at AtOnce further = Err at
end_of at Ping further = Err at
end_of at Rate further = Err at
end_of at DexName further = Err at
end_of at ConfigName further = Err at

abbrev pub go_on : ℕ → Option Reading → (Reading → Result Further ℕ) → Result Further ℕ
go_on at None rest = Err at
go_on at (Some reading) rest = rest reading

-- no more words than so many can stand
abbrev pub further_in : ℕ → ℕ → Reading → List (List ℕ) → Result Further ℕ
further_in most at reading [] = end_of at reading.wants reading.further
further_in most at reading (word ∷ words) = if most == 0 then Err at else go_on at (word_in reading.wants reading.further word)
    (λ next. further_in (most - 1) (at + 1) next words)

-- five options with a value and two without, each once
abbrev pub most_further : ℕ
most_further = 12

abbrev pub stays_with : List ℕ → Result Further ℕ → Result Stays ℕ
stays_with address (Err at) = Err at
stays_with address (Ok said) = Ok (record {
  address = address;
  at_once = unwrap_or said.at_once 1024;
  ping = unwrap_or said.ping 30;
  rate = bound_of (unwrap_or said.rate 5);
  stops_at_end = said.stops_at_end;
  logs = said.logs;
  options = record { dex = said.dex; config = said.config };
})

-- behind the address
abbrev pub always_in : List ℕ → List (List ℕ) → Result Stays ℕ
always_in address [] = Err 2
always_in address (word ∷ words) = if bytes_eq word (codes "always") then stays_with address
    (further_in most_further 3 nothing_said words) else Err 2

-- behind `serve`
abbrev pub stay_in : List (List ℕ) → Result Stays ℕ
stay_in [] = Err 1
stay_in (address ∷ words) = if is_name address then always_in address words else Err 1

-- all words
abbrev pub stay_words_in : List (List ℕ) → Result Stays ℕ
stay_words_in [] = Err 0
stay_words_in (word ∷ words) = if bytes_eq word (codes "serve") then stay_in words else Err 0

-- what holds where the words ask for a server that stays up
abbrev pub IfStays : Result Stays ℕ → (Stays → Type 0) → Type 0
IfStays (Ok asked) holds = holds asked
IfStays (Err at) holds = Unit {0}

-- ---- for the code: what was read, as contracts see it

abbrev pub further_of : FurtherWords → Further
further_of further = record {
  at_once = further.at_once;
  ping = further.ping;
  rate = further.rate;
  stops_at_end = further.stops_at_end;
  logs = further.logs;
  dex = option_copied further.dex;
  config = option_copied further.config;
}

abbrev pub reading_of : WordReading → Reading
reading_of reading = record { further = further_of reading.further; wants = reading.wants }

abbrev pub stays_of : AlwaysWords → Stays
stays_of words = record {
  address = words.address.now;
  at_once = words.at_once;
  ping = words.ping;
  rate = option_map non_zero_u32_get words.rate;
  stops_at_end = words.stops_at_end;
  logs = words.logs;
  options = options_of words.options;
}

abbrev pub option_reading : Option WordReading → Option Reading
option_reading None = None
option_reading (Some reading) = Some (reading_of reading)
