-- How many points a won battle moves.
use Rattle.std.specs.Prelude.{ℕ, ◌-◌, ◌*◌, ◌/◌, nat_le, ℤ, ◌-ℤ◌, int_lt, unsigned_abs, if◌then◌else◌}

-- how far two ratings are apart
abbrev pub distance : ℤ → ℤ → ℕ
distance one two = unsigned_abs (one -ℤ two)

-- How many of 1000 battles the player with the higher rating is expected to win: the entry at the greatest
-- tabled distance that isn't above theirs.
unfoldable pub expected : ℕ → ℕ
expected apart = if nat_le 400 apart then 909 else
    if nat_le 375 apart then 896 else
    if nat_le 350 apart then 882 else
    if nat_le 325 apart then 867 else
    if nat_le 300 apart then 849 else
    if nat_le 275 apart then 830 else
    if nat_le 250 apart then 808 else
    if nat_le 225 apart then 785 else
    if nat_le 200 apart then 760 else
    if nat_le 175 apart then 733 else
    if nat_le 150 apart then 703 else
    if nat_le 125 apart then 673 else
    if nat_le 100 apart then 640 else
    if nat_le 75 apart then 606 else
    if nat_le 50 apart then 571 else
    if nat_le 25 apart then 536 else 500

-- how many of 1000 battles the winner was expected to win
abbrev pub winner_expected : ℤ → ℤ → ℕ
winner_expected winner loser = if int_lt winner loser then 1000 - expected (distance winner loser) else expected (distance winner loser)

-- how many points a winner at one rating takes from a loser at another
unfoldable pub gain_of : ℤ → ℤ → ℕ
gain_of winner loser = (32 * (1000 - winner_expected winner loser)) / 1000
