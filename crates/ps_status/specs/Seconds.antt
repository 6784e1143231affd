-- Secondaries: what may come after a strike.
use Rattle.std.specs.Prelude.{ℕ, Bool, false, ◌&&◌, nat_lt}
use Rattle.ps_mon.specs.declared.duel.Duel.{Duel}
use Rattle.ps_hits.specs.declared.strike.Struck.{Struck}
use Rattle.ps_hits.specs.declared.strike.Struck.TheVariants.{NoEffect, Missed, Hit}
use Rattle.ps_hits.specs.Scenes.{Play, ◌>>=◌, give, duel_now, choose, draw}

-- whether a strike took health from the foe itself, which stands
abbrev pub has_hurt : Struck → Duel → Bool
has_hurt NoEffect duel = false
has_hurt Missed duel = false
has_hurt (Hit dealt) duel = dealt.own && nat_lt 0 duel.foe.hp

-- whether the secondary of a strike comes: the strike has hurt the foe, and a draw below 256 is below the chance. The draw is made at
-- 0 and at 256 too
unfoldable pub comes : ℕ → Struck → Play Bool
comes chance struck = do
  duel ← duel_now
  choose (has_hurt struck duel)
      (do
        drawn ← draw 256
        give (nat_lt drawn chance))
      (give false)

-- the secondary of a strike
abbrev pub second : ℕ → Struck → Play (Unit {0}) → Play (Unit {0})
second chance struck then_this = do
  it_comes ← comes chance struck
  choose it_comes then_this (give tt)
