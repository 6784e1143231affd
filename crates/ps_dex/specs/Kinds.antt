-- The kinds of effect, by their names, in the order of their table.
use Rattle.std.specs.Prelude.{ℕ, List, [], ◌∷◌, codes}
use Rattle.ps_dex.specs.declared.kind.Kind.{Kind}
use Rattle.ps_dex.specs.declared.kind.Kind.TheVariants.{Plain, Fixed, Level, Half, Psywave, Ohko, Status, Confuse, Flinch, Boost}
use Rattle.ps_dex.specs.declared.kind.Kind.TheVariants.{Drain, DreamEater, Recoil, Crash, Multi, Double, Explode, Charge, Recharge}
use Rattle.ps_dex.specs.declared.kind.Kind.TheVariants.{Trap, Thrash, Bide, Rage, Counter, Substitute, LeechSeed, Screen, Mist, Focus}
use Rattle.ps_dex.specs.declared.kind.Kind.TheVariants.{Haze, Heal, Rest, Copy, Nothing}

unfoldable pub kind_words : List (List ℕ × Kind)
kind_words =
    -- a strike, or damage without one
    (codes "plain", Plain) ∷
    (codes "fixed", Fixed) ∷
    (codes "level", Level) ∷
    (codes "half", Half) ∷
    (codes "psywave", Psywave) ∷
    (codes "ohko", Ohko) ∷
    -- what harms the foe besides, or helps the user
    (codes "status", Status) ∷
    (codes "confuse", Confuse) ∷
    (codes "flinch", Flinch) ∷
    (codes "boost", Boost) ∷
    (codes "drain", Drain) ∷
    (codes "dreameater", DreamEater) ∷
    -- strikes that cost something, that take several hits or turns
    (codes "recoil", Recoil) ∷
    (codes "crash", Crash) ∷
    (codes "multi", Multi) ∷
    (codes "double", Double) ∷
    (codes "explode", Explode) ∷
    (codes "charge", Charge) ∷
    -- what lasts for several acts, and what answers an act
    (codes "recharge", Recharge) ∷
    (codes "trap", Trap) ∷
    (codes "thrash", Thrash) ∷
    (codes "bide", Bide) ∷
    (codes "rage", Rage) ∷
    (codes "counter", Counter) ∷
    -- what lasts with a member, or takes that away
    (codes "substitute", Substitute) ∷
    (codes "leechseed", LeechSeed) ∷
    (codes "screen", Screen) ∷
    (codes "mist", Mist) ∷
    (codes "focus", Focus) ∷
    (codes "haze", Haze) ∷
    -- the rest
    (codes "heal", Heal) ∷
    (codes "rest", Rest) ∷
    (codes "copy", Copy) ∷
    (codes "nothing", Nothing) ∷
    []
