-- How further hits go on.
use Rattle.std.proofs.Common.{◌≡◌, ℕ, zero, suc, ◌+◌, true, false, refl}
use Rattle.ps_hits.specs.Scenes.{Scene}
use Rattle.ps_hits.specs.declared.strike.Dealt.{Dealt}
use Rattle.ps_hits.specs.Strikes.{deal}
use Rattle.ps_multi.specs.Several.{is_last, further_hits}

-- none comes after the last one
pub stop : (n mv : ℕ) (dealt : Dealt) (s : Scene) → is_last dealt s.duel ≡ true → further_hits n mv dealt s ≡ (0, s)
unfolding further_hits
stop zero mv dealt s last = refl
stop (suc n) mv dealt s last = rw last refl

-- one more comes after another one, with one less to come
pub goes_on : (n m mv : ℕ) (dealt again : Dealt) (s t : Scene) → n ≡ suc m → is_last dealt s.duel ≡ false → again ≡ (deal mv dealt.damage s).0 → t ≡ (deal mv dealt.damage s).1 →
    further_hits n mv dealt s ≡ (1 + (further_hits m mv again t).0, (further_hits m mv again t).1)
unfolding further_hits
goes_on n m mv dealt again s t one_less other gave left = rw one_less (rw other (rw gave (rw left refl)))

-- none comes where none is left
pub none : (n mv : ℕ) (dealt : Dealt) (s : Scene) → n ≡ 0 → further_hits n mv dealt s ≡ (0, s)
unfolding further_hits
none n mv dealt s over = rw over refl
