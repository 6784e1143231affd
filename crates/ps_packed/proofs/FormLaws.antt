-- The laws of the twelve fields.
use Rattle.std.proofs.Common.{◌≡◌, ℕ, zero, suc, true, false, [], ◌∷◌, refl}
use Rattle.ps_packed.specs.Forms.{in_form, form_of, are_short, id_count, has_id}
use Rattle.ps_packed.specs.Scan.{prefix_ok}
use Rattle.ps_packed.proofs.Laws.{Laws}
use Rattle.ps_packed.proofs.WordLaws.{words_laws, letter_laws}
use Rattle.ps_packed.proofs.MoveLaws.{moves_laws}
use Rattle.ps_packed.proofs.SpreadLaws.{spread_laws}
use Rattle.ps_packed.proofs.LevelLaws.{level_laws}

pub laws_of : (k : ℕ) → Laws (form_of k)
laws_of zero = words_laws 18
laws_of (suc zero) = words_laws 32
laws_of (suc (suc zero)) = words_laws 32
laws_of (suc (suc (suc zero))) = words_laws 32
laws_of (suc (suc (suc (suc zero)))) = moves_laws
laws_of (suc (suc (suc (suc (suc zero))))) = words_laws 32
laws_of (suc (suc (suc (suc (suc (suc zero)))))) = spread_laws true 255
laws_of (suc (suc (suc (suc (suc (suc (suc zero))))))) = letter_laws (77 ∷ 70 ∷ 78 ∷ []) refl
laws_of (suc (suc (suc (suc (suc (suc (suc (suc zero)))))))) = spread_laws false 31
laws_of (suc (suc (suc (suc (suc (suc (suc (suc (suc zero))))))))) = letter_laws (83 ∷ []) refl
laws_of (suc (suc (suc (suc (suc (suc (suc (suc (suc (suc zero)))))))))) = level_laws
laws_of (suc (suc (suc (suc (suc (suc (suc (suc (suc (suc (suc k))))))))))) = words_laws 64

-- each field may be empty
pub empty_ok : (k : ℕ) → in_form (form_of k) [] ≡ true
unfolding in_form are_short id_count has_id
empty_ok zero = refl
empty_ok (suc zero) = refl
empty_ok (suc (suc zero)) = refl
empty_ok (suc (suc (suc zero))) = refl
empty_ok (suc (suc (suc (suc zero)))) = refl
empty_ok (suc (suc (suc (suc (suc zero))))) = refl
empty_ok (suc (suc (suc (suc (suc (suc zero)))))) = refl
empty_ok (suc (suc (suc (suc (suc (suc (suc zero))))))) = refl
empty_ok (suc (suc (suc (suc (suc (suc (suc (suc zero)))))))) = refl
empty_ok (suc (suc (suc (suc (suc (suc (suc (suc (suc zero))))))))) = refl
empty_ok (suc (suc (suc (suc (suc (suc (suc (suc (suc (suc zero)))))))))) = refl
empty_ok (suc (suc (suc (suc (suc (suc (suc (suc (suc (suc (suc k))))))))))) = refl

pub nothing_ok : (k : ℕ) → prefix_ok (form_of k) [] ≡ true
nothing_ok k = (laws_of k).closed [] [] (empty_ok k)
