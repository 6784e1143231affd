-- What the choices of a commit are.
use Rattle.std.proofs.Common.{◌≡◌, ℕ, ◌<◌, ◌≤◌, Bool, true, false, None, refl, sym, subst}
use Rattle.ps_mon.specs.declared.record.Battle.{Battle}
use Rattle.ps_mon.specs.declared.record.Phase.{Phase}
use Rattle.ps_mon.specs.declared.record.Phase.TheVariants as phases
use Rattle.ps_mon.specs.declared.choice.Choice.{Choice}
use Rattle.ps_mon.specs.Reading.{side_of, active_index}
use Rattle.ps_mon.specs.Valid.{IsSound, IsStanding, IsValid, AllStand, StandBefore, has_standing, replaces}
use Rattle.ps_mon.specs.Choices.{is_asked, fault_of, IsChoice, IsChoiceOf, IsThere, incoming}
use Rattle.ps_mon.proofs.ChoiceLemmas.{legal-is, there-is, replaced-stands}

-- in a turn both sides are asked
pub there-in-turn : (b : Battle) (s : ℕ) (choice : Choice) → b.phase ≡ phases.Turn → IsChoiceOf b s choice → IsThere (side_of b s) choice
there-in-turn b s choice e h =
    let P : Phase → Type 0 = λ phase. IsChoice (is_asked phase s) b s choice in
    let legal : fault_of b.phase s (side_of b s) choice ≡ None = subst P e h in
    there-is _ _ _ _ (legal-is b.phase s (side_of b s) choice legal)

there-where-asked : (asked : Bool) (b : Battle) (s : ℕ) (choice : Choice) → IsChoice asked b s choice → IsThere (side_of b s) choice
there-where-asked true b s choice h = there-is _ _ _ _ (legal-is b.phase s (side_of b s) choice h)
there-where-asked false b s choice h =
    let P : Choice → Type 0 = λ c. IsThere (side_of b s) c in
    subst P (sym h) tt

pub there-is-choice : (b : Battle) (s : ℕ) (choice : Choice) → IsChoiceOf b s choice → IsThere (side_of b s) choice
there-is-choice b s choice h = there-where-asked (is_asked b.phase s) b s choice h

stands-where-asked : (asked p1 p2 : Bool) (b : Battle) (s : ℕ) (choice : Choice) → asked ≡ is_asked (phases.Replace p1 p2) s → b.phase ≡ phases.Replace p1 p2 → s < 2 → IsStanding b → IsChoice asked b s choice → 1 ≤ (incoming (side_of b s) choice).hp
stands-where-asked true p1 p2 b s choice asked e lt standing h =
    let P : Phase → Type 0 = λ phase. fault_of phase s (side_of b s) choice ≡ None in
    replaced-stands p1 p2 s (side_of b s) choice (legal-is (phases.Replace p1 p2) s (side_of b s) choice (subst P e h))
stands-where-asked false p1 p2 b s choice asked e lt standing h =
    let P : Choice → Type 0 = λ c. 1 ≤ (incoming (side_of b s) c).hp in
    let Q : Phase → Type 0 = λ phase. replaces phase s ≡ false in
    let stays : replaces b.phase s ≡ false = subst Q (sym e) (sym asked) in
    subst P (sym h) (standing.active s lt stays)

-- after replacements both active members stand
pub stands-replaced : (p1 p2 : Bool) (b : Battle) (s : ℕ) (choice : Choice) → b.phase ≡ phases.Replace p1 p2 → s < 2 → IsStanding b → IsChoiceOf b s choice → 1 ≤ (incoming (side_of b s) choice).hp
stands-replaced p1 p2 b s choice e lt standing h =
    let P : Phase → Type 0 = λ phase. IsChoice (is_asked phase s) b s choice in
    stands-where-asked (is_asked (phases.Replace p1 p2) s) p1 p2 b s choice refl e lt standing (subst P e h)

-- ---- before members are sent out

-- all of them stand
pub all-stand : (b : Battle) → b.phase ≡ phases.Preview → IsStanding b → (s : ℕ) → s < 2 → AllStand (side_of b s)
all-stand b e standing s lt = subst (λ p. StandBefore p (side_of b s)) e (standing.before s lt)

-- so those that are sent out do
pub sent-valid : (b : Battle) → IsSound b → b.turn < 1000 → ((s : ℕ) → s < 2 → has_standing (side_of b s) ≡ true) → ((s : ℕ) → s < 2 → AllStand (side_of b s)) → IsValid (record b { phase = phases.Turn })
sent-valid b sound turn some stand = record {
  sound = record { two = sound.two; sides = sound.sides; turn = sound.turn; clauses = sound.clauses };
  standing = λ goes. record {
    turn = turn;
    some = some;
    before = λ s h. tt;
    active = λ s h stays. stand s h (active_index (side_of b s)) ((sound.sides s h).shape.order 0 (sound.sides s h).shape.count);
  };
}
