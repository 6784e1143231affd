-- What a legal choice is.
use Rattle.std.proofs.Common.{◌≡◌, ℕ, ◌≤◌, Bool, true, false, Option, None, not, nat_lt, ◌==◌, ◌||◌, arith, refl}
use Rattle.std.proofs.lemmas.Bool.Decides.{nat_tests}
use Rattle.std.proofs.lemmas.Bool.{true≢false}
use Rattle.ps_mon.specs.declared.record.SideState.{SideState}
use Rattle.ps_mon.specs.declared.record.Phase.{Phase}
use Rattle.ps_mon.specs.declared.record.Phase.TheVariants as phases
use Rattle.ps_mon.specs.declared.choice.Choice.{Choice}
use Rattle.ps_mon.specs.declared.choice.Choice.TheVariants as choices
use Rattle.ps_mon.specs.declared.choice.ChoiceFault.{ChoiceFault}
use Rattle.ps_mon.specs.Orders.{is_order}
use Rattle.ps_mon.specs.Choices.{is_asked, wrong_phase, locked, no_such_move, no_pp, disabled, no_such_member, already_out, fainted, unless, fault_of, IsThere, incoming}

passes : (test : Bool) (fault : ChoiceFault) (more : Option ChoiceFault) → unless test fault more ≡ None → (test ≡ false) × (more ≡ None)
passes true fault more e = cc
passes false fault more e = (refl, e)

-- no row of the table holds
pub record IsLegal (phase : Phase) (s : ℕ) (side : SideState) (choice : Choice) : Type 0 where
  pub asked : not (is_asked phase s) ≡ false
  pub phase_fits : wrong_phase phase choice ≡ false
  pub free : locked phase side choice ≡ false
  pub slot : no_such_move side choice ≡ false
  pub uses : no_pp side choice ≡ false
  pub enabled : disabled side choice ≡ false
  pub member : no_such_member side choice ≡ false
  pub benched : already_out choice ≡ false
  pub stands : fainted side choice ≡ false

pub legal-is : (phase : Phase) (s : ℕ) (side : SideState) (choice : Choice) → fault_of phase s side choice ≡ None → IsLegal phase s side choice
unfolding fault_of
legal-is phase s side choice e =
    let a = passes (not (is_asked phase s)) _ _ e in
    let b = passes (wrong_phase phase choice) _ _ a.1 in
    let c = passes (locked phase side choice) _ _ b.1 in
    let d = passes (no_such_move side choice) _ _ c.1 in
    let f = passes (no_pp side choice) _ _ d.1 in
    let g = passes (disabled side choice) _ _ f.1 in
    let h = passes (no_such_member side choice) _ _ g.1 in
    let i = passes (already_out choice) _ _ h.1 in
    let j = passes (fainted side choice) _ _ i.1 in
    record { asked = a.0; phase_fits = b.0; free = c.0; slot = d.0; uses = f.0; enabled = g.0; member = h.0; benched = i.0; stands = j.0 }

within : (n most : ℕ) → (n == 0 || nat_lt most n) ≡ false → (1 ≤ n) × (n ≤ most)
within n most e = (grind (arith, nat_tests), grind (arith, nat_tests))

not-not : (b : Bool) → not b ≡ false → b ≡ true
not-not true e = refl
not-not false e = absurd (true≢false e)

-- a legal choice names a slot, a position or an order that is there
pub there-is : (phase : Phase) (s : ℕ) (side : SideState) (choice : Choice) → IsLegal phase s side choice → IsThere side choice
there-is phase s side (choices.Move n) legal = within n _ legal.slot
there-is phase s side choices.Struggle legal = tt
there-is phase s side choices.Continue legal = tt
there-is phase s side (choices.Switch position) legal = within position _ legal.member
there-is phase s side (choices.Team numbers) legal = not-not (is_order side.count numbers) legal.member
there-is phase s side choices.Pass legal = tt

pub above : (n : ℕ) → (n == 0) ≡ false → 1 ≤ n
above n e = grind (arith, nat_tests)

-- where a member must come in, a legal choice brings one that stands
pub replaced-stands : (p1 p2 : Bool) (s : ℕ) (side : SideState) (choice : Choice) → IsLegal (phases.Replace p1 p2) s side choice → 1 ≤ (incoming side choice).hp
replaced-stands p1 p2 s side (choices.Move n) legal = absurd (true≢false legal.phase_fits)
replaced-stands p1 p2 s side choices.Struggle legal = absurd (true≢false legal.phase_fits)
replaced-stands p1 p2 s side choices.Continue legal = absurd (true≢false legal.phase_fits)
replaced-stands p1 p2 s side (choices.Switch position) legal = above _ legal.stands
replaced-stands p1 p2 s side (choices.Team numbers) legal = absurd (true≢false legal.phase_fits)
replaced-stands p1 p2 s side choices.Pass legal = absurd (true≢false legal.phase_fits)
