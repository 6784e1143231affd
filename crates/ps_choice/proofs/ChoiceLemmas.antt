-- A choice without fault is one of its side's.
use Rattle.std.proofs.Common.{◌≡◌, ℕ, Bool, true, false, None, not}
use Rattle.ps_mon.specs.declared.record.Battle.{Battle}
use Rattle.ps_mon.specs.declared.choice.Choice.{Choice}
use Rattle.ps_mon.specs.Reading.{side_of}
use Rattle.ps_mon.specs.Choices.{is_asked, legal, IsChoice, IsChoiceOf}
use Rattle.ps_mon.proofs.ChoiceLemmas.{legal-is}

asked : (test : Bool) (b : Battle) (s : ℕ) (choice : Choice) → not test ≡ false → legal b s choice ≡ None → IsChoice test b s choice
asked true b s choice e legal = legal
asked false b s choice e legal = absurd (differ e)
  where
    differ : true ≡ false → ⊥
    differ e = cc

pub choice-of : (b : Battle) (s : ℕ) (choice : Choice) → legal b s choice ≡ None → IsChoiceOf b s choice
choice-of b s choice legal = asked (is_asked b.phase s) b s choice (legal-is b.phase s (side_of b s) choice legal).asked legal

pub ruleset legal_choices = (choice-of)
