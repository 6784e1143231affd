use Rattle.std.proofs.Common.{◌≡◌, map, drop}
use Rattle.serde_json.specs.Data.{no_members}
use Rattle.serde_json.specs.View.{members_view}
use Rattle.ps_hall.specs.Lines.{with_asked}
use Rattle.ps_hall.proofs.line.formats_by_user.Given as goal

abbrev pub invariant-loop-challenge : goal.invariant-loop-challenge
invariant-loop-challenge l = with_asked (members_view l.members.entries) (map (λ x. x.now) (drop l.challenge-index l.got)) ≡ with_asked no_members (map (λ x. x.now) l.got)
