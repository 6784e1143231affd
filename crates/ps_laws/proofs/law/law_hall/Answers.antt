use Rattle.ps_laws.proofs.HallHistoryLemmas.{hall_views_are_equal, hall_unshown_may_be_missing}
use Rattle.ps_laws.proofs.HallStarts.{hall_accepts_start}
use Rattle.ps_laws.proofs.HallMatches.{hall_matches_start}
use Rattle.ps_laws.proofs.HallRatings.{hall_ratings_are_results}
use Rattle.ps_laws.proofs.law.law_hall.Goals as goal

pub returns-clause-equal : goal.returns-clause-equal
returns-clause-equal c = hall_views_are_equal c.args.conn

pub returns-clause-met : goal.returns-clause-met
returns-clause-met c = hall_unshown_may_be_missing c.args.conn

pub returns-clause-starts : goal.returns-clause-starts
returns-clause-starts c = hall_accepts_start

pub returns-clause-matches : goal.returns-clause-matches
returns-clause-matches c = hall_matches_start

pub returns-clause-ratings : goal.returns-clause-ratings
returns-clause-ratings c = hall_ratings_are_results
