use Rattle.server_places.specs.StoryLaws.{one_story, tells_more}
use Rattle.server_places.proofs.law.law_of_stories.Goals as goal

pub returns-clause-one : goal.returns-clause-one
returns-clause-one c = one_story

pub returns-clause-more : goal.returns-clause-more
returns-clause-more c = tells_more
