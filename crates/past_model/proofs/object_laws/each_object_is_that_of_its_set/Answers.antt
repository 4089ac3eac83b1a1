use Rattle.past_model.proofs.Matching.{matches, same_lives, same_numbers, same_writers}
use Rattle.past_model.proofs.object_laws.each_object_is_that_of_its_set.Goals as goal

pub returns-clause-held : goal.returns-clause-held
returns-clause-held c = λ hs history. (matches hs history).known

pub returns-clause-seen : goal.returns-clause-seen
returns-clause-seen c = λ hs history. (matches hs history).seen

pub returns-clause-sent : goal.returns-clause-sent
returns-clause-sent c = λ hs history. (matches hs history).load

pub returns-clause-images : goal.returns-clause-images
returns-clause-images c = λ hs history. (matches hs history).images

pub returns-clause-numbers : goal.returns-clause-numbers
returns-clause-numbers c = same_numbers

pub returns-clause-writers : goal.returns-clause-writers
returns-clause-writers c = same_writers

pub returns-clause-lives : goal.returns-clause-lives
returns-clause-lives c = same_lives
