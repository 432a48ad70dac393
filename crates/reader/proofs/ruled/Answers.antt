-- One case for each place that may be told.
use Rattle.reader.proofs.Answered.{none_told, one_told}
use Rattle.reader.proofs.ruled.Goals as goal

pub returns-in-None : goal.returns-in-None
returns-in-None c = λ im. none_told _ im _ c.in-None.is

pub returns-in-Some : goal.returns-in-Some
returns-in-Some c = λ im. one_told _ im _ _ c.in-Some.is
