-- `code::prototype::end_program` meets its contract: the prototype of the main function is added. Assumes nothing.
use Rattle.forward.specs.Forward.{end_program}
use Rattle.code.proofs.prototype.end_program.Goals as goal

pub returns : goal.returns
unfolding end_program
returns c = let adds = c.add_prototype.ensures in
    record { fine = adds.fine; same = adds.same; does = adds.does }
