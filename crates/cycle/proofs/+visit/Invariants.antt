-- What falls from call to call: the node's number; at the same node a dispatcher calls a kind of node, which calls its forms and its rows of children.
use Prim.Native.Nat.{◌+◌, ◌*◌}
use Rattle.cycle.proofs.Members.Arguments
use Rattle.cycle.proofs.Members.Elifs
use Rattle.cycle.proofs.Members.Methods
use Rattle.cycle.proofs.Members.Row
use Rattle.cycle.proofs.+visit.Given as goal

abbrev pub decreases-addi : goal.decreases-addi
decreases-addi l = 8 * l.node + 4

abbrev pub decreases-arguments : goal.decreases-arguments
decreases-arguments l = 8 * l.node + 3

abbrev pub decreases-binary : goal.decreases-binary
decreases-binary l = 8 * l.node + 6

abbrev pub decreases-block : goal.decreases-block
decreases-block l = 8 * l.node + 6

abbrev pub decreases-body : goal.decreases-body
decreases-body l = 8 * l.node + 5

abbrev pub decreases-both : goal.decreases-both
decreases-both l = 8 * l.node + 4

abbrev pub decreases-call : goal.decreases-call
decreases-call l = 8 * l.node + 6

abbrev pub decreases-class : goal.decreases-class
decreases-class l = 8 * l.node + 6

abbrev pub decreases-elifs : goal.decreases-elifs
decreases-elifs l = 8 * l.node + 3

abbrev pub decreases-expr_stmt : goal.decreases-expr_stmt
decreases-expr_stmt l = 8 * l.node + 6

abbrev pub decreases-expression : goal.decreases-expression
decreases-expression l = 8 * l.node + 7

abbrev pub decreases-fn_stmt : goal.decreases-fn_stmt
decreases-fn_stmt l = 8 * l.node + 6

abbrev pub decreases-for_in : goal.decreases-for_in
decreases-for_in l = 8 * l.node + 6

abbrev pub decreases-for_loop : goal.decreases-for_loop
decreases-for_loop l = 8 * l.node + 6

abbrev pub decreases-function : goal.decreases-function
decreases-function l = 8 * l.node + 6

abbrev pub decreases-if_stmt : goal.decreases-if_stmt
decreases-if_stmt l = 8 * l.node + 6

abbrev pub decreases-let_stmt : goal.decreases-let_stmt
decreases-let_stmt l = 8 * l.node + 6

abbrev pub decreases-logical : goal.decreases-logical
decreases-logical l = 8 * l.node + 6

abbrev pub decreases-methods : goal.decreases-methods
decreases-methods l = 8 * l.node + 3

abbrev pub decreases-minus : goal.decreases-minus
decreases-minus l = 8 * l.node + 5

abbrev pub decreases-return_stmt : goal.decreases-return_stmt
decreases-return_stmt l = 8 * l.node + 6

abbrev pub decreases-row : goal.decreases-row
decreases-row l = 8 * l.node + 3

abbrev pub decreases-statement : goal.decreases-statement
decreases-statement l = 8 * l.node + 7

abbrev pub decreases-try_catch : goal.decreases-try_catch
decreases-try_catch l = 8 * l.node + 6

abbrev pub decreases-unary : goal.decreases-unary
decreases-unary l = 8 * l.node + 6

abbrev pub decreases-while_loop : goal.decreases-while_loop
decreases-while_loop l = 8 * l.node + 6

abbrev pub invariant-arguments-loop-k : goal.invariant-arguments-loop-k
invariant-arguments-loop-k l = Arguments.Moving l.tree l.initial.work l.initial.out l.scope l.initial.last l.node l.register l.work l.out l.last l.k

abbrev pub invariant-elifs-loop-k : goal.invariant-elifs-loop-k
invariant-elifs-loop-k l = Elifs.Branching l.tree l.initial.work l.initial.out l.scope l.initial.last l.node l.from l.to l.work l.out l.last l.k

abbrev pub invariant-methods-loop-k : goal.invariant-methods-loop-k
invariant-methods-loop-k l = Methods.Methoding l.tree l.initial.work l.initial.out l.scope l.initial.last l.node l.from l.to l.mark l.op l.class l.work l.out l.last l.k

abbrev pub invariant-row-loop-k : goal.invariant-row-loop-k
invariant-row-loop-k l = Row.Rowing l.tree l.initial.work l.initial.out l.scope l.initial.last l.node l.from l.to l.work l.out l.last l.k
