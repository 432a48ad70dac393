-- The scope shows what the definition asks of the state (Pools.antt).
use Rattle.store.proofs.Pools.{context_told}
use Rattle.store.proofs.global.is_global_context.Goals as goal

pub returns : goal.returns
returns c = (c.main_alone.ensures, λ w s h. rw c.main_alone.ensures (context_told w c.args.scope s h))
