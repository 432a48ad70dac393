-- The number of open functions falls.
use Rattle.store.proofs.capture.+search.Given as goal

abbrev pub decreases-search : goal.decreases-search
decreases-search l = l.depth
