-- The walks that a search finds are those of the tests.
use Rattle.std.proofs.Common.{◌≡◌, ℕ}
use Rattle.words.specs.declared.LatchSet.{LatchSet}
use Rattle.words.specs.Sets.{has}
use Rattle.graph.specs.Walks.{Exactly, Walk}
use Rattle.theory.specs.Tasks.{Task, WellFormed}
use Rattle.theory.specs.Class.{edge?, walk?}
use Rattle.theory.proofs.Walks.{Holds, walk_true, walk_from}
use Rattle.theory.proofs.Ordered.{edge_ends}
use Rattle.theory.proofs.Sides.{bool_ext}

-- a search from u finds what the test says
pub walk_found : (t : Task) → WellFormed t → (u : ℕ) (r : LatchSet) → Exactly r (Walk (Holds (edge? t)) u) → (v : ℕ) → has r v ≡ walk? (edge? t) t.width u v
walk_found t well u r found v =
    bool_ext _ _ (λ h. walk_from (edge? t) t.width (edge_ends t well) ((found v).0 h))
    (λ h. (found v).1 (walk_true (edge? t) t.width u v h))
