use Rattle.std.proofs.Common.{◌-◌, ◌^◌}
use Rattle.graph.proofs.Searching.{Searching}
use Rattle.graph.proofs.search.onward.Given as goal

abbrev pub invariant-loop-node : goal.invariant-loop-node
invariant-loop-node g l = Searching (g.G.Graph.arc l.graph) l.initial.seen l.seen l.done

abbrev pub decreases-loop-node : goal.decreases-loop-node
decreases-loop-node g l = 2 ^ 32 - l.done.word
