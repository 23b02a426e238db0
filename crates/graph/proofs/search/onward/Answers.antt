use Rattle.std.proofs.Common.{sym, ◌∙◌}
use Rattle.graph.proofs.Searching.{Visit, ended, nearer, visited}
use Rattle.graph.proofs.Walks.{reached_walk}
use Rattle.graph.proofs.search.onward.Given as given
use Rattle.graph.proofs.search.onward.Goals as goal

-- a turn of the loop is a visit
visit :
    (g : given.Over) (c : goal.After-union-seen g) →
    Visit (g.G.Graph.arc c.args.graph.now) c.loop-node.seen c.loop-node.done c.union-seen.result c.with-done.result
visit g c = record {
  node = c.in-Some.node;
  latch = c.in-Some.ensures.2;
  due = sym (c.difference.ensures c.in-Some.node) ∙ c.in-Some.ensures.0;
  out = c.neighbours.result;
  arcs = c.neighbours.ensures;
  marked = c.with-done.ensures;
  spread = c.union-seen.ensures;
}

pub loop-node-smaller : goal.loop-node-smaller
loop-node-smaller g c = nearer c.loop-node.invariant (visit g c)

pub loop-node-preserved : goal.loop-node-preserved
loop-node-preserved g c = visited c.loop-node.invariant (visit g c)

pub returns : goal.returns
returns g c =
    let all = ended c.loop-node.invariant (λ v. sym (c.difference.ensures v) ∙ c.in_default.ensures v) in
    record { reached = all; walked = λ u. reached_walk c.args.from c.loop-node.seen u all }
