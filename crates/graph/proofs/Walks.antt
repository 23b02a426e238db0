-- What is reached goes on along arcs, and stays within what arcs do not leave.
use Rattle.std.proofs.Common.{◌≡◌, ℕ, true, inl, inr}
use Rattle.std.proofs.lemmas.Bool.Decides.{Decides-like}
use Rattle.words.specs.declared.LatchSet.{LatchSet}
use Rattle.words.specs.Sets.{has}
use Rattle.graph.specs.Walks.{Exactly, Walk, one, step, Reached}

-- a walk and one more arc
pub walk_onward : {R : ℕ → ℕ → Type 0} {u w v : ℕ} → Walk R u w → R w v → Walk R u v
walk_onward (one a) b = step a (one b)
walk_onward (step a k) b = step a (walk_onward k b)

-- an arc leads from what is reached to what is reached
pub reached_onward : {R : ℕ → ℕ → Type 0} (s : LatchSet) (u v : ℕ) → Reached R s u → R u v → Reached R s v
reached_onward s u v (inl h) a = inr (u, (h, one a))
reached_onward s u v (inr (w, (h, k))) a = inr (w, (h, walk_onward k a))

-- no walk leaves a set that no arc leaves
pub walk_within :
    {R : ℕ → ℕ → Type 0} (s : LatchSet) → ((u v : ℕ) → has s u ≡ true → R u v → has s v ≡ true) →
    {u v : ℕ} → Walk R u v → has s u ≡ true → has s v ≡ true
walk_within s closed (one a) h = closed _ _ h a
walk_within s closed (step a k) h = walk_within s closed k (closed _ _ h a)

-- what is reached from the nodes after u is what walks from u lead to
pub reached_walk : {R : ℕ → ℕ → Type 0} (s r : LatchSet) (u : ℕ) → Exactly r (Reached R s) → Exactly s (R u) → Exactly r (Walk R u)
reached_walk {R} s r u reached arcs v = Decides-like (has r v) walks back (reached v)
  where
    walks : Reached R s v → Walk R u v
    walks (inl h) = one ((arcs v).0 h)
    walks (inr (w, (h, k))) = step ((arcs w).0 h) k

    back : Walk R u v → Reached R s v
    back (one a) = inl ((arcs _).1 a)
    back (step {w = w} a k) = inr (w, ((arcs w).1 a, k))
