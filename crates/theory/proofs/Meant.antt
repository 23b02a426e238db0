-- The tests of the class say what is meant by them.
use Rattle.std.proofs.Common.{◌≡◌, Decides, ℕ, ◌<◌, ◌≤◌, Bool, true, false, not, ◌&&◌, ◌||◌, eqb, ◌≢◌, ◌⊎◌, sym, refl, ap, ◌∙◌, subst, inl, inr, arith}
use mathlib.Core.Bool.{beq}
use Rattle.std.proofs.lemmas.Bool.{both_ways, cases_Bool, cases_eq, cases_lt, and_from, or_left, or_right, not_from_false, eq-eqb, ne_eqb}
use Rattle.std.specs.Cmp.{booleans_Decides}
use Rattle.std.proofs.lemmas.Bool.Decides.{Decides-like, Decides-not, Decides-and, Decides-or, Decides-eqb}
use Rattle.theory.specs.Searches.{In, some_of}
use Rattle.theory.specs.Tasks.{Ask, any, at_zero, at_one, Move, Task, WellFormed, asked?, asks?, ask_for}
use Rattle.theory.specs.Class.{edge?, walk?, acyclic?, thrown?, static?, same_ask?, reverse?, reversible?, dependent?, cut?, link?, side?, splitting?, in_class?}
use Rattle.graph.specs.Walks.{Walk, one, step}
use Rattle.theory.specs.Meaning.{Throws, Edge, Acyclic, Static, Reversible, Dependent, Uncut, Link, Connected, Side, Splitting}
use Rattle.theory.specs.Theorems.{ClassIsMeant}
use Rattle.theory.proofs.Searches.{some_of_from, all_of_from, all_below_from, some_of_decides, some_below_decides, all_below_decides, beq_from}
use Rattle.theory.proofs.Walks.{walk_map, walk_decides}
use Rattle.theory.proofs.Ordered.{asked_not_any, edge_ends, walk_starts}
use Rattle.theory.proofs.Sides.{dependent_within, link_within}
use Rattle.theory.proofs.Tables.{reverse_of}

-- asks
not_any_asked : (a : Ask) → a ≢ any → asked? a ≡ true
not_any_asked any n = absurd (n refl)
not_any_asked at_zero n = refl
not_any_asked at_one n = refl

asks_is : (x : Bool) (a : Ask) → asks? x a ≡ true → a ≡ ask_for x
asks_is x any h = absurd (both_ways false refl h)
asks_is true at_zero h = absurd (both_ways false refl h)
asks_is false at_zero h = refl
asks_is true at_one h = refl
asks_is false at_one h = absurd (both_ways false refl h)

is_asks : (x : Bool) (a : Ask) → a ≡ ask_for x → asks? x a ≡ true
is_asks true a e = ap (asks? true) e
is_asks false a e = ap (asks? false) e

same_ask_refl : (a b : Ask) → a ≡ b → same_ask? a b ≡ true
same_ask_refl a b e = ap (λ z. same_ask? z b) e ∙ self b
  where
    self : (c : Ask) → same_ask? c c ≡ true
    self any = refl
    self at_zero = refl
    self at_one = refl

-- the tests of asks decide
asked_meant : (a : Ask) → Decides (asked? a) (a ≢ any)
asked_meant a = (asked_not_any a, not_any_asked a)

asks_meant : (x : Bool) (a : Ask) → Decides (asks? x a) (a ≡ ask_for x)
asks_meant x a = (asks_is x a, is_asks x a)

-- a search for a move of v that passes a test
move_meant : (t : Task) (v : ℕ) (test : Move → Bool) (P : Move → Type 0) → ((m : Move) → Decides (test m) (P m)) →
    Decides (some_of (λ m. eqb m.latch v && test m) t.moves) ((m : Move) × (Throws t v m × P m))
move_meant t v test P each =
    Decides-like _ (λ r. (r.0, ((r.1, r.2.0), r.2.1))) (λ r. (r.0, r.1.0.0, (r.1.0.1, r.1.1)))
    (some_of_decides (λ m. eqb m.latch v && test m) (λ m. (m.latch ≡ v) × P m) (λ m. Decides-and _ _ (Decides-eqb m.latch v) (each m)) t.moves)

edge_meant : (t : Task) (u v : ℕ) → Decides (edge? t u v) (Edge t u v)
unfolding edge?
edge_meant t u v =
    Decides-and _ _ (Decides-not _ (Decides-eqb u v)) (move_meant t v (λ m. asked? (m.asks u)) (λ m. m.asks u ≢ any) (λ m. asked_meant (m.asks u)))

dependent_meant : (t : Task) (x : Bool) (v u : ℕ) → Decides (dependent? t x v u) (Dependent t x v u)
unfolding dependent?
dependent_meant t x v u =
    Decides-and _ _ (Decides-not _ (Decides-eqb u v))
    (move_meant t u (λ m. asks? x (m.asks v)) (λ m. m.asks v ≡ ask_for x) (λ m. asks_meant x (m.asks v)))

thrown_meant : (t : Task) (v : ℕ) (x : Bool) → Decides (not (thrown? t v x)) ((m : Move) → Throws t v m → m.to ≢ x)
thrown_meant t v x =
    Decides-like _ (λ n m c e. n (m, (c, e))) (λ h r. h r.0 r.1.0 r.1.1)
    (Decides-not _ (move_meant t v (λ m. beq m.to x) (λ m. m.to ≡ x) (λ m. booleans_Decides m.to x)))

static_meant : (t : Task) (v : ℕ) → Decides (static? t v) (Static t v)
unfolding static?
static_meant t v =
    Decides-or _ _ (thrown_meant t v true) (Decides-and _ _ (asks_meant false (t.want v)) (thrown_meant t v false))

module _ (t : Task) (well : WellFormed t) where
  -- nothing is asked of a latch that the task does not have
  unasked : (m : Move) → In t.moves m → (u : ℕ) → t.width ≤ u → m.asks u ≡ any
  unasked m i u l =
      elim (cases_Bool (asked? (m.asks u)))
      [ inl a ↦ absurd (let k = well.asks_within m i u (asked_not_any _ a) in omega arith) | inr a ↦ is_any (m.asks u) a ]
    where
      is_any : (a : Ask) → asked? a ≡ false → a ≡ any
      is_any any h = refl
      is_any at_zero h = absurd (both_ways true h refl)
      is_any at_one h = absurd (both_ways true h refl)

  reversible_meant : (v : ℕ) → Decides (reversible? t v) (Reversible t v)
  unfolding reversible?
  reversible_meant v = (
    (λ h m c.
        let r = reverse_of t v h m c.0 c.1 in (
          r.0,
          (
            (r.1, r.2),
            r.3,
            λ u n. elim (cases_lt u t.width)
                [ inl l ↦ r.4 u l n | inr l ↦ unasked r.0 r.1 u l ∙ sym (unasked m c.0 u l) ],
          ),
        )),
    λ h. all_of_from (λ m. not (eqb m.latch v) || some_of (reverse? t v m) t.moves) t.moves
        (λ m i. elim (cases_eq m.latch v) [
          | inr n ↦ or_left _ _ (not_from_false _ (ne_eqb _ _ n))
          | inl e ↦
              let r = h m (i, e) in
              or_right (not (eqb m.latch v)) _
              (some_of_from (reverse? t v m) t.moves r.0 r.1.0.0
              (and_from (eqb r.0.latch v && beq r.0.to (not m.to)) _
              (and_from (eqb r.0.latch v) _ (eq-eqb _ _ r.1.0.1) (beq_from _ _ r.1.1))
              (all_below_from (λ u. eqb u v || same_ask? (r.0.asks u) (m.asks u)) t.width
              (λ u l. elim (cases_eq u v)
              [ inl d ↦ or_left (eqb u v) _ (eq-eqb u v d) | inr n ↦ or_right (eqb u v) _ (same_ask_refl _ _ (r.1.2 u n)) ]))))
        ]),
  )

  uncut_meant : (x : Bool) (v a b : ℕ) → Decides (edge? t a b && not (cut? t x v a b)) (Uncut t x v a b)
  uncut_meant x v a b =
      Decides-and _ _ (edge_meant t a b)
      (Decides-not _ (Decides-like _ (λ p. (p.0, p.1.0, p.1.1)) (λ p. (p.0, (p.1, p.2)))
      (Decides-and _ _ (Decides-eqb a v) (Decides-and _ _ (dependent_meant t x v b) (Decides-not _ (dependent_meant t (not x) v b))))))

  link_meant : (x : Bool) (v a b : ℕ) → Decides (link? t x v a b) (Link t x v a b)
  unfolding link?
  link_meant x v a b = Decides-or _ _ (uncut_meant x v a b) (uncut_meant x v b a)

  connected_meant : (x : Bool) (v a b : ℕ) → Decides (eqb a b || walk? (link? t x v) t.width a b) (Connected t x v a b)
  connected_meant x v a b =
      Decides-or _ _ (Decides-eqb a b) (walk_decides (link? t x v) (Link t x v) (link_meant x v) t.width (link_within t well x v) a b)

  side_meant : (x : Bool) (v u : ℕ) → Decides (side? t x v u) (Side t x v u)
  unfolding side?
  side_meant x v u =
      Decides-like _ (λ r. (r.0, r.2)) (λ r. (r.0, dependent_within t well x v r.0 ((dependent_meant t x v r.0).1 r.1.0), r.1))
      (some_below_decides (λ w. dependent? t x v w && (eqb w u || walk? (link? t x v) t.width w u)) (λ w. Dependent t x v w × Connected t x v w u)
      (λ w. Decides-and _ _ (dependent_meant t x v w) (connected_meant x v w u)) t.width)

  -- a latch on a side is a latch of the task
  side_within : (x : Bool) (v u : ℕ) → Side t x v u → u < t.width
  side_within x v u c =
      elim c.1.1 [
        | inl e ↦ subst (λ z. z < t.width) e (dependent_within t well x v c.0 ((dependent_meant t x v c.0).1 c.1.0))
        | inr k ↦ end k
      ]
    where
      end : {a b : ℕ} → Walk (Link t x v) a b → b < t.width
      end (one {u = a} {v = b} r) = link_within t well x v a b ((link_meant x v a b).1 r)
      end (step r p) = end p

  splitting_meant : (v : ℕ) → Decides (splitting? t v) (Splitting t v)
  unfolding splitting?
  splitting_meant v =
      Decides-like _ (λ h u a b. h u (side_within false v u a) (a, b)) (λ h u l p. h u p.0 p.1)
      (all_below_decides (λ u. not (side? t false v u && side? t true v u)) (λ u. Side t false v u × Side t true v u → ⊥)
      (λ u. Decides-not _ (Decides-and _ _ (side_meant false v u) (side_meant true v u))) t.width)

  acyclic_meant : Decides (acyclic? t) (Acyclic t)
  unfolding acyclic?
  acyclic_meant =
      Decides-like _ (λ h u p. h u (walk_starts t well (walk_map (λ a b. (edge_meant t a b).1) p)) p) (λ h u l. h u)
      (all_below_decides (λ u. not (walk? (edge? t) t.width u u)) (λ u. Walk (Edge t) u u → ⊥)
      (λ u. Decides-not _ (walk_decides (edge? t) (Edge t) (edge_meant t) t.width (edge_ends t well) u u)) t.width)

pub class_is_meant : ClassIsMeant
unfolding in_class?
class_is_meant t well =
    Decides-and _ _ (acyclic_meant t well)
    (all_below_decides (λ v. static? t v || (reversible? t v || splitting? t v)) (λ v. Static t v ⊎ (Reversible t v ⊎ Splitting t v))
    (λ v. Decides-or _ _ (static_meant t v) (Decides-or _ _ (reversible_meant t well v) (splitting_meant t well v))) t.width)
