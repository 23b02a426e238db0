-- What chains over the moves and over the latches of a task find, as the searches of the theory.
use Rattle.std.proofs.Common.{◌≡◌, ℕ, zero, suc, ◌+◌, ◌<◌, Bool, true, false, ◌&&◌, ◌||◌, eqb, ltb, List, [], ◌∷◌, ◌++◌, map, length, MatchBool, add-one, sym, refl, ap, ◌∙◌, inl, inr, arith}
use denote.Param.Members.{Mut}
use denote.Ref.{Bor}
use Rattle.std.specs.Fn.{Called}
use Rattle.std.specs.Iterator.{ChecksAll, ChecksAny, FoldsItems}
use Rattle.std.specs.List.{HoldsAt, AllWithin, list_all, range_with_len}
use Rattle.std.specs.Slice.Iter.{iter_rest}
use Rattle.std.specs.declared.ops.Range.{Range}
use Rattle.std.specs.declared.slice.Iter.{Iter}
use Rattle.std.proofs.iter.Yields.{fronts, nat_range_steps}
use Rattle.std.proofs.lemmas.Bool.{and_from, and_left, and_right, or_from, or_left, or_right}
use Rattle.std.proofs.lemmas.Bool.Decides.{nat_tests}
use Rattle.std.proofs.lemmas.Fn.{fold_same}
use Rattle.std.proofs.lemmas.Iterator.{YieldsList-from_slice, YieldsList-from_range, items_from_drains, cases_from_all, cases_from_any}
use Rattle.std.proofs.lemmas.Iterator.Search.{all_from_yields_List}
use Rattle.std.proofs.lemmas.List.{map_push}
use Rattle.std.proofs.lemmas.List.FromFn.{map-range_with_len_more}
use Rattle.std.proofs.lemmas.List.Folds.{list_all-append, list_all-map}
use Rattle.tables.specs.Items.{items}
use Rattle.words.specs.declared.LatchSet.{LatchSet}
use Rattle.words.specs.Sets.{most_latches, no_latch, has, Below}
use Rattle.words.proofs.Members.{no_member}
use Rattle.theory.specs.Searches.{In, some_of, all_of, all_below}
use Rattle.theory.specs.Tasks.{Move}
use Rattle.tasks.specs.declared.task.NormalMove.{NormalMove}
use Rattle.tasks.specs.declared.task.NormalTask.{NormalTask}
use Rattle.tasks.specs.Tasks.{move_of, moves_of}
use Rattle.tasks.proofs.Bridge.{named_asked}
use Rattle.tasks.proofs.ClassFormed.{well_formed}

-- the moves of a list are among those that they stand for
in_map : {A B : Type 0} (f : A → B) (xs : List A) (x : A) → In xs x → In (map f xs) (f x)
in_map f [] x i = absurd i
in_map f (y ∷ xs) x (inl e) = inl (ap f e)
in_map f (y ∷ xs) x (inr i) = inr (in_map f xs x i)

module _ {A B : Type 0} (f : A → B) (Q : A → Type 0) (test : B → Bool) where
  -- the test of what is made of an element with Q is b
  abbrev Tests : Bool → A → Type 0
  Tests b x = Q x → b ≡ test (f x)

  -- what `any` answers, where each element has Q
  some_answer :
      (r : Bool) (xs : List A) → ((x : A) → In xs x → Q x) →
      MatchBool r ((k : ℕ) × (k < length xs) × HoldsAt (Tests true) xs k) (AllWithin (Tests false) xs 0 (length xs)) →
      r ≡ some_of test (map f xs)
  some_answer true [] q (k, l, h) = absurd (omega arith)
  some_answer true (x ∷ xs) q (zero, l, h) = sym (or_left (test (f x)) _ (sym (h x (q x (inl refl)))))
  some_answer true (x ∷ xs) q (suc k, l, h) =
      sym (or_right (test (f x)) _ (sym (some_answer true xs (λ y i. q y (inr i)) (k, omega arith, h))))
  some_answer false [] q h = refl
  some_answer false (x ∷ xs) q h =
      sym
      (or_from (test (f x)) _ (sym (h 0 x (omega arith) (omega arith) (q x (inl refl))))
      (sym (some_answer false xs (λ y i. q y (inr i)) (λ k d m l. h (suc k) d (omega arith) (omega arith)))))

  -- what `all` answers, where each element has Q
  all_answer :
      (r : Bool) (xs : List A) → ((x : A) → In xs x → Q x) →
      MatchBool r (AllWithin (Tests true) xs 0 (length xs)) ((k : ℕ) × (k < length xs) × HoldsAt (Tests false) xs k) →
      r ≡ all_of test (map f xs)
  all_answer true [] q h = refl
  all_answer true (x ∷ xs) q h =
      sym
      (and_from (test (f x)) _ (sym (h 0 x (omega arith) (omega arith) (q x (inl refl))))
      (sym (all_answer true xs (λ y i. q y (inr i)) (λ k d m l. h (suc k) d (omega arith) (omega arith)))))
  all_answer false [] q (k, l, h) = absurd (omega arith)
  all_answer false (x ∷ xs) q (zero, l, h) = sym (and_left (test (f x)) _ (sym (h x (q x (inl refl)))))
  all_answer false (x ∷ xs) q (suc k, l, h) =
      sym (and_right (test (f x)) _ (sym (all_answer false xs (λ y i. q y (inr i)) (k, omega arith, h))))

-- the move is one of the task
abbrev pub InTask : NormalTask → NormalMove → Type 0
InTask t m = In (moves_of t) (move_of m)

-- it asks latches of the task alone
pub asks_below : (t : NormalTask) (m : NormalMove) → InTask t m → Below t.width m.asks.named
asks_below t m i u h = (well_formed t).asks_within (move_of m) i u (named_asked m.asks u h)

-- its latch is one that there can be
pub latch_below : (t : NormalTask) (m : NormalMove) → InTask t m → m.latch < most_latches
latch_below t m i = omega (arith, (well_formed t).latch_within (move_of m) i, t.narrow)

-- a chain over the moves of a task, whose closure answers by the test at each of them
module _
    {F : Type 0} {g : Mut F (Bor NormalMove × Unit {0}) Bool} {s u : Iter NormalMove} {f : F} {r : Bool}
    (t : NormalTask) (test : Move → Bool) (all : iter_rest s ≡ items t.moves)
    (calls :
    (x : Bor NormalMove) (b : Bool) (q : F) → Called g f (x, tt) b q → (q ≡ f) × (InTask t x.now → b ≡ test (move_of x.now))) where
  pub some_move : ChecksAny fronts g s f r u → r ≡ some_of test (moves_of t)
  some_move ran =
      some_answer move_of (InTask t) test r (items t.moves) (in_map move_of (items t.moves))
      (cases_from_any u f r (Tests move_of (InTask t) test true) (Tests move_of (InTask t) test false) ran
      (YieldsList-from_slice (items t.moves) all) (λ x q k. (calls x true q k).1) (λ x q k. calls x false q k))

  pub each_move : ChecksAll fronts g s f r u → r ≡ all_of test (moves_of t)
  each_move ran =
      all_answer move_of (InTask t) test r (items t.moves) (in_map move_of (items t.moves))
      (cases_from_all u f r (Tests move_of (InTask t) test true) (Tests move_of (InTask t) test false) ran
      (YieldsList-from_slice (items t.moves) all) (λ x q k. calls x true q k) (λ x q k. (calls x false q k).1))

-- one more element at the end
some_of_push : {A : Type 0} (test : A → Bool) (xs : List A) (x : A) → some_of test (xs ++ (x ∷ [])) ≡ (some_of test xs || test x)
some_of_push test [] x = grind arith
some_of_push test (y ∷ xs) x = let e = some_of_push test xs x in grind arith

-- some element passes its own test
some_of_map :
    {A B : Type 0} (f : A → B) (adds : A → Bool) (test : B → Bool) (xs : List A) → ((x : A) → In xs x → adds x ≡ test (f x)) →
    some_of adds xs ≡ some_of test (map f xs)
some_of_map f adds test [] h = refl
some_of_map f adds test (x ∷ xs) h =
    let e = some_of_map f adds test xs (λ y i. h y (inr i)) in
    let here = h x (inl refl) in
    grind arith

-- the set has what these moves add
abbrev Gathered : (NormalMove → ℕ → Bool) → List (Bor NormalMove) → LatchSet → Type 0
Gathered adds xs a = (u : ℕ) → has a u ≡ some_of (λ m. adds m u) (map (λ x. x.now) xs)

-- a set that is gathered from the moves of a task
module _
    {G : Type 0} {g : Mut G (LatchSet × (Bor NormalMove × Unit {0})) LatchSet} {s : Iter NormalMove} {k : G} {r : LatchSet}
    (t : NormalTask) (adds : NormalMove → ℕ → Bool) (test : ℕ → Move → Bool)
    (says : (u : ℕ) (m : NormalMove) → InTask t m → adds m u ≡ test u (move_of m)) where
  pub gathered :
      iter_rest s ≡ items t.moves →
      ((a : LatchSet) (x : Bor NormalMove) (b : LatchSet) (q : G) → Called g k (a, (x, tt)) b q → ((u : ℕ) → has b u ≡ (has a u || adds x.now u)) × (q ≡ k)) →
      FoldsItems fronts g s k no_latch r → (u : ℕ) → has r u ≡ some_of (test u) (moves_of t)
  gathered all adds_all (xs, q, (v, (w, yields, stops)), folds) u =
      fold_same g (Gathered adds) k one_more xs no_latch r q no_member folds u
      ∙ ap (some_of (λ m. adds m u)) (items_from_drains xs (w, yields, λ _. (v, stops)) (YieldsList-from_slice (items t.moves) all))
      ∙ some_of_map move_of (λ m. adds m u) (test u) (items t.moves) (λ m i. says u m (in_map move_of (items t.moves) m i))
    where
      one_more :
          (ys : List (Bor NormalMove)) (a : LatchSet) (x : Bor NormalMove) (b : LatchSet) (q : G) → Gathered adds ys a → Called g k (a, (x, tt)) b q →
          Gathered adds (ys ++ (x ∷ [])) b × (q ≡ k)
      one_more ys a x b q so_far called =
          let c = adds_all a x b q called in (
            λ u.
                c.0 u
                ∙ ap (λ z. z || adds x.now u) (so_far u)
                ∙ sym (some_of_push (λ m. adds m u) (map (λ y. y.now) ys) x.now)
                ∙ ap (some_of (λ m. adds m u)) (sym (map_push (λ y. y.now) ys x)),
            c.1,
          )

-- a move of the task throws a latch that there can be
pub throws : (t : NormalTask) (m : NormalMove) (u : ℕ) (p q : Bool) → InTask t m → p ≡ q → (p && (eqb u m.latch && ltb m.latch most_latches)) ≡ (eqb m.latch u && q)
throws t m u p q i e = let l = latch_below t m i in grind (arith, nat_tests, e)

-- the numbers below n, one after another
all_counted : (test : ℕ → Bool) (n : ℕ) → list_all test (range_with_len 0 n) ≡ all_below test n
all_counted test zero = refl
all_counted test (suc n) = simp add-one at one_more ∙ ap (λ b. b && test n) (all_counted test n)
  where
    and_true : (a : Bool) → (a && true) ≡ a
    and_true a = grind arith

    one_more : list_all test (range_with_len 0 (n + 1)) ≡ (list_all test (range_with_len 0 n) && test n)
    one_more =
        sym (list_all-map (λ b. b) test (range_with_len 0 (n + 1)))
        ∙ ap (list_all (λ b. b)) (map-range_with_len_more test 0 n n (omega arith))
        ∙ list_all-append (λ b. b) (map test (range_with_len 0 n)) (test n ∷ [])
        ∙ ap (λ b. b && (test n && true)) (list_all-map (λ b. b) test (range_with_len 0 n))
        ∙ ap (λ b. list_all test (range_with_len 0 n) && b) (and_true (test n))

-- `all` over the latches of a task
pub each_latch :
    {F : Type 0} {g : Mut F (ℕ × Unit {0}) Bool} {s u : Range ℕ} {f : F} {r : Bool} (n : ℕ) (test : ℕ → Bool) → s ≡ record { start = 0; end = n } →
    ((x : ℕ) (b : Bool) (q : F) → Called g f (x, tt) b q → (q ≡ f) × (b ≡ test x)) →
    ChecksAll nat_range_steps g s f r u → r ≡ all_below test n
each_latch n test all calls ran =
    all_from_yields_List test _ _ _ ran (YieldsList-from_range 0 n n all (omega arith)) calls ∙ all_counted test n
