-- The entries of a route, and its moves entry by entry.
use Rattle.std.proofs.Common.{◌≡◌, ℕ, ◌+◌, ◌-◌, ◌*◌, ◌^◌, ◌<◌, ◌≤◌, Bool, true, List, [], ◌∷◌, ◌++◌, map, length, get_or, take, drop, sym, refl, ap, ◌∙◌, arith, length-append, length-drop}
use lib.ListN.{length-map}
use Rattle.std.proofs.lemmas.List.{map-append, drop_more, take_more, flat_map_more}
use Rattle.std.proofs.lemmas.List.Folds.{length-flat_map-take}
use Rattle.std.proofs.lemmas.Bool.{eq-eqb}
use Rattle.std.proofs.lemmas.Nat.Bits.{bit_at_ones}
use Rattle.std.specs.List.{flat_map}
use Rattle.words.specs.declared.LatchSet.{LatchSet}
use Rattle.words.specs.Bit.{bit}
use Rattle.words.specs.Sets.{most_latches, has}
use Rattle.theory.specs.Recipes.{Part, moves_to, opened}
use Rattle.theory.specs.Route.{set_route, kept_table, entries, route}
use Rattle.theory.specs.Class.{in_class?}
use Rattle.theory.proofs.Meant.{class_is_meant}
use Rattle.theory.proofs.Theorems.{route_is_short}
use Rattle.rules.specs.NormalForm.{number_of}
use Rattle.tasks.specs.declared.task.NormalTask.{NormalTask}
use Rattle.tasks.proofs.ClassFormed.{well_formed}
use Rattle.tasks.specs.Tasks.{task_of}
use Rattle.planner.specs.declared.recipes.kept.Recipes.{Recipes}
use Rattle.planner.specs.declared.route.entry.Entry.{Entry}
use Rattle.planner.specs.Laid.{no_entry, entry_part, parts_of, rest, size, Extends}
use Rattle.planner.specs.Limits.{most_entries}
use Rattle.planner.specs.Listed.{entry_numbers, route_numbers, Listed}
use Rattle.planner.specs.Lookup.{nth}
use Rattle.planner.specs.Made.{numbers, latch_at}
use Rattle.planner.specs.Orders.{order_of}
use Rattle.planner.proofs.Nth.{nth_left, nth_behind}
use Rattle.planner.proofs.OrderFresh.{few}
use Rattle.planner.proofs.Rests.{rest_within, size_most}

-- every latch that there can be is in the set of all
pub all_in : (s : LatchSet) (u : ℕ) → s.word ≡ 4294967295 → u < most_latches → has s u ≡ true
all_in s u e l =
    eq-eqb (bit s.word u) 1
    (ap (λ (w : ℕ). bit w u) e ∙ bit_at_ones 32 u l)

module _ (s : Recipes) where
  -- no more latches than there are entries for
  pub all_fit : (W : ℕ → Bool) → 2 * size W (rest s.order 0) ≤ most_entries
  all_fit W =
      let most = size_most W (rest s.order 0) in
      let shorter : length (rest s.order 0) ≤ length (order_of s.order) = omega (arith, length-drop 0 (order_of s.order)) in
      omega (arith, few s.order)

  -- the route of all latches, behind no entry
  pub all_laid : (set : LatchSet) (es after : List Entry) → set.word ≡ 4294967295 → es ≡ [] → Extends s set 0 es after →
      parts_of s.order after ≡ entries (task_of s.task)
  unfolding entries
  all_laid set es after e none x =
      x.parts (λ u. true) (λ u i. all_in set u e (let below = rest_within s.order s.task s.orders 0 u i in omega (arith, s.task.narrow)))
      ∙ ap (λ (xs : List Entry). map (entry_part s.order) xs ++ set_route (task_of s.task) (kept_table (task_of s.task)) (order_of s.order) (λ u. true)) none
      ∙ ap (λ (vs : List ℕ). set_route (task_of s.task) (kept_table (task_of s.task)) vs (λ u. true)) s.orders

  -- the recipes of entries, opened
  opened_entries : (es : List Entry) → numbers (opened (kept_table (task_of s.task)) (map (entry_part s.order) es)) ≡ flat_map (entry_numbers s) es
  opened_entries [] = refl
  opened_entries (e ∷ es) =
      map-append number_of (moves_to e.to (kept_table (task_of s.task) (latch_at s.order e.place))) (opened (kept_table (task_of s.task)) (map (entry_part s.order) es))
      ∙ ap (λ (ks : List ℕ). entry_numbers s e ++ ks) (opened_entries es)

  pub listed : (es : List Entry) → parts_of s.order es ≡ entries (task_of s.task) → Listed s es
  unfolding route
  listed es e =
      sym (ap (λ (ps : List Part). numbers (opened (kept_table (task_of s.task)) ps)) e) ∙ opened_entries es

-- a loop over entries, with the moves that each stands for
module _ (f : Entry → List ℕ) (es : List Entry) (i : ℕ) (l : i < length es) where
  -- the moves of one entry more
  pub more_moves : length (flat_map f (take (i + 1) es)) ≡ length (flat_map f (take i es)) + length (f (get_or es i no_entry))
  more_moves =
      ap (λ (xs : List Entry). length (flat_map f xs)) (take_more es i no_entry l)
      ∙ ap (λ (ks : List ℕ). length ks) (sym (flat_map_more f [] (take i es) (get_or es i no_entry)))
      ∙ length-append (flat_map f (take i es)) (f (get_or es i no_entry))

  -- they are some of the moves
  pub fewer_moves : length (flat_map f (take i es)) + length (f (get_or es i no_entry)) ≤ length (flat_map f es)
  fewer_moves = length-flat_map-take f es i no_entry l

  -- what is left of the moves: those of the next entry and of the ones behind
  left_moves : flat_map f (drop i es) ≡ f (get_or es i no_entry) ++ flat_map f (drop (i + 1) es)
  left_moves = ap (flat_map f) (drop_more es i no_entry l)

  pub left_inside : (k : ℕ) → k < length (f (get_or es i no_entry)) → nth (flat_map f (drop i es)) k ≡ nth (f (get_or es i no_entry)) k
  left_inside k h = ap (λ (ks : List ℕ). nth ks k) left_moves ∙ nth_left (f (get_or es i no_entry)) _ k h

  pub left_behind : (k m q : ℕ) → m ≡ length (f (get_or es i no_entry)) → m ≤ k → q ≡ k - m →
      nth (flat_map f (drop i es)) k ≡ nth (flat_map f (drop (i + 1) es)) q
  left_behind k m q c h p = ap (λ (ks : List ℕ). nth ks k) left_moves ∙ nth_behind (f (get_or es i no_entry)) _ k m q c h p

-- a route in the class is short enough for a 64-bit length
pub route_fits : (t : NormalTask) → in_class? (task_of t) ≡ true → length (route_numbers t) < 2 ^ 64
route_fits t class =
    let well = well_formed t in
    let short = route_is_short.fits (task_of t) well ((class_is_meant (task_of t) well).0 class) t.narrow in
    omega (arith, length-map (route (task_of t)) number_of)
