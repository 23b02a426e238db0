-- One entry more behind the others.
use Rattle.std.proofs.Common.{◌≡◌, ℕ, ◌+◌, ◌<◌, Bool, true, List, [], ◌∷◌, ◌++◌, map, length, get_or, sym, ap, ◌∙◌, subst, inl, inr, arith, length-append}
use Rattle.std.proofs.lemmas.List.{map_push, get_or_append_left}
use Rattle.std.proofs.Math.Seq.{get_or-append_seam}
use Rattle.theory.specs.Recipes.{recipe_of}
use Rattle.theory.specs.Route.{when}
use Rattle.theory.proofs.Searches.{below_cases}
use Rattle.planner.specs.declared.order.list.Order.{Order}
use Rattle.planner.specs.declared.route.entry.Entry.{Entry}
use Rattle.planner.specs.Made.{latch_at}
use Rattle.planner.specs.Laid.{no_entry, entry_part, parts_of, Placed, Puts}
use Rattle.planner.specs.Orders.{order_of}

module _ (es after : List Entry) (place : ℕ) (to : Bool) (pushed : after ≡ es ++ record { place = place; to = to } ∷ []) where
  abbrev new : Entry
  new = record { place = place; to = to }

  count : length after ≡ length es + 1
  count = ap (λ (xs : List Entry). length xs) pushed ∙ length-append es (new ∷ [])

  placed : (order : Order) → place < length (order_of order) → Placed order es → Placed order after
  placed order l p k h =
      let at : get_or after k no_entry ≡ get_or (es ++ new ∷ []) k no_entry = ap (λ (xs : List Entry). get_or xs k no_entry) pushed in
      elim (below_cases k (length es) (omega (arith, count))) [
        | inl a ↦ subst (λ (e : Entry). e.place < length (order_of order)) (sym (at ∙ get_or_append_left es (new ∷ []) no_entry k a)) (p k a)
        | inr e ↦ subst (λ (x : Entry). x.place < length (order_of order)) (sym (at ∙ ap (λ (j : ℕ). get_or (es ++ new ∷ []) j no_entry) e ∙ get_or-append_seam es new [] no_entry)) l
      ]

  pub put : (b : Bool) → b ≡ true → Puts b place to es after
  put b e = record {
    room = omega (arith, count);
    placed = placed;
    parts = λ order.
        ap (map (entry_part order)) pushed ∙ map_push (entry_part order) es new
        ∙ ap (λ (c : Bool). parts_of order es ++ when c (recipe_of (latch_at order place) to)) (sym e);
  }
