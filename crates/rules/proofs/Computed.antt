-- The worked errands come to what they should, by computing.
use Rattle.std.proofs.Common.{refl}
use Rattle.theory.specs.Class.{edge?, walk?, acyclic?, static?, reversible?, dependent?, link?, side?, splitting?, in_class?}
use Rattle.theory.specs.Order.{placing, latest_first, order}
use Rattle.theory.specs.Recipes.{recipe_parts, chosen, table_of}
use Rattle.theory.specs.Route.{set_route, kept_table, entries, route, no_way?}
use Rattle.rules.specs.Worked.{Worked}

-- names all that has to be opened to compute a route
all_open : Unit {0}
unfolding edge? walk? acyclic? static? reversible? dependent? link? side? splitting? in_class? placing latest_first order recipe_parts chosen table_of set_route kept_table entries route no_way?
all_open = tt

pub worked : Worked
unfolding all_open
worked = record {
  g_learn = (refl, refl);
  g_all = (refl, refl);
  g_from_one = (refl, refl);
  no_move_one = refl;
  no_move_zero = (refl, refl);
  both_moves_zero = (refl, refl);
  both_moves_any = (refl, refl);
  move_to_one_zero = (refl, refl);
  y_alone = refl;
  y_with_x = (refl, refl);
  circle_any = refl;
  asks_target_one = refl;
}
