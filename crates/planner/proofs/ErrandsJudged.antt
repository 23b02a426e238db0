-- What each judgement says of an errand.
use Rattle.std.proofs.Common.{◌≡◌, Bool, true, false, ◌↔◌, refl}
use Rattle.std.proofs.lemmas.Bool.{both_ways}
use Rattle.book.specs.declared.errand.Errand.{Errand}
use Rattle.theory.specs.Class.{in_class?}
use Rattle.theory.specs.Judgement.{judgement}
use Rattle.theory.specs.Meaning.{InClass}
use Rattle.theory.specs.Route.{no_way?}
use Rattle.theory.proofs.Meant.{class_is_meant}
use Rattle.rules.proofs.Theorems.{normal_form_is_right, route_leads, no_way_is_none}
use Rattle.tasks.specs.Asks.{asks_of, rules_of}
use Rattle.tasks.proofs.Bridge.{setting_length, book_within, want_within}
use Rattle.planner.specs.Errands.{errand_task, start_of, Says}

-- each judgement says what is so
module _ (e : Errand) where
  -- what holds of every book, start and errand that go together
  meant : (in_class? (errand_task e) ≡ true) ↔ InClass (errand_task e)
  meant =
      class_is_meant (errand_task e)
      (normal_form_is_right (rules_of e.book) (book_within e.book) (start_of e) (setting_length e.book.latches e.start) (asks_of e.want)
      (want_within e.book e.want e.wants)).well_formed

  pub says_so : Says (judgement (in_class? (errand_task e)) (no_way? (errand_task e))) e
  says_so = go (in_class? (errand_task e)) (no_way? (errand_task e)) refl refl
    where
      go : (a b : Bool) → in_class? (errand_task e) ≡ a → no_way? (errand_task e) ≡ b → Says (judgement a b) e
      go false b p q = λ i. both_ways (in_class? (errand_task e)) p (meant.1 i)
      go true true p q =
          let inside = meant.0 p in (
            inside,
            (no_way_is_none (rules_of e.book) (book_within e.book) (start_of e) (setting_length e.book.latches e.start) (asks_of e.want)
                (want_within e.book e.want e.wants) inside).0 q,
          )
      go true false p q =
          let inside = meant.0 p in (
            inside,
            route_leads (rules_of e.book) (book_within e.book) (start_of e) (setting_length e.book.latches e.start) (asks_of e.want)
                (want_within e.book e.want e.wants) inside q,
          )
