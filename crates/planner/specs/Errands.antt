-- Errands in the words of the rules, and what a judgement says of one. Assumes nothing.
--   errand_task e   the book, the start and the want of the errand e, in normal form
--   start_of e      the start as a setting
--   Says j e        what the judgement j says of e: it is not in the class; it is, and there is no way; or it is, and its route leads there
use Rattle.book.specs.declared.errand.Errand.{Errand}
use Rattle.theory.specs.declared.Judgement.{Judgement}
use Rattle.theory.specs.declared.Judgement.TheVariants.{Way, NoWay, Outside}
use Rattle.theory.specs.Meaning.{InClass}
use Rattle.theory.specs.Tasks.{Task}
use Rattle.rules.specs.NormalForm.{task, route}
use Rattle.rules.specs.Rules.{Setting, Leads, MetBy, Way as AWay}
use Rattle.tasks.specs.Asks.{asks_of, rules_of, setting_of}

-- the errand in normal form
abbrev pub errand_task : Errand → Task
errand_task e = task (rules_of e.book) (setting_of e.book.latches e.start) (asks_of e.want)

-- the start as a setting
abbrev pub start_of : Errand → Setting
start_of e = setting_of e.book.latches e.start

-- of the book's own moves, from the start as it stands
abbrev pub Says : Judgement → Errand → Type 0
Says Outside e = InClass (errand_task e) → ⊥
Says NoWay e = InClass (errand_task e) × (AWay (rules_of e.book) (start_of e) (asks_of e.want) → ⊥)
Says Way e =
    InClass (errand_task e)
    × ((s : Setting) × (Leads (rules_of e.book) (route (rules_of e.book) (start_of e) (asks_of e.want)) (start_of e) s × MetBy (asks_of e.want) s))
