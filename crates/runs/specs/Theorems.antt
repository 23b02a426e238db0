-- The theorems on whole runs. Assumes nothing.
--   Lawful r s calls     what is seen of these calls is of these calls, and keeps the law
--   RunsKeepTheLaw       it is so for every book that exists, every panel, fitting or not, and every list of calls
--   TestsAreMeant        the tests of the model say what is meant
use Rattle.std.specs.Prelude.{◌≡◌, true, ◌↔◌, List, map, length}
use Rattle.words.specs.declared.LatchSet.{LatchSet}
use Rattle.theory.specs.Searches.{In}
use Rattle.rules.specs.Rules.{Rule, Rules, Setting, Legal, RulesWithin}
use Rattle.rules.specs.Naming.{Names, names?}
use Rattle.runs.specs.declared.Call.{Call}
use Rattle.runs.specs.Calls.{call_of}
use Rattle.runs.specs.Deciding.{fits?, legal?}
use Rattle.runs.specs.Model.{new, seen, last}
use Rattle.runs.specs.Law.{Law}

-- from the setting at the beginning to the setting at the end
pub record Lawful (r : Rules) (s : Setting) (calls : List Call) : Type 0 where
  pub of_the_calls : map call_of (seen (new r s) calls) ≡ calls
  pub law : Law r s (seen (new r s) calls) (last (new r s) calls).setting

-- whatever is called
abbrev pub RunsKeepTheLaw : Type 0
RunsKeepTheLaw = (r : Rules) → RulesWithin r → (s : Setting) (calls : List Call) → Lawful r s calls

-- both ways
pub record TestsAreMeant : Type 0 where
  pub fitting : (r : Rules) (s : Setting) → (fits? r s ≡ true) ↔ (length s ≡ r.latches)
  pub naming : (r : Rules) (named wanted : LatchSet) → (names? r named wanted ≡ true) ↔ Names r named wanted
  pub legality : (r : Rules) → RulesWithin r → (s : Setting) (m : Rule) → In r.moves m → (legal? r s m ≡ true) ↔ Legal s m
