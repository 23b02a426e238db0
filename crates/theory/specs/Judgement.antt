-- What is said of a task. Assumes nothing.
--   judgement in_class none   by whether it is in the class, and whether a latch wanted at 1 has no kept recipe to 1
use Rattle.std.specs.Prelude.{Bool, true, false}
use Rattle.theory.specs.declared.Judgement.{Judgement}
use Rattle.theory.specs.declared.Judgement.TheVariants.{Way, NoWay, Outside}

-- the class is judged first
abbrev pub judgement : Bool → Bool → Judgement
judgement false none = Outside
judgement true true = NoWay
judgement true false = Way
