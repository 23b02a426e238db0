-- What a partial setting says of each latch. Assumes nothing.
--   nothing_asked      the partial setting that names no latch
--   asked p i          the position that p gives latch i, if it names that latch
--   asked_with p i b   the same once latch i, if there can be such a latch, is given the position b
--   asked_without p i  the same once nothing is asked of latch i
use Rattle.std.specs.Prelude.{ℕ, Bool, cond, ◌&&◌, ◌==◌, nat_lt}
use Rattle.std.proofs.Math.Option.{Option, none, some}
use Rattle.words.specs.Sets.{most_latches, has, no_latch}
use Rattle.book.specs.declared.partial.PartialSetting.{PartialSetting}

-- no latch is named
abbrev pub nothing_asked : PartialSetting
nothing_asked = record { named = no_latch; ones = no_latch; within = λ j h. h }

-- the position that is given to latch i, if it is named
abbrev pub asked : PartialSetting → ℕ → Option Bool
asked p i = cond (has p.named i) (some (has p.ones i)) none

-- what is given to latch j once latch i is given b; a latch beyond the most is passed over
abbrev pub asked_with : PartialSetting → ℕ → Bool → ℕ → Option Bool
asked_with p i b j = cond (j == i && nat_lt i most_latches) (some b) (asked p j)

-- what is given to latch j once latch i is given nothing
abbrev pub asked_without : PartialSetting → ℕ → ℕ → Option Bool
asked_without p i j = cond (j == i) none (asked p j)
