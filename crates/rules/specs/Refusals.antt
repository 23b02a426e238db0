-- The numbers of refusals. Assumes nothing.
--   refusal_number e   the number of the refusal e
use Rattle.std.specs.Prelude.{ℕ}
use Rattle.rules.specs.declared.refusal.Refusal.{Refusal}
use Rattle.rules.specs.declared.refusal.Refusal.TheVariants.{Misfit, Misnamed, Outside, NoWay, Running, Idle, NoSuchMove, Illegal}

-- the number of a refusal
abbrev pub refusal_number : Refusal → ℕ
refusal_number Misfit = 7
refusal_number Misnamed = 8
refusal_number Outside = 9
refusal_number NoWay = 10
refusal_number Running = 11
refusal_number Idle = 12
refusal_number NoSuchMove = 13
refusal_number Illegal = 14
