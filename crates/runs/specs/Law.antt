-- The law of whole runs: of calls and answers, settings, legal moves and where they lead, and of nothing inside the sequencer. Assumes nothing.
--   Finding r w s a       a is the right answer to an aim at w from s, where w is in the class
--   Finds r turn x        each aim is answered so that is made while idle, on a panel that fits, with sets that name aright, in the class
--   Throwing r turn x     a granted step or nudge throws its move, legally, and no other call changes the panel
--   GoesOn r w s i x      a step of the run along the route from s to w, made with i steps granted before it
--   Finishes r turn x     each step of a run is granted and is the next of the route, and the last one leaves the errand met
--   WhileIdle x           a step and a stop are refused, and nothing is refused because of a run
--   WhileUnderWay x       an aim and a nudge are refused, and a stop is granted
--   InTurn turn x         the one or the other, by the turn
--   AimRefused            what each refusal of an aim means
--   NudgeRefused          what each refusal of a nudge means, and that a legal move is thrown
--   Refuses r turn x      an aim or a nudge made while idle is refused so
--   Along P turn xs       P holds of each call seen, with the turn in which it was made; the first was made in turn
--   Chained s xs e        each call finds the panel as the one before left it; the first finds s, and the last leaves e
--   Law r s xs e          the law of what is seen of a whole run that begins idle with the panel at s and ends with it at e
use Rattle.std.specs.Prelude.{◌≡◌, ℕ, ◌+◌, ◌≢◌, ◌↔◌, List, [], ◌∷◌, length}
use Rattle.std.proofs.Math.Option.{none, some}
use Rattle.std.proofs.Math.ListN.{get_elem?}
use Rattle.words.specs.declared.LatchSet.{LatchSet}
use Rattle.theory.specs.Meaning.{InClass}
use Rattle.rules.specs.declared.refusal.Refusal.TheVariants.{Misfit, Misnamed, Outside, NoWay, Running, Idle, NoSuchMove, Illegal}
use Rattle.rules.specs.Rules.{Rule, Rules, Errand, Setting, Legal, Throws, MetBy, Way}
use Rattle.rules.specs.NormalForm.{task, route}
use Rattle.rules.specs.Naming.{errand_of, Names}
use Rattle.runs.specs.declared.Call.TheVariants.{Aim, Step, Nudge, Stop}
use Rattle.runs.specs.declared.Answer.{Answer}
use Rattle.runs.specs.declared.Answer.TheVariants.{Found, Threw, Done, Declined}
use Rattle.runs.specs.declared.Thrown.{Thrown}
use Rattle.runs.specs.Calls.{Seen, Turn, idle, under_way, follow}

-- no way is answered exactly when there is none, and otherwise the length of the route
pub record Finding (r : Rules) (w : Errand) (s : Setting) (a : Answer) : Type 0 where
  pub refused : (a ≡ Declined NoWay) ↔ (Way r s w → ⊥)
  pub granted : (a ≢ Declined NoWay) → a ≡ Found (length (route r s w))

-- the panel fits, the sets name aright, and the task is in the class
abbrev pub Finds : Rules → Turn → Seen → Type 0
Finds r (under_way w s i) x = Unit {0}
Finds r idle x =
    (named wanted : LatchSet) → x.call ≡ Aim named wanted → length x.before ≡ r.latches → Names r named wanted →
    InClass (task r x.before (errand_of named wanted)) → Finding r (errand_of named wanted) x.before x.answer

-- a step throws the move that it answers, a nudge the one that it is given
abbrev pub Throwing : Rules → Turn → Seen → Type 0
Throwing r turn x =
    elim x.call [
      | Aim named wanted ↦ x.after ≡ x.before
      | Stop ↦ x.after ≡ x.before
      | Step ↦
          elim x.answer [
            | Threw t ↦ Throws r t.number x.before x.after
            | Found n ↦ ⊥
            | Done ↦ ⊥
            | Declined why ↦ x.after ≡ x.before
          ]
      | Nudge k ↦
          elim x.answer [
            | Done ↦ Throws r k x.before x.after
            | Found n ↦ ⊥
            | Threw t ↦ ⊥
            | Declined why ↦ x.after ≡ x.before
          ]
    ]

-- the route's move at place i is thrown, what is left is counted, and with none left the errand is met
pub record GoesOn (r : Rules) (w : Errand) (s : Setting) (i : ℕ) (x : Seen) : Type 0 where
  pub thrown : Thrown
  pub answered : x.answer ≡ Threw thrown
  pub next : get_elem? (route r s w) i ≡ some thrown.number
  pub counted : thrown.left + (i + 1) ≡ length (route r s w)
  pub finished : thrown.left ≡ 0 → MetBy w x.after

-- a route of no moves finds the errand met
abbrev pub Finishes : Rules → Turn → Seen → Type 0
Finishes r (under_way w s i) x = x.call ≡ Step → GoesOn r w s i x
Finishes r idle x = (named wanted : LatchSet) → x.call ≡ Aim named wanted → x.answer ≡ Found 0 → MetBy (errand_of named wanted) x.after

-- no run is under way
pub record WhileIdle (x : Seen) : Type 0 where
  pub step : x.call ≡ Step → x.answer ≡ Declined Idle
  pub stop : x.call ≡ Stop → x.answer ≡ Declined Idle
  pub other : x.answer ≢ Declined Running

-- a run is under way
pub record WhileUnderWay (x : Seen) : Type 0 where
  pub aim : (named wanted : LatchSet) → x.call ≡ Aim named wanted → x.answer ≡ Declined Running
  pub nudge : (k : ℕ) → x.call ≡ Nudge k → x.answer ≡ Declined Running
  pub stop : x.call ≡ Stop → x.answer ≡ Done

-- by the turn
abbrev pub InTurn : Turn → Seen → Type 0
InTurn idle x = WhileIdle x
InTurn (under_way w s i) x = WhileUnderWay x

-- Fits, Named and Class say that the panel fits, that the sets name aright, and that the task is in the class
pub record AimRefused (Fits Named Class : Type 0) (a : Answer) : Type 0 where
  pub misfit : (a ≡ Declined Misfit) ↔ (Fits → ⊥)
  pub misnamed : Fits → (a ≡ Declined Misnamed) ↔ (Named → ⊥)
  pub outside : Fits → Named → (a ≡ Declined Outside) ↔ (Class → ⊥)

-- Fits says that the panel fits
pub record NudgeRefused (r : Rules) (s : Setting) (k : ℕ) (Fits : Type 0) (a : Answer) : Type 0 where
  pub misfit : (a ≡ Declined Misfit) ↔ (Fits → ⊥)
  pub no_such_move : Fits → (a ≡ Declined NoSuchMove) ↔ (get_elem? r.moves k ≡ none)
  pub illegal : Fits → (m : Rule) → get_elem? r.moves k ≡ some m → (a ≡ Declined Illegal) ↔ (Legal s m → ⊥)
  pub granted : Fits → (m : Rule) → get_elem? r.moves k ≡ some m → Legal s m → a ≡ Done

-- a call made while a run is under way is refused by its turn alone
abbrev pub Refuses : Rules → Turn → Seen → Type 0
Refuses r (under_way w s i) x = Unit {0}
Refuses r idle x =
    elim x.call [
      | Aim named wanted ↦
          AimRefused (length x.before ≡ r.latches) (Names r named wanted) (InClass (task r x.before (errand_of named wanted))) x.answer
      | Step ↦ Unit {0}
      | Nudge k ↦ NudgeRefused r x.before k (length x.before ≡ r.latches) x.answer
      | Stop ↦ Unit {0}
    ]

-- of each call seen
abbrev pub Along : (Turn → Seen → Type 0) → Turn → List Seen → Type 0
Along P turn [] = Unit {0}
Along P turn (x ∷ xs) = P turn x × Along P (follow turn x) xs

-- nothing happens to the panel between the calls
abbrev pub Chained : Setting → List Seen → Setting → Type 0
Chained s [] e = s ≡ e
Chained s (x ∷ xs) e = (s ≡ x.before) × Chained x.after xs e

-- the law of whole runs
pub record Law (r : Rules) (s : Setting) (xs : List Seen) (e : Setting) : Type 0 where
  pub chained : Chained s xs e
  pub finding : Along (Finds r) idle xs
  pub throwing : Along (Throwing r) idle xs
  pub finishing : Along (Finishes r) idle xs
  pub turns : Along InTurn idle xs
  pub refusing : Along (Refuses r) idle xs
