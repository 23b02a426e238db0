-- What a machine at rest answers to aims and nudges, and what they leave.
use Rattle.std.proofs.Common.{◌≡◌, ℕ, zero, suc, ◌<◌, Bool, true, false, List, length, get_or, take, Ok, Err, sym, refl, ap, ◌∙◌, arith}
use mathlib.Core.Option.{Option, none, some}
use lib.ListN.{get_elem?}
use Rattle.std.proofs.lemmas.List.{length-map, length-take-le, get_or-map, get_or-take}
use Rattle.std.proofs.lemmas.Bool.{eq-eqb, lt-ltb}
use Rattle.words.specs.declared.LatchSet.{LatchSet}
use Rattle.book.specs.declared.book.Book.{Book}
use Rattle.book.specs.Places.{no_move, move_at}
use Rattle.theory.specs.Class.{in_class?}
use Rattle.theory.specs.Route.{no_way?}
use Rattle.rules.specs.declared.refusal.Refusal.{Refusal}
use Rattle.rules.specs.Naming.{errand_of, names?}
use Rattle.rules.specs.NormalForm.{route}
use Rattle.rules.specs.Rules.{Setting}
use Rattle.tasks.specs.Asks.{rule_of, rules_of, setting_of}
use Rattle.planner.specs.declared.route.tabled.Route.{Route}
use Rattle.planner.specs.Plans.{errand_task, refusal, Planned, LeadsThere}
use Rattle.planner.specs.Routes.{moves_of}
use Rattle.runs.specs.declared.Answer.{Answer}
use Rattle.runs.specs.declared.Answer.TheVariants.{Found, Declined}
use Rattle.runs.specs.declared.Call.{Call}
use Rattle.runs.specs.declared.Call.TheVariants.{Aim, Nudge}
use Rattle.runs.specs.Deciding.{fits?, legal?, aimed, nudged}
use Rattle.runs.specs.Model.{resting, answered_resting, opened, going_on, progress_after}
use Rattle.runs.proofs.Places.{element_there, leads_below}
use Rattle.sequencer.specs.declared.machine.kept.Machine.{Machine}
use Rattle.sequencer.specs.declared.machine.shown.Shown.{Shown}
use Rattle.sequencer.specs.declared.machine.state.State.{State}
use Rattle.sequencer.specs.declared.machine.state.State.TheVariants.{Idle, Running}
use Rattle.sequencer.specs.Machines.{progress_of, Shows, Does}
use Rattle.sequencer.specs.States.{admitted}
use Rattle.sequencer.proofs.Showing.{shown_whole}

-- the book's moves, as rules
pub rules_count : (b : Book) → length (rules_of b).moves ≡ b.count
rules_count b = length-map (take b.count b.moves) rule_of ∙ length-take-le b.count b.moves (omega (arith, b.room, b.move_places))

-- the move of a number of the book
pub rule_there : (b : Book) (k : ℕ) → k < b.count → get_elem? (rules_of b).moves k ≡ some (rule_of (move_at b.moves k))
rule_there b k l =
    let kept = take b.count b.moves in
    let long : length kept ≡ b.count = length-take-le b.count b.moves (omega (arith, b.room, b.move_places)) in
    element_there (rules_of b).moves k (rule_of no_move) (omega (arith, rules_count b))
    ∙ ap some (get_or-map rule_of kept k no_move (rule_of no_move) (omega arith) ∙ ap rule_of (get_or-take b.count b.moves k no_move l))

-- a route that leads somewhere has moves of the book alone
pub route_own : (b : Book) (s : Setting) (named wanted : LatchSet) (p : Route) → LeadsThere (rules_of b) s named wanted p →
    (k : ℕ) → k < length (moves_of p) → get_or (moves_of p) k 0 < b.count
route_own b s named wanted p way k l =
    let below = leads_below (rules_of b) (moves_of p) s way.end way.leads k l in
    omega (arith, rules_count b)

-- aims and nudges are let in at rest alone
pub aim_rests : (st : State) (done : ℕ) (named wanted : LatchSet) → Ok done ≡ admitted st (Aim named wanted) → st ≡ Idle
aim_rests Idle done named wanted e = refl
aim_rests (Running i) done named wanted e = cc

pub nudge_rests : (st : State) (done k : ℕ) → Ok done ≡ admitted st (Nudge k) → st ≡ Idle
nudge_rests Idle done k e = refl
nudge_rests (Running i) done k e = cc

-- what a machine at rest does
pub rests : (m m' : Machine) → m.state ≡ Idle → (s : Setting) (c : Call) (a : Answer) → answered_resting (rules_of m.book) s c ≡ a →
    progress_of m' ≡ progress_after (rules_of m.book) s resting c a → Does s c m m' a
rests m m' idle s c a e p = record { answered_so = rw idle (sym e); goes_on = rw idle (rw e p) }

-- a refusal of the planner, or its route's length, as an answer
abbrev as_answer : Option Refusal → ℕ → Answer
as_answer none n = Found n
as_answer (some why) n = Declined why

planned_as : (names class lacks : Bool) (n : ℕ) → aimed true names class lacks n ≡ as_answer (refusal names class lacks) n
planned_as false class lacks n = refl
planned_as true false lacks n = refl
planned_as true true true n = refl
planned_as true true false n = refl

-- on a panel that fits
module _ (b : Book) (shown : Shown) (s : Setting) (w : Shows shown s) (e : shown.width ≡ b.latches) where
  fit : fits? (rules_of b) s ≡ true
  fit = eq-eqb (length s) b.latches (sym w.wide ∙ e)

  -- the planner's start is the setting
  start_is : setting_of b.latches shown.raised ≡ s
  start_is = shown_whole b.latches shown s w (sym w.wide ∙ e)

  module _ (named wanted : LatchSet) where
    -- why there is no route, if there is none, and how long it is
    abbrev lacking : Option Refusal
    lacking =
        let t = errand_task (rules_of b) s named wanted in
        refusal (names? (rules_of b) named wanted) (in_class? t) (no_way? t)

    abbrev long : ℕ
    long = length (route (rules_of b) s (errand_of named wanted))

    aim_answer : answered_resting (rules_of b) s (Aim named wanted) ≡ as_answer lacking long
    aim_answer = rw fit (planned_as _ _ _ _)

    pub aim_declined : (why : Refusal) → Planned (rules_of b) (setting_of b.latches shown.raised) named wanted (Err why) →
        answered_resting (rules_of b) s (Aim named wanted) ≡ Declined why
    aim_declined why h = aim_answer ∙ ap (λ (o : Option Refusal). as_answer o long) (rw start_is at h)

    pub aim_found : (p : Route) → Planned (rules_of b) (setting_of b.latches shown.raised) named wanted (Ok p) →
        (answered_resting (rules_of b) s (Aim named wanted) ≡ Found (length (moves_of p))) × (moves_of p ≡ route (rules_of b) s (errand_of named wanted))
    aim_found p h =
        let there = rw start_is at h in
        (aim_answer ∙ ap (λ (o : Option Refusal). as_answer o long) there.0 ∙ ap (λ (ks : List ℕ). Found (length ks)) (sym there.1), there.1)

  pub nudge_answer : (k : ℕ) → k < b.count → answered_resting (rules_of b) s (Nudge k) ≡ nudged true true (legal? (rules_of b) s (rule_of (move_at b.moves k)))
  nudge_answer k l = rw (fit, lt-ltb k (length (rules_of b).moves) (omega (arith, rules_count b)), rule_there b k l) refl

-- a route that is found is run from its start, if it has a move
pub opened_run : (ks : List ℕ) (n : ℕ) → opened ks (Found n) ≡ going_on ks 0 n
opened_run ks zero = refl
opened_run ks (suc n) = refl
