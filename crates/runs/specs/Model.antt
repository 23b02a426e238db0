-- The sequencer as it is meant: what it keeps, what it answers to each call, and what each call leaves. Assumes nothing.
--   Progress                     resting, or running: the route of the run, as numbers of moves, and how many of them are thrown
--   Model                        a book, the panel's setting, and the progress
--   answered_resting r s c       what the call c is answered while resting
--   answered_running ks i c      what it is answered while running the route ks with i moves thrown
--   answered_in r s p c          the one or the other, by the progress p
--   answered m c                 what the model m answers to c
--   thrown_by o s                what the move o, if there is one, leaves of s
--   stepped r s a                the panel after a step that is answered a
--   pushed r s k a               the panel after a nudge at the move k that is answered a
--   setting_after r s c a        the panel after the call c that is answered a
--   opened ks a                  the progress after an aim that is answered a, ks being the route
--   going_on ks i left           the progress with i moves of ks thrown and so many left
--   progress_after r s p c a     the progress after the call c that is answered a
--   after m c                    the model that the call c leaves
--   new r s                      a book and a panel, resting
--   seen_of m c, seen m cs       what is seen of one call, and of a list of calls
--   last m cs                    the model after a list of calls
use Rattle.std.specs.Prelude.{ℕ, zero, suc, ◌+◌, ◌-◌, List, [], ◌∷◌, length, nat_lt, slice_index}
use Rattle.std.proofs.Math.Option.{Option, none, some}
use Rattle.std.proofs.Math.ListN.{get_elem?}
use Rattle.theory.specs.Class.{in_class?}
use Rattle.theory.specs.Route.{no_way?}
use Rattle.rules.specs.declared.refusal.Refusal.TheVariants.{Running, Idle}
use Rattle.rules.specs.Rules.{Rule, Rules, Setting, thrown}
use Rattle.rules.specs.NormalForm.{task, route}
use Rattle.rules.specs.Naming.{errand_of, names?}
use Rattle.runs.specs.declared.Call.{Call}
use Rattle.runs.specs.declared.Call.TheVariants.{Aim, Step, Nudge, Stop}
use Rattle.runs.specs.declared.Answer.{Answer}
use Rattle.runs.specs.declared.Answer.TheVariants.{Found, Threw, Done, Declined}
use Rattle.runs.specs.Calls.{Seen}
use Rattle.runs.specs.Deciding.{fits?, legal_at?, aimed, nudged}

-- whether a run is under way, and how far it is
pub data Progress : Type 0 where
  resting : Progress
  running : List ℕ → ℕ → Progress

-- what a sequencer keeps
pub record Model : Type 0 where
  pub rules : Rules
  pub setting : Setting
  pub progress : Progress

-- the answer while resting
abbrev pub answered_resting : Rules → Setting → Call → Answer
answered_resting r s (Aim named wanted) =
    let t = task r s (errand_of named wanted) in
    aimed (fits? r s) (names? r named wanted) (in_class? t) (no_way? t) (length (route r s (errand_of named wanted)))
answered_resting r s Step = Declined Idle
answered_resting r s (Nudge k) = nudged (fits? r s) (nat_lt k (length r.moves)) (legal_at? r s (get_elem? r.moves k))
answered_resting r s Stop = Declined Idle

-- the answer while running
abbrev pub answered_running : List ℕ → ℕ → Call → Answer
answered_running ks i (Aim named wanted) = Declined Running
answered_running ks i Step = Threw (record { number = slice_index ks i; left = length ks - (i + 1) })
answered_running ks i (Nudge k) = Declined Running
answered_running ks i Stop = Done

-- the answer, by the progress
abbrev pub answered_in : Rules → Setting → Progress → Call → Answer
answered_in r s resting c = answered_resting r s c
answered_in r s (running ks i) c = answered_running ks i c

-- the answer
abbrev pub answered : Model → Call → Answer
answered m c = answered_in m.rules m.setting m.progress c

-- the panel after a move that may be absent
abbrev pub thrown_by : Option Rule → Setting → Setting
thrown_by none s = s
thrown_by (some m) s = thrown s m

-- a step throws the move of its answer
abbrev pub stepped : Rules → Setting → Answer → Setting
stepped r s (Threw t) = thrown_by (get_elem? r.moves t.number) s
stepped r s (Found n) = s
stepped r s Done = s
stepped r s (Declined why) = s

-- a nudge that is granted throws the move that it names
abbrev pub pushed : Rules → Setting → ℕ → Answer → Setting
pushed r s k Done = thrown_by (get_elem? r.moves k) s
pushed r s k (Found n) = s
pushed r s k (Threw t) = s
pushed r s k (Declined why) = s

-- the panel after a call, by its answer
abbrev pub setting_after : Rules → Setting → Call → Answer → Setting
setting_after r s (Aim named wanted) a = s
setting_after r s Step a = stepped r s a
setting_after r s (Nudge k) a = pushed r s k a
setting_after r s Stop a = s

-- a route with a move is run
abbrev pub opened : List ℕ → Answer → Progress
opened ks (Found zero) = resting
opened ks (Found (suc n)) = running ks 0
opened ks (Threw t) = resting
opened ks Done = resting
opened ks (Declined why) = resting

-- with i moves thrown and so many left
abbrev pub going_on : List ℕ → ℕ → ℕ → Progress
going_on ks i zero = resting
going_on ks i (suc left) = running ks i

-- the progress after a call, by its answer
abbrev pub progress_after : Rules → Setting → Progress → Call → Answer → Progress
progress_after r s resting (Aim named wanted) a = opened (route r s (errand_of named wanted)) a
progress_after r s resting Step a = resting
progress_after r s resting (Nudge k) a = resting
progress_after r s resting Stop a = resting
progress_after r s (running ks i) (Aim named wanted) a = running ks i
progress_after r s (running ks i) Step a = going_on ks (i + 1) (length ks - (i + 1))
progress_after r s (running ks i) (Nudge k) a = running ks i
progress_after r s (running ks i) Stop a = resting

-- what a call leaves
abbrev pub after : Model → Call → Model
after m c = record {
  rules = m.rules;
  setting = setting_after m.rules m.setting c (answered m c);
  progress = progress_after m.rules m.setting m.progress c (answered m c);
}

-- how a sequencer begins
abbrev pub new : Rules → Setting → Model
new r s = record { rules = r; setting = s; progress = resting }

-- what is seen of one call
abbrev pub seen_of : Model → Call → Seen
seen_of m c = record { call = c; before = m.setting; answer = answered m c; after = (after m c).setting }

-- what is seen of calls made one after another
abbrev pub seen : Model → List Call → List Seen
seen m [] = []
seen m (c ∷ cs) = seen_of m c ∷ seen (after m c) cs

-- what calls made one after another leave
abbrev pub last : Model → List Call → Model
last m [] = m
last m (c ∷ cs) = last (after m c) cs
