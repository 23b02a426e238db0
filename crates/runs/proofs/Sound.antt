-- What holds of the model after any calls: while a run is under way, its next move is legal and the rest of its route does its errand.
use Rattle.std.proofs.Common.{◌≡◌, ℕ, List, [], ◌∷◌, length, get_or, sym, subst, inl, inr}
use lib.ListN.{get_elem?}
use Rattle.words.specs.declared.LatchSet.{LatchSet}
use Rattle.rules.specs.Rules.{Rules, Errand, Setting, Throws, RulesWithin}
use Rattle.rules.specs.NormalForm.{route}
use Rattle.rules.specs.Naming.{errand_of}
use Rattle.runs.specs.declared.Call.{Call}
use Rattle.runs.specs.declared.Call.TheVariants.{Aim}
use Rattle.runs.specs.declared.Answer.{Answer}
use Rattle.runs.specs.declared.Answer.TheVariants.{Found}
use Rattle.runs.specs.Calls.{Turn, idle, under_way, follow}
use Rattle.runs.specs.Model.{Progress, resting, running, Model, answered, after, new, seen_of, last, thrown_by}
use Rattle.runs.proofs.Turns.{OnTheWay, Follows}
use Rattle.runs.proofs.Resting.{AimGranted, aim_answer, Outcome, outcome}
use Rattle.runs.proofs.Going.{throws_next}
use Rattle.runs.proofs.Law.{follows_on}

-- a run along ks with i moves thrown, the panel at s: for some errand and some start
pub record SoundRun (r : Rules) (s : Setting) (ks : List ℕ) (i : ℕ) : Type 0 where
  pub errand : Errand
  pub start : Setting
  pub way : OnTheWay r s ks i errand start i

-- by the progress
abbrev pub SoundIn : Rules → Setting → Progress → Type 0
SoundIn r s resting = Unit {0}
SoundIn r s (running ks i) = SoundRun r s ks i

-- the invariant of the model
abbrev pub SoundModel : Model → Type 0
SoundModel m = SoundIn m.rules m.setting m.progress

pub new_sound : (r : Rules) (s : Setting) → SoundModel (new r s)
new_sound r s = tt

-- a sound model is as some turn tells it, and the other way round
turn_of : (r : Rules) (s : Setting) (p : Progress) → SoundIn r s p → (turn : Turn) × Follows r s p turn
turn_of r s resting h = (idle, tt)
turn_of r s (running ks i) h = (under_way h.errand h.start i, h.way)

sound_by : (r : Rules) (s : Setting) (p : Progress) (turn : Turn) → Follows r s p turn → SoundIn r s p
sound_by r s resting turn h = tt
sound_by r s (running ks i) idle h = absurd h
sound_by r s (running ks i) (under_way w start n) h = record {
  errand = w;
  start = start;
  way = subst (OnTheWay r s ks i w start) (sym h.counted) h;
}

-- each call keeps it
pub after_sound : (m : Model) → RulesWithin m.rules → SoundModel m → (c : Call) → SoundModel (after m c)
after_sound m within h c =
    let t = turn_of m.rules m.setting m.progress h in
    sound_by m.rules (after m c).setting (after m c).progress (follow t.0 (seen_of m c))
    (follows_on m.rules within m.setting m.progress t.0 t.1 c)

-- and so does a list of calls
pub last_sound : (m : Model) → RulesWithin m.rules → SoundModel m → (cs : List Call) → SoundModel (last m cs)
last_sound m within h [] = h
last_sound m within h (c ∷ cs) = last_sound (after m c) within (after_sound m within h c) cs

-- the next move of a run is legal
pub step_throws : (r : Rules) (s : Setting) (ks : List ℕ) (i : ℕ) → SoundRun r s ks i → Throws r (get_or ks i 0) s (thrown_by (get_elem? r.moves (get_or ks i 0)) s)
step_throws r s ks i h = throws_next r s ks i h.errand h.start i h.way

-- an aim that is granted answers the length of the route, and the route does the errand
pub aim_grants : (r : Rules) → RulesWithin r → (s : Setting) (named wanted : LatchSet) (n : ℕ) → answered (new r s) (Aim named wanted) ≡ Found n →
    (n ≡ length (route r s (errand_of named wanted))) × AimGranted r s named wanted
aim_grants r within s named wanted n e = go (aim_answer r within s named wanted) (outcome r within s named wanted) e
  where
    go : (a : Answer) → Outcome r within s named wanted a → a ≡ Found n → (n ≡ length (route r s (errand_of named wanted))) × AimGranted r s named wanted
    go a (inl h) d = let p = h.1 in cc
    go a (inr h) d = ((let p = h.0 in cc), h.1)
