-- One more call at the end of a list of calls.
use Rattle.std.proofs.Common.{◌≡◌, suc, List, [], ◌∷◌, ◌++◌, length, refl, ap}
use Rattle.runs.specs.declared.Call.{Call}
use Rattle.runs.specs.Calls.{Seen}
use Rattle.runs.specs.Model.{Model, after, seen_of, seen, last}

pub seen_more : (m : Model) (cs : List Call) (c : Call) → seen m (cs ++ (c ∷ [])) ≡ seen m cs ++ (seen_of (last m cs) c ∷ [])
seen_more m [] c = refl
seen_more m (d ∷ cs) c = ap {B = List Seen} (λ xs. seen_of m d ∷ xs) (seen_more (after m d) cs c)

pub last_more : (m : Model) (cs : List Call) (c : Call) → last m (cs ++ (c ∷ [])) ≡ after (last m cs) c
last_more m [] c = refl
last_more m (d ∷ cs) c = last_more (after m d) cs c

-- as many calls are seen as are made
pub length_seen : (m : Model) (cs : List Call) → length (seen m cs) ≡ length cs
length_seen m [] = refl
length_seen m (c ∷ cs) = ap suc (length_seen (after m c) cs)

-- no call changes the book
pub last_rules : (m : Model) (cs : List Call) → (last m cs).rules ≡ m.rules
last_rules m [] = refl
last_rules m (c ∷ cs) = last_rules (after m c) cs
