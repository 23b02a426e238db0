-- The two loops of a book: its latches and its moves.
use Rattle.std.proofs.Common.{◌≡◌, ℕ, ◌+◌, ◌-◌, ◌<◌, List, [], ◌∷◌, ◌++◌, map, length, take, set, codes, refl, ap, ◌∙◌}
use Rattle.std.proofs.lemmas.List.{take_more_set, map_push}
use Rattle.format.specs.declared.Fault.{Fault}
use Rattle.format.specs.Bytes.{Bytes}
use Rattle.format.specs.Contents.{Rule}
use Rattle.format.specs.Reader.{Place, Outcome, got, refused, entry}
use Rattle.format.specs.Values.{new_name}
use Rattle.format.specs.Reading.{latches, rule, rules}
use Rattle.book.specs.declared.moves.Move.{Move}
use Rattle.format.specs.Said.{rule_of}
use Rattle.format.proofs.Looping.{turn, stop}

-- the next latch, as the format has it
abbrev pub next_latch : List Bytes → Place → Outcome Bytes
next_latch names = entry (codes "latch=") (new_name names)

-- n latches are due, of which those named were read
module _ (n i : ℕ) (names : List Bytes) (p : Place) (whole : Outcome (List Bytes)) (inv : latches (n - i) names p ≡ whole) where
  pub latch_turn : (x : Bytes) (q : Place) → i < n → next_latch names p ≡ got x q → latches (n - (i + 1)) (names ++ (x ∷ [])) q ≡ whole
  latch_turn = turn latches next_latch (λ j d r. refl) n i names p whole inv

  pub latch_stop : (k : Fault) (t : ℕ) → i < n → next_latch names p ≡ refused k t → whole ≡ refused k t
  latch_stop = stop latches next_latch (λ j d r. refl) n i names p whole inv

-- n moves are due, of which the first i of a table were read
module _ (names : List Bytes) (n i : ℕ) (moves : List Move) (p : Place) (whole : Outcome (List Rule)) (inv : rules (n - i) names (map rule_of (take i moves)) p ≡ whole) where
  abbrev read_rules : ℕ → List Rule → Place → Outcome (List Rule)
  read_rules k done = rules k names done

  pub move_turn : (x : Move) (q : Place) → i < n → i < length moves → rule names p ≡ got (rule_of x) q → rules (n - (i + 1)) names (map rule_of (take (i + 1) (set moves i x))) q ≡ whole
  move_turn x q l k e =
      ap (λ (z : List Rule). rules (n - (i + 1)) names z q) (ap (map rule_of) (take_more_set moves i x k) ∙ map_push rule_of (take i moves) x)
      ∙ turn read_rules (λ _. rule names) (λ j d r. refl) n i (map rule_of (take i moves)) p whole inv (rule_of x) q l e

  pub move_stop : (k : Fault) (t : ℕ) → i < n → rule names p ≡ refused k t → whole ≡ refused k t
  move_stop = stop read_rules (λ _. rule names) (λ j d r. refl) n i (map rule_of (take i moves)) p whole inv
