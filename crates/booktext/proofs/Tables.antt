-- Tables of names and of moves, filled place by place.
use Rattle.std.proofs.Common.{◌≡◌, ℕ, ◌+◌, ◌-◌, ◌<◌, ◌≤◌, ◌≢◌, List, [], ◌++◌, length, map, get_or, set, drop, sym, ap, ◌∙◌, subst, length-append, length-drop, arith}
use Rattle.std.proofs.lemmas.List.{length-set, map-set, get_or-set_other, get_or-drop, get_or_append_left, get_or-append_right}
use Rattle.book.specs.declared.moves.Move.{Move}
use Rattle.book.specs.declared.name.Name.{Name}
use Rattle.book.specs.Limits.{most_moves}
use Rattle.book.specs.Places.{name_of, move_at, no_move}
use Rattle.format.proofs.Looping.{more_kept}
use Rattle.booktext.specs.Kept.{NamedUntil, SpeaksOf, MovedUntil}

-- one more name
pub named_more : (i : ℕ) (names : List Name) (x : Name) → NamedUntil i names → NamedUntil (i + 1) (set names i x)
named_more i names x t = record {
  places = length-set names i x ∙ t.places;
  blank = λ k l.
      let ne : k ≢ i = omega arith in
      ap (λ (ns : List (List ℕ)). get_or ns k []) (map-set name_of names i x) ∙ get_or-set_other (map name_of names) i k (name_of x) [] ne ∙ t.blank k (omega arith);
}

-- one more move
pub speaks_more : (n i : ℕ) (moves : List Move) (m : Move) → i < length moves → ((k : ℕ) → k < i → SpeaksOf n (move_at moves k)) → SpeaksOf n m
    → (k : ℕ) → k < i + 1 → SpeaksOf n (move_at (set moves i m) k)
speaks_more n i moves m l h s = more_kept (SpeaksOf n) moves i m no_move l h s

-- moves, and empty places behind them
pub moved_until : (n c : ℕ) (moves blank : List Move) → length moves ≡ c → c ≤ most_moves → length blank ≡ most_moves → ((k : ℕ) → k < c → SpeaksOf n (move_at moves k))
    → ((k : ℕ) → move_at blank k ≡ no_move) → MovedUntil n c (moves ++ drop c blank)
moved_until n c moves blank e l b speaks none = record {
  places = omega (arith, length-append moves (drop c blank), length-drop c blank);
  speaks = λ k g. subst (SpeaksOf n) (sym (get_or_append_left moves (drop c blank) no_move k (omega arith))) (speaks k g);
  blank = λ k g. get_or-append_right moves (drop c blank) c k no_move e g ∙ get_or-drop c blank (k - c) no_move ∙ none (c + (k - c));
}
