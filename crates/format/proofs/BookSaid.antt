-- What a book says: its contents place by place, and that they are well formed.
use Rattle.std.proofs.Common.{◌≡◌, ℕ, suc, ◌<◌, ◌≤◌, true, false, List, [], ◌∷◌, map, length, get_or, take, sym, ap, ◌∙◌, subst, arith}
use Rattle.std.proofs.ByRecursion.{All-from_get_or}
use Rattle.std.proofs.lemmas.List.{length-map, length-take-le, get_or-map, get_or-take, take-map}
use Rattle.std.proofs.lemmas.Bool.{both_ways}
use Rattle.book.specs.declared.book.Book.{Book}
use Rattle.book.specs.declared.errand.Errand.{Errand}
use Rattle.book.specs.declared.name.Name.{Name}
use Rattle.book.specs.Names.{well_named, same}
use Rattle.book.specs.Places.{name_of, name_at, move_at, no_move}
use Rattle.format.specs.Bytes.{Bytes}
use Rattle.format.specs.Contents.{Rule, Distinct, Rising, Own, Well, WellErrand}
use Rattle.format.specs.Said.{rule_of, items_of, contents_of, errand_contents_of}
use Rattle.format.proofs.Cutting.{same_from}
use Rattle.format.proofs.ItemsSaid.{items_rise}
use Rattle.format.proofs.StartSaid.{positions_length}

-- the first n of the names, place by place
pub name_among : (n : ℕ) (names : List Name) (k : ℕ) → k < n → get_or (map name_of (take n names)) k [] ≡ name_at names k
name_among n names k l = ap (λ (xs : List Bytes). get_or xs k []) (sym (take-map name_of n names)) ∙ get_or-take n (map name_of names) k [] l

-- names that differ two by two
pub distinct_from : (xs : List Bytes) → ((j k : ℕ) → (j < k) × (k < length xs) → same (get_or xs j []) (get_or xs k []) ≡ false) → Distinct xs
distinct_from [] h = tt
distinct_from (x ∷ xs) h = (
  All-from_get_or (λ y. y ≡ x → ⊥) xs [] (λ k l e. both_ways (same x (get_or xs k [])) (h 0 (suc k) (omega arith, omega arith)) (same_from x (get_or xs k []) (sym e))),
  distinct_from xs (λ j k l. h (suc j) (suc k) (omega (arith, l.0), omega (arith, l.1))),
)

module _ (b : Book) where
  pub names_length : length (contents_of b).names ≡ b.latches
  names_length = length-map (take b.latches b.names) name_of ∙ length-take-le b.latches b.names (omega (arith, b.few, b.name_places))

  pub rules_length : length (contents_of b).rules ≡ b.count
  rules_length = length-map (take b.count b.moves) rule_of ∙ length-take-le b.count b.moves (omega (arith, b.room, b.move_places))

  pub name_is : (k : ℕ) → k < b.latches → get_or (contents_of b).names k [] ≡ name_at b.names k
  name_is k l = name_among b.latches b.names k l

  pub rule_is : (k : ℕ) → k < b.count → get_or (contents_of b).rules k (rule_of no_move) ≡ rule_of (move_at b.moves k)
  rule_is k l =
      get_or-map rule_of (take b.count b.moves) k no_move (rule_of no_move) (omega (arith, length-take-le b.count b.moves (omega (arith, b.room, b.move_places))))
      ∙ ap rule_of (get_or-take b.count b.moves k no_move l)

  own_rule : (k : ℕ) → k < b.count → Own (length (contents_of b).names) (rule_of (move_at b.moves k))
  own_rule k l =
      subst (λ (n : ℕ). Own n (rule_of (move_at b.moves k))) (sym names_length)
      (b.own k l, items_rise b.latches (move_at b.moves k).when b.few (b.asks k l))

  pub contents_well : 1 ≤ b.latches → Well (contents_of b)
  contents_well some_latch = record {
    some_latch = omega (arith, names_length);
    few = omega (arith, names_length, b.few);
    named = All-from_get_or (λ x. well_named x ≡ true) (contents_of b).names []
        (λ k l. let j : k < b.latches = omega (arith, names_length) in ap well_named (name_is k j) ∙ b.named k j);
    distinct = distinct_from (contents_of b).names
        (λ j k l.
        let g : j < b.latches = omega (arith, names_length, l.0, l.1) in
        let h : k < b.latches = omega (arith, names_length, l.1) in
        ap (λ (x : Bytes). same x (get_or (contents_of b).names k [])) (name_is j g) ∙ ap (same (name_at b.names j)) (name_is k h) ∙ b.differ j k (l.0, h));
    room = omega (arith, rules_length, b.room);
    own = All-from_get_or (Own (length (contents_of b).names)) (contents_of b).rules (rule_of no_move)
        (λ k l. let j : k < b.count = omega (arith, rules_length) in
        subst (λ (r : Rule). Own (length (contents_of b).names) r) (sym (rule_is k j)) (own_rule k j));
  }

  pub has_latch : Well (contents_of b) → 1 ≤ b.latches
  has_latch w = omega (arith, w.some_latch, names_length)

pub errand_well : (e : Errand) → 1 ≤ e.book.latches → WellErrand (errand_contents_of e)
errand_well e l = record {
  book = contents_well e.book l;
  start = positions_length e.book.latches e.start ∙ sym (names_length e.book);
  want = subst (λ (n : ℕ). Rising 0 n (items_of e.want)) (sym (names_length e.book)) (items_rise e.book.latches e.want e.book.few e.wants);
}
