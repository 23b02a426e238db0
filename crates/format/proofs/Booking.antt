-- A move, a book and an errand from their lines.
use Rattle.std.proofs.Common.{◌≡◌, ℕ, ◌<◌, ◌≤◌, Bool, true, false, List, [], map, length, get_or, take, codes, sym, ap, ◌∙◌, arith}
use Rattle.std.specs.List.{AllByRecursion}
use Rattle.std.proofs.ByRecursion.{All-get_or}
use Rattle.std.proofs.lemmas.List.{length-map, length-take-le}
use Rattle.book.specs.declared.book.Book.{Book}
use Rattle.book.specs.declared.name.Name.{Name}
use Rattle.book.specs.Names.{well_named, same}
use Rattle.book.specs.Places.{name_of, name_at}
use Rattle.format.specs.declared.Fault.{Fault}
use Rattle.format.specs.Bytes.{Bytes}
use Rattle.format.specs.Contents.{Item, Distinct}
use Rattle.format.specs.Reader.{Place, Outcome, got, refused, give, chain, entry}
use Rattle.format.specs.Reading.{latches, book, errand}
use Rattle.format.specs.Said.{contents_of}
use Rattle.format.specs.Values.{number, latch, item_list, positions}
use Rattle.format.proofs.BookSaid.{name_among, names_length}
use Rattle.format.proofs.Finding.{apart_at}
use Rattle.format.proofs.Plain.{latch_fine, number_fine}
use Rattle.format.proofs.Soundness.{latches_got}
use Rattle.format.proofs.Steps.{chain_from, entry_got}
use Rattle.format.proofs.Tails.{from_start, from_want}

-- the latch of a move is one of those named
pub thrown_below : (names : List Bytes) (p : Place) (i : ℕ) (q : Place) → entry (codes "move=") (latch names) p ≡ got i q → i < length names
thrown_below names p i q h = let e = entry_got (codes "move=") (latch names) p i q h in (latch_fine names e.0 i e.1.1).0

-- a number that was read lies within its bounds
pub number_bounds : (key : Bytes) (low high : ℕ) (p : Place) (n : ℕ) (q : Place) → entry key (number low high) p ≡ got n q → (low ≤ n) × (n ≤ high)
number_bounds key low high p n q h =
    let e = entry_got key (number low high) p n q h in
    let f = number_fine low high e.0 n e.1.1 in
    (f.0, f.1.0)

-- the lines of an errand, behind those of its book; a reader of them has the book's own count
module _ (b : Book) (p0 p1 : Place) (h : book p0 ≡ got (contents_of b) p1) where
  start_as : (o : Outcome (List Bool)) → entry (codes "start=") (positions b.latches []) p1 ≡ o → entry (codes "start=") (positions (length (contents_of b).names) []) p1 ≡ o
  start_as o e = ap (λ (k : ℕ). entry (codes "start=") (positions k []) p1) (names_length b) ∙ e

  pub start_refused : (k : Fault) (t : ℕ) → entry (codes "start=") (positions b.latches []) p1 ≡ refused k t → errand p0 ≡ refused k t
  start_refused k t e = chain_from (book p0) from_start (contents_of b) p1 h ∙ ap (λ (o : Outcome (List Bool)). chain o (from_want (contents_of b))) (start_as (refused k t) e)

  module _ (s : List Bool) (p2 : Place) (g : entry (codes "start=") (positions b.latches []) p1 ≡ got s p2) where
    past_start : errand p0 ≡ from_want (contents_of b) s p2
    past_start =
        chain_from (book p0) from_start (contents_of b) p1 h
        ∙ chain_from (entry (codes "start=") (positions (length (contents_of b).names) []) p1) (from_want (contents_of b)) s p2 (start_as (got s p2) g)

    pub want_refused : (k : Fault) (t : ℕ) → entry (codes "want=") (item_list (contents_of b).names) p2 ≡ refused k t → errand p0 ≡ refused k t
    want_refused k t e = past_start ∙ ap (λ (o : Outcome (List Item)). chain o (λ w. give (record { contents = contents_of b; start = s; want = w }))) e

    pub errand_made : (w : List Item) (p3 : Place) → entry (codes "want=") (item_list (contents_of b).names) p2 ≡ got w p3
        → errand p0 ≡ got (record { contents = contents_of b; start = s; want = w }) p3
    errand_made w p3 e =
        past_start ∙ chain_from (entry (codes "want=") (item_list (contents_of b).names) p2) (λ x. give (record { contents = contents_of b; start = s; want = x })) w p3 e

-- what the reading of the names says of them
pub names_read : (n : ℕ) (names : List Bytes) (p q : Place) → latches n [] p ≡ got names q → AllByRecursion (λ x. well_named x ≡ true) names × Distinct names
names_read n names p q h = let g = latches_got n [] p names q h in (g.1.1.1.1.1 tt, g.1.1.1.1.0 tt)

-- and of each place of a table
module _ (n : ℕ) (names : List Name) (fits : n ≤ length names) where
  pub as_many : length (map name_of (take n names)) ≡ n
  as_many = length-map (take n names) name_of ∙ length-take-le n names fits

  pub all_named : AllByRecursion (λ x. well_named x ≡ true) (map name_of (take n names)) → (k : ℕ) → k < n → well_named (name_at names k) ≡ true
  all_named h k l =
      ap well_named (sym (name_among n names k l)) ∙ All-get_or (λ x. well_named x ≡ true) (map name_of (take n names)) k [] (omega (arith, as_many)) h

  pub all_differ : Distinct (map name_of (take n names)) → (j k : ℕ) → (j < k) × (k < n) → same (name_at names j) (name_at names k) ≡ false
  all_differ h j k l =
      ap (λ (x : Bytes). same x (name_at names k)) (sym (name_among n names j (omega (arith, l.0, l.1)))) ∙ ap (same (get_or (map name_of (take n names)) j [])) (sym (name_among n names k l.1))
      ∙ apart_at (map name_of (take n names)) j k h l.0 (omega (arith, as_many, l.1))
