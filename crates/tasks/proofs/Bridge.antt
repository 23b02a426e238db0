-- Books, starts and errands as they are kept speak of the book's own latches.
use Rattle.std.proofs.Common.{◌≡◌, ℕ, suc, ◌<◌, Bool, true, false, cond, ◌≢◌, List, [], ◌∷◌, map, length, get_or, take, length, sym, refl, ap, ◌∙◌, subst, inl, inr, arith}
use mathlib.Core.Option.{none, some}
use Rattle.std.proofs.lemmas.List.FromFn.{length-map-range_with_len, get_or-map-range_with_len}
use Rattle.std.proofs.lemmas.List.{get_or-take, length-take}
use Rattle.std.proofs.lemmas.Bool.{cases_Bool}
use Rattle.words.specs.declared.LatchSet.{LatchSet}
use Rattle.words.specs.Sets.{has, Below}
use Rattle.book.specs.declared.book.Book.{Book}
use Rattle.book.specs.declared.partial.PartialSetting.{PartialSetting}
use Rattle.book.specs.Places.{move_at, no_move}
use Rattle.theory.specs.Searches.{In}
use Rattle.theory.specs.Tasks.{Ask, any, ask_for, asked?}
use Rattle.rules.specs.Rules.{Rule, at, RulesWithin, ErrandWithin}
use Rattle.rules.specs.NormalForm.{exchanged_ask}
use Rattle.tasks.specs.Asks.{ask_from, asks_of, rule_of, rules_of, setting_of}

-- the setting has a position for each of the n latches
pub setting_length : (n : ℕ) (s : LatchSet) → length (setting_of n s) ≡ n
setting_length n s = length-map-range_with_len (has s) 0 n

-- the position of a latch is whether it is in the set
pub setting_at : (n : ℕ) (s : LatchSet) (u : ℕ) → u < n → at (setting_of n s) u ≡ has s u
setting_at n s u l = get_or-map-range_with_len (has s) 0 n u u false l (omega arith)

-- nothing is asked of a latch that is not named
pub not_named : (p : PartialSetting) (u : ℕ) → has p.named u ≡ false → asks_of p u ≡ any
not_named p u e = ap (λ (b : Bool). ask_from (cond b (some (has p.ones u)) none)) e

-- a latch of which something is asked is named
pub asked_named : (p : PartialSetting) (u : ℕ) → asks_of p u ≢ any → has p.named u ≡ true
asked_named p u n = elim (cases_Bool (has p.named u)) [ inl e ↦ e | inr e ↦ absurd (n (not_named p u e)) ]

-- and of a named latch something is asked
pub named_asked : (p : PartialSetting) (u : ℕ) → has p.named u ≡ true → asks_of p u ≢ any
named_asked p u e a = not_any (has p.ones u) (sym (ap (λ (b : Bool). ask_from (cond b (some (has p.ones u)) none)) e) ∙ a)
  where
    not_any : (b : Bool) → ask_for b ≢ any
    not_any true h = let z : ◌≡◌ {A = ℕ} 0 1 = cc in omega arith
    not_any false h = let z : ◌≡◌ {A = ℕ} 0 1 = cc in omega arith

-- as the test says
pub asked_is_named : (p : PartialSetting) (u : ℕ) → asked? (asks_of p u) ≡ has p.named u
asked_is_named p u = go (has p.named u) (has p.ones u)
  where
    go : (a b : Bool) → asked? (ask_from (cond a (some b) none)) ≡ a
    go true true = refl
    go true false = refl
    go false b = refl

-- a set of the first n latches asks of those alone
pub asks_below : (n : ℕ) (p : PartialSetting) → Below n p.named → (u : ℕ) → asks_of p u ≢ any → u < n
asks_below n p h u a = h u (asked_named p u a)

-- an element of a list stands at a place
pub place_of : {X Y : Type 0} (f : X → Y) (d : X) (xs : List X) (y : Y) → In (map f xs) y → (k : ℕ) × ((k < length xs) × (f (get_or xs k d) ≡ y))
place_of f d [] y h = absurd h
place_of f d (x ∷ xs) y (inl e) = (0, (omega arith, e))
place_of f d (x ∷ xs) y (inr h) = let p = place_of f d xs y h in (suc p.0, (omega (arith, p.1.0), p.1.1))

-- a rule of a book is that of the move at a place
book_place : (b : Book) (m : Rule) → In (rules_of b).moves m → (k : ℕ) × ((k < b.count) × (rule_of (move_at b.moves k) ≡ m))
book_place b m h =
    let (k, (l, e)) = place_of rule_of no_move (take b.count b.moves) m h in
    let inside : k < b.count = omega (arith, length-take b.count b.moves) in
    (k, (inside, sym (ap rule_of (get_or-take b.count b.moves k no_move inside)) ∙ e))

-- every book says things of its own latches only
pub book_within : (b : Book) → RulesWithin (rules_of b)
book_within b = record { throws_within = throws; asks_within = asks }
  where
    throws : (m : Rule) → In (rules_of b).moves m → m.latch < b.latches
    throws m h =
        let p = book_place b m h in
        subst (λ (x : Rule). x.latch < b.latches) p.1.1 (b.own p.0 p.1.0)

    asks : (m : Rule) → In (rules_of b).moves m → (u : ℕ) → m.asks u ≢ any → u < b.latches
    asks m h =
        let p = book_place b m h in
        subst (λ (x : Rule). (u : ℕ) → x.asks u ≢ any → u < b.latches) p.1.1
        (asks_below b.latches (move_at b.moves p.0).when (b.asks p.0 p.1.0))

-- what is wanted of the book's latches is an errand of the book
pub want_within : (b : Book) (w : PartialSetting) → Below b.latches w.named → ErrandWithin (rules_of b) (asks_of w)
want_within b w h = asks_below b.latches w h

-- what is asked of the first n latches is the same in normal form from the set as from the setting
pub exchanged_at :
    (n : ℕ) (start : LatchSet) (p : PartialSetting) → Below n p.named → (u : ℕ) →
    exchanged_ask (asks_of p u) (has start u) ≡ exchanged_ask (asks_of p u) (at (setting_of n start) u)
exchanged_at n start p h u =
    elim (cases_Bool (has p.named u)) [
      | inl e ↦ ap (exchanged_ask (asks_of p u)) (sym (setting_at n start u (h u e)))
      | inr e ↦
          let none = not_named p u e in
          ap (λ (a : Ask). exchanged_ask a (has start u)) none ∙ sym (ap (λ (a : Ask). exchanged_ask a (at (setting_of n start) u)) none)
    ]
