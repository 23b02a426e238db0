-- The items that a partial setting stands for: one more latch above all others is one more item at the end, and the items tell the setting.
use Rattle.std.proofs.Common.{◌≡◌, ℕ, zero, suc, ◌+◌, ◌-◌, ◌<◌, ◌≤◌, Bool, true, false, cond, ◌&&◌, eqb, ltb, List, [], ◌∷◌, ◌++◌, sym, refl, ap, ◌∙◌, subst, inl, inr, zero-add, arith}
use mathlib.Core.Option.{Option, none, some}
use Rattle.std.proofs.lemmas.List.{append-nil}
use Rattle.std.proofs.lemmas.Bool.{cases_lt, cases_Bool, both_ways, eq-eqb, ne_eqb, lt-ltb, and_from, and_left, cond-true, cond-false}
use Rattle.words.specs.declared.LatchSet.{LatchSet}
use Rattle.words.specs.Sets.{has, Empty, Below, most_latches}
use Rattle.book.specs.declared.partial.PartialSetting.{PartialSetting}
use Rattle.book.specs.Settings.{asked, asked_with}
use Rattle.format.specs.Contents.{Item, Rising}
use Rattle.format.specs.Said.{item_at, items_below, items_of, UnaskedFrom}
use Rattle.format.proofs.Cutting.{none≢some}

pub unasked : (p : PartialSetting) (j : ℕ) → has p.named j ≡ false → asked p j ≡ none
unasked p j h = cond-false (has p.named j) _ _ h

unnamed : (p : PartialSetting) (j : ℕ) → asked p j ≡ none → has p.named j ≡ false
unnamed p j h =
    elim (cases_Bool (has p.named j)) [
      | inl e ↦ absurd (none≢some (sym h ∙ cond-true (has p.named j) _ _ e))
      | inr e ↦ e
    ]

pub unasked_from_below : (n : ℕ) (p : PartialSetting) → Below n p.named → UnaskedFrom n p
unasked_from_below n p h j l =
    elim (cases_Bool (has p.named j)) [
      | inl e ↦ absurd (let b = h j e in omega arith)
      | inr e ↦ unasked p j e
    ]

pub below_from_unasked : (n : ℕ) (p : PartialSetting) → UnaskedFrom n p → Below n p.named
below_from_unasked n p h j e =
    elim (cases_lt j n) [
      | inl l ↦ l
      | inr l ↦ absurd (both_ways (has p.named j) (unnamed p j (h j l)) e)
    ]

pub nothing_from : (n : ℕ) (p : PartialSetting) → Empty p.named → UnaskedFrom n p
nothing_from n p h j l = unasked p j (h j)

-- the same asked, the same items
same_below : (n : ℕ) (p q : PartialSetting) → ((j : ℕ) → j < n → asked p j ≡ asked q j) → items_below n p ≡ items_below n q
unfolding items_below
same_below zero p q h = refl
same_below (suc n) p q h =
    ap (λ (xs : List Item). xs ++ item_at n (asked p n)) (same_below n p q (λ j l. h j (omega arith)))
    ∙ ap (λ (o : Option Bool). items_below n q ++ item_at n o) (h n (omega arith))

-- what is asked is told by the latches named and those at 1
pub same_asked : (p q : PartialSetting) → p.named ≡ q.named → p.ones ≡ q.ones → (j : ℕ) → asked p j ≡ asked q j
same_asked p q e f j =
    ap (λ (s : LatchSet). cond (has s j) (some (has p.ones j)) none) e ∙ ap (λ (s : LatchSet). cond (has q.named j) (some (has s j)) none) f

pub same_items : (p q : PartialSetting) → p.named ≡ q.named → p.ones ≡ q.ones → items_of p ≡ items_of q
same_items p q e f = same_below most_latches p q (λ j l. same_asked p q e f j)

none_above : (d m : ℕ) (p : PartialSetting) → UnaskedFrom m p → items_below (d + m) p ≡ items_below m p
unfolding items_below
none_above zero m p h = ap (λ (k : ℕ). items_below k p) (zero-add m)
none_above (suc d) m p h =
    let e : suc d + m ≡ suc (d + m) = omega arith in
    ap (λ (k : ℕ). items_below k p) e
    ∙ ap (λ (o : Option Bool). items_below (d + m) p ++ item_at (d + m) o) (h (d + m) (omega arith))
    ∙ append-nil (items_below (d + m) p) ∙ none_above d m p h

-- all places, where nothing is asked from m on
pub up_to : (m : ℕ) (p : PartialSetting) → m ≤ most_latches → UnaskedFrom m p → items_of p ≡ items_below m p
up_to m p l h = let e : most_latches ≡ most_latches - m + m = omega arith in ap (λ (k : ℕ). items_below k p) e ∙ none_above (most_latches - m) m p h

pub no_items : (p : PartialSetting) → Empty p.named → items_of p ≡ []
unfolding items_below
no_items p h = up_to 0 p (omega arith) (nothing_from 0 p h)

-- r asks the position x of latch i, and for the rest what p does
module _ (i : ℕ) (p r : PartialSetting) (x : Bool) (l : i < most_latches) (h : (j : ℕ) → asked r j ≡ asked_with p i x j) where
  here : asked r i ≡ some x
  here = h i ∙ cond-true (eqb i i && ltb i most_latches) _ _ (and_from (eqb i i) (ltb i most_latches) (eq-eqb i i refl) (lt-ltb i most_latches l))

  elsewhere : (j : ℕ) → (j ≡ i → ⊥) → asked r j ≡ asked p j
  elsewhere j ne = h j ∙ cond-false (eqb j i && ltb i most_latches) _ _ (and_left (eqb j i) (ltb i most_latches) (ne_eqb j i ne))

  pub more_unasked : UnaskedFrom i p → UnaskedFrom (i + 1) r
  more_unasked u j g = elsewhere j (λ e. omega arith) ∙ u j (omega arith)

  pub one_more_item : UnaskedFrom i p → items_of r ≡ items_of p ++ (record { latch = i; at = x } ∷ [])
  unfolding items_below
  one_more_item u =
      up_to (suc i) r (omega arith) (λ j g. elsewhere j (λ e. omega arith) ∙ u j (omega arith))
      ∙ ap (λ (o : Option Bool). items_below i r ++ item_at i o) here
      ∙ ap (λ (xs : List Item). xs ++ (record { latch = i; at = x } ∷ []))
      (same_below i r p (λ j g. elsewhere j (λ e. omega arith)) ∙ sym (up_to i p (omega arith) u))

-- items in rising order
rising_more : (low k : ℕ) (xs : List Item) (b : Bool) → low ≤ k → Rising low k xs → Rising low (suc k) (xs ++ (record { latch = k; at = b } ∷ []))
rising_more low k [] b l r = (l, (omega arith, tt))
rising_more low k (x ∷ xs) b l r =
    let below = r.1.0 in (r.0, (omega arith, rising_more (suc x.latch) k xs b (omega arith) r.1.1))

rising_wider : (low k : ℕ) (xs : List Item) → Rising low k xs → Rising low (suc k) xs
rising_wider low k [] r = tt
rising_wider low k (x ∷ xs) r = let below = r.1.0 in (r.0, (omega arith, rising_wider (suc x.latch) k xs r.1.1))

rising_below : (n : ℕ) (p : PartialSetting) → Rising 0 n (items_below n p)
unfolding items_below
rising_below zero p = tt
rising_below (suc n) p = go (asked p n) (rising_below n p)
  where
    go : (o : Option Bool) → Rising 0 n (items_below n p) → Rising 0 (suc n) (items_below n p ++ item_at n o)
    go (some b) r = rising_more 0 n (items_below n p) b (omega arith) r
    go none r = subst (λ (xs : List Item). Rising 0 (suc n) xs) (sym (append-nil (items_below n p))) (rising_wider 0 n (items_below n p) r)

pub items_rise : (n : ℕ) (p : PartialSetting) → n ≤ most_latches → Below n p.named → Rising 0 n (items_of p)
items_rise n p l h = subst (λ (xs : List Item). Rising 0 n xs) (sym (up_to n p l (unasked_from_below n p h))) (rising_below n p)

-- what a list of items asks of a latch
abbrev sought : List Item → ℕ → Option Bool
sought [] j = none
sought (x ∷ xs) j = cond (eqb x.latch j) (some x.at) (sought xs j)

sought_front : (xs ys : List Item) (j : ℕ) → sought ys j ≡ none → sought (xs ++ ys) j ≡ sought xs j
sought_front [] ys j h = h
sought_front (x ∷ xs) ys j h = ap (cond (eqb x.latch j) (some x.at)) (sought_front xs ys j h)

sought_back : (xs ys : List Item) (j : ℕ) → sought xs j ≡ none → sought (xs ++ ys) j ≡ sought ys j
sought_back [] ys j h = refl
sought_back (x ∷ xs) ys j h = go (eqb x.latch j) h (λ e. sought_back xs ys j e)
  where
    go : (t : Bool) → cond t (some x.at) (sought xs j) ≡ none → (sought xs j ≡ none → sought (xs ++ ys) j ≡ sought ys j)
        → cond t (some x.at) (sought (xs ++ ys) j) ≡ sought ys j
    go true h ih = absurd (none≢some (sym h))
    go false h ih = ih h

other_place : (n j : ℕ) (o : Option Bool) → (n ≡ j → ⊥) → sought (item_at n o) j ≡ none
other_place n j none ne = refl
other_place n j (some b) ne = cond-false (eqb n j) _ _ (ne_eqb n j ne)

own_place : (n : ℕ) (o : Option Bool) → sought (item_at n o) n ≡ o
own_place n none = refl
own_place n (some b) = cond-true (eqb n n) _ _ (eq-eqb n n refl)

sought_past : (n : ℕ) (p : PartialSetting) (j : ℕ) → n ≤ j → sought (items_below n p) j ≡ none
unfolding items_below
sought_past zero p j l = refl
sought_past (suc n) p j l =
    sought_back (items_below n p) (item_at n (asked p n)) j (sought_past n p j (omega arith)) ∙ other_place n j (asked p n) (λ e. omega arith)

sought_below : (n : ℕ) (p : PartialSetting) (j : ℕ) → j < n → sought (items_below n p) j ≡ asked p j
unfolding items_below
sought_below zero p j l = absurd (omega arith)
sought_below (suc n) p j l =
    elim (cases_lt j n) [
      | inl h ↦ sought_front (items_below n p) (item_at n (asked p n)) j (other_place n j (asked p n) (λ e. omega arith)) ∙ sought_below n p j h
      | inr h ↦
          let e : j ≡ n = omega arith in
          sought_back (items_below n p) (item_at n (asked p n)) j (sought_past n p j h)
          ∙ ap (sought (item_at n (asked p n))) e ∙ own_place n (asked p n) ∙ ap (asked p) (sym e)
    ]

-- a partial setting of latches below 32 is told by its items
pub items_tell : (p q : PartialSetting) → Below most_latches p.named → Below most_latches q.named → items_of p ≡ items_of q → (j : ℕ) → asked p j ≡ asked q j
items_tell p q a b e j =
    elim (cases_lt j most_latches) [
      | inl h ↦ sym (sought_below most_latches p j h) ∙ ap (λ (xs : List Item). sought xs j) e ∙ sought_below most_latches q j h
      | inr h ↦ unasked_from_below most_latches p a j h ∙ sym (unasked_from_below most_latches q b j h)
    ]
