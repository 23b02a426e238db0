-- The positions at the start, as a loop reads them digit by digit.
use Rattle.std.proofs.Common.{◌≡◌, ℕ, zero, suc, ◌+◌, ◌<◌, ◌≤◌, Bool, true, false, cond, ◌&&◌, ◌||◌, eqb, ltb, ◌≢◌, ◌⊎◌, List, [], ◌∷◌, ◌++◌, length, get_or, drop, sym, refl, ap, ◌∙◌, inl, inr, add-one, arith}
use Rattle.std.proofs.lemmas.List.{at_drop_more, at_drop_all, length-append, length-map, get_or_append_left, get_or_push}
use Rattle.std.proofs.lemmas.Bool.{cases_Bool, cases_eq, cases_lt, both_ways, eq-eqb, ne_eqb, lt-ltb, and_from, and_left, or_right, cond-true, cond-false}
use Rattle.words.specs.declared.LatchSet.{LatchSet}
use Rattle.words.specs.Sets.{has, has_with, no_latch, Below}
use Rattle.words.proofs.Members.{no_member}
use Rattle.format.specs.declared.Fault.TheVariants.{Value}
use Rattle.format.specs.Bytes.{Bytes}
use Rattle.format.specs.Reader.{fine, wrong}
use Rattle.format.specs.Values.{positions, counted}
use Rattle.format.specs.Written.{digit}
use Rattle.format.specs.Said.{positions_of}
use Rattle.format.proofs.Plain.{positions_fine}

-- the reading of the digits is either fine or wrong in this way alone
one_way : (n : ℕ) (done : List Bool) (v : Bytes) → ((bs : List Bool) × (positions n done v ≡ fine bs)) ⊎ (positions n done v ≡ wrong Value)
one_way n done [] = go (eqb (length done) n) refl
  where
    go : (t : Bool) → eqb (length done) n ≡ t → ((bs : List Bool) × (counted n done ≡ fine bs)) ⊎ (counted n done ≡ wrong Value)
    go true e = inl (done, cond-true _ _ _ e)
    go false e = inr (cond-false _ _ _ e)
one_way n done (b ∷ v) = go (eqb b 48) (eqb b 49) (one_way n (done ++ (false ∷ [])) v) (one_way n (done ++ (true ∷ [])) v)
  where
    go : (s t : Bool) → ((bs : List Bool) × (positions n (done ++ (false ∷ [])) v ≡ fine bs)) ⊎ (positions n (done ++ (false ∷ [])) v ≡ wrong Value)
        → ((bs : List Bool) × (positions n (done ++ (true ∷ [])) v ≡ fine bs)) ⊎ (positions n (done ++ (true ∷ [])) v ≡ wrong Value)
        → ((bs : List Bool) × (cond s (positions n (done ++ (false ∷ [])) v) (cond t (positions n (done ++ (true ∷ [])) v) (wrong Value)) ≡ fine bs))
        ⊎ (cond s (positions n (done ++ (false ∷ [])) v) (cond t (positions n (done ++ (true ∷ [])) v) (wrong Value)) ≡ wrong Value)
    go true t z o = z
    go false true z o = o
    go false false z o = inr refl

pub wrong_count : (n : ℕ) (v : Bytes) → (length v ≡ n → ⊥) → positions n [] v ≡ wrong Value
wrong_count n v ne =
    elim (one_way n [] v) [
      | inl f ↦
          absurd (let r = positions_fine n [] v f.0 f.1 in ne (ap length r.1.1.0 ∙ length-map r.0 digit ∙ ap length (sym r.1.0) ∙ r.1.1.1))
      | inr e ↦ e
    ]

pub no_positions : positions_of 0 no_latch ≡ []
unfolding positions_of
no_positions = refl

pub nothing_below : Below 0 no_latch
nothing_below j h = absurd (both_ways (has no_latch j) (no_member j) h)

same_positions : (n : ℕ) (s u : LatchSet) → ((j : ℕ) → j < n → has s j ≡ has u j) → positions_of n s ≡ positions_of n u
unfolding positions_of
same_positions zero s u h = refl
same_positions (suc n) s u h =
    ap (λ (xs : List Bool). xs ++ (has s n ∷ [])) (same_positions n s u (λ j l. h j (omega arith)))
    ∙ ap (λ (b : Bool). positions_of n u ++ (b ∷ [])) (h n (omega arith))

pub positions_length : (n : ℕ) (s : LatchSet) → length (positions_of n s) ≡ n
unfolding positions_of
positions_length zero s = refl
positions_length (suc n) s = length-append (positions_of n s) (has s n ∷ []) ∙ omega (arith, positions_length n s)

-- the position at place j
pub position_at : (n : ℕ) (s : LatchSet) (j : ℕ) → j < n → get_or (positions_of n s) j false ≡ has s j
unfolding positions_of
position_at zero s j l = absurd (omega arith)
position_at (suc n) s j l =
    elim (cases_lt j n) [
      | inl h ↦ get_or_append_left (positions_of n s) (has s n ∷ []) false j (omega (arith, positions_length n s)) ∙ position_at n s j h
      | inr h ↦
          let e : j ≡ n = omega arith in
          get_or_push (positions_of n s) (has s n) false j (positions_length n s ∙ sym e) ∙ ap (has s) (sym e)
    ]

-- u has latch i where the digit is 1, and for the rest what s has
pub record Placed (i : ℕ) (s u : LatchSet) (b : ℕ) : Type 0 where
  pub here : has u i ≡ eqb b 49
  pub others : (j : ℕ) → j ≢ i → has u j ≡ has s j

-- a digit 0 leaves the set as it is
pub placed_zero : (i : ℕ) (s : LatchSet) (b : ℕ) → Below i s → b ≡ 48 → Placed i s s b
placed_zero i s b h e = record {
  here = elim (cases_Bool (has s i)) [ inl t ↦ absurd (let l = h i t in omega arith) | inr f ↦ f ∙ sym (ne_eqb b 49 (λ z. omega arith)) ];
  others = λ j ne. refl;
}

-- a digit 1 adds the latch
pub placed_one : (i : ℕ) (s u : LatchSet) (b : ℕ) → i < 32 → b ≡ 49 → ((j : ℕ) → has u j ≡ has_with s i j) → Placed i s u b
placed_one i s u b l e h = record {
  here = h i ∙ or_right (has s i) _ (and_from (eqb i i) (ltb i 32) (eq-eqb i i refl) (lt-ltb i 32 l)) ∙ sym (eq-eqb b 49 e);
  others = λ j ne. h j ∙ or_none (has s j) (eqb j i && ltb i 32) (and_left (eqb j i) (ltb i 32) (ne_eqb j i ne));
}
  where
    or_none : (x y : Bool) → y ≡ false → (x || y) ≡ x
    or_none x y e = grind (arith, e)

pub placed_below : (i : ℕ) (s u : LatchSet) (b : ℕ) → Below i s → Placed i s u b → Below (i + 1) u
placed_below i s u b h p j e =
    elim (cases_eq j i) [
      | inl q ↦ omega arith
      | inr ne ↦ let l = h j (sym (p.others j ne) ∙ e) in omega arith
    ]

-- one more position
positions_more : (i : ℕ) (s u : LatchSet) (b : ℕ) → Placed i s u b → positions_of (i + 1) u ≡ positions_of i s ++ (eqb b 49 ∷ [])
unfolding positions_of
positions_more i s u b p =
    ap (λ (n : ℕ). positions_of n u) (add-one i)
    ∙ ap (λ (xs : List Bool). xs ++ (has u i ∷ [])) (same_positions i u s (λ j l. let ne : j ≢ i = omega arith in p.others j ne))
    ∙ ap (λ (x : Bool). positions_of i s ++ (x ∷ [])) p.here

digit_step : (n : ℕ) (done : List Bool) (b : ℕ) (v : Bytes) → 48 ≤ b → b ≤ 49 → positions n done (b ∷ v) ≡ positions n (done ++ (eqb b 49 ∷ [])) v
digit_step n done b v l m =
    elim (cases_eq b 48) [
      | inl e ↦ cond-true _ _ _ (eq-eqb b 48 e) ∙ ap (λ (x : Bool). positions n (done ++ (x ∷ [])) v) (sym (ne_eqb b 49 (λ y. omega arith)))
      | inr ne ↦
          let s : eqb b 49 ≡ true = eq-eqb b 49 (omega arith) in
          cond-false _ _ _ (ne_eqb b 48 ne) ∙ cond-true _ _ _ s ∙ ap (λ (x : Bool). positions n (done ++ (x ∷ [])) v) (sym s)
    ]

module _ (n i : ℕ) (s : LatchSet) (v : Bytes) (l : i < length v) (inv : positions n (positions_of i s) (drop i v) ≡ positions n [] v) where
  pub start_turn : (u : LatchSet) → 48 ≤ get_or v i 0 → get_or v i 0 ≤ 49 → Placed i s u (get_or v i 0)
      → positions n (positions_of (i + 1) u) (drop (i + 1) v) ≡ positions n [] v
  start_turn u a b p =
      ap (λ (z : List Bool). positions n z (drop (i + 1) v)) (positions_more i s u (get_or v i 0) p)
      ∙ sym (digit_step n (positions_of i s) (get_or v i 0) (drop (i + 1) v) a b) ∙ sym (at_drop_more (positions n (positions_of i s)) v i 0 l) ∙ inv

pub start_done : (n i : ℕ) (s : LatchSet) (v : Bytes) → i ≡ n → length v ≤ i → positions n (positions_of i s) (drop i v) ≡ positions n [] v → positions n [] v ≡ fine (positions_of n s)
start_done n i s v e l inv =
    sym inv ∙ at_drop_all (positions n (positions_of i s)) v i l
    ∙ ap (λ (k : ℕ). counted n (positions_of k s)) e ∙ cond-true _ _ _ (eq-eqb (length (positions_of n s)) n (positions_length n s))
