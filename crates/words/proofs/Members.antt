-- Sets by their members: what the operations on words do to each latch.
use Rattle.std.proofs.Common.{◌≡◌, ℕ, zero, suc, ◌+◌, ◌-◌, ◌*◌, ◌/◌, ◌%◌, ◌^◌, ◌<◌, ◌≤◌, min, max, Bool, true, false, not, ◌&&◌, ◌||◌, eqb, ltb, ◌⊎◌, Decides, ◌≢◌, sym, ap, ◌∙◌, inl, inr, ⊎_elim, div-lt_iff_lt-mul, arith, pow_pos, shr-shr}
use base.Stored.{Coded, coded_ℕ, coded_via}
use lib.Arith.{half_le}
use lib.Bits.{bit_and, bit_or}
use lib.Pow.{pow-lt}
use native.Mathlib.Decide.{dec_lt}
use Rattle.std.specs.Int.{w32}
use Rattle.std.proofs.lemmas.Bool.{cases_eq, eq-eqb, ne_eqb, eqb-true, eqb-false, lt-ltb, or_cases, and_parts}
use Rattle.std.proofs.lemmas.Bool.Decides.{nat_tests}
use Rattle.std.proofs.lemmas.Nat.{one_shl}
use Rattle.std.proofs.lemmas.Nat.Bits.{bit_at-lt, bit_at-suc, bit_at-zero, bit_at_above, bit_at_and, bit_at_or, bit_at_not, bit_at-pow_same, bit_at-pow_other, same_from_bits}
use Rattle.words.specs.declared.LatchSet.{LatchSet}
use Rattle.words.specs.Bit.{bit, set?, AllClear, AllClearFrom}
use Rattle.words.specs.Sets.{most_latches, no_latch, has, has_with, has_put, Empty, Below}

-- a bit that is not set is clear
pub absent_bit : (w j : ℕ) → set? w j ≡ false → bit w j ≡ 0
absent_bit w j h = let ne : bit w j ≡ 1 → ⊥ = eqb-false (bit w j) 1 h in omega (arith, bit_at-lt w j)

-- a clear bit is no member
pub clear_absent : (w j : ℕ) → bit w j ≡ 0 → set? w j ≡ false
clear_absent w j h = ne_eqb (bit w j) 1 (λ e. omega arith)

-- sets with the same members are one
pub set_ext : (s t : LatchSet) → ((j : ℕ) → has s j ≡ has t j) → s ≡ t
set_ext s t h = ap (λ (w : ℕ). record { word = w }) (same_from_bits s.word t.word same)
  where
    told : (x y : ℕ) → x < 2 → y < 2 → eqb x 1 ≡ eqb y 1 → x ≡ y
    told x y a b e = grind (arith, nat_tests)

    same : (j : ℕ) → bit s.word j ≡ bit t.word j
    same j = told _ _ (bit_at-lt s.word j) (bit_at-lt t.word j) (h j)

-- two proofs that sets are equal are one
pub set_coded : Coded LatchSet
set_coded = coded_via coded_ℕ (λ (s : LatchSet). s.word) (λ s t e. ap (λ (w : ℕ). record { word = w }) e)

-- the empty set has no member
pub no_member : Empty no_latch
no_member j = clear_absent 0 j (bit_at-zero j)

-- no latch from 32 on
pub none_past : (w j : ℕ) → w < 2 ^ 32 → 32 ≤ j → set? w j ≡ false
none_past w j h l = clear_absent w j (bit_at_above w 32 j h l)

-- the members of |
pub members_either : (v w j : ℕ) → set? (bit_or v w) j ≡ (set? v j || set? w j)
members_either v w j = ap (λ (x : ℕ). eqb x 1) (bit_at_or v w j) ∙ larger (bit v j) (bit w j) (bit_at-lt v j) (bit_at-lt w j)
  where
    larger : (x y : ℕ) → x < 2 → y < 2 → eqb (max x y) 1 ≡ (eqb x 1 || eqb y 1)
    larger x y a b = grind (arith, nat_tests)

-- the members of &
pub members_both : (v w j : ℕ) → set? (bit_and v w) j ≡ (set? v j && set? w j)
members_both v w j = ap (λ (x : ℕ). eqb x 1) (bit_at_and v w j) ∙ smaller (bit v j) (bit w j) (bit_at-lt v j) (bit_at-lt w j)
  where
    smaller : (x y : ℕ) → x < 2 → y < 2 → eqb (min x y) 1 ≡ (eqb x 1 && eqb y 1)
    smaller x y a b = grind (arith, nat_tests)

-- the members of & !
pub members_minus : (v w j : ℕ) → v < 2 ^ 32 → w < 2 ^ 32 → set? (bit_and v (2 ^ 32 - 1 - w)) j ≡ (set? v j && not (set? w j))
members_minus v w j a b = ap (λ (x : ℕ). eqb x 1) (minus (dec_lt j 32)) ∙ left (bit v j) (bit w j) (bit_at-lt v j) (bit_at-lt w j)
  where
    minus : Dec (j < 32) → bit (bit_and v (2 ^ 32 - 1 - w)) j ≡ min (bit v j) (1 - bit w j)
    minus (yes l) = omega (arith, bit_at_and v (2 ^ 32 - 1 - w) j, bit_at_not w32 w j b l)
    minus (no l) = omega (arith, bit_at_and v (2 ^ 32 - 1 - w) j, bit_at_above v 32 j a (omega arith))

    left : (x y : ℕ) → x < 2 → y < 2 → eqb (min x (1 - y)) 1 ≡ (eqb x 1 && not (eqb y 1))
    left x y a b = grind (arith, nat_tests)

-- the member of 1 << i
one_member : (i j : ℕ) → set? (2 ^ i) j ≡ eqb j i
one_member i j =
    elim (cases_eq j i) [
      | inl e ↦ eq-eqb (bit (2 ^ i) j) 1 (ap (λ (k : ℕ). bit (2 ^ i) k) e ∙ bit_at-pow_same i) ∙ sym (eq-eqb j i e)
      | inr ne ↦ clear_absent (2 ^ i) j (bit_at-pow_other i j ne) ∙ sym (ne_eqb j i ne)
    ]

-- a bit set by |
pub members_with : (w i j : ℕ) → i < 32 → set? (bit_or w (1 * 2 ^ i % 2 ^ 32)) j ≡ (set? w j || (eqb j i && ltb i 32))
members_with w i j l = rw (one_shl i 32 l) (members_either w (2 ^ i) j ∙ ap (λ (x : Bool). set? w j || x) (one_member i j ∙ and_all (eqb j i) (ltb i 32) (lt-ltb i 32 l)))
  where
    and_all : (x y : Bool) → y ≡ true → x ≡ (x && y)
    and_all x y e = grind arith

-- a bit cleared by &
pub members_without : (w i j : ℕ) → w < 2 ^ 32 → i < 32 → set? (bit_and w (2 ^ 32 - 1 - 1 * 2 ^ i % 2 ^ 32)) j ≡ (set? w j && not (eqb j i))
members_without w i j b l =
    rw (one_shl i 32 l) (members_minus w (2 ^ i) j b (pow-lt l) ∙ ap (λ (x : Bool). set? w j && not x) (one_member i j))

-- a latch from 32 on was no member
pub members_without_none : (w i j : ℕ) → w < 2 ^ 32 → 32 ≤ i → set? w j ≡ (set? w j && not (eqb j i))
members_without_none w i j b l = let past : 32 ≤ j → set? w j ≡ false = none_past w j b in grind (arith, nat_tests)

-- a bit that is set is below the bound of the word
bit_index : (k w j : ℕ) → w < 2 ^ k → bit w j ≡ 1 → j < k
bit_index k w j h e =
    elim (dec_lt j k) [
      | yes l ↦ l
      | no l ↦ let z = bit_at_above w k j h (omega arith) in omega arith
    ]

-- the word 0 has no bit that is set, and no other word has none
pub zero_word : (w : ℕ) → Decides (eqb w 0) (AllClear w)
zero_word w = (
  λ t j. clear_absent w j (ap (λ (v : ℕ). bit v j) (eqb-true w 0 t) ∙ bit_at-zero j),
  λ h. eq-eqb w 0 (same_from_bits w 0 (λ j. absent_bit w j (h j) ∙ sym (bit_at-zero j))),
)

-- a word that n places shift out has bits below n alone
pub below_word : (w n : ℕ) → Decides (eqb (w / 2 ^ n) 0) (AllClearFrom n w)
below_word w n = (below, shifted)
  where
    below : eqb (w / 2 ^ n) 0 ≡ true → AllClearFrom n w
    below t j h =
        let e : w / 2 ^ n ≡ 0 = eqb-true (w / 2 ^ n) 0 t in
        let l : w < 1 * 2 ^ n = (div-lt_iff_lt-mul {k = 2 ^ n} {x = w} {y = 1} (pow_pos n)).0 (omega arith) in
        bit_index n w j (omega arith) (eqb-true (bit w j) 1 h)

    clear : AllClearFrom n w → (j : ℕ) → bit w (n + j) ≡ 0
    clear h j =
        elim (cases_eq (bit w (n + j)) 1) [
          | inl e ↦ absurd (let l = h (n + j) (eq-eqb (bit w (n + j)) 1 e) in omega arith)
          | inr ne ↦ omega (arith, bit_at-lt w (n + j))
        ]

    shifted : AllClearFrom n w → eqb (w / 2 ^ n) 0 ≡ true
    shifted h =
        eq-eqb (w / 2 ^ n) 0
        (same_from_bits (w / 2 ^ n) 0 (λ j. ap (λ (x : ℕ). x % 2) (shr-shr w n j) ∙ clear h j ∙ sym (bit_at-zero j)))

-- every word of 32 bits has bits below 32 alone
pub below_all : (w n : ℕ) → w < 2 ^ 32 → 32 ≤ n → AllClearFrom n w
below_all w n b l j h = let k = bit_index 32 w j b (eqb-true (bit w j) 1 h) in omega arith

-- the set with a latch has that latch, if there can be such a latch
pub with_has : (s : LatchSet) (i : ℕ) → i < most_latches → has_with s i i ≡ true
with_has s i l = grind (arith, nat_tests)

-- the set with a latch has its members and that latch alone
pub with_cases : (s : LatchSet) (i j : ℕ) → has_with s i j ≡ true → (has s j ≡ true) ⊎ (j ≡ i)
with_cases s i j h =
    ⊎_elim inl (λ e. inr (eqb-true j i (and_parts (eqb j i) (ltb i most_latches) e).0)) (or_cases (has s j) _ h)

-- a latch that is put in or taken out stands as it was put, if there can be such a latch
pub put_here : (s : LatchSet) (i : ℕ) (b : Bool) → i < most_latches → has_put s i b i ≡ b
put_here s i b l = grind (arith, nat_tests)

-- and every other stays
pub put_other : (s : LatchSet) (i j : ℕ) (b : Bool) → j ≢ i → has_put s i b j ≡ has s j
put_other s i j b ne = grind (arith, nat_tests)

-- a set of latches below 32 is a word of 32 bits
pub below_small : (s : LatchSet) → Below most_latches s → s.word < 2 ^ 32
below_small s h = let e : s.word / 2 ^ 32 ≡ 0 = eqb-true (s.word / 2 ^ 32) 0 ((below_word s.word 32).1 h) in omega arith

-- fewer bits, smaller number
le_by : (n a b : ℕ) → a ≤ n → ((j : ℕ) → bit a j ≤ bit b j) → a ≤ b
le_by zero a b p h = omega arith
le_by (suc n) a b p h =
    let e : a / 2 ≤ b / 2 = le_by n (a / 2) (b / 2) (half_le p) (λ j. omega (arith, bit_at-suc a j, bit_at-suc b j, h (suc j))) in
    omega (arith, h 0)

-- one more bit, larger number: what lets a worklist end
bit_lt : (a b u : ℕ) → ((j : ℕ) → bit a j ≤ bit b j) → bit a u ≡ 0 → bit b u ≡ 1 → a < b
bit_lt a b u h p q = go (dec_lt a b)
  where
    go : Dec (a < b) → a < b
    go (yes l) = l
    go (no l) = let e : a ≡ b = omega (arith, le_by a a b (omega arith) h) in absurd (omega (arith, ap (λ (x : ℕ). bit x u) e))

-- a set with one latch more is a larger word
pub more_larger : (s t : LatchSet) (u : ℕ) → ((j : ℕ) → has s j ≡ true → has t j ≡ true) → has s u ≡ false → has t u ≡ true → s.word < t.word
more_larger s t u h p q = bit_lt s.word t.word u kept (absent_bit s.word u p) (eqb-true (bit t.word u) 1 q)
  where
    told : (x y : ℕ) → x < 2 → (eqb x 1 ≡ true → eqb y 1 ≡ true) → x ≤ y
    told x y a e = grind (arith, nat_tests)

    kept : (j : ℕ) → bit s.word j ≤ bit t.word j
    kept j = told _ _ (bit_at-lt s.word j) (h j)
