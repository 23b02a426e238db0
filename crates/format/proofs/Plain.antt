-- What the readers of numbers, positions and names accept: exactly what is written for them.
use Rattle.std.proofs.Common.{◌≡◌, ℕ, ◌+◌, ◌/◌, ◌%◌, ◌<◌, ◌≤◌, Bool, true, false, cond, not, ◌&&◌, ◌||◌, eqb, ltb, leb, List, [], ◌∷◌, ◌++◌, map, length, get_or, codes, sym, refl, ap, ◌∙◌, inl, inr, arith}
use mathlib.Core.Option.{Option, none, some}
use Rattle.std.proofs.lemmas.List.{append-nil, append_assoc}
use Rattle.std.proofs.lemmas.Bool.{eqb-true, eq-eqb, ne_eqb, leb-true, le-leb, lt-ltb, le-ltb, and_parts, and_from, or_cases, cases_lt, not_from_false, cond-true, cond-false}
use Rattle.format.specs.declared.Fault.TheVariants.{Value, Name}
use Rattle.book.specs.Names.{same}
use Rattle.format.specs.Bytes.{Bytes, decimal, worth}
use Rattle.book.specs.Names.{name_char, name_chars, well_named}
use Rattle.format.specs.Written.{digit}
use Rattle.format.specs.Reader.{fine, wrong}
use Rattle.format.specs.Values.{only, number, position, find, unless_taken, new_name, found, latch, counted, positions}
use Rattle.format.proofs.Cutting.{same_true, same_refl, free}
use Rattle.format.proofs.Steps.{wrong≢fine, fine_same, cond_fine}
use Rattle.format.proofs.Finding.{find_some}

pub only_fine : (v w : Bytes) (u : Unit {0}) → only v w ≡ fine u → v ≡ w
only_fine v w u h = same_true v w (cond_fine (same v w) tt u _ h).0

-- numbers
decimal_1 : (n : ℕ) → n < 10 → decimal n ≡ (48 + n) ∷ []
decimal_1 n h = cond-true (ltb n 10) _ _ (lt-ltb n 10 h)

decimal_2 : (n : ℕ) → 10 ≤ n → n < 100 → decimal n ≡ (48 + n / 10) ∷ (48 + n % 10) ∷ []
decimal_2 n h k = cond-false (ltb n 10) _ _ (le-ltb n 10 h) ∙ cond-true (ltb n 100) _ _ (lt-ltb n 100 k)

decimal_3 : (n : ℕ) → 100 ≤ n → decimal n ≡ (48 + n / 100) ∷ (48 + n / 10 % 10) ∷ (48 + n % 10) ∷ []
decimal_3 n h = cond-false (ltb n 10) _ _ (le-ltb n 10 (omega arith)) ∙ cond-false (ltb n 100) _ _ (le-ltb n 100 h)

-- a fact of each way that a number is written
pub by_digits : (P : Bytes → Type 0) (n : ℕ) → (n < 10 → P ((48 + n) ∷ [])) → (10 ≤ n → n < 100 → P ((48 + n / 10) ∷ (48 + n % 10) ∷ []))
    → (100 ≤ n → P ((48 + n / 100) ∷ (48 + n / 10 % 10) ∷ (48 + n % 10) ∷ [])) → P (decimal n)
by_digits P n a b c =
    elim (cases_lt n 10) [
      | inl h ↦ rw (decimal_1 n h) (a h)
      | inr h ↦ elim (cases_lt n 100) [ inl k ↦ rw (decimal_2 n h k) (b h k) | inr k ↦ rw (decimal_3 n k) (c k) ]
    ]

pub worth_decimal : (n : ℕ) → n < 1000 → worth 0 (decimal n) ≡ n
worth_decimal n l = by_digits (λ v. worth 0 v ≡ n) n (λ h. omega arith) (λ h k. omega arith) (λ h. omega arith)

pub free_decimal : (n : ℕ) → free 10 (decimal n) ≡ true
free_decimal n =
    by_digits (λ v. free 10 v ≡ true) n
    (λ h. and_from _ _ (far n) refl)
    (λ h k. and_from _ _ (far (n / 10)) (and_from _ _ (far (n % 10)) refl))
    (λ h. and_from _ _ (far (n / 100)) (and_from _ _ (far (n / 10 % 10)) (and_from _ _ (far (n % 10)) refl)))
  where
    far : (k : ℕ) → not (eqb (48 + k) 10) ≡ true
    far k = not_from_false (eqb (48 + k) 10) (ne_eqb (48 + k) 10 (λ e. omega arith))

pub length_decimal : (n : ℕ) → length (decimal n) ≤ 3
length_decimal n = by_digits (λ v. length v ≤ 3) n (λ h. omega arith) (λ h k. omega arith) (λ h. omega arith)

pub number_fine : (low high : ℕ) (v : Bytes) (n : ℕ) → number low high v ≡ fine n → (low ≤ n) × ((n ≤ high) × (v ≡ decimal n))
number_fine low high v n h =
    let s = cond_fine _ (worth 0 v) n _ h in
    let a = and_parts (leb low (worth 0 v)) _ s.0 in
    let b = and_parts (leb (worth 0 v) high) _ a.1 in (
      rw (← s.1) (leb-true low (worth 0 v) a.0),
      (rw (← s.1) (leb-true (worth 0 v) high b.0), sym (same_true (decimal (worth 0 v)) v b.1) ∙ ap decimal s.1),
    )

pub number_at : (low high n : ℕ) → low ≤ n → n ≤ high → n < 1000 → number low high (decimal n) ≡ fine n
number_at low high n a b c =
    let e : worth 0 (decimal n) ≡ n = worth_decimal n c in
    ap (λ (k : ℕ). cond (leb low k && (leb k high && same (decimal k) (decimal n))) (fine k) (wrong Value)) e
    ∙ cond-true _ _ _ (and_from _ _ (le-leb low n a) (and_from _ _ (le-leb n high b) (same_refl (decimal n))))

-- positions
pub position_fine : (v : Bytes) (b : Bool) → position v ≡ fine b → v ≡ digit b ∷ []
position_fine v b h = go (same v (codes "0")) refl (same v (codes "1")) refl h
  where
    go : (s : Bool) → same v (codes "0") ≡ s → (t : Bool) → same v (codes "1") ≡ t → cond s (fine false) (cond t (fine true) (wrong Value)) ≡ fine b → v ≡ digit b ∷ []
    go true e t f h = same_true v _ e ∙ ap (λ (x : Bool). digit x ∷ []) (fine_same false b h)
    go false e true f h = same_true v _ f ∙ ap (λ (x : Bool). digit x ∷ []) (fine_same true b h)
    go false e false f h = absurd (wrong≢fine h)

pub position_at : (b : Bool) → position (digit b ∷ []) ≡ fine b
position_at true = refl
position_at false = refl

-- names
low_byte : (b : ℕ) → name_char b ≡ true → 45 ≤ b
low_byte b h =
    elim (or_cases ((leb 65 b && leb b 90) || (leb 48 b && leb b 57)) (eqb b 45) h) [
      | inl y ↦ elim (or_cases (leb 65 b && leb b 90) (leb 48 b && leb b 57) y) [
        | inl x ↦ omega (arith, leb-true 65 b (and_parts _ _ x).0)
        | inr x ↦ omega (arith, leb-true 48 b (and_parts _ _ x).0)
      ]
      | inr x ↦ omega (arith, eqb-true b 45 x)
    ]

pub free_name : (sep : ℕ) (v : Bytes) → sep < 45 → name_chars v ≡ true → free sep v ≡ true
free_name sep [] l h = refl
free_name sep (b ∷ bs) l h =
    let p = and_parts (name_char b) (name_chars bs) h in
    let k = low_byte b p.0 in
    and_from _ _ (not_from_false (eqb b sep) (ne_eqb b sep (λ e. omega arith))) (free_name sep bs l p.1)

pub named_parts : (v : Bytes) → well_named v ≡ true → (1 ≤ length v) × ((length v ≤ 11) × (name_chars v ≡ true))
named_parts v h =
    let a = and_parts (leb 1 (length v)) _ h in
    let b = and_parts (leb (length v) 11) (name_chars v) a.1 in
    (leb-true 1 (length v) a.0, (leb-true (length v) 11 b.0, b.1))

pub new_name_fine : (names : List Bytes) (v x : Bytes) → new_name names v ≡ fine x → (v ≡ x) × ((well_named v ≡ true) × (find v names ≡ none))
new_name_fine names v x h = go (well_named v) refl (find v names) refl h
  where
    go : (t : Bool) → well_named v ≡ t → (o : Option ℕ) → find v names ≡ o → cond t (unless_taken v o) (wrong Name) ≡ fine x
        → (v ≡ x) × ((well_named v ≡ true) × (find v names ≡ none))
    go true e none f h = (fine_same v x h, (e, f))
    go true e (some i) f h = absurd (wrong≢fine h)
    go false e o f h = absurd (wrong≢fine h)

pub new_name_at : (names : List Bytes) (v : Bytes) → well_named v ≡ true → find v names ≡ none → new_name names v ≡ fine v
new_name_at names v e f = cond-true (well_named v) _ _ e ∙ ap (unless_taken v) f

pub latch_fine : (names : List Bytes) (v : Bytes) (i : ℕ) → latch names v ≡ fine i → (i < length names) × (v ≡ get_or names i [])
latch_fine names v i h = go (find v names) refl h
  where
    go : (o : Option ℕ) → find v names ≡ o → found o ≡ fine i → (i < length names) × (v ≡ get_or names i [])
    go none e h = absurd (wrong≢fine h)
    go (some j) e h = let s = find_some v names i (e ∙ ap some (fine_same j i h)) in (s.0, sym s.1)

-- a position for each latch
pub positions_fine : (n : ℕ) (done : List Bool) (v : Bytes) (bs : List Bool) → positions n done v ≡ fine bs
    → (new : List Bool) × ((bs ≡ done ++ new) × ((v ≡ map digit new) × (length bs ≡ n)))
positions_fine n done [] bs h =
    let s = cond_fine (eqb (length done) n) done bs _ h in
    ([], (sym s.1 ∙ sym (append-nil done), (refl, ap length (sym s.1) ∙ eqb-true (length done) n s.0)))
positions_fine n done (b ∷ v) bs h =
    go (eqb b 48) refl (eqb b 49) refl h (λ e. positions_fine n (done ++ (false ∷ [])) v bs e) (λ e. positions_fine n (done ++ (true ∷ [])) v bs e)
  where
    next : (x : Bool) → b ≡ digit x → (new : List Bool) × ((bs ≡ (done ++ (x ∷ [])) ++ new) × ((v ≡ map digit new) × (length bs ≡ n)))
        → (new : List Bool) × ((bs ≡ done ++ new) × ((b ∷ v ≡ map digit new) × (length bs ≡ n)))
    next x e r =
        let ev : v ≡ map digit r.0 = r.1.1.0 in
        (x ∷ r.0, (r.1.0 ∙ append_assoc done (x ∷ []) r.0, ((cc), r.1.1.1)))

    go : (s : Bool) → eqb b 48 ≡ s → (t : Bool) → eqb b 49 ≡ t
        → cond s (positions n (done ++ (false ∷ [])) v) (cond t (positions n (done ++ (true ∷ [])) v) (wrong Value)) ≡ fine bs
        → (positions n (done ++ (false ∷ [])) v ≡ fine bs → (new : List Bool) × ((bs ≡ (done ++ (false ∷ [])) ++ new) × ((v ≡ map digit new) × (length bs ≡ n))))
        → (positions n (done ++ (true ∷ [])) v ≡ fine bs → (new : List Bool) × ((bs ≡ (done ++ (true ∷ [])) ++ new) × ((v ≡ map digit new) × (length bs ≡ n))))
        → (new : List Bool) × ((bs ≡ done ++ new) × ((b ∷ v ≡ map digit new) × (length bs ≡ n)))
    go true e t f h z o = next false (eqb-true b 48 e) (z h)
    go false e true f h z o = next true (eqb-true b 49 f) (o h)
    go false e false f h z o = absurd (wrong≢fine h)

pub positions_at : (n : ℕ) (done new : List Bool) → length (done ++ new) ≡ n → positions n done (map digit new) ≡ fine (done ++ new)
positions_at n done [] h =
    ap (λ (z : List Bool). counted n z) (sym (append-nil done)) ∙ cond-true _ _ _ (ap (λ (k : ℕ). eqb (length (done ++ [])) k) (sym h) ∙ same_number (length (done ++ [])))
  where
    same_number : (k : ℕ) → eqb k k ≡ true
    same_number k = eq-eqb k k refl
positions_at n done (true ∷ new) h =
    positions_at n (done ++ (true ∷ [])) new (ap length (append_assoc done (true ∷ []) new) ∙ h) ∙ ap fine (append_assoc done (true ∷ []) new)
positions_at n done (false ∷ new) h =
    positions_at n (done ++ (false ∷ [])) new (ap length (append_assoc done (false ∷ []) new) ∙ h) ∙ ap fine (append_assoc done (false ∷ []) new)

pub free_digits : (bs : List Bool) → free 10 (map digit bs) ≡ true
free_digits [] = refl
free_digits (true ∷ bs) = free_digits bs
free_digits (false ∷ bs) = free_digits bs
