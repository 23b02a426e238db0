-- Laws of cutting, stripping, parting and joining.
use Rattle.std.proofs.Common.{◌≡◌, ℕ, Bool, true, false, cond, not, ◌&&◌, eqb, List, [], ◌∷◌, ◌++◌, length, sym, refl, ap, ◌∙◌, arith}
use mathlib.Core.Option.{Option, none, some}
use Rattle.std.specs.List.{AllByRecursion}
use Rattle.std.proofs.lemmas.List.{append-nil}
use Rattle.std.proofs.lemmas.Bool.{eqb-true, eq-eqb, and_parts, and_from, both_ways, not-true, not_from_false, cond-true, cond-false}
use Rattle.book.specs.Names.{same}
use Rattle.format.specs.Bytes.{Bytes, cut, further, strip, parts, longer, joined}

pub none≢some : {A : Type 0} {x : A} → none ≡ some x → ⊥
none≢some {A} h = let is : Option A → Bool = elim [ none ↦ false | some y ↦ true ] in both_ways false refl (ap is h)

pub some_same : {A : Type 0} (x y : A) → some x ≡ some y → x ≡ y
some_same {A} x y h = let of : Option A → A = elim [ none ↦ x | some z ↦ z ] in ap of h

pub cons≢nil : {A : Type 0} (x : A) (xs : List A) → x ∷ xs ≡ [] → ⊥
cons≢nil x xs h = let z = ap length h in omega arith

pub same_true : (xs ys : Bytes) → same xs ys ≡ true → xs ≡ ys
same_true [] [] h = refl
same_true [] (y ∷ ys) h = absurd (both_ways false refl h)
same_true (x ∷ xs) [] h = absurd (both_ways false refl h)
same_true (x ∷ xs) (y ∷ ys) h =
    let p = and_parts (eqb x y) (same xs ys) h in
    let a : x ≡ y = eqb-true x y p.0 in
    let b : xs ≡ ys = same_true xs ys p.1 in
    cc

pub same_refl : (xs : Bytes) → same xs xs ≡ true
same_refl [] = refl
same_refl (x ∷ xs) = and_from (eqb x x) (same xs xs) (eq-eqb x x refl) (same_refl xs)

pub same_from : (xs ys : Bytes) → xs ≡ ys → same xs ys ≡ true
same_from xs ys e = ap (same xs) (sym e) ∙ same_refl xs

-- the bytes lack this one
abbrev pub free : ℕ → Bytes → Bool
free sep [] = true
free sep (b ∷ bs) = not (eqb b sep) && free sep bs

pub free_append : (sep : ℕ) (xs ys : Bytes) → free sep xs ≡ true → free sep ys ≡ true → free sep (xs ++ ys) ≡ true
free_append sep [] ys p q = q
free_append sep (x ∷ xs) ys p q =
    let s = and_parts (not (eqb x sep)) (free sep xs) p in and_from (not (eqb x sep)) _ s.0 (free_append sep xs ys s.1 q)

abbrev front : Option (Bytes × Bytes) → Bytes
front none = []
front (some c) = c.0

abbrev back : Option (Bytes × Bytes) → Bytes
back none = []
back (some c) = c.1

pub cut_some : (sep : ℕ) (xs a b : Bytes) → cut sep xs ≡ some (a, b) → (xs ≡ a ++ (sep ∷ b)) × (free sep a ≡ true)
cut_some sep [] a b h = absurd (none≢some h)
cut_some sep (x ∷ xs) a b h = go (eqb x sep) refl (cut sep xs) refl h (λ c d. cut_some sep xs c d)
  where
    go : (t : Bool) → eqb x sep ≡ t → (o : Option (Bytes × Bytes)) → cut sep xs ≡ o → cond t (some ([], xs)) (further x o) ≡ some (a, b)
        → ((c d : Bytes) → cut sep xs ≡ some (c, d) → (xs ≡ c ++ (sep ∷ d)) × (free sep c ≡ true)) → (x ∷ xs ≡ a ++ (sep ∷ b)) × (free sep a ≡ true)
    go true e o eo h ih =
        let ea : a ≡ [] = sym (ap front h) in
        let eb : b ≡ xs = sym (ap back h) in
        (rw (ea, eb) (ap (λ (y : ℕ). y ∷ xs) (eqb-true x sep e)), rw ea refl)
    go false e none eo h ih = absurd (none≢some h)
    go false e (some c) eo h ih =
        let ea : a ≡ x ∷ c.0 = sym (ap front h) in
        let eb : b ≡ c.1 = sym (ap back h) in
        let r = ih c.0 c.1 eo in
        (rw (ea, eb) (ap (λ (z : Bytes). x ∷ z) r.0), rw ea (and_from _ _ (not_from_false (eqb x sep) e) r.1))

pub cut_at : (sep : ℕ) (a b : Bytes) → free sep a ≡ true → cut sep (a ++ (sep ∷ b)) ≡ some (a, b)
cut_at sep [] b h = cond-true (eqb sep sep) _ _ (eq-eqb sep sep refl)
cut_at sep (x ∷ xs) b h =
    let p = and_parts (not (eqb x sep)) (free sep xs) h in
    cond-false (eqb x sep) _ _ (not-true (eqb x sep) p.0) ∙ ap (further x) (cut_at sep xs b p.1)

pub strip_some : (k l v : Bytes) → strip k l ≡ some v → l ≡ k ++ v
strip_some [] l v h = some_same l v h
strip_some (k ∷ ks) [] v h = absurd (none≢some h)
strip_some (k ∷ ks) (b ∷ bs) v h = go (eqb k b) refl h (λ e. strip_some ks bs v e)
  where
    go : (t : Bool) → eqb k b ≡ t → cond t (strip ks bs) none ≡ some v → (strip ks bs ≡ some v → bs ≡ ks ++ v) → b ∷ bs ≡ (k ∷ ks) ++ v
    go true e h ih =
        let a : k ≡ b = eqb-true k b e in
        let r : bs ≡ ks ++ v = ih h in
        cc
    go false e h ih = absurd (none≢some h)

pub strip_at : (k v : Bytes) → strip k (k ++ v) ≡ some v
strip_at [] v = refl
strip_at (k ∷ ks) v = cond-true (eqb k k) _ _ (eq-eqb k k refl) ∙ strip_at ks v

pub parts_some : (sep : ℕ) (v : Bytes) → parts sep v ≡ [] → ⊥
parts_some sep [] h = cons≢nil [] [] h
parts_some sep (b ∷ bs) h = go (eqb b sep) (parts sep bs) h
  where
    go : (t : Bool) (ps : List Bytes) → cond t ([] ∷ ps) (longer b ps) ≡ [] → ⊥
    go true ps h = cons≢nil [] ps h
    go false [] h = cons≢nil (b ∷ []) [] h
    go false (p ∷ ps) h = cons≢nil (b ∷ p) ps h

pub joined_parts : (sep : ℕ) (v : Bytes) → joined sep (parts sep v) ≡ v
joined_parts sep [] = refl
joined_parts sep (b ∷ bs) = go (eqb b sep) refl (parts sep bs) (parts_some sep bs) (joined_parts sep bs)
  where
    go : (t : Bool) → eqb b sep ≡ t → (ps : List Bytes) → (ps ≡ [] → ⊥) → joined sep ps ≡ bs → joined sep (cond t ([] ∷ ps) (longer b ps)) ≡ b ∷ bs
    go t e [] ne h = absurd (ne refl)
    go true e (p ∷ ps) ne h = let a : b ≡ sep = eqb-true b sep e in cc
    go false e (p ∷ ps) ne h = ap (λ (z : Bytes). b ∷ z) h

pub parts_one : (sep : ℕ) (p : Bytes) → free sep p ≡ true → parts sep p ≡ p ∷ []
parts_one sep [] h = refl
parts_one sep (b ∷ p) h =
    let s = and_parts (not (eqb b sep)) (free sep p) h in
    cond-false (eqb b sep) _ _ (not-true (eqb b sep) s.0) ∙ ap (longer b) (parts_one sep p s.1)

pub parts_cut : (sep : ℕ) (p r : Bytes) → free sep p ≡ true → parts sep (p ++ (sep ∷ r)) ≡ p ∷ parts sep r
parts_cut sep [] r h = cond-true (eqb sep sep) _ _ (eq-eqb sep sep refl)
parts_cut sep (b ∷ p) r h =
    let s = and_parts (not (eqb b sep)) (free sep p) h in
    cond-false (eqb b sep) _ _ (not-true (eqb b sep) s.0) ∙ ap (longer b) (parts_cut sep p r s.1)

pub parts_joined : (sep : ℕ) (x : Bytes) (xs : List Bytes) → free sep x ≡ true → AllByRecursion (λ y. free sep y ≡ true) xs → parts sep (joined sep (x ∷ xs)) ≡ x ∷ xs
parts_joined sep x [] h a = ap (parts sep) (append-nil x) ∙ parts_one sep x h
parts_joined sep x (y ∷ ys) h a = parts_cut sep x (joined sep (y ∷ ys)) h ∙ ap (λ (z : List Bytes). x ∷ z) (parts_joined sep y ys a.0 a.1)
