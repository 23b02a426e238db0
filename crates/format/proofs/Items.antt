-- The reader of a list of items accepts exactly what is written for one.
use Rattle.std.proofs.Common.{◌≡◌, ℕ, suc, ◌+◌, ◌-◌, ◌<◌, ◌≤◌, Bool, true, false, cond, not, eqb, ltb, leb, List, [], ◌∷◌, ◌++◌, map, length, get_or, take, drop, codes, sym, refl, ap, ◌∙◌, subst, arith}
use mathlib.Core.Option.{Option, none, some}
use Rattle.std.specs.List.{AllByRecursion}
use Rattle.std.proofs.ByRecursion.{All-get_or}
use Rattle.std.proofs.lemmas.List.{append-nil, append_assoc, length-append, take-append-drop, take_at, drop_at}
use Rattle.std.proofs.lemmas.Bool.{leb-true, le-leb, ne_eqb, not_from_false, and_from, le-ltb, cond-true, cond-false}
use Rattle.format.specs.declared.Fault.TheVariants.{Item as BadItem}
use Rattle.book.specs.Names.{same}
use Rattle.format.specs.Bytes.{Bytes, parts, joined, joined_on}
use Rattle.book.specs.Names.{well_named}
use Rattle.format.specs.Contents.{Item, Distinct, Rising}
use Rattle.format.specs.Written.{digit, item_text, list_text}
use Rattle.format.specs.Reader.{Judged, fine, wrong}
use Rattle.format.specs.Values.{find, ending, risen, with_ending, item, followed, items, item_list}
use Rattle.format.proofs.Cutting.{none≢some, some_same, same_true, free, free_append, joined_parts, parts_joined}
use Rattle.format.proofs.Steps.{wrong≢fine, fine_same, cond_fine}
use Rattle.format.proofs.Finding.{find_some, find_at}
use Rattle.format.proofs.Plain.{free_name, named_parts}

pub ending_some : (v : Bytes) (b : Bool) → ending v ≡ some b → v ≡ 58 ∷ digit b ∷ []
ending_some v b h = go (same v (codes ":0")) refl (same v (codes ":1")) refl h
  where
    go : (s : Bool) → same v (codes ":0") ≡ s → (t : Bool) → same v (codes ":1") ≡ t → cond s (some false) (cond t (some true) none) ≡ some b → v ≡ 58 ∷ digit b ∷ []
    go true e t f h = same_true v _ e ∙ ap (λ (x : Bool). 58 ∷ digit x ∷ []) (some_same false b h)
    go false e true f h = same_true v _ f ∙ ap (λ (x : Bool). 58 ∷ digit x ∷ []) (some_same true b h)
    go false e false f h = absurd (none≢some h)

pub ending_at : (b : Bool) → ending (58 ∷ digit b ∷ []) ≡ some b
ending_at true = refl
ending_at false = refl

pub item_fine : (names : List Bytes) (low : ℕ) (v : Bytes) (x : Item) → item names low v ≡ fine x
    → (v ≡ item_text names x) × ((low ≤ x.latch) × (x.latch < length names))
item_fine names low v x h = go (ltb (length v) 3) h
  where
    last : (b : Bool) → ending (drop (length v - 2) v) ≡ some b → (o : Option ℕ) → find (take (length v - 2) v) names ≡ o → risen low b o ≡ fine x
        → (v ≡ item_text names x) × ((low ≤ x.latch) × (x.latch < length names))
    last b e none f h = absurd (wrong≢fine h)
    last b e (some i) f h =
        let s = cond_fine (leb low i) (record { latch = i; at = b }) x _ h in
        let r = find_some (take (length v - 2) v) names i f in
        let l : i ≡ x.latch = ap (λ (y : Item). y.latch) s.1 in
        let a : b ≡ x.at = ap (λ (y : Item). y.at) s.1 in
        let k = leb-true low i s.0 in (
          sym (take-append-drop (length v - 2) v)
              ∙ ap (λ (z : Bytes). z ++ drop (length v - 2) v) (sym r.1)
              ∙ ap (λ (z : Bytes). get_or names i [] ++ z) (ending_some _ b e)
              ∙ ap (λ (y : Item). item_text names y) s.1,
          (omega arith, omega (arith, r.0)),
        )

    middle : (o : Option Bool) → ending (drop (length v - 2) v) ≡ o → with_ending names low (take (length v - 2) v) o ≡ fine x
        → (v ≡ item_text names x) × ((low ≤ x.latch) × (x.latch < length names))
    middle none e h = absurd (wrong≢fine h)
    middle (some b) e h = last b e (find (take (length v - 2) v) names) refl h

    go : (t : Bool) → cond t (wrong BadItem) (with_ending names low (take (length v - 2) v) (ending (drop (length v - 2) v))) ≡ fine x
        → (v ≡ item_text names x) × ((low ≤ x.latch) × (x.latch < length names))
    go true h = absurd (wrong≢fine h)
    go false h = middle (ending (drop (length v - 2) v)) refl h

-- names that a book can have
module _ (names : List Bytes) (distinct : Distinct names) (named : AllByRecursion (λ x. well_named x ≡ true) names) where
  name_at : (i : ℕ) → i < length names → well_named (get_or names i []) ≡ true
  name_at i l = All-get_or (λ x. well_named x ≡ true) names i [] l named

  pub item_at : (low : ℕ) (x : Item) → low ≤ x.latch → x.latch < length names → item names low (item_text names x) ≡ fine x
  item_at low x a l =
      let nm : Bytes = get_or names x.latch [] in
      let long : 1 ≤ length nm = (named_parts nm (name_at x.latch l)).0 in
      let n : length (item_text names x) ≡ length nm + 2 = length-append nm (58 ∷ digit x.at ∷ []) in
      let m : length nm ≡ length (item_text names x) - 2 = omega arith in
      let back : drop (length (item_text names x) - 2) (item_text names x) ≡ 58 ∷ digit x.at ∷ [] = drop_at nm _ _ m in
      let front : take (length (item_text names x) - 2) (item_text names x) ≡ nm = take_at nm _ _ m in
      cond-false (ltb (length (item_text names x)) 3) _ _ (le-ltb _ 3 (omega arith))
      ∙ ap (λ (z : Bytes). with_ending names low (take (length (item_text names x) - 2) (item_text names x)) (ending z)) back
      ∙ ap (λ (z : Bytes). with_ending names low z (ending (58 ∷ digit x.at ∷ []))) front
      ∙ ap (with_ending names low nm) (ending_at x.at)
      ∙ ap (risen low x.at) (find_at names x.latch distinct l)
      ∙ cond-true (leb low x.latch) _ _ (le-leb low x.latch a)

  pub items_at : (low : ℕ) (done new : List Item) → Rising low (length names) new → items names low done (map (item_text names) new) ≡ fine (done ++ new)
  items_at low done [] r = ap fine (sym (append-nil done))
  items_at low done (x ∷ new) r =
      ap (λ (j : Judged Item). followed j (λ y. items names (suc y.latch) (done ++ (y ∷ [])) (map (item_text names) new))) (item_at low x r.0 r.1.0)
      ∙ items_at (suc x.latch) (done ++ (x ∷ [])) new r.1.1 ∙ ap fine (append_assoc done (x ∷ []) new)

  pub free_item : (sep : ℕ) → sep < 45 → (x : Item) → x.latch < length names → free sep (item_text names x) ≡ true
  free_item sep l x h =
      free_append sep (get_or names x.latch []) (58 ∷ digit x.at ∷ [])
      (free_name sep (get_or names x.latch []) l (named_parts (get_or names x.latch []) (name_at x.latch h)).1.1)
      (and_from _ _ (far 58 (omega arith)) (and_from _ _ (far_digit x.at) refl))
    where
      far : (b : ℕ) → 45 ≤ b → not (eqb b sep) ≡ true
      far b k = not_from_false (eqb b sep) (ne_eqb b sep (λ e. omega arith))

      far_digit : (b : Bool) → not (eqb (digit b) sep) ≡ true
      far_digit true = far 49 (omega arith)
      far_digit false = far 48 (omega arith)

  pub free_items : (sep low : ℕ) → sep < 45 → (xs : List Item) → Rising low (length names) xs → AllByRecursion (λ v. free sep v ≡ true) (map (item_text names) xs)
  free_items sep low l [] r = tt
  free_items sep low l (x ∷ xs) r = (free_item sep l x r.1.0, free_items sep (suc x.latch) l xs r.1.1)

  pub free_joined_on : (vs : List Bytes) → AllByRecursion (λ v. free 10 v ≡ true) vs → free 10 (joined_on 32 vs) ≡ true
  free_joined_on [] a = refl
  free_joined_on (v ∷ vs) a = free_append 10 v (joined_on 32 vs) a.0 (free_joined_on vs a.1)

  pub free_list : (xs : List Item) → Rising 0 (length names) xs → free 10 (list_text names xs) ≡ true
  free_list [] r = refl
  free_list (x ∷ xs) r =
      let a = free_items 10 0 (omega arith) (x ∷ xs) r in free_append 10 (item_text names x) _ a.0 (free_joined_on (map (item_text names) xs) a.1)

  list_some : (v : Bytes) → 1 ≤ length v → item_list names v ≡ items names 0 [] (parts 32 v)
  list_some [] h = absurd (omega arith)
  list_some (b ∷ bs) h = refl

  pub item_list_at : (xs : List Item) → Rising 0 (length names) xs → item_list names (list_text names xs) ≡ fine xs
  item_list_at [] r = refl
  item_list_at (x ∷ xs) r =
      let a = free_items 32 0 (omega arith) (x ∷ xs) r in
      let e = length-append (item_text names x) (joined_on 32 (map (item_text names) xs)) in
      let f = length-append (get_or names x.latch []) (58 ∷ digit x.at ∷ []) in
      list_some (list_text names (x ∷ xs)) (omega arith)
      ∙ ap (items names 0 []) (parts_joined 32 (item_text names x) (map (item_text names) xs) a.0 a.1)
      ∙ items_at 0 [] (x ∷ xs) r

pub items_fine : (names : List Bytes) (low : ℕ) (done : List Item) (vs : List Bytes) (xs : List Item) → items names low done vs ≡ fine xs
    → (new : List Item) × ((xs ≡ done ++ new) × ((vs ≡ map (item_text names) new) × Rising low (length names) new))
items_fine names low done [] xs h = ([], (sym (fine_same done xs h) ∙ sym (append-nil done), (refl, tt)))
items_fine names low done (v ∷ vs) xs h = go (item names low v) refl h (λ x e. items_fine names (suc x.latch) (done ++ (x ∷ [])) vs xs e)
  where
    go : (j : Judged Item) → item names low v ≡ j → followed j (λ x. items names (suc x.latch) (done ++ (x ∷ [])) vs) ≡ fine xs
        → ((x : Item) → items names (suc x.latch) (done ++ (x ∷ [])) vs ≡ fine xs
        → (new : List Item) × ((xs ≡ (done ++ (x ∷ [])) ++ new) × ((vs ≡ map (item_text names) new) × Rising (suc x.latch) (length names) new)))
        → (new : List Item) × ((xs ≡ done ++ new) × ((v ∷ vs ≡ map (item_text names) new) × Rising low (length names) new))
    go (wrong k) e h ih = absurd (wrong≢fine h)
    go (fine x) e h ih =
        let r = ih x h in
        let s = item_fine names low v x e in
        let ev : v ≡ item_text names x = s.0 in
        let evs : vs ≡ map (item_text names) r.0 = r.1.1.0 in
        (x ∷ r.0, (r.1.0 ∙ append_assoc done (x ∷ []) r.0, ((cc), (s.1.0, (s.1.1, r.1.1.1)))))

pub item_list_fine : (names : List Bytes) (v : Bytes) (xs : List Item) → item_list names v ≡ fine xs → (v ≡ list_text names xs) × Rising 0 (length names) xs
item_list_fine names [] xs h =
    let e : [] ≡ xs = fine_same [] xs h in
    (ap (list_text names) e, subst (λ (z : List Item). Rising 0 (length names) z) e tt)
item_list_fine names (b ∷ bs) xs h =
    let r = items_fine names 0 [] (parts 32 (b ∷ bs)) xs h in (
      sym (joined_parts 32 (b ∷ bs)) ∙ ap (joined 32) r.1.1.0 ∙ ap (list_text names) (sym r.1.0),
      subst (λ (z : List Item). Rising 0 (length names) z) (sym r.1.0) r.1.1.1,
    )
