-- A list of items, as a loop reads it part by part.
use Rattle.std.proofs.Common.{◌≡◌, ℕ, suc, ◌+◌, ◌<◌, ◌≤◌, cond, eqb, List, [], ◌∷◌, ◌++◌, length, get_or, drop, refl, sym, ap, ◌∙◌, add-one, arith}
use mathlib.Core.Option.{some}
use Rattle.std.specs.List.{slice_split, onto_first}
use Rattle.std.proofs.lemmas.List.{length-append, nil_from_length, at_drop_more, at_drop_all}
use Rattle.format.specs.declared.Fault.{Fault}
use Rattle.format.specs.Bytes.{Bytes, cut, parts, longer}
use Rattle.format.specs.Contents.{Item}
use Rattle.format.specs.Reader.{Judged, fine, wrong}
use Rattle.format.specs.Values.{item, items, item_list, followed}
use Rattle.format.proofs.Cutting.{cut_some}
use Rattle.format.proofs.Items.{item_fine}
use Rattle.words.specs.Sets.{Empty}
use Rattle.book.specs.declared.partial.PartialSetting.{PartialSetting}
use Rattle.format.specs.Said.{items_of}
use Rattle.format.proofs.ItemsSaid.{no_items}

-- no item yet
module _ (names : List Bytes) (v : Bytes) (p : PartialSetting) (empty : Empty p.named) where
  pub no_list : length v ≡ 0 → item_list names v ≡ fine (items_of p)
  no_list e = ap (item_list names) (nil_from_length v e) ∙ ap fine (sym (no_items p empty))

  pub list_begins : 1 ≤ length v → items names 0 (items_of p) (parts 32 v) ≡ item_list names v
  list_begins l = begins v l
    where
      begins : (w : Bytes) → 1 ≤ length w → items names 0 (items_of p) (parts 32 w) ≡ item_list names w
      begins [] l = absurd (omega arith)
      begins (b ∷ w) l = ap (λ (z : List Item). items names 0 z (parts 32 (b ∷ w))) (no_items p empty)

-- the latch of an item that was read
pub item_latch : (names : List Bytes) (low : ℕ) (v : Bytes) (x : Item) → item names low v ≡ fine x → (low ≤ x.latch) × (x.latch < length names)
item_latch names low v x h = (item_fine names low v x h).1

-- the parts, as `split` gives them
longer_is : (b : ℕ) (ps : List Bytes) → onto_first b ps ≡ longer b ps
longer_is b [] = refl
longer_is b (p ∷ ps) = refl

pub parts_are : (sep : ℕ) (v : Bytes) → slice_split (λ b. eqb b sep) v ≡ parts sep v
parts_are sep [] = refl
parts_are sep (b ∷ v) =
    ap (λ (ps : List Bytes). cond (eqb b sep) ([] ∷ ps) (onto_first b ps)) (parts_are sep v)
    ∙ ap (cond (eqb b sep) ([] ∷ parts sep v)) (longer_is b (parts sep v))

-- the first n of the parts are read
module _ (names : List Bytes) (low : ℕ) (done : List Item) (ps : List Bytes) (n : ℕ) (whole : Judged (List Item)) (inv : items names low done (drop n ps) ≡ whole) where
  part_read : (p : Bytes) (j : Judged Item) → (n < length ps) × (p ≡ get_or ps n p) → item names low p ≡ j
      → followed j (λ x. items names (suc x.latch) (done ++ (x ∷ [])) (drop (n + 1) ps)) ≡ whole
  part_read p j t h =
      ap (λ (k : Judged Item). followed k (λ x. items names (suc x.latch) (done ++ (x ∷ [])) (drop (n + 1) ps))) (sym h ∙ ap (item names low) t.1)
      ∙ sym (at_drop_more (items names low done) ps n p t.0) ∙ inv

  pub part_fine : (p : Bytes) (x : Item) (more : List Item) → (n < length ps) × (p ≡ get_or ps n p) → item names low p ≡ fine x → more ≡ done ++ (x ∷ [])
      → items names (x.latch + 1) more (drop (n + 1) ps) ≡ whole
  part_fine p x more t h s =
      ap (λ (k : ℕ). items names k more (drop (n + 1) ps)) (add-one x.latch) ∙ ap (λ (z : List Item). items names (suc x.latch) z (drop (n + 1) ps)) s
      ∙ part_read p (fine x) t h

  pub part_wrong : (p : Bytes) (k : Fault) → (n < length ps) × (p ≡ get_or ps n p) → item names low p ≡ wrong k → whole ≡ wrong k
  part_wrong p k t h = sym (part_read p (wrong k) t h)

  pub parts_end : length ps ≤ n → whole ≡ fine done
  parts_end l = sym inv ∙ at_drop_all (items names low done) ps n l

pub cut_shorter : (sep : ℕ) (s p r : Bytes) → cut sep s ≡ some (p, r) → length r < length s
cut_shorter sep s p r e = omega (arith, ap length (cut_some sep s p r e).0, length-append p (sep ∷ r))
