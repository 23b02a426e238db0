-- A list of items, of which the first n are read into the latches named and those at 1.
use Rattle.std.proofs.Common.{◌≡◌, ℕ, ◌+◌, ◌<◌, ◌≤◌, Bool, true, List, [], ◌∷◌, ◌++◌, length, get_or, drop, sym, refl, ap, ◌∙◌, arith}
use Rattle.words.specs.declared.LatchSet.{LatchSet}
use Rattle.words.specs.Sets.{has, Below, most_latches}
use Rattle.book.specs.declared.partial.PartialSetting.{PartialSetting}
use Rattle.book.specs.Settings.{asked, asked_with, nothing_asked}
use Rattle.words.proofs.Members.{no_member}
use Rattle.format.specs.Bytes.{Bytes, parts}
use Rattle.format.specs.Contents.{Item}
use Rattle.format.specs.Reader.{fine}
use Rattle.format.specs.Said.{items_of, UnaskedFrom}
use Rattle.format.specs.Values.{item, items, item_list}
use Rattle.format.proofs.Itemizing.{list_begins, item_latch, part_fine, parts_end}
use Rattle.format.proofs.ItemsSaid.{nothing_from, below_from_unasked, more_unasked, one_more_item, same_asked, same_items}

-- p is what is asked by the first n items, all of latches below low
pub record ReadTo (names : List Bytes) (v : Bytes) (n low : ℕ) (named ones : LatchSet) : Type 0 where
  pub p : PartialSetting
  pub is_named : p.named ≡ named
  pub is_ones : p.ones ≡ ones
  pub rest : items names low (items_of p) (drop n (parts 32 v)) ≡ item_list names v
  pub own : low ≤ length names
  pub above : UnaskedFrom low p

pub read_none : (names : List Bytes) (v : Bytes) → 1 ≤ length v → ReadTo names v 0 0 nothing_asked.named nothing_asked.ones
read_none names v l = record {
  p = nothing_asked;
  is_named = refl;
  is_ones = refl;
  rest = list_begins names v nothing_asked no_member l;
  own = omega arith;
  above = nothing_from 0 nothing_asked no_member;
}

module _ (names : List Bytes) (v : Bytes) (n low : ℕ) (named ones : LatchSet) (r : ReadTo names v n low named ones) where
  pub read_within : (j : ℕ) → has ones j ≡ true → has named j ≡ true
  read_within j h = ap (λ (s : LatchSet). has s j) (sym r.is_named) ∙ r.p.within j (ap (λ (s : LatchSet). has s j) r.is_ones ∙ h)

  pub read_below : Below (length names) named
  read_below j h =
      let b = below_from_unasked low r.p r.above j (ap (λ (s : LatchSet). has s j) r.is_named ∙ h) in
      omega (arith, b, r.own)

  -- q is what is asked so far, as the code has it
  module _ (q : PartialSetting) (e : q.named ≡ named) (f : q.ones ≡ ones) where
    asks : (j : ℕ) → asked q j ≡ asked r.p j
    asks = same_asked q r.p (e ∙ sym r.is_named) (f ∙ sym r.is_ones)

    lists : items_of q ≡ items_of r.p
    lists = same_items q r.p (e ∙ sym r.is_named) (f ∙ sym r.is_ones)

    pub read_next : (piece : Bytes) (i : ℕ) (b : Bool) (u : PartialSetting) → (n < length (parts 32 v)) × (piece ≡ get_or (parts 32 v) n piece)
        → item names low piece ≡ fine (record { latch = i; at = b }) → i < most_latches → ((j : ℕ) → asked u j ≡ asked_with q i b j)
        → ReadTo names v (n + 1) (i + 1) u.named u.ones
    read_next piece i b u t h l with_i =
        let s = item_latch names low piece (record { latch = i; at = b }) h in
        let free : UnaskedFrom i q = λ j g. asks j ∙ r.above j (omega (arith, s.0)) in
        record {
          p = u;
          is_named = refl;
          is_ones = refl;
          rest = part_fine names low (items_of r.p) (parts 32 v) n (item_list names v) r.rest piece (record { latch = i; at = b }) (items_of u) t h
              (one_more_item i q u b l with_i free ∙ ap (λ (xs : List Item). xs ++ (record { latch = i; at = b } ∷ [])) lists);
          own = omega (arith, s.1);
          above = more_unasked i q u b l with_i free;
        }

    pub read_all : length (parts 32 v) ≤ n → item_list names v ≡ fine (items_of q)
    read_all l = parts_end names low (items_of r.p) (parts 32 v) n (item_list names v) r.rest l ∙ ap fine (sym lists)
