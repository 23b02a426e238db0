-- Values with an invariant are equal where their data are.
use Rattle.std.proofs.Common.{◌≡◌, ℕ, ◌<◌, ◌≤◌, Bool, true, false, cond, List, [], ◌∷◌, map, length, get_or, take, sym, refl, ap, ◌∙◌, inl, inr, arith}
use mathlib.Core.HLevel.{is_prop→PathP}
use mathlib.Core.Option.{Option, none, some}
use base.Stored.{Coded, coded_ℕ, coded_bool, coded×, coded_via}
use denote.Struct.Props.{props}
use Rattle.std.proofs.lemmas.List.{length-take-le, get_or-take, ext_get_or}
use Rattle.std.proofs.lemmas.Bool.{cases_lt, false≢true}
use Rattle.words.specs.Sets.{has, Below, most_latches}
use Rattle.words.proofs.Members.{set_ext, set_coded}
use Rattle.book.specs.declared.book.Book.{Book}
use Rattle.book.specs.declared.errand.Errand.{Errand}
use Rattle.book.specs.declared.moves.Move.{Move}
use Rattle.book.specs.declared.name.Name.{Name}
use Rattle.book.specs.declared.partial.PartialSetting.{PartialSetting}
use Rattle.book.specs.Limits.{most_moves}
use Rattle.book.specs.Names.{most_chars, name_chars, well_named, same}
use Rattle.book.specs.Places.{name_of, name_at, move_at, no_move}
use Rattle.book.specs.Settings.{asked}

pub partial_same : (p q : PartialSetting) → p.named ≡ q.named → p.ones ≡ q.ones → p ≡ q
partial_same p q e f = λ i. record {
  named = e i;
  ones = f i;
  within = is_prop→PathP (λ j. (k : ℕ) → has (f j) k ≡ true → has (e j) k ≡ true) (λ j. hlevel props) p.within q.within i;
}

abbrev some? : Option Bool → Bool
some? none = false
some? (some b) = true

abbrev one? : Option Bool → Bool
one? none = false
one? (some b) = b

-- a partial setting is told by what it asks of each latch
pub partial_tell : (p q : PartialSetting) → ((j : ℕ) → asked p j ≡ asked q j) → p ≡ q
partial_tell p q h =
    partial_same p q (set_ext p.named q.named (λ j. tell_named (has p.named j) (has q.named j) (has p.ones j) (has q.ones j) (h j)))
    (set_ext p.ones q.ones (λ j. tell_ones (has p.named j) (has q.named j) (has p.ones j) (has q.ones j) (p.within j) (q.within j) (h j)))
  where
    tell_named : (x y a b : Bool) → cond x (some a) none ≡ cond y (some b) none → x ≡ y
    tell_named true true a b e = refl
    tell_named true false a b e = ap some? e
    tell_named false true a b e = ap some? e
    tell_named false false a b e = refl

    tell_ones : (x y a b : Bool) → (a ≡ true → x ≡ true) → (b ≡ true → y ≡ true) → cond x (some a) none ≡ cond y (some b) none → a ≡ b
    tell_ones true true a b f g e = ap one? e
    tell_ones true false a true f g e = absurd (false≢true (g refl))
    tell_ones true false a false f g e = ap one? e
    tell_ones false true true b f g e = absurd (false≢true (f refl))
    tell_ones false true false b f g e = ap one? e
    tell_ones false false true b f g e = absurd (false≢true (f refl))
    tell_ones false false false true f g e = absurd (false≢true (g refl))
    tell_ones false false false false f g e = refl

pub move_same : (m n : Move) → m.latch ≡ n.latch → m.to ≡ n.to → m.when ≡ n.when → m ≡ n
move_same m n e f g = λ i. record { latch = e i; to = f i; when = g i }

-- two proofs that moves are equal are one
partial_coded : Coded PartialSetting
partial_coded =
    coded_via (coded× set_coded set_coded) (λ (p : PartialSetting). (p.named, p.ones)) (λ p q e. partial_same p q (λ i. (e i).0) (λ i. (e i).1))

move_coded : Coded Move
move_coded =
    coded_via (coded× coded_ℕ (coded× coded_bool partial_coded)) (λ (m : Move). (m.latch, (m.to, m.when))) (λ m n e. move_same m n (λ i. (e i).0) (λ i. (e i).1.0) (λ i. (e i).1.1))

-- a name is told by its bytes
pub name_same : (a b : Name) → name_of a ≡ name_of b → a ≡ b
name_same a b e = λ i. record {
  bytes = bytes i;
  len = len i;
  sized = is_prop→PathP (λ j. length (bytes j) ≡ most_chars) (λ j. hlevel props) a.sized b.sized i;
  short = is_prop→PathP (λ j. len j ≤ most_chars) (λ j. hlevel props) a.short b.short i;
  formed = is_prop→PathP (λ j. name_chars (take (len j) (bytes j)) ≡ true) (λ j. hlevel props) a.formed b.formed i;
  padded = is_prop→PathP (λ j. (k : ℕ) → len j ≤ k → get_or (bytes j) k 0 ≡ 0) (λ j. hlevel props) a.padded b.padded i;
}
  where
    long : (x : Name) → length (name_of x) ≡ x.len
    long x = length-take-le x.len x.bytes (omega (arith, x.sized, x.short))

    len : a.len ≡ b.len
    len = sym (long a) ∙ ap length e ∙ long b

    at : (i : ℕ) → i < length a.bytes → get_or a.bytes i 0 ≡ get_or b.bytes i 0
    at i l =
        elim (cases_lt i a.len) [
          | inl h ↦ sym (get_or-take a.len a.bytes i 0 h) ∙ ap (λ (x : List ℕ). get_or x i 0) e ∙ get_or-take b.len b.bytes i 0 (omega (arith, len))
          | inr h ↦ a.padded i h ∙ sym (b.padded i (omega (arith, len)))
        ]

    bytes : a.bytes ≡ b.bytes
    bytes = ext_get_or 0 a.bytes b.bytes (a.sized ∙ sym b.sized) at

abbrev head : List (List ℕ) → List ℕ
head [] = []
head (v ∷ vs) = v

abbrev tail : List (List ℕ) → List (List ℕ)
tail [] = []
tail (v ∷ vs) = vs

-- names are told by their bytes
pub names_same : (xs ys : List Name) → map name_of xs ≡ map name_of ys → xs ≡ ys
names_same [] [] e = refl
names_same [] (y ∷ ys) e = absurd (let z = ap length e in omega arith)
names_same (x ∷ xs) [] e = absurd (let z = ap length e in omega arith)
names_same (x ∷ xs) (y ∷ ys) e =
    let h : x ≡ y = name_same x y (ap head e) in
    let t : xs ≡ ys = names_same xs ys (ap tail e) in
    cc

pub book_same : (a b : Book) → a.latches ≡ b.latches → a.names ≡ b.names → a.count ≡ b.count → a.moves ≡ b.moves → a ≡ b
book_same a b n x m y = λ i. record {
  latches = n i;
  names = x i;
  count = m i;
  moves = y i;
  few = is_prop→PathP (λ j. n j ≤ most_latches) (λ j. hlevel props) a.few b.few i;
  room = is_prop→PathP (λ j. m j ≤ most_moves) (λ j. hlevel props) a.room b.room i;
  name_places = is_prop→PathP (λ j. length (x j) ≡ most_latches) (λ j. hlevel props) a.name_places b.name_places i;
  move_places = is_prop→PathP (λ j. length (y j) ≡ most_moves) (λ j. hlevel props) a.move_places b.move_places i;
  named = is_prop→PathP (λ j. (k : ℕ) → k < n j → well_named (name_at (x j) k) ≡ true) (λ j. hlevel props) a.named b.named i;
  differ = is_prop→PathP (λ j. (h k : ℕ) → (h < k) × (k < n j) → same (name_at (x j) h) (name_at (x j) k) ≡ false) (λ j. hlevel props) a.differ b.differ i;
  own = is_prop→PathP (λ j. (k : ℕ) → k < m j → (move_at (y j) k).latch < n j) (λ j. hlevel props) a.own b.own i;
  asks = is_prop→PathP (λ j. (k : ℕ) → k < m j → Below (n j) (move_at (y j) k).when.named) (λ j. hlevel props) a.asks b.asks i;
  no_names = is_prop→PathP (λ j. (k : ℕ) → n j ≤ k → name_at (x j) k ≡ []) (λ j. hlevel props) a.no_names b.no_names i;
  no_moves = is_prop→PathP (λ j. (k : ℕ) → m j ≤ k → move_at (y j) k ≡ no_move) (λ j. hlevel (props, move_coded)) a.no_moves b.no_moves i;
}

pub errand_same : (a b : Errand) → a.book ≡ b.book → a.start ≡ b.start → a.want ≡ b.want → a ≡ b
errand_same a b x s w = λ i. record {
  book = x i;
  start = s i;
  want = w i;
  starts = is_prop→PathP (λ j. Below (x j).latches (s j)) (λ j. hlevel props) a.starts b.starts i;
  wants = is_prop→PathP (λ j. Below (x j).latches (w j).named) (λ j. hlevel props) a.wants b.wants i;
}
