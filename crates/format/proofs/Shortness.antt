-- The text of a well-formed contents fits the limit.
use Rattle.std.proofs.Common.{◌≡◌, ℕ, suc, ◌+◌, ◌-◌, ◌*◌, ◌<◌, ◌≤◌, true, List, [], ◌∷◌, ◌++◌, map, length, get_or, codes, ap, ◌∙◌, arith}
use Rattle.std.specs.List.{AllByRecursion}
use Rattle.std.proofs.ByRecursion.{All-get_or}
use Rattle.std.proofs.lemmas.List.{length-append, length-map}
use Rattle.format.specs.Bytes.{Bytes, decimal, joined_on}
use Rattle.book.specs.Names.{well_named}
use Rattle.format.specs.Contents.{Item, Rule, Contents, ErrandContents, Rising, Own, Well, WellErrand}
use Rattle.format.specs.Written.{line, digit, item_text, list_text, latch_lines, rule_lines, book_lines, book_text, errand_text}
use Rattle.format.proofs.Plain.{named_parts, length_decimal}

line_length : (key v rest : Bytes) → length (line key v rest) ≡ length key + (length v + suc (length rest))
line_length key v rest = length-append key (v ++ (10 ∷ rest)) ∙ ap (λ (k : ℕ). length key + k) (length-append v (10 ∷ rest))

rising_length : (low n : ℕ) (xs : List Item) → Rising low n xs → length xs ≤ n - low
rising_length low n [] r = omega arith
rising_length low n (x ∷ xs) r = let h = rising_length (suc x.latch) n xs r.1.1 in omega (arith, r.0, r.1.0)

module _ (names : List Bytes) (named : AllByRecursion (λ x. well_named x ≡ true) names) where
  name_length : (i : ℕ) → i < length names → length (get_or names i []) ≤ 11
  name_length i l = (named_parts (get_or names i []) (All-get_or (λ x. well_named x ≡ true) names i [] l named)).1.0

  item_length : (x : Item) → x.latch < length names → length (item_text names x) ≤ 13
  item_length x l = let h = name_length x.latch l in omega (arith, length-append (get_or names x.latch []) (58 ∷ digit x.at ∷ []))

  on_length : (low : ℕ) (xs : List Item) → Rising low (length names) xs → length (joined_on 32 (map (item_text names) xs)) ≤ 14 * length xs
  on_length low [] r = omega arith
  on_length low (x ∷ xs) r =
      let h = on_length (suc x.latch) xs r.1.1 in
      let k = item_length x r.1.0 in
      omega (arith, length-append (item_text names x) (joined_on 32 (map (item_text names) xs)))

  pub list_length : (xs : List Item) → Rising 0 (length names) xs → length names ≤ 32 → length (list_text names xs) ≤ 448
  list_length [] r l = omega arith
  list_length (x ∷ xs) r l =
      let h = on_length (suc x.latch) xs r.1.1 in
      let k = item_length x r.1.0 in
      let m = rising_length 0 (length names) (x ∷ xs) r in
      omega (arith, length-append (item_text names x) (joined_on 32 (map (item_text names) xs)))

  rules_length : (rs : List Rule) (rest : Bytes) → AllByRecursion (Own (length names)) rs → length names ≤ 32 → length (rule_lines names rs rest) ≤ 476 * length rs + length rest
  rules_length [] rest a l = omega arith
  rules_length (r ∷ rs) rest a l =
      let h = rules_length rs rest a.1 l in
      let w = list_length r.when a.0.1 l in
      let n = name_length r.latch a.0.0 in
      let z : Bytes = rule_lines names rs rest in
      let y : Bytes = line (codes "when=") (list_text names r.when) z in
      let x : Bytes = line (codes "to=") (digit r.to ∷ []) y in
      omega (arith, line_length (codes "when=") (list_text names r.when) z, line_length (codes "to=") (digit r.to ∷ []) y, line_length (codes "move=") (get_or names r.latch []) x)

latches_length : (new : List Bytes) (rest : Bytes) → AllByRecursion (λ x. well_named x ≡ true) new → length (latch_lines new rest) ≤ 18 * length new + length rest
latches_length [] rest a = omega arith
latches_length (x ∷ new) rest a =
    let h = latches_length new rest a.1 in
    let n = (named_parts x a.0).1.0 in
    omega (arith, line_length (codes "latch=") x (latch_lines new rest))

pub book_length : (p : Contents) (rest : Bytes) → Well p → length (book_lines p rest) ≤ 61600 + length rest
book_length p rest w =
    let z : Bytes = rule_lines p.names p.rules rest in
    let y : Bytes = line (codes "moves=") (decimal (length p.rules)) z in
    let x : Bytes = latch_lines p.names y in
    let v : Bytes = line (codes "latches=") (decimal (length p.names)) x in
    let a = rules_length p.names w.named p.rules rest w.own w.few in
    let b = latches_length p.names y w.named in
    let d = length_decimal (length p.names) in
    let e = length_decimal (length p.rules) in
    let f = w.few in
    let g = w.room in
    omega (arith, line_length (codes "moves=") (decimal (length p.rules)) z, line_length (codes "latches=") (decimal (length p.names)) x, line_length (codes "book=") (codes "1") v)

pub book_short : (p : Contents) → Well p → length (book_text p) ≤ 65536
book_short p w = let h = book_length p [] w in omega arith

pub errand_short : (e : ErrandContents) → WellErrand e → length (errand_text e) ≤ 65536
errand_short e w =
    let y : Bytes = line (codes "want=") (list_text e.contents.names e.want) [] in
    let x : Bytes = line (codes "start=") (map digit e.start) y in
    let h = book_length e.contents x w.book in
    let l = list_length e.contents.names w.book.named e.want w.want w.book.few in
    let f = w.book.few in
    let s = w.start in
    omega (arith, line_length (codes "want=") (list_text e.contents.names e.want) [], line_length (codes "start=") (map digit e.start) y, length-map e.start digit)
