-- The bytes of a name: copied to the front of an array of zeros, and read as text.
use Rattle.std.proofs.Common.{◌≡◌, ℕ, zero, suc, ◌-◌, ◌<◌, ◌≤◌, true, List, [], ◌∷◌, ◌++◌, length, get_or, take, drop, replicate, ◌∙◌, arith, length-append, length-drop, lit<}
use Rattle.std.proofs.lemmas.Bool.{and_parts}
use Rattle.std.proofs.lemmas.Bool.Decides.{nat_tests}
use Rattle.std.proofs.lemmas.List.{length-replicate, get_or-drop}
use Rattle.std.proofs.Math.Seq.{take-append_seam, get_or-append_right}
use Rattle.std.specs.Str.{IsAscii}
use Rattle.book.proofs.Empty.{all_equal}
use Rattle.book.specs.Names.{most_chars, name_char, name_chars}

-- w, which is v, and zeros up to the most characters
module _ (v w : List ℕ) (e : w ≡ v) (l : length v ≤ most_chars) where
  pub sized : length (w ++ drop (length v) (replicate most_chars 0)) ≡ most_chars
  sized = rw e (simp (length-append, length-drop) (omega (arith, length-replicate {A = ℕ} most_chars 0)))

  pub copied : take (length v) (w ++ drop (length v) (replicate most_chars 0)) ≡ v
  copied = rw e (take-append_seam v _)

  pub padded : (k : ℕ) → length v ≤ k → get_or (w ++ drop (length v) (replicate most_chars 0)) k 0 ≡ 0
  padded k m = rw e (get_or-append_right v _ k 0 m ∙ get_or-drop (length v) _ (k - length v) 0 ∙ all_equal most_chars _ 0)

-- a character that a name may have is ASCII
low : (c : ℕ) → name_char c ≡ true → c < 128
low c e = grind (arith, nat_tests)

pub name_ascii : (v : List ℕ) → name_chars v ≡ true → IsAscii v
name_ascii [] e i = lit< tt
name_ascii (c ∷ v) e zero = low c (and_parts (name_char c) (name_chars v) e).0
name_ascii (c ∷ v) e (suc i) = name_ascii v (and_parts (name_char c) (name_chars v) e).1 i
