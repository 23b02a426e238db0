-- Numbers in decimal, as code reads them.
use Rattle.std.proofs.Common.{◌≡◌, ℕ, ◌+◌, ◌-◌, ◌*◌, ◌<◌, ◌≤◌, leb, [], ◌∷◌, length, get_or, drop, sym, refl, ap, ◌∙◌, arith}
use Rattle.std.proofs.lemmas.Bool.{and_right, cond-false}
use Rattle.std.proofs.lemmas.List.{at_drop_more, at_drop_all}
use Rattle.format.specs.declared.Fault.TheVariants.{Value}
use Rattle.format.specs.Bytes.{Bytes, decimal, worth}
use Rattle.format.specs.Reader.{wrong}
use Rattle.format.specs.Values.{number}
use Rattle.format.proofs.Comparing.{other_length}
use Rattle.format.proofs.Plain.{length_decimal}

pub worth_more : (v : Bytes) (n i d : ℕ) → i < length v → d ≡ get_or v i 0 - 48 → worth n (drop i v) ≡ worth 0 v → worth (n * 10 + d) (drop (i + 1) v) ≡ worth 0 v
worth_more v n i d l e h = ap (λ (k : ℕ). worth (n * 10 + k) (drop (i + 1) v)) e ∙ sym (at_drop_more (worth n) v i 0 l) ∙ h

pub worth_all : (v : Bytes) (n i : ℕ) → length v ≤ i → worth n (drop i v) ≡ worth 0 v → worth 0 v ≡ n
worth_all v n i l h = sym h ∙ at_drop_all (worth n) v i l

-- more digits are worth no less
worth_grows : (n : ℕ) (v : Bytes) → n ≤ worth n v
worth_grows n [] = omega arith
worth_grows n (b ∷ v) = omega (arith, worth_grows (n * 10 + (b - 48)) v)

-- digits up to place i are worth too much already
pub worth_over : (v : Bytes) (n i : ℕ) → i < length v → worth n (drop i v) ≡ worth 0 v → 255 < n * 10 + (get_or v i 0 - 48) → 255 < worth 0 v
worth_over v n i l h g =
    omega (arith, worth_more v n i (get_or v i 0 - 48) l refl h, worth_grows (n * 10 + (get_or v i 0 - 48)) (drop (i + 1) v))

-- no number has more than three digits
pub refuse_long : (low high : ℕ) (v : Bytes) → 3 < length v → number low high v ≡ wrong Value
refuse_long low high v l =
    cond-false _ _ _
    (and_right (leb low (worth 0 v)) _
    (and_right (leb (worth 0 v) high) _ (other_length (decimal (worth 0 v)) v (λ e. let b = length_decimal (worth 0 v) in omega arith))))
