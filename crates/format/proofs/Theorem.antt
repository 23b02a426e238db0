-- The theorem from its parts: sound, complete, short.
use Rattle.std.proofs.Common.{◌≡◌, sym, ap, ◌∙◌}
use Rattle.format.specs.Contents.{Contents, Well}
use Rattle.format.specs.Written.{book_lines, book_text, errand_lines}
use Rattle.format.specs.Reading.{Reading, accepted, declined, book, errand, read_book, read_errand}
use Rattle.format.specs.Exactness.{Exact, OneText, ExactErrands}
use Rattle.format.proofs.Soundness.{book_sound, errand_sound}
use Rattle.format.proofs.Completeness.{book_gets, errand_gets, whole_gets}
use Rattle.format.proofs.Shortness.{book_short, errand_short}

pub book_complete : (p : Contents) → Well p → read_book (book_text p) ≡ accepted p
book_complete p w = whole_gets book p (book_lines p) (book_gets p w) (book_short p w)

pub exact : Exact
exact = record {
  sound = book_sound;
  complete = λ t p w e. ap read_book e ∙ book_complete p w;
  short = book_short;
}

pub accepted_same : {A : Type 0} (a b : A) → accepted a ≡ accepted b → a ≡ b
accepted_same {A} a b h = let of : Reading A → A = elim [ accepted x ↦ x | declined k n ↦ a ] in ap of h

pub one_text : OneText
one_text = record {
  contents = λ p q v w e. accepted_same p q (sym (book_complete p v) ∙ ap read_book e ∙ book_complete q w);
  text = λ t u p h k. (book_sound t p h).1 ∙ sym (book_sound u p k).1;
}

pub exact_errands : ExactErrands
exact_errands = record {
  sound = errand_sound;
  complete = λ t x w e. ap read_errand e ∙ whole_gets errand x (errand_lines x) (errand_gets x w) (errand_short x w);
  short = errand_short;
}
