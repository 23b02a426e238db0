-- What an answer says of the text, from the theorem of the format.
use Rattle.std.proofs.Common.{◌≡◌, ◌≤◌, IfOk, Ok, Err, Result, sym, ap, ◌∙◌}
use Rattle.book.specs.declared.book.Book.{Book}
use Rattle.book.specs.declared.errand.Errand.{Errand}
use Rattle.format.specs.declared.TextRefusal.{TextRefusal}
use Rattle.format.specs.Bytes.{Bytes}
use Rattle.format.specs.Reading.{Reading, accepted, read_book, read_errand}
use Rattle.format.specs.Said.{contents_of, errand_contents_of, reading_of}
use Rattle.format.specs.Texts.{text_of, errand_text_of, HasOneText}
use Rattle.format.proofs.BookSaid.{contents_well, has_latch, errand_well}
use Rattle.format.proofs.BookTold.{contents_tell, errand_contents_tell}
use Rattle.format.proofs.Shortness.{book_short}
use Rattle.format.proofs.Soundness.{declined≢accepted}
use Rattle.format.proofs.Theorem.{book_complete, exact, exact_errands, one_text, accepted_same}

-- where the text is accepted, the answer is the value that stands for what was read
module _ {X A : Type 0} (f : X → A) (tell : (x y : X) → f x ≡ f y → x ≡ y) (o : Reading A) where
  answer_is : (r : Result X TextRefusal) (x : X) → reading_of f r ≡ o → o ≡ accepted (f x) → r ≡ Ok x
  answer_is (Ok y) x h e = ap Ok (tell y x (accepted_same (f y) (f x) (h ∙ e)))
  answer_is (Err k) x h e = absurd (declined≢accepted (h ∙ e))

pub book_says : (t : Bytes) (r : Result Book TextRefusal) → reading_of contents_of r ≡ read_book t → IfOk r (λ b. (1 ≤ b.latches) × (t ≡ text_of b))
book_says t (Ok b) h = let s = exact.sound t (contents_of b) (sym h) in (has_latch b s.0, s.1)
book_says t (Err e) h = tt

pub book_finds : (t : Bytes) (r : Result Book TextRefusal) → reading_of contents_of r ≡ read_book t → (b : Book) → 1 ≤ b.latches → t ≡ text_of b → r ≡ Ok b
book_finds t r h b l e = answer_is contents_of contents_tell (read_book t) r b h (exact.complete t (contents_of b) (contents_well b l) e)

pub errand_says : (t : Bytes) (r : Result Errand TextRefusal) → reading_of errand_contents_of r ≡ read_errand t
    → IfOk r (λ e. (1 ≤ e.book.latches) × (t ≡ errand_text_of e))
errand_says t (Ok e) h = let s = exact_errands.sound t (errand_contents_of e) (sym h) in (has_latch e.book s.0.book, s.1)
errand_says t (Err k) h = tt

pub errand_finds : (t : Bytes) (r : Result Errand TextRefusal) → reading_of errand_contents_of r ≡ read_errand t
    → (e : Errand) → 1 ≤ e.book.latches → t ≡ errand_text_of e → r ≡ Ok e
errand_finds t r h e l q = answer_is errand_contents_of errand_contents_tell (read_errand t) r e h (exact_errands.complete t (errand_contents_of e) (errand_well e l) q)

pub has_one_text : (b : Book) → 1 ≤ b.latches → HasOneText b
has_one_text b l =
    let w = contents_well b l in
    record {
      short = book_short (contents_of b) w;
      read = book_complete (contents_of b) w;
      only = λ t h. (exact.sound t (contents_of b) h).1;
      alone = λ a k e. contents_tell a b (one_text.contents (contents_of a) (contents_of b) (contents_well a k) w e);
    }
