-- The texts of books and errands as they are kept. Assumes nothing.
--   text_of b           the text of the book b
--   errand_text_of e    the text of the errand e
--   HasOneText b        b has a text, within the limit, and no other text; no other book with a latch has it
use Rattle.std.specs.Prelude.{◌≡◌, ◌≤◌, length}
use Rattle.book.specs.declared.book.Book.{Book}
use Rattle.book.specs.declared.errand.Errand.{Errand}
use Rattle.format.specs.Bytes.{Bytes}
use Rattle.format.specs.Reading.{accepted, most_bytes, read_book}
use Rattle.format.specs.Said.{contents_of, errand_contents_of}
use Rattle.format.specs.Written.{book_text, errand_text}

-- the text of a book
abbrev pub text_of : Book → Bytes
text_of b = book_text (contents_of b)

-- the text of an errand
abbrev pub errand_text_of : Errand → Bytes
errand_text_of e = errand_text (errand_contents_of e)

-- the book is read from its text and from no other, the text is within the limit, and no other book with a latch has it
pub record HasOneText (b : Book) : Type 0 where
  pub short : length (text_of b) ≤ most_bytes
  pub read : read_book (text_of b) ≡ accepted (contents_of b)
  pub only : (t : Bytes) → read_book t ≡ accepted (contents_of b) → t ≡ text_of b
  pub alone : (a : Book) → 1 ≤ a.latches → text_of a ≡ text_of b → a ≡ b
