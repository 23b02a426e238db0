-- The theorems: reading accepts exactly the texts of books with a latch, so that each such book has exactly one text. The same of errands.
--   Exact           a text is accepted exactly when it is the text of a book; what is read is that book; its text is within the limit
--   OneText         contents have one text, and a text one contents
--   ExactErrands    the same as Exact, of errands
use Rattle.std.specs.Prelude.{◌≡◌, ◌≤◌, length}
use Rattle.format.specs.Bytes.{Bytes}
use Rattle.format.specs.Contents.{Contents, Well, ErrandContents, WellErrand}
use Rattle.format.specs.Written.{book_text, errand_text}
use Rattle.format.specs.Reading.{accepted, most_bytes, read_book, read_errand}

-- what is accepted is the text of a well-formed contents, and such a text is accepted with that contents
pub record Exact : Type 0 where
  pub sound : (t : Bytes) (p : Contents) → read_book t ≡ accepted p → Well p × (t ≡ book_text p)
  pub complete : (t : Bytes) (p : Contents) → Well p → t ≡ book_text p → read_book t ≡ accepted p
  pub short : (p : Contents) → Well p → length (book_text p) ≤ most_bytes

-- two contents with one text are one contents, and two texts of one contents are one text
pub record OneText : Type 0 where
  pub contents : (p q : Contents) → Well p → Well q → book_text p ≡ book_text q → p ≡ q
  pub text : (t u : Bytes) (p : Contents) → read_book t ≡ accepted p → read_book u ≡ accepted p → t ≡ u

-- the same as the first, of errands
pub record ExactErrands : Type 0 where
  pub sound : (t : Bytes) (e : ErrandContents) → read_errand t ≡ accepted e → WellErrand e × (t ≡ errand_text e)
  pub complete : (t : Bytes) (e : ErrandContents) → WellErrand e → t ≡ errand_text e → read_errand t ≡ accepted e
  pub short : (e : ErrandContents) → WellErrand e → length (errand_text e) ≤ most_bytes
